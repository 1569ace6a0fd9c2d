mod Fields
mod Answered
mod Reading
mod Sent
mod Understood
pub mod Laws
pub mod Witnesses
mod Contracts
