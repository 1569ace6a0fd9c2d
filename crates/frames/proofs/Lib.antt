pub mod Acts
pub mod Codes
mod Contracts
pub mod Laws
