pub mod Cases
pub mod Stable
pub mod Lines
mod Run
pub mod Judging
pub mod Accepted
pub mod Reply
mod Acts
mod Reasons
mod Determined
mod Lengths
pub mod Broken
mod Contracts
pub mod Examples
pub mod Laws
