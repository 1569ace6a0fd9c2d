pub mod Hex
pub mod Lines
pub mod Outcomes
pub mod Laws
pub mod Examples
pub mod Places
