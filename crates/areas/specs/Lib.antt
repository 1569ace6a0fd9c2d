pub mod Holding
pub mod Rules
pub mod Verdicts
pub mod Calls
pub mod Words
pub mod Laws
pub mod Following
pub mod Search
