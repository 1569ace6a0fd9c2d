pub mod Terms
pub mod Laws
pub mod Witnesses
