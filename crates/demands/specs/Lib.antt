pub mod Terms
pub mod Demands
pub mod Laws
pub mod Bench
pub mod Witnesses
pub mod Duds
pub mod Slips
