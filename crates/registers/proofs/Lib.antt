mod Places
pub mod Bit
mod Numbers
pub mod Shows
pub mod Merge
pub mod Stored
pub mod Packed
mod Filled
mod Determined
mod Words
mod Contracts
pub mod Witnesses
pub mod Laws
