mod Accesses
pub mod Listed
pub mod Words
pub mod Chain
mod Across
pub mod Deciding
mod Looking
mod Judging
mod Contracts
pub mod Witnesses
pub mod Laws
