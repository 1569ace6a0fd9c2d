mod Digits
pub mod Spaced
mod Pieces
mod Places
mod Stands
mod Says
pub mod Held
pub mod Behind
pub mod Feed
mod Contracts
pub mod Examples
pub mod Laws
