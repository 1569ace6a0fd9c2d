mod Numbers
pub mod Lines
mod Body
pub mod Framed
mod Putting
pub mod SpareBits
pub mod Fits
mod Fitting
mod Requests
mod Readings
pub mod Accepting
mod Accepted
mod Damaged
pub mod Laws
pub mod Examples
mod Contracts
