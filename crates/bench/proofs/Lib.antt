mod Fits
mod Standing
mod Passing
mod Taking
mod Progressing
mod Contracts
pub mod Laws
