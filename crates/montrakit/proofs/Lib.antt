mod Fitting
mod Results
mod Determined
mod Left
pub mod Laws
pub mod Contracts
mod Witnesses
