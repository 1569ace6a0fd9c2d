pub mod Memory
pub mod Packing
pub mod Storing
pub mod Calls
pub mod Pieces
pub mod Laws
