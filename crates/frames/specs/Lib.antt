pub mod Fields
pub mod Functions
pub mod Limits
pub mod Exceptions
pub mod Laws
