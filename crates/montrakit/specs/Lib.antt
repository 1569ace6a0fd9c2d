pub mod Meanings
pub mod Results
pub mod Responding
pub mod Mastering
pub mod Laws
pub mod Witnesses
pub mod Naming
