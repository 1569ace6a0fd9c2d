pub mod Bench
pub mod Input
pub mod Blocks
pub mod Laws
