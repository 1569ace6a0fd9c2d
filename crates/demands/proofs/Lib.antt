mod UpFrom
mod FirstLine
mod Left
mod Accepted
mod Decidable
mod Conditions
mod SomeOutcome
mod Packable
mod Storable
mod Answerable
mod Showing
mod Setting
mod Framing
mod Depending
mod TwoStarts
mod SameLines
mod JBus
mod OneHigher
mod Damaged
pub mod Demands
mod Contracts
mod Rebuilt
mod Sufficing
pub mod Laws
mod Bench
mod Image
pub mod Witnesses
pub mod Duds
pub mod Slips
