pub mod Bounded
pub mod Memory
pub mod Stops
pub mod Library
pub mod Lines
pub mod Machine
pub mod Listing
pub mod Laws
