pub mod Copies
pub mod Keepers
