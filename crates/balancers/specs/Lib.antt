pub mod Loads
pub mod Rotation
pub mod Spreading
pub mod Turns
pub mod Refining
pub mod Steps
