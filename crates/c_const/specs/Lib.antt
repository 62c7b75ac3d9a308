pub mod Constants
pub mod Statics
pub mod Initials
