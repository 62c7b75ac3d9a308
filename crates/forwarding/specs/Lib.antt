pub mod Routes
pub mod Waiting
