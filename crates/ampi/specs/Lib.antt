pub mod Status
pub mod Puts
pub mod Runs
pub mod Sources
pub mod Answers
pub mod Yields
