pub mod Asks
pub mod Words
pub mod steps
