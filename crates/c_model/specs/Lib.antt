pub mod Outcome
pub mod Calls
pub mod Run
pub mod Statements
pub mod Means
pub mod Plain
pub mod Laws
