pub mod Sizes
pub mod Layout
pub mod Statements
pub mod Covered
pub mod Laws
pub mod Making
pub mod Checking
pub mod Answers
