pub mod First
pub mod Defined
pub mod Addresses
pub mod Answers
pub mod Fits
