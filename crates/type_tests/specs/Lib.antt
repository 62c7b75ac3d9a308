pub mod Operands
pub mod Steps
pub mod Making
pub mod Reading
pub mod Ring
pub mod Copies
pub mod Turns
