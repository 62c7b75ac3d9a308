pub mod Fields
pub mod Traps
pub mod Calls
pub mod Headers
pub mod Released
