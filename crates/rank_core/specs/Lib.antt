pub mod Started
pub mod Arrived
pub mod Turns
pub mod Settled
