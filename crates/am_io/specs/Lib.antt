pub mod Faults
pub mod Contents
pub mod Pieces
pub mod Memory
pub mod Listed
pub mod Host
