pub mod Job
pub mod Rank
pub mod Group
pub mod Told
