pub mod Places
pub mod Learnings
