pub mod Sizes
pub mod Rooms
pub mod Layouts
pub mod Places
pub mod Names
pub mod Tables
pub mod Need
pub mod Segment
