pub mod World
pub mod Steps
pub mod Stands
pub mod Laws
