pub mod Printed
pub mod World
pub mod Cut
pub mod Texts
pub mod Drain
pub mod Whole
