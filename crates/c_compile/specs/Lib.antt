pub mod Causes
pub mod Lines
pub mod Known
pub mod Texts
pub mod Programs
pub mod Once
