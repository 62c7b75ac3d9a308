pub mod Formats
pub mod Choices
pub mod Lawful
pub mod FormatLaws
pub mod ChoiceLaws
