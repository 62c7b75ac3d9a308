pub mod TextLaws
pub mod ProgramLaws
pub mod KnownLaws
pub mod OnceLaws
