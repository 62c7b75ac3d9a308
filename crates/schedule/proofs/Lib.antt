pub mod AnswerLaws
pub mod EventLaws
pub mod LineLaws
pub mod MadeLaws
pub mod PrintedLaws
pub mod WordLaws
