pub mod FormatLemmas
pub mod TextLemmas
pub mod ChangeLemmas
pub mod CallLemmas
pub mod PrintLemmas
