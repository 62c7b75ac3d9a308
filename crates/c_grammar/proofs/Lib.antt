pub mod DeclaratorFound
pub mod DeclaratorRuns
pub mod Extends
pub mod Late
pub mod Laws
pub mod ScopeLaws
pub mod SpecsTypes
