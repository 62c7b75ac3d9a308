pub mod DeclaratorSteps
pub mod ExprSteps
pub mod SpecsSteps
pub mod StmtSteps
