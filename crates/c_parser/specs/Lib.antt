pub mod NestsStmt
