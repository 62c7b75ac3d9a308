mod StmtTrees
mod Turns
