mod ExprTrees
mod TypeTrees
mod Turns
mod TypeSteps
mod Pointers
