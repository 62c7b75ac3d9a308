use Rattle.privatise.proofs.SecondLemmas.{FunctionsSoFar}
use Rattle.privatise.proofs.definitions.of_functions.Given as goal

abbrev pub invariant-loop-definition : goal.invariant-loop-definition
invariant-loop-definition l = FunctionsSoFar l.program.defined l.definition-index l.definitions
