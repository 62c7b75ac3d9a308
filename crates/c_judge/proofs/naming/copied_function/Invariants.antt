use Rattle.std.proofs.Common.{◌≡◌, take}
use Rattle.c_judge.proofs.naming.copied_function.Given as goal

abbrev pub invariant-loop-parameter : goal.invariant-loop-parameter
invariant-loop-parameter l = l.parameters ≡ take l.parameter-index l.of.parameters
