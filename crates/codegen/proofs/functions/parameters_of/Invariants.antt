use Rattle.std.proofs.Common.{◌≡◌, take}
use Rattle.c_model.specs.Statements.{parameters_of}
use Rattle.codegen.proofs.functions.parameters_of.Given as goal

abbrev pub invariant-loop-parameter : goal.invariant-loop-parameter
invariant-loop-parameter l = l.made ≡ parameters_of (take l.parameter-index l.parameters)
