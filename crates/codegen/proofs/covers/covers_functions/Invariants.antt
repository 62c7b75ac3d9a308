use Rattle.std.proofs.Common.{◌≡◌, take, map}
use Rattle.codegen.specs.Covered.{all_true, function_covered}
use Rattle.codegen.proofs.covers.covers_functions.Given as goal

abbrev pub invariant-loop-function : goal.invariant-loop-function
invariant-loop-function l = l.all ≡ all_true (map (function_covered l.functions) (take l.function-index l.functions))
