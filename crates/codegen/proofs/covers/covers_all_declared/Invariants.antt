use Rattle.std.proofs.Common.{◌≡◌, take, map}
use Rattle.codegen.specs.Covered.{all_true}
use Rattle.codegen.proofs.Covering.{declared_covered}
use Rattle.codegen.proofs.covers.covers_all_declared.Given as goal

abbrev pub invariant-loop-declared : goal.invariant-loop-declared
invariant-loop-declared l = l.covered ≡ all_true (map (declared_covered l.functions) (take l.declared-index l.all))
