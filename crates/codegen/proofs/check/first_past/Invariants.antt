use Rattle.std.proofs.Common.{◌≡◌, take}
use Rattle.std.specs.Prelude.{None}
use Rattle.codegen.specs.Checking.{found_in_all}
use Rattle.codegen.proofs.check.first_past.Given as goal

abbrev pub invariant-loop-function : goal.invariant-loop-function
invariant-loop-function l = l.first ≡ found_in_all None (take l.function-index l.functions)
