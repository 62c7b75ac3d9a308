use Rattle.std.proofs.Common.{◌≡◌, take}
use Rattle.std.specs.List.{flat_map}
use Rattle.c_types.specs.Need.{in_declared}
use Rattle.codegen.specs.Checking.{found_in}
use Rattle.codegen.proofs.check.check_all_declared.Given as goal

abbrev pub invariant-loop-declared : goal.invariant-loop-declared
invariant-loop-declared l = l.first ≡ found_in l.fn.unit l.fn.found (flat_map in_declared (take l.declared-index l.all))
