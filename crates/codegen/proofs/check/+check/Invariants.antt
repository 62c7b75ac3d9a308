use Rattle.std.proofs.Common.{◌≡◌, take}
use Rattle.std.specs.List.{flat_map}
use Rattle.c_types.specs.Need.{pending_of}
use Rattle.codegen.specs.Checking.{found_in}
use Rattle.codegen.proofs.check.+check.Given as goal

abbrev pub invariant-check_stmts-loop-stmt : goal.invariant-check_stmts-loop-stmt
invariant-check_stmts-loop-stmt l = l.first ≡ found_in l.unit l.fn.found (flat_map pending_of (take l.stmt-index l.stmts))
