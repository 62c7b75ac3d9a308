use Rattle.std.proofs.Common.{◌≡◌, take}
use Rattle.std.specs.List.{flat_map}
use Rattle.c_types.specs.Need.{in_store}
use Rattle.codegen.specs.Checking.{found_in}
use Rattle.codegen.proofs.check.check_stores.Given as goal

abbrev pub invariant-loop-store : goal.invariant-loop-store
invariant-loop-store l = l.first ≡ found_in l.fn.unit l.fn.found (flat_map in_store (take l.store-index l.stores))
