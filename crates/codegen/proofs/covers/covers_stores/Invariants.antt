use Rattle.std.proofs.Common.{◌≡◌, take, map}
use Rattle.codegen.specs.Covered.{all_true}
use Rattle.codegen.proofs.Covering.{store_covered}
use Rattle.codegen.proofs.covers.covers_stores.Given as goal

abbrev pub invariant-loop-store : goal.invariant-loop-store
invariant-loop-store l = l.all ≡ all_true (map (store_covered l.functions) (take l.store-index l.stores))
