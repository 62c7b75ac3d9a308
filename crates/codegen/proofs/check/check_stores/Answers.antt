use Rattle.c_types.specs.Need.{in_store}
use Rattle.codegen.proofs.Refusing.{found_next, found_whole}
use Rattle.codegen.proofs.check.check_stores.Goals as goal

pub loop-store-preserved : goal.loop-store-preserved
loop-store-preserved c = found_next in_store _ _ _ _ _ _ _ c.loop-store-test.true c.store-item.is c.loop-store.invariant c.check_full-first.ensures

pub returns : goal.returns
returns c = found_whole in_store _ _ _ _ _ c.loop-store-test.false c.loop-store.invariant
