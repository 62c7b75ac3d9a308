use Rattle.codegen.proofs.Covering.{store_covered, all_next, stores_whole}
use Rattle.codegen.proofs.covers.covers_stores.Goals as goal

pub loop-store-preserved : goal.loop-store-preserved
loop-store-preserved c = all_next (store_covered c.args.functions.now) _ _ _ _ _ _ c.loop-store-test.true c.store-item.is c.loop-store.invariant c.covers_expr.ensures c.both-all.ensures

pub returns : goal.returns
returns c = stores_whole c.args.functions.now _ _ _ c.loop-store-test.false c.loop-store.invariant
