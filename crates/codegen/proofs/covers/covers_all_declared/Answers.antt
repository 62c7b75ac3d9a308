use Rattle.codegen.specs.Covered.{stores_covered}
use Rattle.codegen.proofs.Covering.{declared_covered, test_at, all_next, declared_whole}
use Rattle.codegen.proofs.covers.covers_all_declared.Goals as goal

pub loop-declared-preserved : goal.loop-declared-preserved
loop-declared-preserved c = all_next (declared_covered c.args.functions.now) _ _ _ _ _ _ c.loop-declared-test.true c.declared-item.is c.loop-declared.invariant (test_at (stores_covered c.args.functions.now) _ _ _ c.as_slice.ensures c.covers_stores.ensures) c.both-covered.ensures

pub returns : goal.returns
returns c = declared_whole c.args.functions.now _ _ _ c.loop-declared-test.false c.loop-declared.invariant
