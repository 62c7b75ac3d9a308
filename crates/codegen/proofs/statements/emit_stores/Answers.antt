use Rattle.codegen.specs.Making.{within, store_part}
use Rattle.codegen.proofs.Adding.{adds_none}
use Rattle.codegen.proofs.Emitting.{adds_next}
use Rattle.codegen.proofs.Stating.{stores_add}
use Rattle.codegen.proofs.statements.emit_stores.Goals as goal

pub loop-store-init : goal.loop-store-init
loop-store-init c = adds_none _

pub loop-store-preserved : goal.loop-store-preserved
loop-store-preserved c =
    adds_next _ _ _ (store_part (within c.args.unit c.args.segment.now)) _ _ _ c.loop-store-test.true c.store-item.is c.loop-store.invariant c.in_ok-emit_store.ensures

pub returns : goal.returns
returns c = stores_add (within c.args.unit c.args.segment.now) _ _ _ _ c.loop-store-test.false c.loop-store.invariant
