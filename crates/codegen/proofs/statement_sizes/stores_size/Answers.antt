use Rattle.codegen.proofs.Sizing.{cut_more, size_next}
use Rattle.codegen.proofs.StatementSizing.{store_size, stores_all}
use Rattle.codegen.proofs.statement_sizes.stores_size.Goals as goal

pub loop-store-preserved : goal.loop-store-preserved
loop-store-preserved c =
    size_next store_size _ _ _ _ _ _ c.loop-store-test.true c.store-item.is c.loop-store.invariant (cut_more _ _ _ 3 c.expr_size.ensures c.saturating_add.ensures)
    c.saturating_add-size.ensures

pub returns : goal.returns
returns c = stores_all _ _ _ c.loop-store-test.false c.loop-store.invariant
