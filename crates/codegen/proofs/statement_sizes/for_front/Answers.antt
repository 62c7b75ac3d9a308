use Rattle.codegen.proofs.StatementSizing.{for_front_is}
use Rattle.codegen.proofs.statement_sizes.for_front.Goals as goal

pub returns : goal.returns
returns c =
    for_front_is _ _ _ _ _ _ _ _ _ c.all_declared_size.ensures c.with_one.ensures c.with_one-2.ensures c.saturating_add.ensures c.saturating_add-2.ensures c.saturating_add-3.ensures
