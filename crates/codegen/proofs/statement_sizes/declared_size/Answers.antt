use Rattle.codegen.proofs.StatementSizing.{declared_is}
use Rattle.codegen.proofs.statement_sizes.declared_size.Goals as goal

pub returns : goal.returns
returns c = declared_is c.args.declared.now _ _ _ _ _ c.as_slice.ensures c.stores_size.ensures c.zeros_size.ensures c.saturating_add.ensures c.saturating_add-2.ensures
