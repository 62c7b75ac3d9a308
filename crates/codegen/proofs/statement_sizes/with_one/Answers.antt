use Rattle.std.proofs.Common.{refl}
use Rattle.codegen.specs.Sizes.{dropped_size}
use Rattle.codegen.proofs.Sizing.{cut_more}
use Rattle.codegen.proofs.StatementSizing.{size_at}
use Rattle.codegen.proofs.statement_sizes.with_one.Goals as goal

pub returns-in-None : goal.returns-in-None
returns-in-None c = size_at dropped_size _ _ _ c.in-None.is refl

pub returns-in-Some : goal.returns-in-Some
returns-in-Some c = size_at dropped_size _ _ _ c.in-Some.is (cut_more _ _ _ 1 c.expr_size.ensures c.saturating_add.ensures)
