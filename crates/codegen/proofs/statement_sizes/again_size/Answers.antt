use Rattle.std.proofs.Common.{refl, arith}
use Rattle.codegen.specs.Sizes.{again_size}
use Rattle.codegen.proofs.Sizing.{cut_more, cut_is}
use Rattle.codegen.proofs.StatementSizing.{size_at}
use Rattle.codegen.proofs.statement_sizes.again_size.Goals as goal

pub returns-in-None : goal.returns-in-None
returns-in-None c = size_at again_size _ _ _ c.in-None.is refl

pub returns-in-Some : goal.returns-in-Some
returns-in-Some c = size_at again_size _ _ _ c.in-Some.is (cut_is _ _ _ (cut_more _ _ _ 3 c.expr_size.ensures c.saturating_add.ensures) (omega arith))
