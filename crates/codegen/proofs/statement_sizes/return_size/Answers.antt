use Rattle.std.proofs.Common.{refl}
use Rattle.codegen.specs.Sizes.{return_size}
use Rattle.codegen.proofs.StatementSizing.{size_at}
use Rattle.codegen.proofs.statement_sizes.return_size.Goals as goal

pub returns-in-None : goal.returns-in-None
returns-in-None c = size_at return_size _ _ _ c.in-None.is refl

pub returns-in-Some : goal.returns-in-Some
returns-in-Some c = size_at return_size _ _ _ c.in-Some.is c.expr_size.ensures
