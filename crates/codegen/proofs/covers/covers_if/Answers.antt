use Rattle.std.proofs.Common.{refl}
use Rattle.codegen.specs.Covered.{covered_if}
use Rattle.codegen.proofs.Covering.{same_test}
use Rattle.codegen.proofs.covers.covers_if.Goals as goal

pub returns-in-None : goal.returns-in-None
returns-in-None c = same_test (covered_if c.args.functions.now) _ _ _ _ c.in-None.is refl refl

pub returns-in-Some : goal.returns-in-Some
returns-in-Some c = same_test (covered_if c.args.functions.now) _ _ _ _ c.in-Some.is refl c.covers_expr.ensures
