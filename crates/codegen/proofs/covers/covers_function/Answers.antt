use Rattle.std.proofs.Common.{refl, map}
use Rattle.codegen.specs.Covered.{all_true, stmt_covered, body_covered}
use Rattle.codegen.proofs.Covering.{same_test, test_at}
use Rattle.codegen.proofs.covers.covers_function.Goals as goal

pub returns-in-None : goal.returns-in-None
returns-in-None c = same_test (body_covered c.args.functions.now) _ _ _ _ c.in-None.is refl refl

pub returns-in-Some : goal.returns-in-Some
returns-in-Some c =
    same_test (body_covered c.args.functions.now) _ _ _ _ c.in-Some.is refl
    (test_at (λ ss. all_true (map (stmt_covered c.args.functions.now) ss)) _ _ _ c.as_slice.ensures c.covers_stmts.ensures)
