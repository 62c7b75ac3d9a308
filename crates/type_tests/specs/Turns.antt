-- int main(void) {
--   int i, n = 0;
--   for (i = 0; i < 6; i++)
--     switch (i % 4) {
--     case 0: n += 1;
--     case 1: { n += 10; break; }
--     default: n = -n; continue;
--     case 3: n++;
--     }
--   return n / (i - 6);
-- }
use Rattle.std.specs.Prelude.{ℕ, ◌≡◌, List, [], ◌∷◌, Some, None}
use Rattle.std.specs.List.{flat_map}
use Rattle.rank_range.specs.declared.kinds.Kind.TheVariants as kind
use Rattle.rank_range.specs.declared.operators.Binary.TheVariants as op
use Rattle.rank_range.specs.declared.operators.Unary.TheVariants as one
use Rattle.type_tests.specs.Operands as operand
use Rattle.type_tests.specs.Steps as step
use Rattle.c_types.specs.declared.expression.Counted.TheVariants as counted
use Rattle.c_types.specs.declared.expression.Direction.TheVariants as direction
use Rattle.c_types.specs.declared.expression.Given.TheVariants as given
use Rattle.c_types.specs.declared.expression.Expr.{Expr}
use Rattle.c_types.specs.declared.statement.Stmt.{Stmt}
use Rattle.c_types.specs.declared.statement.Stmt.TheOpen.{Stmt-F}
use Rattle.c_types.specs.declared.statement.Stmt.TheViews.{roll-Stmt}
use Rattle.c_types.specs.declared.statement.Stored.TheVariants as stored
use Rattle.type_tests.specs.Making.{expr, number, full}
use Rattle.type_tests.specs.Reading.{needs, lines_of}

-- the frame has i at 0 and n at 4
abbrev pub n_is_0 : Stmt
n_is_0 = roll-Stmt (Stmt-F.Declare (record {
  line = 2;
  zeros = None;
  stores = record { offset = 4; stored = stored.Number kind.Int; value = full 11 (number 0) } ∷ [];
}))

abbrev pub added : ℕ → Expr
added k = expr (operand.Local 4) (step.Update op.Add kind.Int kind.Int (number k) ∷ [])

abbrev pub counted_up : ℕ → Expr
counted_up offset = expr (operand.Local offset) (step.Count (counted.Number kind.Int) direction.Up given.Old ∷ [])

abbrev pub negated : Expr
negated = expr (operand.Local 4)
    (step.Assign kind.Int (expr (operand.Local 4) (step.Load kind.Int ∷ step.Unary one.Negate kind.Int ∷ [])) ∷ [])

abbrev pub labelled : ℕ → Stmt → Stmt
labelled label s = roll-Stmt (Stmt-F.Labelled label s)

abbrev pub block : Stmt
block = roll-Stmt (Stmt-F.Block (
    labelled 0 (roll-Stmt (Stmt-F.Express 5 (full 38 (added 1))))
    ∷ labelled 1 (roll-Stmt (Stmt-F.Block (
    roll-Stmt (Stmt-F.Express 6 (full 46 (added 10))) ∷ roll-Stmt (Stmt-F.Break 6) ∷ [])))
    ∷ labelled 2 (roll-Stmt (Stmt-F.Express 7 (full 55 negated)))
    ∷ roll-Stmt (Stmt-F.Continue 7)
    ∷ labelled 3 (roll-Stmt (Stmt-F.Express 8 (full 65 (counted_up 4))))
    ∷ []))

abbrev pub turned : Stmt
turned = roll-Stmt (Stmt-F.Switch 4
    (full 30 (expr (operand.Local 0) (step.Load kind.Int ∷ step.Binary op.Remainder kind.Int (number 4) ∷ [])))
    (record { value = 0; label = 0 } ∷ record { value = 1; label = 1 } ∷ record { value = 3; label = 3 } ∷ []) (Some 2) block)

abbrev pub turns : Stmt
turns = roll-Stmt (Stmt-F.For 3 []
    (Some (full 15 (expr (operand.Local 0) (step.Assign kind.Int (number 0) ∷ []))))
    (Some (full 19 (expr (operand.Local 0) (step.Load kind.Int ∷ step.Binary op.Less kind.Int (number 6) ∷ []))))
    (Some (full 23 (counted_up 0)))
    turned)

abbrev pub divisor : Expr
divisor = expr (operand.Local 0) (step.Load kind.Int ∷ step.Binary op.Subtract kind.Int (number 6) ∷ [])

abbrev pub quotient : Stmt
quotient = roll-Stmt (Stmt-F.Return 10 (Some (full 70
    (expr (operand.Local 4) (step.Load kind.Int ∷ step.Binary op.Divide kind.Int divisor ∷ [])))))

abbrev pub stmts : List Stmt
stmts = n_is_0 ∷ turns ∷ quotient ∷ []

pub record TurnsRead : Type 0 where
  pub needs_are : needs stmts ≡ 2 ∷ 2 ∷ 2 ∷ 3 ∷ 2 ∷ 3 ∷ 3 ∷ 2 ∷ 3 ∷ 3 ∷ []
  pub lines_are : flat_map lines_of stmts ≡ 2 ∷ 3 ∷ 4 ∷ 5 ∷ 6 ∷ 6 ∷ 7 ∷ 7 ∷ 8 ∷ 10 ∷ []
