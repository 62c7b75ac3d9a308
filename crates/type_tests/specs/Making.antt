-- Short words for the parts of a program that is written by hand.
use Rattle.std.specs.Prelude.{ℕ, List, [], ◌∷◌}
use Rattle.rank_range.specs.declared.kinds.Kind.{Kind}
use Rattle.c_types.specs.declared.expression.Expr.{Expr}
use Rattle.c_types.specs.declared.expression.Operand.TheViews.{roll-Expr}
use Rattle.c_types.specs.declared.expression.Operand.{Operand}
use Rattle.type_tests.specs.Operands as operand
use Rattle.c_types.specs.declared.expression.Step.{Step}
use Rattle.type_tests.specs.Steps as step
use Rattle.c_types.specs.declared.expression.FullExpr.{FullExpr}

abbrev pub expr : Operand → List Step → Expr
expr first steps = roll-Expr (record { first = first; steps = steps })

abbrev pub number : ℕ → Expr
number word = expr (operand.Number word) []

-- the address of a local, and its value
abbrev pub address : ℕ → Expr
address offset = expr (operand.Local offset) []

abbrev pub local : Kind → ℕ → Expr
local kind offset = expr (operand.Local offset) (step.Load kind ∷ [])

abbrev pub object : ℕ → Expr
object n = expr (operand.Object n) []

abbrev pub full : ℕ → Expr → FullExpr
full token e = record { token = token; expr = e }
