-- How many instructions the code of each construct has.
use Rattle.std.specs.Prelude.{ℕ, ◌+◌, List, [], ◌∷◌, Option, None, Some}
use Rattle.c_types.specs.declared.expression.Operand.TheOpen.{Operand-F, Step-F, Expr-F}
use Rattle.c_types.specs.declared.expression.Operand.{Operand, fold-Operand}
use Rattle.c_types.specs.declared.expression.Step.{Step, fold-Step}
use Rattle.c_types.specs.declared.expression.Expr.{Expr, fold-Expr}
use Rattle.c_types.specs.declared.expression.Given.{Given}
use Rattle.c_types.specs.declared.expression.Given.TheVariants.{New, Old}
use Rattle.c_types.specs.declared.expression.FullExpr.{FullExpr}
use Rattle.c_types.specs.declared.statement.Declared.{Declared}
use Rattle.c_types.specs.declared.statement.Span.{Span}
use Rattle.c_types.specs.declared.statement.Store.{Store}
use Rattle.c_types.specs.declared.statement.Case.{Case}

abbrev pub total : List ℕ → ℕ
total [] = 0
total (n ∷ ns) = n + total ns

abbrev pub operand_size : Operand-F ℕ ℕ ℕ → ℕ
operand_size (Operand-F.Number word) = 1
operand_size (Operand-F.Local offset) = 1
operand_size (Operand-F.Object number) = 1
operand_size (Operand-F.Call function ns) = total ns + 1
operand_size (Operand-F.Library call ns) = total ns + 1
operand_size (Operand-F.Mpi call ns) = total ns + 2

-- `!` is a jump, a number, a jump and a number
abbrev pub not_size : ℕ
not_size = 4

abbrev pub count_size : Given → ℕ
count_size New = 6
count_size Old = 9

abbrev pub step_size : Step-F ℕ ℕ ℕ → ℕ
step_size (Step-F.Load kind) = 1
step_size (Step-F.Convert from to) = 2
step_size (Step-F.Unary op kind) = 1
step_size Step-F.Not = not_size
step_size (Step-F.Member offset) = 2
step_size (Step-F.Binary op kind n) = n + 1
step_size (Step-F.Greater kind n) = n + 1 + not_size
step_size (Step-F.AtLeast kind n) = n + 1 + not_size
step_size (Step-F.Offset by scale n) = n + 3
step_size (Step-F.Difference size n) = n + 3
step_size (Step-F.And n) = 1 + n + 4
step_size (Step-F.Or n) = 1 + n + 4
step_size (Step-F.Conditional n m) = 1 + n + 1 + m
step_size (Step-F.Comma n) = 1 + n
step_size (Step-F.Assign kind n) = n + 1
step_size (Step-F.Copy size n) = n + 1
step_size (Step-F.Update op kind at n) = 4 + n + 4
step_size (Step-F.Advance direction scale n) = 2 + n + 4
step_size (Step-F.Count counted direction given) = count_size given

abbrev pub expr_size_step : Expr-F ℕ ℕ ℕ → ℕ
expr_size_step e = e.first + total e.steps

unfoldable pub operand_sized : Operand → ℕ
operand_sized = fold-Operand ℕ ℕ ℕ operand_size step_size expr_size_step

unfoldable pub step_sized : Step → ℕ
step_sized = fold-Step ℕ ℕ ℕ operand_size step_size expr_size_step

unfoldable pub expr_size : Expr → ℕ
expr_size = fold-Expr ℕ ℕ ℕ operand_size step_size expr_size_step

-- an expression whose value is dropped, and one that may be missing
abbrev pub dropped_size : Option FullExpr → ℕ
dropped_size None = 0
dropped_size (Some e) = expr_size e.expr + 1

abbrev pub test_size : Option FullExpr → ℕ
test_size None = 0
test_size (Some e) = expr_size e.expr + 1

-- the step of a `for`, with the tick point that is jumped over
abbrev pub again_size : Option FullExpr → ℕ
again_size None = 0
again_size (Some e) = 2 + expr_size e.expr + 1

abbrev pub zeros_size : Option Span → ℕ
zeros_size None = 0
zeros_size (Some span) = 2

abbrev pub stores_size : List Store → ℕ
stores_size [] = 0
stores_size (s ∷ ss) = 1 + expr_size s.value.expr + 2 + stores_size ss

abbrev pub declared_size : Declared → ℕ
declared_size d = 1 + zeros_size d.zeros + stores_size d.stores

abbrev pub all_declared_size : List Declared → ℕ
all_declared_size [] = 0
all_declared_size (d ∷ ds) = declared_size d + all_declared_size ds

abbrev pub return_size : Option FullExpr → ℕ
return_size None = 1
return_size (Some e) = expr_size e.expr

-- the choice among the cases of a `switch`
abbrev pub cases_size : List Case → ℕ
cases_size [] = 0
cases_size (c ∷ cs) = 6 + cases_size cs
