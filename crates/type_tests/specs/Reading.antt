-- What is read from a program besides its needs: the lines at which a trap can be told, and the calls, in their order.
use Rattle.std.specs.Prelude.{ℕ, List, [], ◌∷◌, ◌++◌, Option, Some, None, map}
use Rattle.std.specs.List.{flat_map}
use Rattle.am_base.specs.declared.calls.MpiCall.{MpiCall}
use Rattle.am_base.specs.declared.calls.LibCall.{LibCall}
use Rattle.c_types.specs.declared.expression.Operand.{Operand, fold-Operand}
use Rattle.c_types.specs.declared.expression.Operand.TheOpen.{Operand-F, Step-F, Expr-F}
use Rattle.c_types.specs.declared.expression.Step.{Step, fold-Step}
use Rattle.c_types.specs.declared.expression.Expr.{Expr, fold-Expr}
use Rattle.c_types.specs.declared.statement.Stmt.{Stmt, fold-Stmt}
use Rattle.c_types.specs.declared.statement.Stmt.TheOpen.{Stmt-F}
use Rattle.c_types.specs.declared.statement.Declared.{Declared}
use Rattle.c_types.specs.Need.{pending_of}

-- a call, by what is called
pub data Called : Type 0 where
  Own : ℕ → Called
  Lib : LibCall → Called
  Mpi : MpiCall → Called

abbrev pub all : List (List Called) → List Called
all lists = flat_map (λ l. l) lists

abbrev pub operand_step : Operand-F (List Called) (List Called) (List Called) → List Called
operand_step (Operand-F.Number word) = []
operand_step (Operand-F.Local offset) = []
operand_step (Operand-F.Object number) = []
operand_step (Operand-F.Call function cs) = all cs ++ Own function ∷ []
operand_step (Operand-F.Library call cs) = all cs ++ Lib call ∷ []
operand_step (Operand-F.Mpi call cs) = all cs ++ Mpi call ∷ []

abbrev pub step_step : Step-F (List Called) (List Called) (List Called) → List Called
step_step (Step-F.Load kind) = []
step_step (Step-F.Convert from to) = []
step_step (Step-F.Unary op kind) = []
step_step Step-F.Not = []
step_step (Step-F.Member offset) = []
step_step (Step-F.Binary op kind b) = b
step_step (Step-F.Greater kind b) = b
step_step (Step-F.AtLeast kind b) = b
step_step (Step-F.Offset by scale b) = b
step_step (Step-F.Difference size b) = b
step_step (Step-F.And b) = b
step_step (Step-F.Or b) = b
step_step (Step-F.Conditional b c) = b ++ c
step_step (Step-F.Comma b) = b
step_step (Step-F.Assign kind b) = b
step_step (Step-F.Copy size b) = b
step_step (Step-F.Update op kind at b) = b
step_step (Step-F.Advance direction scale b) = b
step_step (Step-F.Count counted direction given) = []

abbrev pub expr_step : Expr-F (List Called) (List Called) (List Called) → List Called
expr_step e = e.first ++ all e.steps

unfoldable pub calls_first : Operand → List Called
calls_first = fold-Operand (List Called) (List Called) (List Called) operand_step step_step expr_step

unfoldable pub calls_behind : Step → List Called
calls_behind = fold-Step (List Called) (List Called) (List Called) operand_step step_step expr_step

unfoldable pub calls_of : Expr → List Called
calls_of = fold-Expr (List Called) (List Called) (List Called) operand_step step_step expr_step

abbrev pub needs : List Stmt → List ℕ
needs ss = map (λ p. p.need) (flat_map pending_of ss)

-- the lines of a statement and of its declarators with initialisers
abbrev pub line_of : Declared → ℕ
line_of d = d.line

abbrev pub lines_if : Option (List ℕ) → List ℕ
lines_if (Some l) = l
lines_if None = []

abbrev pub lines_step : Stmt-F (List ℕ) → List ℕ
lines_step (Stmt-F.Empty line) = line ∷ []
lines_step (Stmt-F.Express line e) = line ∷ []
lines_step (Stmt-F.Declare d) = line_of d ∷ []
lines_step (Stmt-F.Block lists) = flat_map (λ l. l) lists
lines_step (Stmt-F.If line e s t) = line ∷ (s ++ lines_if t)
lines_step (Stmt-F.While line e s) = line ∷ s
lines_step (Stmt-F.Do line s e) = line ∷ s
lines_step (Stmt-F.For line ds start test step s) = line ∷ (map line_of ds ++ s)
lines_step (Stmt-F.Switch line e cases otherwise s) = line ∷ s
lines_step (Stmt-F.Labelled label s) = s
lines_step (Stmt-F.Break line) = line ∷ []
lines_step (Stmt-F.Continue line) = line ∷ []
lines_step (Stmt-F.Return line e) = line ∷ []

unfoldable pub lines_of : Stmt → List ℕ
lines_of = fold-Stmt (List ℕ) lines_step
