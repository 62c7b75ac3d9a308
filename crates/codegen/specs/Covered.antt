-- The programs whose code is shown to mean them: each call is of a function with a body.
use Rattle.std.specs.Prelude.{ℕ, is_some, ◌≡◌, ◌≤◌, ◌&&◌, Bool, true, false, List, [], ◌∷◌, length, map, Option, None, Some, slice_get}
use Rattle.c_types.specs.declared.expression.Operand.TheOpen.{Operand-F, Step-F, Expr-F}
use Rattle.c_types.specs.declared.expression.Operand.{Operand, fold-Operand}
use Rattle.c_types.specs.declared.expression.Step.{Step, fold-Step}
use Rattle.c_types.specs.declared.expression.Expr.{Expr, fold-Expr}
use Rattle.c_types.specs.declared.expression.FullExpr.{FullExpr}
use Rattle.c_types.specs.declared.statement.Stmt.{Stmt, fold-Stmt}
use Rattle.c_types.specs.declared.statement.Stmt.TheOpen.{Stmt-F}
use Rattle.c_types.specs.declared.statement.Declared.{Declared}
use Rattle.c_types.specs.declared.statement.Store.{Store}
use Rattle.c_types.specs.declared.program.Program.{Program}
use Rattle.c_types.specs.declared.program.Main.{Main}
use Rattle.c_types.specs.declared.program.Body.{Body}
use Rattle.c_types.specs.declared.program.Function.{Function}

-- whether all are
abbrev pub all_true : List Bool → Bool
all_true [] = true
all_true (b ∷ bs) = b && all_true bs

-- whether a function of that number has a body
abbrev pub is_defined : Option Function → Bool
is_defined None = false
is_defined (Some function) = is_some function.body

abbrev pub has_body : List Function → ℕ → Bool
has_body fs number = is_defined (slice_get fs number)

abbrev pub operand_covered : List Function → Operand-F Bool Bool Bool → Bool
operand_covered fs (Operand-F.Number word) = true
operand_covered fs (Operand-F.Local offset) = true
operand_covered fs (Operand-F.Object number) = true
operand_covered fs (Operand-F.Call function bs) = has_body fs function && all_true bs
operand_covered fs (Operand-F.Library call bs) = all_true bs
operand_covered fs (Operand-F.Mpi call bs) = all_true bs

abbrev pub step_covered : Step-F Bool Bool Bool → Bool
step_covered (Step-F.Load kind) = true
step_covered (Step-F.Convert from to) = true
step_covered (Step-F.Unary op kind) = true
step_covered Step-F.Not = true
step_covered (Step-F.Member offset) = true
step_covered (Step-F.Binary op kind b) = b
step_covered (Step-F.Greater kind b) = b
step_covered (Step-F.AtLeast kind b) = b
step_covered (Step-F.Offset by scale b) = b
step_covered (Step-F.Difference size b) = b
step_covered (Step-F.And b) = b
step_covered (Step-F.Or b) = b
step_covered (Step-F.Conditional b c) = b && c
step_covered (Step-F.Comma b) = b
step_covered (Step-F.Assign kind b) = b
step_covered (Step-F.Copy size b) = b
step_covered (Step-F.Update op kind at b) = b
step_covered (Step-F.Advance direction scale b) = b
step_covered (Step-F.Count counted direction given) = true

abbrev pub expr_covered_step : Expr-F Bool Bool Bool → Bool
expr_covered_step e = e.first && all_true e.steps

-- the same of operands and steps
unfoldable pub operand_is_covered : List Function → Operand → Bool
operand_is_covered fs = fold-Operand Bool Bool Bool (operand_covered fs) step_covered expr_covered_step

unfoldable pub step_is_covered : List Function → Step → Bool
step_is_covered fs = fold-Step Bool Bool Bool (operand_covered fs) step_covered expr_covered_step

-- whether an expression calls functions with bodies alone
unfoldable pub expr_covered : List Function → Expr → Bool
expr_covered fs = fold-Expr Bool Bool Bool (operand_covered fs) step_covered expr_covered_step

abbrev pub covered_if : List Function → Option FullExpr → Bool
covered_if fs None = true
covered_if fs (Some e) = expr_covered fs e.expr

abbrev pub stores_covered : List Function → List Store → Bool
stores_covered fs [] = true
stores_covered fs (s ∷ ss) = expr_covered fs s.value.expr && stores_covered fs ss

abbrev pub all_declared_covered : List Function → List Declared → Bool
all_declared_covered fs [] = true
all_declared_covered fs (d ∷ ds) = stores_covered fs d.stores && all_declared_covered fs ds

-- a `for` begins with declarators or with an expression
abbrev pub begins_once : List Declared → Option FullExpr → Bool
begins_once [] start = true
begins_once (d ∷ ds) None = true
begins_once (d ∷ ds) (Some e) = false

abbrev pub true_if : Option Bool → Bool
true_if None = true
true_if (Some b) = b

abbrev pub stmt_covered_step : List Function → Stmt-F Bool → Bool
stmt_covered_step fs (Stmt-F.Empty line) = true
stmt_covered_step fs (Stmt-F.Express line e) = expr_covered fs e.expr
stmt_covered_step fs (Stmt-F.Declare d) = stores_covered fs d.stores
stmt_covered_step fs (Stmt-F.Block bs) = all_true bs
stmt_covered_step fs (Stmt-F.If line e b otherwise) = expr_covered fs e.expr && (b && true_if otherwise)
stmt_covered_step fs (Stmt-F.While line e b) = expr_covered fs e.expr && b
stmt_covered_step fs (Stmt-F.Do line b e) = expr_covered fs e.expr && b
stmt_covered_step fs (Stmt-F.For line ds start test step b) =
    begins_once ds start && (all_declared_covered fs ds && (covered_if fs start && (covered_if fs test && (covered_if fs step && b))))
stmt_covered_step fs (Stmt-F.Switch line e cases default b) = expr_covered fs e.expr && b
stmt_covered_step fs (Stmt-F.Labelled label b) = b
stmt_covered_step fs (Stmt-F.Break line) = true
stmt_covered_step fs (Stmt-F.Continue line) = true
stmt_covered_step fs (Stmt-F.Return line e) = covered_if fs e

unfoldable pub stmt_covered : List Function → Stmt → Bool
stmt_covered fs = fold-Stmt Bool (stmt_covered_step fs)

-- whether all statements of a function are covered, where it has a body
abbrev pub body_covered : List Function → Option Body → Bool
body_covered fs None = true
body_covered fs (Some body) = all_true (map (stmt_covered fs) body.stmts)

abbrev pub function_covered : List Function → Function → Bool
function_covered fs function = body_covered fs function.body

-- a body with at most the two parameters that `main` may have
pub record IsMainBody (o : Option Body) : Type 0 where
  pub body : Body
  pub body_is : o ≡ Some body
  pub few : length body.parameters ≤ 2

-- `main` is defined, with at most the two parameters that it may have, and the statements of all functions are covered.
pub record IsCovered (program : Program) (main : Main) : Type 0 where
  pub function : Function
  pub function_is : slice_get program.functions main.function ≡ Some function
  pub main_body : IsMainBody function.body
  pub covered : all_true (map (function_covered program.functions) program.functions) ≡ true
