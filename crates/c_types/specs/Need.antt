-- How many values are pending at once in an expression, its need, and the first full expression that needs too many. It is
-- this profile's own.
use Rattle.std.specs.Prelude.{ℕ, ◌≡◌, ◌+◌, ◌<◌, max, List, [], ◌∷◌, ◌++◌, Option, Some, None}
use Rattle.std.specs.List.{flat_map, Contains}
use Rattle.c_types.specs.declared.expression.Operand.{Operand, fold-Operand}
use Rattle.c_types.specs.declared.expression.Operand.TheOpen.{Operand-F, Step-F, Expr-F}
use Rattle.c_types.specs.declared.expression.Step.{Step, fold-Step}
use Rattle.c_types.specs.declared.expression.Expr.{Expr, fold-Expr}
use Rattle.c_types.specs.declared.expression.Counted.{Counted}
use Rattle.c_types.specs.declared.expression.Counted.TheVariants as counted
use Rattle.c_types.specs.declared.expression.FullExpr.{FullExpr}
use Rattle.c_types.specs.declared.statement.Stmt.{Stmt, fold-Stmt}
use Rattle.c_types.specs.declared.statement.Stmt.TheOpen.{Stmt-F}
use Rattle.c_types.specs.declared.statement.Declared.{Declared}
use Rattle.c_types.specs.declared.statement.Store.{Store}
use Rattle.c_types.specs.declared.program.Program.{Program}
use Rattle.c_types.specs.declared.program.Function.{Function}
use Rattle.c_types.specs.declared.program.Body.{Body}
use Rattle.c_types.specs.declared.program.TokenAt.{TokenAt}
use Rattle.c_types.specs.Places.{IsNotBehind}

-- what the arguments of a call need, where so many are pending already
abbrev pub in_arguments : ℕ → List ℕ → ℕ
in_arguments before [] = 0
in_arguments before (n ∷ ns) = max (before + n) (in_arguments (before + 1) ns)

abbrev pub in_call : List ℕ → ℕ
in_call ns = max 1 (in_arguments 0 ns)

abbrev pub operand_step : Operand-F ℕ (ℕ → ℕ) ℕ → ℕ
operand_step (Operand-F.Number word) = 1
operand_step (Operand-F.Local offset) = 1
operand_step (Operand-F.Object number) = 1
operand_step (Operand-F.Call function ns) = in_call ns
operand_step (Operand-F.Library call ns) = in_call ns
operand_step (Operand-F.Mpi call ns) = in_call ns

-- The need of `a` and `b`, where the value of `a` is pending while `b` is evaluated.
abbrev pub one_above : ℕ → ℕ → ℕ
one_above a b = max a (1 + b)

-- The same where the address of `a` and what stands there are pending.
abbrev pub two_above : ℕ → ℕ → ℕ
two_above a b = max a (2 + b)

-- `++` and `--` need as much as `+= 1` and `-= 1`.
abbrev pub in_count : Counted → ℕ → ℕ
in_count (counted.Number kind) a = two_above a 1
in_count (counted.Pointer scale) a = max 4 (two_above a 1)

-- the need of a value and of the step behind it, by that of the value
abbrev pub step_step : Step-F ℕ (ℕ → ℕ) ℕ → ℕ → ℕ
step_step (Step-F.Load kind) a = a
step_step (Step-F.Convert from to) a = a
step_step (Step-F.Unary op kind) a = a
step_step Step-F.Not a = a
step_step (Step-F.Member offset) a = max 2 a
step_step (Step-F.Binary op kind b) a = one_above a b
step_step (Step-F.Greater kind b) a = one_above a b
step_step (Step-F.AtLeast kind b) a = one_above a b
step_step (Step-F.Offset by scale b) a = max 3 (one_above a b)
step_step (Step-F.Difference size b) a = max 3 (one_above a b)
step_step (Step-F.And b) a = max a b
step_step (Step-F.Or b) a = max a b
step_step (Step-F.Conditional b c) a = max a (max b c)
step_step (Step-F.Comma b) a = max a b
step_step (Step-F.Assign kind b) a = one_above a b
step_step (Step-F.Copy size b) a = one_above a b
step_step (Step-F.Update op kind at b) a = two_above a b
step_step (Step-F.Advance direction scale b) a = max 4 (two_above a b)
step_step (Step-F.Count counted direction given) a = in_count counted a

-- the steps one behind the other
abbrev pub behind_all : ℕ → List (ℕ → ℕ) → ℕ
behind_all a [] = a
behind_all a (s ∷ ss) = behind_all (s a) ss

abbrev pub expr_step : Expr-F ℕ (ℕ → ℕ) ℕ → ℕ
expr_step e = behind_all e.first e.steps

unfoldable pub need_first : Operand → ℕ
need_first = fold-Operand ℕ (ℕ → ℕ) ℕ operand_step step_step expr_step

unfoldable pub need_behind : Step → ℕ → ℕ
need_behind = fold-Step ℕ (ℕ → ℕ) ℕ operand_step step_step expr_step

unfoldable pub need_of : Expr → ℕ
need_of = fold-Expr ℕ (ℕ → ℕ) ℕ operand_step step_step expr_step

-- how many values may be pending
abbrev pub pending_limit : ℕ
pending_limit = 32

-- A full expression, by its first token and by how many values are pending in it.
pub record Pending : Type 0 where
  pub token : ℕ
  pub need : ℕ

-- the full expression, below whose value so many others are pending
abbrev pub pending : ℕ → FullExpr → List Pending
pending below e = record { token = e.token; need = below + need_of e.expr } ∷ []

abbrev pub pending_if : Option FullExpr → List Pending
pending_if (Some e) = pending 0 e
pending_if None = []

-- Below a value of an initialiser its address is pending.
abbrev pub in_store : Store → List Pending
in_store s = pending 1 s.value

abbrev pub in_declared : Declared → List Pending
in_declared d = flat_map in_store d.stores

abbrev pub joined : List (List Pending) → List Pending
joined lists = flat_map (λ l. l) lists

abbrev pub joined_if : Option (List Pending) → List Pending
joined_if (Some l) = l
joined_if None = []

-- the full expressions of a statement
abbrev pub pending_step : Stmt-F (List Pending) → List Pending
pending_step (Stmt-F.Empty line) = []
pending_step (Stmt-F.Express line e) = pending 0 e
pending_step (Stmt-F.Declare d) = in_declared d
pending_step (Stmt-F.Block lists) = joined lists
pending_step (Stmt-F.If line e s t) = pending 0 e ++ s ++ joined_if t
pending_step (Stmt-F.While line e s) = pending 0 e ++ s
pending_step (Stmt-F.Do line s e) = s ++ pending 0 e
pending_step (Stmt-F.For line ds start test step s) =
    flat_map in_declared ds ++ pending_if start ++ pending_if test ++ pending_if step ++ s
pending_step (Stmt-F.Switch line e cases otherwise s) = pending 0 e ++ s
pending_step (Stmt-F.Labelled label s) = s
pending_step (Stmt-F.Break line) = []
pending_step (Stmt-F.Continue line) = []
pending_step (Stmt-F.Return line e) = pending_if e

unfoldable pub pending_of : Stmt → List Pending
pending_of = fold-Stmt (List Pending) pending_step

-- The token begins a full expression of the program that needs more values than may be pending.
pub record IsPastLimit (program : Program) (at : TokenAt) : Type 0 where
  pub function : Function
  pub body : Body
  pub expr : Pending
  pub in_program : Contains program.functions function
  pub body_is : function.body ≡ Some body
  pub in_body : Contains (flat_map pending_of body.stmts) expr
  pub past : pending_limit < expr.need
  pub at_is : at ≡ record { unit = body.unit; token = expr.token }

-- no more values are pending anywhere than may be
abbrev pub IsSimple : Program → Type 0
IsSimple program = (at : TokenAt) → IsPastLimit program at → ⊥

-- the first token at which more are
pub record IsTooComplex (program : Program) (at : TokenAt) : Type 0 where
  pub past : IsPastLimit program at
  pub first : (other : TokenAt) → IsPastLimit program other → IsNotBehind at other
