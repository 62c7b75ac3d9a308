-- What is read from a value that is made, by what is read from its parts.
use Rattle.std.proofs.Common.{ℕ, ◌≡◌, List, ap}
use Rattle.c_types.specs.declared.expression.Operand.{Operand, map-Operand}
use Rattle.c_types.specs.declared.expression.Step.{Step, map-Step}
use Rattle.c_types.specs.declared.expression.Expr.{Expr, map-Expr}
use Rattle.c_types.specs.declared.expression.Operand.TheOpen.{Operand-F, Step-F, Expr-F}
use Rattle.c_types.specs.declared.expression.Operand.TheViews.{roll-Operand, roll-Step, roll-Expr}
use Rattle.c_types.specs.declared.expression.Operand.TheFolds.{fold-roll-Operand, fold-roll-Step, fold-roll-Expr}
use Rattle.c_types.specs.declared.statement.Stmt.{Stmt, map-Stmt}
use Rattle.c_types.specs.declared.statement.Stmt.TheOpen.{Stmt-F}
use Rattle.c_types.specs.declared.statement.Stmt.TheViews.{roll-Stmt}
use Rattle.c_types.specs.declared.statement.Stmt.TheFolds.{fold-roll-Stmt}
use Rattle.c_types.specs.Need as needs
use Rattle.c_types.specs.Need.{Pending, need_first, need_behind, need_of, pending_of, pending_step}
use Rattle.type_tests.specs.Reading as reading
use Rattle.type_tests.specs.Reading.{Called, calls_first, calls_behind, calls_of, lines_of, lines_step}

pub need_first_rolls : (x : Operand-F Operand Step Expr)
    → need_first (roll-Operand x) ≡ needs.operand_step (map-Operand Operand Step Expr ℕ (ℕ → ℕ) ℕ need_first need_behind need_of x)
unfolding need_first need_behind need_of
need_first_rolls x = fold-roll-Operand ℕ (ℕ → ℕ) ℕ needs.operand_step needs.step_step needs.expr_step x

pub need_behind_rolls : (x : Step-F Operand Step Expr) (a : ℕ)
    → need_behind (roll-Step x) a ≡ needs.step_step (map-Step Operand Step Expr ℕ (ℕ → ℕ) ℕ need_first need_behind need_of x) a
unfolding need_first need_behind need_of
need_behind_rolls x a =
    ap (λ (f : ℕ → ℕ). f a) (fold-roll-Step ℕ (ℕ → ℕ) ℕ needs.operand_step needs.step_step needs.expr_step x)

pub need_rolls : (x : Expr-F Operand Step Expr)
    → need_of (roll-Expr x) ≡ needs.expr_step (map-Expr Operand Step Expr ℕ (ℕ → ℕ) ℕ need_first need_behind need_of x)
unfolding need_first need_behind need_of
need_rolls x = fold-roll-Expr ℕ (ℕ → ℕ) ℕ needs.operand_step needs.step_step needs.expr_step x

pub pending_rolls : (x : Stmt-F Stmt) → pending_of (roll-Stmt x) ≡ pending_step (map-Stmt Stmt (List Pending) pending_of x)
unfolding pending_of
pending_rolls x = fold-roll-Stmt (List Pending) pending_step x

abbrev Cs : Type 0
Cs = List Called

pub calls_first_roll : (x : Operand-F Operand Step Expr)
    → calls_first (roll-Operand x) ≡ reading.operand_step (map-Operand Operand Step Expr Cs Cs Cs calls_first calls_behind calls_of x)
unfolding calls_first calls_behind calls_of
calls_first_roll x = fold-roll-Operand Cs Cs Cs reading.operand_step reading.step_step reading.expr_step x

pub calls_behind_roll : (x : Step-F Operand Step Expr)
    → calls_behind (roll-Step x) ≡ reading.step_step (map-Step Operand Step Expr Cs Cs Cs calls_first calls_behind calls_of x)
unfolding calls_first calls_behind calls_of
calls_behind_roll x = fold-roll-Step Cs Cs Cs reading.operand_step reading.step_step reading.expr_step x

pub calls_roll : (x : Expr-F Operand Step Expr)
    → calls_of (roll-Expr x) ≡ reading.expr_step (map-Expr Operand Step Expr Cs Cs Cs calls_first calls_behind calls_of x)
unfolding calls_first calls_behind calls_of
calls_roll x = fold-roll-Expr Cs Cs Cs reading.operand_step reading.step_step reading.expr_step x

pub lines_roll : (x : Stmt-F Stmt) → lines_of (roll-Stmt x) ≡ lines_step (map-Stmt Stmt (List ℕ) lines_of x)
unfolding lines_of
lines_roll x = fold-roll-Stmt (List ℕ) lines_step x
