-- The size and the code of each statement.
use Rattle.std.proofs.Common.{◌≡◌, ℕ, List, map, sym, ap, ◌∙◌}
use Rattle.std.specs.Prelude.{Option, None, Some}
use Rattle.c_types.specs.declared.expression.FullExpr.{FullExpr}
use Rattle.c_types.specs.declared.statement.Stmt.{Stmt}
use Rattle.c_types.specs.declared.statement.Stmt.TheOpen.{Stmt-F}
use Rattle.c_types.specs.declared.statement.Stmt.TheVariants as stmt
use Rattle.c_types.specs.declared.statement.Declared.{Declared}
use Rattle.c_types.specs.declared.statement.Case.{Case}
use Rattle.codegen.specs.Statements.{Within, Piece, stmt_step, stmt_piece}
use Rattle.codegen.proofs.Shaping.{piece_roll}

module _ (w : Within) where
  abbrev of : Stmt → Piece
  of = stmt_piece w

  pub piece_empty : (line : ℕ) → of (stmt.Empty line) ≡ stmt_step w (Stmt-F.Empty line)
  piece_empty line = ap of (sym (stmt.rolls-Empty line)) ∙ piece_roll w (Stmt-F.Empty line)

  pub piece_express : (line : ℕ) (e : FullExpr) → of (stmt.Express line e) ≡ stmt_step w (Stmt-F.Express line e)
  piece_express line e = ap of (sym (stmt.rolls-Express line e)) ∙ piece_roll w (Stmt-F.Express line e)

  pub piece_declare : (d : Declared) → of (stmt.Declare d) ≡ stmt_step w (Stmt-F.Declare d)
  piece_declare d = ap of (sym (stmt.rolls-Declare d)) ∙ piece_roll w (Stmt-F.Declare d)

  pub piece_block : (ss : List Stmt) → of (stmt.Block ss) ≡ stmt_step w (Stmt-F.Block (map of ss))
  piece_block ss = ap of (sym (stmt.rolls-Block ss)) ∙ piece_roll w (Stmt-F.Block ss)

  pub piece_if : (line : ℕ) (e : FullExpr) (s : Stmt) → of (stmt.If line e s None) ≡ stmt_step w (Stmt-F.If line e (of s) None)
  piece_if line e s = ap of (sym (stmt.rolls-If line e s None)) ∙ piece_roll w (Stmt-F.If line e s None)

  pub piece_if_else : (line : ℕ) (e : FullExpr) (s o : Stmt) → of (stmt.If line e s (Some o)) ≡ stmt_step w (Stmt-F.If line e (of s) (Some (of o)))
  piece_if_else line e s o = ap of (sym (stmt.rolls-If line e s (Some o))) ∙ piece_roll w (Stmt-F.If line e s (Some o))

  pub piece_while : (line : ℕ) (e : FullExpr) (s : Stmt) → of (stmt.While line e s) ≡ stmt_step w (Stmt-F.While line e (of s))
  piece_while line e s = ap of (sym (stmt.rolls-While line e s)) ∙ piece_roll w (Stmt-F.While line e s)

  pub piece_do : (line : ℕ) (s : Stmt) (e : FullExpr) → of (stmt.Do line s e) ≡ stmt_step w (Stmt-F.Do line (of s) e)
  piece_do line s e = ap of (sym (stmt.rolls-Do line s e)) ∙ piece_roll w (Stmt-F.Do line s e)

  pub piece_for : (line : ℕ) (ds : List Declared) (start test step : Option FullExpr) (s : Stmt)
      → of (stmt.For line ds start test step s) ≡ stmt_step w (Stmt-F.For line ds start test step (of s))
  piece_for line ds start test step s = ap of (sym (stmt.rolls-For line ds start test step s)) ∙ piece_roll w (Stmt-F.For line ds start test step s)

  pub piece_switch : (line : ℕ) (e : FullExpr) (cases : List Case) (default : Option ℕ) (s : Stmt)
      → of (stmt.Switch line e cases default s) ≡ stmt_step w (Stmt-F.Switch line e cases default (of s))
  piece_switch line e cases default s = ap of (sym (stmt.rolls-Switch line e cases default s)) ∙ piece_roll w (Stmt-F.Switch line e cases default s)

  pub piece_labelled : (label : ℕ) (s : Stmt) → of (stmt.Labelled label s) ≡ stmt_step w (Stmt-F.Labelled label (of s))
  piece_labelled label s = ap of (sym (stmt.rolls-Labelled label s)) ∙ piece_roll w (Stmt-F.Labelled label s)

  pub piece_break : (line : ℕ) → of (stmt.Break line) ≡ stmt_step w (Stmt-F.Break line)
  piece_break line = ap of (sym (stmt.rolls-Break line)) ∙ piece_roll w (Stmt-F.Break line)

  pub piece_continue : (line : ℕ) → of (stmt.Continue line) ≡ stmt_step w (Stmt-F.Continue line)
  piece_continue line = ap of (sym (stmt.rolls-Continue line)) ∙ piece_roll w (Stmt-F.Continue line)

  pub piece_return : (line : ℕ) (e : Option FullExpr) → of (stmt.Return line e) ≡ stmt_step w (Stmt-F.Return line e)
  piece_return line e = ap of (sym (stmt.rolls-Return line e)) ∙ piece_roll w (Stmt-F.Return line e)
