-- A function value that reads a statement inside of another.
use Rattle.std.specs.Prelude.{ℕ, ◌≡◌, Result}
use Rattle.std.specs.declared.alloc.Global.{Global}
use denote.Ref.{MutBor}
use Rattle.c_ast.specs.declared.statement.Stmt.{Stmt}
use Rattle.c_grammar.specs.declared.cursor.Cursor.{Cursor}
use Rattle.c_grammar.specs.declared.error.ParseError.{ParseError}
use Rattle.c_grammar.specs.Reading.{Gives}
use Rattle.c_grammar.specs.Nests.{most, state_of, seen}
use Rattle.c_grammar.specs.ReadingStmt.{statement}

pub record ReadsStmt (room : ℕ) (pre : Global → MutBor Cursor → ℕ → Type 0)
    (post : Global → MutBor Cursor → ℕ → Result Stmt ParseError → MutBor Cursor → Type 0) : Type 0 where
  pub callable : (alloc : Global) (old : MutBor Cursor) → pre alloc old room
  pub reads : (alloc : Global) (old new : MutBor Cursor) (r : Result Stmt ParseError) → post alloc old room r new
      → Gives (seen new.now) r (statement old.now.total most room (state_of old.now))
  pub total : (alloc : Global) (old new : MutBor Cursor) (r : Result Stmt ParseError) → post alloc old room r new
      → new.now.total ≡ old.now.total
