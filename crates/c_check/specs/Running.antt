-- What statements do, by recursion over their trees.
use Rattle.std.specs.Prelude.{ℕ, List, Option, Some, None}
use Rattle.c_ast.specs.declared.statement.Stmt.{Stmt, fold-Stmt}
use Rattle.c_ast.specs.declared.statement.Stmt.TheOpen.{Stmt-F}
use Rattle.c_ast.specs.declared.statement.BlockItem.{BlockItem}
use Rattle.c_ast.specs.declared.statement.BlockItem.TheVariants as part
use Rattle.c_check.specs.Draft.{then_with, in_loop, line_at}
use Rattle.c_check.specs.Labels as labels
use Rattle.c_check.specs.Statements.{Running, block, express, test, if_of, while_behind, do_behind, for_of, choice, switch_of, case, labelled, break_stmt, continue_stmt, return_stmt}

abbrev pub statement_step : List ℕ → Stmt-F Running → Running
statement_step lines (Stmt-F.Block token is) inside d = block lines is inside d
statement_step lines (Stmt-F.Express token e) inside d = express (line_at lines token) e d
statement_step lines (Stmt-F.If token e then otherwise) inside d = then_with (test token e d) (if_of (line_at lines token) then otherwise inside)
statement_step lines (Stmt-F.While token e body) inside d = then_with (test token e d) (while_behind (line_at lines token) body inside)
statement_step lines (Stmt-F.Do token body e) inside d = then_with (body (in_loop inside) d) (do_behind token (line_at lines token) e)
statement_step lines (Stmt-F.For token from e step body) inside d = for_of lines token (line_at lines token) from e step body inside d
statement_step lines (Stmt-F.Switch token e body) inside d = then_with (choice token e d) (switch_of (line_at lines token) body inside)
statement_step lines (Stmt-F.Case token e body) inside d = then_with (case inside token e d) (labelled body inside)
statement_step lines (Stmt-F.Default token body) inside d = then_with (labels.default inside token d) (labelled body inside)
statement_step lines (Stmt-F.Break token) inside d = break_stmt token (line_at lines token) inside d
statement_step lines (Stmt-F.Continue token) inside d = continue_stmt token (line_at lines token) inside d
statement_step lines (Stmt-F.Return token e) inside d = return_stmt token (line_at lines token) e d

-- what a statement does
unfoldable pub statement : List ℕ → Stmt → Running
statement lines = fold-Stmt Running (statement_step lines)

abbrev pub item_of : List ℕ → BlockItem Stmt → BlockItem Running
item_of lines (part.Declaration of) = part.Declaration of
item_of lines (part.Statement s) = part.Statement (statement lines s)

abbrev pub body_of : List ℕ → Option Stmt → Option Running
body_of lines (Some s) = Some (statement lines s)
body_of lines None = None
