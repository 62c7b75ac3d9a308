-- What each statement is by what its parts are.
use Rattle.std.proofs.Common.{ℕ, ◌≡◌, refl, sym, ap, ◌∙◌, List, [], ◌∷◌, Option, Some, None, map}
use Rattle.c_ast.specs.declared.expression.Expr.{Expr}
use Rattle.c_ast.specs.declared.declaration.Decl.{Decl}
use Rattle.c_ast.specs.declared.statement.ForStart.{ForStart}
use Rattle.c_ast.specs.declared.statement.BlockItem.{BlockItem}
use Rattle.c_ast.specs.declared.statement.BlockItem.TheVariants as part
use Rattle.c_ast.specs.declared.statement.Stmt.{Stmt, fold-Stmt, map-Stmt}
use Rattle.c_ast.specs.declared.statement.Stmt.TheOpen.{Stmt-F}
use Rattle.c_ast.specs.declared.statement.Stmt.TheFolds.{fold-roll-Stmt}
use Rattle.c_ast.specs.declared.statement.Stmt.TheVariants as stmt
use Rattle.c_check.specs.Draft.{Doing, then_with, in_loop, line_at}
use Rattle.c_check.specs.Labels as labels
use Rattle.c_check.specs.Statements.{Running, block, express, test, if_of, while_behind, do_behind, for_of, choice, switch_of, case, labelled, break_stmt, continue_stmt, return_stmt}
use Rattle.c_check.specs.Running.{statement, statement_step, item_of, body_of}

-- the parts of a block, and the branch behind `else`
abbrev layer : List ℕ → Stmt-F Stmt → Stmt-F Running
layer lines y = map-Stmt Stmt Running (statement lines) y

items_in : Stmt-F Running → List (BlockItem Running)
items_in (Stmt-F.Block token is) = is
items_in y = []

items_are : (lines : List ℕ) (token : ℕ) (is : List (BlockItem Stmt)) → items_in (layer lines (Stmt-F.Block token is)) ≡ map (item_of lines) is
unfolding items_in
items_are lines token [] = refl
items_are lines token (part.Declaration of ∷ is) = ap (λ r. part.Declaration of ∷ r) (items_are lines token is)
items_are lines token (part.Statement s ∷ is) = ap (λ r. part.Statement (statement lines s) ∷ r) (items_are lines token is)

otherwise_in : Stmt-F Running → Option Running
otherwise_in (Stmt-F.If token e then otherwise) = otherwise
otherwise_in y = None

otherwise_is : (lines : List ℕ) (token : ℕ) (e : Expr) (then : Stmt) (otherwise : Option Stmt)
    → otherwise_in (layer lines (Stmt-F.If token e then otherwise)) ≡ body_of lines otherwise
unfolding otherwise_in
otherwise_is lines token e then (Some s) = refl
otherwise_is lines token e then None = refl

pub block_is : (lines : List ℕ) (whole : Stmt) (token : ℕ) (is : List (BlockItem Stmt)) → whole ≡ stmt.Block token is
    → statement lines whole ≡ (λ inside d. block lines (map (item_of lines) is) inside d)
unfolding statement items_in
block_is lines whole token is same =
    ap (statement lines) same
    ∙ ap (fold-Stmt Running (statement_step lines)) (sym (stmt.rolls-Block token is))
    ∙ fold-roll-Stmt Running (statement_step lines) (Stmt-F.Block token is)
    ∙ ap (λ xs. (λ inside d. block lines xs inside d)) (items_are lines token is)

pub express_is : (lines : List ℕ) (whole : Stmt) (token : ℕ) (e : Option Expr) → whole ≡ stmt.Express token e
    → statement lines whole ≡ (λ inside d. express (line_at lines token) e d)
unfolding statement
express_is lines whole token e same =
    ap (statement lines) same
    ∙ ap (fold-Stmt Running (statement_step lines)) (sym (stmt.rolls-Express token e))
    ∙ fold-roll-Stmt Running (statement_step lines) (Stmt-F.Express token e)

pub if_is : (lines : List ℕ) (whole : Stmt) (token : ℕ) (e : Expr) (then : Stmt) (otherwise : Option Stmt) → whole ≡ stmt.If token e then otherwise
    → statement lines whole ≡ (λ inside d. then_with (test token e d) (if_of (line_at lines token) (statement lines then) (body_of lines otherwise) inside))
unfolding statement otherwise_in
if_is lines whole token e then otherwise same =
    ap (statement lines) same
    ∙ ap (fold-Stmt Running (statement_step lines)) (sym (stmt.rolls-If token e then otherwise))
    ∙ fold-roll-Stmt Running (statement_step lines) (Stmt-F.If token e then otherwise)
    ∙ ap (λ o. (λ inside d. then_with (test token e d) (if_of (line_at lines token) (statement lines then) o inside))) (otherwise_is lines token e then otherwise)

pub while_is : (lines : List ℕ) (whole : Stmt) (token : ℕ) (e : Expr) (body : Stmt) → whole ≡ stmt.While token e body
    → statement lines whole ≡ (λ inside d. then_with (test token e d) (while_behind (line_at lines token) (statement lines body) inside))
unfolding statement
while_is lines whole token e body same =
    ap (statement lines) same
    ∙ ap (fold-Stmt Running (statement_step lines)) (sym (stmt.rolls-While token e body))
    ∙ fold-roll-Stmt Running (statement_step lines) (Stmt-F.While token e body)

pub do_is : (lines : List ℕ) (whole : Stmt) (token : ℕ) (body : Stmt) (e : Expr) → whole ≡ stmt.Do token body e
    → statement lines whole ≡ (λ inside d. then_with (statement lines body (in_loop inside) d) (do_behind token (line_at lines token) e))
unfolding statement
do_is lines whole token body e same =
    ap (statement lines) same
    ∙ ap (fold-Stmt Running (statement_step lines)) (sym (stmt.rolls-Do token body e))
    ∙ fold-roll-Stmt Running (statement_step lines) (Stmt-F.Do token body e)

pub for_is : (lines : List ℕ) (whole : Stmt) (token : ℕ) (start : ForStart) (e step : Option Expr) (body : Stmt) → whole ≡ stmt.For token start e step body
    → statement lines whole ≡ (λ inside d. for_of lines token (line_at lines token) start e step (statement lines body) inside d)
unfolding statement
for_is lines whole token start e step body same =
    ap (statement lines) same
    ∙ ap (fold-Stmt Running (statement_step lines)) (sym (stmt.rolls-For token start e step body))
    ∙ fold-roll-Stmt Running (statement_step lines) (Stmt-F.For token start e step body)

pub switch_is : (lines : List ℕ) (whole : Stmt) (token : ℕ) (e : Expr) (body : Stmt) → whole ≡ stmt.Switch token e body
    → statement lines whole ≡ (λ inside d. then_with (choice token e d) (switch_of (line_at lines token) (statement lines body) inside))
unfolding statement
switch_is lines whole token e body same =
    ap (statement lines) same
    ∙ ap (fold-Stmt Running (statement_step lines)) (sym (stmt.rolls-Switch token e body))
    ∙ fold-roll-Stmt Running (statement_step lines) (Stmt-F.Switch token e body)

pub case_is : (lines : List ℕ) (whole : Stmt) (token : ℕ) (e : Expr) (body : Stmt) → whole ≡ stmt.Case token e body
    → statement lines whole ≡ (λ inside d. then_with (case inside token e d) (labelled (statement lines body) inside))
unfolding statement
case_is lines whole token e body same =
    ap (statement lines) same
    ∙ ap (fold-Stmt Running (statement_step lines)) (sym (stmt.rolls-Case token e body))
    ∙ fold-roll-Stmt Running (statement_step lines) (Stmt-F.Case token e body)

pub default_is : (lines : List ℕ) (whole : Stmt) (token : ℕ) (body : Stmt) → whole ≡ stmt.Default token body
    → statement lines whole ≡ (λ inside d. then_with (labels.default inside token d) (labelled (statement lines body) inside))
unfolding statement
default_is lines whole token body same =
    ap (statement lines) same
    ∙ ap (fold-Stmt Running (statement_step lines)) (sym (stmt.rolls-Default token body))
    ∙ fold-roll-Stmt Running (statement_step lines) (Stmt-F.Default token body)

pub break_is : (lines : List ℕ) (whole : Stmt) (token : ℕ) → whole ≡ stmt.Break token
    → statement lines whole ≡ (λ inside d. break_stmt token (line_at lines token) inside d)
unfolding statement
break_is lines whole token same =
    ap (statement lines) same
    ∙ ap (fold-Stmt Running (statement_step lines)) (sym (stmt.rolls-Break token))
    ∙ fold-roll-Stmt Running (statement_step lines) (Stmt-F.Break token)

pub continue_is : (lines : List ℕ) (whole : Stmt) (token : ℕ) → whole ≡ stmt.Continue token
    → statement lines whole ≡ (λ inside d. continue_stmt token (line_at lines token) inside d)
unfolding statement
continue_is lines whole token same =
    ap (statement lines) same
    ∙ ap (fold-Stmt Running (statement_step lines)) (sym (stmt.rolls-Continue token))
    ∙ fold-roll-Stmt Running (statement_step lines) (Stmt-F.Continue token)

pub return_is : (lines : List ℕ) (whole : Stmt) (token : ℕ) (e : Option Expr) → whole ≡ stmt.Return token e
    → statement lines whole ≡ (λ inside d. return_stmt token (line_at lines token) e d)
unfolding statement
return_is lines whole token e same =
    ap (statement lines) same
    ∙ ap (fold-Stmt Running (statement_step lines)) (sym (stmt.rolls-Return token e))
    ∙ fold-roll-Stmt Running (statement_step lines) (Stmt-F.Return token e)
