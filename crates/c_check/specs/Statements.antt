-- Statements by what their parts are (C11, 6.8): what each does with what is known, in the order of the tokens.
use Rattle.std.specs.Prelude.{ℕ, ◌&&◌, not, Bool, true, false, List, [], ◌∷◌, ◌++◌, map, Option, Some, None}
use Rattle.rank_range.specs.declared.kinds.Kind.{Kind}
use Rattle.c_ast.specs.declared.expression.Expr.{Expr}
use Rattle.c_ast.specs.declared.declaration.Decl.{Decl}
use Rattle.c_ast.specs.declared.statement.ForStart.{ForStart}
use Rattle.c_ast.specs.declared.statement.ForStart.TheVariants as from
use Rattle.c_ast.specs.declared.statement.BlockItem.{BlockItem}
use Rattle.c_ast.specs.declared.statement.BlockItem.TheVariants as part
use Rattle.c_const.specs.Constants.{first_token}
use Rattle.c_types.specs.declared.ctype.CType.{CType}
use Rattle.c_types.specs.declared.statement.Declared.{Declared}
use Rattle.c_types.specs.declared.expression.FullExpr.{FullExpr}
use Rattle.c_types.specs.declared.statement.Stmt.{Stmt}
use Rattle.c_types.specs.declared.statement.Stmt.TheVariants as stmt
use Rattle.c_typing.specs.declared.judged.Judged.{Judged}
use Rattle.c_typing.specs.declared.rules.Rule.TheVariants as rule
use Rattle.c_typing.specs.Classes.{class_of_type, is_void}
use Rattle.c_judge.specs.declared.checker.Mode.{Mode}
use Rattle.c_judge.specs.Judging.{expression}
use Rattle.c_judge.specs.Constants.{constant}
use Rattle.c_check.specs.declared.draft.Draft.{Draft}
use Rattle.c_check.specs.declared.draft.Inside.{Inside}
use Rattle.c_check.specs.declared.labels.Labels.{Labels}
use Rattle.c_check.specs.declared.making.Heads.{Heads}
use Rattle.c_check.specs.Draft.{Doing, then_with, within, broken_if, opened, closed, in_loop, in_switch}
use Rattle.c_check.specs.Labels as labels
use Rattle.c_check.specs.Making as making
use Rattle.c_check.specs.Values as values
use Rattle.c_check.specs.Declarations.{declaration}

-- What a statement does, by what it stands in.
abbrev pub Running : Type 0
Running = Inside → Doing Stmt

-- what is made of what a part gives
abbrev pub giving : {A B : Type 0} → (A → B) → A × Draft → B × Draft
giving make done = (make done.0, done.1)

-- Expressions are evaluated, and their values are used or not.
abbrev pub used_mode : Mode
used_mode = record { is_used = true; is_evaluated = true }

abbrev pub unused_mode : Mode
unused_mode = record { is_used = false; is_evaluated = true }

abbrev pub used : Expr → Doing (Option Judged)
used e d = within d ((expression e).judge used_mode d.checker)

abbrev pub unused_value : ℕ → Option Judged → Doing FullExpr
unused_value token j d = within d (values.unused token j d.checker)

abbrev pub unused : Expr → Doing FullExpr
unused e d = then_with (within d ((expression e).judge unused_mode d.checker)) (unused_value (first_token e))

abbrev pub test_value : ℕ → ℕ → Option Judged → Doing FullExpr
test_value at token j d = within d (values.test at token j d.checker)

abbrev pub test : ℕ → Expr → Doing FullExpr
test at e d = then_with (used e d) (test_value at (first_token e))

abbrev pub choice_value : ℕ → ℕ → Option Judged → Doing (FullExpr × Option Kind)
choice_value at token j d = within d (values.choice at token j d.checker)

abbrev pub choice : ℕ → Expr → Doing (FullExpr × Option Kind)
choice at e d = then_with (used e d) (choice_value at (first_token e))

-- A label of a `case` is a constant expression.
abbrev pub case_value : Inside → ℕ → ℕ → Option Judged → Doing ℕ
case_value inside at token j d =
    labels.case inside at (constant token j d.checker).0 (record d { checker = (constant token j d.checker).1 })

abbrev pub case : Inside → ℕ → Expr → Doing ℕ
case inside at e d = then_with (used e d) (case_value inside at (first_token e))

-- expression statements, and the null statement
abbrev pub express : ℕ → Option Expr → Doing Stmt
express line (Some e) d = giving (λ v. stmt.Express line v) (unused e d)
express line None d = (stmt.Empty line, d)

abbrev pub break_stmt : ℕ → ℕ → Inside → Doing Stmt
break_stmt at line inside d = (stmt.Break line, broken_if (not inside.is_loop && not inside.is_switch) at rule.BreakOutside d)

abbrev pub continue_stmt : ℕ → ℕ → Inside → Doing Stmt
continue_stmt at line inside d = (stmt.Continue line, broken_if (not inside.is_loop) at rule.ContinueOutside d)

-- A function that gives a value returns one, and no other does (C11, 6.8.6.4p1).
abbrev pub gives_by : Option CType → Draft → Bool
gives_by (Some t) d = not (is_void (class_of_type d.checker.sight.structs t))
gives_by None d = false

abbrev pub gives_value : Draft → Bool
gives_value d = gives_by d.result d

abbrev pub returned_by : Option CType → ℕ → ℕ → Option Judged → Doing FullExpr
returned_by (Some t) at token j d = within d (values.returned at token t j d.checker)
returned_by None at token j d = unused_value token j d

abbrev pub returned : ℕ → ℕ → Option Judged → Doing FullExpr
returned at token j d = returned_by d.result at token j d

abbrev pub return_value : ℕ → ℕ → ℕ → Option Judged → Doing Stmt
return_value at line token j d = giving (λ v. stmt.Return line (Some v)) (returned at token j d)

abbrev pub return_stmt : ℕ → ℕ → Option Expr → Doing Stmt
return_stmt at line (Some e) d = then_with (used e d) (return_value at line (first_token e))
return_stmt at line None d = (stmt.Return line None, broken_if (gives_value d) at rule.ValueMissing d)

-- blocks
abbrev pub with_statement : List Stmt → Stmt → List Stmt
with_statement done s = done ++ s ∷ []

abbrev pub with_declarations : List Stmt → List Declared → List Stmt
with_declarations done ds = done ++ map (λ d. stmt.Declare d) ds

abbrev pub item : List ℕ → BlockItem Running → Inside → List Stmt → Doing (List Stmt)
item lines (part.Declaration of) inside done d = giving (with_declarations done) (declaration lines of d)
item lines (part.Statement f) inside done d = giving (with_statement done) (f inside d)

abbrev pub items : List ℕ → List (BlockItem Running) → Inside → List Stmt → Doing (List Stmt)
items lines [] inside done d = (done, d)
items lines (i ∷ is) inside done d = then_with (item lines i inside done d) (items lines is inside)

abbrev pub closing : {A : Type 0} → Draft → A × Draft → A × Draft
closing before done = (done.0, closed before.checker.sight.opened done.1)

abbrev pub block : List ℕ → List (BlockItem Running) → Inside → Doing Stmt
block lines is inside d = giving (λ ss. stmt.Block ss) (closing d (items lines is inside [] (opened d)))

-- branches
abbrev pub optional : Option Running → Inside → Doing (Option Stmt)
optional (Some f) inside d = giving Some (f inside d)
optional None inside d = (None, d)

abbrev pub if_otherwise : ℕ → FullExpr → Option Running → Inside → Stmt → Doing Stmt
if_otherwise line test otherwise inside then d = giving (making.if_stmt line test then) (optional otherwise inside d)

abbrev pub if_behind : ℕ → FullExpr → Running → Option Running → Inside → Doing Stmt
if_behind line test then otherwise inside d = then_with (then inside d) (if_otherwise line test otherwise inside)

abbrev pub if_of : ℕ → Running → Option Running → Inside → FullExpr → Doing Stmt
if_of line then otherwise inside test d = if_behind line test then otherwise inside d

-- loops
abbrev pub while_behind : ℕ → Running → Inside → FullExpr → Doing Stmt
while_behind line body inside test d = giving (making.while_stmt line test) (body (in_loop inside) d)

abbrev pub do_behind : ℕ → ℕ → Expr → Stmt → Doing Stmt
do_behind at line e body d = giving (making.do_stmt line body) (test at e d)

abbrev pub no_heads : Heads
no_heads = record { declared = []; start = None; test = None; step = None }

abbrev pub optional_unused : Option Expr → Doing (Option FullExpr)
optional_unused (Some e) d = giving Some (unused e d)
optional_unused None d = (None, d)

abbrev pub start : List ℕ → ForStart → Doing Heads
start lines (from.Declaration of) d = giving (λ ds. record no_heads { declared = ds }) (declaration lines of d)
start lines (from.Expression e) d = giving (λ v. record no_heads { start = v }) (optional_unused e d)

abbrev pub with_test : ℕ → Option Expr → Heads → Doing Heads
with_test at (Some e) h d = giving (λ v. record h { test = Some v }) (test at e d)
with_test at None h d = (h, d)

abbrev pub with_step : Option Expr → Heads → Doing Heads
with_step e h d = giving (λ v. record h { step = v }) (optional_unused e d)

abbrev pub behind_start : ℕ → Option Expr → Option Expr → Heads → Doing Heads
behind_start at test step h d = then_with (with_test at test h d) (with_step step)

abbrev pub heads : List ℕ → ℕ → ForStart → Option Expr → Option Expr → Doing Heads
heads lines at from test step d = then_with (start lines from d) (behind_start at test step)

abbrev pub for_behind : ℕ → Running → Inside → Heads → Doing Stmt
for_behind line body inside h d = giving (making.for_stmt line h) (body (in_loop inside) d)

abbrev pub for_of : List ℕ → ℕ → ℕ → ForStart → Option Expr → Option Expr → Running → Inside → Doing Stmt
for_of lines at line from test step body inside d =
    closing d (then_with (heads lines at from test step (opened d)) (for_behind line body inside))

-- The labels of a `switch` are its own.
abbrev pub with_labels : Option Kind → Draft → Draft
with_labels k d = record d { labels = labels.no_labels k }

abbrev pub with_outer : Labels → Draft → Draft
with_outer outer d = record d { labels = outer }

abbrev pub switch_end : ℕ → FullExpr → Labels → Stmt → Doing Stmt
switch_end line value outer body d = (making.switch_stmt line value d.labels body, with_outer outer d)

abbrev pub switch_behind : ℕ → FullExpr → Option Kind → Running → Inside → Doing Stmt
switch_behind line value kind body inside d =
    then_with (body (in_switch inside) (with_labels kind d)) (switch_end line value d.labels)

abbrev pub switch_of : ℕ → Running → Inside → FullExpr × Option Kind → Doing Stmt
switch_of line body inside c d = switch_behind line c.0 c.1 body inside d

abbrev pub labelled : Running → Inside → ℕ → Doing Stmt
labelled body inside label d = giving (making.labelled label) (body inside d)
