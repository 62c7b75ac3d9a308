-- Whether each expression and each statement is covered, and what the parts of a check tell of it.
use Rattle.std.proofs.Common.{◌≡◌, ℕ, ◌+◌, ◌<◌, ◌≤◌, Bool, true, false, List, [], ◌∷◌, ◌++◌, map, take, length, get_or, refl, sym, ap, ◌∙◌, subst, arith, true≢false}
use Rattle.std.specs.Prelude.{Option, None, Some, ◌&&◌, slice_get, nat_le, MatchBool}
use Rattle.std.proofs.lemmas.List.{map_more, take_all}
use Rattle.std.proofs.lemmas.Bool.Decides.{nat_tests}
use Rattle.am_base.specs.declared.calls.LibCall.{LibCall}
use Rattle.am_base.specs.declared.calls.MpiCall.{MpiCall}
use Rattle.rank_range.specs.declared.kinds.Kind.{Kind}
use Rattle.rank_range.specs.declared.operators.Unary.{Unary as UnaryOperator}
use Rattle.rank_range.specs.declared.operators.Binary.{Binary as Operator}
use Rattle.c_types.specs.declared.expression.Operand.TheVariants as operand
use Rattle.c_types.specs.declared.expression.Step.TheVariants as step
use Rattle.c_types.specs.declared.expression.Expr.{Expr}
use Rattle.c_types.specs.declared.expression.Operand.TheOpen.{Operand-F, Step-F}
use Rattle.c_types.specs.declared.expression.Operand.TheViews.{out-Expr}
use Rattle.c_types.specs.declared.expression.OffsetBy.{OffsetBy}
use Rattle.c_types.specs.declared.expression.Direction.{Direction}
use Rattle.c_types.specs.declared.expression.Counted.{Counted}
use Rattle.c_types.specs.declared.expression.Given.{Given}
use Rattle.c_types.specs.declared.expression.FullExpr.{FullExpr}
use Rattle.c_types.specs.declared.statement.Stmt.{Stmt, fold-Stmt}
use Rattle.c_types.specs.declared.statement.Stmt.TheOpen.{Stmt-F}
use Rattle.c_types.specs.declared.statement.Stmt.TheVariants as stmt
use Rattle.c_types.specs.declared.statement.Stmt.TheFolds.{fold-roll-Stmt}
use Rattle.c_types.specs.declared.statement.Declared.{Declared}
use Rattle.c_types.specs.declared.statement.Store.{Store}
use Rattle.c_types.specs.declared.statement.Case.{Case}
use Rattle.c_types.specs.declared.program.Program.{Program}
use Rattle.c_types.specs.declared.program.Main.{Main}
use Rattle.c_types.specs.declared.program.Function.{Function}
use Rattle.c_types.specs.declared.program.Body.{Body}
use Rattle.codegen.specs.Covered.{all_true, expr_covered, operand_is_covered, step_is_covered, covered_if, stores_covered, all_declared_covered, begins_once, stmt_covered_step, stmt_covered, has_body, function_covered, IsMainBody, IsCovered}
use Rattle.codegen.proofs.Measuring.{operand_covered_roll, step_covered_roll, expr_covered_roll}
use Rattle.codegen.proofs.Sizing.{roll_out}

module _ (fs : List Function) where
  pub covered_expr : (e : Expr) → (expr_covered fs) e ≡ ((operand_is_covered fs) e.first && all_true (map (step_is_covered fs) e.steps))
  covered_expr e = ap (expr_covered fs) (sym (roll_out e)) ∙ expr_covered_roll fs (out-Expr e)

  pub covered_number : (word : ℕ) → (operand_is_covered fs) (operand.Number word) ≡ true
  covered_number word = ap (operand_is_covered fs) (sym (operand.rolls-Number word)) ∙ operand_covered_roll fs (Operand-F.Number word)

  pub covered_local : (offset : ℕ) → (operand_is_covered fs) (operand.Local offset) ≡ true
  covered_local offset = ap (operand_is_covered fs) (sym (operand.rolls-Local offset)) ∙ operand_covered_roll fs (Operand-F.Local offset)

  pub covered_object : (number : ℕ) → (operand_is_covered fs) (operand.Object number) ≡ true
  covered_object number = ap (operand_is_covered fs) (sym (operand.rolls-Object number)) ∙ operand_covered_roll fs (Operand-F.Object number)

  pub covered_call : (function : ℕ) (args : List Expr) → (operand_is_covered fs) (operand.Call function args) ≡ (has_body fs function && all_true (map (expr_covered fs) args))
  covered_call function args = ap (operand_is_covered fs) (sym (operand.rolls-Call function args)) ∙ operand_covered_roll fs (Operand-F.Call function args)

  pub covered_library : (call : LibCall) (args : List Expr) → (operand_is_covered fs) (operand.Library call args) ≡ all_true (map (expr_covered fs) args)
  covered_library call args = ap (operand_is_covered fs) (sym (operand.rolls-Library call args)) ∙ operand_covered_roll fs (Operand-F.Library call args)

  pub covered_mpi : (call : MpiCall) (args : List Expr) → (operand_is_covered fs) (operand.Mpi call args) ≡ all_true (map (expr_covered fs) args)
  covered_mpi call args = ap (operand_is_covered fs) (sym (operand.rolls-Mpi call args)) ∙ operand_covered_roll fs (Operand-F.Mpi call args)

  pub covered_load : (k : Kind) → (step_is_covered fs) (step.Load k) ≡ true
  covered_load k = ap (step_is_covered fs) (sym (step.rolls-Load k)) ∙ step_covered_roll fs (Step-F.Load k)

  pub covered_convert : (from : Kind) (to : Kind) → (step_is_covered fs) (step.Convert from to) ≡ true
  covered_convert from to = ap (step_is_covered fs) (sym (step.rolls-Convert from to)) ∙ step_covered_roll fs (Step-F.Convert from to)

  pub covered_unary : (o : UnaryOperator) (k : Kind) → (step_is_covered fs) (step.Unary o k) ≡ true
  covered_unary o k = ap (step_is_covered fs) (sym (step.rolls-Unary o k)) ∙ step_covered_roll fs (Step-F.Unary o k)

  pub covered_not : (step_is_covered fs) step.Not ≡ true
  covered_not = ap (step_is_covered fs) (sym step.rolls-Not) ∙ step_covered_roll fs Step-F.Not

  pub covered_member : (offset : ℕ) → (step_is_covered fs) (step.Member offset) ≡ true
  covered_member offset = ap (step_is_covered fs) (sym (step.rolls-Member offset)) ∙ step_covered_roll fs (Step-F.Member offset)

  pub covered_count : (counted : Counted) (direction : Direction) (given : Given) → (step_is_covered fs) (step.Count counted direction given) ≡ true
  covered_count counted direction given = ap (step_is_covered fs) (sym (step.rolls-Count counted direction given)) ∙ step_covered_roll fs (Step-F.Count counted direction given)

  pub covered_binary : (o : Operator) (k : Kind) (b : Expr) → (step_is_covered fs) (step.Binary o k b) ≡ (expr_covered fs) b
  covered_binary o k b = ap (step_is_covered fs) (sym (step.rolls-Binary o k b)) ∙ step_covered_roll fs (Step-F.Binary o k b)

  pub covered_greater : (k : Kind) (b : Expr) → (step_is_covered fs) (step.Greater k b) ≡ (expr_covered fs) b
  covered_greater k b = ap (step_is_covered fs) (sym (step.rolls-Greater k b)) ∙ step_covered_roll fs (Step-F.Greater k b)

  pub covered_at_least : (k : Kind) (b : Expr) → (step_is_covered fs) (step.AtLeast k b) ≡ (expr_covered fs) b
  covered_at_least k b = ap (step_is_covered fs) (sym (step.rolls-AtLeast k b)) ∙ step_covered_roll fs (Step-F.AtLeast k b)

  pub covered_sum : (by : OffsetBy) (scale : ℕ) (b : Expr) → (step_is_covered fs) (step.Offset by scale b) ≡ (expr_covered fs) b
  covered_sum by scale b = ap (step_is_covered fs) (sym (step.rolls-Offset by scale b)) ∙ step_covered_roll fs (Step-F.Offset by scale b)

  pub covered_difference : (size : ℕ) (b : Expr) → (step_is_covered fs) (step.Difference size b) ≡ (expr_covered fs) b
  covered_difference size b = ap (step_is_covered fs) (sym (step.rolls-Difference size b)) ∙ step_covered_roll fs (Step-F.Difference size b)

  pub covered_and : (b : Expr) → (step_is_covered fs) (step.And b) ≡ (expr_covered fs) b
  covered_and b = ap (step_is_covered fs) (sym (step.rolls-And b)) ∙ step_covered_roll fs (Step-F.And b)

  pub covered_or : (b : Expr) → (step_is_covered fs) (step.Or b) ≡ (expr_covered fs) b
  covered_or b = ap (step_is_covered fs) (sym (step.rolls-Or b)) ∙ step_covered_roll fs (Step-F.Or b)

  pub covered_comma : (b : Expr) → (step_is_covered fs) (step.Comma b) ≡ (expr_covered fs) b
  covered_comma b = ap (step_is_covered fs) (sym (step.rolls-Comma b)) ∙ step_covered_roll fs (Step-F.Comma b)

  pub covered_assign : (k : Kind) (b : Expr) → (step_is_covered fs) (step.Assign k b) ≡ (expr_covered fs) b
  covered_assign k b = ap (step_is_covered fs) (sym (step.rolls-Assign k b)) ∙ step_covered_roll fs (Step-F.Assign k b)

  pub covered_copy : (size : ℕ) (b : Expr) → (step_is_covered fs) (step.Copy size b) ≡ (expr_covered fs) b
  covered_copy size b = ap (step_is_covered fs) (sym (step.rolls-Copy size b)) ∙ step_covered_roll fs (Step-F.Copy size b)

  pub covered_update : (o : Operator) (k : Kind) (at : Kind) (b : Expr) → (step_is_covered fs) (step.Update o k at b) ≡ (expr_covered fs) b
  covered_update o k at b = ap (step_is_covered fs) (sym (step.rolls-Update o k at b)) ∙ step_covered_roll fs (Step-F.Update o k at b)

  pub covered_advance : (direction : Direction) (scale : ℕ) (b : Expr) → (step_is_covered fs) (step.Advance direction scale b) ≡ (expr_covered fs) b
  covered_advance direction scale b = ap (step_is_covered fs) (sym (step.rolls-Advance direction scale b)) ∙ step_covered_roll fs (Step-F.Advance direction scale b)

  pub covered_conditional : (b : Expr) (c : Expr) → (step_is_covered fs) (step.Conditional b c) ≡ ((expr_covered fs) b && (expr_covered fs) c)
  covered_conditional b c = ap (step_is_covered fs) (sym (step.rolls-Conditional b c)) ∙ step_covered_roll fs (Step-F.Conditional b c)

  pub covered_empty : (line : ℕ) → (stmt_covered fs) (stmt.Empty line) ≡ true
  unfolding stmt_covered
  covered_empty line = ap (fold-Stmt Bool (stmt_covered_step fs)) (sym (stmt.rolls-Empty line)) ∙ fold-roll-Stmt Bool (stmt_covered_step fs) (Stmt-F.Empty line)

  pub covered_express : (line : ℕ) (e : FullExpr) → (stmt_covered fs) (stmt.Express line e) ≡ (expr_covered fs) e.expr
  unfolding stmt_covered
  covered_express line e = ap (fold-Stmt Bool (stmt_covered_step fs)) (sym (stmt.rolls-Express line e)) ∙ fold-roll-Stmt Bool (stmt_covered_step fs) (Stmt-F.Express line e)

  pub covered_declare : (d : Declared) → (stmt_covered fs) (stmt.Declare d) ≡ (stores_covered fs) d.stores
  unfolding stmt_covered
  covered_declare d = ap (fold-Stmt Bool (stmt_covered_step fs)) (sym (stmt.rolls-Declare d)) ∙ fold-roll-Stmt Bool (stmt_covered_step fs) (Stmt-F.Declare d)

  pub covered_block : (ss : List Stmt) → (stmt_covered fs) (stmt.Block ss) ≡ all_true (map (stmt_covered fs) ss)
  unfolding stmt_covered
  covered_block ss = ap (fold-Stmt Bool (stmt_covered_step fs)) (sym (stmt.rolls-Block ss)) ∙ fold-roll-Stmt Bool (stmt_covered_step fs) (Stmt-F.Block ss)

  pub covered_then : (line : ℕ) (e : FullExpr) (s : Stmt) → (stmt_covered fs) (stmt.If line e s None) ≡ ((expr_covered fs) e.expr && ((stmt_covered fs) s && true))
  unfolding stmt_covered
  covered_then line e s = ap (fold-Stmt Bool (stmt_covered_step fs)) (sym (stmt.rolls-If line e s None)) ∙ fold-roll-Stmt Bool (stmt_covered_step fs) (Stmt-F.If line e s None)

  pub covered_if_else : (line : ℕ) (e : FullExpr) (s : Stmt) (o : Stmt) → (stmt_covered fs) (stmt.If line e s (Some o)) ≡ ((expr_covered fs) e.expr && ((stmt_covered fs) s && (stmt_covered fs) o))
  unfolding stmt_covered
  covered_if_else line e s o = ap (fold-Stmt Bool (stmt_covered_step fs)) (sym (stmt.rolls-If line e s (Some o))) ∙ fold-roll-Stmt Bool (stmt_covered_step fs) (Stmt-F.If line e s (Some o))

  pub covered_while : (line : ℕ) (e : FullExpr) (s : Stmt) → (stmt_covered fs) (stmt.While line e s) ≡ ((expr_covered fs) e.expr && (stmt_covered fs) s)
  unfolding stmt_covered
  covered_while line e s = ap (fold-Stmt Bool (stmt_covered_step fs)) (sym (stmt.rolls-While line e s)) ∙ fold-roll-Stmt Bool (stmt_covered_step fs) (Stmt-F.While line e s)

  pub covered_do : (line : ℕ) (s : Stmt) (e : FullExpr) → (stmt_covered fs) (stmt.Do line s e) ≡ ((expr_covered fs) e.expr && (stmt_covered fs) s)
  unfolding stmt_covered
  covered_do line s e = ap (fold-Stmt Bool (stmt_covered_step fs)) (sym (stmt.rolls-Do line s e)) ∙ fold-roll-Stmt Bool (stmt_covered_step fs) (Stmt-F.Do line s e)

  pub covered_for : (line : ℕ) (ds : List Declared) (start : Option FullExpr) (test : Option FullExpr) (step : Option FullExpr) (s : Stmt) → (stmt_covered fs) (stmt.For line ds start test step s) ≡ (begins_once ds start && ((all_declared_covered fs) ds && ((covered_if fs) start && ((covered_if fs) test && ((covered_if fs) step && (stmt_covered fs) s)))))
  unfolding stmt_covered
  covered_for line ds start test step s = ap (fold-Stmt Bool (stmt_covered_step fs)) (sym (stmt.rolls-For line ds start test step s)) ∙ fold-roll-Stmt Bool (stmt_covered_step fs) (Stmt-F.For line ds start test step s)

  pub covered_switch : (line : ℕ) (e : FullExpr) (cases : List Case) (default : Option ℕ) (s : Stmt) → (stmt_covered fs) (stmt.Switch line e cases default s) ≡ ((expr_covered fs) e.expr && (stmt_covered fs) s)
  unfolding stmt_covered
  covered_switch line e cases default s = ap (fold-Stmt Bool (stmt_covered_step fs)) (sym (stmt.rolls-Switch line e cases default s)) ∙ fold-roll-Stmt Bool (stmt_covered_step fs) (Stmt-F.Switch line e cases default s)

  pub covered_labelled : (label : ℕ) (s : Stmt) → (stmt_covered fs) (stmt.Labelled label s) ≡ (stmt_covered fs) s
  unfolding stmt_covered
  covered_labelled label s = ap (fold-Stmt Bool (stmt_covered_step fs)) (sym (stmt.rolls-Labelled label s)) ∙ fold-roll-Stmt Bool (stmt_covered_step fs) (Stmt-F.Labelled label s)

  pub covered_break : (line : ℕ) → (stmt_covered fs) (stmt.Break line) ≡ true
  unfolding stmt_covered
  covered_break line = ap (fold-Stmt Bool (stmt_covered_step fs)) (sym (stmt.rolls-Break line)) ∙ fold-roll-Stmt Bool (stmt_covered_step fs) (Stmt-F.Break line)

  pub covered_continue : (line : ℕ) → (stmt_covered fs) (stmt.Continue line) ≡ true
  unfolding stmt_covered
  covered_continue line = ap (fold-Stmt Bool (stmt_covered_step fs)) (sym (stmt.rolls-Continue line)) ∙ fold-roll-Stmt Bool (stmt_covered_step fs) (Stmt-F.Continue line)

  pub covered_return : (line : ℕ) (e : Option FullExpr) → (stmt_covered fs) (stmt.Return line e) ≡ (covered_if fs) e
  unfolding stmt_covered
  covered_return line e = ap (fold-Stmt Bool (stmt_covered_step fs)) (sym (stmt.rolls-Return line e)) ∙ fold-roll-Stmt Bool (stmt_covered_step fs) (Stmt-F.Return line e)

-- ---- arms

pub same_test : {A : Type 0} (f : A → Bool) (x y : A) (r m : Bool) → x ≡ y → f y ≡ m → r ≡ m → r ≡ f x
same_test f x y r m is test r_is = r_is ∙ sym (ap f is ∙ test)

pub test_at : {A : Type 0} (f : A → Bool) (x y : A) (r : Bool) → x ≡ y → r ≡ f x → r ≡ f y
test_at f x y r is r_is = r_is ∙ ap f is

pub both_are : (a b x y r : Bool) → a ≡ x → b ≡ y → r ≡ (a && b) → r ≡ (x && y)
both_are a b x y r a_is b_is r_is = r_is ∙ ap (λ c. c && b) a_is ∙ ap (λ c. x && c) b_is

pub with_true : (a : Bool) → (a && true) ≡ a
with_true true = refl
with_true false = refl

-- ---- lists

all_push : (bs : List Bool) (b : Bool) → all_true (bs ++ b ∷ []) ≡ (all_true bs && b)
all_push [] b = with_true b
all_push (true ∷ bs) b = all_push bs b
all_push (false ∷ bs) b = refl

pub all_next : {A : Type 0} (f : A → Bool) (xs : List A) (i : ℕ) (x : A) (all b r : Bool) → i < length xs → x ≡ get_or xs i x → all ≡ all_true (map f (take i xs)) → b ≡ f x
    → r ≡ (all && b) → r ≡ all_true (map f (take (i + 1) xs))
all_next f xs i x all b r within x_is all_is b_is r_is =
    both_are all b _ _ r all_is (b_is ∙ ap f x_is) r_is ∙ sym (ap all_true (map_more f xs i x within) ∙ all_push (map f (take i xs)) (f (get_or xs i x)))

pub all_whole : {A : Type 0} (f : A → Bool) (xs : List A) (i : ℕ) (r : Bool) → length xs ≤ i → r ≡ all_true (map f (take i xs)) → r ≡ all_true (map f xs)
all_whole f xs i r past r_is = r_is ∙ ap (λ l. all_true (map f l)) (take_all i xs past)

module _ (fs : List Function) where
  abbrev pub store_covered : Store → Bool
  store_covered s = (expr_covered fs) s.value.expr

  stores_all : (ss : List Store) → all_true (map store_covered ss) ≡ (stores_covered fs) ss
  stores_all [] = refl
  stores_all (s ∷ ss) = ap (λ b. store_covered s && b) (stores_all ss)

  pub stores_whole : (ss : List Store) (i : ℕ) (r : Bool) → length ss ≤ i → r ≡ all_true (map store_covered (take i ss)) → r ≡ (stores_covered fs) ss
  stores_whole ss i r past r_is = all_whole store_covered ss i r past r_is ∙ stores_all ss

  abbrev pub declared_covered : Declared → Bool
  declared_covered d = (stores_covered fs) d.stores

  declared_all : (ds : List Declared) → all_true (map declared_covered ds) ≡ (all_declared_covered fs) ds
  declared_all [] = refl
  declared_all (d ∷ ds) = ap (λ b. declared_covered d && b) (declared_all ds)

  pub declared_whole : (ds : List Declared) (i : ℕ) (r : Bool) → length ds ≤ i → r ≡ all_true (map declared_covered (take i ds)) → r ≡ (all_declared_covered fs) ds
  declared_whole ds i r past r_is = all_whole declared_covered ds i r past r_is ∙ declared_all ds

  pub for_covered : (s b b' : Stmt) (line : ℕ) (ds ds' : List Declared) (start test step : Option FullExpr) (body r : Bool) → s ≡ stmt.For line ds start test step b → ds' ≡ ds → b' ≡ b
      → body ≡ (stmt_covered fs) b' → r ≡ (begins_once ds' start && ((all_declared_covered fs) ds' && ((covered_if fs) start && ((covered_if fs) test && ((covered_if fs) step && body)))))
      → r ≡ (stmt_covered fs) s
  for_covered s b b' line ds ds' start test step body r is ds_are b_is body_is r_is =
      same_test (stmt_covered fs) s _ r _ is (covered_for fs line ds start test step b)
      (r_is ∙ ap (λ l. begins_once l start && ((all_declared_covered fs) l && ((covered_if fs) start && ((covered_if fs) test && ((covered_if fs) step && body))))) ds_are
      ∙ ap (λ c. begins_once ds start && ((all_declared_covered fs) ds && ((covered_if fs) start && ((covered_if fs) test && ((covered_if fs) step && c))))) (body_is ∙ ap (stmt_covered fs) b_is))

-- ---- `main`

same_some : {A : Type 0} (x y : A) → Some x ≡ Some y → x ≡ y
same_some x y e = cc (e)

pub no_body : (o : Option Body) → o ≡ None → IsMainBody o → ⊥
no_body o is c = let e : None ≡ Some c.body = sym is ∙ c.body_is in cc (e)

few_is : (n : ℕ) (r : Bool) → r ≡ nat_le n 2 → MatchBool r (n ≤ 2) (n ≤ 2 → ⊥)
few_is n true is = grind (arith, nat_tests)
few_is n false is = λ le. grind (arith, nat_tests)

pub main_body : (o : Option Body) (body : Body) (n : ℕ) (r : Bool) → o ≡ Some body → n ≡ length body.parameters
    → r ≡ nat_le n 2 → MatchBool r (IsMainBody o) (IsMainBody o → ⊥)
main_body o body n true is n_is few =
    let le = few_is n true few in
    record { body = body; body_is = is; few = omega (arith, le, n_is) }
main_body o body n false is n_is few = λ c.
    let same : body ≡ c.body = same_some body c.body (sym is ∙ c.body_is) in
    let more : length body.parameters ≡ length c.body.parameters = ap (λ b. length b.parameters) same in
    let le = c.few in
    few_is n false few (omega (arith, n_is, more, le))

pub main_covered : (program : Program) (main : Main) (f : Function) (is_main all r : Bool) → slice_get program.functions main.function ≡ Some f
    → MatchBool is_main (IsMainBody f.body) (IsMainBody f.body → ⊥) → all ≡ all_true (map (function_covered program.functions) program.functions)
    → r ≡ (is_main && all) → MatchBool r (IsCovered program main) (IsCovered program main → ⊥)
main_covered program main f true true r is h all r_is =
    subst (λ b. MatchBool b (IsCovered program main) (IsCovered program main → ⊥)) (sym r_is)
    (record { function = f; function_is = is; main_body = h; covered = sym all })
main_covered program main f true false r is h all r_is =
    subst (λ b. MatchBool b (IsCovered program main) (IsCovered program main → ⊥)) (sym r_is) (λ c. true≢false (sym (all ∙ c.covered)))
main_covered program main f false all_is r is h all r_is =
    subst (λ b. MatchBool b (IsCovered program main) (IsCovered program main → ⊥)) (sym r_is) (λ c.
    let same : f ≡ c.function = same_some f c.function (sym is ∙ c.function_is) in
    let B : Function → Type 0 = λ g. IsMainBody g.body in
    h (subst B (sym same) c.main_body))
