-- The first full expression with too many pending values, from what its steps find.
use Rattle.std.proofs.Common.{◌≡◌, ℕ, ◌+◌, ◌-◌, ◌<◌, ◌≤◌, min, true, false, List, [], ◌∷◌, ◌++◌, map, take, length, get_or, refl, sym, ap, ◌∙◌, arith}
use Rattle.std.specs.Prelude.{Option, None, Some, if◌then◌else◌, nat_lt}
use Rattle.std.specs.List.{flat_map}
use Rattle.std.proofs.lemmas.List.{take_more, take_all, append-nil}
use Rattle.std.proofs.lemmas.Grind.{flat_map-append}
use Rattle.std.proofs.lemmas.Bool.Decides.{nat_tests}
use Rattle.c_types.specs.declared.expression.FullExpr.{FullExpr}
use Rattle.c_types.specs.declared.statement.Stmt.{Stmt, fold-Stmt}
use Rattle.c_types.specs.declared.statement.Stmt.TheOpen.{Stmt-F}
use Rattle.c_types.specs.declared.statement.Stmt.TheVariants as stmt
use Rattle.c_types.specs.declared.statement.Stmt.TheFolds.{fold-roll-Stmt}
use Rattle.c_types.specs.declared.statement.Declared.{Declared}
use Rattle.c_types.specs.declared.statement.Store.{Store}
use Rattle.c_types.specs.declared.statement.Case.{Case}
use Rattle.c_types.specs.declared.program.Function.{Function}
use Rattle.c_types.specs.declared.program.Body.{Body}
use Rattle.c_types.specs.declared.program.TokenAt.{TokenAt}
use Rattle.c_types.specs.Need.{Pending, pending, pending_if, pending_limit, need_of, in_store, in_declared, joined, pending_step, pending_of}
use Rattle.codegen.specs.Checking.{first_of, found_with, found_in, found_in_body, found_in_all}

-- ---- one full expression

not_past : (below need n : ℕ) → below ≤ 32 → n ≡ min need 255 → n ≤ 32 - below → nat_lt pending_limit (below + need) ≡ false
not_past below need n small n_is fits = grind (arith, nat_tests)

is_past : (below need n : ℕ) → below ≤ 32 → n ≡ min need 255 → 32 - below < n → nat_lt pending_limit (below + need) ≡ true
is_past below need n small n_is past = grind (arith, nat_tests)

pub full_fits : (unit : ℕ) (found : Option TokenAt) (below n : ℕ) (e : FullExpr) → below ≤ 32 → n ≡ min (need_of e.expr) 255 → n ≤ 32 - below
    → found ≡ found_in unit found (pending below e)
full_fits unit found below n e small n_is fits =
    sym (ap (λ b. if b then first_of found (record { unit = unit; token = e.token }) else found) (not_past below (need_of e.expr) n small n_is fits))

pub full_past : (unit : ℕ) (found : Option TokenAt) (below n : ℕ) (e : FullExpr) (r : Option TokenAt) → below ≤ 32 → n ≡ min (need_of e.expr) 255 → 32 - below < n
    → r ≡ first_of found (record { unit = unit; token = e.token }) → r ≡ found_in unit found (pending below e)
full_past unit found below n e r small n_is past r_is =
    r_is ∙ sym (ap (λ b. if b then first_of found (record { unit = unit; token = e.token }) else found) (is_past below (need_of e.expr) n small n_is past))

-- ---- lists

pub found_append : (unit : ℕ) (found : Option TokenAt) (a b : List Pending) → found_in unit found (a ++ b) ≡ found_in unit (found_in unit found a) b
found_append unit found [] b = refl
found_append unit found (p ∷ a) b = found_append unit (found_with unit found p) a b

-- first some, then others
pub found_then : (unit : ℕ) (found r last : Option TokenAt) (a b : List Pending) → r ≡ found_in unit found a → last ≡ found_in unit r b → last ≡ found_in unit found (a ++ b)
found_then unit found r last a b r_is last_is = last_is ∙ ap (λ f. found_in unit f b) r_is ∙ sym (found_append unit found a b)

flat_push : {A : Type 0} (f : A → List Pending) (xs : List A) (x : A) → flat_map f (xs ++ x ∷ []) ≡ flat_map f xs ++ f x
flat_push f xs x = flat_map-append f xs (x ∷ []) ∙ ap (λ l. flat_map f xs ++ l) (append-nil (f x))

pub found_next : {A : Type 0} (f : A → List Pending) (unit : ℕ) (found r last : Option TokenAt) (xs : List A) (i : ℕ) (x : A) → i < length xs → x ≡ get_or xs i x
    → r ≡ found_in unit found (flat_map f (take i xs)) → last ≡ found_in unit r (f x) → last ≡ found_in unit found (flat_map f (take (i + 1) xs))
found_next f unit found r last xs i x within x_is r_is last_is =
    found_then unit found r last (flat_map f (take i xs)) (f x) r_is last_is
    ∙ ap (λ y. found_in unit found (flat_map f (take i xs) ++ f y)) x_is
    ∙ sym (ap (λ l. found_in unit found (flat_map f l)) (take_more xs i x within) ∙ ap (found_in unit found) (flat_push f (take i xs) (get_or xs i x)))

pub found_whole : {A : Type 0} (f : A → List Pending) (unit : ℕ) (found r : Option TokenAt) (xs : List A) (i : ℕ) → length xs ≤ i
    → r ≡ found_in unit found (flat_map f (take i xs)) → r ≡ found_in unit found (flat_map f xs)
found_whole f unit found r xs i past r_is = r_is ∙ ap (λ l. found_in unit found (flat_map f l)) (take_all i xs past)

all_push : (found : Option TokenAt) (fs : List Function) (f : Function) → found_in_all found (fs ++ f ∷ []) ≡ found_in_body (found_in_all found fs) f.body
all_push found [] f = refl
all_push found (g ∷ fs) f = all_push (found_in_body found g.body) fs f

pub all_next : (found r last : Option TokenAt) (fs : List Function) (i : ℕ) (f : Function) → i < length fs → f ≡ get_or fs i f → r ≡ found_in_all found (take i fs)
    → last ≡ found_in_body r f.body → last ≡ found_in_all found (take (i + 1) fs)
all_next found r last fs i f within f_is r_is last_is =
    last_is ∙ ap (λ s. found_in_body s f.body) r_is ∙ ap (λ g. found_in_body (found_in_all found (take i fs)) g.body) f_is
    ∙ sym (ap (found_in_all found) (take_more fs i f within) ∙ all_push found (take i fs) (get_or fs i f))

pub all_whole : (found r : Option TokenAt) (fs : List Function) (i : ℕ) → length fs ≤ i → r ≡ found_in_all found (take i fs) → r ≡ found_in_all found fs
all_whole found r fs i past r_is = r_is ∙ ap (found_in_all found) (take_all i fs past)

pub at_option : (unit : ℕ) (found r : Option TokenAt) (x y : Option FullExpr) → x ≡ y → r ≡ found_in unit found (pending_if y) → r ≡ found_in unit found (pending_if x)
at_option unit found r x y is r_is = r_is ∙ ap (λ e. found_in unit found (pending_if e)) (sym is)

pub at_body : (found r : Option TokenAt) (x y : Option Body) → x ≡ y → r ≡ found_in_body found y → r ≡ found_in_body found x
at_body found r x y is r_is = r_is ∙ ap (found_in_body found) (sym is)

pub at_list : {A : Type 0} (f : A → List Pending) (unit : ℕ) (found r : Option TokenAt) (xs ys : List A) → xs ≡ ys → r ≡ found_in unit found (flat_map f xs)
    → r ≡ found_in unit found (flat_map f ys)
at_list f unit found r xs ys is r_is = r_is ∙ ap (λ l. found_in unit found (flat_map f l)) is

-- ---- statements

pub pending_empty : (line : ℕ) → pending_of (stmt.Empty line) ≡ []
unfolding pending_of
pending_empty line = ap (fold-Stmt (List Pending) pending_step) (sym (stmt.rolls-Empty line)) ∙ fold-roll-Stmt (List Pending) pending_step (Stmt-F.Empty line)

pub pending_express : (line : ℕ) (e : FullExpr) → pending_of (stmt.Express line e) ≡ pending 0 e
unfolding pending_of
pending_express line e = ap (fold-Stmt (List Pending) pending_step) (sym (stmt.rolls-Express line e)) ∙ fold-roll-Stmt (List Pending) pending_step (Stmt-F.Express line e)

pub pending_declare : (d : Declared) → pending_of (stmt.Declare d) ≡ in_declared d
unfolding pending_of
pending_declare d = ap (fold-Stmt (List Pending) pending_step) (sym (stmt.rolls-Declare d)) ∙ fold-roll-Stmt (List Pending) pending_step (Stmt-F.Declare d)

pub pending_then : (line : ℕ) (e : FullExpr) (s : Stmt) → pending_of (stmt.If line e s None) ≡ pending 0 e ++ pending_of s ++ []
unfolding pending_of
pending_then line e s = ap (fold-Stmt (List Pending) pending_step) (sym (stmt.rolls-If line e s None)) ∙ fold-roll-Stmt (List Pending) pending_step (Stmt-F.If line e s None)

pub pending_if_else : (line : ℕ) (e : FullExpr) (s : Stmt) (o : Stmt) → pending_of (stmt.If line e s (Some o)) ≡ pending 0 e ++ pending_of s ++ pending_of o
unfolding pending_of
pending_if_else line e s o = ap (fold-Stmt (List Pending) pending_step) (sym (stmt.rolls-If line e s (Some o))) ∙ fold-roll-Stmt (List Pending) pending_step (Stmt-F.If line e s (Some o))

pub pending_while : (line : ℕ) (e : FullExpr) (s : Stmt) → pending_of (stmt.While line e s) ≡ pending 0 e ++ pending_of s
unfolding pending_of
pending_while line e s = ap (fold-Stmt (List Pending) pending_step) (sym (stmt.rolls-While line e s)) ∙ fold-roll-Stmt (List Pending) pending_step (Stmt-F.While line e s)

pub pending_do : (line : ℕ) (s : Stmt) (e : FullExpr) → pending_of (stmt.Do line s e) ≡ pending_of s ++ pending 0 e
unfolding pending_of
pending_do line s e = ap (fold-Stmt (List Pending) pending_step) (sym (stmt.rolls-Do line s e)) ∙ fold-roll-Stmt (List Pending) pending_step (Stmt-F.Do line s e)

pub pending_for : (line : ℕ) (ds : List Declared) (start : Option FullExpr) (test : Option FullExpr) (step : Option FullExpr) (s : Stmt) → pending_of (stmt.For line ds start test step s) ≡ flat_map in_declared ds ++ pending_if start ++ pending_if test ++ pending_if step ++ pending_of s
unfolding pending_of
pending_for line ds start test step s = ap (fold-Stmt (List Pending) pending_step) (sym (stmt.rolls-For line ds start test step s)) ∙ fold-roll-Stmt (List Pending) pending_step (Stmt-F.For line ds start test step s)

pub pending_switch : (line : ℕ) (e : FullExpr) (cases : List Case) (default : Option ℕ) (s : Stmt) → pending_of (stmt.Switch line e cases default s) ≡ pending 0 e ++ pending_of s
unfolding pending_of
pending_switch line e cases default s = ap (fold-Stmt (List Pending) pending_step) (sym (stmt.rolls-Switch line e cases default s)) ∙ fold-roll-Stmt (List Pending) pending_step (Stmt-F.Switch line e cases default s)

pub pending_labelled : (label : ℕ) (s : Stmt) → pending_of (stmt.Labelled label s) ≡ pending_of s
unfolding pending_of
pending_labelled label s = ap (fold-Stmt (List Pending) pending_step) (sym (stmt.rolls-Labelled label s)) ∙ fold-roll-Stmt (List Pending) pending_step (Stmt-F.Labelled label s)

pub pending_break : (line : ℕ) → pending_of (stmt.Break line) ≡ []
unfolding pending_of
pending_break line = ap (fold-Stmt (List Pending) pending_step) (sym (stmt.rolls-Break line)) ∙ fold-roll-Stmt (List Pending) pending_step (Stmt-F.Break line)

pub pending_continue : (line : ℕ) → pending_of (stmt.Continue line) ≡ []
unfolding pending_of
pending_continue line = ap (fold-Stmt (List Pending) pending_step) (sym (stmt.rolls-Continue line)) ∙ fold-roll-Stmt (List Pending) pending_step (Stmt-F.Continue line)

pub pending_return : (line : ℕ) (e : Option FullExpr) → pending_of (stmt.Return line e) ≡ pending_if e
unfolding pending_of
pending_return line e = ap (fold-Stmt (List Pending) pending_step) (sym (stmt.rolls-Return line e)) ∙ fold-roll-Stmt (List Pending) pending_step (Stmt-F.Return line e)

joined_is : (ss : List Stmt) → joined (map pending_of ss) ≡ flat_map pending_of ss
joined_is [] = refl
joined_is (s ∷ ss) = ap (λ l. pending_of s ++ l) (joined_is ss)

pending_listed : (ss : List Stmt) → pending_of (stmt.Block ss) ≡ joined (map pending_of ss)
unfolding pending_of
pending_listed ss = ap (fold-Stmt (List Pending) pending_step) (sym (stmt.rolls-Block ss)) ∙ fold-roll-Stmt (List Pending) pending_step (Stmt-F.Block ss)

pending_block : (ss : List Stmt) → pending_of (stmt.Block ss) ≡ flat_map pending_of ss
pending_block ss = pending_listed ss ∙ joined_is ss

module _ (unit : ℕ) (found : Option TokenAt) where
  pub check_arm : (s same : Stmt) (ps : List Pending) (r : Option TokenAt) → s ≡ same → pending_of same ≡ ps → r ≡ found_in unit found ps → r ≡ found_in unit found (pending_of s)
  check_arm s same ps r is pends r_is = r_is ∙ ap (found_in unit found) (sym (ap pending_of is ∙ pends))

  stmt_at : (f r : Option TokenAt) (b b' : Stmt) → b' ≡ b → r ≡ found_in unit f (pending_of b') → r ≡ found_in unit f (pending_of b)
  stmt_at f r b b' is r_is = r_is ∙ ap (λ s. found_in unit f (pending_of s)) is

  pub declare_arm : (s : Stmt) (d : Declared) (ss : List Store) (r : Option TokenAt) → s ≡ stmt.Declare d → ss ≡ d.stores → r ≡ found_in unit found (flat_map in_store ss)
      → r ≡ found_in unit found (pending_of s)
  declare_arm s d ss r is ss_are r_is = check_arm s _ _ r is (pending_declare d) (at_list in_store unit found r ss d.stores ss_are r_is)

  pub block_arm : (s : Stmt) (ss ss' : List Stmt) (r : Option TokenAt) → s ≡ stmt.Block ss → ss' ≡ ss → r ≡ found_in unit found (flat_map pending_of ss')
      → r ≡ found_in unit found (pending_of s)
  block_arm s ss ss' r is ss_are r_is = check_arm s _ _ r is (pending_block ss) (at_list pending_of unit found r ss' ss ss_are r_is)

  -- a full expression, and then a statement
  pub both_arm : (s same b b' : Stmt) (e : FullExpr) (r last : Option TokenAt) → s ≡ same → pending_of same ≡ pending 0 e ++ pending_of b → b' ≡ b
      → r ≡ found_in unit found (pending 0 e) → last ≡ found_in unit r (pending_of b') → last ≡ found_in unit found (pending_of s)
  both_arm s same b b' e r last is pends b_is r_is last_is =
      check_arm s same _ last is pends (found_then unit found r last (pending 0 e) (pending_of b) r_is (stmt_at r last b b' b_is last_is))

  pub do_arm : (s b b' : Stmt) (line : ℕ) (e : FullExpr) (r last : Option TokenAt) → s ≡ stmt.Do line b e → b' ≡ b → r ≡ found_in unit found (pending_of b')
      → last ≡ found_in unit r (pending 0 e) → last ≡ found_in unit found (pending_of s)
  do_arm s b b' line e r last is b_is r_is last_is =
      check_arm s _ _ last is (pending_do line b e) (found_then unit found r last (pending_of b) (pending 0 e) (stmt_at found r b b' b_is r_is) last_is)

  pub if_arm : (s b b' : Stmt) (o : Option Stmt) (line : ℕ) (e : FullExpr) (r last : Option TokenAt) → s ≡ stmt.If line e b o → o ≡ None → b' ≡ b
      → r ≡ found_in unit found (pending 0 e) → last ≡ found_in unit r (pending_of b') → last ≡ found_in unit found (pending_of s)
  if_arm s b b' o line e r last is none b_is r_is last_is =
      check_arm s _ _ last (is ∙ ap (stmt.If line e b) none) (pending_then line e b ∙ ap (λ l. pending 0 e ++ l) (append-nil (pending_of b)))
      (found_then unit found r last (pending 0 e) (pending_of b) r_is (stmt_at r last b b' b_is last_is))

  pub if_else_arm : (s b b' a a' : Stmt) (o : Option Stmt) (line : ℕ) (e : FullExpr) (r m last : Option TokenAt) → s ≡ stmt.If line e b o → o ≡ Some a → b' ≡ b → a' ≡ a
      → r ≡ found_in unit found (pending 0 e) → m ≡ found_in unit r (pending_of b') → last ≡ found_in unit m (pending_of a') → last ≡ found_in unit found (pending_of s)
  if_else_arm s b b' a a' o line e r m last is some b_is a_is r_is m_is last_is =
      check_arm s _ _ last (is ∙ ap (stmt.If line e b) some) (pending_if_else line e b a)
      (found_then unit found r last (pending 0 e) (pending_of b ++ pending_of a) r_is (found_then unit r m last (pending_of b) (pending_of a) (stmt_at r m b b' b_is m_is) (stmt_at m last a a' a_is last_is)))

  pub for_arm : (s b b' : Stmt) (line : ℕ) (ds ds' : List Declared) (start test step : Option FullExpr) (r m k j last : Option TokenAt) → s ≡ stmt.For line ds start test step b
      → ds' ≡ ds → b' ≡ b → r ≡ found_in unit found (flat_map in_declared ds') → m ≡ found_in unit r (pending_if start) → k ≡ found_in unit m (pending_if test)
      → j ≡ found_in unit k (pending_if step) → last ≡ found_in unit j (pending_of b') → last ≡ found_in unit found (pending_of s)
  for_arm s b b' line ds ds' start test step r m k j last is ds_are b_is r_is m_is k_is j_is last_is =
      let f = flat_map in_declared ds in
      let one = found_then unit found r m f (pending_if start) (at_list in_declared unit found r ds' ds ds_are r_is) m_is in
      let two = found_then unit found m k (f ++ pending_if start) (pending_if test) one k_is in
      let three = found_then unit found k j ((f ++ pending_if start) ++ pending_if test) (pending_if step) two j_is in
      check_arm s _ _ last is (pending_for line ds start test step b)
      (found_then unit found j last (((f ++ pending_if start) ++ pending_if test) ++ pending_if step) (pending_of b) three (stmt_at j last b b' b_is last_is))

  pub labelled_arm : (s b b' : Stmt) (label : ℕ) (r : Option TokenAt) → s ≡ stmt.Labelled label b → b' ≡ b → r ≡ found_in unit found (pending_of b')
      → r ≡ found_in unit found (pending_of s)
  labelled_arm s b b' label r is b_is r_is = check_arm s _ _ r is (pending_labelled label b) (stmt_at found r b b' b_is r_is)
