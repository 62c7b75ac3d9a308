-- Parts that are done one behind the other, and the turns of loops over lists of parts.
use Rattle.std.proofs.Common.{ℕ, ◌≡◌, ◌+◌, ◌<◌, ◌≤◌, ◌⊎◌, inl, inr, ◌++◌, refl, sym, ap, ◌∙◌, subst, List, [], ◌∷◌, drop, get_or, length}
use Rattle.std.proofs.lemmas.List.{drop_more, drop_all}
use Rattle.std.specs.Prelude.{Result, Ok, Err, IfOk, OnOk}
use Rattle.c_ast.specs.declared.statement.Stmt.{Stmt}
use Rattle.c_types.specs.declared.ctype.CType.{CType}
use Rattle.c_types.specs.declared.statement.Stmt.{Stmt as Typed}
use Rattle.c_judge.specs.declared.checker.Checker.{Checker}
use Rattle.c_judge.specs.State as judge
use Rattle.c_check.specs.declared.draft.Draft.{Draft}
use Rattle.c_check.specs.declared.draft.Inside.{Inside}
use Rattle.c_check.specs.Draft.{Doing, then_with, Gives}
use Rattle.c_check.specs.Statements.{Running, giving}
use Rattle.c_check.specs.Redeclared.{merged_all}
use Rattle.c_check.specs.Running.{statement}

pub then_is : {A B : Type 0} (m : A × Draft) (a : A) (d : Draft) (f : A → Doing B) → m ≡ (a, d) → then_with m f ≡ f a d
unfolding then_with
then_is m a d f is = ap (λ p. f p.0 p.1) is

-- what is given is meant by another name of it
pub gives_as : {A E : Type 0} (r : Result A E) (new : Draft) (meant said : A × Draft) → meant ≡ said → Gives r new said → Gives r new meant
gives_as r new meant said same given = subst (λ m. Gives r new m) (sym same) given

-- what is given behind a part that is done
pub gives_then : {A B E : Type 0} (r : Result B E) (new : Draft) (m : A × Draft) (a : A) (d : Draft) (f : A → Doing B)
    → m ≡ (a, d) → Gives r new (f a d) → Gives r new (then_with m f)
gives_then r new m a d f is given = gives_as r new (then_with m f) (f a d) (then_is m a d f is) given

-- what is made of what a part gives
pub gives_made : {A B E : Type 0} (r : Result B E) (new : Draft) (m : A × Draft) (a : A) (make : A → B)
    → m ≡ (a, new) → IfOk r (λ b. b ≡ make a) → Gives r new (giving make m)
gives_made (Ok b) new m a make is made = ap (giving make) is ∙ ap (λ x. (x, new)) (sym made)
gives_made (Err e) new m a make is made = tt

-- a turn of a loop: what is left does the same
pub turn : {X A R : Type 0} (run : List X → A → Draft → R) (xs : List X) (i : ℕ) (x : X) (a b : A) (s t : Draft) (meant : R)
    → i < length xs → x ≡ get_or xs i x → run (drop i xs) a s ≡ meant → run (x ∷ drop (i + 1) xs) a s ≡ run (drop (i + 1) xs) b t
    → run (drop (i + 1) xs) b t ≡ meant
turn run xs i x a b s t meant within is before step =
    sym step ∙ sym (ap (λ ys. run ys a s) (drop_more xs i x within ∙ ap (λ y. y ∷ drop (i + 1) xs) (sym is))) ∙ before

-- what is given is meant by something with another argument
pub gives_at : {X A E : Type 0} (r : Result A E) (new : Draft) (f : X → A × Draft) (x y : X) → y ≡ x → Gives r new (f y) → Gives r new (f x)
gives_at r new f x y same given = subst (λ z. Gives r new (f z)) same given

-- what is made, unless memory runs out, while what is known stays
pub gives_if : {A E : Type 0} (r : Result A E) (new : Draft) (meant : A × Draft) (a : A) → meant ≡ (a, new) → IfOk r (λ x. x ≡ a) → Gives r new meant
gives_if (Ok x) new meant a is made = is ∙ ap (λ y. (y, new)) (sym made)
gives_if (Err e) new meant a is made = tt

pub pair_is : {A : Type 0} (p : A × Draft) (a : A) (d : Draft) → a ≡ p.0 → d ≡ p.1 → p ≡ (a, d)
pair_is p a d same so = sym (ap (λ x. (x, d)) same ∙ ap (λ y. (p.0, y)) so)

-- a statement by what its tree is
pub as_told : {E : Type 0} (r : Result Typed E) (new : Draft) (lines : List ℕ) (s : Stmt) (what : Running) (inside : Inside) (d : Draft)
    → statement lines s ≡ what → Gives r new (what inside d) → Gives r new (statement lines s inside d)
as_told r new lines s what inside d is given =
    gives_as r new (statement lines s inside d) (what inside d) (ap (λ (f : Running). f inside d) is) given

-- a statement in what it stands in
pub body_in : (lines : List ℕ) (s t : Stmt) (i j : Inside) (d : Draft) (p : Typed × Draft) → t ≡ s → j ≡ i → statement lines t j d ≡ p
    → statement lines s i d ≡ p
body_in lines s t i j d p same so is =
    ap (λ x. statement lines x i d) (sym same) ∙ ap (λ k. statement lines t k d) (sym so) ∙ is

-- what changes names and types alone, one part behind the other
pub judged_then : {A B : Type 0} (m : A × Checker) (a : A) (s : Checker) (f : A → judge.Doing B) → m ≡ (a, s) → judge.then_with m f ≡ f a s
unfolding judge.then_with
judged_then m a s f is = ap (λ p. f p.0 p.1) is

-- what is then known is meant by another name of it
pub on_as : {A E : Type 0} (r : Result A E) (new x y : Draft) → x ≡ y → OnOk r (new ≡ y) → OnOk r (new ≡ x)
on_as (Ok a) new x y same given = given ∙ sym same
on_as (Err e) new x y same given = tt

-- Where one of two lists ends, nothing more is merged.
merged_none : (ts : List CType) → merged_all ts [] ≡ []
merged_none [] = refl
merged_none (t ∷ ts) = refl

pub merged_ends : (a b : List CType) (i : ℕ) → (length a ≤ i) ⊎ (length b ≤ i) → merged_all (drop i a) (drop i b) ≡ []
merged_ends a b i (inl le) = ap (λ ts. merged_all ts (drop i b)) (drop_all i a le)
merged_ends a b i (inr le) = ap (merged_all (drop i a)) (drop_all i b le) ∙ merged_none (drop i a)

with_nothing : (ts : List CType) → ts ++ [] ≡ ts
with_nothing [] = refl
with_nothing (t ∷ ts) = ap (λ us. t ∷ us) (with_nothing ts)

pub all_done : (done rest meant : List CType) → rest ≡ [] → done ++ rest ≡ meant → done ≡ meant
all_done done rest meant ends is = sym (with_nothing done) ∙ ap (λ ts. done ++ ts) (sym ends) ∙ is
