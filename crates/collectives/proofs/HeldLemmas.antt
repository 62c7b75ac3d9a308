-- What is held, and where a message stands.
use Rattle.std.proofs.Common.{ℕ, suc, ◌≡◌, ◌+◌, ◌<◌, ◌≤◌, inl, inr, List, [], ◌∷◌, ◌++◌, true, Option, Some, None, length, refl, sym, ap, ◌∙◌, arith, get_or, add-one, drop-cons}
use Rattle.std.specs.Prelude.{nat_eq, insert, drop}
use Rattle.std.proofs.lemmas.Bool.{cases_Bool, eq-eqb}
use Rattle.mpi_types.specs.declared.argument.Arg.{Arg}
use Rattle.mpi_types.specs.declared.argument.TreeMsg.{TreeMsg}
use Rattle.mpi_types.specs.Order.{is_tree_before}
use Rattle.mpi_types.specs.declared.argument.Joined.{Joined}
use Rattle.mpi_types.specs.declared.context.Level.{Level}
use Rattle.collectives.specs.Held.{following, ends_at, are_from, is_up_of, up_args, here_of, put_message, place_of}

-- arguments in two parts
abbrev pub follows_on : Option ℕ → List Arg → Option ℕ
follows_on None ys = None
follows_on (Some i) ys = following i ys

pub following-append : (i : ℕ) (xs ys : List Arg) → following i (xs ++ ys) ≡ follows_on (following i xs) ys
following-append i [] ys = refl
following-append i (x ∷ xs) ys = elim (cases_Bool (nat_eq x.member i)) [
  | inl t ↦ rw t (following-append (i + 1) xs ys)
  | inr f ↦ rw f refl
]

-- the place is within the list, and the message put there stands among ordered ones
pub place_within : (t : TreeMsg) (tree : List TreeMsg) → place_of t tree ≤ length tree
place_within t [] = omega arith
place_within t (m ∷ tree) = elim (cases_Bool (is_tree_before t m)) [
  | inl e ↦ rw e (omega arith)
  | inr e ↦ rw e (omega (arith, place_within t tree))
]

pub put_at : (t : TreeMsg) (tree : List TreeMsg) → insert tree (place_of t tree) t ≡ put_message t tree
put_at t [] = refl
put_at t (m ∷ tree) = elim (cases_Bool (is_tree_before t m)) [
  | inl e ↦ rw e refl
  | inr e ↦ rw e (let n : ℕ = place_of t tree in let more : n + 1 ≡ suc n = omega arith in rw more (ap (λ xs. m ∷ xs) (put_at t tree)))
]

pub put_is : (t : TreeMsg) (tree items : List TreeMsg) (place : ℕ) → items ≡ tree → place ≡ place_of t items → insert items place t ≡ put_message t tree
put_is t tree items place same at = ap (λ k. insert items k t) at ∙ (ap (λ xs. insert xs (place_of t xs) t) same ∙ put_at t tree)

-- from the message at a place on
up_args_at : (ctx : List Level) (position : ℕ) (tree : List TreeMsg) (i : ℕ) (x : TreeMsg) → i < length tree → x ≡ get_or tree i x
    → is_up_of ctx position x ≡ true → up_args ctx position (drop i tree) ≡ x.args ++ up_args ctx position (drop (i + 1) tree)
up_args_at ctx position tree i x within is up =
    let parts : drop i tree ≡ x ∷ drop (i + 1) tree = rw add-one (drop-cons tree i x within ∙ ap (λ y. y ∷ drop (suc i) tree) (sym is)) in
    ap (up_args ctx position) parts ∙ rw up refl

pub step_some : (ctx : List Level) (position : ℕ) (tree : List TreeMsg) (i : ℕ) (x : TreeMsg) (next after : ℕ) (R : Option ℕ) → i < length tree
    → x ≡ get_or tree i x → is_up_of ctx position x ≡ true → following next x.args ≡ Some after
    → following next (up_args ctx position (drop i tree)) ≡ R → following after (up_args ctx position (drop (i + 1) tree)) ≡ R
step_some ctx position tree i x next after R within is up some rest =
    let more : List Arg = up_args ctx position (drop (i + 1) tree) in
    let all : following next (x.args ++ more) ≡ R = ap (following next) (sym (up_args_at ctx position tree i x within is up)) ∙ rest in
    let parts : follows_on (following next x.args) more ≡ R = sym (following-append next x.args more) ∙ all in
    ap (λ o. follows_on o more) (sym some) ∙ parts

pub step_none : (ctx : List Level) (position : ℕ) (tree : List TreeMsg) (i : ℕ) (x : TreeMsg) (next : ℕ) (R : Option ℕ) → i < length tree
    → x ≡ get_or tree i x → is_up_of ctx position x ≡ true → following next x.args ≡ None
    → following next (up_args ctx position (drop i tree)) ≡ R → None ≡ R
step_none ctx position tree i x next R within is up none rest =
    let more : List Arg = up_args ctx position (drop (i + 1) tree) in
    let all : following next (x.args ++ more) ≡ R = ap (following next) (sym (up_args_at ctx position tree i x within is up)) ∙ rest in
    let parts : follows_on (following next x.args) more ≡ R = sym (following-append next x.args more) ∙ all in
    ap (λ o. follows_on o more) (sym none) ∙ parts

-- a member's own argument comes first
pub own_first : (e : ℕ) (j : Joined) (tree : List TreeMsg) → are_from j.arg.member e (here_of j tree) ≡ ends_at e (following (j.arg.member + 1) (up_args j.ctx j.position tree))
own_first e j tree = rw (eq-eqb j.arg.member j.arg.member refl) refl
