-- What an arrival sends weighs less than what arrived.
use Rattle.std.proofs.Common.{ℕ, ◌≡◌, ◌+◌, ◌<◌, ◌≤◌, inl, inr, List, [], ◌∷◌, map, Option, Some, None, length, refl, sym, subst, ap, ◌∙◌, arith}
use Rattle.std.specs.Prelude.{nat_eq, sum_by, ◌&&◌, is_none}
use Rattle.std.proofs.lemmas.Bool.{cases_Bool, and_parts, eqb-true, cond-true, cond-false}
use Rattle.std.proofs.lemmas.List.Sums.{sum_by-cons}
use Rattle.mpi_types.specs.declared.argument.Arg.{Arg}
use Rattle.mpi_types.specs.declared.argument.Direction.{Direction}
use Rattle.mpi_types.specs.declared.argument.Direction.TheVariants.{Up, Down}
use Rattle.mpi_types.specs.declared.argument.Joined.{Joined}
use Rattle.mpi_types.specs.declared.argument.TreeMsg.{TreeMsg}
use Rattle.mpi_types.specs.declared.group.Group.{Group}
use Rattle.mpi_types.specs.Accepts.{is_same_ctx}
use Rattle.mpi_types.proofs.AcceptLemmas.{contexts_tell}
use Rattle.collectives.specs.Tree.{lowest_bit, parent_of, end_of, children}
use Rattle.collectives.specs.Held.{are_from, here_of, others_of, put_message}
use Rattle.collectives.specs.Sends.{down_send}
use Rattle.collectives.specs.Sweeps.{awaits, arrived_at, goes_on, looked, completed, closed_by, closed, handed_up, Went}
use Rattle.collectives.specs.Weights.{weight, weight_by, weight_of_all, ArrivalsGetLighter}
use Rattle.collectives.proofs.TreeLemmas.{lowest_pos, parent_less, children_lighter, first_lighter}

-- messages to children
downs_weigh : (j : Joined) (list : List Arg) (cs : List ℕ) → weight_of_all (map (down_send j list) cs) ≡ sum_by lowest_bit cs
downs_weigh j list [] = refl
downs_weigh j list (c ∷ cs) =
    sum_by-cons (λ x. weight x.to x.message) (down_send j list c) (map (down_send j list) cs)
    ∙ (ap (λ k. lowest_bit c + k) (downs_weigh j list cs) ∙ sym (sum_by-cons lowest_bit c cs))

-- what a member sends that has all of its subtree
completed_weighs : (n : ℕ) (j : Joined) (tree : List TreeMsg) (limit : ℕ) → j.arg.member < n → n ≤ 256 → 256 ≤ limit → 256 + j.arg.member < limit
    → weight_of_all (completed n j tree).out.sends < limit
completed_weighs n j tree limit within few least more =
    let m : ℕ = j.arg.member in
    let here : List Arg = here_of j tree in
    let rest : List TreeMsg = others_of j.ctx j.position tree in
    let sent : Went → ℕ = λ w. weight_of_all w.out.sends in
    elim (cases_Bool (nat_eq m 0)) [
      | inl e ↦
          let none : m ≡ 0 = eqb-true m 0 e in
          let same : sent (completed n j tree) ≡ sent (closed n j here rest) = ap sent (cond-true (nat_eq m 0) (closed n j here rest) (handed_up j here rest) e) in
          let is : sent (closed n j here rest) ≡ sum_by lowest_bit (children n 0) =
          downs_weigh j here (children n m) ∙ ap (λ k. sum_by lowest_bit (children n k)) none in
          let P : ℕ → Type 0 = λ k. k < limit in
          subst P (sym (same ∙ is)) (omega (arith, first_lighter n (omega arith) few))
      | inr f ↦
          let same : sent (completed n j tree) ≡ sent (handed_up j here rest) = ap sent (cond-false (nat_eq m 0) (closed n j here rest) (handed_up j here rest) f) in
          let P : ℕ → Type 0 = λ k. k < limit in
          subst P (sym same) (omega arith)
    ]

-- what a member sends that looks
looked_weighs : (n : ℕ) (j : Joined) (tree : List TreeMsg) (limit : ℕ) → j.arg.member < n → n ≤ 256 → 256 ≤ limit → 256 + j.arg.member < limit
    → weight_of_all (looked n j tree).out.sends < limit
looked_weighs n j tree limit within few least more =
    elim (cases_Bool (are_from j.arg.member (end_of n j.arg.member) (here_of j tree))) [
      | inr f ↦ rw f (omega arith)
      | inl t ↦ rw t (completed_weighs n j tree limit within few least more)
    ]

-- what a member sends that has got the list
closed_weighs : (n : ℕ) (j : Joined) (tree : List TreeMsg) (t : TreeMsg) → 0 < j.arg.member → j.arg.member < n → n ≤ 256
    → weight_of_all (closed_by n j tree t).out.sends < lowest_bit j.arg.member
closed_weighs n j tree t some within few = elim (cases_Bool (are_from 0 n t.args)) [
  | inr f ↦ rw f (omega (arith, lowest_pos j.arg.member))
  | inl y ↦ rw y (omega (arith, downs_weigh j t.args (children n j.arg.member), children_lighter n j.arg.member some within (omega arith)))
]

weighs_something : (d : Direction) (to sender : ℕ) → 0 < weight_by d to sender
weighs_something Up to sender = omega arith
weighs_something Down to sender = lowest_pos to

goes_on_lighter : (d : Direction) (n : ℕ) (j : Joined) (tree : List TreeMsg) (t : TreeMsg) (me : ℕ) → j.arg.member ≡ me → me < n → n ≤ 256
    → (d ≡ Up → (0 < t.member) × (parent_of t.member ≡ me)) → (d ≡ Down → 0 < me)
    → weight_of_all (goes_on d n j tree t).out.sends < weight_by d me t.member
goes_on_lighter Up n j tree t me own within few up down =
    let child = up refl in
    looked_weighs n j (put_message t tree) (256 + t.member) (omega arith) few (omega arith) (omega (arith, parent_less t.member child.0, child.1))
goes_on_lighter Down n j tree t me own within few up down =
    let some : 0 < me = down refl in
    omega (arith, closed_weighs n j tree t (omega arith) (omega arith) few, ap lowest_bit own)

at_joined : (g : Group) (tree : List TreeMsg) (t : TreeMsg) (me : ℕ) (joined : Option Joined) → me < length g.members → length g.members ≤ 256
    → ((j : Joined) → joined ≡ Some j → j.ctx ≡ t.ctx → j.arg.member ≡ me) → (t.direction ≡ Up → (0 < t.member) × (parent_of t.member ≡ me)) → (t.direction ≡ Down → 0 < me)
    → weight_of_all (arrived_at g tree t joined).out.sends < weight me t
at_joined g tree t me None within few own up down = weighs_something t.direction me t.member
at_joined g tree t me (Some j) within few own up down = elim (cases_Bool (awaits j t)) [
  | inr f ↦ rw f (weighs_something t.direction me t.member)
  | inl y ↦
      let first = and_parts (is_same_ctx j.ctx t.ctx && nat_eq j.position t.position) (is_none j.gathered) y in
      let same = and_parts (is_same_ctx j.ctx t.ctx) (nat_eq j.position t.position) first.0 in
      let here : j.arg.member ≡ me = own j refl ((contexts_tell j.ctx t.ctx).0 same.0) in
      rw y (goes_on_lighter t.direction (length g.members) j tree t me here within few up down)
]

pub arrivals_get_lighter : ArrivalsGetLighter
arrivals_get_lighter None s t me at = weighs_something t.direction me t.member
arrivals_get_lighter (Some g) s t me at =
    at_joined g s.tree t me s.joined (at.member g refl) (at.few g refl) at.own at.from_child at.to_child
