-- What holds of a rank from call to call holds before its first one.
use Rattle.std.proofs.Common.{◌≡◌, ℕ, zero, suc, ◌+◌, ◌<◌, ◌≤◌, ◌==◌, ◌⊎◌, inl, inr, true, false, cond, List, [], ◌∷◌, ◌++◌, length, refl, ap, sym, subst, arith, ◌∙◌, Option, Some, None}
use Rattle.std.specs.Prelude.{All}
use Rattle.std.proofs.lemmas.Bool.{cases_Bool, eq-eqb}
use Rattle.std.proofs.lemmas.List.{length-append}
use Rattle.std.proofs.lemmas.List.Elements.{All-nil, All-cons}
use Rattle.am_base.specs.declared.numbers.RankId.{RankId}
use Rattle.mpi_rules.specs.Data.{place_among}
use Rattle.mpi_call.specs.Steady.{StartsSteady, members_below, own_at_start, no_lists, no_sweep}

members_length : (n : ℕ) → length (members_below n) ≡ n
members_length zero = refl
members_length (suc n) =
    let before = members_length n in
    let whole = length-append (members_below n) (record { 0 = n } ∷ []) in
    omega (arith, before, whole)

suc_lower : (m n : ℕ) → m < n → m + 1 < n + 1
suc_lower m n h = omega (arith, h)

-- a rank has its place where it stands among the members, whatever stands behind
place_front : (rank : ℕ) (members more : List RankId) → place_among rank members < length members
    → place_among rank (members ++ more) < length (members ++ more)
place_front rank [] more h = absurd (omega (arith, h))
place_front rank (r ∷ members) more h = elim (cases_Bool (r.0 == rank)) [
  | inl t ↦ rw t (omega arith)
  | inr f ↦ rw f (let rest : place_among rank members + 1 < length (r ∷ members) = subst (λ b. cond b 0 (place_among rank members + 1) < length (r ∷ members)) f h in
      let on = place_front rank members more (omega (arith, rest)) in omega (arith, on))
]

place_last : (rank : ℕ) (members : List RankId) → place_among rank (members ++ record { 0 = rank } ∷ []) < length (members ++ record { 0 = rank } ∷ [])
place_last rank [] = rw (eq-eqb rank rank refl) (omega arith)
place_last rank (r ∷ members) = elim (cases_Bool (r.0 == rank)) [
  | inl t ↦ rw t (omega arith)
  | inr f ↦ rw f (let on = place_last rank members in omega (arith, on))
]

member_at : (rank n : ℕ) → rank < n → place_among rank (members_below n) < length (members_below n)
member_at rank zero h = absurd (omega (arith, h))
member_at rank (suc n) h = elim (lower_or_last rank n h) [
  | inl lower ↦ place_front rank (members_below n) (record { 0 = n } ∷ []) (member_at rank n lower)
  | inr is ↦ subst (λ k. place_among rank (members_below n ++ record { 0 = k } ∷ []) < length (members_below n ++ record { 0 = k } ∷ [])) is
      (place_last rank (members_below n))
]
  where
    lower_or_last : (a b : ℕ) → a < suc b → (a < b) ⊎ (a ≡ b)
    lower_or_last zero zero h = inr refl
    lower_or_last zero (suc b) h = inl (omega arith)
    lower_or_last (suc a) zero h = absurd (omega (arith, h))
    lower_or_last (suc a) (suc b) h = elim (lower_or_last a b (omega (arith, h))) [
      | inl l ↦ inl (omega (arith, l))
      | inr e ↦ inr (ap suc e)
    ]

pub starts_steady : StartsSteady
unfolding own_at_start
starts_steady rank ranks within few = record {
  order = record {
    apart = record {
      orderly = record { posted_ascend = λ i j d before inside. absurd (omega (arith, inside)); matched_ascend = λ i j d before inside. absurd (omega (arith, inside)); apart = All-nil _ };
      apart = λ n some live. absurd cc;
    };
    next = record { above_posted = All-nil _; above_matched = All-nil _ };
    below = All-nil _;
  };
  some = omega arith;
  few = omega arith;
  communicators = record {
    sized = record { members = All-cons (λ c. length c.group.members ≤ 256) _ [] (subst (λ n. n ≤ 256) (sym (members_length ranks)) few) (All-nil (λ c. length c.group.members ≤ 256)) };
    member = All-cons (λ c. place_among rank c.group.members < length c.group.members) _ [] (member_at rank ranks within) (All-nil (λ c. place_among rank c.group.members < length c.group.members));
    positions = All-cons (λ c. c.position ≤ 0) _ [] (omega arith) (All-nil (λ c. c.position ≤ 0));
  };
}
