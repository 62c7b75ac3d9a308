use Rattle.std.proofs.Common.{◌≡◌, ◌≢◌, ◌↔◌, ℕ, Bool, List, inl, inr, refl, subst}
use Rattle.std.specs.Prelude.{All, Any, IsTrue}
use Rattle.mpi_types.specs.declared.message.Posted.{Posted}
use Rattle.mpi_types.specs.declared.lists.MatchedPair.{MatchedPair}
use Rattle.mpi_types.specs.declared.lists.BookLists.{BookLists}
use Rattle.mpi_types.specs.Book.{IsLive}
use Rattle.matcher.proofs.Steps.{any_at}
use Rattle.matcher.proofs.list_book.ListBookMatchBook.is_live.Goals as goal

no_pair : (pairs : List MatchedPair) (n : ℕ) → All (λ p. p.receive.request ≢ n) pairs → Any (λ p. p.receive.request ≡ n) pairs → ⊥
no_pair pairs n none found =
    let P : MatchedPair → Type 0 = λ p. p.receive.request ≢ n in
    (subst P found.3 (none found.0 found.1 found.2)) found.4

-- where no pair has the request, it is live exactly where a receive has it
live_by_receives : (l : BookLists) (n : ℕ) (posted : List Posted) (b : Bool) → posted ≡ l.posted
    → All (λ p. p.receive.request ≢ n) l.matched → (IsTrue b ↔ Any (λ r. r.request ≡ n) posted) → IsTrue b ↔ IsLive l n
live_by_receives l n posted b same none told =
    let P : List Posted → Type 0 = λ rs. IsTrue b ↔ Any (λ r. r.request ≡ n) rs in
    let here : P l.posted = subst P same told in
    (λ t. inl (here.0 t), λ live. elim live [ inl waits ↦ here.1 waits | inr found ↦ absurd (no_pair l.matched n none found) ])

pub returns-in-Some-clause-told : goal.returns-in-Some-clause-told
returns-in-Some-clause-told c =
    rw (← c.self.view_is) (
      λ t. inr (any_at (λ p. p.receive.request ≡ c.args.request) c.self.inside.matched.items c.in-Some.field-0 (rw c.as_slice.ensures.value at c.in-Some.ensures)),
      λ _. refl,
    )

pub returns-in-None-clause-told : goal.returns-in-None-clause-told
returns-in-None-clause-told c =
    rw (← c.self.view_is)
    (live_by_receives (record { posted = c.self.inside.posted.items; matched = c.self.inside.matched.items; arrived = c.self.inside.arrived.items })
    c.args.request c.as_slice-in-None.result.now _ c.as_slice-in-None.ensures.value
    (rw c.as_slice.ensures.value at c.in-None.ensures) c.is_posted.ensures)
