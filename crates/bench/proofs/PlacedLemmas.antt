-- Whether each place is live.
use Rattle.std.proofs.Common.{◌≡◌, ℕ, ◌+◌, ◌<◌, ◌≤◌, ◌⊎◌, inl, inr, true, List, length, get_or, ap, subst, arith}
use Rattle.std.specs.Prelude.{nat_eq}
use Rattle.std.specs.List.{Contains}
use Rattle.std.proofs.lemmas.Bool.{eqb-true, cases_lt}
use Rattle.am_base.specs.declared.numbers.ProcId.{ProcId}
use Rattle.balancers.specs.declared.loads.Load.{Load}
use Rattle.balancers.proofs.SpreadLemmas.{at_any}

pub contains_from : (live : List ProcId) (p : ProcId) → ((x : ℕ) × (x < length live) × ((d : ProcId) → nat_eq (get_or live x d).0 p.0 ≡ true)) → Contains live p
contains_from live p found =
    let same : (get_or live found.0 p).0 ≡ p.0 = eqb-true (get_or live found.0 p).0 p.0 (found.2 p) in
    let made : ℕ → ProcId = λ n. record { 0 = n } in
    let e : get_or live found.0 p ≡ p = ap made same in
    (found.0, found.1, e)

pub placed_more : (loads : List Load) (live : List ProcId) (i : ℕ) (e : Load) → i < length loads
    → ((k : ℕ) (d : Load) → k < i → Contains live (get_or loads k d).place) → Contains live (get_or loads i e).place
    → (k : ℕ) (d : Load) → k < i + 1 → Contains live (get_or loads k d).place
placed_more loads live i e inside before here k d below =
    let cases : (k < i) ⊎ (i ≤ k) = cases_lt k i in
    elim cases [
      | inl earlier ↦ before k d earlier
      | inr late ↦
          let same : i ≡ k = omega arith in
          let P : ℕ → Type 0 = λ n. Contains live (get_or loads n d).place in
          let Q : Load → Type 0 = λ l. Contains live l.place in
          subst P same (subst Q (at_any loads i e d inside) here)
    ]
