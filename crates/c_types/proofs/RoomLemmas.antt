-- The next multiple of a number is the least one that isn't below.
use Rattle.std.proofs.Common.{ℕ, ◌≡◌, ◌+◌, ◌-◌, ◌*◌, ◌/◌, ◌%◌, ◌≤◌, ◌<◌, inl, inr, arith, ap, ◌∙◌}
use Rattle.std.proofs.Math.Nat.{add-mod-mod, add-mod_right, mul-mod_right, div-add-mod, mod-lt, mul-le-mul_left}
use Rattle.std.proofs.lemmas.Bool.{cases_lt}
use Rattle.std.specs.Int.{next_multiple_of}
use Rattle.c_types.specs.Rooms.{IsLeastMultiple}

-- of two multiples the lesser one is a step below at least
step_apart : (step p q : ℕ) → step * p < step * q → step * p + step ≤ step * q
step_apart step p q below =
    elim (cases_lt p q) [
      | inl less ↦ let h = mul-le-mul_left {m = p + 1} {n = q} step (omega (arith, less)) in omega (arith, h)
      | inr more ↦ let h = mul-le-mul_left {m = q} {n = p} step more in omega (arith, h, below)
    ]

multiple : (from step : ℕ) → 0 < step → next_multiple_of from step % step ≡ 0
multiple from step positive =
    let sum : from + (step - from % step) ≡ step * (from / step) + step = omega (arith, div-add-mod from step, mod-lt from positive) in
    add-mod-mod from (step - from % step) step
    ∙ (ap (λ n. n % step) sum ∙ (add-mod_right (step * (from / step)) step ∙ mul-mod_right step (from / step)))

whole : (step n : ℕ) → n % step ≡ 0 → step * (n / step) ≡ n
whole step n is = omega (arith, div-add-mod n step, is)

least : (from step other : ℕ) → 0 < step → other % step ≡ 0 → from ≤ other → next_multiple_of from step ≤ other
least from step other positive is below =
    let next = next_multiple_of from step in
    let near : next < from + step = omega (arith, mod-lt (step - from % step) positive) in
    let next_whole = whole step next (multiple from step positive) in
    let other_whole = whole step other is in
    elim (cases_lt other next) [
      | inl less ↦ let apart = step_apart step (other / step) (next / step) (omega (arith, less, next_whole, other_whole)) in
          omega (arith, apart, near, next_whole, other_whole, below)
      | inr most ↦ most
    ]

pub next_is_least : (from step : ℕ) → 0 < step → IsLeastMultiple from step (next_multiple_of from step)
next_is_least from step positive = record {
  multiple = multiple from step positive;
  not_below = omega arith;
  least = λ other is below. least from step other positive is below;
}
