-- The steps from an object inwards.
use Rattle.std.proofs.Common.{ℕ, zero, suc, ◌≡◌, refl, ◌∙◌, sym, ap, ◌-◌, ◌<◌, ◌≤◌, if◌then◌else◌, true, false, Option, Some, None, arith}
use Rattle.c_types.specs.Sizes.{Structs}
use Rattle.c_stores.specs.declared.spots.Spot.{Spot}
use Rattle.c_stores.specs.declared.spots.Want.{Want}
use Rattle.c_stores.specs.Spots.{spot_from, is_for, part_in, then_in}

pub found_here : (levels : ℕ) (structs : Structs) (position : ℕ) (w : Want) (p : Spot)
    → 0 < levels → is_for structs position w p ≡ true → spot_from levels structs position w p ≡ Some p
unfolding spot_from
found_here zero structs position w p some is = absurd (omega (arith, some))
found_here (suc n) structs position w p some is =
    ap (λ b. if b then Some p else then_in (part_in structs position p) (spot_from n structs position w)) is

pub found_within : (levels : ℕ) (structs : Structs) (position : ℕ) (w : Want) (p : Spot) (o : Option Spot)
    → 0 < levels → is_for structs position w p ≡ false → o ≡ part_in structs position p
    → spot_from levels structs position w p ≡ then_in o (spot_from (levels - 1) structs position w)
unfolding spot_from
found_within zero structs position w p o some is part = absurd (omega (arith, some))
found_within (suc n) structs position w p o some is part =
    let one : n ≡ suc n - 1 = omega arith in
    ap (λ b. if b then Some p else then_in (part_in structs position p) (spot_from n structs position w)) is
    ∙ ap (λ x. then_in x (spot_from n structs position w)) (sym part)
    ∙ ap (λ m. then_in o (spot_from m structs position w)) one

pub none_left : (levels : ℕ) (structs : Structs) (position : ℕ) (w : Want) (p : Spot) → levels ≤ 0 → spot_from levels structs position w p ≡ None
unfolding spot_from
none_left zero structs position w p few = refl
none_left (suc n) structs position w p few = absurd (omega (arith, few))

pub found_nothing : (levels : ℕ) (structs : Structs) (position : ℕ) (w : Want) (p : Spot) (o : Option Spot)
    → 0 < levels → is_for structs position w p ≡ false → o ≡ part_in structs position p → o ≡ None
    → spot_from levels structs position w p ≡ None
found_nothing levels structs position w p o some is part nothing =
    found_within levels structs position w p o some is part ∙ ap (λ x. then_in x (spot_from (levels - 1) structs position w)) nothing

pub found_part : (levels : ℕ) (structs : Structs) (position : ℕ) (w : Want) (p : Spot) (o : Option Spot) (q : Spot)
    → 0 < levels → is_for structs position w p ≡ false → o ≡ part_in structs position p → o ≡ Some q
    → spot_from levels structs position w p ≡ spot_from (levels - 1) structs position w q
found_part levels structs position w p o q some is part inner =
    found_within levels structs position w p o some is part ∙ ap (λ x. then_in x (spot_from (levels - 1) structs position w)) inner
