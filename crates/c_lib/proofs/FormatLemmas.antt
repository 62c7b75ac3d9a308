-- How the bytes of a format are read.
use Rattle.std.proofs.Common.{◌≡◌, ℕ, zero, suc, ◌+◌, ◌-◌, ◌*◌, ◌<◌, ◌≤◌, Bool, true, false, List, [], ◌∷◌, length, drop, get_or, ap, ◌∙◌, arith}
use Rattle.std.specs.Prelude.{if◌then◌else◌}
use Rattle.rank_range.specs.Formats as formats
use Rattle.rank_range.specs.Formats.{Side, width_from, behind_width, Read}

chosen : (t u : Bool) (a b : Read) → t ≡ u → (if t then a else b) ≡ (if u then a else b)
chosen t u a b same = ap (λ (x : Bool). if x then a else b) same

pub width_more : (n : ℕ) (side : Side) (width : ℕ) (bytes : List ℕ) → 0 < n → 1 ≤ length bytes
    → formats.is_digit (get_or bytes 0 0) ≡ true
    → width_from n side width bytes ≡ width_from (n - 1) side (10 * width + (get_or bytes 0 0 - 48)) (drop 1 bytes)
width_more zero side width bytes some there digit = absurd (omega arith)
width_more (suc n) side width [] some there digit = absurd (omega arith)
width_more (suc n) side width (b ∷ rest) some there digit =
    let same : n ≡ suc n - 1 = omega arith in
    chosen (formats.is_digit b) true (width_from n side (10 * width + (b - 48)) rest) (behind_width side width (b ∷ rest)) digit
    ∙ ap (λ (k : ℕ). width_from k side (10 * width + (b - 48)) rest) same

pub width_stops : (n : ℕ) (side : Side) (width : ℕ) (bytes : List ℕ) → 0 < n → 1 ≤ length bytes
    → formats.is_digit (get_or bytes 0 0) ≡ false → width_from n side width bytes ≡ behind_width side width bytes
width_stops zero side width bytes some there digit = absurd (omega arith)
width_stops (suc n) side width [] some there digit = absurd (omega arith)
width_stops (suc n) side width (b ∷ rest) some there digit =
    chosen (formats.is_digit b) false (width_from n side (10 * width + (b - 48)) rest) (behind_width side width (b ∷ rest)) digit
