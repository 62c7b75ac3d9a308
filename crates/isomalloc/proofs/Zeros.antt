-- Bytes that are put to zero.
use Rattle.std.proofs.Common.{◌≡◌, ℕ, zero, suc, ◌+◌, ◌-◌, ◌*◌, ◌<◌, ◌≤◌, inl, inr, Bool, List, [], ◌∷◌, ◌++◌, ◌∙◌, length, get_or, take, drop, slice_index, refl, ap, arith}
use Rattle.std.specs.Prelude.{⊤}
use Rattle.std.proofs.lemmas.Bool.{cases_lt}
use Rattle.std.proofs.Math.ListN.{get_or-append}
use Rattle.std.proofs.lemmas.List.{get_or-append_right, length-take-le}
use Rattle.byteorder.specs.Endian.{little_bytes}
use Rattle.rank_range.specs.Numbers.{with_number}
use Rattle.isomalloc.specs.Heap.{AreZero}
use Rattle.rank_range.specs.Parts.{StayBeside, Keeps}
use Rattle.rank_range.proofs.ChangeLemmas.{beside_one, beside_both, keeps_both, keeps_none}

abbrev AllZero : List ℕ → Type 0
AllZero [] = ⊤
AllZero (x ∷ xs) = (x ≡ 0) × AllZero xs

zero_at : (xs : List ℕ) → AllZero xs → (k : ℕ) → get_or xs k 0 ≡ 0
zero_at [] zeros k = refl
zero_at (x ∷ xs) zeros zero = zeros.0
zero_at (x ∷ xs) zeros (suc k) = zero_at xs zeros.1 k

eight_zeros : (k : ℕ) → get_or (little_bytes 8 0) k 0 ≡ 0
eight_zeros = zero_at (little_bytes 8 0) (refl, (refl, (refl, (refl, (refl, (refl, (refl, (refl, tt))))))))

zero_byte : (old new : List ℕ) (at j : ℕ) → new ≡ with_number old at 8 0 → at + 8 ≤ length old → at ≤ j → j < at + 8
    → slice_index new j ≡ 0
unfolding with_number
zero_byte old new at j put room low high =
    let front : length (take at old) ≡ at = length-take-le at old (omega (arith, room)) in
    ap (λ (bytes : List ℕ). slice_index bytes j) put
    ∙ get_or-append_right (take at old) (little_bytes 8 0 ++ drop (at + 8) old) at j 0 front low
    ∙ get_or-append (little_bytes 8 0) (drop (at + 8) old) 0 (j - at) (omega (arith, low, high))
    ∙ eight_zeros (j - at)

-- So many words of eight bytes are zero.
pub record Cleared (old_rank new_rank old_top new_top : ℕ) (old new : List ℕ) (old_marks new_marks : ℕ → Bool) (at end words : ℕ) : Type 0 where
  pub zero : AreZero new at (8 * words)
  pub beside : StayBeside old new at end
  pub kept : Keeps old_rank new_rank old_top new_top old new old_marks new_marks

pub cleared_more : (r s t i j k : ℕ) (old mid new : List ℕ) (old_marks mid_marks new_marks : ℕ → Bool) (at end words : ℕ)
    → new ≡ with_number mid (at + 8 * words) 8 0 → end ≤ length old → at + 8 * words + 8 ≤ end
    → Cleared r s i j old mid old_marks mid_marks at end words → Keeps s t j k mid new mid_marks new_marks
    → Cleared r t i k old new old_marks new_marks at end (words + 1)
cleared_more r s t i j k old mid new old_marks mid_marks new_marks at end words put room inside before kept =
    let size = before.kept.whole in
    let here = at + 8 * words in
    let fits : here + 8 ≤ length mid = omega (arith, size, room, inside) in
    let step = beside_one mid new here 8 0 here (here + 8) put fits (omega arith) (omega arith) in
    let wide = beside_one mid new here 8 0 at end put fits (omega arith) (omega (arith, inside)) in
    record {
      zero = λ n below.
          elim (cases_lt n (8 * words)) [
            | inl low ↦ step.at (at + n) (inl (omega (arith, low))) ∙ before.zero n low
            | inr high ↦ zero_byte mid new here (at + n) put fits (omega (arith, high)) (omega (arith, below))
          ];
      beside = beside_both old mid new at end before.beside wide;
      kept = keeps_both r s t i j k old mid new old_marks mid_marks new_marks before.kept kept;
    }

pub cleared_none : (r i : ℕ) (bytes : List ℕ) (marks : ℕ → Bool) (at end : ℕ) → Cleared r r i i bytes bytes marks marks at end 0
cleared_none r i bytes marks at end = record {
  zero = λ n below. absurd (omega (arith, below));
  beside = record { at = λ n apart. refl };
  kept = keeps_none r i bytes marks;
}
