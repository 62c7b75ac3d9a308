-- Which processors keep a rank, and which rank was lost with both of them. This profile's own.
use Rattle.std.specs.Prelude.{ℕ, ◌≡◌, ◌+◌, ◌<◌, ◌==◌, ◌&&◌, ◌/◌, ◌%◌, ◌^◌, not, nat_lt, if◌then◌else◌, Bool, true, false, List, [], ◌∷◌, length, get_or, Option, Some, None}
use Rattle.am_base.specs.declared.numbers.ProcId.{ProcId}
use Rattle.am_base.specs.declared.numbers.RankId.{RankId}
use Rattle.buddy_ckpt.specs.declared.keepers.Pair.{Pair}

-- whether bit p of the number is set, of 64 bits
unfoldable pub has : ℕ → ℕ → Bool
has set p = nat_lt p 64 && ((set / 2 ^ p) % 2 == 1)

-- both keepers of a rank are none of these processors
abbrev pub are_lost : ℕ → Pair → Bool
are_lost live k = not (has live k.saver.0) && not (has live k.buddy.0)

-- a rank, the processor that saved it, and that one's buddy
abbrev pub Lost : Type 0
Lost = RankId × ProcId × ProcId

-- the least rank, from a number on, whose keepers are both lost
abbrev pub lost_from : ℕ → ℕ → List Pair → Option Lost
lost_from live r [] = None
lost_from live r (k ∷ ks) =
    if are_lost live k then Some (record { 0 = r }, k.saver, k.buddy) else lost_from live (r + 1) ks

-- What is answered of lost ranks: no rank's keepers are both lost, or this is the least rank with such keepers.
pub record IsLeastLost (live : ℕ) (keepers : List Pair) (lost : Lost) : Type 0 where
  pub inside : lost.0.0 < length keepers
  pub keepers_are : (d : Pair) → (lost.1 ≡ (get_or keepers lost.0.0 d).saver) × (lost.2 ≡ (get_or keepers lost.0.0 d).buddy)
  pub both : are_lost live (record { saver = lost.1; buddy = lost.2 }) ≡ true
  pub least : (r : ℕ) (d : Pair) → r < lost.0.0 → are_lost live (get_or keepers r d) ≡ false

abbrev pub IsAnswer : ℕ → List Pair → Option Lost → Type 0
IsAnswer live keepers None = (r : ℕ) (d : Pair) → r < length keepers → are_lost live (get_or keepers r d) ≡ false
IsAnswer live keepers (Some lost) = IsLeastLost live keepers lost

-- What is computed is the answer.
abbrev pub LostIsLeast : Type 0
LostIsLeast = (live : ℕ) (keepers : List Pair) → IsAnswer live keepers (lost_from live 0 keepers)
