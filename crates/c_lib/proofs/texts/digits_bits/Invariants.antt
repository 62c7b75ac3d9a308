use Rattle.std.proofs.Common.{◌≡◌, ◌%◌, ◌^◌, ℕ, length}
use Rattle.std.specs.Prelude.{option_map}
use Rattle.rank_range.specs.Library.{digits_value}
use Rattle.c_lib.proofs.texts.digits_bits.Given as goal

abbrev pub invariant-loop-rest : goal.invariant-loop-rest
invariant-loop-rest l =
    option_map (λ (n : ℕ). n % 2 ^ 32) (digits_value l.bits l.rest) ≡ option_map (λ (n : ℕ). n % 2 ^ 32) (digits_value 0 l.bytes)

abbrev pub decreases-loop-rest : goal.decreases-loop-rest
decreases-loop-rest l = length l.rest
