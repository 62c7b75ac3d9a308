use Rattle.std.proofs.Common.{◌≡◌, length}
use Rattle.rank_range.specs.Library.{atoi_value}
use Rattle.c_lib.proofs.texts.atoi_bits.Given as goal

abbrev pub invariant-loop-rest : goal.invariant-loop-rest
invariant-loop-rest l = atoi_value l.rest ≡ atoi_value l.bytes

abbrev pub decreases-loop-rest : goal.decreases-loop-rest
decreases-loop-rest l = length l.rest
