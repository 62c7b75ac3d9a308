use Rattle.std.proofs.Common.{refl}
use Rattle.c_types.specs.Segment.{segment_bytes, segment_fixes, offset_of}
use Rattle.rank_range.specs.Numbers.{with_number}
use Rattle.type_tests.proofs.Rolls.{need_first_rolls, need_behind_rolls, need_rolls, pending_rolls, calls_first_roll, calls_behind_roll, calls_roll, lines_roll}
use Rattle.type_tests.proofs.ring_reads.Goals as goal

pub returns : goal.returns
unfolding segment_bytes segment_fixes offset_of with_number
returns c = record {
  needs_are = simp (need_first_rolls, need_behind_rolls, need_rolls, pending_rolls) refl;
  lines_are = simp lines_roll refl;
  calls_are = simp (calls_first_roll, calls_behind_roll, calls_roll) refl;
  bytes_are = refl;
  fixes_are = refl;
  offset_is = refl;
}
