use Rattle.std.proofs.Common.{refl}
use Rattle.type_tests.proofs.Rolls.{need_first_rolls, need_behind_rolls, need_rolls, pending_rolls, lines_roll}
use Rattle.type_tests.proofs.turns_read.Goals as goal

pub returns : goal.returns
returns c = record {
  needs_are = simp (need_first_rolls, need_behind_rolls, need_rolls, pending_rolls) refl;
  lines_are = simp lines_roll refl;
}
