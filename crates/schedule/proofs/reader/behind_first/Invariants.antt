use Rattle.std.proofs.Common.{◌≡◌, ◌+◌, ◌≤◌, length}
use Rattle.schedule.specs.Reading.{opened, lines_of}
use Rattle.schedule.proofs.reader.behind_first.Given as goal

abbrev pub invariant-loop-rest : goal.invariant-loop-rest
invariant-loop-rest l = record {
  so_far : opened l.passed (lines_of l.rest) ≡ opened 0 (lines_of l.text);
  few : l.passed + length l.rest ≤ length l.text;
}

abbrev pub decreases-loop-rest : goal.decreases-loop-rest
decreases-loop-rest l = length l.rest
