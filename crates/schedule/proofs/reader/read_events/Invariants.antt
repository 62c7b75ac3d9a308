use Rattle.std.proofs.Common.{◌≡◌, ◌+◌, ◌≤◌, length, []}
use Rattle.schedule.specs.Reading.{answer_behind, lines_of}
use Rattle.schedule.proofs.reader.read_events.Given as goal

abbrev pub invariant-loop-rest : goal.invariant-loop-rest
invariant-loop-rest l = record {
  so_far : answer_behind l.number l.events.items (lines_of l.rest) ≡ answer_behind l.fn.passed [] (lines_of l.text);
  few : l.number + length l.rest ≤ l.fn.passed + length l.text;
}

abbrev pub decreases-loop-rest : goal.decreases-loop-rest
decreases-loop-rest l = length l.rest
