use Rattle.std.proofs.Common.{◌≡◌, length, map, string_bytes}
use Rattle.run_words.specs.steps.Reading.{nothing_said, said_with}
use Rattle.run_words.specs.steps.Views.{said_by}
use Rattle.run_words.proofs.reading.found_in.Given as goal

abbrev pub invariant-loop-word : goal.invariant-loop-word
invariant-loop-word l =
    said_with (map string_bytes l.rest) (said_by l.found) ≡ said_with (map string_bytes l.fn.words) nothing_said

abbrev pub decreases-loop-word : goal.decreases-loop-word
decreases-loop-word l = length l.rest
