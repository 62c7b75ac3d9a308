use Rattle.std.proofs.Common.{◌≡◌, ◌++◌, length, map, string_bytes}
use Rattle.run_words.specs.steps.Reading.{files_in}
use Rattle.run_words.proofs.reading.files_in.Given as goal

-- the names so far and those among the words that are left are all
abbrev pub invariant-loop-word : goal.invariant-loop-word
invariant-loop-word l =
    map string_bytes l.files.items ++ files_in (map string_bytes l.rest) ≡ files_in (map string_bytes l.fn.parts)

abbrev pub decreases-loop-word : goal.decreases-loop-word
decreases-loop-word l = length l.rest
