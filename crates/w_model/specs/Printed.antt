-- The lines that a rank printed so far: the whole lines of its text and, where it is ended or trapped, what is left behind them.
use Rattle.std.specs.Prelude.{ℕ, List, [], ◌∷◌, ◌++◌}
use Rattle.vm_code.specs.Stops.{Stop, Paused, Waits, Ended, Trapped}
use Rattle.rank_range.specs.Output.{lines_behind, part_behind}
use Rattle.c_model.specs.Outcome.{Outcome}

-- text without a newline is a line, if there is any
abbrev pub as_line : List ℕ → List (List ℕ)
as_line [] = []
as_line (b ∷ bs) = (b ∷ bs) ∷ []

-- the last line of a rank that stands so, with this rest of its text
abbrev pub last_line : Stop → List ℕ → List (List ℕ)
last_line (Ended status) rest = as_line rest
last_line (Trapped cause unit line) rest = as_line rest
last_line Paused rest = []
last_line (Waits call) rest = []

abbrev pub lines_of : Outcome → List (List ℕ)
lines_of o = lines_behind [] o.done.text ++ last_line o.stop (part_behind [] o.done.text)
