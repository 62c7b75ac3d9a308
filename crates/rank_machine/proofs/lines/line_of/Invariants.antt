use Rattle.rank_machine.proofs.LineLemmas.{SameLine}
use Rattle.rank_machine.proofs.lines.line_of.Given as goal

-- the line is that of a trap here
abbrev pub invariant-loop-at : goal.invariant-loop-at
invariant-loop-at l = SameLine l.code l.place l.at

abbrev pub decreases-loop-at : goal.decreases-loop-at
decreases-loop-at l = l.at
