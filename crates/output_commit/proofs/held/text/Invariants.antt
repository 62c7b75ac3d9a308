use Rattle.std.proofs.Common.{◌≡◌, ◌++◌, take}
use Rattle.am_base.specs.Released.{released_lines}
use Rattle.output_commit.proofs.held.text.Given as goal

abbrev pub invariant-loop-line : goal.invariant-loop-line
invariant-loop-line l = l.out ≡ l.fn.out ++ released_lines l.r.0 (take l.line-index l.lines)
