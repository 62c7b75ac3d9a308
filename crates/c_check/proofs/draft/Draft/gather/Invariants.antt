use Rattle.std.proofs.Common.{◌≡◌, map, drop}
use Rattle.c_judge.specs.Gathered.{nothing}
use Rattle.c_judge.specs.Judging.{specifier}
use Rattle.c_check.specs.Declarations.{gathered}
use Rattle.c_check.proofs.draft.Draft.gather.Given as goal

abbrev pub invariant-loop-one : goal.invariant-loop-one
invariant-loop-one l =
    gathered (map specifier (drop l.one-index l.specifiers)) l.at l.gathered l.self ≡ gathered (map specifier l.specifiers) l.at nothing l.fn.self
