use Rattle.std.proofs.Common.{◌≡◌, drop}
use Rattle.c_check.specs.Units.{with_externals}
use Rattle.c_check.proofs.draft.Draft.externals.Given as goal

abbrev pub invariant-loop-external : goal.invariant-loop-external
invariant-loop-external l =
    with_externals l.lines (drop l.external-index l.externals) l.self ≡ with_externals l.lines l.externals l.fn.self
