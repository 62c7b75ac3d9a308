use Rattle.std.proofs.Common.{◌≡◌, drop}
use Rattle.c_check.specs.Units.{with_all_complete}
use Rattle.c_check.proofs.draft.Draft.complete_all.Given as goal

abbrev pub invariant-loop-one : goal.invariant-loop-one
invariant-loop-one l = with_all_complete l.begun (drop l.one-index l.all) l.self ≡ with_all_complete l.begun l.all l.fn.self
