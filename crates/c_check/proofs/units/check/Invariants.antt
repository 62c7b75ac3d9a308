use Rattle.std.proofs.Common.{◌≡◌, drop}
use Rattle.c_check.specs.Units.{checked_behind, start}
use Rattle.c_check.proofs.units.check.Given as goal

abbrev pub invariant-loop-source : goal.invariant-loop-source
invariant-loop-source l = checked_behind (drop l.source-index l.sources) l.unit l.draft ≡ checked_behind l.sources 0 start
