use Rattle.std.proofs.Common.{◌≡◌, drop}
use Rattle.c_check.specs.Labels.{has_case}
use Rattle.c_check.proofs.labels.has_case.Given as goal

abbrev pub invariant-loop-case : goal.invariant-loop-case
invariant-loop-case l = has_case (drop l.case-index l.cases) l.value ≡ has_case l.fn.cases l.fn.value
