use Rattle.std.proofs.Common.{◌≡◌, drop}
use Rattle.c_judge.specs.Judging.{has_const}
use Rattle.c_judge.proofs.typing.has_const.Given as goal

abbrev pub invariant-loop-qualifier : goal.invariant-loop-qualifier
invariant-loop-qualifier l = has_const (drop l.qualifier-index l.qualifiers) ≡ has_const l.qualifiers
