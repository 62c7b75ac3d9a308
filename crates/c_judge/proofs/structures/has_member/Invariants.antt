use Rattle.std.proofs.Common.{◌≡◌, drop}
use Rattle.c_judge.specs.Structures.{has_member}
use Rattle.c_judge.proofs.structures.has_member.Given as goal

abbrev pub invariant-loop-member : goal.invariant-loop-member
invariant-loop-member l = has_member (drop l.member-index l.members) l.name ≡ has_member l.members l.name
