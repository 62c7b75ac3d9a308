use Rattle.std.proofs.Common.{◌≡◌, drop}
use Rattle.c_typing.specs.Places.{found_member}
use Rattle.c_typing.proofs.places.found_member.Given as goal

abbrev pub invariant-loop-member : goal.invariant-loop-member
invariant-loop-member l = found_member (drop l.member-index l.members) l.name ≡ found_member l.members l.name
