use Rattle.std.proofs.Common.{◌≡◌, drop}
use Rattle.std.specs.List.{list_all}
use Rattle.rank_image.specs.Image.{has_members}
use Rattle.rank_image.proofs.records.have_members.Given as goal

abbrev pub invariant-loop-communicator : goal.invariant-loop-communicator
invariant-loop-communicator l = list_all (has_members l.ranks) l.communicators ≡ list_all (has_members l.ranks) (drop l.communicator-index l.communicators)
