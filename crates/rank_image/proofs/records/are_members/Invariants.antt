use Rattle.std.proofs.Common.{◌≡◌, drop}
use Rattle.std.specs.List.{list_all}
use Rattle.rank_image.specs.Image.{is_rank}
use Rattle.rank_image.proofs.records.are_members.Given as goal

abbrev pub invariant-loop-member : goal.invariant-loop-member
invariant-loop-member l = list_all (is_rank l.ranks) l.members ≡ list_all (is_rank l.ranks) (drop l.member-index l.members)
