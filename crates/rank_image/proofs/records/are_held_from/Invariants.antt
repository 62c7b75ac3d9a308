use Rattle.std.proofs.Common.{◌≡◌, drop}
use Rattle.std.specs.List.{list_all}
use Rattle.rank_image.specs.Image.{is_held_from}
use Rattle.rank_image.proofs.records.are_held_from.Given as goal

abbrev pub invariant-loop-one : goal.invariant-loop-one
invariant-loop-one l = list_all (is_held_from l.ranks) l.held ≡ list_all (is_held_from l.ranks) (drop l.one-index l.held)
