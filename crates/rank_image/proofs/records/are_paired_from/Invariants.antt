use Rattle.std.proofs.Common.{◌≡◌, drop}
use Rattle.std.specs.List.{list_all}
use Rattle.rank_image.specs.Image.{is_paired_from}
use Rattle.rank_image.proofs.records.are_paired_from.Given as goal

abbrev pub invariant-loop-pair : goal.invariant-loop-pair
invariant-loop-pair l = list_all (is_paired_from l.ranks) l.pairs ≡ list_all (is_paired_from l.ranks) (drop l.pair-index l.pairs)
