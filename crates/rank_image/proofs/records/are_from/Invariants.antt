use Rattle.std.proofs.Common.{◌≡◌, drop}
use Rattle.std.specs.List.{list_all}
use Rattle.rank_image.specs.Image.{is_from}
use Rattle.rank_image.proofs.records.are_from.Given as goal

abbrev pub invariant-loop-message : goal.invariant-loop-message
invariant-loop-message l = list_all (is_from l.ranks) l.messages ≡ list_all (is_from l.ranks) (drop l.message-index l.messages)
