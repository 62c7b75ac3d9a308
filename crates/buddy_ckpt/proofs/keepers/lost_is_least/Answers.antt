use Rattle.buddy_ckpt.proofs.KeeperLemmas.{lost_is_least}
use Rattle.buddy_ckpt.proofs.keepers.lost_is_least.Goals as goal

pub returns : goal.returns
returns c = lost_is_least
