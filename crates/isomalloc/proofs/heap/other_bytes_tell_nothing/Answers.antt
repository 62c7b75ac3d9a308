use Rattle.isomalloc.proofs.Top.{others_keep}
use Rattle.isomalloc.proofs.heap.other_bytes_tell_nothing.Goals as goal

pub returns : goal.returns
returns c = others_keep
