use Rattle.std.proofs.Common.{◌+◌, ◌-◌, arith}
use Rattle.rank_range.proofs.PartLemmas.{part_is}
use Rattle.rank_image.proofs.memory.part_of.Goals as goal

pub returns : goal.returns
returns c = part_is c.args.bytes.now c.args.at c.args.n (c.args.at + c.args.n - c.args.at) (omega arith)
