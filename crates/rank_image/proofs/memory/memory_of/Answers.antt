use Rattle.std.proofs.Common.{◌∙◌}
use Rattle.rank_image.proofs.Filling.{filled_none, filled_same}
use Rattle.rank_image.proofs.memory.memory_of.Goals as goal

pub returns-clause-bytes : goal.returns-clause-bytes
returns-clause-bytes g c =
    c.set_top.ensures.bytes
    ∙ filled_same (g.M.Mem.bytes_of c.fill_bytes-2.new.memory) c.args.bytes.now c.top-whole.ensures.range.whole c.requires.whole c.fill_bytes-2.ensures.filled
