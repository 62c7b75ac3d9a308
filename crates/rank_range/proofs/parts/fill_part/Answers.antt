use Rattle.std.proofs.Common.{◌+◌, ◌-◌, arith}
use Rattle.rank_range.proofs.PartLemmas.{filled}
use Rattle.rank_range.proofs.parts.fill_part.Goals as goal

pub returns : goal.returns
returns c =
    filled c.args.bytes.now c.fill.new.self c.args.at c.args.n (c.args.at + c.args.n - c.args.at) c.args.byte (omega arith) c.requires
    (c.fill.ensures.after (λ y same. same))
