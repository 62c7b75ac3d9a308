use Rattle.std.proofs.Common.{◌+◌, ◌-◌, ◌∙◌, arith}
use Rattle.rank_range.proofs.PartLemmas.{copied}
use Rattle.rank_range.proofs.parts.copy_part.Goals as goal

pub returns : goal.returns
returns c =
    c.copy_within.ensures.after
    ∙ copied c.args.bytes.now c.args.to c.args.from c.args.n (c.args.from + c.args.n - c.args.from) c.requires.there (omega arith)
