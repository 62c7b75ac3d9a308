use Rattle.std.proofs.Common.{◌+◌, ◌-◌, length, ap, ◌∙◌, arith}
use borrow.Rule.Slice.PartMut.{put_mid}
use Rattle.rank_range.proofs.PartLemmas.{put_is}
use Rattle.rank_range.proofs.parts.put_part.Goals as goal

pub returns : goal.returns
returns c =
    let k = c.args.at + length c.args.new.now - c.args.at in
    ap (put_mid c.args.at k c.args.bytes.now) c.copy_from_slice.ensures.after
    ∙ put_is c.args.bytes.now c.args.new.now c.args.at k (omega arith)
