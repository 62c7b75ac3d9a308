use Rattle.std.proofs.Common.{◌+◌, ◌-◌, ◌∙◌, ap, arith}
use Rattle.rank_range.specs.Layout.{base_of}
use Rattle.rank_range.specs.Parts.{with_part}
use Rattle.rank_image.proofs.Filling.{filled_part}
use Rattle.rank_image.proofs.memory.fill_area.Goals as goal

pub returns-in-Ok-clause-filled : goal.returns-in-Ok-clause-filled
returns-in-Ok-clause-filled g c =
    let old = g.M.Mem.bytes_of c.args.memory.now in
    let whole = c.top-top.ensures.range.whole in
    let place = c.base.result + c.args.from - base_of (g.M.Mem.rank_of c.args.memory.now) in
    filled_part old (g.M.Mem.bytes_of c.write.new.self) c.args.bytes.now c.args.from place (c.args.to - c.args.from) c.args.to c.requires.before
    (c.in-Ok.ensures.bytes ∙ ap (λ z. with_part old place z) c.part_of.ensures)
    (omega (arith, c.base.ensures, c.rank.ensures.value)) (omega (arith, whole, c.requires.low, c.requires.high))
    (omega (arith, c.requires.whole, c.requires.low, c.requires.high)) (omega (arith, c.requires.low))
