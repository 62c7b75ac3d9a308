use Rattle.std.proofs.Common.{◌∙◌, ◌+◌, ◌-◌, ◌<◌, length, ◌++◌, ◌∷◌, [], refl, sym, ap, arith, append_assoc, append-nil}
use Rattle.rank_range.specs.Parts.{part}
use Rattle.rank_image.proofs.Filling.{part_none, part_more}
use Rattle.rank_image.proofs.memory.put_bytes.Goals as goal

pub loop-at-init : goal.loop-at-init
loop-at-init g c =
    let bytes = g.M.Mem.bytes_of c.args.memory.now in
    sym (ap (λ z. c.args.out.now ++ z) (part_none bytes c.args.from (c.args.from - c.args.from) (omega arith)) ∙ append-nil c.args.out.now)

pub loop-at-preserved : goal.loop-at-preserved
loop-at-preserved g c =
    let bytes = g.M.Mem.bytes_of c.args.memory.now in
    let at = c.loop-at.at in
    let from = c.args.from in
    let inside : at < length bytes = omega (arith, c.loop-at-test.true, c.requires.high, c.top-top.ensures.range.whole) in
    c.in_ok-push.ensures.ok ∙ ap (λ z. z ++ c.raw.result ∷ []) c.loop-at.invariant
    ∙ append_assoc c.args.out.now (part bytes from (at - from)) (c.raw.result ∷ [])
    ∙ ap (λ z. c.args.out.now ++ z)
    (sym (part_more bytes from at (at - from) (at + 1 - from) c.raw.result (omega (arith, c.loop-at.auto.at)) refl refl inside c.raw.ensures.value))
