use Rattle.std.proofs.Common.{◌+◌, ◌∙◌, refl, arith, rules}
use Rattle.std.specs.Prelude.{slice_index}
use Rattle.rank_image.proofs.Filling.{filled_byte}
use Rattle.rank_image.proofs.memory.fill_bytes.Goals as goal

pub loop-at-preserved : goal.loop-at-preserved
loop-at-preserved g c = (
  filled_byte (g.M.Mem.bytes_of c.loop-at.memory) (g.M.Mem.bytes_of c.set_raw.new.self) c.args.bytes.now c.loop-at.at
      (slice_index c.args.bytes.now c.loop-at.at) (c.loop-at.at + 1) c.loop-at.invariant.0 c.set_raw.ensures.bytes
      (omega (arith, c.top-top.ensures.range.whole, c.requires.high, c.loop-at-test.true)) refl
      (let h = c.type_inv.bytes c.loop-at.at in search rules) refl,
  c.set_raw.ensures.owner ∙ c.loop-at.invariant.1,
  λ page below marked. c.set_raw.ensures.marks.kept page below (c.loop-at.invariant.2 page below marked),
)
