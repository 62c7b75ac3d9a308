use Rattle.std.proofs.Common.{◌≡◌, ◌∙◌, ◌+◌, min, refl, arith, length-set}
use Rattle.std.specs.Prelude.{slice_index, slice_index_or, slice_set}
use Rattle.std.proofs.lemmas.List.{get_or_default}
use Rattle.rank_image.proofs.Counts.{counted_more}
use Rattle.rank_image.proofs.heap.count_in.Goals as goal

pub loop-i-preserved : goal.loop-i-preserved
loop-i-preserved c =
    let number = slice_index_or c.args.nodes.now c.loop-i.i 0 in
    let small = c.requires.inside c.loop-i.i 0 c.loop-i-test.true in
    let counts = c.loop-i.counts.items in
    let read = c.index.ensures ∙ get_or_default counts number c.index.result.now 0 (omega (arith, c.loop-i.invariant.0, small)) in
    let more : c.saturating_add.result ≡ min 255 (slice_index counts number + 1) = omega (arith, c.saturating_add.ensures, read) in (
      length-set counts number c.saturating_add.result ∙ c.loop-i.invariant.0,
      counted_more counts c.args.counts.now.items c.args.nodes.now _ c.loop-i.i number c.saturating_add.result c.loop-i.invariant.0
          c.loop-i.invariant.1 c.loop-i-test.true refl small more refl,
    )
