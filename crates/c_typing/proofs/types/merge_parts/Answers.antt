use Rattle.std.proofs.Common.{◌≡◌, refl, sym, ap, ◌∙◌}
use Rattle.c_typing.proofs.MergeLemmas.{merged_none, merges_on, merges_end}
use Rattle.c_typing.proofs.types.merge_parts.Goals as goal
use Rattle.c_typing.proofs.types.merge_parts.Goals.{in-Some, in_default}

pub loop-part-init : goal.loop-part-init
loop-part-init c = (refl, sym (merged_none _))

pub loop-part-preserved : goal.loop-part-preserved
loop-part-preserved c = elim c.match-copied.branch [
  | in-Some w ↦
      merges_on _ _ _ _ _ _ _ _ _ c.loop-part.invariant.0 c.loop-part.invariant.1 c.loop-part-test.true
      (cc (c.get.ensures.value, c.copied.ensures, w.in-Some.is)) w.merged_part.ensures (w.a-is ∙ w.set.ensures)
  | in_default w ↦
      merges_end _ _ _ _ _ _ c.loop-part.invariant.0 c.loop-part.invariant.1
      (cc (c.get.ensures.value, c.copied.ensures, w.in_default.is)) w.a-is
]
