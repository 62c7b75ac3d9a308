use Rattle.std.proofs.Common.{refl, ◌∙◌}
use Rattle.rank_image.proofs.Chains.{used_is, unused_is, sound_with, if_ok_by}
use Rattle.rank_image.proofs.heap.is_sound_heap.Goals as goal

pub returns : goal.returns
returns c =
    if_ok_by c.has_nodes-sound.result _ _
    (λ b told. sound_with c.args.bytes.now c.as_slice.result.now c.as_slice-2.result.now b told
    (c.as_slice.ensures.value ∙ used_is c.args.bytes.now c.in_ok-used.used.items _ c.first_node.result c.in_ok-used.ensures.nodes refl c.first_node.ensures)
    (c.as_slice-2.ensures.value ∙ unused_is c.args.bytes.now c.in-Ok.unused.items _ c.first_unused.result c.in-Ok.ensures.nodes refl c.first_unused.ensures))
    c.has_nodes-sound.ensures
