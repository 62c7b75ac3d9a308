use Rattle.std.proofs.Common.{refl}
use Rattle.rank_range.specs.Layout.{globals_start, heap_start, stack_start, range_bytes}
use Rattle.rank_image.proofs.Merging.{on_ok_by}
use Rattle.rank_image.proofs.Filling.{written_in_parts}
use Rattle.rank_image.proofs.memory.put_memory.Goals as goal

pub returns : goal.returns
returns g c =
    on_ok_by c.put_bytes-2.result _ _
    (λ last. written_in_parts (g.M.Mem.bytes_of c.args.memory.now) c.args.out.now c.put_bytes.new.out c.put_area.new.out c.put_area-2.new.out
    c.put_bytes-2.new.out globals_start heap_start stack_start range_bytes _ _ _ _ c.top-top.ensures.range.whole c.in_ok-put_bytes.ensures
    c.in_ok-put_area.ensures c.in_ok-put_area-2.ensures last refl refl refl refl)
    c.put_bytes-2.ensures
