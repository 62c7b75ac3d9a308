use Rattle.std.proofs.Common.{◌∙◌, ap, sym, arith}
use Rattle.rank_range.specs.Areas.{areas_of}
use Rattle.mpi_types.specs.declared.call.Write.{Write}
use Rattle.mpi_rules.specs.Places.{written_one}
use Rattle.mpi_call.proofs.WriteLemmas.{written_next, written_none, leaves_both}
use Rattle.mpi_call.proofs.places.write_all.Goals as goal

pub loop-write-preserved : goal.loop-write-preserved
loop-write-preserved g c =
    let before = areas_of (g.M.Mem.rank_of c.loop-write.m) (g.M.Mem.top_of c.loop-write.m) (g.M.Mem.bytes_of c.loop-write.m) in
    let after = areas_of (g.M.Mem.rank_of c.write_one.new.m) (g.M.Mem.top_of c.write_one.new.m) (g.M.Mem.bytes_of c.write_one.new.m) in (
      written_next before after c.args.writes.now c.loop-write.write-index c.write-item.result (omega arith)
          (c.write_one.ensures.areas ∙ ap (written_one before c.write-item.result.address) c.as_slice.ensures
          ∙ ap (λ (w : Write). written_one before w.address w.bytes) c.write-item.is) ∙ c.loop-write.invariant.0,
      leaves_both _ _ _ _ _ _ _ _ _ _ _ _ c.loop-write.invariant.1 c.write_one.ensures.leaves,
    )

pub returns-clause-areas : goal.returns-clause-areas
returns-clause-areas g c =
    let now = areas_of (g.M.Mem.rank_of c.loop-write.m) (g.M.Mem.top_of c.loop-write.m) (g.M.Mem.bytes_of c.loop-write.m) in
    sym (written_none now c.args.writes.now c.loop-write.write-index (omega arith)) ∙ c.loop-write.invariant.0
