use Rattle.std.proofs.Common.{ℕ, List, ◌∙◌, inl, inr, slice_index, ap, arith}
use Rattle.rank_range.specs.Nodes.{blocks_of}
use Rattle.rank_range.proofs.NumberLemmas.{byte_stays}
use Rattle.isomalloc.proofs.Top.{others_tell_nothing, some_heap}
use Rattle.whole_tests.proofs.heaps.write_in_heap.Goals as goal

pub returns : goal.returns
returns g c =
    let size = c.rank-rank.ensures.range.whole in
    some_heap (g.M.Mem.rank_of c.args.memory.now) _ (g.M.Mem.bytes_of c.set_raw.new.self) _ c.set_raw.ensures.owner
    (others_tell_nothing (g.M.Mem.rank_of c.args.memory.now) (g.M.Mem.bytes_of c.args.memory.now) (g.M.Mem.bytes_of c.set_raw.new.self) (blocks_of (g.M.Mem.rank_of c.args.memory.now) (g.M.Mem.bytes_of c.args.memory.now))
    (λ i there.
    ap (λ (bytes : List ℕ). slice_index bytes i) c.set_raw.ensures.bytes
    ∙ byte_stays (g.M.Mem.bytes_of c.args.memory.now) c.args.at 8 18446744073709551615 i (omega (arith, size, c.requires.high))
    (inl (elim there [ inl low ↦ omega (arith, low, c.requires.low) | inr nodes ↦ omega (arith, nodes.1, c.requires.low) ])))
    c.requires.heap)
