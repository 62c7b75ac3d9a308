use Rattle.std.proofs.Common.{◌∙◌}
use Rattle.rank_range.proofs.ChangeLemmas.{keeps_both}
use Rattle.isomalloc.proofs.Top.{some_heap}
use Rattle.isomalloc.proofs.Seen.{cleared, others_stay, none_live}
use Rattle.isomalloc.proofs.heap.setup.Goals as goal

pub write_fresh-requires : goal.write_fresh-requires
write_fresh-requires g c =
    cleared (g.M.Mem.bytes_of c.args.memory.now) (g.M.Mem.bytes_of c.clear.new.memory) (g.M.Mem.bytes_of c.clear-2.new.memory)
    c.clear.ensures.zero c.clear-2.ensures.beside c.clear-2.ensures.zero
    (c.clear-2.ensures.kept.whole ∙ c.clear.ensures.kept.whole ∙ c.top-top.ensures.range.whole)

pub returns-clause-heap : goal.returns-clause-heap
returns-clause-heap g c =
    some_heap (g.M.Mem.rank_of c.clear-2.new.memory) _ (g.M.Mem.bytes_of c.write_fresh.new.memory) _ c.write_fresh.ensures.kept.owner c.write_fresh.ensures.spelled

pub returns-clause-none : goal.returns-clause-none
returns-clause-none g c =
    none_live (g.M.Mem.rank_of c.clear-2.new.memory) _ (g.M.Mem.bytes_of c.write_fresh.new.memory) c.write_fresh.ensures.kept.owner c.write_fresh.ensures.spelled

pub returns-clause-stays : goal.returns-clause-stays
returns-clause-stays g c =
    others_stay (g.M.Mem.bytes_of c.args.memory.now) (g.M.Mem.bytes_of c.clear.new.memory) (g.M.Mem.bytes_of c.clear-2.new.memory)
    (g.M.Mem.bytes_of c.write_fresh.new.memory) c.clear.ensures.beside c.clear-2.ensures.beside c.write_fresh.ensures.stays

pub returns-clause-kept : goal.returns-clause-kept
returns-clause-kept g c =
    keeps_both _ _ _ _ _ _ _ (g.M.Mem.bytes_of c.clear-2.new.memory) _ _ (g.M.Mem.marks_of c.clear-2.new.memory) _
    (keeps_both _ _ _ _ _ _ _ (g.M.Mem.bytes_of c.clear.new.memory) _ _ (g.M.Mem.marks_of c.clear.new.memory) _ c.clear.ensures.kept c.clear-2.ensures.kept)
    c.write_fresh.ensures.kept
