use Rattle.std.proofs.Common.{refl, rules}
use Rattle.rank_range.proofs.HeapLemmas.{found_at, none_found}
use Rattle.rank_range.proofs.heap.first_fit.Goals as goal

pub returns-then-is_free : goal.returns-then-is_free
returns-then-is_free c =
    found_at c.args.rank.0 c.args.blocks.now c.args.size c.loop-unit.unit c.base.result c.rounded_size-length.result
    c.base.ensures c.rounded_size-length.ensures (search rules) (search rules) c.loop-unit.invariant c.loop-unit-test.true (c.if-is_free.ensures.0 refl)

pub returns : goal.returns
returns c =
    none_found c.args.rank.0 c.args.blocks.now c.args.size c.loop-unit.unit c.rounded_size-length.result
    c.rounded_size-length.ensures c.loop-unit.invariant c.loop-unit-test.false
