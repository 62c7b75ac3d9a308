use Rattle.std.proofs.Common.{subst, refl}
use Rattle.std.proofs.lemmas.List.{take_all}
use Rattle.std.proofs.lemmas.List.Elements.{All-more}
use Rattle.std.specs.List.{All}
use Rattle.rank_range.specs.Heap.{IsApart}
use Rattle.rank_range.proofs.heap.is_free.Goals as goal

pub loop-block-preserved : goal.loop-block-preserved
loop-block-preserved c =
    All-more (IsApart c.args.a c.args.length) c.args.blocks.now c.loop-block.block-index _ c.loop-block-test.true
    c.loop-block.invariant (c.if-not-is_apart.ensures.0 refl)

pub returns : goal.returns
returns c =
    let whole = take_all c.loop-block.block-index c.args.blocks.now c.loop-block-test.false in
    (λ t. subst (All (IsApart c.args.a c.args.length)) whole c.loop-block.invariant, λ a. refl)
