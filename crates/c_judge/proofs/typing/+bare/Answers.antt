use Rattle.c_judge.proofs.TypeTrees.{bare_then, bare_else}
use Rattle.c_judge.proofs.typing.+bare.Goals as goal

pub is_bare-returns-then-is_empty : goal.is_bare-returns-then-is_empty
is_bare-returns-then-is_empty t c =
    bare_then _ _ _ _ c.as_slice.ensures c.is_empty.ensures c.if-is_empty.true c.is_bare_direct.ensures

pub is_bare-returns-else-is_empty : goal.is_bare-returns-else-is_empty
is_bare-returns-else-is_empty t c = bare_else _ _ _ c.as_slice.ensures c.is_empty.ensures c.if-is_empty.false
