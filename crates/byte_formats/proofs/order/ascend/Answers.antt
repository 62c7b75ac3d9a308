use Rattle.byte_formats.proofs.ListLemmas.{sorted_ascends}
use Rattle.byte_formats.proofs.order.ascend.Goals as goal

pub returns : goal.returns
returns g c = λ test computes. sorted_ascends test c.args.items.now c.is_sorted_by.result (c.is_sorted_by.ensures.cases test computes)
