use Rattle.std.proofs.Common.{rules}
use Rattle.std.proofs.lemmas.List.Sorted.{answers_always}
use Rattle.comms.proofs.OrderLemmas.{new_order_is, key_of}
use Rattle.comms.proofs.making.in_new_order.Goals as goal

pub returns : goal.returns
returns c =
    new_order_is _ _ _ c.requires (search rules)
    (c.sort_unstable_by_key.ensures.sorted key_of (answers_always _ _ _ (λ f a r q k. search rules)))
