use Rattle.std.proofs.Common.{rules}
use Rattle.std.proofs.lemmas.List.Sorted.{answers_always}
use Rattle.balancers.proofs.StandingLemmas.{heaviest_first_is, key_of}
use Rattle.balancers.proofs.spreading.heaviest_first.Goals as goal

pub returns-clause-sorted : goal.returns-clause-sorted
returns-clause-sorted c =
    heaviest_first_is _ (c.sort_unstable_by_key.ensures.sorted key_of (answers_always _ _ _ (λ f a r q k. search rules)))
