use Rattle.std.proofs.Common.{rules, ◌≡◌, length, ap, ◌∙◌}
use Rattle.std.specs.Vec.Iter.{into_iter_items, into_iter_len}
use Rattle.std.proofs.lemmas.Iterator.{items_from_collect}
use Rattle.std.proofs.lemmas.Iterator.Adapters.{YieldsList-from_vec, YieldsList-from_skip}
use Rattle.ampi.proofs.host.words_of.Goals as goal

pub returns-in-Ok-clause-told : goal.returns-in-Ok-clause-told
returns-in-Ok-clause-told c =
    let items = ap into_iter_items c.skip.ensures.source in
    let len : into_iter_len c.in-Ok.args ≡ length (into_iter_items c.in-Ok.args) = search rules in
    let all = YieldsList-from_vec (into_iter_items c.in-Ok.args) items (ap into_iter_len c.skip.ensures.source ∙ len) in
    rw c.in-Ok.is (items_from_collect c.collect.result c.collect.ensures.ran (YieldsList-from_skip 1 all c.skip.ensures.count))
