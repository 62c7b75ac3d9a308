use Rattle.std.proofs.Common.{◌∙◌, ap, arith}
use Rattle.collectives.specs.Held.{place_of}
use Rattle.collectives.proofs.HeldLemmas.{place_within, put_is}
use Rattle.collectives.proofs.order.put.Goals as goal

pub insert-requires : goal.insert-requires
insert-requires c =
    omega (arith, place_within c.args.message c.deref.result.now, c.place_of-place.ensures, c.deref.ensures.len)

pub returns : goal.returns
returns c =
    c.from_vec.ensures ∙ (c.in_ok-insert.ensures.items
    ∙ put_is c.args.message c.args.tree c.into_vec-messages.result.items c.place_of-place.result c.into_vec-messages.ensures
    (c.place_of-place.ensures ∙ ap (place_of c.args.message) c.deref.ensures.value))
