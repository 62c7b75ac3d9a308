use Rattle.std.proofs.Common.{◌∙◌, ap, arith}
use Rattle.packet.specs.Turns.{place_of}
use Rattle.packet.proofs.TurnLemmas.{place_within, put_is}
use Rattle.packet.proofs.turns.put_held.Goals as goal

pub insert-requires : goal.insert-requires
insert-requires c = omega (arith, place_within c.args.h c.deref.result.now, c.place_of-place.ensures, c.deref.ensures.len)

pub returns : goal.returns
returns c =
    c.from_vec.ensures ∙ (c.in_ok-insert.ensures.items
    ∙ put_is c.args.h c.args.held c.into_vec-messages.result.items c.place_of-place.result c.into_vec-messages.ensures
    (c.place_of-place.ensures ∙ ap (place_of c.args.h) c.deref.ensures.value))
