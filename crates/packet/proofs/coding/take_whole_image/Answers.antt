use Rattle.packet.specs.PacketLaws.{image_whole, image_not_whole, some_of, none_of}
use Rattle.packet.proofs.coding.take_whole_image.Goals as goal

pub returns-in-Ok-Some-clause-ok : goal.returns-in-Ok-Some-clause-ok
returns-in-Ok-Some-clause-ok c =
    let is = some_of _ _ c.in-Ok-Some.field-0 c.in-Ok-Some.image c.in-Ok-Some.field-0-is c.in-Ok-Some.ensures in
    image_whole c.args.b.now c.take_moved.new.cursor.rest.now c.in-Ok-Some.image _ c.in_ok-rank.ensures.ok is.1 is.0

pub returns-in-Ok-None-clause-bad : goal.returns-in-Ok-None-clause-bad
returns-in-Ok-None-clause-bad c =
    λ bad. image_not_whole c.args.b.now c.take_moved.new.cursor.rest.now _ c.in_ok-rank.ensures.ok
    (none_of _ _ c.in-Ok-None.field-0 c.in-Ok-None.field-0-is c.in-Ok-None.ensures)
