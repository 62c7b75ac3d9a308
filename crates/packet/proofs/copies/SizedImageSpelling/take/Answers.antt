use Rattle.packet.specs.PacketLaws.{sized_read, sized_not_read, some_of, none_of}
use Rattle.packet.proofs.copies.SizedImageSpelling.take.Goals as goal

pub returns-in-Ok-Some-clause-ok : goal.returns-in-Ok-Some-clause-ok
returns-in-Ok-Some-clause-ok c =
    let is = some_of _ _ c.in-Ok-Some.field-0 c.in-Ok-Some.image c.in-Ok-Some.field-0-is c.in-Ok-Some.ensures in
    sized_read _ _ c.in_ok-bytes.bytes.now _ c.in-Ok-Some.image _ c.in_ok-size.ensures.ok c.in_ok-bytes.ensures.ok is.1 is.0

pub returns-in-Ok-None-clause-bad : goal.returns-in-Ok-None-clause-bad
returns-in-Ok-None-clause-bad c =
    λ bad. sized_not_read _ _ c.in_ok-bytes.bytes.now _ _ c.in_ok-size.ensures.ok c.in_ok-bytes.ensures.ok
    (none_of _ _ c.in-Ok-None.field-0 c.in-Ok-None.field-0-is c.in-Ok-None.ensures)
