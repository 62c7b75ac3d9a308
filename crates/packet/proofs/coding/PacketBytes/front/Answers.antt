use Rattle.std.proofs.Common.{◌∙◌, ap, sym}
use Rattle.packet.specs.Packets.{front}
use Rattle.packet.specs.PacketLaws.{front_read, same_front, none_read}
use Rattle.packet.proofs.coding.PacketBytes.front.Goals as goal

pub unreachable-requires : goal.unreachable-requires
unreachable-requires c =
    none_read c.args.self.now c.as_slice.ensures.packet
    (ap front.read (sym c.as_slice.ensures.value) ∙ c.in-Err-Bad.ensures.bad (cc c.in-Err-Bad.field-0-is))

pub returns : goal.returns
returns c =
    λ p s. same_front c.args.self.now c.take_front.new.cursor.rest.now c.in-Ok.front p
    (ap front.read (sym c.as_slice.ensures.value) ∙ c.in-Ok.ensures.ok) s
