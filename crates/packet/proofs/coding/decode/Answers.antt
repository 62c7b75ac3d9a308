use Rattle.std.proofs.Common.{rules}
use Rattle.packet.specs.PacketLaws.{packet_only, none_is_packet}
use Rattle.packet.proofs.coding.decode.Goals as goal

pub returns-in-Ok : goal.returns-in-Ok
returns-in-Ok c = packet_only c.args.b.now c.in-Ok.packet (λ i. (let h = c.type_inv.b i in search rules)) c.in-Ok.ensures.ok

pub returns-in-Err-Bad : goal.returns-in-Err-Bad
returns-in-Err-Bad c = λ p. none_is_packet c.args.b.now (c.in-Err-Bad.ensures.bad (cc c.in-Err-Bad.field-0-is)) p.0 p.1
