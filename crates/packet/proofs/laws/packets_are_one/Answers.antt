use Rattle.std.proofs.Common.{◌∙◌, sym}
use Rattle.packet.specs.PacketLaws.{one_packet}
use Rattle.packet.proofs.laws.packets_are_one.Goals as goal

pub returns-clause-packet : goal.returns-clause-packet
returns-clause-packet c = one_packet

pub returns-clause-bytes : goal.returns-clause-bytes
returns-clause-bytes c = λ a b p s t. s.bytes_are ∙ sym t.bytes_are
