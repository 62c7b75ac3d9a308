-- That packets and their bytes are one for one.
use Rattle.std.specs.Prelude.{ℕ, ◌≡◌, List}
use Rattle.packet.specs.declared.packets.Packet.{Packet}
use Rattle.packet.specs.Packets.{IsPacketOf}

abbrev pub IsOnePacket : Type 0
IsOnePacket = (bytes : List ℕ) (p q : Packet) → IsPacketOf bytes p → IsPacketOf bytes q → p ≡ q

abbrev pub HasOneSpelling : Type 0
HasOneSpelling = (a b : List ℕ) (p : Packet) → IsPacketOf a p → IsPacketOf b p → a ≡ b
