-- Packets and their bytes. This profile's own.
use Rattle.std.specs.Prelude.{ℕ, ◌≡◌, ◌==◌, ◌&&◌, nat_lt, if◌then◌else◌, Bool, true, false, List, [], ◌∷◌, ◌++◌, length, Option, Some, None}
use Rattle.std.specs.Option.{option_map}
use Rattle.am_base.specs.declared.numbers.ProcId.{ProcId}
use Rattle.am_base.specs.declared.numbers.RankId.{RankId}
use Rattle.byte_formats.specs.Formats.{Format, number8, number16, number32, number64, block, both, made, restricted, ascending, counted, listed, then_read}
use Rattle.packet.specs.declared.packets.Content.{Content}
use Rattle.packet.specs.declared.packets.Content.TheVariants.{Data, Tree, Image, Update, Copy}
use Rattle.packet.specs.declared.packets.DataPacket.{DataPacket}
use Rattle.packet.specs.declared.packets.ImagePacket.{ImagePacket}
use Rattle.packet.specs.declared.packets.Packet.{Packet}
use Rattle.packet.specs.declared.packets.TreePacket.{TreePacket}
use Rattle.packet.specs.declared.packets.UpdatePacket.{UpdatePacket}
use Rattle.rank_image.specs.Image.{ended, is_image, rank_number}
use Rattle.rank_image.specs.Messages.{context, sent, tree_message}

-- A message of one rank to another: the sender, the destination, the floor, the message's number among those of its
-- pair, its context, and the rest of it.
unfoldable pub data_packet : Format DataPacket
data_packet =
    made (both number16 (both number16 (both number32 (both number64 (both context sent)))))
    (λ p. record {
      to = record { 0 = p.1.0 };
      floor = p.1.1.0;
      number = p.1.1.1.0;
      message = record {
        sender = record { 0 = p.0 };
        ctx = p.1.1.1.1.0;
        member = p.1.1.1.1.1.0;
        tag = p.1.1.1.1.1.1.0;
        body = p.1.1.1.1.1.1.1;
      };
    })
    (λ d. (d.message.sender.0, (d.to.0, (d.floor, (d.number, (d.message.ctx, (d.message.member, (d.message.tag, d.message.body))))))))

-- a message of a collective's tree: the sender, the destination, the floor, and the message
unfoldable pub tree_packet : Format TreePacket
tree_packet =
    made (both number16 (both number16 (both number32 tree_message)))
    (λ p. record { from = record { 0 = p.0 }; to = record { 0 = p.1.0 }; floor = p.1.1.0; message = p.1.1.1 })
    (λ t. (t.from.0, (t.to.0, (t.floor, t.message))))

-- the rank of an image, and how often it was sent off; the image stands behind them, to the end
unfoldable pub moved : Format (ℕ × ℕ)
moved = both number16 number32

-- where a rank is: the rank, how often it was sent off, and the processor
unfoldable pub update_packet : Format UpdatePacket
update_packet =
    made (both number16 (both number32 number8))
    (λ p. record { rank = record { 0 = p.0 }; count = p.1.0; place = record { 0 = p.1.1 } })
    (λ u. (u.rank.0, (u.count, u.place.0)))

-- an image behind its length
abbrev pub sized : ℕ → Format (List ℕ)
sized n = restricted (block n) is_image

unfoldable pub sized_image : Format (List ℕ)
sized_image = counted number64 sized length

abbrev pub is_copy_before : List ℕ → List ℕ → Bool
is_copy_before a b = nat_lt (rank_number a) (rank_number b)

-- images, ascending by rank: how many, and those
unfoldable pub copies : Format (List (List ℕ))
copies = ascending is_copy_before (listed number16 sized_image)

-- what a packet begins with: its kind, its incarnation, and the processor that first sent it
abbrev pub Front : Type 0
Front = ℕ × (ℕ × ℕ)

unfoldable pub front : Format Front
front = both number8 (both number32 number8)

-- the kind of what a packet holds, its bytes, and whether it has some
abbrev pub kind_of : Content → ℕ
kind_of (Data d) = 1
kind_of (Tree t) = 2
kind_of (Image i) = 3
kind_of (Update u) = 4
kind_of (Copy c) = 5

unfoldable pub content_fits : Content → Bool
content_fits (Data d) = data_packet.fits d
content_fits (Tree t) = tree_packet.fits t
content_fits (Image i) = moved.fits (i.rank.0, i.count) && is_image i.image
content_fits (Update u) = update_packet.fits u
content_fits (Copy c) = copies.fits c

unfoldable pub content_bytes : Content → List ℕ
content_bytes (Data d) = data_packet.spell d
content_bytes (Tree t) = tree_packet.spell t
content_bytes (Image i) = moved.spell (i.rank.0, i.count) ++ i.image
content_bytes (Update u) = update_packet.spell u
content_bytes (Copy c) = copies.spell c

-- an image to the end
abbrev pub image_behind : ℕ × ℕ → List ℕ → Option Content
image_behind m rest = if is_image rest then Some (Image (record { rank = record { 0 = m.0 }; count = m.1; image = rest })) else None

-- what is read of a kind, to the end
unfoldable pub content_of : ℕ → List ℕ → Option Content
content_of kind bytes =
    if kind == 1 then option_map Data (ended (data_packet.read bytes))
    else (if kind == 2 then option_map Tree (ended (tree_packet.read bytes))
    else (if kind == 3 then then_read (moved.read bytes) image_behind
    else (if kind == 4 then option_map Update (ended (update_packet.read bytes))
    else (if kind == 5 then option_map Copy (ended (copies.read bytes))
    else None))))

abbrev pub front_of : Packet → Front
front_of p = (kind_of p.content, (p.incarnation, p.origin.0))

abbrev pub packet_with : Front → Content → Packet
packet_with f content = record { incarnation = f.1.0; origin = record { 0 = f.1.1 }; content = content }

unfoldable pub fits : Packet → Bool
fits p = front.fits (front_of p) && content_fits p.content

unfoldable pub spelled : Packet → List ℕ
spelled p = front.spell (front_of p) ++ content_bytes p.content

-- the packet of some bytes
unfoldable pub packet_of : List ℕ → Option Packet
packet_of bytes = then_read (front.read bytes) (λ f rest. option_map (packet_with f) (content_of f.0 rest))

-- The bytes spell the packet.
pub record IsPacketOf (bytes : List ℕ) (p : Packet) : Type 0 where
  pub fits : fits p ≡ true
  pub bytes_are : bytes ≡ spelled p

-- The bytes spell a packet.
abbrev pub IsPacket : List ℕ → Type 0
IsPacket bytes = (p : Packet) × IsPacketOf bytes p
