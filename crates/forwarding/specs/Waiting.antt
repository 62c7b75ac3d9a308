-- The packets that wait at a processor. This profile's own.
use Rattle.std.specs.Prelude.{ℕ, ◌≡◌, ◌<◌, ◌==◌, not, Bool, true, false, List, [], length, get_or, take}
use Rattle.std.specs.List.{filter}
use Rattle.packet.specs.declared.packets.Content.{Content}
use Rattle.packet.specs.declared.packets.Content.TheVariants.{Data, Tree, Image, Update, Copy}
use Rattle.packet.specs.declared.packets.Packet.{Packet}

-- whether what a packet holds is for the rank
abbrev pub is_for_rank : ℕ → Content → Bool
is_for_rank r (Data d) = d.to.0 == r
is_for_rank r (Tree t) = t.to.0 == r
is_for_rank r (Image i) = false
is_for_rank r (Update u) = false
is_for_rank r (Copy c) = false

abbrev pub is_for : ℕ → Packet → Bool
is_for r p = is_for_rank r p.content

-- the packets for the rank, and the others, in their order
abbrev pub those_for : ℕ → List Packet → List Packet
those_for r ps = filter (is_for r) ps

abbrev pub others_than : ℕ → List Packet → List Packet
others_than r ps = filter (λ p. not (is_for r p)) ps

-- The first packet for the rank stands there.
pub record IsFirstFor (r : ℕ) (ps : List Packet) (at : ℕ) : Type 0 where
  pub inside : at < length ps
  pub is : (d : Packet) → is_for r (get_or ps at d) ≡ true
  pub first : those_for r (take at ps) ≡ []
