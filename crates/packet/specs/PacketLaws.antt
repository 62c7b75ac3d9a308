-- Packets are read back, and nothing else is read.
use Rattle.std.proofs.Common.{◌≡◌, ◌∙◌, ◌+◌, ◌<◌, ◌≤◌, ◌⊎◌, ℕ, zero, suc, Bool, true, false, ◌&&◌, ◌==◌, cond, if◌then◌else◌, List, [], ◌∷◌, ◌++◌, length, Option, Some, None, refl, sym, ap, subst, inl, inr, arith, append_assoc, append-nil}
use Rattle.std.specs.Option.{option_map}
use Rattle.std.specs.Prelude.{MatchOption}
use Rattle.std.specs.List.{list_all}
use Rattle.std.proofs.lemmas.Bool.{eqb-true, eq-eqb}
use Rattle.byte_formats.specs.Formats.{Format, number64, block, counted, then_read}
use Rattle.byte_formats.specs.Lawful.{IsFormat, IsInFront, AreBytes, Spells}
use Rattle.byte_formats.specs.FormatLaws.{number8_is, number16_is, number32_is, number64_is, block_is, both_is, made_is, restricted_is, ascending_is, counted_is, listed_is, reads_before, chosen, none_found, both_true, and_is_true, behind_are_bytes}
use Rattle.rank_image.specs.Image.{ended, is_image}
use Rattle.rank_image.specs.ImageLaws.{ends_back, ends_only}
use Rattle.rank_image.specs.MessageLaws.{context_is, sent_is, tree_message_is}
use Rattle.packet.specs.declared.packets.Content.{Content}
use Rattle.packet.specs.declared.packets.Content.TheVariants.{Data, Tree, Image, Update, Copy}
use Rattle.packet.specs.declared.packets.DataPacket.{DataPacket}
use Rattle.packet.specs.declared.packets.ImagePacket.{ImagePacket}
use Rattle.packet.specs.declared.packets.Packet.{Packet}
use Rattle.packet.specs.Packets.{data_packet, tree_packet, moved, update_packet, sized, sized_image, copies, Front, front, kind_of, content_fits, content_bytes, image_behind, content_of, front_of, packet_with, fits, spelled, packet_of, IsPacketOf, IsPacket}

pub data_is : IsFormat data_packet
unfolding data_packet
data_is =
    made_is _ _ _ (λ y. refl) (λ x. refl)
    (both_is _ _ number16_is (both_is _ _ number16_is (both_is _ _ number32_is (both_is _ _ number64_is (both_is _ _ context_is sent_is)))))

pub tree_is : IsFormat tree_packet
unfolding tree_packet
tree_is = made_is _ _ _ (λ y. refl) (λ x. refl) (both_is _ _ number16_is (both_is _ _ number16_is (both_is _ _ number32_is tree_message_is)))

pub moved_is : IsFormat moved
unfolding moved
moved_is = both_is _ _ number16_is number32_is

pub update_is : IsFormat update_packet
unfolding update_packet
update_is = made_is _ _ _ (λ y. refl) (λ x. refl) (both_is _ _ number16_is (both_is _ _ number32_is number8_is))

sized_length : (n : ℕ) (x : List ℕ) → (sized n).fits x ≡ true → length x ≡ n
sized_length n x e = eqb-true (length x) n (both_true (length x == n) (is_image x) e).0

pub sized_image_is : IsFormat sized_image
unfolding sized_image
sized_image_is = counted_is number64 sized length number64_is (λ n. restricted_is (block n) is_image (block_is n)) sized_length

pub copies_is : IsFormat copies
unfolding copies
copies_is = ascending_is _ _ (listed_is _ _ number16_is sized_image_is)

pub front_is : IsFormat front
unfolding front
front_is = both_is _ _ number8_is (both_is _ _ number32_is number8_is)

-- ---- what packets hold

maps_back : {X Y : Type 0} (o : Option X) (g : X → Y) (y : Y) → option_map g o ≡ Some y → (x : X) × (o ≡ Some x) × (g x ≡ y)
maps_back None g y e = absurd (none_found y e)
maps_back (Some x) g y e = (x, refl, cc)

pub content_back : (c : Content) → content_fits c ≡ true → content_of (kind_of c) (content_bytes c) ≡ Some c
unfolding content_of content_fits content_bytes
content_back (Data d) e = ap (option_map Data) (ends_back data_packet d data_is e)
content_back (Tree t) e = ap (option_map Tree) (ends_back tree_packet t tree_is e)
content_back (Image i) e =
    let both = both_true (moved.fits (i.rank.0, i.count)) (is_image i.image) e in
    ap (λ o. then_read o image_behind) (moved_is.back (i.rank.0, i.count) i.image both.0)
    ∙ ap (λ b. if b then Some (Image (record { rank = record { 0 = i.rank.0 }; count = i.count; image = i.image })) else None) both.1
content_back (Update u) e = ap (option_map Update) (ends_back update_packet u update_is e)
content_back (Copy c) e = ap (option_map Copy) (ends_back copies c copies_is e)

-- What was read of a kind.
pub record IsContentOf (kind : ℕ) (bytes : List ℕ) (c : Content) : Type 0 where
  pub kind_is : kind_of c ≡ kind
  pub fits : content_fits c ≡ true
  pub bytes_are : bytes ≡ content_bytes c

content_by : {X : Type 0} (f : Format X) (g : X → Content) (n kind : ℕ) (bytes : List ℕ) (c : Content) → IsFormat f → AreBytes bytes
    → kind ≡ n → ((x : X) → kind_of (g x) ≡ n) → ((x : X) → content_fits (g x) ≡ f.fits x) → ((x : X) → content_bytes (g x) ≡ f.spell x)
    → option_map g (ended (f.read bytes)) ≡ Some c → IsContentOf kind bytes c
content_by f g n kind bytes c hf h is kinds fit spells e =
    let found = maps_back (ended (f.read bytes)) g c e in
    let only = ends_only f bytes found.0 hf h found.1 in
    subst (λ z. IsContentOf kind bytes z) found.2
    (record { kind_is = kinds found.0 ∙ sym is; fits = fit found.0 ∙ only.0; bytes_are = only.1 ∙ sym (spells found.0) })

image_read : (bytes : List ℕ) (c : Content) → AreBytes bytes → then_read (moved.read bytes) image_behind ≡ Some c → IsContentOf 3 bytes c
unfolding content_fits content_bytes
image_read bytes c h e =
    let first = reads_before (moved.read bytes) image_behind c e in
    let is : IsInFront moved bytes first.0 = moved_is.nothing_else bytes first.0 h first.1 in
    elim (chosen (is_image first.0.1) (Some (Image (record { rank = record { 0 = first.0.0.0 }; count = first.0.0.1; image = first.0.1 }))) None (Some c) first.2) [
      | inl is_one ↦
          let same : Image (record { rank = record { 0 = first.0.0.0 }; count = first.0.0.1; image = first.0.1 }) ≡ c = cc in
          subst (λ z. IsContentOf 3 bytes z) same
          (record { kind_is = refl; fits = and_is_true (moved.fits first.0.0) (is_image first.0.1) is.fits is_one.0; bytes_are = is.bytes_are })
      | inr other ↦ absurd (none_found c other.1)
    ]

data_fits_is : (x : DataPacket) → content_fits (Data x) ≡ data_packet.fits x
unfolding content_fits
data_fits_is x = refl

pub content_only : (kind : ℕ) (bytes : List ℕ) (c : Content) → AreBytes bytes → content_of kind bytes ≡ Some c → IsContentOf kind bytes c
unfolding content_of content_fits content_bytes
content_only kind bytes c h e =
    elim (chosen (kind == 1) _ _ (Some c) e) [
      | inl one ↦ content_by data_packet Data 1 kind bytes c data_is h (eqb-true kind 1 one.0) (λ x. refl) (λ x. refl) (λ x. refl) one.1
      | inr a ↦ elim (chosen (kind == 2) _ _ (Some c) a.1) [
        | inl two ↦ content_by tree_packet Tree 2 kind bytes c tree_is h (eqb-true kind 2 two.0) (λ x. refl) (λ x. refl) (λ x. refl) two.1
        | inr b ↦ elim (chosen (kind == 3) _ _ (Some c) b.1) [
          | inl three ↦ subst (λ k. IsContentOf k bytes c) (sym (eqb-true kind 3 three.0)) (image_read bytes c h three.1)
          | inr d ↦ elim (chosen (kind == 4) _ _ (Some c) d.1) [
            | inl four ↦ content_by update_packet Update 4 kind bytes c update_is h (eqb-true kind 4 four.0) (λ x. refl) (λ x. refl) (λ x. refl) four.1
            | inr f ↦ elim (chosen (kind == 5) (option_map Copy (ended (copies.read bytes))) None (Some c) f.1) [
              | inl five ↦ content_by copies Copy 5 kind bytes c copies_is h (eqb-true kind 5 five.0) (λ x. refl) (λ x. refl) (λ x. refl) five.1
              | inr g ↦ absurd (none_found c g.1)
            ]
          ]
        ]
      ]
    ]

-- ---- packets

pub packet_back : (p : Packet) → fits p ≡ true → packet_of (spelled p) ≡ Some p
unfolding fits spelled packet_of
packet_back p e =
    let both = both_true (front.fits (front_of p)) (content_fits p.content) e in
    ap (λ o. then_read o (λ f rest. option_map (packet_with f) (content_of f.0 rest))) (front_is.back (front_of p) (content_bytes p.content) both.0)
    ∙ ap (option_map (packet_with (front_of p))) (content_back p.content both.1)

pub packet_only : (bytes : List ℕ) (p : Packet) → AreBytes bytes → packet_of bytes ≡ Some p → IsPacketOf bytes p
unfolding fits spelled packet_of
packet_only bytes p h e =
    let first = reads_before (front.read bytes) (λ f rest. option_map (packet_with f) (content_of f.0 rest)) p e in
    let is : IsInFront front bytes first.0 = front_is.nothing_else bytes first.0 h first.1 in
    let rest_fits : AreBytes first.0.1 = behind_are_bytes (front.spell first.0.0) first.0.1 bytes is.bytes_are h in
    let found = maps_back (content_of first.0.0.0 first.0.1) (packet_with first.0.0) p first.2 in
    let c = content_only first.0.0.0 first.0.1 found.0 rest_fits found.1 in
    let same : front_of (packet_with first.0.0 found.0) ≡ first.0.0 = ap (λ k. (k, first.0.0.1)) c.kind_is in
    subst (λ z. IsPacketOf bytes z) found.2
    (record {
      fits = and_is_true (front.fits (front_of (packet_with first.0.0 found.0))) (content_fits found.0) (ap front.fits same ∙ is.fits) c.fits;
      bytes_are =
          is.bytes_are ∙ ap (λ bs. front.spell first.0.0 ++ bs) c.bytes_are
          ∙ ap (λ f. front.spell f ++ content_bytes found.0) (sym same);
    })

-- bytes spell one packet at most
pub one_packet : (bytes : List ℕ) (p q : Packet) → IsPacketOf bytes p → IsPacketOf bytes q → p ≡ q
one_packet bytes p q s t =
    let first : packet_of bytes ≡ Some p = ap packet_of s.bytes_are ∙ packet_back p s.fits in
    let second : packet_of bytes ≡ Some q = ap packet_of t.bytes_are ∙ packet_back q t.fits in
    let same : ◌≡◌ {A = Option Packet} (Some p) (Some q) = sym first ∙ second in
    (let is : p ≡ q = cc in is)

-- ---- what the readers need

pub image_whole : (bytes rest taken : List ℕ) (m : ℕ × ℕ) → moved.read bytes ≡ Some (m, rest) → is_image rest ≡ true → taken ≡ rest
    → then_read (moved.read bytes) image_behind ≡ Some (Image (record { rank = record { 0 = m.0 }; count = m.1; image = taken }))
image_whole bytes rest taken m read there same =
    ap (λ o. then_read o image_behind) read
    ∙ ap (λ b. if b then Some (Image (record { rank = record { 0 = m.0 }; count = m.1; image = rest })) else None) there
    ∙ ap (λ z. Some (Image (record { rank = record { 0 = m.0 }; count = m.1; image = z }))) (sym same)

pub image_not_whole : (bytes rest : List ℕ) (m : ℕ × ℕ) → moved.read bytes ≡ Some (m, rest) → is_image rest ≡ false
    → then_read (moved.read bytes) image_behind ≡ None
image_not_whole bytes rest m read never =
    ap (λ o. then_read o image_behind) read
    ∙ ap (λ b. if b then Some (Image (record { rank = record { 0 = m.0 }; count = m.1; image = rest })) else None) never

pub sized_read : (bytes behind x rest taken : List ℕ) (n : ℕ) → number64.read bytes ≡ Some (n, behind) → (block n).read behind ≡ Some (x, rest)
    → is_image x ≡ true → taken ≡ x → sized_image.read bytes ≡ Some (taken, rest)
unfolding sized_image
sized_read bytes behind x rest taken n first second i same =
    ap (λ o. then_read o (λ k r. (sized k).read r)) first
    ∙ ap (λ o. then_read o (λ y r. if is_image y then Some (y, r) else None)) second
    ∙ ap (λ b. if b then Some (x, rest) else None) i ∙ ap (λ z. Some (z, rest)) (sym same)

pub sized_not_read : (bytes behind x rest : List ℕ) (n : ℕ) → number64.read bytes ≡ Some (n, behind)
    → (block n).read behind ≡ Some (x, rest) → is_image x ≡ false → sized_image.read bytes ≡ None
unfolding sized_image
sized_not_read bytes behind x rest n first second never =
    ap (λ o. then_read o (λ k r. (sized k).read r)) first
    ∙ ap (λ o. then_read o (λ y r. if is_image y then Some (y, r) else None)) second
    ∙ ap (λ b. if b then Some (x, rest) else None) never

-- bytes of which no packet is read are those of none
pub none_is_packet : (bytes : List ℕ) → packet_of bytes ≡ None → (p : Packet) → IsPacketOf bytes p → ⊥
none_is_packet bytes none p s =
    none_found p (sym none ∙ ap packet_of s.bytes_are ∙ packet_back p s.fits)

-- what a packet begins with is read
pub front_read : (bytes : List ℕ) (p : Packet) → IsPacketOf bytes p → front.read bytes ≡ Some (front_of p, content_bytes p.content)
unfolding fits spelled
front_read bytes p s =
    let both = both_true (front.fits (front_of p)) (content_fits p.content) s.fits in
    ap front.read s.bytes_are ∙ front_is.back (front_of p) (content_bytes p.content) both.0

pub same_front : (bytes rest : List ℕ) (f : Front) (p : Packet) → front.read bytes ≡ Some (f, rest) → IsPacketOf bytes p → f ≡ front_of p
same_front bytes rest f p read s =
    let same : ◌≡◌ {A = Option (Front × List ℕ)} (Some (f, rest)) (Some (front_of p, content_bytes p.content)) = sym read ∙ front_read bytes p s in
    let pairs : ◌≡◌ {A = Front × List ℕ} (f, rest) (front_of p, content_bytes p.content) = cc in
    ap (λ (z : Front × List ℕ). z.0) pairs

-- what is said of an optional value's alternatives
pub some_of : {X : Type 0} (A : Type 0) (P : X → Type 0) (o : Option X) (x : X) → o ≡ Some x → MatchOption o A P → P x
some_of A P None x e h = absurd (none_found x e)
some_of A P (Some y) x e h = let same : y ≡ x = cc in subst P same h

pub none_of : {X : Type 0} (A : Type 0) (P : X → Type 0) (o : Option X) → o ≡ None → MatchOption o A P → A
none_of A P None e h = h
none_of A P (Some y) e h = absurd (none_found y (sym e))

pub none_read : (bytes : List ℕ) → IsPacket bytes → front.read bytes ≡ None → ⊥
none_read bytes i none = none_found (front_of i.0, content_bytes i.0.content) (sym none ∙ front_read bytes i.0 i.1)
