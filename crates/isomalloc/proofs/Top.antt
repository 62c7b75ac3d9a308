-- What the calls of the heap answer.
use Rattle.std.proofs.Common.{◌≡◌, ℕ, ◌+◌, ◌*◌, ◌<◌, ◌≤◌, inl, inr, List, ◌∷◌, ◌++◌, ◌∙◌, length, slice_index, refl, sym, ap, subst, arith}
use Rattle.std.specs.List.{All}
use Rattle.rank_range.specs.Layout.{base_of, globals_start}
use Rattle.rank_range.specs.Numbers.{number_at}
use Rattle.rank_range.specs.Heap.{IsFirstFit, IsApart, rounded}
use Rattle.rank_range.specs.Nodes.{node_at, node_place, no_node, heap_units, SpellsBlocks, live_blocks}
use Rattle.rank_range.specs.declared.heap.Block.{Block}
use Rattle.rank_range.proofs.HeapLemmas.{found, too_many}
use Rattle.rank_range.specs.Heap.{with_block, without}
use Rattle.rank_range.specs.Nodes.{HasHeap, HeapBytesStay, blocks_of as live_of}
use Rattle.rank_range.proofs.FitLemmas.{are_spelled}
use Rattle.isomalloc.specs.Heap.{OthersTellNothing}
use Rattle.rank_range.specs.Parts.{StayBeside}
use Rattle.isomalloc.specs.Entries.{NodesAre, header_of}
use Rattle.isomalloc.specs.Search.{IsAnyHeap, IsFirstHole, FitsNowhere, Occupies}
use Rattle.rank_range.proofs.ChangeLemmas.{number_same, node_same}
use Rattle.isomalloc.proofs.Bytes.{same_header}
use Rattle.isomalloc.proofs.Shape.{blocks_of, blocks_alike, no_two_alike, blocks-append}
use Rattle.isomalloc.proofs.Steps.{beside}
use Rattle.isomalloc.proofs.Sound.{to_linked, from_linked, sound_no_two, spelled_is, spells, are_alike, linked_are, pieces_blocks, pieces_count}
use Rattle.isomalloc.proofs.Blocks.{address_of, apart_between, blocks_hole}
use Rattle.isomalloc.proofs.Taken.{known}

pub any_heap : (rank : ℕ) (bytes : List ℕ) → HasHeap rank bytes → IsAnyHeap bytes
any_heap rank bytes h = record { used = h.used; unused = h.unused; sound = h.sound }

-- as many blocks as the header says
live_is : (rank : ℕ) (bytes : List ℕ) (blocks : List Block) → SpellsBlocks rank bytes blocks → length blocks ≡ live_blocks bytes
live_is rank bytes blocks s =
    let l = to_linked bytes s.used s.unused s.sound in
    ap (λ (bs : List Block). length bs) s.are ∙ pieces_count rank bytes 2 s.used ∙ sym l.blocks

pub many_live : (rank : ℕ) (bytes : List ℕ) (size live : ℕ) → live ≡ live_blocks bytes → 4000 ≤ live
    → (blocks : List Block) → SpellsBlocks rank bytes blocks → IsFirstFit rank blocks size 0
many_live rank bytes size live is many blocks s =
    let e = live_is rank bytes blocks s in
    too_many rank blocks size (omega (arith, e, is, many))

pub no_room : (rank : ℕ) (bytes : List ℕ) (size : ℕ) → FitsNowhere rank bytes size
    → (blocks : List Block) → SpellsBlocks rank bytes blocks → IsFirstFit rank blocks size 0
no_room rank bytes size nowhere blocks s = inr (refl, inr (nowhere blocks s))

-- the first hole with room is where the first fit is
pub fits_at : (rank : ℕ) (bytes : List ℕ) (size number live a : ℕ) → IsFirstHole rank bytes size number → live ≡ live_blocks bytes → live < 4000
    → a ≡ address_of rank (node_at bytes number).start
    → (blocks : List Block) → SpellsBlocks rank bytes blocks → IsFirstFit rank blocks size a
fits_at rank bytes size number live a h is few here blocks s =
    let nodes = node_at bytes in
    let u = h.used in
    let used = u.left ++ number ∷ u.right in
    let l = to_linked bytes used u.unused u.sound in
    let b = beside nodes u.left number u.right l.heap.chain in
    let start = b.link.start in
    let k = known bytes number u in
    let inside = k.inside in
    let room = h.room in
    let count = live_is rank bytes blocks s in
    let are = spelled_is rank bytes blocks used u.unused s u.sound
    ∙ blocks-append rank nodes u.left (number ∷ u.right)
    ∙ ap (λ (bs : List Block). blocks_of rank nodes u.left ++ bs) (blocks_hole rank nodes number u.right h.hole) in
    let free = apart_between rank nodes no_node 0 number b.mid u.left number (b.mid + (nodes number).units) no_node heap_units u.right
    (nodes number).start (rounded size) (omega (arith, start)) (omega (arith, start, room)) b.front b.back in
    let A : List Block → Type 0 = λ bs. All (IsApart (address_of rank (nodes number).start) (rounded size)) bs in
    let fit = found rank blocks size (nodes number).start (omega (arith, count, is, few)) (h.least blocks s) (omega (arith, inside, room))
    (subst A (sym are) free) in
    subst (IsFirstFit rank blocks size) (sym here) fit

-- only the header and the nodes tell of the heap
pub others_tell_nothing : (rank : ℕ) (old new : List ℕ) (blocks : List Block) → HeapBytesStay old new
    → SpellsBlocks rank old blocks → SpellsBlocks rank new blocks
others_tell_nothing rank old new blocks stay s =
    let nodes = node_at old in
    let l = to_linked old s.used s.unused s.sound in
    let are : NodesAre new nodes = record {
      at = λ k below. node_same old new k (λ j small. stay (node_place k + j) (inr (omega arith, omega (arith, below, small))));
    } in
    let number : (at : ℕ) → at ≤ 12 → number_at new at 4 ≡ number_at old at 4 =
    λ at low. number_same old new at 4 (λ j below. stay (at + j) (inl (omega (arith, low, below)))) in
    let header : header_of new ≡ header_of old =
    same_header (header_of new) (header_of old) (number 0 (omega arith)) (number 4 (omega arith)) (number 8 (omega arith)) (number 12 (omega arith)) in
    let alike = are_alike new nodes no_node 0 no_node heap_units s.used are l.heap.chain in
    let none = no_two_alike nodes (node_at new) 2 s.used alike (sound_no_two old s.used s.unused s.sound) in
    let zeros : (at : ℕ) → 16 ≤ at → at < 4096 → slice_index new at ≡ 0 =
    λ at low short. stay at (inl short) ∙ s.sound.header_rest at low short in
    let sound = from_linked new s.used s.unused (linked_are new nodes (header_of old) s.used s.unused are header l) none zeros in
    spells rank new blocks s.used s.unused sound
    (s.are ∙ pieces_blocks rank old s.used ∙ sym (blocks_alike rank nodes (node_at new) s.used alike))

spells_beside : (rank : ℕ) (old new : List ℕ) (blocks : List Block) (start end : ℕ) → StayBeside old new start end → globals_start ≤ start
    → SpellsBlocks rank old blocks → SpellsBlocks rank new blocks
spells_beside rank old new blocks start end stay high s =
    others_tell_nothing rank old new blocks
    (λ i there. stay.at i (inl (elim there [ inl low ↦ omega (arith, low, high) | inr nodes ↦ omega (arith, nodes.1, high) ]))) s

-- the block is put, and then made zero
pub put_and_zero : (rank : ℕ) (old mid new : List ℕ) (start units a n at end : ℕ) → Occupies old mid start units → StayBeside mid new at end
    → globals_start ≤ at → a ≡ address_of rank start → 16 * units ≡ n
    → (blocks : List Block) → SpellsBlocks rank old blocks → SpellsBlocks rank new (with_block (record { address = a; length = n }) blocks)
put_and_zero rank old mid new start units a n at end occupies stay high here size blocks s =
    let P : ℕ → Type 0 = λ x. SpellsBlocks rank new (with_block (record { address = x; length = n }) blocks) in
    let Q : ℕ → Type 0 = λ x. SpellsBlocks rank new (with_block (record { address = address_of rank start; length = x }) blocks) in
    subst P (sym here) (subst Q size (spells_beside rank mid new _ at end stay high (occupies rank blocks s)))

-- the address that a call answers
pub address_is : (rank owner base start entry : ℕ) → base ≡ base_of owner → owner ≡ rank → entry ≡ start
    → base + (524288 + 16 * entry) ≡ address_of rank start
address_is rank owner base start entry is same e = omega (arith, is, same, e)

pub given_back : (rank : ℕ) (bytes : List ℕ) (address a : ℕ) (blocks : List Block) → address ≡ a → SpellsBlocks rank bytes (without a blocks)
    → SpellsBlocks rank bytes (without address blocks)
given_back rank bytes address a blocks e spelled = let P : ℕ → Type 0 = λ x. SpellsBlocks rank bytes (without x blocks) in subst P (sym e) spelled

pub same_heap : (rank owner : ℕ) (old new : List ℕ) → owner ≡ rank → new ≡ old → HasHeap rank old → HasHeap owner new
same_heap rank owner old new same bytes h =
    let P : ℕ → Type 0 = λ r. HasHeap r new in
    let Q : List ℕ → Type 0 = λ b. HasHeap rank b in
    subst P (sym same) (subst Q (sym bytes) h)

-- bytes that spell some blocks spell those that are read along the links
pub has_heap : (rank : ℕ) (bytes : List ℕ) (blocks : List Block) → SpellsBlocks rank bytes blocks → HasHeap rank bytes
has_heap rank bytes blocks spelled = subst (SpellsBlocks rank bytes) (are_spelled rank bytes blocks spelled) spelled

pub others_keep : OthersTellNothing
others_keep rank old new stay h = has_heap rank new (live_of rank old) (others_tell_nothing rank old new (live_of rank old) stay h)

pub some_heap : (rank owner : ℕ) (new : List ℕ) (blocks : List Block) → owner ≡ rank → SpellsBlocks rank new blocks → HasHeap owner new
some_heap rank owner new blocks same spelled =
    let P : ℕ → Type 0 = λ r. HasHeap r new in subst P (sym same) (has_heap rank new blocks spelled)
