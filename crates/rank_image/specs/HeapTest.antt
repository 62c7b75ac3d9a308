-- The test by which an image's bytes are seen to spell a sound heap.
use Rattle.std.specs.Prelude.{ℕ, zero, suc, ◌+◌, ◌&&◌, ◌||◌, ◌==◌, not, nat_le, if◌then◌else◌, Bool, true, false, List, [], ◌∷◌, ◌++◌, slice_index}
use Rattle.rank_range.specs.Heap.{most_blocks}
use Rattle.rank_range.specs.Nodes.{node_count, no_node, heap_units, first_node, first_unused, live_blocks, hole_count, node_at, node_place, first_of, times_in, chain_of}

-- the used nodes in address order, and the unused ones in the order of their links, as far as links lead
unfoldable pub used_of : List ℕ → List ℕ
used_of bytes = chain_of bytes heap_units (first_node bytes)

unfoldable pub unused_of : List ℕ → List ℕ
unused_of bytes = chain_of bytes node_count (first_unused bytes)

-- a block, or a hole that isn't behind a hole
abbrev pub is_piece : Bool → ℕ → Bool
is_piece hole kind = (kind == 2) || ((kind == 1) && not hole)

-- A used node behind the node `before`: its piece begins at the unit `from`, and it names the nodes before and behind it.
abbrev pub fits_used : List ℕ → ℕ → ℕ → Bool → ℕ → ℕ → Bool
fits_used bytes before from hole next number =
    ((node_at bytes number).previous == before) && (((node_at bytes number).next == next)
    && (((node_at bytes number).start == from) && (nat_le 1 (node_at bytes number).units && is_piece hole (node_at bytes number).kind)))

-- all used nodes from one on, up to the end of the heap
unfoldable pub fit_used : List ℕ → ℕ → ℕ → Bool → List ℕ → Bool
fit_used bytes before from hole [] = from == heap_units
fit_used bytes before from hole (number ∷ numbers) =
    fits_used bytes before from hole (first_of numbers) number
    && fit_used bytes number (from + (node_at bytes number).units) ((node_at bytes number).kind == 1) numbers

-- all unused nodes
unfoldable pub fit_unused : List ℕ → List ℕ → Bool
fit_unused bytes [] = true
fit_unused bytes (number ∷ numbers) =
    ((node_at bytes number).kind == 0) && (((node_at bytes number).next == first_of numbers) && fit_unused bytes numbers)

-- how many of the nodes are of a kind
unfoldable pub count_of : List ℕ → ℕ → List ℕ → ℕ
count_of bytes kind [] = 0
count_of bytes kind (number ∷ numbers) = (if (node_at bytes number).kind == kind then 1 else 0) + count_of bytes kind numbers

-- each number below k stands in the list once
unfoldable pub is_each_once : ℕ → List ℕ → Bool
is_each_once zero numbers = true
is_each_once (suc k) numbers = (times_in k numbers == 1) && is_each_once k numbers

-- the n bytes from a place on are zero
unfoldable pub are_zero : List ℕ → ℕ → ℕ → Bool
are_zero bytes at zero = true
are_zero bytes at (suc n) = (slice_index bytes at == 0) && are_zero bytes (at + 1) n

-- the last three bytes of each node below k are zero
unfoldable pub end_in_zeros : List ℕ → ℕ → Bool
end_in_zeros bytes zero = true
end_in_zeros bytes (suc k) = are_zero bytes (node_place k + 13) 3 && end_in_zeros bytes k

-- the header tells of these nodes, and zeros follow it
abbrev pub fits_header : List ℕ → List ℕ → List ℕ → Bool
fits_header bytes used unused =
    (first_node bytes == first_of used) && ((first_unused bytes == first_of unused) && ((live_blocks bytes == count_of bytes 2 used)
    && ((hole_count bytes == count_of bytes 1 used) && (nat_le (live_blocks bytes) most_blocks && are_zero bytes 16 4080))))

-- the nodes are sound
abbrev pub fit_nodes : List ℕ → List ℕ → List ℕ → Bool
fit_nodes bytes used unused =
    fit_used bytes no_node 0 false used && (fit_unused bytes unused && (is_each_once node_count (used ++ unused)
    && end_in_zeros bytes node_count))

unfoldable pub is_sound_heap : List ℕ → Bool
is_sound_heap bytes = fits_header bytes (used_of bytes) (unused_of bytes) && fit_nodes bytes (used_of bytes) (unused_of bytes)
