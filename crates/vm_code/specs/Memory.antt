-- What a program does to a rank's memory: the three areas of bytes, and the blocks of the heap that are live.
use Rattle.std.specs.Prelude.{ℕ, ◌+◌, ◌-◌, ◌^◌, ◌%◌, List, [], ◌∷◌, ◌++◌, length, replicate, take, Option, None, Some, option_map}
use Rattle.std.specs.List.{fold}
use Rattle.rank_range.specs.Layout.{base_of, globals_start, heap_start, stack_start}
use Rattle.rank_range.specs.Numbers.{bytes_in, number_at, with_number}
use Rattle.rank_range.specs.Kinds.{width_of, extended}
use Rattle.rank_range.specs.Areas.{Areas, Memory, with_areas, bytes_at, with_bytes_at, number_of, with_number_of}
use Rattle.rank_range.specs.declared.kinds.Kind.{Kind}
use Rattle.rank_range.specs.declared.run.Segment.{Segment}
use Rattle.mpi_types.specs.declared.call.Write.{Write}
use Rattle.vm_code.specs.declared.code.Parameter.{Parameter}

-- the address of a place in the rank's range, as a word
abbrev pub address_of : Memory → ℕ → ℕ
address_of m place = (base_of m.areas.rank + place) % 2 ^ 64

-- where the data stack ends, as a place in the range
abbrev pub stack_top : Memory → ℕ
stack_top m = stack_start + length m.areas.stack

abbrev pub with_areas_of : Memory → Areas → Memory
with_areas_of m areas = with_areas areas m

-- The word of the number of the kind at an address; none where its bytes aren't all in one area.
unfoldable pub loaded : Memory → Kind → ℕ → Option ℕ
loaded m kind a = option_map (extended kind) (number_of m.areas a (bytes_in (width_of kind)))

-- the memory with the word's low bytes there
unfoldable pub stored : Memory → Kind → ℕ → ℕ → Option Memory
stored m kind a word = option_map (with_areas_of m) (with_number_of m.areas a (bytes_in (width_of kind)) word)

-- the memory with n bytes from `source` on at `target`, as if by a buffer
unfoldable pub copied : Memory → ℕ → ℕ → ℕ → Option Memory
copied m target source n =
    elim (bytes_at m.areas source n) [ None ↦ None | Some bytes ↦ option_map (with_areas_of m) (with_bytes_at m.areas target bytes) ]

unfoldable pub zeroed : Memory → ℕ → ℕ → Option Memory
zeroed m a n = option_map (with_areas_of m) (with_bytes_at m.areas a (replicate n 0))

-- a frame of `size` bytes, all of them zero, on top of the data stack
unfoldable pub with_frame : Memory → ℕ → Memory
with_frame m size = record m { areas = record (m.areas) { stack = m.areas.stack ++ replicate size 0 } }

-- the data stack ends at this place of the range
unfoldable pub cut_to : Memory → ℕ → Memory
cut_to m top = record m { areas = record (m.areas) { stack = take (top - stack_start) m.areas.stack } }

-- the memory that was written to, or as it is where that isn't accessible
abbrev pub written_or_kept : Option Memory → Memory → Memory
written_or_kept None m = m
written_or_kept (Some written) m = written

-- bytes that are written one after another
unfoldable pub written_all : Memory → List Write → Memory
written_all m [] = m
written_all m (w ∷ ws) = written_all (written_or_kept (option_map (with_areas_of m) (with_bytes_at m.areas w.address w.bytes)) m) ws

-- each argument is stored as its parameter, in the frame that begins at this place of the range
abbrev pub with_arguments : List Parameter → List ℕ → ℕ → Memory → Memory
with_arguments [] words start m = m
with_arguments (p ∷ ps) [] start m = m
with_arguments (p ∷ ps) (word ∷ words) start m =
    with_arguments ps words start (written_or_kept (stored m p.kind (address_of m (start + p.offset)) word) m)

-- the bytes with the rank's base added to the address at an offset
abbrev pub with_base : ℕ → List ℕ → ℕ → List ℕ
with_base base bytes offset = with_number bytes offset 8 (number_at bytes offset 8 + base)

-- The memory before the first instruction: the segment with the rank's base added at its fixes, an empty heap and an empty
-- data stack. All other bytes are zero.
unfoldable pub opened : Segment → ℕ → Memory
opened segment rank =
    record {
      areas = record {
        rank = rank;
        globals = fold (with_base (base_of rank)) segment.bytes segment.fixes ++ replicate (heap_start - globals_start - length segment.bytes) 0;
        heap = replicate (stack_start - heap_start) 0;
        stack = [];
      };
      blocks = [];
    }
