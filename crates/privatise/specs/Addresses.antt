-- The bytes of an object, its addresses told by a list of the offsets of all objects by their numbers.
use Rattle.std.specs.Prelude.{ℕ, ◌+◌, List, slice_index}
use Rattle.std.specs.List.{fold}
use Rattle.c_types.specs.declared.program.StaticObject.{StaticObject}
use Rattle.c_types.specs.declared.program.Fix.{Fix}
use Rattle.c_types.specs.Segment.{with_address, filled, fixes_of}

abbrev pub addressed : List ℕ → List ℕ → Fix → List ℕ
addressed offsets bytes f = with_address bytes f.offset (slice_index offsets f.object + f.addend)

abbrev pub bytes_by_offsets : List ℕ → StaticObject → List ℕ
bytes_by_offsets offsets o = fold (addressed offsets) (filled o) (fixes_of o)
