-- What the headers declare, as names in scope.
use Rattle.std.specs.Prelude.{ℕ, nat_le, if◌then◌else◌, Bool, true, false, List, [], ◌∷◌, replicate, map, Option, Some, None}
use Rattle.am_base.specs.declared.calls.HeaderType.{HeaderType}
use Rattle.am_base.specs.declared.calls.HeaderType.TheVariants as header
use Rattle.am_base.specs.declared.headers.Header.{Header}
use Rattle.am_base.specs.declared.headers.Header.TheVariants as file
use Rattle.am_base.specs.declared.headers.HeaderItem.{HeaderItem}
use Rattle.am_base.specs.declared.headers.HeaderItem.TheVariants as item
use Rattle.am_base.specs.Headers.{item_in, items_of}
use Rattle.am_base.specs.Calls.{lib_result, lib_parameters, mpi_parameters}
use Rattle.rank_range.specs.declared.kinds.Kind.TheVariants as kind
use Rattle.std.specs.Int.{w32, cast_unsigned}
use Rattle.c_types.specs.declared.ctype.CType.{CType}
use Rattle.c_types.specs.declared.ctype.FunctionType.{FunctionType}
use Rattle.c_types.specs.declared.ctype.Base.{Base}
use Rattle.c_types.specs.declared.ctype.Base.TheVariants as base
use Rattle.c_types.specs.declared.ctype.Part.TheVariants as part
use Rattle.c_types.specs.declared.names.Named.{Named}
use Rattle.c_types.specs.declared.names.Named.TheVariants as named
use Rattle.c_judge.specs.declared.headers.KnownHeaders.{KnownHeaders}
use Rattle.c_judge.specs.Sight.{or_else}

abbrev pub item_from : Option ℕ → Header → ℕ → List ℕ → Option HeaderItem
item_from (Some first) h token name = if nat_le first token then item_in (items_of h) name else None
item_from None h token name = None

-- what the headers that are known at a token declare by a name
abbrev pub item_at : KnownHeaders → ℕ → List ℕ → Option HeaderItem
item_at known token name =
    or_else (item_from known.mpi file.Mpi token name)
    (or_else (item_from known.stdio file.Stdio token name)
    (or_else (item_from known.stdlib file.Stdlib token name) (item_from known.strings file.Strings token name)))

-- `MPI_Status` is the structure with the number 0.
abbrev pub status_number : ℕ
status_number = 0

abbrev pub pointers : Base → Bool → ℕ → CType
pointers b is_const count = record { base = b; is_const = is_const; parts = replicate count (part.Pointer false) }

abbrev pub header_type : HeaderType → CType
header_type header.Void = pointers base.Void false 0
header_type header.Int = pointers (base.Whole kind.Int) false 0
header_type header.UnsignedLong = pointers (base.Whole kind.UnsignedLong) false 0
header_type header.VoidPointer = pointers base.Void false 1
header_type header.ConstVoidPointer = pointers base.Void true 1
header_type header.CharPointer = pointers (base.Whole kind.Char) false 1
header_type header.ConstCharPointer = pointers (base.Whole kind.Char) true 1
header_type header.IntPointer = pointers (base.Whole kind.Int) false 1
header_type header.ArgumentsPointer = pointers (base.Whole kind.Char) false 3
header_type header.Status = pointers (base.Struct status_number) false 0
header_type header.StatusPointer = pointers (base.Struct status_number) false 1
header_type header.ConstStatusPointer = pointers (base.Struct status_number) true 1

abbrev pub header_types : List HeaderType → List CType
header_types ts = map header_type ts

abbrev pub header_function : HeaderType → List HeaderType → FunctionType
header_function gives takes = record { result = header_type gives; parameters = header_types takes }

-- what a name of a header means
abbrev pub item_named : HeaderItem → Named
item_named (item.TypeName t) = named.Type (header_type t)
item_named (item.Constant value) = named.Constant kind.Int (cast_unsigned w32 value)
item_named (item.NullPointer t) = named.NullPointer (header_type t)
item_named (item.Library call) = named.Library call (header_function (lib_result call) (lib_parameters call))
item_named (item.Mpi call) = named.Mpi call (header_function header.Int (mpi_parameters call))
