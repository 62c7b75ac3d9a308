-- The bytes with which static objects begin (C11, 6.7.9), and the places of addresses in them.
use Rattle.std.specs.Prelude.{ℕ, ◌≡◌, ◌+◌, ◌-◌, ◌<◌, Bool, true, false, if◌then◌else◌, List, [], ◌∷◌, ◌++◌, length, replicate, Option, Some, None, Result, Ok, Err}
use Rattle.rank_range.specs.declared.kinds.Kind.{Kind}
use Rattle.rank_range.specs.declared.kinds.Kind.TheVariants as kind
use Rattle.rank_range.specs.Kinds.{width_of}
use Rattle.rank_range.specs.Numbers.{bytes_in, with_number}
use Rattle.c_types.specs.declared.program.Initial.{Initial}
use Rattle.c_types.specs.declared.program.Fix.{Fix}
use Rattle.c_types.specs.declared.statement.Store.{Store}
use Rattle.c_types.specs.declared.statement.Stored.{Stored}
use Rattle.c_types.specs.declared.statement.Stored.TheVariants as stored
use Rattle.c_types.specs.Sizes.{size_limit}
use Rattle.c_const.specs.declared.statics.Static.{Static}
use Rattle.c_const.specs.declared.statics.Static.TheVariants as static
use Rattle.c_const.specs.declared.error.ConstError.{ConstError}
use Rattle.c_const.specs.declared.error.ConstError.TheVariants.{NotConstant, Memory}
use Rattle.c_const.specs.Statics.{static_of}

-- The store lies in an object, which has no more bytes than it may have.
abbrev pub IsWithin : Store → Type 0
IsWithin s = s.offset < size_limit

-- bytes that are followed by zeros up to a length, where they are shorter
abbrev pub padded : List ℕ → ℕ → List ℕ
padded bytes n = bytes ++ replicate (n - length bytes) 0

-- The n lowest bytes of a word, the lowest first, at an offset; what isn't initialised before it is zero.
abbrev pub put_number : List ℕ → ℕ → ℕ → ℕ → List ℕ
put_number bytes at n word = with_number (padded bytes (at + n)) at n word

-- an object before its first initialiser
abbrev pub nothing_yet : Initial
nothing_yet = record { bytes = []; fixes = [] }

abbrev pub with_word : Initial → ℕ → Kind → ℕ → Initial
with_word i at k word = record { bytes = put_number i.bytes at (bytes_in (width_of k)) word; fixes = i.fixes }

-- An address is a fix, whose eight bytes are zero.
abbrev pub fix_of : ℕ → ℕ → ℕ → Fix
fix_of at object addend = record { offset = at; object = object; addend = addend }

abbrev pub with_fix : Initial → ℕ → ℕ → ℕ → Initial
with_fix i at object addend = record { bytes = put_number i.bytes at 8 0; fixes = i.fixes ++ fix_of at object addend ∷ [] }

-- the kind of a pointer
abbrev pub is_of_pointers : Kind → Bool
is_of_pointers kind.Char = false
is_of_pointers kind.UnsignedChar = false
is_of_pointers kind.Short = false
is_of_pointers kind.UnsignedShort = false
is_of_pointers kind.Int = false
is_of_pointers kind.Unsigned = false
is_of_pointers kind.Long = false
is_of_pointers kind.UnsignedLong = true

-- A number is stored in its kind, and an address where a pointer stands. Nothing else is constant.
abbrev pub with_address : Initial → ℕ → Kind → ℕ → ℕ → Option Initial
with_address i at k object addend = if is_of_pointers k then Some (with_fix i at object addend) else None

abbrev pub with_value : Initial → ℕ → Kind → Option Static → Option Initial
with_value i at k (Some (static.Number (Some word))) = Some (with_word i at k word)
with_value i at k (Some (static.Number None)) = None
with_value i at k (Some (static.Address object (Some addend))) = with_address i at k object addend
with_value i at k (Some (static.Address object None)) = None
with_value i at k None = None

abbrev pub with_stored : Initial → ℕ → Stored → Option Static → Option Initial
with_stored i at (stored.Number k) v = with_value i at k v
with_stored i at (stored.Structure size) v = None

abbrev pub with_store : Initial → Store → Option Initial
with_store i s = with_stored i s.offset s.stored (static_of s.value.expr)

-- what follows where there is a value, and else that the expression at this token is no constant
abbrev pub go_on : ℕ → Option Initial → (Initial → Result Initial ConstError) → Result Initial ConstError
go_on token (Some i) next = next i
go_on token None next = Err (NotConstant token)

-- The stores of an initialiser one behind the other. The first one whose value is no constant is told.
abbrev pub initial_from : Initial → List Store → Result Initial ConstError
initial_from i [] = Ok i
initial_from i (s ∷ ss) = go_on s.value.token (with_store i s) (λ j. initial_from j ss)

abbrev pub initial_of : List Store → Result Initial ConstError
initial_of stores = initial_from nothing_yet stores

-- An answer is the one that is meant, unless memory runs out.
abbrev pub Tells : Result Initial ConstError → Result Initial ConstError → Type 0
Tells (Ok i) meant = meant ≡ Ok i
Tells (Err (NotConstant token)) meant = meant ≡ Err (NotConstant token)
Tells (Err Memory) meant = Unit {0}

-- What is left where one store more was put: the object with it, or it is told as no constant.
abbrev pub Puts : {E : Type 0} → Result E ConstError → ℕ → Option Initial → Initial → Type 0
Puts (Ok done) token given new = given ≡ Some new
Puts (Err (NotConstant at)) token given new = (given ≡ None) × (at ≡ token)
Puts (Err Memory) token given new = Unit {0}

-- an object by its bytes and fixes
abbrev pub so_far : List ℕ → List Fix → Initial
so_far bytes fixes = record { bytes = bytes; fixes = fixes }
