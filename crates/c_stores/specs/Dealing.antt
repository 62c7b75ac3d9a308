-- How the initialisers of a list are dealt to the objects within the list's object (C11, 6.7.9p17 to p22).
use Rattle.std.specs.Prelude.{ℕ, ◌+◌, ◌/◌, ◌%◌, ◌^◌, ◌||◌, nat_eq, nat_lt, if◌then◌else◌, Bool, true, false, List, [], ◌∷◌, ◌++◌, Option, Some, None}
use Rattle.c_types.specs.declared.ctype.CType.{CType}
use Rattle.c_types.specs.declared.ctype.Part.{Part}
use Rattle.c_types.specs.declared.ctype.Part.TheVariants as part
use Rattle.c_types.specs.declared.statement.Store.{Store}
use Rattle.c_types.specs.declared.statement.Stored.{Stored}
use Rattle.c_types.specs.declared.statement.Stored.TheVariants as put
use Rattle.c_types.specs.Sizes.{Structs, size_limit}
use Rattle.c_typing.specs.declared.classes.Class.{Class}
use Rattle.c_typing.specs.declared.classes.Class.TheVariants as class
use Rattle.c_typing.specs.declared.rules.Rule.{Rule}
use Rattle.c_typing.specs.declared.rules.Rule.TheVariants as rule
use Rattle.c_typing.specs.Types.{measured, last_part, without_last}
use Rattle.c_typing.specs.Classes.{class_of_type, kind_in}
use Rattle.c_stores.specs.declared.spots.Spot.{Spot}
use Rattle.c_stores.specs.declared.spots.Want.{Want}
use Rattle.c_stores.specs.declared.spots.Want.TheVariants as want
use Rattle.c_stores.specs.declared.dealing.Target.{Target}
use Rattle.c_stores.specs.declared.dealing.Turn.{Turn}
use Rattle.c_stores.specs.declared.dealing.Dealt.{Dealt}
use Rattle.c_stores.specs.declared.dealing.Taken.{Taken}
use Rattle.c_stores.specs.declared.dealing.Plan.{Plan}
use Rattle.c_stores.specs.declared.dealing.Placing.TheVariants as placing
use Rattle.c_stores.specs.Spots.{spot_for}

-- The first initialiser is for what begins with the list's object.
abbrev pub first_turn : Turn
first_turn = record { next = Some 0; last = 0; is_broken = false; is_over = false }

-- Nothing is dealt.
abbrev pub no_turn : Turn
no_turn = record { next = None; last = 0; is_broken = false; is_over = false }

-- An initialiser that isn't dealt breaks a rule.
abbrev pub broken_turn : Turn
broken_turn = record { next = None; last = 0; is_broken = true; is_over = false }

-- Behind an initialiser it is the turn of what stands behind its object.
abbrev pub passed : ℕ → Option ℕ → Bool → Turn → Turn
passed last next is_broken turn = record { next = next; last = last; is_broken = turn.is_broken || is_broken; is_over = turn.is_over }

abbrev pub over_turn : Bool → Turn → Turn
over_turn is_broken turn = record { next = None; last = turn.last; is_broken = turn.is_broken || is_broken; is_over = true }

-- whether a rule is broken in a list
abbrev pub is_spoilt : Turn → Bool
is_spoilt turn = turn.is_broken || turn.is_over

abbrev pub dealt_from : List Store → Turn → Dealt
dealt_from stores turn = record { stores = stores; turn = turn }

abbrev pub inner_target : ℕ → Target → Target
inner_target offset at = record { token = at.token; base = at.base; offset = at.offset + offset }

-- The object whose turn it is. It begins within the bytes that an object may have.
abbrev pub bounded : Target → Option Spot → Option Spot
bounded at (Some p) = if nat_lt (at.offset + p.offset) size_limit then Some p else None
bounded at None = None

abbrev pub spot_at : Structs → CType → Target → Option ℕ → Want → Option Spot
spot_at structs t at (Some position) w = bounded at (spot_for structs t position w)
spot_at structs t at None w = None

abbrev pub next_spot : Structs → CType → Target → Turn → Want → Option Spot
next_spot structs t at turn w = spot_at structs t at turn.next w

-- A list within a list is dealt to the parts of its object. To a number or a pointer that has its braces already nothing is dealt, nor where no
-- object is left.
abbrev pub inner_plan : Target → Spot → Bool → Plan
inner_plan at p true = record { target = at; of = p.of; turn = no_turn; placing = placing.Unfit p.offset p.next }
inner_plan at p false = record { target = inner_target p.offset at; of = p.of; turn = first_turn; placing = placing.Within p.offset p.next }

abbrev pub spot_plan : Target → Spot → Plan
spot_plan at p = inner_plan at p p.is_whole

abbrev pub plan_by : CType → Target → Option Spot → Plan
plan_by t at (Some p) = spot_plan at p
plan_by t at None = record { target = at; of = t; turn = no_turn; placing = placing.Over }

abbrev pub list_plan : Structs → CType → Target → Turn → Plan
list_plan structs t at turn = plan_by t at (next_spot structs t at turn want.List)

-- A structure is copied, and what else takes one value is stored as a number of its kind.
abbrev pub size_or_none : Option ℕ → ℕ
size_or_none (Some n) = n
size_or_none None = 0

abbrev pub stored_by : Structs → CType → Class → Stored
stored_by structs t (class.Struct n) = put.Structure (size_or_none (measured structs t))
stored_by structs t c = put.Number (kind_in c)

abbrev pub stored_as : Structs → CType → Stored
stored_as structs t = stored_by structs t (class_of_type structs t)

abbrev pub taken_by : Structs → Spot → Taken
taken_by structs p = record { offset = p.offset; next = p.next; stored = stored_as structs p.of }

-- An array of open size has room for as many elements as an object may have. So no object is left only where it is too large.
abbrev pub is_open_part : Option Part → Bool
is_open_part (Some (part.Pointer is_const)) = false
is_open_part (Some (part.Array count)) = false
is_open_part (Some part.OpenArray) = true
is_open_part None = false

abbrev pub is_open : CType → Bool
is_open t = is_open_part (last_part t)

abbrev pub over_rule : CType → Rule
over_rule t = if is_open t then rule.TooLarge else rule.TooManyInitialisers

-- It has as many elements as its initialiser asks for, if no rule is broken there.
abbrev pub with_count : CType → ℕ → CType
with_count t count = record t { parts = t.parts ++ part.Array count ∷ [] }

abbrev pub counted_by : CType → Option ℕ → ℕ → Option CType
counted_by t (Some size) last = if nat_eq size 0 then None else Some (with_count t ((last / size + 1) % 2 ^ 64))
counted_by t None last = None

abbrev pub counted : Structs → CType → ℕ → Option CType
counted structs t last = counted_by t (measured structs t) last

abbrev pub sized : Structs → CType → Turn → Option CType
sized structs t turn =
    if is_open t then (if is_spoilt turn then None else counted structs (without_last t) turn.last) else Some t
