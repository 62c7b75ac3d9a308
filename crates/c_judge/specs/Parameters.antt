-- Parameters (C11, 6.7.6.3) and the rooms of locals in a frame.
use Rattle.std.specs.Prelude.{ℕ, ◌^◌, ◌&&◌, nat_le, nat_lt, not, if◌then◌else◌, Bool, true, false, List, [], ◌∷◌, ◌++◌, Option, Some, None}
use Rattle.c_ast.specs.declared.words.Name.{Name}
use Rattle.c_types.specs.declared.ctype.CType.{CType}
use Rattle.c_types.specs.declared.names.Named.{Named}
use Rattle.c_types.specs.declared.names.Named.TheVariants as named
use Rattle.c_types.specs.declared.rooms.Rooms.{Rooms}
use Rattle.c_types.specs.Sizes.{Structs, alignment_of}
use Rattle.c_types.specs.Rooms.{offset_behind, with_room}
use Rattle.c_typing.specs.declared.classes.Class.{Class}
use Rattle.c_typing.specs.declared.rules.Rule.{Rule}
use Rattle.c_typing.specs.declared.rules.Rule.TheVariants as rule
use Rattle.c_typing.specs.Rules.{lesser}
use Rattle.c_typing.specs.Types.{measured}
use Rattle.c_typing.specs.Classes.{class_of_type, is_void}
use Rattle.c_judge.specs.declared.checker.Checker.{Checker}
use Rattle.c_judge.specs.declared.shapes.Built.{Built}
use Rattle.c_judge.specs.declared.shapes.Built.TheVariants as built
use Rattle.c_judge.specs.declared.shapes.Made.{Made}
use Rattle.c_judge.specs.declared.shapes.Shape.{Shape}
use Rattle.c_judge.specs.declared.shapes.Shape.TheVariants as shape
use Rattle.c_judge.specs.declared.constants.ParamType.{ParamType}
use Rattle.c_judge.specs.declared.constants.ParamType.TheVariants as param
use Rattle.c_judge.specs.Shapes.{applied}
use Rattle.c_judge.specs.Structures.{size_or_none}
use Rattle.c_judge.specs.Constants.{adjusted_rule, adjusted, with_declared}
use Rattle.c_judge.specs.State.{Doing, with_broken}

-- Locals lie one behind the other, each aligned. A frame of 2 ^ 63 bytes, which no source has, grows no more.
abbrev pub frame_limit : ℕ
frame_limit = 9223372036854775808

abbrev pub is_full : Rooms → Bool
is_full rooms = nat_le frame_limit rooms.end

abbrev pub local_room : Structs → CType → Rooms → Rooms
local_room structs t rooms = if is_full rooms then rooms else with_room (size_or_none (measured structs t)) (alignment_of structs t) rooms

abbrev pub local_offset : Structs → CType → Rooms → ℕ
local_offset structs t rooms = if is_full rooms then 0 else offset_behind (alignment_of structs t) rooms

-- a parameter's type, by what its declarator makes
abbrev pub object_rule : Structs → Option Built → Option Rule
object_rule structs (Some (built.Object t)) = adjusted_rule (class_of_type structs t)
object_rule structs (Some (built.Function t)) = Some rule.BadParameterOrResult
object_rule structs None = None

abbrev pub parameter_type : Structs → Option Built → ParamType
parameter_type structs (Some (built.Object t)) = param.Known (adjusted t (class_of_type structs t))
parameter_type structs (Some (built.Function t)) = param.Unknown
parameter_type structs None = param.Unknown

abbrev pub parameter_by : Option Rule → ℕ → Option Built → Doing ParamType
parameter_by (Some r) token b s = (param.Unknown, with_broken token r s)
parameter_by None token b s = (parameter_type s.sight.structs b, s)

abbrev pub parameter_made : ℕ → Made → Doing ParamType
parameter_made token m s = parameter_by (lesser m.rule (object_rule s.sight.structs m.of)) token m.of s

-- A named parameter is a local of the function. A parameter whose type isn't known is declared, and means nothing.
abbrev pub local_named : Checker → CType → Named
local_named s t = named.Local (local_offset s.sight.structs t s.rooms) t

abbrev pub with_room_taken : CType → Checker → Checker
with_room_taken t s = record s { rooms = local_room s.sight.structs t s.rooms }

abbrev pub with_local : Name → CType → Checker → Checker
with_local name t s =
    with_declared name (Some (local_named s t)) (with_room_taken t s)

abbrev pub with_parameter_name : Name → ParamType → Checker → Checker
with_parameter_name name (param.Known t) s = with_local name t s
with_parameter_name name (param.Void token) s = with_declared name None s
with_parameter_name name param.Unknown s = with_declared name None s

abbrev pub named_parameter : Name → Made → Doing ParamType
named_parameter name m s =
    ((parameter_made name.token m s).0, with_parameter_name name (parameter_made name.token m s).0 (parameter_made name.token m s).1)

-- `void` without a name, by a typedef, is no parameter where it stands alone.
abbrev pub is_plain_void : Structs → CType → Bool
is_plain_void structs t = is_void (class_of_type structs t) && not t.is_const

abbrev pub is_lone_void : Structs → Bool → Option Built → Bool
is_lone_void structs is_named (Some (built.Object t)) = is_named && is_plain_void structs t
is_lone_void structs is_named (Some (built.Function t)) = false
is_lone_void structs is_named None = false

-- A parameter without a name has its room in the frame all the same.
abbrev pub room_for : ParamType → Checker → Checker
room_for (param.Known t) s = with_room_taken t s
room_for (param.Void token) s = s
room_for param.Unknown s = s

abbrev pub with_unnamed : ParamType × Checker → ParamType × Checker
with_unnamed done = (done.0, room_for done.0 done.1)

abbrev pub unnamed_parameter : ℕ → Bool → Made → Doing ParamType
unnamed_parameter token is_named m s =
    if is_lone_void s.sight.structs is_named m.of then (param.Void token, s) else with_unnamed (parameter_made token m s)

-- The parameters of a function, one behind the other.
abbrev pub with_parameter : Bool → Option (List CType) → ParamType → Doing (Option (List CType))
with_parameter is_alone (Some ts) (param.Known t) s = (Some (ts ++ t ∷ []), s)
with_parameter is_alone None (param.Known t) s = (None, s)
with_parameter true ts (param.Void token) s = (ts, s)
with_parameter false ts (param.Void token) s = (None, with_broken token rule.BadParameterOrResult s)
with_parameter is_alone ts param.Unknown s = (None, s)

abbrev pub parameters_of : Option (List CType) → Shape
parameters_of (Some ts) = shape.Function ts
parameters_of None = shape.Unknown
