-- Constants, enumerators and parameters (C11, 6.6, 6.7.2.2 and 6.7.6.3).
use Rattle.std.specs.Prelude.{ℕ, ◌+◌, ◌%◌, ◌^◌, ◌&&◌, ◌||◌, nat_eq, nat_le, is_some, if◌then◌else◌, Bool, true, false, List, [], ◌∷◌, Option, Some, None}
use Rattle.rank_range.specs.declared.kinds.Kind.{Kind}
use Rattle.rank_range.specs.declared.kinds.Kind.TheVariants as kind
use Rattle.rank_range.specs.Kinds.{is_signed, convert, extended}
use Rattle.c_ast.specs.declared.words.Name.{Name}
use Rattle.c_types.specs.declared.ctype.CType.{CType}
use Rattle.c_types.specs.declared.names.Named.{Named}
use Rattle.c_types.specs.declared.names.Named.TheVariants as named
use Rattle.c_types.specs.declared.names.Tagged.{Tagged}
use Rattle.c_types.specs.declared.names.Tagged.TheVariants as tagged
use Rattle.c_const.specs.declared.evaluated.Evaluated.{Evaluated}
use Rattle.c_typing.specs.declared.judged.Judged.{Judged}
use Rattle.c_typing.specs.declared.judged.Judged.TheVariants as judged
use Rattle.c_typing.specs.declared.classes.Class.{Class}
use Rattle.c_typing.specs.declared.classes.Class.TheVariants as class
use Rattle.c_typing.specs.declared.rules.Rule.{Rule}
use Rattle.c_typing.specs.declared.rules.Rule.TheVariants as rule
use Rattle.c_typing.specs.Types.{pointer_to, without_last}
use Rattle.c_typing.specs.Classes.{is_scalar}
use Rattle.c_typing.specs.Storing.{is_array}
use Rattle.c_judge.specs.declared.checker.Checker.{Checker}
use Rattle.c_judge.specs.declared.shapes.Shape.{Shape}
use Rattle.c_judge.specs.declared.shapes.Shape.TheVariants as shape
use Rattle.c_judge.specs.declared.shapes.Extent.{Extent}
use Rattle.c_judge.specs.declared.shapes.Extent.TheVariants as extent
use Rattle.c_judge.specs.Sight.{declared_here, with_name, tag_in, tag_here, with_tag}
use Rattle.c_judge.specs.State.{Doing, then_with, with_broken}

-- what an expression has as a constant
abbrev pub constant_of : Judged → Option Evaluated
constant_of (judged.Value v) = v.constant
constant_of (judged.Place t e) = None
constant_of (judged.Function t callee) = None

abbrev pub constant_word : Option ℕ → Kind → ℕ → Doing (Option Evaluated)
constant_word (Some word) k token s = (Some (record { kind = k; word = Some word }), s)
constant_word None k token s = (None, with_broken token rule.NotConstant s)

abbrev pub constant_value : Option Evaluated → ℕ → Doing (Option Evaluated)
constant_value (Some v) token s = constant_word v.word v.kind token s
constant_value None token s = (None, with_broken token rule.NotConstant s)

-- The value of a constant expression that begins at a token. One that isn't constant, or traps where it is evaluated, breaks a rule.
abbrev pub constant : ℕ → Option Judged → Doing (Option Evaluated)
constant token (Some j) s = constant_value (constant_of j) token s
constant token None s = (None, s)

-- The size of an array is greater than 0.
abbrev pub is_negative : Kind → ℕ → Bool
is_negative k word = is_signed k && nat_le 9223372036854775808 word

abbrev pub extent_of : Kind → ℕ → Extent
extent_of k word = if nat_eq word 0 || is_negative k word then extent.Bad else extent.Count word

abbrev pub word_extent : Option ℕ → Kind → Shape
word_extent (Some word) k = shape.Array (extent_of k word)
word_extent None k = shape.Unknown

abbrev pub value_extent : Option Evaluated → Shape
value_extent (Some v) = word_extent v.word v.kind
value_extent None = shape.Unknown

abbrev pub extent_from : ℕ → Option Judged → Doing Shape
extent_from token j s = (value_extent (constant token j s).0, (constant token j s).1)

-- An enumerator is an `int`; of a greater number the low bits are taken, which is this profile's own.
abbrev pub word_int : Option ℕ → Kind → Option ℕ
word_int (Some word) k = Some (convert word k kind.Int)
word_int None k = None

abbrev pub value_int : Option Evaluated → Option ℕ
value_int (Some v) = word_int v.word v.kind
value_int None = None

abbrev pub enumerator_value : ℕ → Option Judged → Doing (Option ℕ)
enumerator_value token j s = (value_int (constant token j s).0, (constant token j s).1)

abbrev pub next_value : Option ℕ → Option ℕ
next_value (Some v) = Some (extended kind.Int ((v + 1) % 2 ^ 64))
next_value None = None

-- A name without linkage is declared once in a scope (C11, 6.7p3).
abbrev pub declared_by : Bool → Name → Option Named → Checker → Checker
declared_by true name meaning s = with_broken name.token rule.DeclaredTwice s
declared_by false name meaning s = record s { sight = with_name name.text meaning s.sight }

abbrev pub with_declared : Name → Option Named → Checker → Checker
with_declared name meaning s = declared_by (is_some (declared_here s.sight name.text)) name meaning s

abbrev pub int_constant : Option ℕ → Option Named
int_constant (Some v) = Some (named.Constant kind.Int v)
int_constant None = None

abbrev pub with_enumerator : Name → Option ℕ → Checker → Checker
with_enumerator name value s = with_declared name (int_constant value) s

-- An enumeration is defined once in a scope, and named where it is defined.
abbrev pub enum_tag : Option Tagged → Name → Checker → Checker
enum_tag (Some tagged.Enum) name s = with_broken name.token rule.DeclaredTwice s
enum_tag (Some (tagged.Struct n)) name s = with_broken name.token rule.DeclaredDifferently s
enum_tag None name s = record s { sight = with_tag name.text tagged.Enum s.sight }

abbrev pub with_enum_tag : Name → Checker → Checker
with_enum_tag name s = enum_tag (tag_here s.sight name.text) name s

abbrev pub with_enum : Option Name → Checker → Checker
with_enum (Some name) s = with_enum_tag name s
with_enum None s = s

abbrev pub enum_by : Option Tagged → Name → Doing Bool
enum_by (Some tagged.Enum) name s = (true, s)
enum_by (Some (tagged.Struct n)) name s = (false, with_broken name.token rule.DeclaredDifferently s)
enum_by None name s = (false, with_broken name.token rule.Incomplete s)

abbrev pub referred_enum : Name → Doing Bool
referred_enum name s = enum_by (tag_in s.sight name.text) name s

-- A parameter is a number or a pointer, which is this profile's own. An array is as a pointer.
abbrev pub adjusted_rule : Class → Option Rule
adjusted_rule c = if is_array c || is_scalar c then None else Some rule.BadParameterOrResult

abbrev pub adjusted : CType → Class → CType
adjusted t class.Array = pointer_to (without_last t)
adjusted t c = t
