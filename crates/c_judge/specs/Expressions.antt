-- What expressions are (C11, 6.5), by what their parts are. Parts are looked at in the order of their tokens.
use Rattle.std.specs.Prelude.{ℕ, ◌+◌, ◌-◌, ◌&&◌, not, Bool, true, false, List, [], ◌∷◌, slice_get, Option, Some, None, Result, Ok, Err}
use Rattle.am_base.specs.declared.bytes.Bytes.{Bytes}
use Rattle.rank_range.specs.declared.operators.Unary.TheVariants as unary
use Rattle.rank_range.specs.declared.operators.Binary.{Binary}
use Rattle.rank_range.specs.declared.operators.Binary.TheVariants as machine
use Rattle.rank_range.specs.declared.kinds.Kind.TheVariants as kind
use Rattle.c_ast.specs.declared.words.Name.{Name}
use Rattle.c_ast.specs.declared.words.PrefixOp.{PrefixOp}
use Rattle.c_ast.specs.declared.words.PrefixOp.TheVariants as prefix
use Rattle.c_ast.specs.declared.words.BinaryOp.{BinaryOp}
use Rattle.c_ast.specs.declared.words.AssignOp.{AssignOp}
use Rattle.c_ast.specs.declared.words.AssignOp.TheVariants as assign
use Rattle.c_ast.specs.declared.expression.Link.{Link}
use Rattle.c_ast.specs.declared.expression.PostfixOp.{PostfixOp}
use Rattle.c_ast.specs.declared.expression.PostfixOp.TheVariants as postfix
use Rattle.c_types.specs.declared.ctype.CType.{CType}
use Rattle.c_types.specs.declared.expression.Direction.{Direction}
use Rattle.c_types.specs.declared.expression.Direction.TheVariants as direction
use Rattle.c_types.specs.declared.expression.Given.TheVariants as given
use Rattle.c_typing.specs.declared.judged.Judged.{Judged}
use Rattle.c_typing.specs.declared.judged.Judged.TheVariants as judged
use Rattle.c_typing.specs.declared.calling.Arguments.{Arguments}
use Rattle.c_typing.specs.declared.rules.Rule.{Rule}
use Rattle.c_typing.specs.declared.rules.Rule.TheVariants as rule
use Rattle.c_typing.specs.Values.{number}
use Rattle.c_typing.specs.Operators.{binary}
use Rattle.c_typing.specs.Unary.{address, deref, sign, deny, cast, size_of_type, size_of_judged}
use Rattle.c_typing.specs.Places.{index, member, arrow}
use Rattle.c_typing.specs.Choosing.{conditional, comma}
use Rattle.c_typing.specs.Storing.{count, assign as stored_to, update}
use Rattle.c_typing.specs.Calling.{with_argument, no_arguments, call}
use Rattle.c_typing.specs.Classes.{class_of_type, is_void}
use Rattle.c_judge.specs.declared.checker.Checker.{Checker}
use Rattle.c_judge.specs.declared.checker.Mode.{Mode}
use Rattle.c_judge.specs.declared.shapes.Built.{Built}
use Rattle.c_judge.specs.declared.shapes.Built.TheVariants as built
use Rattle.c_judge.specs.State.{Doing, then_with, settled, on_one, on_two, on_three}

-- An expression is told by its first token, and by what it is in a mode.
pub record Reading : Type 0 where
  pub token : ℕ
  pub judge : Mode → Doing (Option Judged)

-- an operand, whose value is used
abbrev pub operand : Mode → Mode
operand m = record { is_used = true; is_evaluated = m.is_evaluated }

-- an operand whose value isn't used
abbrev pub unused : Mode → Mode
unused m = record { is_used = false; is_evaluated = m.is_evaluated }

-- the operand of `sizeof`
abbrev pub unevaluated : Mode
unevaluated = record { is_used = false; is_evaluated = false }

-- a constant
abbrev pub a_number : Judged → Doing (Option Judged)
a_number j s = (Some j, s)

-- the operators before their operand
abbrev pub prefixed : PrefixOp → Checker → Judged → Result Judged Rule
prefixed prefix.Increment s j = count s.sight.structs s.sight.fixed direction.Up given.New j
prefixed prefix.Decrement s j = count s.sight.structs s.sight.fixed direction.Down given.New j
prefixed prefix.Address s j = address j
prefixed prefix.Deref s j = deref s.sight.structs j
prefixed prefix.Plus s j = sign s.sight.structs prefix.Plus None j
prefixed prefix.Minus s j = sign s.sight.structs prefix.Minus (Some unary.Negate) j
prefixed prefix.Complement s j = sign s.sight.structs prefix.Complement (Some unary.Complement) j
prefixed prefix.Not s j = deny s.sight.structs j

abbrev pub with_prefix : PrefixOp → ℕ → Option Judged → Doing (Option Judged)
with_prefix o token j s = on_one j (prefixed o s) token s

-- operators of one level between their operands, from left to right
abbrev pub linked : BinaryOp → ℕ → Option Judged → Option Judged → Doing (Option Judged)
linked o at a b s = on_two a b (binary s.sight.structs o) at s

abbrev pub with_links : List (Link Reading) → Mode → Option Judged → Doing (Option Judged)
with_links [] mode a s = (a, s)
with_links (l ∷ ls) mode a s =
    then_with (then_with (l.right.judge (operand mode) s) (linked l.op l.at a)) (with_links ls mode)

-- The arguments of a call, each for its parameter.
abbrev pub parameter : Option Judged → ℕ → Option CType
parameter (Some (judged.Function t callee)) i = slice_get t.parameters i
parameter (Some (judged.Place t e)) i = None
parameter (Some (judged.Value v)) i = None
parameter None i = None

abbrev pub passed : Option CType → Option Arguments → Option Judged → Doing (Option Arguments)
passed to (Some a) (Some j) s = (Some (with_argument s.sight.structs to j a), s)
passed to (Some a) None s = (None, s)
passed to None j s = (None, s)

abbrev pub pass_all : List Reading → Mode → Option Judged → ℕ → Option Arguments → Doing (Option Arguments)
pass_all [] mode f i a s = (a, s)
pass_all (e ∷ es) mode f i a s =
    then_with (then_with (e.judge (operand mode) s) (passed (parameter f i) a)) (pass_all es mode f (i + 1))

abbrev pub called : ℕ → Option Judged → Option Arguments → Doing (Option Judged)
called at (Some f) (Some a) s = settled at (call f a) s
called at (Some f) None s = (None, s)
called at None a s = (None, s)

-- the operators behind their operand
abbrev pub indexed : ℕ → Option Judged → Option Judged → Doing (Option Judged)
indexed at a b s = on_two a b (index s.sight.structs) at s

abbrev pub member_named : Name → Option Judged → Doing (Option Judged)
member_named name a s = on_one a (member s.sight.structs name.text) name.token s

abbrev pub arrow_named : Name → Option Judged → Doing (Option Judged)
arrow_named name a s = on_one a (arrow s.sight.structs name.text) name.token s

abbrev pub counted : Direction → ℕ → Option Judged → Doing (Option Judged)
counted d at a s = on_one a (count s.sight.structs s.sight.fixed d given.Old) at s

abbrev pub with_operator : PostfixOp Reading → Mode → Option Judged → Doing (Option Judged)
with_operator (postfix.Index at e) mode a s = then_with (e.judge (operand mode) s) (indexed at a)
with_operator (postfix.Call at es) mode a s = then_with (pass_all es mode a 0 (Some no_arguments) s) (called at a)
with_operator (postfix.Member at name) mode a s = member_named name a s
with_operator (postfix.Arrow at name) mode a s = arrow_named name a s
with_operator (postfix.Increment at) mode a s = counted direction.Up at a s
with_operator (postfix.Decrement at) mode a s = counted direction.Down at a s

abbrev pub with_operators : List (PostfixOp Reading) → Mode → Option Judged → Doing (Option Judged)
with_operators [] mode a s = (a, s)
with_operators (o ∷ os) mode a s = then_with (with_operator o mode a s) (with_operators os mode)

-- `sizeof`
abbrev pub sized : ℕ → Option Judged → Doing (Option Judged)
sized token j s = on_one j (size_of_judged s.sight.structs) token s

abbrev pub built_size : Checker → Built → Result Judged Rule
built_size s (built.Object t) = size_of_type s.sight.structs t
built_size s (built.Function t) = Err rule.Incomplete

abbrev pub sized_type : ℕ → Option Built → Doing (Option Judged)
sized_type token (Some b) s = settled token (built_size s b) s
sized_type token None s = (None, s)

-- A cast to `void` doesn't use the value of its operand; a type of functions is none that is cast to.
abbrev pub uses_operand : Checker → Option Built → Bool
uses_operand s (Some (built.Object t)) = not (is_void (class_of_type s.sight.structs t))
uses_operand s (Some (built.Function t)) = true
uses_operand s None = true

abbrev pub cast_mode : Checker → Option Built → Mode → Mode
cast_mode s b m = record { is_used = uses_operand s b; is_evaluated = m.is_evaluated }

abbrev pub built_cast : Checker → Built → Judged → Result Judged Rule
built_cast s (built.Object t) j = cast s.sight.structs t j
built_cast s (built.Function t) j = Err rule.NotScalar

abbrev pub casted : ℕ → Option Built → Option Judged → Doing (Option Judged)
casted token (Some b) j s = on_one j (built_cast s b) token s
casted token None j s = (None, s)

abbrev pub cast_to : ℕ → Reading → Mode → Option Built → Doing (Option Judged)
cast_to token e mode b s = then_with (e.judge (cast_mode s b mode) s) (casted token b)

-- `?:`
abbrev pub choose : ℕ → Option Judged → Option Judged → Option Judged → Doing (Option Judged)
choose at t a b s = on_three t a b (conditional s.sight.structs) at s

abbrev pub choose_last : ℕ → Reading → Mode → Option Judged → Option Judged → Doing (Option Judged)
choose_last at c mode t a s = then_with (c.judge (operand mode) s) (choose at t a)

abbrev pub choose_both : ℕ → Reading → Reading → Mode → Option Judged → Doing (Option Judged)
choose_both at b c mode t s = then_with (b.judge (operand mode) s) (choose_last at c mode t)

-- assignments
abbrev pub assigned : AssignOp → Checker → Judged → Judged → Result Judged Rule
assigned assign.Set s a b = stored_to s.sight.structs s.sight.fixed a b
assigned assign.Multiply s a b = update s.sight.structs s.sight.fixed machine.Multiply a b
assigned assign.Divide s a b = update s.sight.structs s.sight.fixed machine.Divide a b
assigned assign.Remainder s a b = update s.sight.structs s.sight.fixed machine.Remainder a b
assigned assign.Add s a b = update s.sight.structs s.sight.fixed machine.Add a b
assigned assign.Subtract s a b = update s.sight.structs s.sight.fixed machine.Subtract a b
assigned assign.ShiftLeft s a b = update s.sight.structs s.sight.fixed machine.ShiftLeft a b
assigned assign.ShiftRight s a b = update s.sight.structs s.sight.fixed machine.ShiftRight a b
assigned assign.BitAnd s a b = update s.sight.structs s.sight.fixed machine.And a b
assigned assign.BitXor s a b = update s.sight.structs s.sight.fixed machine.Xor a b
assigned assign.BitOr s a b = update s.sight.structs s.sight.fixed machine.Or a b

abbrev pub with_assign : AssignOp → ℕ → Option Judged → Option Judged → Doing (Option Judged)
with_assign o at a b s = on_two a b (assigned o s) at s

abbrev pub assign_value : AssignOp → ℕ → Reading → Mode → Option Judged → Doing (Option Judged)
assign_value o at v mode a s = then_with (v.judge (operand mode) s) (with_assign o at a)

-- Commas: only the last value is used, where that of the whole is. A comma stands before its right operand.
abbrev pub last_mode : List Reading → Mode → Mode
last_mode [] mode = mode
last_mode (e ∷ es) mode = unused mode

abbrev pub with_comma : ℕ → Bool → Option Judged → Option Judged → Doing (Option Judged)
with_comma token is_used a b s = on_two a b (comma s.sight.structs is_used) (token - 1) s

abbrev pub with_commas : List Reading → Mode → Option Judged → Doing (Option Judged)
with_commas [] mode a s = (a, s)
with_commas (e ∷ es) mode a s =
    then_with (then_with (e.judge (last_mode es mode) s) (with_comma e.token (last_mode es mode).is_used a)) (with_commas es mode)
