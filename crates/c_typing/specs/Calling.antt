-- Calls (C11, 6.5.2.2), and values that are tested or dropped.
use Rattle.std.specs.Prelude.{ℕ, ◌==◌, nat_le, if◌then◌else◌, not, Bool, true, false, List, [], ◌∷◌, ◌++◌, length, Option, Some, None, Result, Ok, Err}
use Rattle.am_base.specs.declared.calls.LibCall.TheVariants as lib
use Rattle.rank_range.specs.declared.kinds.Kind.{Kind}
use Rattle.rank_range.specs.Kinds.{promoted}
use Rattle.c_types.specs.declared.ctype.CType.{CType}
use Rattle.c_types.specs.declared.ctype.FunctionType.{FunctionType}
use Rattle.c_types.specs.declared.expression.Expr.{Expr}
use Rattle.c_types.specs.declared.expression.Operand.{Operand}
use Rattle.c_types.specs.declared.expression.Operand.TheVariants as operand
use Rattle.c_types.specs.Sizes.{Structs}
use Rattle.c_typing.specs.declared.judged.Judged.{Judged}
use Rattle.c_typing.specs.declared.judged.Judged.TheVariants as judged
use Rattle.c_typing.specs.declared.judged.Value.{Value}
use Rattle.c_typing.specs.declared.judged.Callee.{Callee}
use Rattle.c_typing.specs.declared.judged.Callee.TheVariants as callee
use Rattle.c_typing.specs.declared.classes.Class.{Class}
use Rattle.c_typing.specs.declared.calling.Arguments.{Arguments}
use Rattle.c_typing.specs.declared.rules.Rule.{Rule}
use Rattle.c_typing.specs.declared.rules.Rule.TheVariants as rule
use Rattle.c_typing.specs.Rules.{Row, row, first_of, unless, lesser}
use Rattle.c_typing.specs.Classes.{class_of, is_whole, is_scalar, is_struct, is_void, is_function, kind_in}
use Rattle.c_typing.specs.Values.{used, plain}
use Rattle.c_typing.specs.Trees.{alone, converted}
use Rattle.c_typing.specs.Storing.{stored}

-- An argument without a parameter is a number or a pointer. A number is promoted.
abbrev pub passed_rows : Class → List Row
passed_rows c = row rule.NotScalar (is_function c) ∷ row rule.VoidUsed (is_void c) ∷ row rule.StructUsed (is_struct c) ∷ []

abbrev pub promoted_kind : Class → Kind
promoted_kind c = promoted (kind_in c)

abbrev pub promoted_value : Class → Value → Result Expr Rule
promoted_value c v = unless (first_of (passed_rows c)) (converted (record { tree = v.tree; from = kind_in c; to = promoted_kind c }))

unfoldable pub promoted_argument : Structs → Judged → Result Expr Rule
promoted_argument structs j = promoted_value (class_of structs (used j)) (used j)

-- An argument is stored as its parameter, as an assignment would.
abbrev pub passed : Structs → Option CType → Judged → Result Expr Rule
passed structs (Some t) j = stored structs t rule.StructUsed j
passed structs None j = promoted_argument structs j

abbrev pub no_arguments : Arguments
no_arguments = record { rule = None; trees = [] }

-- An argument that breaks a rule leaves the rule, and anything in its place.
abbrev pub with_passed : Result Expr Rule → Arguments → Arguments
with_passed (Ok e) a = record { rule = a.rule; trees = a.trees ++ e ∷ [] }
with_passed (Err r) a = record { rule = lesser a.rule (Some r); trees = a.trees ++ alone (operand.Number 0) ∷ [] }

unfoldable pub with_argument : Structs → Option CType → Judged → Arguments → Arguments
with_argument structs to j a = with_passed (passed structs to j) a

-- A function takes as many arguments as it has parameters, and `printf` takes more.
abbrev pub fits_count : Callee → ℕ → ℕ → Bool
fits_count (callee.Library lib.Printf) parameters count = nat_le parameters count
fits_count c parameters count = parameters == count

abbrev pub count_rule : Bool → Option Rule
count_rule true = None
count_rule false = Some rule.WrongCount

abbrev pub callee_rule : Judged → ℕ → Option Rule
callee_rule (judged.Function t c) count = count_rule (fits_count c (length t.parameters) count)
callee_rule (judged.Place t e) count = Some rule.NotFunction
callee_rule (judged.Value v) count = Some rule.NotFunction

abbrev pub call_of : Callee → List Expr → Operand
call_of (callee.Function n) es = operand.Call n es
call_of (callee.Library c) es = operand.Library c es
call_of (callee.Mpi c) es = operand.Mpi c es

abbrev pub called : CType → Callee → List Expr → Value
called t c es = plain t (alone (call_of c es))

abbrev pub call_function : Judged → List Expr → Result Judged Rule
call_function (judged.Function t c) es = Ok (judged.Value (called t.result c es))
call_function (judged.Place t e) es = Err rule.NotFunction
call_function (judged.Value v) es = Err rule.NotFunction

abbrev pub call_by : Option Rule → Result Judged Rule → Result Judged Rule
call_by None next = next
call_by (Some r) next = Err r

unfoldable pub call : Judged → Arguments → Result Judged Rule
call j a = call_by (lesser a.rule (callee_rule j (length a.trees))) (call_function j a.trees)

-- A test takes a number or a pointer.
abbrev pub test_value : Structs → Value → Result Expr Rule
test_value structs v = if not (is_scalar (class_of structs v)) then Err rule.NotScalar else Ok v.tree

unfoldable pub tested : Structs → Judged → Result Expr Rule
tested structs j = test_value structs (used j)

-- A `switch` takes a whole number, which is promoted (C11, 6.8.4.2).
abbrev pub switch_value : Class → Value → Result (Expr × Kind) Rule
switch_value c v =
    if not (is_whole c) then Err rule.NotWhole
    else Ok (converted (record { tree = v.tree; from = kind_in c; to = promoted_kind c }), promoted_kind c)

unfoldable pub switched : Structs → Judged → Result (Expr × Kind) Rule
switched structs j = switch_value (class_of structs (used j)) (used j)

-- A value that isn't used is evaluated all the same.
unfoldable pub dropped : Judged → Expr
dropped j = (used j).tree
