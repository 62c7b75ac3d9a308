-- What a name is where it stands in an expression (C11, 6.5.1).
use Rattle.std.specs.Prelude.{ℕ, List, [], ◌∷◌, Option, Some, None}
use Rattle.am_base.specs.declared.headers.HeaderItem.{HeaderItem}
use Rattle.c_types.specs.declared.ctype.CType.{CType}
use Rattle.c_types.specs.declared.ctype.FunctionType.{FunctionType}
use Rattle.c_types.specs.declared.ctype.Base.{Base}
use Rattle.c_types.specs.declared.ctype.Base.TheVariants as base
use Rattle.c_types.specs.declared.expression.Expr.{Expr}
use Rattle.c_types.specs.declared.expression.Operand.{Operand}
use Rattle.c_types.specs.declared.expression.Operand.TheVariants as operand
use Rattle.c_types.specs.declared.names.Named.{Named}
use Rattle.c_types.specs.declared.names.Named.TheVariants as named
use Rattle.c_types.specs.declared.program.Used.{Used}
use Rattle.c_types.specs.declared.program.Used.TheVariants as used
use Rattle.c_typing.specs.declared.judged.Judged.{Judged}
use Rattle.c_typing.specs.declared.judged.Judged.TheVariants as judged
use Rattle.c_typing.specs.declared.judged.Callee.{Callee}
use Rattle.c_typing.specs.declared.judged.Callee.TheVariants as callee
use Rattle.c_typing.specs.declared.judged.Sort.{Sort}
use Rattle.c_typing.specs.declared.judged.Sort.TheVariants as sort
use Rattle.c_typing.specs.Values.{number}
use Rattle.c_judge.specs.declared.headers.KnownHeaders.{KnownHeaders}
use Rattle.c_judge.specs.declared.naming.Found.{Found}
use Rattle.c_judge.specs.declared.naming.Found.TheVariants.{Undeclared, Unknown, Judged as IsJudged}
use Rattle.c_judge.specs.declared.sight.Sight.{Sight}
use Rattle.c_judge.specs.Sight.{meaning_in}
use Rattle.c_judge.specs.Headers.{item_at, item_named}

abbrev pub alone : Operand → Expr
alone o = record { first = o; steps = [] }

abbrev pub unused : Judged → Found
unused j = IsJudged j None

-- A header's null pointer of type `void *` is a null pointer constant.
abbrev pub null_sort : Base → Sort
null_sort base.Void = sort.NullPointer
null_sort (base.Whole k) = sort.Plain
null_sort (base.Struct n) = sort.Plain

abbrev pub null_pointer : CType → Found
null_pointer t = unused (judged.Value (record { of = t; tree = alone (operand.Number 0); constant = None; sort = null_sort t.base }))

abbrev pub place : Operand → CType → Option Used → Found
place o t u = IsJudged (judged.Place t (alone o)) u

abbrev pub function : Callee → FunctionType → Option Used → Found
function c t u = IsJudged (judged.Function t c) u

-- A type's name is no expression.
abbrev pub meant_by : Named → Found
meant_by (named.Type t) = Undeclared
meant_by (named.FunctionType t) = Undeclared
meant_by (named.Constant k value) = unused (judged.Value (number k value))
meant_by (named.NullPointer t) = null_pointer t
meant_by (named.Local offset t) = place (operand.Local offset) t None
meant_by (named.Object n t) = place (operand.Object n) t (Some (used.Object n))
meant_by (named.Function n t) = function (callee.Function n) t (Some (used.Function n))
meant_by (named.Library call t) = function (callee.Library call) t None
meant_by (named.Mpi call t) = function (callee.Mpi call) t None

abbrev pub found_item : Option HeaderItem → Found
found_item (Some i) = meant_by (item_named i)
found_item None = Undeclared

abbrev pub found_by : Option (Option Named) → Option HeaderItem → Found
found_by (Some (Some n)) i = meant_by n
found_by (Some None) i = Unknown
found_by None i = found_item i

-- The innermost declaration decides; where there is none, the headers that are known do.
unfoldable pub found : Sight → KnownHeaders → ℕ → List ℕ → Found
found s known token name = found_by (meaning_in s name) (item_at known token name)
