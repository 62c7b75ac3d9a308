-- Operators with what their operands are.
use Rattle.c_ast.specs.declared.expression.Expr.{Expr}
use Rattle.c_ast.specs.declared.expression.Link.{Link}
use Rattle.c_ast.specs.declared.expression.PostfixOp.{PostfixOp}
use Rattle.c_ast.specs.declared.expression.PostfixOp.TheVariants as postfix
use Rattle.c_ast.specs.declared.declaration.Member.{Member}
use Rattle.c_ast.specs.declared.declaration.Declarator.{Declarator}
use Rattle.c_ast.specs.declared.declaration.Direct.{Direct}
use Rattle.c_ast.specs.declared.declaration.Direct.TheVariants as direct
use Rattle.c_ast.specs.declared.declaration.StructSpec.{StructSpec}
use Rattle.c_ast.specs.declared.declaration.StructSpec.TheVariants as struct
use Rattle.c_ast.specs.declared.declaration.EnumSpec.{EnumSpec}
use Rattle.c_ast.specs.declared.declaration.EnumSpec.TheVariants as enum
use Rattle.c_ast.specs.declared.declaration.Enumerator.{Enumerator}
use Rattle.std.specs.Prelude.{map, List, Option, Some, None}
use Rattle.c_judge.specs.Expressions.{Reading}
use Rattle.c_judge.specs.Judging.{expression, declarator, members, Declaring, Adding}

abbrev pub link_of : Link Expr → Link Reading
link_of l = record { at = l.at; op = l.op; right = expression l.right }

abbrev pub operator_of : PostfixOp Expr → PostfixOp Reading
operator_of (postfix.Index at e) = postfix.Index at (expression e)
operator_of (postfix.Call at es) = postfix.Call at (map expression es)
operator_of (postfix.Member at name) = postfix.Member at name
operator_of (postfix.Arrow at name) = postfix.Arrow at name
operator_of (postfix.Increment at) = postfix.Increment at
operator_of (postfix.Decrement at) = postfix.Decrement at

-- the parts of declarations with what they are
abbrev pub size_of : Option Expr → Option Reading
size_of (Some e) = Some (expression e)
size_of None = None

abbrev pub sizes_of : List (Option Expr) → List (Option Reading)
sizes_of es = map size_of es

abbrev pub enumerator_of : Enumerator Expr → Enumerator Reading
enumerator_of e = record { name = e.name; value = size_of e.value }

abbrev pub enum_of : EnumSpec Expr → EnumSpec Reading
enum_of (enum.Reference token name) = enum.Reference token name
enum_of (enum.Body token name es) = enum.Body token name (map enumerator_of es)

abbrev pub struct_of : StructSpec Member → StructSpec Adding
struct_of (struct.Reference token name) = struct.Reference token name
struct_of (struct.Body token name ms) = struct.Body token name (map members ms)

abbrev pub direct_of : Direct Declarator → Direct Declaring
direct_of (direct.Name name) = direct.Name name
direct_of (direct.Nested token d) = direct.Nested token (declarator d)
