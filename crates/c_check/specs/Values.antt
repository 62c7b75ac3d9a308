-- The full expressions of statements (C11, 6.8), by what they are. One that breaks a rule stands as 0, in a program that isn't told.
use Rattle.std.specs.Prelude.{ℕ, if◌then◌else◌, Bool, List, [], Option, Some, None, Result, Ok, Err}
use Rattle.rank_range.specs.declared.kinds.Kind.{Kind}
use Rattle.c_types.specs.declared.ctype.CType.{CType}
use Rattle.c_types.specs.declared.expression.Expr.{Expr}
use Rattle.c_types.specs.declared.expression.Operand.TheVariants as operand
use Rattle.c_types.specs.declared.expression.FullExpr.{FullExpr}
use Rattle.c_types.specs.Sizes.{Structs}
use Rattle.c_typing.specs.declared.judged.Judged.{Judged}
use Rattle.c_typing.specs.declared.rules.Rule.{Rule}
use Rattle.c_typing.specs.declared.rules.Rule.TheVariants as rule
use Rattle.c_typing.specs.Calling.{tested, switched, dropped}
use Rattle.c_typing.specs.Storing.{stored}
use Rattle.c_typing.specs.Classes.{class_of_type, is_void}
use Rattle.c_judge.specs.declared.checker.Checker.{Checker}
use Rattle.c_judge.specs.State.{Doing, with_broken}

abbrev pub tree_of : Option Expr → Expr
tree_of (Some e) = e
tree_of None = record { first = operand.Number 0; steps = [] }

abbrev pub full : ℕ → Option Expr → FullExpr
full token e = record { token = token; expr = tree_of e }

-- a tree, and the rule that it breaks
abbrev pub settled_tree : ℕ → Result Expr Rule → Doing (Option Expr)
settled_tree at (Ok e) s = (Some e, s)
settled_tree at (Err r) s = (None, with_broken at r s)

abbrev pub settled_full : ℕ → ℕ → Result Expr Rule → Doing FullExpr
settled_full at token e s = (full token (settled_tree at e s).0, (settled_tree at e s).1)

-- a test of a statement at a token
abbrev pub test : ℕ → ℕ → Option Judged → Doing FullExpr
test at token (Some j) s = settled_full at token (tested s.sight.structs j) s
test at token None s = (full token None, s)

-- an expression whose value isn't used
abbrev pub unused : ℕ → Option Judged → Doing FullExpr
unused token (Some j) s = (full token (Some (dropped j)), s)
unused token None s = (full token None, s)

-- the value of a `switch`, and its promoted kind
abbrev pub chosen : ℕ → ℕ → Result (Expr × Kind) Rule → Doing (FullExpr × Option Kind)
chosen at token (Ok c) s = ((full token (Some c.0), Some c.1), s)
chosen at token (Err r) s = ((full token None, None), with_broken at r s)

abbrev pub choice : ℕ → ℕ → Option Judged → Doing (FullExpr × Option Kind)
choice at token (Some j) s = chosen at token (switched s.sight.structs j) s
choice at token None s = ((full token None, None), s)

-- A function that gives a value returns one, which is converted as if it were stored (C11, 6.8.6.4).
abbrev pub returned_tree : Structs → CType → Judged → Result Expr Rule
returned_tree structs to j =
    if is_void (class_of_type structs to) then Err rule.ValueNotWanted else stored structs to rule.StructUsed j

abbrev pub returned : ℕ → ℕ → CType → Option Judged → Doing FullExpr
returned at token to (Some j) s = settled_full at token (returned_tree s.sight.structs to j) s
returned at token to None s = (full token None, s)
