-- Typed expressions in the making.
use Rattle.std.specs.Prelude.{ℕ, if◌then◌else◌, Bool, List, [], ◌∷◌, ◌++◌}
use Rattle.rank_range.specs.declared.kinds.Kind.{Kind}
use Rattle.c_types.specs.declared.expression.Expr.{Expr}
use Rattle.c_types.specs.declared.expression.Operand.{Operand}
use Rattle.c_types.specs.declared.expression.Step.{Step}
use Rattle.c_types.specs.declared.expression.Step.TheVariants as step
use Rattle.c_types.specs.declared.expression.Counted.{Counted}
use Rattle.c_types.specs.declared.expression.Direction.{Direction}
use Rattle.c_types.specs.declared.expression.Given.{Given}
use Rattle.c_typing.specs.declared.trees.Joining.{Joining}
use Rattle.c_typing.specs.declared.trees.Joining.TheVariants as joining
use Rattle.c_typing.specs.declared.trees.Side.{Side}
use Rattle.c_typing.specs.Types.{same_kind}

abbrev pub alone : Operand → Expr
alone o = record { first = o; steps = [] }

-- one more step behind an expression
abbrev pub behind : Expr → Step → Expr
behind e s = record { first = e.first; steps = e.steps ++ s ∷ [] }

-- A value as one of another kind. A conversion to its own kind has no step.
abbrev pub converted : Side → Expr
converted s = if same_kind s.from s.to then s.tree else behind s.tree (step.Convert s.from s.to)

abbrev pub step_with : Joining → Expr → Step
step_with (joining.Binary op k) e = step.Binary op k e
step_with (joining.Greater k) e = step.Greater k e
step_with (joining.AtLeast k) e = step.AtLeast k e
step_with (joining.Offset by scale) e = step.Offset by scale e
step_with (joining.Difference size) e = step.Difference size e
step_with joining.And e = step.And e
step_with joining.Or e = step.Or e
step_with joining.Comma e = step.Comma e
step_with (joining.Assign k) e = step.Assign k e
step_with (joining.Copy size) e = step.Copy size e
step_with (joining.Update op k at) e = step.Update op k at e
step_with (joining.Advance direction scale) e = step.Advance direction scale e

-- both operands, each converted, and what is done with them
abbrev pub operation : Side → Joining → Side → Expr
operation a j b = behind (converted a) (step_with j (converted b))

abbrev pub choice : Expr → Side → Side → Expr
choice t a b = behind t (step.Conditional (converted a) (converted b))

abbrev pub counting : Expr → Counted → Direction → Given → Expr
counting e counted direction given = behind e (step.Count counted direction given)
