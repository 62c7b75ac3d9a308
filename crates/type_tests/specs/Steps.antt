-- Steps that are made, by the names of their kinds.
use Rattle.std.specs.Prelude.{ℕ}
use Rattle.rank_range.specs.declared.kinds.Kind.{Kind}
use Rattle.rank_range.specs.declared.operators.Binary as op
use Rattle.rank_range.specs.declared.operators.Unary as one
use Rattle.c_types.specs.declared.expression.Counted.{Counted}
use Rattle.c_types.specs.declared.expression.Direction.{Direction}
use Rattle.c_types.specs.declared.expression.Given.{Given}
use Rattle.c_types.specs.declared.expression.OffsetBy.{OffsetBy}
use Rattle.c_types.specs.declared.expression.Expr.{Expr}
use Rattle.c_types.specs.declared.expression.Step.{Step}
use Rattle.c_types.specs.declared.expression.Operand.TheOpen.{Step-F}
use Rattle.c_types.specs.declared.expression.Operand.TheViews.{roll-Step}

abbrev pub Load : Kind → Step
Load kind = roll-Step (Step-F.Load kind)

abbrev pub Convert : Kind → Kind → Step
Convert from to = roll-Step (Step-F.Convert from to)

abbrev pub Unary : one.Unary → Kind → Step
Unary op kind = roll-Step (Step-F.Unary op kind)

abbrev pub Member : ℕ → Step
Member offset = roll-Step (Step-F.Member offset)

abbrev pub Binary : op.Binary → Kind → Expr → Step
Binary o kind right = roll-Step (Step-F.Binary o kind right)

abbrev pub Offset : OffsetBy → ℕ → Expr → Step
Offset by scale right = roll-Step (Step-F.Offset by scale right)

abbrev pub Assign : Kind → Expr → Step
Assign kind right = roll-Step (Step-F.Assign kind right)

abbrev pub Copy : ℕ → Expr → Step
Copy size right = roll-Step (Step-F.Copy size right)

abbrev pub Update : op.Binary → Kind → Kind → Expr → Step
Update o kind at right = roll-Step (Step-F.Update o kind at right)

abbrev pub Count : Counted → Direction → Given → Step
Count counted direction given = roll-Step (Step-F.Count counted direction given)
