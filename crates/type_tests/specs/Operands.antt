-- Operands that are made, by the names of their kinds.
use Rattle.std.specs.Prelude.{ℕ, List}
use Rattle.am_base.specs.declared.calls.MpiCall.{MpiCall}
use Rattle.am_base.specs.declared.calls.LibCall.{LibCall}
use Rattle.c_types.specs.declared.expression.Expr.{Expr}
use Rattle.c_types.specs.declared.expression.Operand.{Operand}
use Rattle.c_types.specs.declared.expression.Operand.TheOpen.{Operand-F}
use Rattle.c_types.specs.declared.expression.Operand.TheViews.{roll-Operand}

abbrev pub Number : ℕ → Operand
Number word = roll-Operand (Operand-F.Number word)

abbrev pub Local : ℕ → Operand
Local offset = roll-Operand (Operand-F.Local offset)

abbrev pub Object : ℕ → Operand
Object number = roll-Operand (Operand-F.Object number)

abbrev pub Library : LibCall → List Expr → Operand
Library call arguments = roll-Operand (Operand-F.Library call arguments)

abbrev pub Mpi : MpiCall → List Expr → Operand
Mpi call arguments = roll-Operand (Operand-F.Mpi call arguments)
