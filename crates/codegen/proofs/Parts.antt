-- The size and the code of each operand and of each step.
use Rattle.std.proofs.Common.{◌≡◌, ℕ, ◌+◌, true, false, List, map, length, sym, ap, ◌∙◌, []}
use Rattle.am_base.specs.declared.calls.LibCall.{LibCall}
use Rattle.am_base.specs.declared.calls.MpiCall.{MpiCall}
use Rattle.rank_range.specs.declared.kinds.Kind.{Kind}
use Rattle.rank_range.specs.declared.kinds.Kind.TheVariants as kind
use Rattle.rank_range.specs.declared.operators.Unary.{Unary as UnaryOperator}
use Rattle.rank_range.specs.declared.operators.Binary.{Binary as Operator}
use Rattle.rank_range.specs.declared.operators.Binary.TheVariants as op
use Rattle.vm_code.specs.declared.instr.Instr.TheVariants as instr
use Rattle.c_types.specs.declared.expression.Operand.TheVariants as operand
use Rattle.c_types.specs.declared.expression.Step.TheVariants as step
use Rattle.c_types.specs.declared.expression.Expr.{Expr}
use Rattle.c_types.specs.declared.expression.Operand.TheOpen.{Operand-F, Step-F}
use Rattle.c_types.specs.declared.expression.OffsetBy.{OffsetBy}
use Rattle.c_types.specs.declared.expression.Direction.{Direction}
use Rattle.c_types.specs.declared.expression.Counted.{Counted}
use Rattle.c_types.specs.declared.expression.Given.{Given}
use Rattle.codegen.specs.Layout.{one, ◌then◌, over, negation, truths, in_order, converted, on_words, scaled, offset_part, moving, step_part, operand_code, step_code, expr_part}
use Rattle.codegen.specs.Sizes.{total, count_size, operand_sized, step_sized, expr_size}
use Rattle.codegen.proofs.Valuing.{operand_code_roll, step_code_roll}
use Rattle.codegen.proofs.Measuring.{operand_size_roll, step_size_roll}

pub size_operand_number : (word : ℕ) → operand_sized (operand.Number word) ≡ 1
size_operand_number word = ap operand_sized (sym (operand.rolls-Number word)) ∙ operand_size_roll [] (Operand-F.Number word)

pub code_operand_number : (object : ℕ → ℕ) (word : ℕ) → operand_code object (operand.Number word) ≡ (one (instr.Push word))
code_operand_number object word = ap (operand_code object) (sym (operand.rolls-Number word)) ∙ operand_code_roll object (Operand-F.Number word)

pub size_operand_local : (offset : ℕ) → operand_sized (operand.Local offset) ≡ 1
size_operand_local offset = ap operand_sized (sym (operand.rolls-Local offset)) ∙ operand_size_roll [] (Operand-F.Local offset)

pub code_operand_local : (object : ℕ → ℕ) (offset : ℕ) → operand_code object (operand.Local offset) ≡ (one (instr.Local offset))
code_operand_local object offset = ap (operand_code object) (sym (operand.rolls-Local offset)) ∙ operand_code_roll object (Operand-F.Local offset)

pub size_operand_object : (number : ℕ) → operand_sized (operand.Object number) ≡ 1
size_operand_object number = ap operand_sized (sym (operand.rolls-Object number)) ∙ operand_size_roll [] (Operand-F.Object number)

pub code_operand_object : (object : ℕ → ℕ) (number : ℕ) → operand_code object (operand.Object number) ≡ (one (instr.Global (object number)))
code_operand_object object number = ap (operand_code object) (sym (operand.rolls-Object number)) ∙ operand_code_roll object (Operand-F.Object number)

pub size_operand_call : (function : ℕ) (args : List Expr) → operand_sized (operand.Call function args) ≡ total (map expr_size args) + 1
size_operand_call function args = ap operand_sized (sym (operand.rolls-Call function args)) ∙ operand_size_roll [] (Operand-F.Call function args)

pub code_operand_call : (object : ℕ → ℕ) (function : ℕ) (args : List Expr) → operand_code object (operand.Call function args) ≡ (in_order (map (expr_part object) args) then one (instr.Call function (length (map (expr_part object) args))))
code_operand_call object function args = ap (operand_code object) (sym (operand.rolls-Call function args)) ∙ operand_code_roll object (Operand-F.Call function args)

pub size_operand_library : (call : LibCall) (args : List Expr) → operand_sized (operand.Library call args) ≡ total (map expr_size args) + 1
size_operand_library call args = ap operand_sized (sym (operand.rolls-Library call args)) ∙ operand_size_roll [] (Operand-F.Library call args)

pub code_operand_library : (object : ℕ → ℕ) (call : LibCall) (args : List Expr) → operand_code object (operand.Library call args) ≡ (in_order (map (expr_part object) args) then one (instr.Library call (length (map (expr_part object) args))))
code_operand_library object call args = ap (operand_code object) (sym (operand.rolls-Library call args)) ∙ operand_code_roll object (Operand-F.Library call args)

pub size_operand_mpi : (call : MpiCall) (args : List Expr) → operand_sized (operand.Mpi call args) ≡ total (map expr_size args) + 2
size_operand_mpi call args = ap operand_sized (sym (operand.rolls-Mpi call args)) ∙ operand_size_roll [] (Operand-F.Mpi call args)

pub code_operand_mpi : (object : ℕ → ℕ) (call : MpiCall) (args : List Expr) → operand_code object (operand.Mpi call args) ≡ (in_order (map (expr_part object) args) then one (instr.Mpi call (length (map (expr_part object) args)) false) then one (instr.Mpi call (length (map (expr_part object) args)) true))
code_operand_mpi object call args = ap (operand_code object) (sym (operand.rolls-Mpi call args)) ∙ operand_code_roll object (Operand-F.Mpi call args)

pub size_step_load : (k : Kind) → step_sized (step.Load k) ≡ 1
size_step_load k = ap step_sized (sym (step.rolls-Load k)) ∙ step_size_roll [] (Step-F.Load k)

pub code_step_load : (object : ℕ → ℕ) (k : Kind) → step_code object (step.Load k) ≡ (one (instr.Load k))
code_step_load object k = ap (step_code object) (sym (step.rolls-Load k)) ∙ step_code_roll object (Step-F.Load k)

pub size_step_convert : (from : Kind) (to : Kind) → step_sized (step.Convert from to) ≡ 2
size_step_convert from to = ap step_sized (sym (step.rolls-Convert from to)) ∙ step_size_roll [] (Step-F.Convert from to)

pub code_step_convert : (object : ℕ → ℕ) (from : Kind) (to : Kind) → step_code object (step.Convert from to) ≡ (converted from to)
code_step_convert object from to = ap (step_code object) (sym (step.rolls-Convert from to)) ∙ step_code_roll object (Step-F.Convert from to)

pub size_step_unary : (o : UnaryOperator) (k : Kind) → step_sized (step.Unary o k) ≡ 1
size_step_unary o k = ap step_sized (sym (step.rolls-Unary o k)) ∙ step_size_roll [] (Step-F.Unary o k)

pub code_step_unary : (object : ℕ → ℕ) (o : UnaryOperator) (k : Kind) → step_code object (step.Unary o k) ≡ (one (instr.Unary o k))
code_step_unary object o k = ap (step_code object) (sym (step.rolls-Unary o k)) ∙ step_code_roll object (Step-F.Unary o k)

pub size_step_not : step_sized step.Not ≡ 4
size_step_not = ap step_sized (sym step.rolls-Not) ∙ step_size_roll [] Step-F.Not

pub code_step_not : (object : ℕ → ℕ) → step_code object step.Not ≡ (negation)
code_step_not object = ap (step_code object) (sym step.rolls-Not) ∙ step_code_roll object Step-F.Not

pub size_step_member : (offset : ℕ) → step_sized (step.Member offset) ≡ 2
size_step_member offset = ap step_sized (sym (step.rolls-Member offset)) ∙ step_size_roll [] (Step-F.Member offset)

pub code_step_member : (object : ℕ → ℕ) (offset : ℕ) → step_code object (step.Member offset) ≡ (one (instr.Push offset) then on_words op.Add)
code_step_member object offset = ap (step_code object) (sym (step.rolls-Member offset)) ∙ step_code_roll object (Step-F.Member offset)

pub size_step_binary : (o : Operator) (k : Kind) (b : Expr) → step_sized (step.Binary o k b) ≡ expr_size b + 1
size_step_binary o k b = ap step_sized (sym (step.rolls-Binary o k b)) ∙ step_size_roll [] (Step-F.Binary o k b)

pub code_step_binary : (object : ℕ → ℕ) (o : Operator) (k : Kind) (b : Expr) → step_code object (step.Binary o k b) ≡ (expr_part object b then one (instr.Binary o k))
code_step_binary object o k b = ap (step_code object) (sym (step.rolls-Binary o k b)) ∙ step_code_roll object (Step-F.Binary o k b)

pub size_step_greater : (k : Kind) (b : Expr) → step_sized (step.Greater k b) ≡ expr_size b + 1 + 4
size_step_greater k b = ap step_sized (sym (step.rolls-Greater k b)) ∙ step_size_roll [] (Step-F.Greater k b)

pub code_step_greater : (object : ℕ → ℕ) (k : Kind) (b : Expr) → step_code object (step.Greater k b) ≡ (expr_part object b then one (instr.Binary op.AtMost k) then negation)
code_step_greater object k b = ap (step_code object) (sym (step.rolls-Greater k b)) ∙ step_code_roll object (Step-F.Greater k b)

pub size_step_atleast : (k : Kind) (b : Expr) → step_sized (step.AtLeast k b) ≡ expr_size b + 1 + 4
size_step_atleast k b = ap step_sized (sym (step.rolls-AtLeast k b)) ∙ step_size_roll [] (Step-F.AtLeast k b)

pub code_step_atleast : (object : ℕ → ℕ) (k : Kind) (b : Expr) → step_code object (step.AtLeast k b) ≡ (expr_part object b then one (instr.Binary op.Less k) then negation)
code_step_atleast object k b = ap (step_code object) (sym (step.rolls-AtLeast k b)) ∙ step_code_roll object (Step-F.AtLeast k b)

pub size_step_offset : (by : OffsetBy) (scale : ℕ) (b : Expr) → step_sized (step.Offset by scale b) ≡ expr_size b + 3
size_step_offset by scale b = ap step_sized (sym (step.rolls-Offset by scale b)) ∙ step_size_roll [] (Step-F.Offset by scale b)

pub code_step_offset : (object : ℕ → ℕ) (by : OffsetBy) (scale : ℕ) (b : Expr) → step_code object (step.Offset by scale b) ≡ (offset_part by scale (expr_part object b))
code_step_offset object by scale b = ap (step_code object) (sym (step.rolls-Offset by scale b)) ∙ step_code_roll object (Step-F.Offset by scale b)

pub size_step_difference : (size : ℕ) (b : Expr) → step_sized (step.Difference size b) ≡ expr_size b + 3
size_step_difference size b = ap step_sized (sym (step.rolls-Difference size b)) ∙ step_size_roll [] (Step-F.Difference size b)

pub code_step_difference : (object : ℕ → ℕ) (size : ℕ) (b : Expr) → step_code object (step.Difference size b) ≡ (expr_part object b then on_words op.Subtract then one (instr.Push size) then one (instr.Binary op.Divide kind.Long))
code_step_difference object size b = ap (step_code object) (sym (step.rolls-Difference size b)) ∙ step_code_roll object (Step-F.Difference size b)

pub size_step_and : (b : Expr) → step_sized (step.And b) ≡ 1 + expr_size b + 4
size_step_and b = ap step_sized (sym (step.rolls-And b)) ∙ step_size_roll [] (Step-F.And b)

pub code_step_and : (object : ℕ → ℕ) (b : Expr) → step_code object (step.And b) ≡ (over instr.JumpIfZero 3 (expr_part object b) then truths false)
code_step_and object b = ap (step_code object) (sym (step.rolls-And b)) ∙ step_code_roll object (Step-F.And b)

pub size_step_or : (b : Expr) → step_sized (step.Or b) ≡ 1 + expr_size b + 4
size_step_or b = ap step_sized (sym (step.rolls-Or b)) ∙ step_size_roll [] (Step-F.Or b)

pub code_step_or : (object : ℕ → ℕ) (b : Expr) → step_code object (step.Or b) ≡ (over instr.JumpIfNot 3 (expr_part object b) then truths true)
code_step_or object b = ap (step_code object) (sym (step.rolls-Or b)) ∙ step_code_roll object (Step-F.Or b)

pub size_step_conditional : (b : Expr) (c : Expr) → step_sized (step.Conditional b c) ≡ 1 + expr_size b + 1 + expr_size c
size_step_conditional b c = ap step_sized (sym (step.rolls-Conditional b c)) ∙ step_size_roll [] (Step-F.Conditional b c)

pub code_step_conditional : (object : ℕ → ℕ) (b : Expr) (c : Expr) → step_code object (step.Conditional b c) ≡ (over instr.JumpIfZero 1 (expr_part object b) then over instr.Jump 0 (expr_part object c))
code_step_conditional object b c = ap (step_code object) (sym (step.rolls-Conditional b c)) ∙ step_code_roll object (Step-F.Conditional b c)

pub size_step_comma : (b : Expr) → step_sized (step.Comma b) ≡ 1 + expr_size b
size_step_comma b = ap step_sized (sym (step.rolls-Comma b)) ∙ step_size_roll [] (Step-F.Comma b)

pub code_step_comma : (object : ℕ → ℕ) (b : Expr) → step_code object (step.Comma b) ≡ (one instr.Pop then expr_part object b)
code_step_comma object b = ap (step_code object) (sym (step.rolls-Comma b)) ∙ step_code_roll object (Step-F.Comma b)

pub size_step_assign : (k : Kind) (b : Expr) → step_sized (step.Assign k b) ≡ expr_size b + 1
size_step_assign k b = ap step_sized (sym (step.rolls-Assign k b)) ∙ step_size_roll [] (Step-F.Assign k b)

pub code_step_assign : (object : ℕ → ℕ) (k : Kind) (b : Expr) → step_code object (step.Assign k b) ≡ (expr_part object b then one (instr.Store k))
code_step_assign object k b = ap (step_code object) (sym (step.rolls-Assign k b)) ∙ step_code_roll object (Step-F.Assign k b)

pub size_step_copy : (size : ℕ) (b : Expr) → step_sized (step.Copy size b) ≡ expr_size b + 1
size_step_copy size b = ap step_sized (sym (step.rolls-Copy size b)) ∙ step_size_roll [] (Step-F.Copy size b)

pub code_step_copy : (object : ℕ → ℕ) (size : ℕ) (b : Expr) → step_code object (step.Copy size b) ≡ (expr_part object b then one (instr.Copy size))
code_step_copy object size b = ap (step_code object) (sym (step.rolls-Copy size b)) ∙ step_code_roll object (Step-F.Copy size b)

pub size_step_update : (o : Operator) (k : Kind) (at : Kind) (b : Expr) → step_sized (step.Update o k at b) ≡ 4 + expr_size b + 4
size_step_update o k at b = ap step_sized (sym (step.rolls-Update o k at b)) ∙ step_size_roll [] (Step-F.Update o k at b)

pub code_step_update : (object : ℕ → ℕ) (o : Operator) (k : Kind) (at : Kind) (b : Expr) → step_code object (step.Update o k at b) ≡ (one instr.Dup then one (instr.Load k) then converted k at then expr_part object b then one (instr.Binary o at) then converted at k then one (instr.Store k))
code_step_update object o k at b = ap (step_code object) (sym (step.rolls-Update o k at b)) ∙ step_code_roll object (Step-F.Update o k at b)

pub size_step_advance : (direction : Direction) (scale : ℕ) (b : Expr) → step_sized (step.Advance direction scale b) ≡ 2 + expr_size b + 4
size_step_advance direction scale b = ap step_sized (sym (step.rolls-Advance direction scale b)) ∙ step_size_roll [] (Step-F.Advance direction scale b)

pub code_step_advance : (object : ℕ → ℕ) (direction : Direction) (scale : ℕ) (b : Expr) → step_code object (step.Advance direction scale b) ≡ (one instr.Dup then one (instr.Load kind.UnsignedLong) then expr_part object b then scaled scale then on_words (moving direction) then one (instr.Store kind.UnsignedLong))
code_step_advance object direction scale b = ap (step_code object) (sym (step.rolls-Advance direction scale b)) ∙ step_code_roll object (Step-F.Advance direction scale b)

pub size_step_count : (counted : Counted) (direction : Direction) (given : Given) → step_sized (step.Count counted direction given) ≡ count_size given
size_step_count counted direction given = ap step_sized (sym (step.rolls-Count counted direction given)) ∙ step_size_roll [] (Step-F.Count counted direction given)

pub code_step_count : (object : ℕ → ℕ) (counted : Counted) (direction : Direction) (given : Given) → step_code object (step.Count counted direction given) ≡ (step_part (Step-F.Count counted direction given))
code_step_count object counted direction given = ap (step_code object) (sym (step.rolls-Count counted direction given)) ∙ step_code_roll object (Step-F.Count counted direction given)
