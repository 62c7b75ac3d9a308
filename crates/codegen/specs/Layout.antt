-- The code of each construct: its instructions, by the place of the first one.
use Rattle.std.specs.Prelude.{ℕ, ◌+◌, Bool, true, false, List, [], ◌∷◌, ◌++◌, length}
use Rattle.rank_range.specs.declared.kinds.Kind.{Kind}
use Rattle.rank_range.specs.declared.kinds.Kind.TheVariants as kind
use Rattle.rank_range.specs.declared.operators.Binary.{Binary as Operator}
use Rattle.rank_range.specs.declared.operators.Binary.TheVariants as op
use Rattle.c_types.specs.declared.expression.Operand.TheOpen.{Operand-F, Step-F, Expr-F}
use Rattle.c_types.specs.declared.expression.Operand.{Operand, fold-Operand}
use Rattle.c_types.specs.declared.expression.Step.{Step, fold-Step}
use Rattle.c_types.specs.declared.expression.Expr.{Expr, fold-Expr}
use Rattle.c_types.specs.declared.expression.OffsetBy.{OffsetBy}
use Rattle.c_types.specs.declared.expression.OffsetBy.TheVariants.{PointerPlusNumber, NumberPlusPointer, PointerMinusNumber}
use Rattle.c_types.specs.declared.expression.Direction.{Direction}
use Rattle.c_types.specs.declared.expression.Direction.TheVariants.{Up, Down}
use Rattle.c_types.specs.declared.expression.Counted.{Counted}
use Rattle.c_types.specs.declared.expression.Counted.TheVariants as counted
use Rattle.c_types.specs.declared.expression.Given.{Given}
use Rattle.c_types.specs.declared.expression.Given.TheVariants.{New, Old}
use Rattle.vm_code.specs.declared.instr.Instr.{Instr}
use Rattle.vm_code.specs.declared.instr.Instr.TheVariants.{Push, Pop, Dup, Local, Global, Load, Store, Copy, Binary, Unary, Extend, Jump, JumpIfZero, JumpIfNot, Call, Library, Mpi}
use Rattle.c_model.specs.Run.{counted_kind}

-- Its instructions, by the place of the first one. How many there are doesn't depend on it.
abbrev pub Part : Type 0
Part = ℕ → List Instr

abbrev pub nothing : Part
nothing place = []

abbrev pub one : Instr → Part
one instr place = instr ∷ []

-- one part behind another
infixr 20 ◌then◌
unfoldable pub ◌then◌ : Part → Part → Part
(a then b) place = a place ++ b (place + length (a place))

-- a jump over a part and some instructions more
unfoldable pub over : (ℕ → Instr) → ℕ → Part → Part
over jump more a place = jump (place + 1 + length (a (place + 1)) + more) ∷ a (place + 1)

-- puts 1 where the topmost operand is 0, and else 0
unfoldable pub negation : Part
negation place = JumpIfZero (place + 3) ∷ Push 0 ∷ Jump (place + 4) ∷ Push 1 ∷ []

-- the jump where a word is decisive
abbrev pub jump_where : Bool → ℕ → Instr
jump_where true place = JumpIfNot place
jump_where false place = JumpIfZero place

abbrev pub word_of_truth : Bool → ℕ
word_of_truth true = 1
word_of_truth false = 0

abbrev pub opposite : Bool → Bool
opposite true = false
opposite false = true

-- Puts a truth behind the second operand of `&&` or `||`, on which a value is decisive. The last instruction, to which the first
-- operand's jump leads, puts the decisive value.
unfoldable pub truths : Bool → Part
truths decisive place =
    jump_where decisive (place + 3) ∷ Push (word_of_truth (opposite decisive)) ∷ Jump (place + 4) ∷ Push (word_of_truth decisive) ∷ []

abbrev pub in_order : List Part → Part
in_order [] = nothing
in_order (a ∷ rest) = a then in_order rest

abbrev pub operand_part : (ℕ → ℕ) → Operand-F Part Part Part → Part
operand_part object (Operand-F.Number word) = one (Push word)
operand_part object (Operand-F.Local offset) = one (Local offset)
operand_part object (Operand-F.Object number) = one (Global (object number))
operand_part object (Operand-F.Call function parts) = in_order parts then one (Call function (length parts))
operand_part object (Operand-F.Library call parts) = in_order parts then one (Library call (length parts))
operand_part object (Operand-F.Mpi call parts) =
    in_order parts then one (Mpi call (length parts) false) then one (Mpi call (length parts) true)

abbrev pub converted : Kind → Kind → Part
converted from to = one (Extend from) then one (Extend to)

-- an operator on words, as on addresses
abbrev pub on_words : Operator → Part
on_words op = one (Binary op kind.UnsignedLong)

abbrev pub scaled : ℕ → Part
scaled scale = one (Push scale) then on_words op.Multiply

-- the parts before and behind the operand on the right
abbrev pub offset_front : OffsetBy → ℕ → Part
offset_front PointerPlusNumber scale = nothing
offset_front NumberPlusPointer scale = scaled scale
offset_front PointerMinusNumber scale = nothing

abbrev pub offset_back : OffsetBy → ℕ → Part
offset_back PointerPlusNumber scale = scaled scale then on_words op.Add
offset_back NumberPlusPointer scale = on_words op.Add
offset_back PointerMinusNumber scale = scaled scale then on_words op.Subtract

abbrev pub offset_part : OffsetBy → ℕ → Part → Part
offset_part PointerPlusNumber scale b = b then scaled scale then on_words op.Add
offset_part NumberPlusPointer scale b = scaled scale then b then on_words op.Add
offset_part PointerMinusNumber scale b = b then scaled scale then on_words op.Subtract

abbrev pub moving : Direction → Operator
moving Up = op.Add
moving Down = op.Subtract

abbrev pub against : Direction → Operator
against Up = op.Subtract
against Down = op.Add

abbrev pub amount : Counted → ℕ
amount (counted.Number k) = 1
amount (counted.Pointer scale) = scale

-- what was stored, less what it was changed by
abbrev pub given_part : Given → Counted → Direction → Part
given_part New c direction = nothing
given_part Old c direction = one (Push (amount c)) then on_words (against direction) then one (Extend (counted_kind c))

abbrev pub step_part : Step-F Part Part Part → Part
step_part (Step-F.Load k) = one (Load k)
step_part (Step-F.Convert from to) = converted from to
step_part (Step-F.Unary o k) = one (Unary o k)
step_part Step-F.Not = negation
step_part (Step-F.Member offset) = one (Push offset) then on_words op.Add
step_part (Step-F.Binary o k b) = b then one (Binary o k)
step_part (Step-F.Greater k b) = b then one (Binary op.AtMost k) then negation
step_part (Step-F.AtLeast k b) = b then one (Binary op.Less k) then negation
step_part (Step-F.Offset by scale b) = offset_part by scale b
step_part (Step-F.Difference size b) = b then on_words op.Subtract then one (Push size) then one (Binary op.Divide kind.Long)
step_part (Step-F.And b) = over JumpIfZero 3 b then truths false
step_part (Step-F.Or b) = over JumpIfNot 3 b then truths true
step_part (Step-F.Conditional b c) = over JumpIfZero 1 b then over Jump 0 c
step_part (Step-F.Comma b) = one Pop then b
step_part (Step-F.Assign k b) = b then one (Store k)
step_part (Step-F.Copy size b) = b then one (Copy size)
step_part (Step-F.Update o k at b) =
    one Dup then one (Load k) then converted k at then b then one (Binary o at) then converted at k then one (Store k)
step_part (Step-F.Advance direction scale b) =
    one Dup then one (Load kind.UnsignedLong) then b then scaled scale then on_words (moving direction) then one (Store kind.UnsignedLong)
step_part (Step-F.Count c direction given) =
    one Dup then one (Load (counted_kind c)) then one (Push (amount c)) then on_words (moving direction) then one (Extend (counted_kind c))
    then one (Store (counted_kind c)) then given_part given c direction

abbrev pub expr_step : Expr-F Part Part Part → Part
expr_step e = e.first then in_order e.steps

-- operands and steps
unfoldable pub operand_code : (ℕ → ℕ) → Operand → Part
operand_code object = fold-Operand Part Part Part (operand_part object) step_part expr_step

unfoldable pub step_code : (ℕ → ℕ) → Step → Part
step_code object = fold-Step Part Part Part (operand_part object) step_part expr_step

-- an expression, where static objects stand at these offsets of the globals
unfoldable pub expr_part : (ℕ → ℕ) → Expr → Part
expr_part object = fold-Expr Part Part Part (operand_part object) step_part expr_step
