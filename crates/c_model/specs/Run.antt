-- What it means to run a program on one rank. Each construct is one case: what it does, and then what comes next.
--
-- Time is counted in ticks. A tick is taken, before the thing acts, at each executed statement that is no block and no
-- label, at each declarator with an initialiser, at each test of a loop, at each entry of a function and at each call of
-- the library or of MPI; some calls of MPI take two. A run is given the ticks that it may take and the answers that its
-- calls of MPI get; where none is left it stops there. What a rank does depends on nothing but its program, its number,
-- these answers and these ticks.
use Rattle.std.specs.Prelude.{ℕ, ◌+◌, ◌-◌, ◌*◌, ◌^◌, ◌%◌, if◌then◌else◌, nat_eq, List, [], ◌∷◌}
use Rattle.rank_range.specs.declared.kinds.Kind.{Kind}
use Rattle.rank_range.specs.declared.kinds.Kind.TheVariants as kind
use Rattle.rank_range.specs.declared.operators.Binary.TheVariants as op
use Rattle.rank_range.specs.Kinds.{convert}
use Rattle.rank_range.specs.Operators.{operate, operate_one}
use Rattle.vm_code.specs.Memory.{loaded, stored, copied, address_of}
use Rattle.c_types.specs.declared.expression.Operand.TheOpen.{Operand-F, Step-F, Expr-F}
use Rattle.c_types.specs.declared.expression.Expr.{Expr, fold-Expr}
use Rattle.c_types.specs.declared.expression.OffsetBy.{OffsetBy}
use Rattle.c_types.specs.declared.expression.OffsetBy.TheVariants.{PointerPlusNumber, NumberPlusPointer, PointerMinusNumber}
use Rattle.c_types.specs.declared.expression.Direction.{Direction}
use Rattle.c_types.specs.declared.expression.Direction.TheVariants.{Up, Down}
use Rattle.c_types.specs.declared.expression.Counted.{Counted}
use Rattle.c_types.specs.declared.expression.Counted.TheVariants as counted
use Rattle.c_types.specs.declared.expression.Given.{Given}
use Rattle.c_types.specs.declared.expression.Given.TheVariants.{New, Old}
use Rattle.c_model.specs.Outcome.{Rest, Here, with_memory, reading, writing, with_result, choose}
use Rattle.c_model.specs.Calls.{library_call, mpi_call}

-- What calling a function does: by its number and its arguments, from where it is called, and by what comes next with its
-- result.
abbrev pub Calling : Type 0
Calling = ℕ → List ℕ → Here → (ℕ → Rest) → Rest

-- What an expression does: by what calls do, by where static objects stand, from where it stands, and by what comes next
-- with its value.
pub record Surroundings : Type 0 where
  pub calling : Calling
  pub object : ℕ → ℕ

abbrev pub Value : Type 0
Value = Surroundings → Here → (ℕ → Rest) → Rest

-- Addresses are words: sums and differences are modulo 2 ^ 64.
abbrev pub word_plus : ℕ → ℕ → ℕ
word_plus a b = (a + b) % 2 ^ 64

abbrev pub word_minus : ℕ → ℕ → ℕ
word_minus a b = (a + (2 ^ 64 - b % 2 ^ 64)) % 2 ^ 64

abbrev pub moved : Direction → ℕ → ℕ → ℕ
moved Up a b = word_plus a b
moved Down a b = word_minus a b

-- Arguments are evaluated from left to right.
abbrev pub in_order_of : List Value → Surroundings → Here → (List ℕ → Rest) → Rest
in_order_of [] around here next = next []
in_order_of (v ∷ vs) around here next = v around here (λ x. in_order_of vs around here (λ xs. next (x ∷ xs)))

abbrev pub operand_value : Operand-F Value (ℕ → Value) Value → Value
operand_value (Operand-F.Number word) around here next = next word
operand_value (Operand-F.Local offset) around here next = with_memory (λ m. next (address_of m (here.frame + offset)))
operand_value (Operand-F.Object number) around here next = with_memory (λ m. next (address_of m (around.object number)))
operand_value (Operand-F.Call function args) around here next =
    in_order_of args around here (λ words. around.calling function words here next)
operand_value (Operand-F.Library call args) around here next =
    in_order_of args around here (λ words. library_call call words here next)
operand_value (Operand-F.Mpi call args) around here next = in_order_of args around here (λ words. mpi_call call words here next)

-- the number of the kind at an address, and the memory with another one there
abbrev pub load : Kind → ℕ → Here → (ℕ → Rest) → Rest
load k a here next = with_memory (λ m. reading (loaded m k a) here next)

abbrev pub store : Kind → ℕ → ℕ → Here → Rest → Rest
store k a word here next = with_memory (λ m. writing (stored m k a word) here next)

-- An address and a number of elements of so many bytes.
abbrev pub element : OffsetBy → ℕ → ℕ → ℕ → ℕ
element PointerPlusNumber scale a b = word_plus a (b * scale)
element NumberPlusPointer scale a b = word_plus (a * scale) b
element PointerMinusNumber scale a b = word_minus a (b * scale)

-- The signed difference of two addresses, in elements of so many bytes, rounded towards zero.
abbrev pub elements_between : ℕ → ℕ → ℕ → Here → (ℕ → Rest) → Rest
elements_between size a b here next = with_result (operate op.Divide kind.Long (word_minus a b) size) here next

-- 1 or 0
abbrev pub truth_of : ℕ → ℕ
truth_of word = if nat_eq word 0 then 0 else 1

abbrev pub negated : ℕ → ℕ
negated word = if nat_eq word 0 then 1 else 0

-- what `++` or `--` leaves of a number or a pointer
abbrev pub counted_kind : Counted → Kind
counted_kind (counted.Number k) = k
counted_kind (counted.Pointer scale) = kind.UnsignedLong

abbrev pub next_of : Counted → Direction → ℕ → ℕ
next_of (counted.Number k) direction word = convert (moved direction word 1) kind.UnsignedLong k
next_of (counted.Pointer scale) direction word = moved direction word scale

abbrev pub given_of : Given → ℕ → ℕ → ℕ
given_of New old new = new
given_of Old old new = old

-- What a step does with the value so far.
abbrev pub step_value : Step-F Value (ℕ → Value) Value → ℕ → Value
step_value (Step-F.Load k) x around here next = load k x here next
step_value (Step-F.Convert from to) x around here next = next (convert x from to)
step_value (Step-F.Unary o k) x around here next = next (operate_one o k x)
step_value Step-F.Not x around here next = next (negated x)
step_value (Step-F.Member offset) x around here next = next (word_plus x offset)
step_value (Step-F.Binary o k b) x around here next = b around here (λ y. with_result (operate o k x y) here next)
step_value (Step-F.Greater k b) x around here next = b around here (λ y. with_result (operate op.Less k y x) here next)
step_value (Step-F.AtLeast k b) x around here next = b around here (λ y. with_result (operate op.AtMost k y x) here next)
step_value (Step-F.Offset by scale b) x around here next = b around here (λ y. next (element by scale x y))
step_value (Step-F.Difference size b) x around here next = b around here (λ y. elements_between size x y here next)
step_value (Step-F.And b) x around here next = choose x (b around here (λ y. next (truth_of y))) (next 0)
step_value (Step-F.Or b) x around here next = choose x (next 1) (b around here (λ y. next (truth_of y)))
step_value (Step-F.Conditional b c) x around here next = choose x (b around here next) (c around here next)
step_value (Step-F.Comma b) x around here next = b around here next
step_value (Step-F.Assign k b) x around here next = b around here (λ y. store k x y here (next y))
step_value (Step-F.Copy size b) x around here next =
    b around here (λ y. with_memory (λ m. writing (copied m x y size) here (next x)))
step_value (Step-F.Update o k at b) x around here next =
    load k x here (λ old. b around here (λ y. with_result (operate o at (convert old k at) y) here (λ new.
    let word : ℕ = convert new at k in store k x word here (next word))))
step_value (Step-F.Advance direction scale b) x around here next =
    load kind.UnsignedLong x here (λ old. b around here (λ y.
    let word : ℕ = moved direction old (y * scale) in store kind.UnsignedLong x word here (next word)))
step_value (Step-F.Count c direction given) x around here next =
    load (counted_kind c) x here (λ old. let word : ℕ = next_of c direction old in
    store (counted_kind c) x word here (next (given_of given old word)))

-- steps, one behind the other
abbrev pub steps_value : List (ℕ → Value) → ℕ → Value
steps_value [] x around here next = next x
steps_value (s ∷ ss) x around here next = s x around here (λ y. steps_value ss y around here next)

abbrev pub value_step : Expr-F Value (ℕ → Value) Value → Value
value_step e around here next = e.first around here (λ x. steps_value e.steps x around here next)

unfoldable pub value : Expr → Value
value = fold-Expr Value (ℕ → Value) Value operand_value step_value value_step
