-- What a step in the making of code adds to it.
use Rattle.std.specs.Prelude.{ℕ, ◌≡◌, ◌+◌, ◌<◌, ◌^◌, ◌++◌, min, List, length, Option, None, Some}
use Rattle.rank_range.specs.declared.run.Segment.{Segment}
use Rattle.vm_code.specs.declared.instr.Instr.TheVariants.{Pop, Local, Jump, JumpIfZero}
use Rattle.c_types.specs.declared.expression.FullExpr.{FullExpr}
use Rattle.c_types.specs.declared.statement.Store.{Store}
use Rattle.c_types.specs.declared.statement.Case.{Case}
use Rattle.codegen.specs.declared.draft.Draft.{Draft}
use Rattle.codegen.specs.declared.statements.Places.{Places}
use Rattle.codegen.specs.Layout.{Part, one, ◌then◌}
use Rattle.codegen.specs.Sizes.{expr_size, test_size, again_size, cases_size}
use Rattle.codegen.specs.Statements.{Within, Piece, Targets, ticked, full_part, put_part, test_part, again_part, continue_place, led_to, choice_part, offset_in}

-- A part was added behind what was there: so many instructions in any case, and just these where all places are numbers of 32
-- bits.
pub record Adds (old new : Draft) (part : Part) : Type 0 where
  pub count : length new.instrs ≡ length old.instrs + length (part (length old.instrs))
  pub instrs : length new.instrs < 2 ^ 32 → new.instrs ≡ old.instrs ++ part (length old.instrs)

-- the number, or the greatest of 32 bits where it is more
abbrev pub at_most_word : ℕ → ℕ
at_most_word n = min n 4294967295

-- what is around a statement of this unit
abbrev pub within : ℕ → Segment → Within
within unit segment = record { unit = unit; object = offset_in segment }

-- the same of one that may be missing
abbrev pub cut : Option ℕ → Option ℕ
cut None = None
cut (Some n) = Some (at_most_word n)

-- where `break` and `continue` lead
abbrev pub targets_of : Places → Targets
targets_of places = record { to_break = places.to_break; to_continue = places.to_continue }

-- an initialiser's store
abbrev pub store_part : Within → Store → Part
store_part w s = one (Local s.offset) then full_part w s.value then one (put_part s.stored) then one Pop

-- The turns of a `while` and of a `do`: the test behind its tick point, the body, and the jump back.
abbrev pub turns_to : Within → ℕ → FullExpr → Piece → ℕ → ℕ → Part
turns_to w line e s end start =
    ticked w line then full_part w e then one (JumpIfZero end) then s.part (record { to_break = end; to_continue = start }) then one (Jump start)

abbrev pub turns_size : FullExpr → Piece → ℕ
turns_size e s = 1 + expr_size e.expr + 1 + s.size + 1

abbrev pub turns_part : Within → ℕ → FullExpr → Piece → Part
turns_part w line e s = λ place. turns_to w line e s (place + turns_size e s) place place

-- the turns of a `for`, from the tick point of its test on
abbrev pub for_turns_to : Within → ℕ → Option FullExpr → Option FullExpr → Piece → ℕ → ℕ → ℕ → Part
for_turns_to w line test step s end start again =
    ticked w line then test_part w test end then s.part (record { to_break = end; to_continue = again })
    then again_part w line step then one (Jump start)

abbrev pub for_turns_size : Option FullExpr → Option FullExpr → Piece → ℕ
for_turns_size test step s = 1 + test_size test + s.size + again_size step + 1

abbrev pub for_turns_part : Within → ℕ → Option FullExpr → Option FullExpr → Piece → Part
for_turns_part w line test step s = λ place.
    for_turns_to w line test step s (place + for_turns_size test step s) place
    (continue_place step place (place + 1 + test_size test + s.size + 2)) place

-- where a label of a body leads that begins at the one place and ends at the other, up to the greatest number of 32 bits
abbrev pub cut_to : ℕ → ℕ → Option ℕ → ℕ
cut_to start end None = end
cut_to start end (Some n) = at_most_word (start + n)

abbrev pub label_to : ℕ → ℕ → Piece → ℕ → ℕ
label_to start end s label = cut_to start end (cut (s.label label))

-- a `switch` behind its value: the choice, and the body
abbrev pub switch_to : (ℕ → ℕ) → ℕ → ℕ → List Case → Option ℕ → Piece → Part
switch_to to end to_continue cases default s =
    choice_part to end cases default then s.part (record { to_break = end; to_continue = to_continue })

abbrev pub switch_front : List Case → ℕ
switch_front cases = cases_size cases + 2

abbrev pub switch_part : Targets → List Case → Option ℕ → Piece → Part
switch_part t cases default s = λ place.
    let body : ℕ = place + switch_front cases in
    let end : ℕ = body + s.size in
    switch_to (λ label. led_to body end (s.label label)) end t.to_continue cases default s place
