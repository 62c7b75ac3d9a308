-- What is known of the definitions of a program.
use Rattle.std.specs.Prelude.{ℕ, ◌≡◌, Bool, false, slice_index_or}
use Rattle.c_types.specs.declared.program.Program.{Program}
use Rattle.c_types.specs.Segment.{defines_function, defines_object, IsSecondFunction, IsSecondObject}
use Rattle.privatise.specs.declared.definitions.Definitions.{Definitions}
use Rattle.privatise.specs.First.{IsFirst}

-- whether the number has its mark
abbrev pub is_marked : Definitions → ℕ → Bool
is_marked definitions number = slice_index_or definitions.marks.items number false

-- The numbers that are defined have their marks, and the first second definition is known.
pub record KnowsFunctions (program : Program) (definitions : Definitions) : Type 0 where
  pub marks_are : (number : ℕ) → is_marked definitions number ≡ defines_function program.defined number
  pub second_is : IsFirst (IsSecondFunction program) definitions.second

pub record KnowsObjects (program : Program) (definitions : Definitions) : Type 0 where
  pub marks_are : (number : ℕ) → is_marked definitions number ≡ defines_object program.objects number
  pub second_is : IsFirst (IsSecondObject program) definitions.second
