-- The answers to files exclude each other.
use Rattle.std.specs.Prelude.{ℕ, ◌≡◌, List}
use Rattle.c_compile.specs.declared.compiled.Compiled.{Compiled}
use Rattle.c_compile.specs.declared.error.Refusal.{Refusal}
use Rattle.c_compile.specs.Programs.{IsCompiled, AreRefused}

-- What two compilations of the same files have in common: all but what a code has beside its instructions.
pub record AreAlike (a b : Compiled) : Type 0 where
  pub program : a.program ≡ b.program
  pub segment : a.segment ≡ b.segment
  pub instrs : a.code.instrs ≡ b.code.instrs

-- Files are compiled in one way or refused in one way: with one cause, in one file, at one line.
pub record AnswersAreOne : Type 0 where
  pub compiled : (files : List (List ℕ)) (a b : Compiled) → IsCompiled files a → IsCompiled files b → AreAlike a b
  pub refused : (files : List (List ℕ)) (a b : Refusal) → AreRefused files a → AreRefused files b → a ≡ b
  pub apart : (files : List (List ℕ)) (compiled : Compiled) (r : Refusal) → IsCompiled files compiled → AreRefused files r → ⊥
