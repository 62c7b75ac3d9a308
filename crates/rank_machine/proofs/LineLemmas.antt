-- The line of a trap is found backwards.
use Rattle.std.proofs.Common.{◌≡◌, ℕ, zero, suc, ◌+◌, ◌-◌, ◌<◌, ◌≤◌, ◌∙◌, List, [], ◌∷◌, length, take, refl, sym, ap, arith, Option, Some, None}
use Rattle.std.specs.Prelude.{slice_get}
use Rattle.vm_code.specs.declared.code.Code.{Code}
use Rattle.vm_code.specs.declared.instr.Instr.{Instr}
use Rattle.vm_code.specs.Lines.{Place, told_by, told_behind, place_of}
use Rattle.vm_code.specs.Laws.{TellsLines}
use Rattle.rank_machine.specs.declared.lines.Line.{Line}
use Rattle.rank_machine.specs.Told.{told_or, line_at}

abbrev of_place : Place → Line
of_place p = record { unit = p.unit; line = p.line }

abbrev line_with : ℕ → ℕ → Line
line_with unit line = record { unit = unit; line = line }

-- the same line is told from here on
pub record SameLine (code : Code) (place at : ℕ) : Type 0 where
  pub within : at ≤ length code.instrs
  pub is : place_of code place ≡ place_of code at

taken_all : {X : Type 0} (xs : List X) (n : ℕ) → length xs ≤ n → take n xs ≡ take (length xs) xs
taken_all [] zero few = refl
taken_all [] (suc n) few = refl
taken_all (x ∷ xs) zero few = absurd (omega (arith, few))
taken_all (x ∷ xs) (suc n) few = ap (λ ys. x ∷ ys) (taken_all xs n (omega (arith, few)))

pub past_end : (code : Code) (place at : ℕ) → length code.instrs ≤ place → at ≡ length code.instrs → SameLine code place at
unfolding place_of
past_end code place at past is =
    let start : Place = record { unit = code.unit; line = code.line } in
    record {
      within = omega (arith, is);
      is = ap (told_behind start) (taken_all code.instrs place past) ∙ ap (λ (n : ℕ). told_behind start (take n code.instrs)) (sym is);
    }

pub same_here : (code : Code) (place at : ℕ) → place < length code.instrs → at ≡ place → SameLine code place at
same_here code place at within is = record { within = omega (arith, within, is); is = ap (place_of code) (sym is) }

behind : (laws : TellsLines) (code : Code) (place at : ℕ) (i : Instr) (told : Option Line) → SameLine code place at → 0 < at
    → slice_get code.instrs (at - 1) ≡ Some i → told_by (place_of code (at - 1)) i ≡ told_or (place_of code (at - 1)) told
    → place_of code place ≡ told_or (place_of code (at - 1)) told
behind laws code place at i told s some found tells =
    let one : at ≡ at - 1 + 1 = omega (arith, some) in
    s.is ∙ ap (place_of code) one ∙ laws.behind code (at - 1) i found ∙ tells

pub one_before : (laws : TellsLines) (code : Code) (place at : ℕ) (i : Instr) → SameLine code place at → 0 < at → slice_get code.instrs (at - 1) ≡ Some i
    → told_by (place_of code (at - 1)) i ≡ place_of code (at - 1) → SameLine code place (at - 1)
one_before laws code place at i s some found tells =
    let within = s.within in
    record { within = omega (arith, within); is = behind laws code place at i None s some found tells }

pub told_here : (laws : TellsLines) (code : Code) (place at : ℕ) (i : Instr) (line : Line) → SameLine code place at → 0 < at → slice_get code.instrs (at - 1) ≡ Some i
    → told_by (place_of code (at - 1)) i ≡ told_or (place_of code (at - 1)) (Some line) → line ≡ line_at code place
told_here laws code place at i line s some found tells =
    sym (ap (λ (p : Place). of_place p) (behind laws code place at i (Some line) s some found tells))

pub first_line : (code : Code) (place at : ℕ) → SameLine code place at → at ≡ 0 → line_with code.unit code.line ≡ line_at code place
unfolding place_of
first_line code place at s none = sym (ap (λ (p : Place). of_place p) (s.is ∙ ap (place_of code) none))
