-- A machine has one way to go, and lines are told by what stands before.
use Rattle.std.proofs.Common.{◌≡◌, ℕ, zero, suc, ◌+◌, List, [], ◌∷◌, take, ap, ◌∙◌, add-one, arith}
use Rattle.std.specs.Prelude.{Some, slice_get}
use Rattle.vm_code.specs.declared.code.Code.{Code}
use Rattle.vm_code.specs.declared.instr.Instr.{Instr}
use Rattle.vm_code.specs.Stops.{Stop}
use Rattle.vm_code.specs.Lines.{Place, told_by, told_behind, place_of}
use Rattle.vm_code.specs.Machine.{Config, Moved, Went, Stopped, Stuck, follow, one_step, exec}
use Rattle.vm_code.specs.Laws.{StaysStopped, TellsLines}

follow_stays : (m : Moved) (f g : Config → Moved) (stop : Stop) (last : Config)
    → ((c : Config) → f c ≡ Stopped stop last → g c ≡ Stopped stop last) → follow m f ≡ Stopped stop last → follow m g ≡ Stopped stop last
follow_stays (Went c) f g stop last keeps e = keeps c e
follow_stays (Stopped other c) f g stop last keeps e = e
follow_stays Stuck f g stop last keeps e = e

pub stays_stopped : StaysStopped
stays_stopped code c last stop zero k e le = absurd (cc (e))
stays_stopped code c last stop (suc j) zero e le = absurd (omega (arith, le))
stays_stopped code c last stop (suc j) (suc k) e le =
    follow_stays (one_step code c) (exec code j) (exec code k) stop last
    (λ d reached. stays_stopped code d last stop j k reached (omega (arith, le))) e

same_before : (one other : Code) (place : ℕ) → one.unit ≡ other.unit → one.line ≡ other.line → take place one.instrs ≡ take place other.instrs
    → place_of one place ≡ place_of other place
unfolding place_of
same_before one other place units lines instrs =
    ap (λ u. told_behind (record { unit = u; line = one.line }) (take place one.instrs)) units
    ∙ ap (λ l. told_behind (record { unit = other.unit; line = l }) (take place one.instrs)) lines
    ∙ ap (told_behind (record { unit = other.unit; line = other.line })) instrs

told_next : (before : Place) (instrs : List Instr) (place : ℕ) (instr : Instr) → slice_get instrs place ≡ Some instr
    → told_behind before (take (suc place) instrs) ≡ told_by (told_behind before (take place instrs)) instr
told_next before [] place instr e = absurd (cc (e))
told_next before (i ∷ is) zero instr e = ap (told_by before) (let same : i ≡ instr = cc (e) in same)
told_next before (i ∷ is) (suc place) instr e = told_next (told_by before i) is place instr e

behind_one : (code : Code) (place : ℕ) (instr : Instr) → slice_get code.instrs place ≡ Some instr
    → place_of code (place + 1) ≡ told_by (place_of code place) instr
unfolding place_of
behind_one code place instr e =
    let start : Place = record { unit = code.unit; line = code.line } in
    ap (λ n. told_behind start (take n code.instrs)) (add-one place) ∙ told_next start code.instrs place instr e

pub tells_lines : TellsLines
tells_lines = record { before = same_before; behind = behind_one }
