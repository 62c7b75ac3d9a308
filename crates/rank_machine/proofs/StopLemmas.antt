-- What is told of a machine at rest.
use Rattle.std.proofs.Common.{◌≡◌, ℕ, ◌≤◌, ◌∙◌, List, length, sym, ap, subst, Some}
use Rattle.std.specs.Prelude.{Bool, slice_get}
use Rattle.am_base.specs.declared.calls.MpiCall.{MpiCall}
use Rattle.vm_code.specs.declared.code.Code.{Code}
use Rattle.vm_code.specs.declared.instr.Instr.{Instr}
use Rattle.vm_code.specs.declared.instr.Instr.TheVariants.{Mpi}
use Rattle.rank_machine.specs.Runs.{AtCall}

same_mpi : (c d : MpiCall) (n m : ℕ) (s t : Bool) → Some (Mpi c n s) ≡ Some (Mpi d m t) → n ≡ m
same_mpi c d n m s t e = cc (e)

pub same_instr : (i j : Instr) → Some i ≡ Some j → i ≡ j
same_instr i j e = cc (e)

pub enough_for : (code : Code) (place : ℕ) (operands : List ℕ) (i : Instr) (call : MpiCall) (n : ℕ) (second : Bool) → AtCall code place operands
    → slice_get code.instrs place ≡ Some i → i ≡ Mpi call n second → n ≤ length operands
enough_for code place operands i call n second a found is =
    subst (λ (m : ℕ). m ≤ length operands)
    (same_mpi a.call call a.count n a.second second (sym a.found ∙ found ∙ ap Some is)) a.enough

pub is_there : (code : Code) (place : ℕ) (operands : List ℕ) (i : Instr) → (a : AtCall code place operands)
    → slice_get code.instrs place ≡ Some i → i ≡ Mpi a.call a.count a.second
is_there code place operands i a found = same_instr i (Mpi a.call a.count a.second) (sym found ∙ a.found)
