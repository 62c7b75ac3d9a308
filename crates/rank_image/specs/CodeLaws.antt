-- What is spelled as a number is read back from it.
use Rattle.std.proofs.Common.{◌≡◌, ◌∙◌, ◌==◌, ℕ, Bool, true, false, List, [], ◌∷◌, Option, Some, None, refl, sym, ap, inl, inr}
use Rattle.std.specs.Prelude.{find, MatchOption, ◌≢◌}
use Rattle.std.proofs.lemmas.Bool.{eqb-true}
use Rattle.am_base.specs.declared.traps.TrapCause.{TrapCause}
use Rattle.am_base.specs.declared.traps.TrapCause.TheVariants.{BadAddress, BadFree, DivisionByZero, DivisionOverflow, ShiftCount, CallDepth, DataStack, BadFormat, TextLimit, ErrOther, ErrComm, ErrRequest, ErrCount, ErrType, ErrOp, ErrRoot, ErrRank, ErrTag, ErrBuffer, ErrTruncate, CollectiveMismatch}
use Rattle.am_base.specs.Traps.{trap_number}
use Rattle.mpi_types.specs.declared.collective.Collective.{Collective}
use Rattle.mpi_types.specs.declared.collective.Collective.TheVariants.{Barrier, Bcast, Reduce, Allreduce, Scan, Gather, Scatter, Allgather, Alltoall, CommDup, CommSplit, Migrate}
use Rattle.mpi_types.specs.Tables.{collective_number}
use Rattle.mpi_types.specs.declared.argument.Direction.{Direction}
use Rattle.mpi_types.specs.declared.argument.Direction.TheVariants.{Up, Down}
use Rattle.mpi_types.specs.Order.{direction_number}
use Rattle.mpi_types.specs.declared.state.Phase.{Phase}
use Rattle.mpi_types.specs.declared.state.Phase.TheVariants.{Before, Running, After}
use Rattle.byte_formats.specs.FormatLaws.{chosen, none_found}
use Rattle.rank_image.specs.Codes.{all_causes, cause_of, all_collectives, collective_of, direction_of, phase_of, phase_number}

-- what is found by its number has that number
found_has : {Y : Type 0} (from : Y → ℕ) (n : ℕ) (ys : List Y) (y : Y) → find (λ z. from z == n) ys ≡ Some y → from y ≡ n
found_has from n [] y e = absurd (none_found y e)
found_has from n (z ∷ zs) y e =
    elim (chosen (from z == n) (Some z) (find (λ x. from x == n) zs) (Some y) e) [
      | inl here ↦ let is : z ≡ y = cc in ap from (sym is) ∙ eqb-true (from z) n here.0
      | inr later ↦ found_has from n zs y later.1
    ]

-- nothing is found where nothing has the number
none_has : {Y : Type 0} (to : ℕ → Option Y) (from : Y → ℕ) (n : ℕ) (o : Option Y) → ((y : Y) → to n ≡ Some y → from y ≡ n)
    → ((y : Y) → from y ≢ n) → to n ≡ o → None ≡ to n
none_has to from n None here h e = sym e
none_has to from n (Some y) here h e = absurd (h y (here y e))

-- an answer that has the number, or tells that nothing has it, is what is found by it
pub is_found : {Y : Type 0} (to : ℕ → Option Y) (from : Y → ℕ) → ((y : Y) → to (from y) ≡ Some y)
    → ((n : ℕ) (y : Y) → to n ≡ Some y → from y ≡ n) → (n : ℕ) (r : Option Y)
    → MatchOption r ((y : Y) → from y ≢ n) (λ y. from y ≡ n) → r ≡ to n
is_found to from there here n (Some y) h = sym (there y) ∙ ap to h
is_found to from there here n None h = none_has to from n (to n) (here n) h refl

pub cause_there : (c : TrapCause) → cause_of (trap_number c) ≡ Some c
cause_there BadAddress = refl
cause_there BadFree = refl
cause_there DivisionByZero = refl
cause_there DivisionOverflow = refl
cause_there ShiftCount = refl
cause_there CallDepth = refl
cause_there DataStack = refl
cause_there BadFormat = refl
cause_there TextLimit = refl
cause_there ErrOther = refl
cause_there ErrComm = refl
cause_there ErrRequest = refl
cause_there ErrCount = refl
cause_there ErrType = refl
cause_there ErrOp = refl
cause_there ErrRoot = refl
cause_there ErrRank = refl
cause_there ErrTag = refl
cause_there ErrBuffer = refl
cause_there ErrTruncate = refl
cause_there CollectiveMismatch = refl

pub cause_here : (n : ℕ) (c : TrapCause) → cause_of n ≡ Some c → trap_number c ≡ n
cause_here n c e = found_has trap_number n all_causes c e

pub collective_there : (c : Collective) → collective_of (collective_number c) ≡ Some c
collective_there Barrier = refl
collective_there Bcast = refl
collective_there Reduce = refl
collective_there Allreduce = refl
collective_there Scan = refl
collective_there Gather = refl
collective_there Scatter = refl
collective_there Allgather = refl
collective_there Alltoall = refl
collective_there CommDup = refl
collective_there CommSplit = refl
collective_there Migrate = refl

pub collective_here : (n : ℕ) (c : Collective) → collective_of n ≡ Some c → collective_number c ≡ n
collective_here n c e = found_has collective_number n all_collectives c e

pub direction_there : (d : Direction) → direction_of (direction_number d) ≡ Some d
direction_there Up = refl
direction_there Down = refl

pub direction_here : (n : ℕ) (d : Direction) → direction_of n ≡ Some d → direction_number d ≡ n
direction_here n d e = found_has direction_number n (Up ∷ Down ∷ []) d e

pub phase_there : (p : Phase) → phase_of (phase_number p) ≡ Some p
phase_there Before = refl
phase_there Running = refl
phase_there After = refl

pub phase_here : (n : ℕ) (p : Phase) → phase_of n ≡ Some p → phase_number p ≡ n
phase_here n p e = found_has phase_number n (Before ∷ Running ∷ After ∷ []) p e
