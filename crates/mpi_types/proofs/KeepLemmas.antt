-- The first runs of a history are the runs of its front.
use Rattle.std.proofs.Common.{ℕ, zero, suc, ◌≡◌, ◌+◌, ◌<◌, List, [], ◌∷◌, ◌++◌, take, refl, ap, ◌∙◌, subst, arith, true, false, inl, inr}
use Rattle.std.specs.Prelude.{replicate}
use Rattle.std.proofs.lemmas.Bool.{cases_Bool, eq-eqb}
use Rattle.mpi_types.specs.declared.entries.Entry.{Entry}
use Rattle.mpi_types.specs.declared.entries.Entry.TheVariants.{Tick, Match, Gather, Commit}
use Rattle.mpi_types.specs.declared.entries.EntryRun.{EntryRun}
use Rattle.mpi_types.specs.Runs.{are_one_run, run_before, runs_of, entries_of, MayRepeat, run_of_entry}

-- a run is one of ticks, or of one entry, and of some
record IsRun (run : EntryRun) : Type 0 where
  may : MayRepeat run.entry run.times
  some : 0 < run.times

-- no two runs in a row could be one
abbrev AreApart : List EntryRun → Type 0
AreApart [] = Unit {0}
AreApart (run ∷ []) = IsRun run
AreApart (run ∷ more ∷ runs) = IsRun run × (are_one_run run.entry more.entry ≡ false) × AreApart (more ∷ runs)

once_may : (e : Entry) → MayRepeat e 1
once_may (Tick r) = tt
once_may (Match r request sender) = refl
once_may (Gather r) = refl
once_may Commit = refl

tick_may : (a b : Entry) (n : ℕ) → are_one_run a b ≡ true → MayRepeat b n
tick_may (Tick r) (Tick q) n e = tt
tick_may (Tick r) (Match q request sender) n e = cc
tick_may (Tick r) (Gather q) n e = cc
tick_may (Tick r) Commit n e = cc
tick_may (Match r request sender) b n e = cc
tick_may (Gather r) b n e = cc
tick_may Commit b n e = cc

-- one more of the first run
longer : (run : EntryRun) (runs : List EntryRun) → MayRepeat run.entry (run.times + 1) → AreApart (run ∷ runs)
    → AreApart (run_of_entry run.entry (run.times + 1) ∷ runs)
longer run [] may h = record { may = may; some = omega arith }
longer run (more ∷ runs) may h = (record { may = may; some = omega arith }, h.1, h.2)

before_apart : (e : Entry) (runs : List EntryRun) → AreApart runs → AreApart (run_before e runs)
before_apart e [] h = record { may = once_may e; some = omega arith }
before_apart e (run ∷ runs) h = elim (cases_Bool (are_one_run e run.entry)) [
  | inl t ↦ rw t (longer run runs (tick_may e run.entry (run.times + 1) t) h)
  | inr f ↦ rw f (record { may = once_may e; some = omega arith }, f, h)
]

runs_apart : (h : List Entry) → AreApart (runs_of h)
runs_apart [] = tt
runs_apart (e ∷ h) = before_apart e (runs_of h) (runs_apart h)

-- the entry isn't in one run with the first run
abbrev IsOther : Entry → List EntryRun → Type 0
IsOther e [] = Unit {0}
IsOther e (run ∷ runs) = are_one_run e run.entry ≡ false

front_once : (e : Entry) (rest : List EntryRun) → IsOther e rest → run_before e rest ≡ run_of_entry e 1 ∷ rest
front_once e [] other = refl
front_once e (run ∷ runs) other = rw other refl

front_run : (e : Entry) (n : ℕ) (h : List Entry) (rest : List EntryRun) → MayRepeat e (suc n) → runs_of h ≡ rest → IsOther e rest
    → runs_of (replicate (suc n) e ++ h) ≡ run_of_entry e (suc n) ∷ rest
front_run e zero h rest may is other = ap (run_before e) is ∙ front_once e rest other
front_run (Tick r) (suc n) h rest may is other =
    ap (run_before (Tick r)) (front_run (Tick r) n h rest tt is other)
    ∙ rw (eq-eqb r.0 r.0 refl) (ap (λ k. run_of_entry (Tick r) k ∷ rest) (omega arith))
front_run (Match r request sender) (suc n) h rest may is other = absurd (omega arith)
front_run (Gather r) (suc n) h rest may is other = absurd (omega arith)
front_run Commit (suc n) h rest may is other = absurd (omega arith)

one_run : (run : EntryRun) (h : List Entry) (rest : List EntryRun) → IsRun run → runs_of h ≡ rest → IsOther run.entry rest
    → runs_of (replicate run.times run.entry ++ h) ≡ run ∷ rest
one_run run h rest is same other = with_times run.times is.some is.may
  where
    with_times : (n : ℕ) → 0 < n → MayRepeat run.entry n → runs_of (replicate n run.entry ++ h) ≡ run_of_entry run.entry n ∷ rest
    with_times zero some may = absurd (omega arith)
    with_times (suc n) some may = front_run run.entry n h rest may same other

apart_runs : (runs : List EntryRun) → AreApart runs → runs_of (entries_of runs) ≡ runs
apart_runs [] h = refl
apart_runs (run ∷ []) h = one_run run [] [] h refl tt
apart_runs (run ∷ more ∷ runs) h = one_run run (entries_of (more ∷ runs)) (more ∷ runs) h.0 (apart_runs (more ∷ runs) h.2) h.1

apart_take : (n : ℕ) (runs : List EntryRun) → AreApart runs → AreApart (take n runs)
apart_take zero runs h = tt
apart_take (suc n) [] h = tt
apart_take (suc zero) (run ∷ []) h = h
apart_take (suc (suc n)) (run ∷ []) h = h
apart_take (suc zero) (run ∷ more ∷ runs) h = h.0
apart_take (suc (suc n)) (run ∷ more ∷ runs) h = (h.0, h.1, apart_take (suc n) (more ∷ runs) h.2)

pub kept_front : (n : ℕ) (runs : List EntryRun) → runs_of (entries_of runs) ≡ runs → runs_of (entries_of (take n runs)) ≡ take n runs
kept_front n runs kept = apart_runs (take n runs) (apart_take n runs (subst AreApart kept (runs_apart (entries_of runs))))
