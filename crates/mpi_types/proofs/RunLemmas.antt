-- A run added behind runs, and what it does to the entries and to their shortest list of runs.
use Rattle.std.proofs.Common.{ℕ, zero, suc, ◌≡◌, ◌≢◌, ◌+◌, ◌-◌, ◌<◌, ◌≤◌, Result, Ok, Err, OnOk, OnErr, List, [], ◌∷◌, ◌++◌, length, get_or, set, refl, sym, ap, ◌∙◌, append_assoc, length-append, arith, Bool, true, false, ◌⊎◌, inl, inr}
use Rattle.std.proofs.lemmas.Bool.{eqb-true, eq-eqb}
use Rattle.std.proofs.lemmas.Bool.Decides.{eqb_tells}
use Rattle.std.proofs.lemmas.List.{append-nil, replicate-append-replicate, length-replicate}
use Rattle.std.specs.Prelude.{replicate}
use lib.Dec.{eqb}
use Rattle.am_base.specs.declared.numbers.RankId.{RankId}
use Rattle.mpi_types.specs.declared.entries.Entry.{Entry}
use Rattle.mpi_types.specs.declared.entries.Entry.TheVariants.{Tick, Match, Gather, Commit}
use Rattle.mpi_types.specs.declared.entries.EntryRun.{EntryRun}
use Rattle.mpi_types.specs.Runs.{are_one_run, run_before, runs_of, entries_of, MayRepeat, run_of_entry, merged, run_behind}

rank_eq : (r q : RankId) → r.0 ≡ q.0 → r ≡ q
rank_eq r q n = let f : ℕ → RankId = λ k. record { 0 = k } in ap f n

-- entries in one run are equal, whichever stands first
pub one_run-eq : (a b : Entry) → are_one_run a b ≡ true → a ≡ b
one_run-eq (Tick r) (Tick q) e = ap Tick (rank_eq r q (eqb-true r.0 q.0 e))
one_run-eq (Tick r) (Match q request sender) e = cc
one_run-eq (Tick r) (Gather q) e = cc
one_run-eq (Tick r) Commit e = cc
one_run-eq (Match r request sender) b e = cc
one_run-eq (Gather r) b e = cc
one_run-eq Commit b e = cc

eqb-sym : (m n : ℕ) → eqb m n ≡ eqb n m
eqb-sym m n = elim (eqb_tells m n) [
  | inl t ↦ t.0 ∙ sym (eq-eqb n m (sym t.1))
  | inr t ↦ t.0 ∙ sym (elim (eqb_tells n m) [ inl u ↦ absurd (t.1 (sym u.1)) | inr u ↦ u.0 ])
]

pub one_run-sym : (a b : Entry) → are_one_run a b ≡ are_one_run b a
one_run-sym (Tick r) (Tick q) = eqb-sym r.0 q.0
one_run-sym (Tick r) (Match q request sender) = refl
one_run-sym (Tick r) (Gather q) = refl
one_run-sym (Tick r) Commit = refl
one_run-sym (Match r request sender) (Tick q) = refl
one_run-sym (Match r request sender) (Match q request' sender') = refl
one_run-sym (Match r request sender) (Gather q) = refl
one_run-sym (Match r request sender) Commit = refl
one_run-sym (Gather r) (Tick q) = refl
one_run-sym (Gather r) (Match q request sender) = refl
one_run-sym (Gather r) (Gather q) = refl
one_run-sym (Gather r) Commit = refl
one_run-sym Commit (Tick q) = refl
one_run-sym Commit (Match q request sender) = refl
one_run-sym Commit (Gather q) = refl
one_run-sym Commit Commit = refl

bool_cases : (b : Bool) → (b ≡ true) ⊎ (b ≡ false)
bool_cases true = inl refl
bool_cases false = inr refl

-- the two ways to make one run of an entry and a run
one_of_both : (e e' : Entry) (n : ℕ) → e ≡ e' → run_of_entry e' (n + 1) ≡ run_of_entry e (1 + n)
one_of_both e e' n same = let sum : n + 1 ≡ 1 + n = omega arith in cc

sum_around : (e : Entry) (a b : ℕ) → run_of_entry e ((a + b) + 1) ≡ run_of_entry e ((a + 1) + b)
sum_around e a b = let sum : (a + b) + 1 ≡ (a + 1) + b = omega arith in ap (λ n. run_of_entry e n) sum

-- an entry before and a run behind may be added in either order
commute : (e : Entry) (runs : List EntryRun) (new : EntryRun)
    → run_before e (run_behind runs new) ≡ run_behind (run_before e runs) new
commute e [] new = elim (bool_cases (are_one_run e new.entry)) [
  | inl t ↦
      let back : are_one_run new.entry e ≡ true = one_run-sym new.entry e ∙ t in
      rw (t, back) (ap (λ r. r ∷ []) (one_of_both e new.entry new.times (one_run-eq e new.entry t)))
  | inr f ↦ let back : are_one_run new.entry e ≡ false = one_run-sym new.entry e ∙ f in rw (f, back) refl
]
commute e (run ∷ []) new = elim (bool_cases (are_one_run e run.entry)) [
  | inl t ↦ elim (bool_cases (are_one_run new.entry run.entry)) [
    | inl u ↦ rw (u, t, u) (ap (λ r. r ∷ []) (sum_around run.entry run.times new.times))
    | inr u ↦ rw (u, t, u) refl
  ]
  | inr f ↦ elim (bool_cases (are_one_run new.entry run.entry)) [
    | inl u ↦ rw (u, f, u) refl
    | inr u ↦ rw (u, f, u) refl
  ]
]
commute e (run ∷ more ∷ runs) new = elim (bool_cases (are_one_run e run.entry)) [
  | inl t ↦ rw t refl
  | inr f ↦ rw f refl
]

-- ticks in a row are one run
repeated : (e : Entry) (n : ℕ) → MayRepeat e (suc n) → runs_of (replicate (suc n) e) ≡ run_of_entry e (suc n) ∷ []
repeated (Tick r) zero may = refl
repeated (Tick r) (suc n) may =
    rw (repeated (Tick r) n tt, eq-eqb r.0 r.0 refl) (ap (λ k. run_of_entry (Tick r) k ∷ []) (omega arith))
repeated (Match r request sender) zero may = refl
repeated (Match r request sender) (suc n) may = absurd (omega arith)
repeated (Gather r) zero may = refl
repeated (Gather r) (suc n) may = absurd (omega arith)
repeated Commit zero may = refl
repeated Commit (suc n) may = absurd (omega arith)

-- the runs of a history with more behind it
pub runs_of-append : (h : List Entry) (e : Entry) (n : ℕ) → MayRepeat e (suc n)
    → runs_of (h ++ replicate (suc n) e) ≡ run_behind (runs_of h) (run_of_entry e (suc n))
runs_of-append [] e n may = repeated e n may
runs_of-append (x ∷ h) e n may =
    ap (run_before x) (runs_of-append h e n may) ∙ commute x (runs_of h) (run_of_entry e (suc n))

-- the entries of runs with one more behind them
pub entries_of-behind : (runs : List EntryRun) (new : EntryRun)
    → entries_of (run_behind runs new) ≡ entries_of runs ++ replicate new.times new.entry
entries_of-behind [] new = append-nil (replicate new.times new.entry)
entries_of-behind (run ∷ []) new = elim (bool_cases (are_one_run new.entry run.entry)) [
  | inl t ↦
      let same : new.entry ≡ run.entry = one_run-eq new.entry run.entry t in
      rw (t, append-nil, append-nil, same) (sym (replicate-append-replicate run.times new.times run.entry))
  | inr f ↦ rw (f, append-nil, append-nil) refl
]
entries_of-behind (run ∷ more ∷ runs) new =
    ap (λ h. replicate run.times run.entry ++ h) (entries_of-behind (more ∷ runs) new)
    ∙ sym (append_assoc (replicate run.times run.entry) (entries_of (more ∷ runs)) (replicate new.times new.entry))

-- the last run grows
pub behind-grows : (runs : List EntryRun) (new d : EntryRun) (i : ℕ) → length runs ≡ i + 1
    → are_one_run new.entry (get_or runs i d).entry ≡ true
    → run_behind runs new ≡ set runs i (merged (get_or runs i d) new)
behind-grows [] new d i size one = absurd (omega arith)
behind-grows (run ∷ []) new d zero size one = rw one refl
behind-grows (run ∷ []) new d (suc i) size one = absurd (omega arith)
behind-grows (run ∷ more ∷ runs) new d zero size one = absurd (omega arith)
behind-grows (run ∷ more ∷ runs) new d (suc i) size one =
    let shorter : length (more ∷ runs) ≡ i + 1 = omega arith in
    ap (λ rs. run ∷ rs) (behind-grows (more ∷ runs) new d i shorter one)

-- a run of its own stands behind the last one
pub behind-pushes : (runs : List EntryRun) (new d : EntryRun) (i : ℕ) → length runs ≡ i + 1
    → are_one_run new.entry (get_or runs i d).entry ≡ false
    → run_behind runs new ≡ runs ++ new ∷ []
behind-pushes [] new d i size one = absurd (omega arith)
behind-pushes (run ∷ []) new d zero size one = rw one refl
behind-pushes (run ∷ []) new d (suc i) size one = absurd (omega arith)
behind-pushes (run ∷ more ∷ runs) new d zero size one = absurd (omega arith)
behind-pushes (run ∷ more ∷ runs) new d (suc i) size one =
    let shorter : length (more ∷ runs) ≡ i + 1 = omega arith in
    ap (λ rs. run ∷ rs) (behind-pushes (more ∷ runs) new d i shorter one)

-- what is kept of runs when one is added
pub kept-behind : (runs : List EntryRun) (new : EntryRun) → runs_of (entries_of runs) ≡ runs
    → MayRepeat new.entry new.times → 0 < new.times
    → runs_of (entries_of (run_behind runs new)) ≡ run_behind runs new
kept-behind runs new kept may some =
    ap runs_of (entries_of-behind runs new) ∙ with_times new.times some may
  where
    with_times : (n : ℕ) → 0 < n → MayRepeat new.entry n
        → runs_of (entries_of runs ++ replicate n new.entry) ≡ run_behind runs (run_of_entry new.entry n)
    with_times zero some may = absurd (omega arith)
    with_times (suc n) some may =
        runs_of-append (entries_of runs) new.entry n may ∙ ap (λ rs. run_behind rs (run_of_entry new.entry (suc n))) kept

-- a run is no longer than all entries
pub times-le : (runs : List EntryRun) (i : ℕ) (d : EntryRun) → i < length runs → (get_or runs i d).times ≤ length (entries_of runs)
times-le [] i d within = absurd (omega arith)
times-le (run ∷ runs) zero d within = simp (length-append, length-replicate) (omega arith)
times-le (run ∷ runs) (suc i) d within =
    let rest = times-le runs i d (omega arith) in
    simp (length-append, length-replicate) (omega (arith, rest))

get_or-any : {X : Type 0} (xs : List X) (i : ℕ) (a b : X) → i < length xs → get_or xs i a ≡ get_or xs i b
get_or-any [] i a b within = absurd (omega arith)
get_or-any (x ∷ xs) zero a b within = refl
get_or-any (x ∷ xs) (suc i) a b within = get_or-any xs i a b (omega arith)

-- the last run, seen and changed in place
pub grows_in_place : (runs : List EntryRun) (new seen held : EntryRun) (n : ℕ) → n ≡ length runs → 0 < n
    → seen ≡ get_or runs (n - 1) seen → held ≡ get_or runs (n - 1) held → are_one_run new.entry seen.entry ≡ true
    → set runs (n - 1) (merged held new) ≡ run_behind runs new
grows_in_place runs new seen held n size some seen_is held_is one =
    let size' : length runs ≡ (n - 1) + 1 = omega arith in
    let within : n - 1 < length runs = omega arith in
    let same : get_or runs (n - 1) seen ≡ held = get_or-any runs (n - 1) seen held within ∙ sym held_is in
    let one' : are_one_run new.entry (get_or runs (n - 1) seen).entry ≡ true =
    ap (λ run. are_one_run new.entry run.entry) (sym seen_is) ∙ one in
    sym (behind-grows runs new seen (n - 1) size' one' ∙ ap (λ run. set runs (n - 1) (merged run new)) same)

-- the last run, seen and left
pub pushes_behind : (runs : List EntryRun) (new seen : EntryRun) (n : ℕ) → n ≡ length runs → 0 < n
    → seen ≡ get_or runs (n - 1) seen → are_one_run new.entry seen.entry ≡ false
    → runs ++ new ∷ [] ≡ run_behind runs new
pushes_behind runs new seen n size some seen_is one =
    let size' : length runs ≡ (n - 1) + 1 = omega arith in
    let one' : are_one_run new.entry (get_or runs (n - 1) seen).entry ≡ false =
    ap (λ run. are_one_run new.entry run.entry) (sym seen_is) ∙ one in
    sym (behind-pushes runs new seen (n - 1) size' one')

pub pushes_first : (runs : List EntryRun) (new : EntryRun) → length runs ≡ 0 → runs ++ new ∷ [] ≡ run_behind runs new
pushes_first [] new size = refl
pushes_first (run ∷ runs) new size = absurd (omega arith)

-- what `push` leaves, by what `add_run` answered
pub kept_after : {T E : Type 0} (r : Result T E) (old now : List EntryRun) (new : EntryRun)
    → OnOk r (now ≡ run_behind old new) → OnErr r (now ≡ old) → runs_of (entries_of old) ≡ old
    → MayRepeat new.entry new.times → new.times ≢ 0 → runs_of (entries_of now) ≡ now
kept_after (Ok x) old now new ok err kept may some =
    rw ok (kept-behind old new kept may (omega arith))
kept_after (Err e) old now new ok err kept may some = rw err kept

pub viewed_after : {T E : Type 0} (r : Result T E) (old now : List EntryRun) (new : EntryRun) (h : List Entry)
    → OnOk r (now ≡ run_behind old new) → entries_of old ≡ h
    → OnOk r (entries_of now ≡ h ++ replicate new.times new.entry)
viewed_after (Ok x) old now new h ok view = rw (ok, ← view) (entries_of-behind old new)
viewed_after (Err e) old now new h ok view = tt
