-- Drains: their entries are steps, and where one ends no step is possible.
use Rattle.std.proofs.Common.{ℕ, zero, suc, ◌≡◌, ◌+◌, ◌<◌, ◌≤◌, List, [], ◌∷◌, ◌++◌, refl, sym, ap, ◌∙◌, subst, arith}
use Rattle.std.proofs.Common.{inl, inr}
use Rattle.std.proofs.lemmas.Bool.Decides.{eqb_tells}
use Rattle.std.proofs.lemmas.List.{append-nil}
use Rattle.std.specs.Prelude.{replicate}
use Rattle.std.specs.List.{range_with_len}
use Rattle.mpi_types.specs.declared.entries.Entry.{Entry}
use Rattle.mpi_types.specs.declared.entries.Entry.TheVariants.{Tick, Match, Gather, Commit}
use Rattle.w_model.specs.World.{Setting, World, MayTick, IsStep, after, after_all, world_of, IsLegalFrom, start_world}
use Rattle.w_model.specs.Cut.{rank_numbers, HasNoMark, cut, before_cut, released_from, released_at}
use Rattle.w_model.specs.Whole.{MarkedDrainsAreWhole}
use Rattle.w_model.specs.Drain.{tick_of, IsRunOf, IsRound, IsDrain, last, more, ticks_in_round, DrainsAreWhole}

pub after_all-append : (w : World) (xs ys : List Entry) → after_all w (xs ++ ys) ≡ after_all (after_all w xs) ys
after_all-append w [] ys = refl
after_all-append w (e ∷ xs) ys = after_all-append (after w e) xs ys

pub IsLegalFrom-append : (s : Setting) (w : World) (xs ys : List Entry)
    → IsLegalFrom s w xs → IsLegalFrom s (after_all w xs) ys → IsLegalFrom s w (xs ++ ys)
IsLegalFrom-append s w [] ys first rest = rest
IsLegalFrom-append s w (e ∷ xs) ys first rest = (first.0, IsLegalFrom-append s (after w e) xs ys first.1 rest)

pub HasNoMark-append : (xs ys : List Entry) → HasNoMark xs → HasNoMark ys → HasNoMark (xs ++ ys)
HasNoMark-append [] ys first rest = rest
HasNoMark-append (e ∷ xs) ys first rest = (first.0, HasNoMark-append xs ys first.1 rest)

ticks-unmarked : (n r : ℕ) → HasNoMark (replicate n (tick_of r))
ticks-unmarked zero r = tt
ticks-unmarked (suc n) r = (refl, ticks-unmarked n r)

run-unmarked : (s : Setting) (w : World) (r k : ℕ) (added : List Entry) → IsRunOf s w r k added → HasNoMark added
run-unmarked s w r k added run = rw run.added_is (ticks-unmarked run.ticks r)

round-legal : (s : Setting) (w : World) (rs : List ℕ) (added : List Entry) → IsRound s w rs added → IsLegalFrom s w added × HasNoMark added
round-legal s w [] added none = rw none (tt, tt)
round-legal s w (r ∷ rs) added (first, rest, whole, run, others) =
    let tail = round-legal s (after_all w first) rs rest others in
    rw whole (
      IsLegalFrom-append s w first rest run.allowed tail.0,
      HasNoMark-append first rest (run-unmarked s w r ticks_in_round first run) tail.1,
    )

pub drain-legal : (s : Setting) (w : World) (added : List Entry) → IsDrain s w added → IsLegalFrom s w added × HasNoMark added
drain-legal s _ _ (last w round) = (tt, tt)
drain-legal s _ _ (more w round rest is some others) =
    let head = round-legal s w (rank_numbers s) round is in
    let tail = drain-legal s (after_all w round) rest others in
    (IsLegalFrom-append s w round rest head.0 tail.0, HasNoMark-append round rest head.1 tail.1)

nil-append : {X : Type 0} (xs ys : List X) → [] ≡ xs ++ ys → (xs ≡ []) × (ys ≡ [])
nil-append [] ys e = (refl, sym e)
nil-append (x ∷ xs) ys e = cc

no_ticks : (n r : ℕ) → [] ≡ replicate n (tick_of r) → n ≡ 0
no_ticks zero r e = refl
no_ticks (suc n) r e = cc

-- where a round adds nothing, no rank of it may tick
round-stuck : (s : Setting) (w : World) (start count : ℕ) → IsRound s w (range_with_len start count) []
    → (r : ℕ) → start ≤ r → r < start + count → MayTick s w r → ⊥
round-stuck s w start zero round r low high may = absurd (omega arith)
round-stuck s w start (suc count) (first, rest, whole, run, others) r low high may =
    let parts = nil-append first rest whole in
    let none : run.ticks ≡ 0 = no_ticks run.ticks start (sym parts.0 ∙ run.added_is) in
    elim (eqb_tells r start) [
      | inl t ↦
          let P : List Entry → Type 0 = λ f. MayTick s (after_all w f) start in
          let Q : ℕ → Type 0 = λ q. MayTick s w q in
          run.stopped (omega arith) (subst P (sym parts.0) (subst Q t.1 may))
      | inr t ↦
          let P : List Entry → Type 0 = λ f. IsRound s (after_all w f) (range_with_len (start + 1) count) rest in
          let Q : List Entry → Type 0 = λ x. IsRound s w (range_with_len (start + 1) count) x in
          let low' : start + 1 ≤ r = omega (arith, t.1) in
          round-stuck s w (start + 1) count (subst Q parts.1 (subst P parts.0 others)) r low' (omega arith) may
    ]

stuck-at : (s : Setting) (w : World) → ((r : ℕ) → MayTick s w r → ⊥) → (e : Entry) → IsStep s w e → ⊥
stuck-at s w none (Tick r) step = none r.0 step
stuck-at s w none (Match r request sender) step = step
stuck-at s w none (Gather r) step = step
stuck-at s w none Commit step = step

drain-stuck : (s : Setting) (w : World) (added : List Entry) → IsDrain s w added → (r : ℕ) → MayTick s (after_all w added) r → ⊥
drain-stuck s _ _ (last w round) r may =
    round-stuck s w 0 s.ranks round r (omega arith) (omega (arith, may.one_of_run)) may
drain-stuck s _ _ (more w round rest is some others) r may =
    drain-stuck s (after_all w round) rest others r (rw (← after_all-append w round rest) may)

pub drain-whole : DrainsAreWhole
drain-whole s h drain =
    let legal = drain-legal s start_world h drain in
    (legal.0, stuck-at s (world_of h) (drain-stuck s start_world h drain), legal.1)

-- with a mark at its end all of a history is kept
cut-marked : (body : List Entry) → cut (body ++ Commit ∷ []) ≡ body ++ Commit ∷ []
cut-marked [] = refl
cut-marked (e ∷ body) = ap (before_cut e) (cut-marked body) ∙ before-some e body
  where
    before-some : (e : Entry) (body : List Entry) → before_cut e (body ++ Commit ∷ []) ≡ e ∷ (body ++ Commit ∷ [])
    before-some e [] = refl
    before-some e (x ∷ body) = refl

-- one mark behind unmarked entries releases all since the mark before
released-marked : (s : Setting) (marked w : World) (body : List Entry) → HasNoMark body
    → released_from s marked w (body ++ Commit ∷ []) ≡ released_at s marked (after_all w body)
released-marked s marked w [] none = append-nil (released_at s marked w)
released-marked s marked w (e ∷ body) none = rw none.0 (released-marked s marked (after w e) body none.1)

pub marked-whole : MarkedDrainsAreWhole
marked-whole s body drain =
    let whole = drain-whole s body drain in
    let same : world_of (body ++ Commit ∷ []) ≡ world_of body = after_all-append start_world body (Commit ∷ []) in
    let P : World → Type 0 = λ w. (e : Entry) → IsStep s w e → ⊥ in
    record {
      marked = record { body = body; history_is = refl; unmarked = whole.2; drained = drain };
      legal = IsLegalFrom-append s start_world body (Commit ∷ []) whole.0 (λ mark. cc, tt);
      stuck = subst P (sym same) whole.1;
      same_world = same;
      all_kept = cut-marked body;
      released = released-marked s start_world start_world body whole.2;
    }
