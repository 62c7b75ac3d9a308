-- Writing bytes, or not, and what that leaves.
use Rattle.std.proofs.Common.{◌≡◌, ℕ, zero, suc, ◌+◌, ◌-◌, ◌<◌, ◌≤◌, inl, inr, List, [], ◌∷◌, length, drop, get_or, refl, ap, sym, subst, ◌∙◌, arith, Bool, Option, Result, Ok, Err}
use Rattle.std.specs.Prelude.{slice_index, unwrap_or, OnOk, OnErr}
use Rattle.rank_range.specs.Layout.{Accessible, IsRange, MarksChanges, base_of, globals_start, page_of}
use Rattle.rank_range.specs.Parts.{with_part, StayBeside}
use Rattle.rank_range.specs.Nodes.{blocks_of}
use Rattle.rank_range.specs.Areas.{Areas, areas_of}
use Rattle.rank_range.proofs.PartLemmas.{put_beside, put_length, put_none}
use Rattle.rank_range.proofs.AccessLemmas.{becomes, refused}
use Rattle.rank_range.proofs.ChangeLemmas.{beside_both, keeps_both}
use Rattle.mpi_types.specs.declared.call.Write.{Write}
use Rattle.mpi_rules.specs.Places.{written, written_one}
use Rattle.mpi_call.specs.Written.{Leaves}

-- ---- both ways in which a call ends

pub ok_both : {X E : Type 0} (r : Result X E) (A B : Type 0) → OnOk r A → OnOk r B → OnOk r (A × B)
ok_both (Ok x) A B a b = (a, b)
ok_both (Err e) A B a b = a

pub err_both : {X E : Type 0} (r : Result X E) (A B : Type 0) → OnErr r A → OnErr r B → OnErr r (A × B)
err_both (Ok x) A B a b = a
err_both (Err e) A B a b = (a, b)

pub either_way : {X E : Type 0} (r : Result X E) (A B R : Type 0) → OnOk r A → OnErr r B → (A → R) → (B → R) → R
either_way (Ok x) A B R a b f g = f a
either_way (Err e) A B R a b f g = g b

-- ---- the areas

pub areas_put : (rank top a : ℕ) (old new bytes : List ℕ) → IsRange top old → Accessible rank top a (length bytes)
    → new ≡ with_part old (a - base_of rank) bytes → areas_of rank top new ≡ written_one (areas_of rank top old) a bytes
unfolding written_one
areas_put rank top a old new bytes range all is =
    sym (ap (λ (o : Option Areas). unwrap_or o (areas_of rank top old)) (becomes rank top a old new bytes range all is).areas_are)

pub areas_kept : (rank top a : ℕ) (old new bytes : List ℕ) → IsRange top old → (Accessible rank top a (length bytes) → ⊥)
    → new ≡ old → areas_of rank top new ≡ written_one (areas_of rank top old) a bytes
unfolding written_one
areas_kept rank top a old new bytes range never same =
    ap (areas_of rank top) same ∙ sym (ap (λ (o : Option Areas). unwrap_or o (areas_of rank top old)) (refused rank top a old bytes range never))

pub areas_at : (r rank t top : ℕ) (new : List ℕ) (areas : Areas) → r ≡ rank → t ≡ top → areas_of rank top new ≡ areas → areas_of r t new ≡ areas
areas_at r rank t top new areas same_rank same_top is =
    ap (λ (x : ℕ). areas_of x t new) same_rank ∙ ap (λ (x : ℕ). areas_of rank x new) same_top ∙ is

-- ---- what is left

ends_below : (rank top a n : ℕ) (bytes : List ℕ) → IsRange top bytes → Accessible rank top a (suc n)
    → (base_of rank + globals_start ≤ a) × (a + n < base_of rank + top)
ends_below rank top a n bytes range (inl all) =
    let first = (all 0 (omega arith)).0 in
    let last = (all n (omega arith)).1 in
    let above = range.above in
    (omega (arith, first), omega (arith, last, above))
ends_below rank top a n bytes range (inr (inl all)) =
    let first = (all 0 (omega arith)).0 in
    let last = (all n (omega arith)).1 in
    let above = range.above in
    (omega (arith, first), omega (arith, last, above))
ends_below rank top a n bytes range (inr (inr all)) =
    let first = (all 0 (omega arith)).0 in
    let last = (all n (omega arith)).1 in
    (omega (arith, first), omega (arith, last))

-- each byte beside, how many there are, and the blocks
record Stays (rank top : ℕ) (old new : List ℕ) : Type 0 where
  beside : StayBeside old new globals_start top
  whole : length new ≡ length old
  blocks : blocks_of rank new ≡ blocks_of rank old

stays_same : (rank top : ℕ) (old new : List ℕ) → new ≡ old → Stays rank top old new
stays_same rank top old new same =
    record {
      beside = record { at = λ i apart. ap (λ (xs : List ℕ). slice_index xs i) same };
      whole = ap length same;
      blocks = ap (blocks_of rank) same;
    }

stays_put : (rank top a : ℕ) (old new bytes : List ℕ) → IsRange top old → Accessible rank top a (length bytes)
    → new ≡ with_part old (a - base_of rank) bytes → Stays rank top old new
stays_put rank top a old new [] range all is = stays_same rank top old new (is ∙ put_none old (a - base_of rank))
stays_put rank top a old new (b ∷ bs) range all is =
    let ends = ends_below rank top a (length bs) old range all in
    let low = ends.0 in
    let high = ends.1 in
    let whole = range.whole in
    let below = range.below in
    let room : a - base_of rank + length (b ∷ bs) ≤ length old = omega (arith, low, high, whole, below) in
    let P : List ℕ → Type 0 = λ xs. StayBeside old xs globals_start top in
    record {
      beside = subst P (sym is)
          (put_beside old (b ∷ bs) (a - base_of rank) globals_start top room (omega (arith, low)) (omega (arith, low, high)));
      whole = ap length is ∙ put_length old (b ∷ bs) (a - base_of rank) room;
      blocks = (becomes rank top a old new (b ∷ bs) range all is).blocks_are;
    }

leaves_by : (r rank t top : ℕ) (old new : List ℕ) (old_marks new_marks : ℕ → Bool) → r ≡ rank → t ≡ top → Stays rank top old new
    → MarksChanges old new old_marks new_marks → Leaves rank r top t old new old_marks new_marks
leaves_by r rank t top old new old_marks new_marks same_rank same_top stays marks =
    record {
      keeps = record { owner = same_rank; stack = same_top; whole = stays.whole; marks = marks };
      beside = stays.beside;
      blocks = stays.blocks;
    }

pub leaves_put : (r rank t top a : ℕ) (old new bytes : List ℕ) (old_marks new_marks : ℕ → Bool) → r ≡ rank → t ≡ top → IsRange top old
    → Accessible rank top a (length bytes) → new ≡ with_part old (a - base_of rank) bytes → MarksChanges old new old_marks new_marks
    → Leaves rank r top t old new old_marks new_marks
leaves_put r rank t top a old new bytes old_marks new_marks same_rank same_top range all is marks =
    leaves_by r rank t top old new old_marks new_marks same_rank same_top (stays_put rank top a old new bytes range all is) marks

same_marks : (old new : List ℕ) (old_marks new_marks : ℕ → Bool) → new ≡ old → new_marks ≡ old_marks → MarksChanges old new old_marks new_marks
same_marks old new old_marks new_marks same marks =
    record {
      changed = λ page below. inl (ap (λ (xs : List ℕ). page_of xs page) same);
      kept = λ page below marked. ap (λ (ms : ℕ → Bool). ms page) marks ∙ marked;
    }

pub leaves_same : (r rank t top : ℕ) (old new : List ℕ) (old_marks new_marks : ℕ → Bool) → r ≡ rank → t ≡ top → new ≡ old
    → new_marks ≡ old_marks → Leaves rank r top t old new old_marks new_marks
leaves_same r rank t top old new old_marks new_marks same_rank same_top same marks =
    leaves_by r rank t top old new old_marks new_marks same_rank same_top (stays_same rank top old new same) (same_marks old new old_marks new_marks same marks)

pub leaves_none : (rank top : ℕ) (bytes : List ℕ) (marks : ℕ → Bool) → Leaves rank rank top top bytes bytes marks marks
leaves_none rank top bytes marks = leaves_same rank rank top top bytes bytes marks marks refl refl refl refl

pub leaves_both : (r s t : ℕ) (i j k : ℕ) (old mid new : List ℕ) (old_marks mid_marks new_marks : ℕ → Bool)
    → Leaves r s i j old mid old_marks mid_marks → Leaves s t j k mid new mid_marks new_marks → Leaves r t i k old new old_marks new_marks
leaves_both r s t i j k old mid new old_marks mid_marks new_marks one two =
    let P : ℕ → Type 0 = λ x. StayBeside mid new globals_start x in
    let Q : ℕ → Type 0 = λ x. blocks_of x new ≡ blocks_of x mid in
    record {
      keeps = keeps_both r s t i j k old mid new old_marks mid_marks new_marks one.keeps two.keeps;
      beside = beside_both old mid new globals_start i one.beside (subst P one.keeps.stack two.beside);
      blocks = subst Q one.keeps.owner two.blocks ∙ one.blocks;
    }

-- ---- one write after another

next_written : (areas next : Areas) (writes : List Write) (i : ℕ) (d : Write) → i < length writes
    → next ≡ written_one areas (get_or writes i d).address (get_or writes i d).bytes
    → written areas (drop i writes) ≡ written next (drop (suc i) writes)
unfolding written
next_written areas next [] i d below is = absurd (omega arith)
next_written areas next (w ∷ writes) zero d below is = ap (λ (x : Areas). written x writes) (sym is)
next_written areas next (w ∷ writes) (suc i) d below is = next_written areas next writes i d (omega arith) is

pub written_next : (areas next : Areas) (writes : List Write) (i : ℕ) (d : Write) → i < length writes
    → next ≡ written_one areas (get_or writes i d).address (get_or writes i d).bytes
    → written next (drop (i + 1) writes) ≡ written areas (drop i writes)
written_next areas next writes i d below is =
    let one : i + 1 ≡ suc i = omega arith in
    ap (λ (k : ℕ). written next (drop k writes)) one ∙ sym (next_written areas next writes i d below is)

pub written_none : (areas : Areas) (writes : List Write) (i : ℕ) → length writes ≤ i → written areas (drop i writes) ≡ areas
unfolding written
written_none areas [] zero h = refl
written_none areas [] (suc i) h = refl
written_none areas (w ∷ writes) zero h = absurd (omega arith)
written_none areas (w ∷ writes) (suc i) h = written_none areas writes i (omega arith)
