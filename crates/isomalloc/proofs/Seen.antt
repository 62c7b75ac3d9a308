-- What the calls do to the memory that a program sees.
use Rattle.std.proofs.Common.{◌≡◌, ◌≢◌, ℕ, ◌+◌, ◌-◌, ◌∙◌, inl, inr, Bool, List, [], length, slice_index, replicate, sym, ap, subst, arith, Some, None, Result, Ok, Err, OnOk, OnErr}
use Rattle.std.specs.Prelude.{if◌then◌else◌, ◌==◌}
use Rattle.std.proofs.lemmas.Bool.Decides.{eqb_tells}
use Rattle.rank_range.specs.Layout.{base_of, range_bytes, descriptors_start, IsRange}
use Rattle.rank_range.specs.Parts.{StayBeside}
use Rattle.rank_range.specs.Heap.{Fits, IsFirstFit, IsLive, rounded, with_block, without}
use Rattle.rank_range.specs.Nodes.{HasHeap, SpellsBlocks, blocks_of}
use Rattle.rank_range.specs.Areas.{Areas, Memory, areas_of, memory_of, put_at, take_block, give_block}
use Rattle.rank_range.specs.declared.heap.Block.{Block}
use Rattle.rank_range.proofs.FitLemmas.{are_spelled, computed, live_yes, live_no}
use Rattle.rank_range.proofs.AccessLemmas.{zeros_are, areas_alike}
use Rattle.isomalloc.specs.Heap.{BytesStay, OthersStay, IsCleared, AreZero}
use Rattle.isomalloc.proofs.Top.{has_heap}

abbrev seen : Areas → List Block → Memory
seen areas blocks = record { areas = areas; blocks = blocks }

-- where a first fit is an address, it is a fit
fit_of : (rank : ℕ) (blocks : List Block) (size a : ℕ) → IsFirstFit rank blocks size a → a ≢ 0 → Fits rank blocks size a
fit_of rank blocks size a (inl x) some = x.1
fit_of rank blocks size a (inr x) some = absurd (some x.0)

pub taken_is : (rank top size a : ℕ) (old new : List ℕ) → IsRange top old → length new ≡ length old
    → IsFirstFit rank (blocks_of rank old) size a
    → (a ≡ 0 → new ≡ old)
    → (a ≢ 0 → SpellsBlocks rank new (with_block (record { address = a; length = rounded size }) (blocks_of rank old)))
    → (a ≢ 0 → AreZero new (a - base_of rank) (rounded size))
    → BytesStay old new (a - base_of rank) (a - base_of rank + rounded size)
    → take_block size (memory_of rank top old) ≡ (a, memory_of rank top new)
unfolding take_block memory_of areas_of
taken_is rank top size a old new range same fit none taken zero stays =
    let blocks = blocks_of rank old in
    let before = memory_of rank top old in
    let after : ℕ → Memory = λ f.
    seen (put_at (areas_of rank top old) f (replicate (rounded size) 0)) (with_block (record { address = f; length = rounded size }) blocks) in
    let answer : ℕ → ℕ × Memory = λ f. if f == 0 then (0, before) else (f, after f) in
    ap answer (computed rank blocks size a fit)
    ∙ elim (eqb_tells a 0) [
      | inl t ↦
          ap (λ (b : Bool). if b then (0, before) else (a, after a)) t.0
          ∙ ap (λ (k : ℕ). (k, before)) (sym t.1)
          ∙ ap (λ (bytes : List ℕ). (a, memory_of rank top bytes)) (sym (none t.1))
      | inr t ↦
          let f = fit_of rank blocks size a fit t.1 in
          let from = f.from in
          let areas = zeros_are rank top a (rounded size) old new range f.from f.to same (zero t.1)
          (λ i low apart. stays i (omega (arith, low)) (inr low) apart) in
          let live = are_spelled rank new _ (taken t.1) in
          ap (λ (b : Bool). if b then (0, before) else (a, after a)) t.0
          ∙ ap (λ (xs : Areas). (a, seen xs (with_block (record { address = a; length = rounded size }) blocks))) areas
          ∙ ap (λ (bs : List Block). (a, seen (areas_of rank top new) bs)) live
    ]

-- the heap behind a call
pub heap_taken : (rank owner size a : ℕ) (old new : List ℕ) → owner ≡ rank → HasHeap rank old → (a ≡ 0 → new ≡ old)
    → (a ≢ 0 → SpellsBlocks rank new (with_block (record { address = a; length = rounded size }) (blocks_of rank old)))
    → HasHeap owner new
heap_taken rank owner size a old new same heap none taken =
    let P : ℕ → Type 0 = λ r. HasHeap r new in
    let here : HasHeap rank new =
    elim (eqb_tells a 0) [
      | inl t ↦ subst (HasHeap rank) (sym (none t.1)) heap
      | inr t ↦ has_heap rank new _ (taken t.1)
    ] in
    subst P (sym same) here

given_is : (rank top address : ℕ) (old new : List ℕ) → length new ≡ length old → IsLive address (blocks_of rank old)
    → SpellsBlocks rank new (without address (blocks_of rank old)) → BytesStay old new 0 0
    → give_block address (memory_of rank top old) ≡ Some (memory_of rank top new)
unfolding give_block memory_of
given_is rank top address old new same live spelled stays =
    let blocks = blocks_of rank old in
    let areas = areas_alike rank top old new (sym same) (λ i low. sym (stays i (omega (arith, low)) (inr low) (inr (omega arith)))) in
    ap (λ (b : Bool). if b then Some (seen (areas_of rank top old) (without address blocks)) else None) (live_yes address blocks live)
    ∙ ap (λ (xs : Areas). Some (seen xs (without address blocks))) areas
    ∙ ap (λ (bs : List Block). Some (seen (areas_of rank top new) bs)) (are_spelled rank new _ spelled)

refused_is : (rank top address : ℕ) (old : List ℕ) → (IsLive address (blocks_of rank old) → ⊥)
    → give_block address (memory_of rank top old) ≡ None
unfolding give_block memory_of
refused_is rank top address old dead =
    let blocks = blocks_of rank old in
    ap (λ (b : Bool). if b then Some (seen (areas_of rank top old) (without address blocks)) else None) (live_no address blocks dead)

-- by cases of the answer
pub on_given : {X E : Type 0} (r : Result X E) (rank top address : ℕ) (old new : List ℕ) → length new ≡ length old → BytesStay old new 0 0
    → OnOk r (IsLive address (blocks_of rank old)) → OnOk r (SpellsBlocks rank new (without address (blocks_of rank old)))
    → OnOk r (give_block address (memory_of rank top old) ≡ Some (memory_of rank top new))
on_given (Ok x) rank top address old new same stays live spelled = given_is rank top address old new same live spelled stays
on_given (Err e) rank top address old new same stays live spelled = tt

pub on_refused : {X E : Type 0} (r : Result X E) (rank top address : ℕ) (old : List ℕ) → OnErr r (IsLive address (blocks_of rank old) → ⊥)
    → OnErr r (give_block address (memory_of rank top old) ≡ None)
on_refused (Ok x) rank top address old dead = tt
on_refused (Err e) rank top address old dead = refused_is rank top address old dead

pub heap_given : {X E : Type 0} (r : Result X E) (rank owner address : ℕ) (old new : List ℕ) → owner ≡ rank → HasHeap rank old
    → OnErr r (new ≡ old) → OnOk r (SpellsBlocks rank new (without address (blocks_of rank old))) → HasHeap owner new
heap_given (Ok x) rank owner address old new same heap none given =
    subst (λ (k : ℕ). HasHeap k new) (sym same) (has_heap rank new _ given)
heap_given (Err e) rank owner address old new same heap none given =
    subst (λ (k : ℕ). HasHeap k new) (sym same) (subst (HasHeap rank) (sym none) heap)

-- ---- a new heap

pub cleared : (b0 b1 b2 : List ℕ) → AreZero b1 0 4096 → StayBeside b1 b2 descriptors_start (descriptors_start + 131072)
    → AreZero b2 descriptors_start 131072 → length b2 ≡ range_bytes → IsCleared b2
cleared b0 b1 b2 header stay nodes whole = record {
  whole = whole;
  header = λ i below.
      let place : i ≡ 0 + i = omega arith in
      stay.at i (inl (omega (arith, below))) ∙ ap (slice_index b1) place ∙ header i below;
  nodes = nodes;
}

pub others_stay : (b0 b1 b2 b3 : List ℕ) → StayBeside b0 b1 0 4096 → StayBeside b1 b2 descriptors_start (descriptors_start + 131072)
    → BytesStay b2 b3 0 0 → OthersStay b0 b3
others_stay b0 b1 b2 b3 first second third i low apart =
    third i (omega (arith, low)) apart (inr (omega arith))
    ∙ second.at i (elim apart [ inl before ↦ inl before | inr behind ↦ inr (omega (arith, behind)) ])
    ∙ first.at i (inr low)

pub none_live : (rank owner : ℕ) (new : List ℕ) → owner ≡ rank → SpellsBlocks rank new [] → blocks_of owner new ≡ []
none_live rank owner new same spelled = ap (λ (k : ℕ). blocks_of k new) same ∙ sym (are_spelled rank new [] spelled)
