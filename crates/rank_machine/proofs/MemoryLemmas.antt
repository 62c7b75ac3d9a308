-- What a change of a rank's bytes is for the memory that its program sees.
use Rattle.std.proofs.Common.{◌≡◌, ℕ, ◌+◌, ◌-◌, ◌<◌, ◌≤◌, ◌∙◌, inl, inr, List, ◌++◌, length, take, drop, replicate, sym, ap, subst, arith, append_assoc, length-append, length-drop, Option, Result, Ok, Err, OnOk, OnErr}
use Rattle.std.proofs.lemmas.List.{take-take, drop-take, drop-append-le, take_at, length-take-le, length-replicate}
use Rattle.rank_range.specs.Layout.{base_of, globals_start, heap_start, stack_start, range_bytes, IsRange, Accessible}
use Rattle.rank_range.specs.Parts.{part, with_part, StayBeside}
use Rattle.rank_range.specs.Nodes.{blocks_of}
use Rattle.rank_range.specs.Areas.{Areas, Memory, areas_of, memory_of}
use Rattle.rank_range.specs.declared.heap.Block.{Block}
use Rattle.rank_range.proofs.FitLemmas.{blocks_stay}
use Rattle.rank_range.proofs.AccessLemmas.{areas_alike}
use Rattle.rank_range.proofs.PartLemmas.{part_length, part_stays, put_beside, put_length}
use Rattle.vm_code.specs.Memory.{with_frame, cut_to, stack_top, written_or_kept}
use Rattle.rank_machine.specs.View.{record_place}
use Rattle.rank_machine.specs.Steps.{where_ok}
use Rattle.rank_machine.proofs.AccessLemmas.{seen}

same_seen : (a b : Areas) (xs ys : List Block) → a ≡ b → xs ≡ ys → seen a xs ≡ seen b ys
same_seen a b xs ys areas blocks = ap (λ (z : Areas). seen z xs) areas ∙ ap (seen b) blocks

-- a change in the control stack
pub memory_beside : (rank top number : ℕ) (old new : List ℕ) → number < 256 → length new ≡ length old
    → StayBeside old new (record_place number) (record_place number + 288) → memory_of rank top new ≡ memory_of rank top old
unfolding memory_of
memory_beside rank top number old new below whole beside =
    same_seen _ _ _ _
    (areas_alike rank top new old whole (λ i from. beside.at i (inr (omega (arith, from, below)))))
    (blocks_stay rank old new (λ i apart. beside.at i (elim apart [
      | inl before ↦ inl (omega (arith, before))
      | inr both ↦ (let from = both.0 in inr (omega (arith, from, below)))
    ])))

abbrev pub areas_with : ℕ → List ℕ → List ℕ → List ℕ → Areas
areas_with rank globals heap stack = record { rank = rank; globals = globals; heap = heap; stack = stack }

same_parts : (rank : ℕ) (g g' h h' s s' : List ℕ) → g ≡ g' → h ≡ h' → s ≡ s' → areas_with rank g h s ≡ areas_with rank g' h' s'
same_parts rank g g' h h' s s' globals heap stack =
    ap (λ (x : List ℕ). areas_with rank x h s) globals ∙ ap (λ (x : List ℕ). areas_with rank g' x s) heap ∙ ap (areas_with rank g' h') stack

-- ---- a frame is pushed

-- a part with as many bytes behind it as were put there
part_grows : (bytes new : List ℕ) (start top : ℕ) → start ≤ top → top + length new ≤ length bytes
    → part (with_part bytes top new) start (top - start + length new) ≡ part bytes start (top - start) ++ new
unfolding part with_part
part_grows bytes new start top from room =
    let front : length (take top bytes) ≡ top = length-take-le top bytes (omega (arith, room)) in
    let rest = drop (top + length new) bytes in
    let low = drop start (take top bytes) in
    let size : length low ≡ top - start = length-drop start (take top bytes) ∙ ap (λ (n : ℕ). n - start) front in
    let parts : start + (top - start) ≡ top = omega (arith, from) in
    let stack : low ≡ take (top - start) (drop start bytes) =
    ap (λ (n : ℕ). drop start (take n bytes)) (sym parts) ∙ drop-take start (top - start) bytes in
    ap (take (top - start + length new)) (drop-append-le start (take top bytes) (new ++ rest) (omega (arith, front, from)) ∙ sym (append_assoc low new rest))
    ∙ take_at (low ++ new) rest (top - start + length new) (length-append low new ∙ ap (λ (n : ℕ). n + length new) size)
    ∙ ap (λ (xs : List ℕ). xs ++ new) stack

pub frame_pushed : (rank top size : ℕ) (old new : List ℕ) → IsRange top old → top + size ≤ range_bytes
    → new ≡ with_part old (base_of rank + top - base_of rank) (replicate size 0) → memory_of rank (top + size) new ≡ with_frame (memory_of rank top old) size
unfolding memory_of areas_of with_frame
frame_pushed rank top size old new range room put =
    let none : ℕ = 0 in
    let zeros : List ℕ = replicate size none in
    let count : length zeros ≡ size = length-replicate size none in
    let whole = range.whole in
    let above = range.above in
    let place : base_of rank + top - base_of rank ≡ top = omega arith in
    let is : new ≡ with_part old top zeros = put ∙ ap (λ (at : ℕ). with_part old at zeros) place in
    let fits : top + length zeros ≤ length old = omega (arith, count, room, whole) in
    let same : length new ≡ length old = ap length is ∙ put_length old zeros top fits in
    let beside : StayBeside old new top range_bytes =
    subst (λ (bytes : List ℕ). StayBeside old bytes top range_bytes) (sym is) (put_beside old zeros top top range_bytes fits (omega arith) (omega (arith, count, room))) in
    let long : top + size - stack_start ≡ top - stack_start + length zeros = omega (arith, count, above) in
    same_seen _ _ _ _
    (same_parts rank _ _ _ _ _ _
    (part_stays old new top range_bytes globals_start (heap_start - globals_start) beside same (omega (arith, whole)) (inl (omega (arith, above))))
    (part_stays old new top range_bytes heap_start (stack_start - heap_start) beside same (omega (arith, whole)) (inl (omega (arith, above))))
    (ap (part new stack_start) long ∙ ap (λ (bytes : List ℕ). part bytes stack_start (top - stack_start + length zeros)) is
    ∙ part_grows old zeros stack_start top above fits))
    (blocks_stay rank old new (λ i apart. beside.at i (inl (elim apart [
      | inl before ↦ omega (arith, before, above)
      | inr both ↦ (let below = both.1 in omega (arith, below, above))
    ]))))

pub frame_beside : (rank top size : ℕ) (old new : List ℕ) → IsRange top old → top + size ≤ range_bytes
    → new ≡ with_part old (base_of rank + top - base_of rank) (replicate size 0) → StayBeside old new top range_bytes × (length new ≡ length old)
frame_beside rank top size old new range room put =
    let none : ℕ = 0 in
    let zeros : List ℕ = replicate size none in
    let count : length zeros ≡ size = length-replicate size none in
    let whole = range.whole in
    let place : base_of rank + top - base_of rank ≡ top = omega arith in
    let is : new ≡ with_part old top zeros = put ∙ ap (λ (at : ℕ). with_part old at zeros) place in
    let fits : top + length zeros ≤ length old = omega (arith, count, room, whole) in (
      subst (λ (bytes : List ℕ). StayBeside old bytes top range_bytes) (sym is) (put_beside old zeros top top range_bytes fits (omega arith) (omega (arith, count, room))),
      ap length is ∙ put_length old zeros top fits,
    )

-- the place of a frame is accessible once the top is behind it
pub frame_accessible : (rank top size : ℕ) → stack_start ≤ top → Accessible rank (top + size) (base_of rank + top) size
frame_accessible rank top size above = inr (inr (λ i below. (omega (arith, above), omega (arith, below))))

pub filled : {X E : Type 0} (r : Result X E) (A P : Type 0) → A → OnOk r P → OnErr r (A → ⊥) → P
filled (Ok x) A P there ok refused = ok
filled (Err e) A P there ok refused = absurd (refused there)

-- ---- a frame is taken away

pub frame_cut : (rank top finish : ℕ) (bytes : List ℕ) → finish ≤ top → memory_of rank finish bytes ≡ cut_to (memory_of rank top bytes) finish
unfolding memory_of areas_of cut_to part
frame_cut rank top finish bytes below =
    let short : finish - stack_start ≤ top - stack_start = omega (arith, below) in
    ap (λ (stack : List ℕ). seen (areas_with rank (part bytes globals_start (heap_start - globals_start)) (part bytes heap_start (stack_start - heap_start)) stack) (blocks_of rank bytes))
    (sym (take-take (finish - stack_start) (top - stack_start) (drop stack_start bytes) short))

-- where the data stack ends
pub top_is : (rank top : ℕ) (bytes : List ℕ) → IsRange top bytes → stack_top (memory_of rank top bytes) ≡ top
unfolding memory_of areas_of
top_is rank top bytes range =
    let whole = range.whole in
    let above = range.above in
    let below = range.below in
    let size = part_length bytes stack_start (top - stack_start) (omega (arith, whole, above, below)) in
    omega (arith, size, above)

-- ---- an argument is stored

pub stored_or_kept : {X E : Type 0} (r : Result X E) (o : Option Memory) (rank top : ℕ) (old new : List ℕ) → o ≡ where_ok r (memory_of rank top new)
    → OnErr r (new ≡ old) → memory_of rank top new ≡ written_or_kept o (memory_of rank top old)
stored_or_kept (Ok x) o rank top old new is same = sym (ap (λ (m : Option Memory). written_or_kept m (memory_of rank top old)) is)
stored_or_kept (Err e) o rank top old new is same =
    ap (memory_of rank top) same ∙ sym (ap (λ (m : Option Memory). written_or_kept m (memory_of rank top old)) is)
