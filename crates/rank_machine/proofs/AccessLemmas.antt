-- What an access leaves, told by the areas that it makes.
use Rattle.std.proofs.Common.{◌≡◌, ℕ, ◌≤◌, ◌∙◌, inl, inr, Bool, List, length, refl, sym, ap, subst, arith, Option, Some, None, Result, Ok, Err, OnOk, OnErr}
use Rattle.std.specs.Prelude.{option_map, option_and_then, replicate}
use Rattle.rank_range.specs.Layout.{MarksChanges, IsMarked, page_of, globals_start}
use Rattle.rank_range.specs.Parts.{StayBeside}
use Rattle.rank_range.specs.Nodes.{HasHeap, HeapBytesStay}
use Rattle.rank_range.specs.Areas.{Areas, Memory, Becomes, areas_of, memory_of, bytes_at, with_bytes_at, copied_at, with_number_of}
use Rattle.rank_range.specs.Numbers.{bytes_in}
use Rattle.rank_range.specs.Kinds.{width_of}
use Rattle.rank_range.specs.declared.kinds.Kind.{Kind}
use Rattle.rank_range.specs.declared.width.Width.{Width}
use Rattle.rank_range.specs.declared.heap.Block.{Block}
use Rattle.vm_code.specs.Memory.{with_areas_of, stored, copied, zeroed}
use Rattle.isomalloc.proofs.Top.{others_keep}
use Rattle.rank_machine.specs.View.{frames_of}
use Rattle.rank_machine.specs.Steps.{Kept, where_ok}
use Rattle.rank_machine.proofs.FrameLemmas.{frames_beside}

abbrev pub seen : Areas → List Block → Memory
seen areas blocks = record { areas = areas; blocks = blocks }

-- the memory with the areas that were made
became : (rank top : ℕ) (old new : List ℕ) (areas : Option Areas) → Becomes rank top old new areas
    → option_map (with_areas_of (memory_of rank top old)) areas ≡ Some (memory_of rank top new)
unfolding memory_of
became rank top old new areas b =
    ap (option_map (with_areas_of (memory_of rank top old))) b.areas_are
    ∙ ap (λ (blocks : List Block). Some (seen (areas_of rank top new) blocks)) (sym b.blocks_are)

pub made_areas : {X E : Type 0} (r : Result X E) (rank top : ℕ) (old new : List ℕ) (areas : Option Areas)
    → OnOk r (Becomes rank top old new areas) → OnErr r (areas ≡ None)
    → option_map (with_areas_of (memory_of rank top old)) areas ≡ where_ok r (memory_of rank top new)
made_areas (Ok x) rank top old new areas ok refused = became rank top old new areas ok
made_areas (Err e) rank top old new areas ok refused = ap (option_map (with_areas_of (memory_of rank top old))) refused

pub made_frames : {X E : Type 0} (r : Result X E) (rank top : ℕ) (old new : List ℕ) (areas : Option Areas)
    → OnOk r (Becomes rank top old new areas) → OnErr r (new ≡ old)
    → (limit k : ℕ) → k ≤ 256 → frames_of new limit k ≡ frames_of old limit k
made_frames (Ok x) rank top old new areas ok same limit k few = frames_beside old new globals_start _ (omega arith) ok.beside limit k few
made_frames (Err e) rank top old new areas ok same limit k few = ap (λ (bytes : List ℕ). frames_of bytes limit k) same

-- the heap stays where the bytes before the globals stay
pub heap_stays : (rank owner : ℕ) (old new : List ℕ) → owner ≡ rank → HeapBytesStay old new → HasHeap rank old → HasHeap owner new
heap_stays rank owner old new same stay heap =
    subst (λ (r : ℕ). HasHeap r new) (sym same) (others_keep rank old new stay heap)

pub kept_same : (rank owner : ℕ) (old new : List ℕ) (marks new_marks : ℕ → Bool) → owner ≡ rank → new ≡ old → new_marks ≡ marks
    → Kept rank owner old new marks new_marks
kept_same rank owner old new marks new_marks same bytes mark = record {
  owner = same;
  whole = ap length bytes;
  marks = record {
    changed = λ page below. inl (ap (λ (xs : List ℕ). page_of xs page) bytes);
    kept = λ page below marked. subst (λ (m : ℕ → Bool). IsMarked m page) (sym mark) marked;
  };
  heap = λ heap. subst (λ (r : ℕ). HasHeap r new) (sym same) (subst (HasHeap rank) (sym bytes) heap);
}

pub kept_beside : (rank owner low high : ℕ) (old new : List ℕ) (marks new_marks : ℕ → Bool) → owner ≡ rank → length new ≡ length old
    → MarksChanges old new marks new_marks → globals_start ≤ low → StayBeside old new low high → Kept rank owner old new marks new_marks
kept_beside rank owner low high old new marks new_marks same whole changes from beside = record {
  owner = same;
  whole = whole;
  marks = changes;
  heap = heap_stays rank owner old new same (λ i apart. beside.at i (inl (elim apart [
    | inl before ↦ omega (arith, before, from)
    | inr both ↦ (let below = both.1 in omega (arith, below, from))
  ])));
}

pub made_kept : {X E : Type 0} (r : Result X E) (rank owner top : ℕ) (old new : List ℕ) (marks new_marks : ℕ → Bool) (areas : Option Areas)
    → OnOk r (Becomes rank top old new areas) → OnErr r (new ≡ old) → OnErr r (new_marks ≡ marks)
    → OnOk r (MarksChanges old new marks new_marks) → owner ≡ rank → Kept rank owner old new marks new_marks
made_kept (Ok x) rank owner top old new marks new_marks areas ok same same_marks changes owned =
    kept_beside rank owner globals_start _ old new marks new_marks owned ok.whole changes (omega arith) ok.beside
made_kept (Err e) rank owner top old new marks new_marks areas ok same same_marks changes owned =
    kept_same rank owner old new marks new_marks owned same same_marks

-- ---- what the definitions say of an access

pub stored_is : {X E : Type 0} (r : Result X E) (rank top : ℕ) (old new : List ℕ) (kind : Kind) (width : Width) (a word : ℕ) → width ≡ width_of kind
    → OnOk r (Becomes rank top old new (with_number_of (areas_of rank top old) a (bytes_in width) word))
    → OnErr r (with_number_of (areas_of rank top old) a (bytes_in width) word ≡ None)
    → stored (memory_of rank top old) kind a word ≡ where_ok r (memory_of rank top new)
unfolding stored memory_of
stored_is r rank top old new kind width a word is ok refused =
    ap (λ (w : Width). option_map (with_areas_of (memory_of rank top old)) (with_number_of (areas_of rank top old) a (bytes_in w) word)) (sym is)
    ∙ made_areas r rank top old new (with_number_of (areas_of rank top old) a (bytes_in width) word) ok refused

by_bytes : (m : Memory) (o : Option (List ℕ)) (put : List ℕ → Option Areas)
    → elim o [ None ↦ None | Some bytes ↦ option_map (with_areas_of m) (put bytes) ] ≡ option_map (with_areas_of m) (option_and_then put o)
by_bytes m None put = refl
by_bytes m (Some bytes) put = refl

pub copied_is : {X E : Type 0} (r : Result X E) (rank top : ℕ) (old new : List ℕ) (target source n : ℕ)
    → OnOk r (Becomes rank top old new (copied_at (areas_of rank top old) target source n))
    → OnErr r (copied_at (areas_of rank top old) target source n ≡ None)
    → copied (memory_of rank top old) target source n ≡ where_ok r (memory_of rank top new)
unfolding copied memory_of copied_at
copied_is r rank top old new target source n ok refused =
    by_bytes (memory_of rank top old) (bytes_at (areas_of rank top old) source n) (with_bytes_at (areas_of rank top old) target)
    ∙ made_areas r rank top old new (copied_at (areas_of rank top old) target source n) ok refused

pub zeroed_is : {X E : Type 0} (r : Result X E) (rank top : ℕ) (old new : List ℕ) (a n : ℕ)
    → OnOk r (Becomes rank top old new (with_bytes_at (areas_of rank top old) a (replicate n 0)))
    → OnErr r (with_bytes_at (areas_of rank top old) a (replicate n 0) ≡ None)
    → zeroed (memory_of rank top old) a n ≡ where_ok r (memory_of rank top new)
unfolding zeroed memory_of
zeroed_is r rank top old new a n ok refused =
    made_areas r rank top old new (with_bytes_at (areas_of rank top old) a (replicate n 0)) ok refused
