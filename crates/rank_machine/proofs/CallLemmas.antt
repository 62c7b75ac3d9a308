-- A call is entered, and left.
use Rattle.std.proofs.Common.{◌≡◌, ℕ, zero, suc, ◌+◌, ◌-◌, ◌^◌, ◌%◌, ◌<◌, ◌≤◌, ◌∙◌, inl, Bool, true, false, List, [], ◌∷◌, length, take, drop, reverse, replicate, refl, sym, ap, subst, arith, add-one, Option, Some, None, Result, OnOk, OnErr}
use Rattle.std.specs.Prelude.{if◌then◌else◌, nat_le, nat_lt, slice_get}
use Rattle.std.proofs.lemmas.Bool.{le-leb, lt-leb}
use Rattle.rank_range.specs.Layout.{base_of, range_bytes, stack_start, IsRange, MarksChanges, Accessible}
use Rattle.rank_range.specs.Parts.{with_part, StayBeside}
use Rattle.rank_range.specs.Areas.{Memory, memory_of, areas_of}
use Rattle.rank_range.proofs.ChangeLemmas.{marks_both}
use Rattle.am_base.specs.declared.traps.TrapCause.TheVariants.{CallDepth, DataStack}
use Rattle.vm_code.specs.declared.code.Code.{Code}
use Rattle.vm_code.specs.declared.code.Function.{Function}
use Rattle.vm_code.specs.declared.code.Parameter.{Parameter}
use Rattle.vm_code.specs.declared.instr.Instr.TheVariants.{Call, Return}
use Rattle.vm_code.specs.Memory.{with_arguments, with_frame, written_or_kept, stored, address_of, stack_top, cut_to}
use Rattle.vm_code.specs.Stops.{Ended}
use Rattle.rank_range.specs.Kinds.{value_of}
use Rattle.rank_range.specs.declared.kinds.Kind.TheVariants.{Int}
use Rattle.vm_code.specs.Machine.{Config, Frame, Moved, Went, Stuck, act, operand_limit, call_limit, left_to, with_top, at_place}
use Rattle.rank_machine.specs.declared.work.Work.{Work}
use Rattle.rank_machine.specs.declared.halt.Halt.{Halt}
use Rattle.rank_machine.specs.declared.halt.Halt.TheVariants as halt
use Rattle.rank_machine.specs.View.{Tally, record_place, in_stack, frame_at, frames_of, config_of, done_of}
use Rattle.rank_machine.specs.Steps.{Kept, Shown, On, Halted, Nowhere, shown, shown_by}
use Rattle.rank_machine.proofs.FrameLemmas.{frame_with, frames_stand}
use Rattle.rank_machine.proofs.MemoryLemmas.{frame_pushed, frame_accessible, frame_cut, filled, top_is}

pub kept_both : (r s t : ℕ) (old mid new : List ℕ) (old_marks mid_marks new_marks : ℕ → Bool) → Kept r s old mid old_marks mid_marks
    → Kept s t mid new mid_marks new_marks → Kept r t old new old_marks new_marks
kept_both r s t old mid new old_marks mid_marks new_marks first second = record {
  owner = second.owner ∙ first.owner;
  whole = second.whole ∙ first.whole;
  marks = marks_both old mid new old_marks mid_marks new_marks first.marks second.marks;
  heap = λ heap. second.heap (first.heap heap);
}

pub kept_none : (r : ℕ) (bytes : List ℕ) (marks : ℕ → Bool) → Kept r r bytes bytes marks marks
kept_none r bytes marks = record {
  owner = refl;
  whole = refl;
  marks = record { changed = λ page below. inl refl; kept = λ page below marked. marked };
  heap = λ heap. heap;
}

-- ---- arguments

-- So many arguments were stored.
pub record Stored (old_rank new_rank old_top new_top : ℕ) (old new : List ℕ) (old_marks new_marks : ℕ → Bool) (parameters : List Parameter)
    (words : List ℕ) (start i : ℕ) : Type 0 where
  pub owner : new_rank ≡ old_rank
  pub stack : new_top ≡ old_top
  pub value : with_arguments (drop i parameters) (drop i words) start (memory_of old_rank old_top new)
      ≡ with_arguments parameters words start (memory_of old_rank old_top old)
  pub frames : (limit k : ℕ) → k ≤ 256 → frames_of new limit k ≡ frames_of old limit k
  pub kept : Kept old_rank new_rank old new old_marks new_marks

pub stored_none : (r i : ℕ) (bytes : List ℕ) (marks : ℕ → Bool) (parameters : List Parameter) (words : List ℕ) (start : ℕ)
    → Stored r r i i bytes bytes marks marks parameters words start 0
stored_none r i bytes marks parameters words start =
    record { owner = refl; stack = refl; value = refl; frames = λ limit k few. refl; kept = kept_none r bytes marks }

abbrev with_argument : Parameter → ℕ → ℕ → Memory → Memory
with_argument p word start m = written_or_kept (stored m p.kind (address_of m (start + p.offset)) word) m

pub stored_more : (r s t i j l : ℕ) (old mid new : List ℕ) (old_marks mid_marks new_marks : ℕ → Bool) (ps : List Parameter) (ws : List ℕ) (start n : ℕ)
    (p : Parameter) (w : ℕ) → drop n ps ≡ p ∷ drop (n + 1) ps → drop n ws ≡ w ∷ drop (n + 1) ws
    → Stored r s i j old mid old_marks mid_marks ps ws start n
    → memory_of s j new ≡ written_or_kept (stored (memory_of s j mid) p.kind (address_of (memory_of s j mid) (start + p.offset)) w) (memory_of s j mid)
    → ((limit k : ℕ) → k ≤ 256 → frames_of new limit k ≡ frames_of mid limit k) → Kept s t mid new mid_marks new_marks → l ≡ j
    → Stored r t i l old new old_marks new_marks ps ws start (n + 1)
stored_more r s t i j l old mid new old_marks mid_marks new_marks ps ws start n p w first word before value frames kept stack =
    let owned : memory_of r j new ≡ with_argument p w start (memory_of r j mid) =
    subst (λ (x : ℕ). memory_of x j new ≡ with_argument p w start (memory_of x j mid)) before.owner value in
    let here : memory_of r i new ≡ with_argument p w start (memory_of r i mid) =
    subst (λ (x : ℕ). memory_of r x new ≡ with_argument p w start (memory_of r x mid)) before.stack owned in
    record {
      owner = kept.owner ∙ before.owner;
      stack = stack ∙ before.stack;
      value =
          ap (with_arguments (drop (n + 1) ps) (drop (n + 1) ws) start) here
          ∙ ap (λ (xs : List ℕ). with_arguments (p ∷ drop (n + 1) ps) xs start (memory_of r i mid)) (sym word)
          ∙ ap (λ (qs : List Parameter). with_arguments qs (drop n ws) start (memory_of r i mid)) (sym first)
          ∙ before.value;
      frames = λ limit k few. frames limit k few ∙ before.frames limit k few;
      kept = kept_both r s t old mid new old_marks mid_marks new_marks before.kept kept;
    }

none_left : {X : Type 0} (xs : List X) (n : ℕ) → length xs ≤ n → drop n xs ≡ []
none_left [] zero few = refl
none_left [] (suc n) few = refl
none_left (x ∷ xs) zero few = absurd (omega (arith, few))
none_left (x ∷ xs) (suc n) few = none_left xs n (omega (arith, few))

no_words : (ps : List Parameter) (start : ℕ) (m : Memory) → with_arguments ps [] start m ≡ m
no_words [] start m = refl
no_words (p ∷ ps) start m = refl

pub stored_parameters : (r t i j : ℕ) (old new : List ℕ) (old_marks new_marks : ℕ → Bool) (ps : List Parameter) (ws : List ℕ) (start n : ℕ)
    → length ps ≤ n → Stored r t i j old new old_marks new_marks ps ws start n
    → memory_of r i new ≡ with_arguments ps ws start (memory_of r i old)
stored_parameters r t i j old new old_marks new_marks ps ws start n all s =
    ap (λ (qs : List Parameter). with_arguments qs (drop n ws) start (memory_of r i new)) (sym (none_left ps n all)) ∙ s.value

pub stored_words : (r t i j : ℕ) (old new : List ℕ) (old_marks new_marks : ℕ → Bool) (ps : List Parameter) (ws : List ℕ) (start n : ℕ)
    → length ws ≤ n → Stored r t i j old new old_marks new_marks ps ws start n
    → memory_of r i new ≡ with_arguments ps ws start (memory_of r i old)
stored_words r t i j old new old_marks new_marks ps ws start n all s =
    sym (no_words (drop n ps) start (memory_of r i new))
    ∙ ap (λ (xs : List ℕ). with_arguments (drop n ps) xs start (memory_of r i new)) (sym (none_left ws n all)) ∙ s.value

pub address_is : (rank top base start offset : ℕ) (bytes : List ℕ) → base ≡ base_of rank
    → (base + start + offset) % 2 ^ 64 ≡ address_of (memory_of rank top bytes) (start + offset)
unfolding memory_of areas_of
address_is rank top base start offset bytes is =
    let e : base + start + offset ≡ base_of rank + (start + offset) = omega (arith, is) in
    ap (λ (n : ℕ). n % 2 ^ 64) e

-- ---- a frame

pub push_is : {X E : Type 0} (r : Result X E) (rank owner top mid_top size a : ℕ) (old mid new : List ℕ) → owner ≡ rank → mid ≡ old
    → mid_top ≡ top + size → a ≡ base_of rank + top → stack_start ≤ top
    → OnOk r (new ≡ with_part mid (a - base_of owner) (replicate size 0)) → OnErr r (Accessible owner mid_top a size → ⊥)
    → new ≡ with_part old (base_of rank + top - base_of rank) (replicate size 0)
push_is r rank owner top mid_top size a old mid new owned same topped place above ok refused =
    let all : Accessible rank (top + size) (base_of rank + top) size = frame_accessible rank top size above in
    let at : Accessible rank (top + size) a size = subst (λ (x : ℕ). Accessible rank (top + size) x size) (sym place) all in
    let under : Accessible rank mid_top a size = subst (λ (x : ℕ). Accessible rank x a size) (sym topped) at in
    let there : Accessible owner mid_top a size = subst (λ (x : ℕ). Accessible x mid_top a size) (sym owned) under in
    filled r (Accessible owner mid_top a size) (new ≡ with_part mid (a - base_of owner) (replicate size 0)) there ok refused
    ∙ ap (λ (x : ℕ). with_part mid (a - base_of x) (replicate size 0)) owned
    ∙ ap (λ (x : ℕ). with_part mid (x - base_of rank) (replicate size 0)) place
    ∙ ap (λ (bytes : List ℕ). with_part bytes (base_of rank + top - base_of rank) (replicate size 0)) same

pub pushed_memory : (rank top old_top size : ℕ) (old new : List ℕ) → top ≡ old_top → IsRange old_top old → top + size ≤ range_bytes
    → new ≡ with_part old (base_of rank + top - base_of rank) (replicate size 0)
    → memory_of rank (top + size) new ≡ with_frame (memory_of rank old_top old) size
pushed_memory rank top old_top size old new here range room put =
    frame_pushed rank top size old new (subst (λ (t : ℕ). IsRange t old) (sym here) range) room put
    ∙ ap (λ (t : ℕ). with_frame (memory_of rank t old) size) here

pub pushed_marks : {X E : Type 0} (r : Result X E) (A : Type 0) (old mid new : List ℕ) (old_marks mid_marks new_marks : ℕ → Bool) → A
    → OnOk r (MarksChanges mid new mid_marks new_marks) → OnErr r (A → ⊥) → mid ≡ old → mid_marks ≡ old_marks → MarksChanges old new old_marks new_marks
pushed_marks r A old mid new old_marks mid_marks new_marks there ok refused bytes marks =
    subst (λ (m : ℕ → Bool). MarksChanges old new m new_marks) marks
    (subst (λ (b : List ℕ). MarksChanges b new mid_marks new_marks) bytes (filled r A _ there ok refused))

-- ---- the calls that wait

pub callers_are : (b0 b1 : List ℕ) (limit start n back from : ℕ) (operands : List ℕ)
    → frame_at b1 limit (record_place n) ≡ frame_with back from (in_stack limit start) operands
    → StayBeside b0 b1 (record_place n) (record_place n + 288) → stack_start ≤ start → start ≤ limit
    → frames_of b1 limit (n + 1) ≡ frame_with back from start operands ∷ frames_of b0 start n
callers_are b0 b1 limit start n back from operands frame beside above below =
    let inside : in_stack limit start ≡ start = omega (arith, above, below) in
    let first : frame_at b1 limit (record_place n) ≡ frame_with back from start operands =
    frame ∙ ap (λ (f : ℕ). frame_with back from f operands) inside in
    ap (frames_of b1 limit) (add-one n)
    ∙ ap (λ (f : Frame). f ∷ frames_of b1 f.finish n) first
    ∙ ap (λ (fs : List Frame). frame_with back from start operands ∷ fs)
    (frames_stand b0 b1 start n (record_place n) (λ i at_least low. beside.at i (inl low)) (omega arith))

pub callers_count : (bytes : List ℕ) (top k : ℕ) → length (frames_of bytes top k) ≡ k + 1
callers_count bytes top zero = refl
callers_count bytes top (suc k) =
    let e : suc (k + 1) ≡ suc k + 1 = omega arith in
    ap suc (callers_count bytes (frame_at bytes top (record_place k)).finish k) ∙ e

-- ---- what a call does

abbrev taking : Tally → Tally
taking tally = record tally { left = suc tally.left }

abbrev taken : Tally → Tally
taken tally = record tally { ticks = tally.ticks + 1 }

pub call_lost_count : (code : Code) (work : Work) (rank top function count : ℕ) (bytes : List ℕ) (tally : Tally) → length work.operands < count
    → Nowhere ≡ shown (act code (Some (Call function count)) (config_of work rank top bytes (taking tally)))
unfolding act
call_lost_count code work rank top function count bytes tally few =
    let t : nat_le count (length work.operands) ≡ false = lt-leb count (length work.operands) few in
    sym (rw t refl)

pub call_lost_function : (code : Code) (work : Work) (rank top function count : ℕ) (bytes : List ℕ) (tally : Tally) → count ≤ length work.operands
    → slice_get code.functions function ≡ None
    → Nowhere ≡ shown (act code (Some (Call function count)) (config_of work rank top bytes (taking tally)))
unfolding act
call_lost_function code work rank top function count bytes tally few none =
    let t : nat_le count (length work.operands) ≡ true = le-leb count (length work.operands) few in
    sym (rw (t, none) refl)

pub call_too_deep : (code : Code) (work : Work) (rank top function count : ℕ) (bytes : List ℕ) (tally : Tally) (callee : Function)
    → count ≤ length work.operands → slice_get code.functions function ≡ Some callee → call_limit ≤ work.number + 1
    → shown_by code (Some (halt.Trapped CallDepth)) (config_of work rank top bytes (taken tally))
    ≡ shown (act code (Some (Call function count)) (config_of work rank top bytes (taking tally)))
unfolding act
call_too_deep code work rank top function count bytes tally callee few found deep =
    let t : nat_le count (length work.operands) ≡ true = le-leb count (length work.operands) few in
    let size = callers_count bytes top work.number in
    let d : nat_le call_limit (length (frames_of bytes top work.number)) ≡ true =
    le-leb call_limit (length (frames_of bytes top work.number)) (omega (arith, size, deep)) in
    sym (rw (t, found, d) refl)

pub call_too_large : (code : Code) (work : Work) (rank top start function count : ℕ) (bytes : List ℕ) (tally : Tally) (callee : Function)
    → count ≤ length work.operands → slice_get code.functions function ≡ Some callee → work.number + 1 < call_limit
    → IsRange top bytes → start ≡ top → nat_lt range_bytes (start + callee.frame) ≡ true
    → shown_by code (Some (halt.Trapped DataStack)) (config_of work rank top bytes (taken tally))
    ≡ shown (act code (Some (Call function count)) (config_of work rank top bytes (taking tally)))
unfolding act
call_too_large code work rank top start function count bytes tally callee few found deep range here large =
    let t : nat_le count (length work.operands) ≡ true = le-leb count (length work.operands) few in
    let size = callers_count bytes top work.number in
    let d : nat_le call_limit (length (frames_of bytes top work.number)) ≡ false =
    lt-leb call_limit (length (frames_of bytes top work.number)) (omega (arith, size, deep)) in
    let place : stack_top (memory_of rank top bytes) ≡ start = top_is rank top bytes range ∙ sym here in
    let l : nat_lt range_bytes (stack_top (memory_of rank top bytes) + callee.frame) ≡ true =
    ap (λ (n : ℕ). nat_lt range_bytes (n + callee.frame)) place ∙ large in
    sym (rw (t, found, d, l) refl)

abbrev pub config_with : ℕ → Frame → List Frame → Memory → Tally → Config
config_with place frame callers m tally =
    record {
      place = place;
      frame = frame;
      callers = callers;
      done = record { memory = m; text = tally.text; made = tally.made; ticks = tally.ticks };
      left = tally.left;
      answers = tally.answers;
    }

pub call_goes_in : (code : Code) (work new : Work) (rank top start new_top function count : ℕ) (bytes new_bytes : List ℕ) (tally : Tally) (callee : Function)
    → count ≤ length work.operands → slice_get code.functions function ≡ Some callee → work.number + 1 < call_limit
    → IsRange top bytes → start ≡ top → nat_lt range_bytes (start + callee.frame) ≡ false
    → new ≡ record { place = callee.place; back = work.place + 1; start = start; operands = []; number = work.number + 1 }
    → memory_of rank (start + callee.frame) new_bytes
    ≡ with_arguments callee.parameters (reverse (take count work.operands)) start (with_frame (memory_of rank top bytes) callee.frame)
    → frames_of new_bytes (start + callee.frame) (work.number + 1)
    ≡ record { back = work.back; start = work.start; finish = start; operands = drop count work.operands } ∷ frames_of bytes start work.number
    → new_top ≡ start + callee.frame
    → shown_by code None (config_of new rank new_top new_bytes (taken tally))
    ≡ shown (act code (Some (Call function count)) (config_of work rank top bytes (taking tally)))
unfolding act
call_goes_in code work new rank top start new_top function count bytes new_bytes tally callee few found deep range here small is memory callers ends =
    let t : nat_le count (length work.operands) ≡ true = le-leb count (length work.operands) few in
    let size = callers_count bytes top work.number in
    let d : nat_le call_limit (length (frames_of bytes top work.number)) ≡ false =
    lt-leb call_limit (length (frames_of bytes top work.number)) (omega (arith, size, deep)) in
    let place : stack_top (memory_of rank top bytes) ≡ start = top_is rank top bytes range ∙ sym here in
    let l : nat_lt range_bytes (stack_top (memory_of rank top bytes) + callee.frame) ≡ false =
    ap (λ (n : ℕ). nat_lt range_bytes (n + callee.frame)) place ∙ small in
    let words = reverse (take count work.operands) in
    let rest = drop count work.operands in
    let went : ℕ → ℕ → Shown = λ s t. On (config_with callee.place (frame_with (work.place + 1) s (s + callee.frame) [])
    (frame_with work.back work.start t rest ∷ frames_of bytes t work.number)
    (with_arguments callee.parameters words s (with_frame (memory_of rank top bytes) callee.frame)) (taken tally)) in
    ap (λ (w : Work). On (config_of w rank new_top new_bytes (taken tally))) is
    ∙ ap (λ (x : ℕ). On (config_with callee.place (frame_with (work.place + 1) start x []) (frames_of new_bytes x (work.number + 1)) (memory_of rank x new_bytes) (taken tally))) ends
    ∙ ap (λ (fs : List Frame). On (config_with callee.place (frame_with (work.place + 1) start (start + callee.frame) []) fs (memory_of rank (start + callee.frame) new_bytes) (taken tally))) callers
    ∙ ap (λ (m : Memory). On (config_with callee.place (frame_with (work.place + 1) start (start + callee.frame) [])
    (frame_with work.back work.start start rest ∷ frames_of bytes start work.number) m (taken tally))) memory
    ∙ ap (went start) here
    ∙ ap (λ (s : ℕ). went s top) (sym place)
    ∙ sym (rw (t, found, d, l) refl)

-- ---- what a return does

pub leave_lost : (code : Code) (work : Work) (rank top : ℕ) (bytes : List ℕ) (tally : Tally) → work.operands ≡ []
    → Nowhere ≡ shown (act code (Some Return) (config_of work rank top bytes tally))
unfolding act
leave_lost code work rank top bytes tally none = sym (rw none refl)

abbrev after_return : Work → ℕ → ℕ → List ℕ → Tally → List ℕ → ℕ → Shown
after_return work rank top bytes tally operands number =
    shown (with_top operands (λ word rest. left_to word (frames_of bytes top number) (at_place work.place rest (config_of work rank top bytes tally))))

pub leave_main : (code : Code) (work : Work) (rank top word : ℕ) (rest bytes : List ℕ) (tally : Tally) → work.operands ≡ word ∷ rest → work.number ≡ 0
    → stack_start ≤ top → Halted (Ended (value_of Int word)) (done_of rank stack_start bytes tally)
    ≡ shown (act code (Some Return) (config_of work rank top bytes tally))
unfolding act
leave_main code work rank top word rest bytes tally operands first above =
    ap (λ (m : Memory). Halted (Ended (value_of Int word)) (record { memory = m; text = tally.text; made = tally.made; ticks = tally.ticks }))
    (frame_cut rank top stack_start bytes above)
    ∙ sym (ap (λ (os : List ℕ). after_return work rank top bytes tally os work.number) operands
    ∙ ap (after_return work rank top bytes tally (word ∷ rest)) first)

-- what a return to another call does
abbrev returned : ℕ → Frame → List Frame → Config → Moved
returned word caller others c =
    if nat_lt (length caller.operands) operand_limit
    then Went (config_with c.frame.back (record caller { operands = word ∷ caller.operands }) others (cut_to c.done.memory caller.finish)
    (record { text = c.done.text; made = c.done.made; ticks = c.done.ticks; left = c.left; answers = c.answers }))
    else Stuck

returned_is : (word : ℕ) (caller : Frame) (bytes : List ℕ) (top k : ℕ) (c : Config)
    → left_to word (caller ∷ frames_of bytes top k) c ≡ returned word caller (frames_of bytes top k) c
returned_is word caller bytes top zero c = refl
returned_is word caller bytes top (suc k) c = refl

-- the call before, with the result where it fits
abbrev given_result : Bool → ℕ → ℕ → Frame → ℕ → Work
given_result fits word back caller k =
    record { place = back; back = caller.back; start = caller.start; operands = if fits then word ∷ caller.operands else caller.operands; number = k }

returned_to : (fits : Bool) (code : Code) (work : Work) (rank top word k : ℕ) (rest bytes : List ℕ) (tally : Tally) (caller : Frame)
    → nat_lt (length caller.operands) operand_limit ≡ fits → memory_of rank caller.finish bytes ≡ cut_to (memory_of rank top bytes) caller.finish
    → shown_by code (if fits then None else Some halt.Lost) (config_of (given_result fits word work.back caller k) rank caller.finish bytes tally)
    ≡ shown (returned word caller (frames_of bytes caller.finish k) (at_place work.place rest (config_of work rank top bytes tally)))
returned_to true code work rank top word k rest bytes tally caller fits memory =
    ap (λ (m : Memory). On (config_with work.back (record caller { operands = word ∷ caller.operands }) (frames_of bytes caller.finish k) m tally)) memory
    ∙ sym (rw fits refl)
returned_to false code work rank top word k rest bytes tally caller fits memory = sym (rw fits refl)

pub leave_caller : (code : Code) (work new : Work) (rank top new_top word k : ℕ) (rest bytes new_bytes : List ℕ) (tally : Tally) (result : Option Halt)
    → work.operands ≡ word ∷ rest → work.number ≡ suc k → new_bytes ≡ bytes
    → new_top ≡ (frame_at bytes top (record_place k)).finish
    → memory_of rank new_top bytes ≡ cut_to (memory_of rank top bytes) new_top
    → result ≡ (if nat_le (length (word ∷ (frame_at bytes top (record_place k)).operands)) operand_limit then None else Some halt.Lost)
    → new ≡ given_result (nat_le (length (word ∷ (frame_at bytes top (record_place k)).operands)) operand_limit) word work.back (frame_at bytes top (record_place k)) k
    → shown_by code result (config_of new rank new_top new_bytes tally) ≡ shown (act code (Some Return) (config_of work rank top bytes tally))
unfolding act
leave_caller code work new rank top new_top word k rest bytes new_bytes tally result operands number same ends memory halts is =
    let caller = frame_at bytes top (record_place k) in
    let fits = nat_le (length (word ∷ caller.operands)) operand_limit in
    let cut : memory_of rank caller.finish bytes ≡ cut_to (memory_of rank top bytes) caller.finish =
    subst (λ (t : ℕ). memory_of rank t bytes ≡ cut_to (memory_of rank top bytes) t) ends memory in
    ap (λ (r : Option Halt). shown_by code r (config_of new rank new_top new_bytes tally)) halts
    ∙ ap (λ (w : Work). shown_by code (if fits then None else Some halt.Lost) (config_of w rank new_top new_bytes tally)) is
    ∙ ap (λ (b : List ℕ). shown_by code (if fits then None else Some halt.Lost) (config_of (given_result fits word work.back caller k) rank new_top b tally)) same
    ∙ ap (λ (t : ℕ). shown_by code (if fits then None else Some halt.Lost) (config_of (given_result fits word work.back caller k) rank t bytes tally)) ends
    ∙ returned_to fits code work rank top word k rest bytes tally caller refl cut
    ∙ ap shown (sym (returned_is word caller bytes caller.finish k (at_place work.place rest (config_of work rank top bytes tally))))
    ∙ sym (ap (λ (os : List ℕ). after_return work rank top bytes tally os work.number) operands
    ∙ ap (after_return work rank top bytes tally (word ∷ rest)) number)

-- a call with a word on its operands, where it fits
abbrev pub with_given : ℕ → Work → Work
with_given word work =
    record work { operands = if nat_le (length (word ∷ work.operands)) operand_limit then word ∷ work.operands else work.operands }

abbrev pub halt_given : ℕ → Work → Option Halt
halt_given word work = if nat_le (length (word ∷ work.operands)) operand_limit then None else Some halt.Lost
