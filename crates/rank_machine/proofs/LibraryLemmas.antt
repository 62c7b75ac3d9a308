-- What a call of the library does to a machine.
use Rattle.std.proofs.Common.{◌≡◌, ℕ, ◌+◌, ◌-◌, ◌*◌, ◌^◌, ◌<◌, ◌≤◌, ◌⊎◌, ◌∙◌, inl, inr, Bool, true, false, List, [], ◌∷◌, ◌++◌, length, take, slice_index, refl, sym, ap, subst, arith, Option, Some, None, Result, Ok, Err, OnOk, OnErr, IfOk}
use Rattle.std.specs.Prelude.{ℤ, IsTrue, if◌then◌else◌, nat_le, nat_lt, nat_eq, ◌==◌, ◌%◌, codes, replicate}
use Rattle.std.proofs.lemmas.Bool.{le-leb, lt-leb, true≢false}
use Rattle.std.proofs.lemmas.Bool.Decides.{eqb_tells}
use Rattle.std.proofs.lemmas.List.{append-nil}
use Rattle.am_base.specs.Calls.{lib_parameters}
use Rattle.am_base.specs.declared.lines.Line.{Line}
use Rattle.am_base.specs.declared.calls.LibCall.{LibCall}
use Rattle.am_base.specs.declared.calls.LibCall.TheVariants as lib
use Rattle.am_base.specs.declared.traps.TrapCause.{TrapCause}
use Rattle.am_base.specs.declared.traps.TrapCause.TheVariants.{TextLimit}
use Rattle.rank_range.specs.Layout.{base_of, heap_start, descriptors_start, globals_start, MarksChanges}
use Rattle.rank_range.specs.Parts.{Keeps}
use Rattle.rank_range.specs.Nodes.{HasHeap, blocks_of}
use Rattle.rank_range.specs.Heap.{first_fit, rounded}
use Rattle.rank_range.specs.Areas.{Areas, Memory, areas_of, memory_of, take_block, give_block, bytes_from, bytes_at, with_bytes_at, copied_at, text_at}
use Rattle.rank_range.specs.Output.{text_limit, with_text, lines_behind, part_behind}
use Rattle.rank_range.specs.Library as library
use Rattle.rank_range.specs.declared.run.Output.{Output}
use Rattle.rank_range.specs.declared.run.LibOut.{LibOut}
use Rattle.rank_range.specs.declared.run.LibStop.{LibStop}
use Rattle.rank_range.specs.declared.run.LibStop.TheVariants as stop
use Rattle.rank_range.specs.Kinds.{value_of}
use Rattle.rank_range.specs.declared.kinds.Kind.TheVariants.{Int}
use Rattle.rank_range.specs.declared.heap.Block.{Block}
use Rattle.rank_range.proofs.FitLemmas.{are_first_fits}
use Rattle.c_lib.specs.Answers.{is_made, LeavesTheRest}
use Rattle.c_lib.specs.Answers as c_lib
use Rattle.isomalloc.specs.Heap.{BytesStay}
use Rattle.vm_code.specs.declared.code.Code.{Code}
use Rattle.vm_code.specs.Stops.{Done, Ended, Trapped}
use Rattle.vm_code.specs.Library.{LibraryDone, Does, Fails, library_does, in_memory, given, given_back}
use Rattle.vm_code.specs.Lines.{place_of}
use Rattle.vm_code.specs.Machine.{Frame, go_on, library_done}
use Rattle.rank_machine.specs.declared.work.Work.{Work}
use Rattle.rank_machine.specs.declared.halt.Halt.{Halt}
use Rattle.rank_machine.specs.declared.halt.Halt.TheVariants as halt
use Rattle.rank_machine.specs.View.{Tally, frames_of, config_of, done_of}
use Rattle.rank_machine.specs.Steps.{Kept, Shown, Halted, CallsLibrary, Tells, shown, shown_by, with_out}
use Rattle.rank_machine.proofs.FrameLemmas.{frame_with, frames_stand, frames_beside}
use Rattle.rank_machine.proofs.AccessLemmas.{seen, kept_beside, kept_same}
use Rattle.rank_machine.proofs.CallLemmas.{config_with}

-- ---- what is printed

abbrev output_with : ℕ → List ℕ → ℕ → List Line → Output
output_with printed unfinished next held = record { printed = printed; unfinished = unfinished; next = next; held = held }

pub no_text : (o : Output) → o ≡ with_text o []
unfolding lines_behind part_behind
no_text o =
    let printed : o.printed ≡ o.printed + 0 = omega arith in
    let next : o.next ≡ o.next + 0 = omega arith in
    ap (λ (n : ℕ). output_with n o.unfinished o.next o.held) printed
    ∙ ap (λ (n : ℕ). output_with (o.printed + 0) o.unfinished n o.held) next
    ∙ ap (output_with (o.printed + 0) o.unfinished (o.next + 0)) (sym (append-nil o.held))

pub no_text_is : (o : Output) (text : List ℕ) → text ≡ [] → o ≡ with_text o text
no_text_is o text none = no_text o ∙ ap (with_text o) (sym none)

-- ---- the machine behind a call

does_print : (code : Code) (work : Work) (call : LibCall) (words rest : List ℕ) (value : ℕ) (text : List ℕ) (rank top : ℕ) (old new : List ℕ) (tally : Tally)
    (s : Shown) → library_does call words (memory_of rank top old) ≡ Does value text (memory_of rank top new)
    → frames_of new top work.number ≡ frames_of old top work.number → length tally.text + length text ≤ text_limit
    → s ≡ shown (go_on (value ∷ rest) (config_of work rank top new (with_out text tally)))
    → s ≡ shown (library_done code (library_does call words (memory_of rank top old)) rest (config_of work rank top old tally))
does_print code work call words rest value text rank top old new tally s is frames room same =
    let fits : nat_le (length tally.text + length text) text_limit ≡ true = le-leb _ text_limit room in
    let frame = frame_with work.back work.start top work.operands in
    same
    ∙ ap (λ (fs : List Frame). shown (go_on (value ∷ rest) (config_with work.place frame fs (memory_of rank top new) (with_out text tally)))) frames
    ∙ sym (rw fits refl)
    ∙ ap (λ (d : LibraryDone). shown (library_done code d rest (config_of work rank top old tally))) (sym is)

pub does : (call : LibCall) (words rest : List ℕ) (value : ℕ) (text : List ℕ) (halt : Option Halt) (work new_work : Work) (rank top : ℕ) (old new : List ℕ)
    (old_output new_output : Output) → library_does call words (memory_of rank top old) ≡ Does value text (memory_of rank top new)
    → ((limit k : ℕ) → k ≤ 256 → frames_of new limit k ≡ frames_of old limit k) → work.number < 256
    → old_output.printed + length text ≤ text_limit → new_output ≡ with_text old_output text
    → ((code : Code) (rank top : ℕ) (bytes : List ℕ) (tally : Tally) → shown_by code halt (config_of new_work rank top bytes tally)
    ≡ shown (go_on (value ∷ rest) (config_of work rank top bytes tally)))
    → CallsLibrary call words rest halt work new_work rank top old new old_output new_output
does call words rest value text halt work new_work rank top old new old_output new_output is frames below room output gives = record {
  out = text;
  output = output;
  moved = λ code tally size.
      does_print code work call words rest value text rank top old new tally _ is (frames top work.number (omega (arith, below)))
      (omega (arith, size, room)) (gives code rank top new (with_out text tally));
}

abbrev done_with : Memory → List ℕ → Tally → Done
done_with m text tally = record { memory = m; text = text; made = tally.made; ticks = tally.ticks }

no_out : (rank top : ℕ) (old new : List ℕ) (tally : Tally) → memory_of rank top new ≡ memory_of rank top old
    → (done_of rank top new (with_out [] tally)) ≡ done_of rank top old tally
no_out rank top old new tally same =
    ap (λ (m : Memory). done_with m (tally.text ++ []) tally) same
    ∙ ap (λ (text : List ℕ). done_with (memory_of rank top old) text tally) (append-nil tally.text)

pub fails : (call : LibCall) (words rest : List ℕ) (cause : TrapCause) (work : Work) (rank top : ℕ) (old new : List ℕ) (output : Output)
    → library_does call words (memory_of rank top old) ≡ Fails cause → memory_of rank top new ≡ memory_of rank top old
    → CallsLibrary call words rest (Some (halt.Trapped cause)) work work rank top old new output output
fails call words rest cause work rank top old new output is same = record {
  out = [];
  output = no_text output;
  moved = λ code tally size.
      ap (λ (d : Done). Halted (Trapped cause (place_of code work.place).unit (place_of code work.place).line) d) (no_out rank top old new tally same)
      ∙ ap (λ (d : LibraryDone). shown (library_done code d rest (config_of work rank top old tally))) (sym is);
}

pub too_long : (call : LibCall) (words rest : List ℕ) (value : ℕ) (text : List ℕ) (work : Work) (rank top : ℕ) (old new : List ℕ) (output : Output)
    → library_does call words (memory_of rank top old) ≡ Does value text (memory_of rank top new) → memory_of rank top new ≡ memory_of rank top old
    → text_limit < output.printed + length text
    → CallsLibrary call words rest (Some (halt.Trapped TextLimit)) work work rank top old new output output
too_long call words rest value text work rank top old new output is same long = record {
  out = [];
  output = no_text output;
  moved = λ code tally size.
      let fits : nat_le (length tally.text + length text) text_limit ≡ false = lt-leb _ text_limit (omega (arith, size, long)) in
      ap (λ (d : Done). Halted (Trapped TextLimit (place_of code work.place).unit (place_of code work.place).line) d) (no_out rank top old new tally same)
      ∙ sym (rw fits refl)
      ∙ ap (λ (d : LibraryDone). shown (library_done code d rest (config_of work rank top old tally))) (sym is);
}

pub exits : (words rest : List ℕ) (status : ℤ) (work : Work) (rank top : ℕ) (bytes : List ℕ) (output : Output)
    → status ≡ value_of Int (slice_index words 0)
    → CallsLibrary lib.Exit words rest (Some (halt.Exited status)) work work rank top bytes bytes output output
unfolding library_does
exits words rest status work rank top bytes output is = record {
  out = [];
  output = no_text output;
  moved = λ code tally size.
      ap (λ (z : ℤ). Halted (Ended z) (done_of rank top bytes (with_out [] tally))) is
      ∙ ap (Halted (Ended (value_of Int (slice_index words 0)))) (no_out rank top bytes bytes tally refl);
}

-- ---- the heap

pub malloc_does : (words ws : List ℕ) (size value : ℕ) (m new : Memory) → ws ≡ words → size ≡ slice_index ws 0 → take_block size m ≡ (value, new)
    → library_does lib.Malloc words m ≡ Does value [] new
unfolding library_does
malloc_does words ws size value m new same is taken =
    ap (λ (xs : List ℕ). given (take_block (slice_index xs 0) m)) (sym same)
    ∙ ap (λ (n : ℕ). given (take_block n m)) (sym is) ∙ ap given taken

product_given : (b : Bool) (taken : ℕ × Memory) (m : Memory)
    → (if b then given taken else Does 0 [] m) ≡ given (if b then taken else (0, m))
product_given true taken m = refl
product_given false taken m = refl

pub calloc_does : (words ws : List ℕ) (count size value : ℕ) (m new : Memory) → ws ≡ words → count ≡ slice_index ws 0 → size ≡ slice_index ws 1
    → (if nat_lt (count * size) (2 ^ 64) then take_block (count * size) m else (0, m)) ≡ (value, new)
    → library_does lib.Calloc words m ≡ Does value [] new
unfolding library_does
calloc_does words ws count size value m new same counted sized taken =
    let does_of : ℕ → LibraryDone = λ n. if nat_lt n (2 ^ 64) then given (take_block n m) else Does 0 [] m in
    ap (λ (xs : List ℕ). does_of (slice_index xs 0 * slice_index xs 1)) (sym same)
    ∙ ap (λ (n : ℕ). does_of (n * slice_index ws 1)) (sym counted)
    ∙ ap (λ (n : ℕ). does_of (count * n)) (sym sized)
    ∙ product_given (nat_lt (count * size) (2 ^ 64)) (take_block (count * size) m) m
    ∙ ap given taken

freed : (b : Bool) (o : Option Memory) (m : Memory) → (if b then Does 0 [] m else given_back o) ≡ given_back (if b then Some m else o)
freed true o m = refl
freed false o m = refl

pub free_does : (words ws : List ℕ) (address : ℕ) (m : Memory) (gave : Option Memory) → ws ≡ words → address ≡ slice_index ws 0
    → (if nat_eq address 0 then Some m else give_block address m) ≡ gave → library_does lib.Free words m ≡ given_back gave
unfolding library_does
free_does words ws address m gave same is given =
    let does_of : ℕ → LibraryDone = λ a. if nat_eq a 0 then Does 0 [] m else given_back (give_block a m) in
    ap (λ (xs : List ℕ). does_of (slice_index xs 0)) (sym same) ∙ ap does_of (sym is)
    ∙ freed (nat_eq address 0) (give_block address m) m ∙ ap given_back given

abbrev fit_or_none : Bool → ℕ → Memory → Memory → ℕ × Memory
fit_or_none none f m after = if none then (0, m) else (f, after)

fit_chosen : (f : ℕ) (m after : Memory) → (fit_or_none (f == 0) f m after).0 ≡ f
fit_chosen f m after =
    elim (eqb_tells f 0) [
      | inl t ↦ ap (λ (b : Bool). (fit_or_none b f m after).0) t.0 ∙ sym t.1
      | inr t ↦ ap (λ (b : Bool). (fit_or_none b f m after).0) t.0
    ]

taken_at : (rank top size : ℕ) (bytes : List ℕ) → (take_block size (memory_of rank top bytes)).0 ≡ first_fit rank (blocks_of rank bytes) size
unfolding take_block memory_of areas_of
taken_at rank top size bytes = fit_chosen (first_fit rank (blocks_of rank bytes) size) _ _

pub take_frames : (rank top size a : ℕ) (old new : List ℕ) (m : Memory) → take_block size (memory_of rank top old) ≡ (a, m) → (a ≡ 0 → new ≡ old)
    → BytesStay old new (a - base_of rank) (a - base_of rank + rounded size) → (limit k : ℕ) → k ≤ 256
    → frames_of new limit k ≡ frames_of old limit k
take_frames rank top size a old new m taken none stays limit k few =
    let at : a ≡ first_fit rank (blocks_of rank old) size = sym (ap (λ (p : ℕ × Memory). p.0) taken) ∙ taken_at rank top size old in
    elim (are_first_fits rank (blocks_of rank old) size) [
      | inl x ↦
          let from : base_of rank + heap_start ≤ a = (let low = x.1.from in omega (arith, low, at)) in
          frames_stand old new limit k descriptors_start
          (λ i low below. stays i (omega (arith, low)) (inl below) (inl (omega (arith, below, from)))) (omega (arith, few))
      | inr x ↦ ap (λ (bytes : List ℕ). frames_of bytes limit k) (none (at ∙ x.0))
    ]

pub give_frames : (old new : List ℕ) → BytesStay old new 0 0 → (limit k : ℕ) → k ≤ 256 → frames_of new limit k ≡ frames_of old limit k
give_frames old new stays limit k few =
    frames_stand old new limit k descriptors_start (λ i low below. stays i (omega (arith, low)) (inl below) (inr (omega arith))) (omega (arith, few))

pub heap_kept : (r s i j : ℕ) (old new : List ℕ) (old_marks new_marks : ℕ → Bool) → Keeps r s i j old new old_marks new_marks → HasHeap s new
    → Kept r s old new old_marks new_marks
heap_kept r s i j old new old_marks new_marks kept heap =
    record { owner = kept.owner; whole = kept.whole; marks = kept.marks; heap = λ before. heap }

-- ---- the other calls

made_is : (call : LibCall) (words : List ℕ) (m : Memory) → IsTrue (is_made call)
    → library_does call words m ≡ in_memory m (library.library_does call words m.areas)
unfolding library_does
made_is lib.Printf words m made = refl
made_is lib.Puts words m made = refl
made_is lib.Putchar words m made = refl
made_is lib.Malloc words m made = absurd (true≢false (sym made))
made_is lib.Calloc words m made = absurd (true≢false (sym made))
made_is lib.Free words m made = absurd (true≢false (sym made))
made_is lib.Memcpy words m made = refl
made_is lib.Memset words m made = refl
made_is lib.Memcmp words m made = refl
made_is lib.Strlen words m made = refl
made_is lib.Strcmp words m made = refl
made_is lib.Strcpy words m made = refl
made_is lib.Atoi words m made = refl
made_is lib.Abs words m made = refl
made_is lib.Exit words m made = absurd (true≢false (sym made))

-- a call prints nothing, or leaves the areas
abbrev Quiet : List ℕ → Areas → Areas → Type 0
Quiet text old new = (text ≡ []) ⊎ (new ≡ old)

quiet_written : (o : Option Areas) (value v : ℕ) (text : List ℕ) (old new : Areas)
    → library.with_written o (λ areas. library.Does value [] areas) ≡ library.Does v text new → Quiet text old new
quiet_written None value v text old new e = absurd (cc (e))
quiet_written (Some areas) value v text old new e = inl (let same : [] ≡ text = cc (e) in sym same)

quiet_answer : (value v : ℕ) (told text : List ℕ) (old new : Areas) → library.Does value told old ≡ library.Does v text new → Quiet text old new
quiet_answer value v told text old new e = inr (let same : old ≡ new = cc (e) in sym same)

quiet_printed : (w : library.Written) (v : ℕ) (text : List ℕ) (old new : Areas) → library.printed old w ≡ library.Does v text new → Quiet text old new
quiet_printed (library.Writes told) v text old new e = quiet_answer _ v told text old new e
quiet_printed (library.Wrong cause) v text old new e = absurd (cc (e))

quiet_number : (o : Option ℤ) (v : ℕ) (text : List ℕ) (old new : Areas) → library.with_number o old ≡ library.Does v text new → Quiet text old new
quiet_number None v text old new e = absurd (cc (e))
quiet_number (Some z) v text old new e = quiet_answer _ v [] text old new e

quiet_int : (o : Option ℤ) (v : ℕ) (text : List ℕ) (old new : Areas) → library.with_int o old ≡ library.Does v text new → Quiet text old new
quiet_int None v text old new e = absurd (cc (e))
quiet_int (Some z) v text old new e = quiet_answer _ v [] text old new e

quiet_puts : (o : Option (List ℕ)) (v : ℕ) (text : List ℕ) (old new : Areas)
    → library.with_read o (λ told. library.Does 0 (told ++ codes "\n") old) ≡ library.Does v text new → Quiet text old new
quiet_puts None v text old new e = absurd (cc (e))
quiet_puts (Some told) v text old new e = quiet_answer _ v _ text old new e

quiet_length : (o : Option (List ℕ)) (v : ℕ) (text : List ℕ) (old new : Areas)
    → library.with_read o (λ told. library.Does (length told) [] old) ≡ library.Does v text new → Quiet text old new
quiet_length None v text old new e = absurd (cc (e))
quiet_length (Some told) v text old new e = quiet_answer _ v _ text old new e

quiet_compared : (o p : Option (List ℕ)) (v : ℕ) (text : List ℕ) (old new : Areas)
    → library.with_read o (λ xs. library.with_read p (λ ys. library.answer (library.compared xs ys) old)) ≡ library.Does v text new → Quiet text old new
quiet_compared None p v text old new e = absurd (cc (e))
quiet_compared (Some xs) None v text old new e = absurd (cc (e))
quiet_compared (Some xs) (Some ys) v text old new e = quiet_answer _ v _ text old new e

quiet_copied : (o : Option (List ℕ)) (put : List ℕ → Option Areas) (value v : ℕ) (text : List ℕ) (old new : Areas)
    → library.with_read o (λ told. library.with_written (put told) (λ areas. library.Does value [] areas)) ≡ library.Does v text new → Quiet text old new
quiet_copied None put value v text old new e = absurd (cc (e))
quiet_copied (Some told) put value v text old new e = quiet_written (put told) value v text old new e

quiet : (call : LibCall) (words : List ℕ) (v : ℕ) (text : List ℕ) (old new : Areas) → library.library_does call words old ≡ library.Does v text new
    → Quiet text old new
unfolding library.library_does
quiet lib.Printf words v text old new e = quiet_printed _ v text old new e
quiet lib.Puts words v text old new e = quiet_puts (text_at old (slice_index words 0)) v text old new e
quiet lib.Putchar words v text old new e = quiet_answer _ v _ text old new e
quiet lib.Malloc words v text old new e = absurd (cc (e))
quiet lib.Calloc words v text old new e = absurd (cc (e))
quiet lib.Free words v text old new e = absurd (cc (e))
quiet lib.Memcpy words v text old new e =
    quiet_written (copied_at old (slice_index words 0) (slice_index words 1) (slice_index words 2)) (slice_index words 0) v text old new e
quiet lib.Memset words v text old new e =
    quiet_written (with_bytes_at old (slice_index words 0) (replicate (slice_index words 2) (slice_index words 1 % 256))) (slice_index words 0) v text old new e
quiet lib.Memcmp words v text old new e =
    quiet_compared (bytes_at old (slice_index words 0) (slice_index words 2)) (bytes_at old (slice_index words 1) (slice_index words 2)) v text old new e
quiet lib.Strlen words v text old new e = quiet_length (text_at old (slice_index words 0)) v text old new e
quiet lib.Strcmp words v text old new e =
    quiet_number (library.texts_compared (bytes_from old (slice_index words 0)) (bytes_from old (slice_index words 1))) v text old new e
quiet lib.Strcpy words v text old new e =
    quiet_copied (text_at old (slice_index words 1)) (λ told. with_bytes_at old (slice_index words 0) (told ++ 0 ∷ [])) (slice_index words 0) v text old new e
quiet lib.Atoi words v text old new e = quiet_int (library.atoi_value (bytes_from old (slice_index words 0))) v text old new e
quiet lib.Abs words v text old new e = quiet_answer _ v [] text old new e
quiet lib.Exit words v text old new e = absurd (cc (e))

-- the answer of a call, by the memory that its program sees
pub made_tells : (call : LibCall) (words : List ℕ) (rank top : ℕ) (old new : List ℕ) (r : Result LibOut LibStop) → IsTrue (is_made call)
    → c_lib.Tells (library.library_does call words (areas_of rank top old)) (areas_of rank top new) r → OnOk r (LeavesTheRest rank top old new)
    → Tells (library_does call words (memory_of rank top old)) (memory_of rank top new) r
unfolding memory_of
made_tells call words rank top old new (Ok out) made tells rest =
    made_is call words (memory_of rank top old) made ∙ ap (in_memory (memory_of rank top old)) tells
    ∙ ap (λ (blocks : List Block). Does out.value out.text (seen (areas_of rank top new) blocks)) (sym rest.blocks)
made_tells call words rank top old new (Err (stop.Trap cause)) made tells rest =
    made_is call words (memory_of rank top old) made ∙ ap (in_memory (memory_of rank top old)) tells
made_tells call words rank top old new (Err stop.Memory) made tells rest = tt

same_memory : (rank top : ℕ) (old new text : List ℕ) → 0 < length text → Quiet text (areas_of rank top old) (areas_of rank top new)
    → blocks_of rank new ≡ blocks_of rank old → memory_of rank top new ≡ memory_of rank top old
unfolding memory_of
same_memory rank top old new text some (inl none) blocks =
    absurd (let size : length text ≡ 0 = ap length none in omega (arith, some, size))
same_memory rank top old new text some (inr same) blocks =
    ap (λ (a : Areas). seen a (blocks_of rank new)) same ∙ ap (seen (areas_of rank top old)) blocks

pub made_quiet : (call : LibCall) (words : List ℕ) (rank top : ℕ) (old new : List ℕ) (r : Result LibOut LibStop)
    → c_lib.Tells (library.library_does call words (areas_of rank top old)) (areas_of rank top new) r → OnOk r (LeavesTheRest rank top old new)
    → IfOk r (λ out. 0 < length out.text → memory_of rank top new ≡ memory_of rank top old)
made_quiet call words rank top old new (Ok out) tells rest =
    λ some. same_memory rank top old new out.text some (quiet call words out.value out.text _ _ tells) rest.blocks
made_quiet call words rank top old new (Err e) tells rest = tt

pub made_frames : {X E : Type 0} (r : Result X E) (rank top : ℕ) (old new : List ℕ) → OnOk r (LeavesTheRest rank top old new) → OnErr r (new ≡ old)
    → (limit k : ℕ) → k ≤ 256 → frames_of new limit k ≡ frames_of old limit k
made_frames (Ok x) rank top old new rest same limit k few = frames_beside old new globals_start top (omega arith) rest.beside limit k few
made_frames (Err e) rank top old new rest same limit k few = ap (λ (bytes : List ℕ). frames_of bytes limit k) same

pub made_kept : {X E : Type 0} (r : Result X E) (rank owner top : ℕ) (old new : List ℕ) (marks new_marks : ℕ → Bool)
    → OnOk r (LeavesTheRest rank top old new) → OnErr r (new ≡ old) → OnErr r (new_marks ≡ marks) → OnOk r (MarksChanges old new marks new_marks)
    → owner ≡ rank → Kept rank owner old new marks new_marks
made_kept (Ok x) rank owner top old new marks new_marks rest same same_marks changes owned =
    kept_beside rank owner globals_start top old new marks new_marks owned rest.whole changes (omega arith) rest.beside
made_kept (Err e) rank owner top old new marks new_marks rest same same_marks changes owned =
    kept_same rank owner old new marks new_marks owned same same_marks

-- ---- arguments that aren't there

abbrev three : List ℕ → List ℕ
three words = slice_index words 0 ∷ slice_index words 1 ∷ slice_index words 2 ∷ []

padded_printf : (words : List ℕ) (areas : Areas) → length words < 1
    → library.library_does lib.Printf words areas ≡ library.library_does lib.Printf (take 1 (three words)) areas
unfolding library.library_does
padded_printf [] areas few = refl
padded_printf (x ∷ xs) areas few = absurd (omega (arith, few))

padded : (call : LibCall) (words : List ℕ) (areas : Areas) → length words < length (lib_parameters call)
    → library.library_does call words areas ≡ library.library_does call (take (length (lib_parameters call)) (three words)) areas
unfolding library.library_does
padded lib.Printf words areas few = padded_printf words areas few
padded lib.Puts words areas few = refl
padded lib.Putchar words areas few = refl
padded lib.Malloc words areas few = refl
padded lib.Calloc words areas few = refl
padded lib.Free words areas few = refl
padded lib.Memcpy words areas few = refl
padded lib.Memset words areas few = refl
padded lib.Memcmp words areas few = refl
padded lib.Strlen words areas few = refl
padded lib.Strcmp words areas few = refl
padded lib.Strcpy words areas few = refl
padded lib.Atoi words areas few = refl
padded lib.Abs words areas few = refl
padded lib.Exit words areas few = refl

pub padded_is : (call : LibCall) (words all : List ℕ) (m : Memory) → IsTrue (is_made call) → length words < length (lib_parameters call)
    → all ≡ take (length (lib_parameters call)) (three words) → library_does call words m ≡ library_does call all m
padded_is call words all m made few is =
    made_is call words m made ∙ ap (in_memory m) (padded call words m.areas few)
    ∙ sym (made_is call (take (length (lib_parameters call)) (three words)) m made) ∙ ap (λ (ws : List ℕ). library_does call ws m) (sym is)

pub three_taken : (n k a b c x y z : ℕ) → n ≡ k → a ≡ x → b ≡ y → c ≡ z → take n (a ∷ b ∷ c ∷ []) ≡ take k (x ∷ y ∷ z ∷ [])
three_taken n k a b c x y z many first second third =
    ap (λ (m : ℕ). take m (a ∷ b ∷ c ∷ [])) many ∙ ap (λ (w : ℕ). take k (w ∷ b ∷ c ∷ [])) first
    ∙ ap (λ (w : ℕ). take k (x ∷ w ∷ c ∷ [])) second ∙ ap (λ (w : ℕ). take k (x ∷ y ∷ w ∷ [])) third

pub tells_by : (one two : LibraryDone) (m : Memory) (r : Result LibOut LibStop) → one ≡ two → Tells two m r → Tells one m r
tells_by one two m r same tells = subst (λ (d : LibraryDone). Tells d m r) (sym same) tells
