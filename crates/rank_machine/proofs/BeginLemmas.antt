-- The call of `main`.
use Rattle.std.proofs.Common.{◌≡◌, ℕ, zero, suc, ◌+◌, ◌^◌, ◌%◌, ◌≤◌, ◌∙◌, true, false, List, [], ◌∷◌, length, take, drop, reverse, refl, sym, ap, subst, arith, Option, Some}
use Rattle.std.specs.Prelude.{nat_le, nat_lt, slice_get}
use Rattle.std.proofs.lemmas.Bool.{le-leb}
use Rattle.std.proofs.lemmas.List.{reverse-reverse, length-reverse, length-take-le}
use Rattle.rank_range.specs.Layout.{base_of, globals_start, stack_start, range_bytes, IsRange}
use Rattle.rank_range.specs.Areas.{Memory, memory_of}
use Rattle.am_base.specs.declared.traps.TrapCause.TheVariants.{DataStack}
use Rattle.vm_code.specs.declared.code.Code.{Code}
use Rattle.vm_code.specs.declared.code.Function.{Function}
use Rattle.vm_code.specs.declared.instr.Instr.{Instr}
use Rattle.vm_code.specs.declared.instr.Instr.TheVariants.{Call}
use Rattle.vm_code.specs.Lines.{place_of}
use Rattle.vm_code.specs.Memory.{with_arguments, with_frame, stack_top}
use Rattle.vm_code.specs.Stops.{Trapped}
use Rattle.vm_code.specs.Machine.{Config, act}
use Rattle.rank_machine.specs.declared.work.Work.{Work}
use Rattle.rank_machine.specs.View.{Tally, bottom, words_for, config_before, config_of, done_of}
use Rattle.rank_machine.specs.Steps.{Shown, On, Halted, shown}
use Rattle.rank_machine.specs.Ran.{CallsMain}
use Rattle.rank_machine.proofs.FrameLemmas.{frame_with}
use Rattle.rank_machine.proofs.MemoryLemmas.{top_is}
use Rattle.rank_machine.proofs.CallLemmas.{config_with}

same_call : (f g n m : ℕ) → Some (Call f n) ≡ Some (Call g m) → (f ≡ g) × (n ≡ m)
same_call f g n m e = (cc (e), cc (e))

pub first_few : (code : Code) (function count : ℕ) → CallsMain code → slice_get code.instrs 0 ≡ Some (Call function count) → count ≤ 2
first_few code function count calls found =
    let same = (same_call calls.function function calls.count count (sym calls.found ∙ found)).1 in
    subst (λ (n : ℕ). n ≤ 2) same calls.few

pub callee_there : (code : Code) (function count : ℕ) → (calls : CallsMain code) → slice_get code.instrs 0 ≡ Some (Call function count)
    → slice_get code.functions function ≡ Some calls.callee
callee_there code function count calls found =
    let same = (same_call calls.function function calls.count count (sym calls.found ∙ found)).0 in
    subst (λ (f : ℕ). slice_get code.functions f ≡ Some calls.callee) same calls.there

abbrev pub two_words : ℕ → List ℕ
two_words rank = 1 ∷ (base_of rank + globals_start) % 2 ^ 64 ∷ []

pub operand_count : (rank count : ℕ) → count ≤ 2 → length (reverse (take count (two_words rank))) ≡ count
operand_count rank count few =
    length-reverse (take count (two_words rank)) ∙ length-take-le count (two_words rank) few

whole : (xs : List ℕ) (n : ℕ) → length xs ≡ n → take n xs ≡ xs
whole [] zero size = refl
whole [] (suc n) size = refl
whole (x ∷ xs) zero size = absurd (omega (arith, size))
whole (x ∷ xs) (suc n) size = ap (λ (ys : List ℕ). x ∷ ys) (whole xs n (omega (arith, size)))

all_taken : (xs : List ℕ) (n : ℕ) → length xs ≡ n → take n (reverse xs) ≡ reverse xs
all_taken xs n size = whole (reverse xs) n (length-reverse xs ∙ size)

none_left : {X : Type 0} (xs : List X) (n : ℕ) → length xs ≡ n → drop n xs ≡ []
none_left [] zero size = refl
none_left [] (suc n) size = refl
none_left (x ∷ xs) zero size = absurd (omega (arith, size))
none_left (x ∷ xs) (suc n) size = none_left xs n (omega (arith, size))

-- the arguments of the call, and what is left behind them
pub words_are : (rank count : ℕ) → count ≤ 2 → reverse (take count (reverse (take count (two_words rank)))) ≡ take count (two_words rank)
words_are rank count few =
    let size : length (take count (two_words rank)) ≡ count = length-take-le count (two_words rank) few in
    ap reverse (all_taken (take count (two_words rank)) count size) ∙ reverse-reverse (take count (two_words rank))

rest_is : (rank count : ℕ) → count ≤ 2 → drop count (reverse (take count (two_words rank))) ≡ []
rest_is rank count few = none_left (reverse (take count (two_words rank))) count (operand_count rank count few)

abbrev taking : Tally → Tally
taking tally = record tally { left = suc tally.left }

abbrev taken : Tally → Tally
taken tally = record tally { ticks = tally.ticks + 1 }

-- the machine at the call of `main`
abbrev at_first : ℕ → ℕ → List ℕ → List ℕ → Tally → Config
at_first rank top bytes operands tally = config_with 0 (frame_with 0 stack_start stack_start operands) [] (memory_of rank top bytes) tally

first_config : (code : Code) (rank top function count : ℕ) (bytes : List ℕ) (tally : Tally) → slice_get code.instrs 0 ≡ Some (Call function count)
    → act code (slice_get code.instrs 0) (config_before code (record { place = 0; depth = 0; ticks = 0; number = rank; top = top; bytes = bytes }) tally)
    ≡ act code (Some (Call function count)) (at_first rank top bytes (reverse (take count (two_words rank))) tally)
first_config code rank top function count bytes tally found =
    ap (λ (o : Option Instr). act code o (at_first rank top bytes (reverse (words_for rank o)) tally)) found

pub main_too_large : (code : Code) (rank top start function count : ℕ) (bytes : List ℕ) (tally : Tally) (callee : Function) → count ≤ 2
    → slice_get code.instrs 0 ≡ Some (Call function count) → slice_get code.functions function ≡ Some callee → IsRange top bytes → start ≡ top
    → nat_lt range_bytes (start + callee.frame) ≡ true
    → Halted (Trapped DataStack (place_of code 0).unit (place_of code 0).line) (done_of rank top bytes (taken tally))
    ≡ shown (act code (slice_get code.instrs 0) (config_before code (record { place = 0; depth = 0; ticks = 0; number = rank; top = top; bytes = bytes }) (taking tally)))
unfolding act
main_too_large code rank top start function count bytes tally callee few found there range here large =
    let ops = reverse (take count (two_words rank)) in
    let size = operand_count rank count few in
    let t : nat_le count (length ops) ≡ true = le-leb count (length ops) (omega (arith, size)) in
    let place : stack_top (memory_of rank top bytes) ≡ start = top_is rank top bytes range ∙ sym here in
    let l : nat_lt range_bytes (stack_top (memory_of rank top bytes) + callee.frame) ≡ true =
    ap (λ (n : ℕ). nat_lt range_bytes (n + callee.frame)) place ∙ large in
    sym (rw (t, there, l) refl) ∙ sym (ap shown (first_config code rank top function count bytes (taking tally) found))

pub main_goes_in : (code : Code) (new : Work) (rank top start new_top function count : ℕ) (bytes new_bytes words : List ℕ) (tally : Tally) (callee : Function)
    → count ≤ 2 → slice_get code.instrs 0 ≡ Some (Call function count) → slice_get code.functions function ≡ Some callee → IsRange top bytes → start ≡ top
    → nat_lt range_bytes (start + callee.frame) ≡ false → words ≡ take count (two_words rank)
    → new ≡ record { place = callee.place; back = 1; start = start; operands = []; number = 0 }
    → memory_of rank (start + callee.frame) new_bytes ≡ with_arguments callee.parameters words start (with_frame (memory_of rank top bytes) callee.frame)
    → new_top ≡ start + callee.frame
    → On (config_of new rank new_top new_bytes (taken tally))
    ≡ shown (act code (slice_get code.instrs 0) (config_before code (record { place = 0; depth = 0; ticks = 0; number = rank; top = top; bytes = bytes }) (taking tally)))
unfolding act
main_goes_in code new rank top start new_top function count bytes new_bytes words tally callee few found there range here small given is memory ends =
    let ops = reverse (take count (two_words rank)) in
    let size = operand_count rank count few in
    let t : nat_le count (length ops) ≡ true = le-leb count (length ops) (omega (arith, size)) in
    let place : stack_top (memory_of rank top bytes) ≡ start = top_is rank top bytes range ∙ sym here in
    let l : nat_lt range_bytes (stack_top (memory_of rank top bytes) + callee.frame) ≡ false =
    ap (λ (n : ℕ). nat_lt range_bytes (n + callee.frame)) place ∙ small in
    let went : List ℕ → List ℕ → ℕ → Shown = λ ws rest s. On (config_with callee.place (frame_with 1 s (s + callee.frame) [])
    (frame_with 0 stack_start stack_start rest ∷ []) (with_arguments callee.parameters ws s (with_frame (memory_of rank top bytes) callee.frame)) (taken tally)) in
    ap (λ (w : Work). On (config_of w rank new_top new_bytes (taken tally))) is
    ∙ ap (λ (x : ℕ). On (config_with callee.place (frame_with 1 start x []) (bottom ∷ []) (memory_of rank x new_bytes) (taken tally))) ends
    ∙ ap (λ (m : Memory). On (config_with callee.place (frame_with 1 start (start + callee.frame) []) (bottom ∷ []) m (taken tally))) memory
    ∙ ap (λ (ws : List ℕ). went ws [] start) (given ∙ sym (words_are rank count few))
    ∙ ap (λ (rest : List ℕ). went (reverse (take count ops)) rest start) (sym (rest_is rank count few))
    ∙ ap (went (reverse (take count ops)) (drop count ops)) (sym place)
    ∙ sym (rw (t, there, l) refl)
    ∙ sym (ap shown (first_config code rank top function count bytes (taking tally) found))

pub given_words : (rank address count : ℕ) (given : List ℕ) → address ≡ (base_of rank + globals_start) % 2 ^ 64
    → given ≡ take count (1 ∷ address ∷ []) → given ≡ take count (two_words rank)
given_words rank address count given is words = words ∙ ap (λ (a : ℕ). take count (1 ∷ a ∷ [])) is

abbrev work_with : ℕ → ℕ → ℕ → List ℕ → ℕ → Work
work_with place back start operands number = record { place = place; back = back; start = start; operands = operands; number = number }

pub new_work : (p q start n : ℕ) (operands : List ℕ) → p ≡ q → operands ≡ [] → n ≡ 0 → work_with p 1 start operands n ≡ work_with q 1 start [] 0
new_work p q start n operands place none first =
    ap (λ (x : ℕ). work_with x 1 start operands n) place ∙ ap (λ (xs : List ℕ). work_with q 1 start xs n) none ∙ ap (work_with q 1 start []) first
