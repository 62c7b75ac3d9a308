-- The machine runs backward from what comes next: one rule an instruction.
use Rattle.std.proofs.Common.{◌≡◌, ℕ, zero, suc, ◌+◌, ◌≤◌, ◌<◌, Bool, true, false, List, [], ◌∷◌, ◌++◌, length, reverse, take, drop, refl, sym, ap, ◌∙◌, subst, arith, append_assoc, length-append}
use Rattle.std.specs.Prelude.{slice_get, nat_le, nat_eq, if◌then◌else◌, Option, Some, None, option_map, Result, Ok, Err}
use Rattle.std.proofs.lemmas.Bool.{le-leb}
use Rattle.std.proofs.lemmas.List.{length-reverse, reverse-append, reverse-reverse}
use Rattle.std.proofs.Math.Seq.{take-append_seam, drop-append_seam}
use Rattle.am_base.specs.declared.traps.TrapCause.{TrapCause}
use Rattle.am_base.specs.declared.traps.TrapCause.TheVariants.{BadAddress}
use Rattle.rank_range.specs.Areas.{Memory}
use Rattle.rank_range.specs.Layout.{globals_start}
use Rattle.rank_range.specs.Kinds.{extended, IsWordOf}
use Rattle.rank_range.specs.Numbers.{bytes_in}
use Rattle.rank_range.specs.Kinds.{width_of}
use Rattle.rank_range.specs.Areas.{number_of}
use Rattle.rank_range.specs.Operators.{operate, operate_one}
use Rattle.rank_range.proofs.OperatorLemmas.{are_words}
use Rattle.rank_range.specs.declared.kinds.Kind.{Kind}
use Rattle.rank_range.specs.declared.operators.Unary.{Unary as UnaryOperator}
use Rattle.rank_range.specs.declared.operators.Binary.{Binary as Operator}
use Rattle.mpi_types.specs.declared.call.Answer.{Answer}
use Rattle.vm_code.specs.declared.code.Code.{Code}
use Rattle.vm_code.specs.declared.instr.Instr.{Instr}
use Rattle.vm_code.specs.declared.instr.Instr.TheVariants as instr
use Rattle.vm_code.specs.Memory.{address_of, stack_top, loaded, stored, copied, zeroed}
use Rattle.vm_code.specs.Stops.{Stop, Paused, Trapped, Done, with_ticks}
use Rattle.vm_code.specs.Lines.{Place, place_of}
use Rattle.vm_code.specs.Machine as machine
use Rattle.vm_code.specs.Machine.{Config, Frame, Moved, Went, Stopped, Stuck, Stops, operand_limit, act, one_step, follow, exec, go_on, at_place, with_many, call_of, second_place, behind_call}
use Rattle.c_model.specs.Outcome.{Rest, Here, tick, traps, with_memory, reading, writing, with_result, choose}
use Rattle.c_model.specs.Run.{load, store}
use Rattle.codegen.proofs.Keeping.{stored_keeps, copied_keeps, zeroed_keeps}

-- A call in which code runs: where it goes back to, where its frame lies, and the calls that wait for it.
pub record Standing : Type 0 where
  pub back : ℕ
  pub start : ℕ
  pub finish : ℕ
  pub callers : List Frame

-- the machine in a call at a place with these operands, where this was done
abbrev pub at : Standing → ℕ → List ℕ → ℕ → List Answer → Done → Config
at s place stack n answers done = record {
  place = place;
  frame = record { back = s.back; start = s.start; finish = s.finish; operands = stack };
  callers = s.callers;
  done = done;
  left = n;
  answers = answers;
}

-- From this place, with these operands, the machine stops as what comes next does, whatever was done before, where at most
-- so many ticks are left and the call's frame is on top of the data stack.
pub record Does (code : Code) (s : Standing) (place : ℕ) (stack : List ℕ) (most : ℕ) (next : Rest) : Type 0 where
  pub by : (n : ℕ) (answers : List Answer) (done : Done) → n ≤ most → stack_top done.memory ≡ s.finish
      → Stops code (at s place stack n answers done) (next n answers done).stop (next n answers done).done

-- traps at this place have this line
abbrev pub Told : Code → ℕ → Here → Type 0
Told code place here = place_of code place ≡ record { unit = here.unit; line = here.line }

-- fewer ticks
pub fewer : (code : Code) (s : Standing) (place : ℕ) (stack : List ℕ) (most less : ℕ) (next : Rest) → less ≤ most
    → Does code s place stack most next → Does code s place stack less next
fewer code s place stack most less next le d = record { by = λ n answers done l top. d.by n answers done (omega (arith, le, l)) top }

-- what comes next, by its place
pub from_place : (code : Code) (s : Standing) (place same : ℕ) (stack : List ℕ) (most : ℕ) (next : Rest) → same ≡ place
    → Does code s same stack most next → Does code s place stack most next
from_place code s place same stack most next e d = subst (λ p. Does code s p stack most next) e d

-- the machine goes on to where it stops
pub went : (code : Code) (c d : Config) (stop : Stop) (done : Done) → one_step code c ≡ Went d → Stops code d stop done → Stops code c stop done
went code c d stop done e s = record {
  instructions = suc s.instructions;
  last = s.last;
  reached = ap (λ m. follow m (exec code s.instructions)) e ∙ s.reached;
  done_is = s.done_is;
}

-- the machine stops here
pub stopped : (code : Code) (c d : Config) (stop : Stop) → one_step code c ≡ Stopped stop d → Stops code c stop d.done
stopped code c d stop e = record {
  instructions = suc zero;
  last = d;
  reached = ap (λ m. follow m (exec code zero)) e;
  done_is = refl;
}

-- the words on the operands, the last one on top
abbrev pub onto : List ℕ → List ℕ → List ℕ
onto [] stack = stack
onto (w ∷ ws) stack = onto ws (w ∷ stack)

pub onto_is : (words stack : List ℕ) → onto words stack ≡ reverse words ++ stack
onto_is [] stack = refl
onto_is (w ∷ ws) stack =
    onto_is ws (w ∷ stack) ∙ sym (append_assoc (reverse ws) (w ∷ []) stack) ∙ ap (λ l. l ++ stack) (sym (reverse-append (w ∷ []) ws))

-- the machine takes just the words that were put there
pub many : (words stack : List ℕ) (next : List ℕ → List ℕ → Moved) → with_many (length words) (onto words stack) next ≡ next words stack
many words stack next =
    let l : length words ≡ length (reverse words) = sym (length-reverse words) in
    let fits : nat_le (length words) (length (reverse words ++ stack)) ≡ true =
    le-leb (length words) (length (reverse words ++ stack)) (omega (arith, l, length-append (reverse words) stack)) in
    let front : take (length words) (reverse words ++ stack) ≡ reverse words =
    ap (λ n. take n (reverse words ++ stack)) l ∙ take-append_seam (reverse words) stack in
    let back : drop (length words) (reverse words ++ stack) ≡ stack =
    ap (λ n. drop n (reverse words ++ stack)) l ∙ drop-append_seam (reverse words) stack in
    ap (λ o. with_many (length words) o next) (onto_is words stack)
    ∙ ap (λ (b : Bool). if b then next (reverse (take (length words) (reverse words ++ stack))) (drop (length words) (reverse words ++ stack)) else Stuck) fits
    ∙ ap (λ f. next (reverse f) (drop (length words) (reverse words ++ stack))) front
    ∙ ap (λ b. next (reverse (reverse words)) b) back
    ∙ ap (λ w. next w stack) (reverse-reverse words)

-- behind an instruction, where there are no more operands than may be
pub goes : (operands : List ℕ) (c : Config) → length operands ≤ operand_limit → go_on operands c ≡ Went (at_place (c.place + 1) operands c)
goes operands c le =
    ap (λ (b : Bool). if b then Went (at_place (c.place + 1) operands c) else Stuck) (le-leb (length operands) operand_limit le)

module _ (code : Code) (s : Standing) where
  -- the step at a place
  pub stepped : (i : Instr) (place : ℕ) (stack : List ℕ) (n : ℕ) (answers : List Answer) (done : Done) → slice_get code.instrs place ≡ Some i
      → one_step code (at s place stack n answers done) ≡ act code (Some i) (at s place stack n answers done)
  stepped i place stack n answers done here = ap (λ o. act code o (at s place stack n answers done)) here

  -- an instruction that changes the operands alone
  simply : (i : Instr) (place : ℕ) (stack rest : List ℕ) (most : ℕ) (next : Rest) → slice_get code.instrs place ≡ Some i
      → length rest ≤ operand_limit
      → ((n : ℕ) (answers : List Answer) (done : Done) → act code (Some i) (at s place stack n answers done) ≡ go_on rest (at s place stack n answers done))
      → Does code s (place + 1) rest most next → Does code s place stack most next
  simply i place stack rest most next here fits acts d = record {
    by = λ n answers done le top.
        went code _ _ _ _ (stepped i place stack n answers done here ∙ acts n answers done ∙ goes rest (at s place stack n answers done) fits)
        (d.by n answers done le top);
  }

  pub does_push : (word place : ℕ) (stack : List ℕ) (most : ℕ) (next : Rest) → slice_get code.instrs place ≡ Some (instr.Push word)
      → length stack < operand_limit → Does code s (place + 1) (word ∷ stack) most next → Does code s place stack most next
  unfolding act
  does_push word place stack most next here fits d =
      simply (instr.Push word) place stack (word ∷ stack) most next here (omega (arith, fits)) (λ n answers done. refl) d

  pub does_pop : (x place : ℕ) (stack : List ℕ) (most : ℕ) (next : Rest) → slice_get code.instrs place ≡ Some instr.Pop
      → length stack ≤ operand_limit → Does code s (place + 1) stack most next → Does code s place (x ∷ stack) most next
  unfolding act
  does_pop x place stack most next here fits d =
      simply instr.Pop place (x ∷ stack) stack most next here fits (λ n answers done. refl) d

  pub does_dup : (x place : ℕ) (stack : List ℕ) (most : ℕ) (next : Rest) → slice_get code.instrs place ≡ Some instr.Dup
      → length stack + 2 ≤ operand_limit → Does code s (place + 1) (x ∷ x ∷ stack) most next → Does code s place (x ∷ stack) most next
  unfolding act
  does_dup x place stack most next here fits d =
      simply instr.Dup place (x ∷ stack) (x ∷ x ∷ stack) most next here (omega (arith, fits)) (λ n answers done. refl) d

  pub does_unary : (o : UnaryOperator) (k : Kind) (x place : ℕ) (stack : List ℕ) (most : ℕ) (next : Rest)
      → slice_get code.instrs place ≡ Some (instr.Unary o k) → length stack < operand_limit
      → Does code s (place + 1) (operate_one o k x ∷ stack) most next → Does code s place (x ∷ stack) most next
  unfolding act
  does_unary o k x place stack most next here fits d =
      simply (instr.Unary o k) place (x ∷ stack) (operate_one o k x ∷ stack) most next here (omega (arith, fits)) (λ n answers done. refl) d

  pub does_extend : (k : Kind) (x place : ℕ) (stack : List ℕ) (most : ℕ) (next : Rest)
      → slice_get code.instrs place ≡ Some (instr.Extend k) → length stack < operand_limit
      → Does code s (place + 1) (extended k x ∷ stack) most next → Does code s place (x ∷ stack) most next
  unfolding act
  does_extend k x place stack most next here fits d =
      simply (instr.Extend k) place (x ∷ stack) (extended k x ∷ stack) most next here (omega (arith, fits)) (λ n answers done. refl) d

  pub does_local : (offset place : ℕ) (stack : List ℕ) (most : ℕ) (next : ℕ → Rest) → slice_get code.instrs place ≡ Some (instr.Local offset)
      → length stack < operand_limit → ((x : ℕ) → Does code s (place + 1) (x ∷ stack) most (next x))
      → Does code s place stack most (with_memory (λ m. next (address_of m (s.start + offset))))
  unfolding act
  does_local offset place stack most next here fits d = record {
    by = λ n answers done le top. let a = address_of done.memory (s.start + offset) in
        went code _ _ _ _ (stepped (instr.Local offset) place stack n answers done here ∙ goes (a ∷ stack) (at s place stack n answers done) (omega (arith, fits)))
        ((d a).by n answers done le top);
  }

  pub does_global : (offset place : ℕ) (stack : List ℕ) (most : ℕ) (next : ℕ → Rest) → slice_get code.instrs place ≡ Some (instr.Global offset)
      → length stack < operand_limit → ((x : ℕ) → Does code s (place + 1) (x ∷ stack) most (next x))
      → Does code s place stack most (with_memory (λ m. next (address_of m (globals_start + offset))))
  unfolding act
  does_global offset place stack most next here fits d = record {
    by = λ n answers done le top. let a = address_of done.memory (globals_start + offset) in
        went code _ _ _ _ (stepped (instr.Global offset) place stack n answers done here ∙ goes (a ∷ stack) (at s place stack n answers done) (omega (arith, fits)))
        ((d a).by n answers done le top);
  }

  -- a trap at a place of this line
  pub at_trap : (cause : TrapCause) (place : ℕ) (stack rest : List ℕ) (here : Here) (n : ℕ) (answers : List Answer) (done : Done) → Told code place here
      → one_step code (at s place stack n answers done) ≡ machine.trapped code cause rest (at s place stack n answers done)
      → Stops code (at s place stack n answers done) (traps cause here n answers done).stop (traps cause here n answers done).done
  at_trap cause place stack rest here n answers done told e =
      stopped code _ _ _ (e ∙ ap (λ (p : Place). Stopped (Trapped cause p.unit p.line) (at s place rest n answers done)) told)

  pub does_load : (k : Kind) (a place : ℕ) (stack : List ℕ) (most : ℕ) (here : Here) (next : ℕ → Rest) → slice_get code.instrs place ≡ Some (instr.Load k)
      → Told code place here → length stack < operand_limit
      → ((x : ℕ) → IsWordOf k x → Does code s (place + 1) (x ∷ stack) most (next x)) → Does code s place (a ∷ stack) most (load k a here next)
  unfolding act loaded
  does_load k a place stack most here next is told fits d = record {
    by = λ n answers done le top. read n answers done le top (number_of done.memory.areas a (bytes_in (width_of k)))
        (stepped (instr.Load k) place (a ∷ stack) n answers done is);
  }
    where
      read : (n : ℕ) (answers : List Answer) (done : Done) → n ≤ most → stack_top done.memory ≡ s.finish → (o : Option ℕ)
          → one_step code (at s place (a ∷ stack) n answers done) ≡ machine.reading code (option_map (extended k) o) stack (at s place (a ∷ stack) n answers done)
          → Stops code (at s place (a ∷ stack) n answers done)
          (reading (option_map (extended k) o) here next n answers done).stop (reading (option_map (extended k) o) here next n answers done).done
      read n answers done le top None e = at_trap BadAddress place (a ∷ stack) stack here n answers done told e
      read n answers done le top (Some x) e =
          went code _ _ _ _ (e ∙ goes (extended k x ∷ stack) (at s place (a ∷ stack) n answers done) (omega (arith, fits)))
          ((d (extended k x) (are_words k x)).by n answers done le top)

  -- what is written, or a trap
  written : (place : ℕ) (stack rest : List ℕ) (most : ℕ) (here : Here) (next : Rest) → Told code place here → length rest ≤ operand_limit
      → Does code s (place + 1) rest most next
      → (n : ℕ) (answers : List Answer) (done : Done) → n ≤ most → stack_top done.memory ≡ s.finish → (o : Option Memory)
      → ((m : Memory) → o ≡ Some m → stack_top m ≡ stack_top done.memory)
      → one_step code (at s place stack n answers done) ≡ machine.writing code o rest (at s place stack n answers done)
      → Stops code (at s place stack n answers done) (writing o here next n answers done).stop (writing o here next n answers done).done
  written place stack rest most here next told fits d n answers done le top None keeps e = at_trap BadAddress place stack rest here n answers done told e
  written place stack rest most here next told fits d n answers done le top (Some m) keeps e =
      went code _ _ _ _ (e ∙ goes rest (machine.with_memory m (at s place stack n answers done)) fits) (d.by n answers _ le (keeps m refl ∙ top))

  pub does_store : (k : Kind) (a word place : ℕ) (stack : List ℕ) (most : ℕ) (here : Here) (next : Rest) → slice_get code.instrs place ≡ Some (instr.Store k)
      → Told code place here → length stack < operand_limit
      → Does code s (place + 1) (word ∷ stack) most next → Does code s place (word ∷ a ∷ stack) most (store k a word here next)
  unfolding act
  does_store k a word place stack most here next is told fits d = record {
    by = λ n answers done le top. written place (word ∷ a ∷ stack) (word ∷ stack) most here next told (omega (arith, fits)) d n answers done le top
        (stored done.memory k a word) (λ m e. stored_keeps done.memory m k a word e) (stepped (instr.Store k) place (word ∷ a ∷ stack) n answers done is);
  }

  pub does_copy : (size to from place : ℕ) (stack : List ℕ) (most : ℕ) (here : Here) (next : Rest) → slice_get code.instrs place ≡ Some (instr.Copy size)
      → Told code place here → length stack < operand_limit
      → Does code s (place + 1) (to ∷ stack) most next
      → Does code s place (from ∷ to ∷ stack) most (with_memory (λ m. writing (copied m to from size) here next))
  unfolding act
  does_copy size to from place stack most here next is told fits d = record {
    by = λ n answers done le top. written place (from ∷ to ∷ stack) (to ∷ stack) most here next told (omega (arith, fits)) d n answers done le top
        (copied done.memory to from size) (λ m e. copied_keeps done.memory m to from size e) (stepped (instr.Copy size) place (from ∷ to ∷ stack) n answers done is);
  }

  pub does_zero : (size a place : ℕ) (stack : List ℕ) (most : ℕ) (here : Here) (next : Rest) → slice_get code.instrs place ≡ Some (instr.Zero size)
      → Told code place here → length stack ≤ operand_limit
      → Does code s (place + 1) stack most next
      → Does code s place (a ∷ stack) most (with_memory (λ m. writing (zeroed m a size) here next))
  unfolding act
  does_zero size a place stack most here next is told fits d = record {
    by = λ n answers done le top. written place (a ∷ stack) stack most here next told fits d n answers done le top
        (zeroed done.memory a size) (λ m e. zeroed_keeps done.memory m a size e) (stepped (instr.Zero size) place (a ∷ stack) n answers done is);
  }

  pub does_binary : (o : Operator) (k : Kind) (x y place : ℕ) (stack : List ℕ) (most : ℕ) (here : Here) (next : ℕ → Rest)
      → slice_get code.instrs place ≡ Some (instr.Binary o k) → Told code place here → length stack < operand_limit
      → ((z : ℕ) → Does code s (place + 1) (z ∷ stack) most (next z)) → Does code s place (y ∷ x ∷ stack) most (with_result (operate o k x y) here next)
  unfolding act
  does_binary o k x y place stack most here next is told fits d = record {
    by = λ n answers done le top. given n answers done le top (operate o k x y) (stepped (instr.Binary o k) place (y ∷ x ∷ stack) n answers done is);
  }
    where
      given : (n : ℕ) (answers : List Answer) (done : Done) → n ≤ most → stack_top done.memory ≡ s.finish → (r : Result ℕ TrapCause)
          → one_step code (at s place (y ∷ x ∷ stack) n answers done) ≡ machine.with_result code r stack (at s place (y ∷ x ∷ stack) n answers done)
          → Stops code (at s place (y ∷ x ∷ stack) n answers done) (with_result r here next n answers done).stop (with_result r here next n answers done).done
      given n answers done le top (Ok z) e =
          went code _ _ _ _ (e ∙ goes (z ∷ stack) (at s place (y ∷ x ∷ stack) n answers done) (omega (arith, fits))) ((d z).by n answers done le top)
      given n answers done le top (Err cause) e = at_trap cause place (y ∷ x ∷ stack) stack here n answers done told e

  -- an operator that gives this word
  pub does_word : (o : Operator) (k : Kind) (x y z place : ℕ) (stack : List ℕ) (most : ℕ) (next : Rest)
      → slice_get code.instrs place ≡ Some (instr.Binary o k) → length stack < operand_limit → operate o k x y ≡ Ok z
      → Does code s (place + 1) (z ∷ stack) most next → Does code s place (y ∷ x ∷ stack) most next
  unfolding act
  does_word o k x y z place stack most next is fits gives d =
      simply (instr.Binary o k) place (y ∷ x ∷ stack) (z ∷ stack) most next is (omega (arith, fits))
      (λ n answers done. ap (λ r. machine.with_result code r stack (at s place (y ∷ x ∷ stack) n answers done)) gives) d

  pub does_jump : (to place : ℕ) (stack : List ℕ) (most : ℕ) (next : Rest) → slice_get code.instrs place ≡ Some (instr.Jump to)
      → Does code s to stack most next → Does code s place stack most next
  unfolding act
  does_jump to place stack most next is d = record {
    by = λ n answers done le top. went code _ _ _ _ (stepped (instr.Jump to) place stack n answers done is) (d.by n answers done le top);
  }

  -- the way that a word decides
  pub does_if_zero : (to x place : ℕ) (stack : List ℕ) (most : ℕ) (first second : Rest) → slice_get code.instrs place ≡ Some (instr.JumpIfZero to)
      → Does code s (place + 1) stack most first → Does code s to stack most second → Does code s place (x ∷ stack) most (choose x first second)
  unfolding act
  does_if_zero to x place stack most first second is d e = record {
    by = λ n answers done le top. way n answers done le top (nat_eq x 0) (stepped (instr.JumpIfZero to) place (x ∷ stack) n answers done is);
  }
    where
      way : (n : ℕ) (answers : List Answer) (done : Done) → n ≤ most → stack_top done.memory ≡ s.finish → (b : Bool)
          → one_step code (at s place (x ∷ stack) n answers done) ≡ Went (at s (if b then to else place + 1) stack n answers done)
          → Stops code (at s place (x ∷ stack) n answers done) ((if b then second else first) n answers done).stop ((if b then second else first) n answers done).done
      way n answers done le top true st = went code _ _ _ _ st (e.by n answers done le top)
      way n answers done le top false st = went code _ _ _ _ st (d.by n answers done le top)

  pub does_if_not : (to x place : ℕ) (stack : List ℕ) (most : ℕ) (first second : Rest) → slice_get code.instrs place ≡ Some (instr.JumpIfNot to)
      → Does code s to stack most first → Does code s (place + 1) stack most second → Does code s place (x ∷ stack) most (choose x first second)
  unfolding act
  does_if_not to x place stack most first second is d e = record {
    by = λ n answers done le top. way n answers done le top (nat_eq x 0) (stepped (instr.JumpIfNot to) place (x ∷ stack) n answers done is);
  }
    where
      way : (n : ℕ) (answers : List Answer) (done : Done) → n ≤ most → stack_top done.memory ≡ s.finish → (b : Bool)
          → one_step code (at s place (x ∷ stack) n answers done) ≡ Went (at s (if b then place + 1 else to) stack n answers done)
          → Stops code (at s place (x ∷ stack) n answers done) ((if b then second else first) n answers done).stop ((if b then second else first) n answers done).done
      way n answers done le top true st = went code _ _ _ _ st (e.by n answers done le top)
      way n answers done le top false st = went code _ _ _ _ st (d.by n answers done le top)

  pub does_tick : (unit line place : ℕ) (stack : List ℕ) (most : ℕ) (next : Rest) → slice_get code.instrs place ≡ Some (instr.Tick unit line)
      → length stack ≤ operand_limit
      → ((less : ℕ) → less < most → Does code s (place + 1) stack less next) → Does code s place stack most (tick next)
  unfolding act
  does_tick unit line place stack most next is fits d = record { by = turn }
    where
      turn : (n : ℕ) (answers : List Answer) (done : Done) → n ≤ most → stack_top done.memory ≡ s.finish
          → Stops code (at s place stack n answers done) (tick next n answers done).stop (tick next n answers done).done
      turn zero answers done le top = stopped code _ _ Paused (stepped (instr.Tick unit line) place stack zero answers done is)
      turn (suc n) answers done le top =
          went code _ _ _ _ (stepped (instr.Tick unit line) place stack (suc n) answers done is
          ∙ goes stack (at s place stack n answers (with_ticks done)) fits) ((d n (omega (arith, le))).by n answers _ (omega arith) top)
