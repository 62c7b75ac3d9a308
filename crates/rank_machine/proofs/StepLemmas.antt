-- One instruction, by what its function does.
use Rattle.std.proofs.Common.{◌≡◌, ℕ, suc, ◌+◌, ◌<◌, ◌≤◌, ◌∙◌, Bool, true, false, List, [], length, take, drop, reverse, refl, sym, ap, Option, Some, Result, Ok, Err, IfOk}
use Rattle.std.specs.Prelude.{nat_le}
use Rattle.std.proofs.lemmas.Bool.{le-leb, lt-leb}
use Rattle.std.proofs.lemmas.List.{append-nil}
use Rattle.am_base.specs.declared.calls.LibCall.{LibCall}
use Rattle.rank_range.specs.declared.run.Output.{Output}
use Rattle.vm_code.specs.declared.code.Code.{Code}
use Rattle.vm_code.specs.declared.instr.Instr.{Instr}
use Rattle.vm_code.specs.declared.instr.Instr.TheVariants.{Tick, Library}
use Rattle.vm_code.specs.Bounded.{is_tick}
use Rattle.vm_code.specs.Machine.{act, operand_limit}
use Rattle.rank_machine.specs.declared.work.Work.{Work}
use Rattle.rank_machine.specs.declared.halt.Halt.{Halt}
use Rattle.rank_machine.specs.declared.halt.Halt.TheVariants as halt
use Rattle.rank_machine.specs.View.{Tally, config_of}
use Rattle.rank_machine.specs.Steps.{On, Advanced, CallsLibrary, shown, shown_by, before, behind, with_out}
use Rattle.rank_machine.proofs.LibraryLemmas.{no_text}

-- the same machine, where nothing was printed
silent : (code : Code) (halt : Option Halt) (new : Work) (rank top : ℕ) (bytes : List ℕ) (b : Bool) (tally : Tally)
    → shown_by code halt (config_of new rank top bytes (behind b (with_out [] tally))) ≡ shown_by code halt (config_of new rank top bytes (behind b tally))
silent code halt new rank top bytes true tally =
    ap (λ (text : List ℕ). shown_by code halt (config_of new rank top bytes (record tally { text = text; ticks = tally.ticks + 1 }))) (append-nil tally.text)
silent code halt new rank top bytes false tally =
    ap (λ (text : List ℕ). shown_by code halt (config_of new rank top bytes (record tally { text = text }))) (append-nil tally.text)

pub quietly : (code : Code) (instr : Instr) (halt : Option Halt) (old new : Work) (rank old_top new_top : ℕ) (old_bytes new_bytes : List ℕ) (output : Output)
    (b : Bool) → is_tick (Some instr) ≡ b
    → ((tally : Tally) → shown_by code halt (config_of new rank new_top new_bytes (behind b tally))
    ≡ shown (act code (Some instr) (config_of old rank old_top old_bytes (before b tally))))
    → Advanced code instr halt old new rank old_top new_top old_bytes new_bytes output output
quietly code instr halt old new rank old_top new_top old_bytes new_bytes output b is step = record {
  out = [];
  output = no_text output;
  moved = λ tally size.
      ap (λ (t : Bool). shown_by code halt (config_of new rank new_top new_bytes (behind t (with_out [] tally)))) is
      ∙ silent code halt new rank new_top new_bytes b tally ∙ step tally
      ∙ ap (λ (t : Bool). shown (act code (Some instr) (config_of old rank old_top old_bytes (before t tally)))) (sym is);
}

pub tick_on : (code : Code) (work new : Work) (unit line rank top : ℕ) (bytes : List ℕ) (tally : Tally) → length work.operands ≤ operand_limit
    → new ≡ record work { place = work.place + 1 }
    → On (config_of new rank top bytes (record tally { ticks = tally.ticks + 1 }))
    ≡ shown (act code (Some (Tick unit line)) (config_of work rank top bytes (record tally { left = suc tally.left })))
unfolding act
tick_on code work new unit line rank top bytes tally few is =
    let t : nat_le (length work.operands) operand_limit ≡ true = le-leb _ operand_limit few in
    ap (λ (w : Work). On (config_of w rank top bytes (record tally { ticks = tally.ticks + 1 }))) is ∙ sym (rw t refl)

pub library_lost : (code : Code) (call : LibCall) (count : ℕ) (work : Work) (rank top : ℕ) (bytes : List ℕ) (output : Output) → length work.operands < count
    → Advanced code (Library call count) (Some halt.Lost) work work rank top top bytes bytes output output
unfolding act
library_lost code call count work rank top bytes output few =
    quietly code (Library call count) (Some halt.Lost) work work rank top top bytes bytes output true refl
    (λ tally. let t : nat_le count (length work.operands) ≡ false = lt-leb count (length work.operands) few in sym (rw t refl))

pub library_advanced : (code : Code) (call : LibCall) (count : ℕ) (halt : Option Halt) (old new : Work) (rank top new_top : ℕ) (old_bytes new_bytes : List ℕ)
    (old_output new_output : Output) → count ≤ length old.operands → new_top ≡ top
    → CallsLibrary call (reverse (take count old.operands)) (drop count old.operands) halt old new rank top old_bytes new_bytes old_output new_output
    → Advanced code (Library call count) halt old new rank top new_top old_bytes new_bytes old_output new_output
unfolding act
library_advanced code call count halt old new rank top new_top old_bytes new_bytes old_output new_output few same calls = record {
  out = calls.out;
  output = calls.output;
  moved = λ tally size.
      let t : nat_le count (length old.operands) ≡ true = le-leb count (length old.operands) few in
      ap (λ (x : ℕ). shown_by code halt (config_of new rank x new_bytes (behind true (with_out calls.out tally)))) same
      ∙ calls.moved code (behind true tally) size ∙ sym (rw t refl);
}

pub library_all : {E : Type 0} (call : LibCall) (count : ℕ) (r : Result (Option Halt) E) (old new : Work) (rank top new_top : ℕ)
    (old_bytes new_bytes : List ℕ) (old_output new_output : Output) → count ≤ length old.operands → new_top ≡ top
    → IfOk r (λ halt. CallsLibrary call (reverse (take count old.operands)) (drop count old.operands) halt old new rank top old_bytes new_bytes old_output new_output)
    → IfOk r (λ halt. (code : Code) → Advanced code (Library call count) halt old new rank top new_top old_bytes new_bytes old_output new_output)
library_all call count (Ok halt) old new rank top new_top old_bytes new_bytes old_output new_output few same calls =
    λ code. library_advanced code call count halt old new rank top new_top old_bytes new_bytes old_output new_output few same calls
library_all call count (Err e) old new rank top new_top old_bytes new_bytes old_output new_output few same calls = tt
