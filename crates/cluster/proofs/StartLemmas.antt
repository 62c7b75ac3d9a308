-- A rank before its first tick.
use Rattle.std.proofs.Common.{ℕ, ◌≡◌, ◌+◌, ◌%◌, ◌^◌, ◌≤◌, List, [], ◌∷◌, length, take, refl, sym, ap, ◌∙◌, subst, arith, Some}
use Rattle.std.specs.Prelude.{slice_get}
use Rattle.rank_range.specs.Layout.{base_of, globals_start, heap_start, stack_start}
use Rattle.rank_range.specs.Areas.{memory_of}
use Rattle.rank_range.specs.Nodes.{HasHeap}
use Rattle.rank_range.specs.Output.{with_text, lines_behind, part_behind, text_limit}
use Rattle.rank_range.specs.declared.run.Segment.{Segment}
use Rattle.rank_range.specs.declared.run.Output.{Output}
use Rattle.rank_range.specs.declared.run.Ending.TheVariants.{Running}
use Rattle.vm_code.specs.declared.code.Code.{Code}
use Rattle.vm_code.specs.Memory.{opened}
use Rattle.vm_code.specs.Stops.{Paused, Done, nothing_done}
use Rattle.vm_code.specs.Machine.{Config, Goes, Stops, start}
use Rattle.c_types.specs.declared.program.Program.{Program}
use Rattle.c_types.specs.declared.program.Main.{Main}
use Rattle.c_model.specs.Outcome.{Outcome}
use Rattle.c_model.specs.Statements.{run_of, main_run, main_words, parameter_count}
use Rattle.c_model.specs.Means.{Means}
use Rattle.codegen.specs.Answers.{IsMade}
use Rattle.codegen.specs.Laws.{LaidOutCodeBegins, BeginsWithMain}
use Rattle.privatise.specs.Fits.{SegmentsFit}
use Rattle.rank_machine.specs.View.{config_at, words_for}
use Rattle.rank_machine.specs.Ran.{CallsMain, Stands, GoesOn}
use Rattle.rank_machine.specs.Begun.{BeginAtStart}
use Rattle.rank_machine.specs.Onward.{FreshRanksRun, IsFresh}
use Rattle.rank_machine.specs.Opening.{FitsGlobals}
use Rattle.w_model.specs.World.{Setting}
use Rattle.w_model.specs.Texts.{ending_of}
use Rattle.cluster.specs.declared.rank.Rank.{Rank}
use Rattle.cluster.specs.Job.{IsJob}
use Rattle.cluster.specs.Rank.{seen, nothing_printed, output_of, run_at, tally_of, GoesFrom, StandsFor}

pub fits-globals : SegmentsFit → (program : Program) (segment : Segment) (code : Code) → IsJob program segment code → FitsGlobals segment
fits-globals fit program segment code job =
    let fits = fit program segment job.is_segment in
    record { room = fits.room; inside = fits.inside }

abbrev at-start : Segment → ℕ → Outcome
at-start segment number = record { stop = Paused; done = nothing_done (opened segment number) }

start-run : (program : Program) (segment : Segment) (number : ℕ) (main : Main) → program.main ≡ Some main
    → run_of program segment number [] 0 ≡ at-start segment number
unfolding run_of
start-run program segment number main main_is =
    ap (λ m. main_run program segment (opened segment number) m 0 [] (nothing_done (opened segment number))) main_is

calls-main : (code : Code) (program : Program) (segment : Segment) (main : Main) → BeginsWithMain code program segment main → CallsMain code
calls-main code program segment main begins = record {
  function = main.function;
  count = parameter_count program main.function;
  callee = begins.callee;
  found = begins.found;
  few = begins.few;
  there = begins.there;
}

abbrev words : ℕ → ℕ → List ℕ
words number count = take count (1 ∷ (base_of number + globals_start) % 2 ^ 64 ∷ [])

words-called : (code : Code) (program : Program) (segment : Segment) (main : Main) (number : ℕ) → BeginsWithMain code program segment main
    → words_for number (slice_get code.instrs 0) ≡ words number (parameter_count program main.function)
words-called code program segment main number begins = ap (words_for number) begins.found

words-of-main : (segment : Segment) (number count : ℕ) → main_words (opened segment number) count ≡ words number count
unfolding opened
words-of-main segment number count = refl

-- A rank that was opened, and nothing more.
pub record IsOpened (s : Setting) (number : ℕ) (rank : Rank) : Type 0 where
  pub position : rank.regs.position ≡ 0
  pub depth : rank.regs.depth ≡ 0
  pub ticks : rank.regs.ticks ≡ 0
  pub output : rank.regs.output ≡ nothing_printed
  pub running : rank.ending ≡ Running
  pub owner : rank.memory.0 ≡ number
  pub top : rank.memory.1 ≡ stack_start
  pub memory : memory_of rank.memory.0 rank.memory.1 rank.memory.2 ≡ opened s.segment number
  pub heap : HasHeap rank.memory.0 rank.memory.2

-- The laws of code and of the machine.
pub record Laws : Type 0 where
  pub begins : LaidOutCodeBegins
  pub fresh : FreshRanksRun
  pub at_start : BeginAtStart

nothing-printed : with_text nothing_printed [] ≡ nothing_printed
unfolding lines_behind part_behind
nothing-printed = refl

module _ (laws : Laws) (code : Code) (s : Setting) (number : ℕ) (rank : Rank) (job : IsJob s.program s.segment code) (is : IsOpened s number rank) where
  abbrev main : Main
  main = job.is_made.main

  begins : BeginsWithMain code s.program s.segment main
  begins = laws.begins code s.program s.segment main job.is_made.ready.main_is job.is_made.laid_out job.is_made.ready.covered job.is_made.ready.simple

  run-is : run_at s number rank.regs.ticks ≡ at-start s.segment number
  run-is = ap (run_at s number) is.ticks ∙ start-run s.program s.segment number main job.is_made.ready.main_is

  fresh : IsFresh s.segment (seen rank)
  fresh = record {
    place = is.position;
    depth = is.depth;
    ticks = is.ticks;
    top = is.top;
    memory = is.memory ∙ ap (opened s.segment) (sym is.owner);
  }

  may-run : Stands code (seen rank) × GoesOn code (seen rank) 0
  may-run =
      let P : List ℕ → Type 0 = λ ws. Goes code (start (opened s.segment rank.memory.0) ws 0 []) in
      laws.fresh code s.segment (seen rank) (calls-main code s.program s.segment main begins) fresh
      (subst P (sym (words-called code s.program s.segment main rank.memory.0 begins)) (begins.goes rank.memory.0))

  config-is : (n : ℕ) → config_at code (seen rank) (tally_of (run_at s number rank.regs.ticks) n)
      ≡ start (opened s.segment number) (main_words (opened s.segment number) (parameter_count s.program main.function)) n []
  config-is n =
      let count = parameter_count s.program main.function in
      laws.at_start code (seen rank) (tally_of (run_at s number rank.regs.ticks) n) is.position is.depth is.ticks
      (ap (λ (o : Outcome). o.done.text) run-is) (ap (λ (o : Outcome). o.done.made) run-is)
      ∙ ap (λ m. start m (words_for rank.memory.0 (slice_get code.instrs 0)) n []) is.memory
      ∙ ap (λ ws. start (opened s.segment number) ws n [])
      (words-called code s.program s.segment main rank.memory.0 begins ∙ ap (λ k. words k count) is.owner ∙ sym (words-of-main s.segment number count))

  leads : (n : ℕ) → Stops code (config_at code (seen rank) (tally_of (run_at s number rank.regs.ticks) n))
      (run_at s number (rank.regs.ticks + n)).stop (run_at s number (rank.regs.ticks + n)).done
  leads n =
      let all : n ≡ rank.regs.ticks + n = omega (arith, is.ticks) in
      let P : Config → Type 0 = λ c. Stops code c (run_at s number n).stop (run_at s number n).done in
      let Q : ℕ → Type 0 = λ k. Stops code (config_at code (seen rank) (tally_of (run_at s number rank.regs.ticks) n)) (run_at s number k).stop (run_at s number k).done in
      subst Q all (subst P (sym (config-is n)) (job.is_made.means.stops number n []))

  pub stands-start : StandsFor code s number rank
  stands-start = record {
    owner = is.owner;
    ending = is.running ∙ ap (λ (o : Outcome). ending_of o.stop) (sym run-is);
    output = is.output ∙ sym nothing-printed ∙ ap (λ (o : Outcome). output_of o.stop o.done.text) (sym run-is);
    memory = ap (λ (o : Outcome). o.done.memory) run-is ∙ sym is.memory ∙ ap (λ k. memory_of k rank.memory.1 rank.memory.2) is.owner;
    ticks = ap (λ (o : Outcome). o.done.ticks) run-is ∙ sym is.ticks;
    goes_on = λ running. record {
      paused = ap (λ (o : Outcome). o.stop) run-is;
      stands = may-run.0;
      heap = is.heap;
      goes =
          let P : ℕ → Type 0 = λ k. GoesOn code (seen rank) k in
          subst P (ap (λ (x : Output). x.printed) (sym is.output)) may-run.1;
      numbers = omega (arith, ap (λ (x : Output). x.next + length x.unfinished) is.output, ap (λ (x : Output). x.printed) is.output);
      limit = omega (arith, ap (λ (x : Output). x.printed) is.output);
      on = leads;
    };
  }
