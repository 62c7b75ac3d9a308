-- Calls come in their turn behind a run and behind an answer.
use Rattle.std.proofs.Common.{◌≡◌, ℕ, zero, suc, ◌+◌, ◌-◌, ◌<◌, ◌≤◌, ◌∙◌, inl, inr, Bool, true, false, List, [], ◌∷◌, length, refl, sym, ap, subst, arith, Option, Some, None}
use Rattle.std.specs.Prelude.{ℤ, slice_get}
use Rattle.std.proofs.lemmas.Bool.{true≢false, cases_lt}
use Rattle.rank_range.specs.Layout.{globals_start, range_bytes}
use Rattle.rank_range.specs.Parts.{StayBeside}
use Rattle.rank_range.specs.Areas.{Memory, memory_of}
use Rattle.rank_range.specs.Output.{with_text}
use Rattle.rank_range.specs.declared.run.Output.{Output}
use Rattle.mpi_types.specs.declared.call.Call.{Call}
use Rattle.mpi_types.specs.declared.call.Write.{Write}
use Rattle.mpi_types.specs.declared.call.Answer.{Answer}
use Rattle.mpi_types.specs.declared.call.Answer.TheVariants.{Half, Value}
use Rattle.mpi_rules.specs.Answers.{value_or_half}
use Rattle.vm_code.specs.declared.code.Code.{Code}
use Rattle.vm_code.specs.declared.instr.Instr.{Instr}
use Rattle.vm_code.specs.declared.instr.Instr.TheVariants as instr
use Rattle.vm_code.specs.Memory.{written_all}
use Rattle.vm_code.specs.Stops.{Stop, Done, Waits}
use Rattle.vm_code.specs.Machine.{Config, Frame, Moved, Went, Stopped, exec, follow, one_step, with_memory, Stops, given}
use Rattle.rank_machine.specs.declared.stop.Stop as told
use Rattle.rank_machine.specs.View.{Tally, Rank, record_place, frame_at, frames_of, config_in, config_at}
use Rattle.rank_machine.specs.Runs.{with_ticks, run_on, LeadsTo}
use Rattle.rank_machine.specs.Ran.{Stands, Ran, Unopened, Gone, is_mpi, goes_on}
use Rattle.rank_machine.specs.Answered.{StepsBy, IsAnswered}
use Rattle.rank_machine.specs.Onward.{AtMpi, HasWritten}
use Rattle.rank_machine.proofs.FrameLemmas.{Same, frame_with, frame_stands, frames_stand}
use Rattle.rank_machine.proofs.CallLemmas.{config_with}
use Rattle.rank_machine.proofs.JoinLemmas.{leads_on, output_on, longer}
use Rattle.rank_core.specs.Turns.{is_half, ends_half, begun_in, IsInTurn, AsksInTurn, AsksOn}
use Rattle.rank_core.specs.Settled.{AnswersAreSteps, AnswersAskOn, begun_by}

pub given_in : (code : Code) (rank : Rank) (depth left : ℕ) (answers : List Answer) (tally : Tally)
    → given left answers (config_in code rank depth tally) ≡ config_in code rank depth (record tally { left = left; answers = answers })
given_in code rank zero left answers tally = refl
given_in code rank (suc number) left answers tally = refl

pub made_in : (code : Code) (rank : Rank) (depth : ℕ) (tally : Tally) → (config_in code rank depth tally).done.made ≡ tally.made
made_in code rank zero tally = refl
made_in code rank (suc number) tally = refl

-- ---- behind a run

-- a machine that leads to where another one stops, stops so
from_there : (code : Code) (from to : Tally → Config) (printed taken : ℕ) (out : List ℕ) (tally : Tally) (s : Stop) (d : Done)
    → LeadsTo code from to printed taken out → length tally.text ≡ printed → Stops code (to (run_on taken out tally)) s d
    → Stops code (from (with_ticks taken tally)) s d
from_there code from to printed taken out tally s d leads size stops = record {
  instructions = leads.count + stops.instructions;
  last = stops.last;
  reached = leads.joined tally stops.instructions size ∙ stops.reached;
  done_is = stops.done_is;
}

lead_asks : (code : Code) (old new : Rank) (printed taken : ℕ) (out : List ℕ) (tally : Tally) (half : Bool) → length tally.text ≡ printed
    → LeadsTo code (config_at code old) (config_at code new) printed taken out → AsksInTurn code (config_at code old tally) half
    → AsksInTurn code (config_at code new (run_on taken out tally)) half
lead_asks code old new printed taken out tally half size leads asks = record {
  turn = λ left answers call done stops.
      let now : Tally = record tally { left = left; answers = answers } in
      let there : Stops code (config_at code new (run_on taken out now)) (Waits call) done =
      subst (λ (c : Config). Stops code c (Waits call) done) (given_in code new new.depth left answers (run_on taken out tally)) stops in
      let here = from_there code (config_at code old) (config_at code new) printed taken out now (Waits call) done leads size there in
      asks.turn (taken + left) answers call done
      (subst (λ (c : Config). Stops code c (Waits call) done) (sym (given_in code old old.depth (taken + left) answers tally)) here);
}

ran_asks_on : (code : Code) (old new : Rank) (budget : ℕ) (old_output new_output : Output) (result : told.Stop) (begun : Option Call)
    → AsksOn code old old_output.printed begun → Ran code old budget old_output new_output result new → goes_on result ≡ true
    → AsksOn code new new_output.printed begun
ran_asks_on code old new budget old_output new_output result begun asks ran on =
    let leads = leads_on code (config_at code old) old_output.printed new ran.taken ran.left ran.out result on ran.stops in
    let printed : new_output ≡ with_text old_output ran.out = ran.output ∙ output_on result (with_text old_output ran.out) on in
    record {
      tally = run_on ran.taken ran.out asks.tally;
      half = asks.half;
      size = longer old_output.printed ran.taken ran.out asks.tally asks.size ∙ sym (ap (λ (o : Output). o.printed) printed);
      begun_is = asks.begun_is;
      asks = lead_asks code old new old_output.printed ran.taken ran.out asks.tally asks.half asks.size leads asks.asks;
    }

pub gone_asks_on : (code : Code) (old new : Rank) (budget : ℕ) (old_output new_output : Output) (result : told.Stop) (begun : Option Call)
    → AsksOn code old old_output.printed begun → Gone code old budget old_output new_output result new → goes_on result ≡ true
    → AsksOn code new new_output.printed begun
gone_asks_on code old new budget old_output new_output result begun asks (inl u) on =
    subst (λ (o : Output). AsksOn code new o.printed begun) (sym u.output)
    (subst (λ (r : Rank). AsksOn code r old_output.printed begun) (sym u.rank) asks)
gone_asks_on code old new budget old_output new_output result begun asks (inr ran) on =
    ran_asks_on code old new budget old_output new_output result begun asks ran on

-- ---- behind an answer

in_a_call : (code : Code) (rank : Rank) → Stands code rank → is_mpi (slice_get code.instrs rank.place) ≡ true → 0 < rank.depth
in_a_call code rank stands call =
    elim (cases_lt 0 rank.depth) [
      | inl some ↦ some
      | inr none ↦
          let first = stands.first (omega (arith, none)) in
          let at : slice_get code.instrs rank.place ≡ Some (instr.Call first.calls.function first.calls.count) =
          ap (slice_get code.instrs) first.place ∙ first.calls.found in
          absurd (true≢false (sym call ∙ ap is_mpi at))
    ]

deeper : (depth : ℕ) → 0 < depth → depth ≡ suc (depth - 1)
deeper depth some = omega (arith, some)

controls_stay : (old new : List ℕ) → StayBeside old new globals_start range_bytes → Same old new 4096 globals_start
controls_stay old new beside i low below = beside.at i (inl below)

frame_beside : (old new : List ℕ) (top depth : ℕ) → StayBeside old new globals_start range_bytes → depth ≤ 256 → 0 < depth
    → frame_at new top (record_place (depth - 1)) ≡ frame_at old top (record_place (depth - 1))
frame_beside old new top depth beside few some =
    frame_stands old new top (record_place (depth - 1)) 4096 globals_start (controls_stay old new beside) (omega arith) (omega (arith, few, some))

callers_beside : (old new : List ℕ) (top depth : ℕ) → StayBeside old new globals_start range_bytes → depth ≤ 256 → 0 < depth
    → frames_of new top (depth - 1) ≡ frames_of old top (depth - 1)
callers_beside old new top depth beside few some =
    frames_stand old new top (depth - 1) globals_start (controls_stay old new beside) (omega (arith, few, some))

-- the machine before the call has written
before_writes : (code : Code) (rank : Rank) (bytes : List ℕ) (tally : Tally) → StayBeside rank.bytes bytes globals_start range_bytes → rank.depth ≤ 256 → 0 < rank.depth
    → with_memory (memory_of rank.number rank.top rank.bytes) (config_at code (record rank { bytes = bytes }) tally) ≡ config_at code rank tally
before_writes code rank bytes tally beside few some =
    let n = rank.depth - 1 in
    let m = memory_of rank.number rank.top rank.bytes in
    let now : Tally = record tally { ticks = rank.ticks } in
    let framed : Frame → List Frame → Config = λ f callers. config_with rank.place (frame_with f.back f.start rank.top f.operands) callers m now in
    ap (λ (d : ℕ). with_memory m (config_in code (record rank { bytes = bytes }) d tally)) (deeper rank.depth some)
    ∙ ap (λ (f : Frame). framed f (frames_of bytes rank.top n)) (frame_beside rank.bytes bytes rank.top rank.depth beside few some)
    ∙ ap (framed (frame_at rank.bytes rank.top (record_place n))) (callers_beside rank.bytes bytes rank.top rank.depth beside few some)
    ∙ sym (ap (λ (d : ℕ). config_in code rank d tally) (deeper rank.depth some))

with_own_memory : (code : Code) (rank : Rank) (depth : ℕ) (tally : Tally)
    → with_memory (memory_of rank.number rank.top rank.bytes) (config_in code rank depth tally) ≡ config_in code rank depth tally
with_own_memory code rank zero tally = refl
with_own_memory code rank (suc number) tally = refl

nothing_written : (m : Memory) → written_all m [] ≡ m
unfolding written_all
nothing_written m = refl

answer_step : (code : Code) (old new : Rank) (bytes : List ℕ) (value : Option ℤ) (writes : List Write) (call : Call)
    → StayBeside old.bytes bytes globals_start range_bytes → old.depth ≤ 256 → 0 < old.depth → HasWritten old bytes value writes
    → StepsBy code (record old { bytes = bytes }) value new call → (tally : Tally) (left : ℕ) (answers : List Answer)
    → one_step code (config_at code old (record tally { left = suc left; answers = value_or_half value writes ∷ answers }))
    ≡ Went (config_at code new (record tally { made = call ∷ tally.made; left = left; answers = answers }))
answer_step code old new bytes None writes call beside few some written step tally left answers =
    let now : Tally = record tally { left = suc left; answers = Half ∷ answers } in
    let there : Rank = record old { bytes = bytes } in
    let same : memory_of old.number old.top old.bytes ≡ memory_of old.number old.top bytes =
    sym (ap (written_all (memory_of old.number old.top old.bytes)) (written.nothing refl) ∙ nothing_written (memory_of old.number old.top old.bytes)) ∙ written.written in
    let is : config_at code there now ≡ config_at code old now =
    sym (with_own_memory code there old.depth now)
    ∙ ap (λ (m : Memory). with_memory m (config_at code there now)) (sym same)
    ∙ before_writes code old bytes now beside few some in
    sym (ap (one_step code) is) ∙ step tally left answers
answer_step code old new bytes (Some v) writes call beside few some written step tally left answers =
    let now : Tally = record tally { left = suc left; answers = Value v writes ∷ answers } in
    let m = memory_of old.number old.top old.bytes in
    sym (ap (one_step code) (before_writes code old bytes now beside few some)) ∙ step tally left answers m writes written.written

pub answers_are_steps : AnswersAreSteps
answers_are_steps code old new bytes value writes at written answered =
    answer_step code old new bytes value writes answered.call at.beside at.stands.deep (in_a_call code old at.stands at.call) written answered.step

-- one step before
one_before : (code : Code) (c d : Config) (stop : Stop) (done : Done) → one_step code c ≡ Went d → Stops code d stop done → Stops code c stop done
one_before code c d stop done went s = record {
  instructions = suc s.instructions;
  last = s.last;
  reached = ap (λ (m : Moved). follow m (exec code s.instructions)) went ∙ s.reached;
  done_is = s.done_is;
}

begun_now : (value : Option ℤ) (writes : List Write) (call : Call) (made : List Call)
    → begun_by value call ≡ begun_in (is_half (value_or_half value writes)) (call ∷ made)
begun_now None writes call made = refl
begun_now (Some v) writes call made = refl

pub answers_ask_on : AnswersAskOn
answers_ask_on code old new bytes printed value writes begun asks at written answered =
    let step = answers_are_steps code old new bytes value writes at written answered in
    let now : Tally = record (asks.tally) { made = answered.call ∷ asks.tally.made } in
    record {
      tally = now;
      half = is_half (value_or_half value writes);
      size = asks.size;
      begun_is = begun_now value writes answered.call asks.tally.made;
      asks = record {
        turn = λ left answers call done stops.
            let there : Stops code (config_at code new (record now { left = left; answers = answers })) (Waits call) done =
            subst (λ (c : Config). Stops code c (Waits call) done) (given_in code new new.depth left answers now) stops in
            let here = one_before code _ _ (Waits call) done (step asks.tally left answers) there in
            asks.asks.turn (suc left) (value_or_half value writes ∷ answers) call done
            (subst (λ (c : Config). Stops code c (Waits call) done)
            (sym (given_in code old old.depth (suc left) (value_or_half value writes ∷ answers) asks.tally)) here);
      };
    }
