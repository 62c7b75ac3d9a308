-- A rank's code goes on from its start, behind a run, and behind an answer.
use Rattle.std.proofs.Common.{◌≡◌, ℕ, zero, suc, ◌+◌, ◌-◌, ◌^◌, ◌<◌, ◌≤◌, ◌∙◌, inl, inr, Bool, true, false, List, [], ◌∷◌, length, drop, refl, sym, ap, subst, arith, Option, Some, None}
use Rattle.std.specs.Prelude.{ℤ, nat_le, nat_lt, slice_get}
use Rattle.std.proofs.lemmas.Bool.{true≢false, le-leb, lt-leb, le-ltb, cases_lt}
use Rattle.am_base.specs.declared.calls.MpiCall.{MpiCall}
use Rattle.rank_range.specs.Layout.{globals_start, range_bytes}
use Rattle.rank_range.specs.Parts.{StayBeside}
use Rattle.rank_range.specs.Areas.{Memory, memory_of}
use Rattle.rank_range.specs.Output.{with_text}
use Rattle.rank_range.specs.declared.run.Output.{Output}
use Rattle.mpi_types.specs.declared.call.Call.{Call}
use Rattle.mpi_types.specs.declared.call.Write.{Write}
use Rattle.mpi_types.specs.declared.call.Answer.{Answer}
use Rattle.mpi_types.specs.declared.call.Answer.TheVariants.{Half, Value}
use Rattle.vm_code.specs.declared.code.Code.{Code}
use Rattle.vm_code.specs.declared.instr.Instr.{Instr}
use Rattle.vm_code.specs.declared.instr.Instr.TheVariants as instr
use Rattle.vm_code.specs.Memory.{opened, written_all}
use Rattle.vm_code.specs.Stops.{Stop, Done}
use Rattle.vm_code.specs.Machine.{Config, Frame, Moved, Went, Stopped, Stuck, act, exec, follow, one_step, start, with_memory, operand_limit, behind_call, second_place, Stops, Goes, given}
use Rattle.vm_code.specs.Laws.{StaysStopped}
use Rattle.rank_machine.specs.declared.work.Work.{Work}
use Rattle.rank_machine.specs.declared.stop.Stop as told
use Rattle.rank_machine.specs.View.{Tally, Rank, record_place, frame_at, frames_of, work_at, config_of, config_in, config_at, words_for}
use Rattle.rank_machine.specs.Runs.{with_ticks, run_on, LeadsTo}
use Rattle.rank_machine.specs.Ran.{Stands, GoesOn, Ran, Unopened, is_mpi, goes_on}
use Rattle.rank_machine.specs.Answered.{TakesAnswer, StepsBy, place_behind}
use Rattle.rank_machine.specs.Onward.{FreshRanksRun, RunsLeadOn, AnswersAreTaken, HasWritten, AnswersLeadOn}
use Rattle.rank_machine.proofs.FrameLemmas.{Same, frame_with, frame_stands, frames_stand}
use Rattle.rank_machine.proofs.CallLemmas.{config_with}
use Rattle.rank_machine.proofs.RestLemmas.{small_place}
use Rattle.rank_machine.proofs.JoinLemmas.{leads_on, output_on, longer}
use Rattle.rank_machine.proofs.BegunLemmas.{begin_at_start}
use Rattle.rank_machine.proofs.AnswerLemmas.{half, done_value}

-- ---- a machine that stops, one instruction on

behind_steps : (code : Code) (c d last : Config) (stop : Stop) (done : Done) (n : ℕ) → one_step code c ≡ Went d → exec code n c ≡ Stopped stop last
    → last.done ≡ done → Stops code d stop done
behind_steps code c d last stop done zero went reached is = absurd (cc (reached))
behind_steps code c d last stop done (suc n) went reached is =
    record { instructions = n; last = last; reached = sym (ap (λ (m : Moved). follow m (exec code n)) went) ∙ reached; done_is = is }

behind_one : (code : Code) (c d : Config) (stop : Stop) (done : Done) → one_step code c ≡ Went d → Stops code c stop done → Stops code d stop done
behind_one code c d stop done went s = behind_steps code c d s.last stop done s.instructions went s.reached s.done_is

not_stuck : (code : Code) (c last : Config) (stop : Stop) (n : ℕ) → one_step code c ≡ Stuck → exec code n c ≡ Stopped stop last → ⊥
not_stuck code c last stop zero stuck reached = cc (reached)
not_stuck code c last stop (suc n) stuck reached =
    let e : Stuck ≡ Stopped stop last = sym (ap (λ (m : Moved). follow m (exec code n)) stuck) ∙ reached in cc (e)

never_stuck : (code : Code) (c : Config) (stop : Stop) (done : Done) → one_step code c ≡ Stuck → Stops code c stop done → ⊥
never_stuck code c stop done stuck s = not_stuck code c s.last stop s.instructions stuck s.reached

no_instruction : (code : Code) (c : Config) → slice_get code.instrs c.place ≡ None → one_step code c ≡ Stuck
unfolding act
no_instruction code c none = ap (λ (o : Option Instr). act code o c) none

near_some : (code : Code) (place : ℕ) (o : Option Instr) → slice_get code.instrs place ≡ o → (o ≡ None → ⊥) → place < 2 ^ 32
near_some code place None found there = absurd (there refl)
near_some code place (Some i) found there = small_place code place i found

-- a machine that stops stands at an instruction
near_place : (code : Code) (c : Config) (stop : Stop) (done : Done) → Stops code c stop done → c.place < 2 ^ 32
near_place code c stop done s =
    near_some code c.place (slice_get code.instrs c.place) refl (λ none. never_stuck code c stop done (no_instruction code c none) s)

-- ---- a call of MPI

record MpiAt (o : Option Instr) : Type 0 where
  call : MpiCall
  count : ℕ
  second : Bool
  is : o ≡ Some (instr.Mpi call count second)

mpi_at : (o : Option Instr) → is_mpi o ≡ true → MpiAt o
mpi_at None t = absurd (true≢false (sym t))
mpi_at (Some (instr.Mpi call count second)) t = record { call = call; count = count; second = second; is = refl }
mpi_at (Some (instr.Tick unit line)) t = absurd (true≢false (sym t))
mpi_at (Some (instr.Call function count)) t = absurd (true≢false (sym t))
mpi_at (Some (instr.Library call count)) t = absurd (true≢false (sym t))
mpi_at (Some (instr.Push word)) t = absurd (true≢false (sym t))
mpi_at (Some instr.Pop) t = absurd (true≢false (sym t))
mpi_at (Some instr.Dup) t = absurd (true≢false (sym t))
mpi_at (Some (instr.Local offset)) t = absurd (true≢false (sym t))
mpi_at (Some (instr.Global offset)) t = absurd (true≢false (sym t))
mpi_at (Some (instr.Load k)) t = absurd (true≢false (sym t))
mpi_at (Some (instr.Store k)) t = absurd (true≢false (sym t))
mpi_at (Some (instr.Copy count)) t = absurd (true≢false (sym t))
mpi_at (Some (instr.Zero count)) t = absurd (true≢false (sym t))
mpi_at (Some (instr.Binary op k)) t = absurd (true≢false (sym t))
mpi_at (Some (instr.Unary op k)) t = absurd (true≢false (sym t))
mpi_at (Some (instr.Extend k)) t = absurd (true≢false (sym t))
mpi_at (Some (instr.Jump place)) t = absurd (true≢false (sym t))
mpi_at (Some (instr.JumpIfZero place)) t = absurd (true≢false (sym t))
mpi_at (Some (instr.JumpIfNot place)) t = absurd (true≢false (sym t))
mpi_at (Some instr.Return) t = absurd (true≢false (sym t))

too_few : (code : Code) (call : MpiCall) (count : ℕ) (second : Bool) (work : Work) (rank top : ℕ) (bytes : List ℕ) (tally : Tally)
    → length work.operands < count → act code (Some (instr.Mpi call count second)) (config_of work rank top bytes tally) ≡ Stuck
unfolding act
too_few code call count second work rank top bytes tally few =
    let t : nat_le count (length work.operands) ≡ false = lt-leb count (length work.operands) few in rw t refl

too_full : (code : Code) (call : MpiCall) (count : ℕ) (second : Bool) (v : ℤ) (work : Work) (rank top left : ℕ) (bytes : List ℕ) (tally : Tally)
    (answers : List Answer) → count ≤ length work.operands → operand_limit ≤ length (drop count work.operands)
    → act code (Some (instr.Mpi call count second)) (config_of work rank top bytes (record tally { left = suc left; answers = Value v [] ∷ answers })) ≡ Stuck
unfolding act
too_full code call count second v work rank top left bytes tally answers enough full =
    let t : nat_le count (length work.operands) ≡ true = le-leb count (length work.operands) enough in
    let u : nat_lt (length (drop count work.operands)) operand_limit ≡ false = le-ltb (length (drop count work.operands)) operand_limit full in
    rw (t, u) refl

written_none : (m : Memory) → written_all m [] ≡ m
unfolding written_all
written_none m = refl

has_enough : (code : Code) (work : Work) (rank top : ℕ) (bytes : List ℕ) (tally : Tally) → Goes code (config_of work rank top bytes tally)
    → (m : MpiAt (slice_get code.instrs work.place)) → m.count ≤ length work.operands
has_enough code work rank top bytes tally goes m =
    elim (cases_lt (length work.operands) m.count) [
      | inl few ↦
          let s = goes.stops 0 [] in
          absurd (never_stuck code (config_of work rank top bytes (record tally { left = 0; answers = [] })) s.0 s.1
          (ap (λ (o : Option Instr). act code o (config_of work rank top bytes (record tally { left = 0; answers = [] }))) m.is
          ∙ too_few code m.call m.count m.second work rank top bytes (record tally { left = 0; answers = [] }) few) s.2)
      | inr enough ↦ enough
    ]

has_room : (code : Code) (work : Work) (rank top : ℕ) (bytes : List ℕ) (tally : Tally) (v : ℤ) → Goes code (config_of work rank top bytes tally)
    → (m : MpiAt (slice_get code.instrs work.place)) → length (drop m.count work.operands) < operand_limit
has_room code work rank top bytes tally v goes m =
    let enough = has_enough code work rank top bytes tally goes m in
    elim (cases_lt (length (drop m.count work.operands)) operand_limit) [
      | inl room ↦ room
      | inr full ↦
          let s = goes.stops 1 (Value v [] ∷ []) in
          absurd (never_stuck code (config_of work rank top bytes (record tally { left = 1; answers = Value v [] ∷ [] })) s.0 s.1
          (ap (λ (o : Option Instr). act code o (config_of work rank top bytes (record tally { left = 1; answers = Value v [] ∷ [] }))) m.is
          ∙ too_full code m.call m.count m.second v work rank top 0 bytes tally [] enough full) s.2)
    ]

near_half : (code : Code) (work : Work) (rank top : ℕ) (bytes : List ℕ) (tally : Tally) → Goes code (config_of work rank top bytes tally)
    → (m : MpiAt (slice_get code.instrs work.place)) → second_place m.second work.place < 2 ^ 32
near_half code work rank top bytes tally goes m =
    let s = goes.stops 1 (Half ∷ []) in
    let now : Tally = record tally { left = 1; answers = Half ∷ [] } in
    let went =
    ap (λ (o : Option Instr). act code o (config_of work rank top bytes now)) m.is
    ∙ half code m.call m.count m.second work rank top 0 bytes tally [] (has_enough code work rank top bytes tally goes m) in
    near_place code _ s.0 s.1 (behind_one code (config_of work rank top bytes now) _ s.0 s.1 went s.2)

near_value : (code : Code) (work : Work) (rank top : ℕ) (bytes : List ℕ) (tally : Tally) (v : ℤ) → Goes code (config_of work rank top bytes tally)
    → (m : MpiAt (slice_get code.instrs work.place)) → behind_call m.second work.place < 2 ^ 32
near_value code work rank top bytes tally v goes m =
    let s = goes.stops 1 (Value v [] ∷ []) in
    let now : Tally = record tally { left = 1; answers = Value v [] ∷ [] } in
    let went =
    ap (λ (o : Option Instr). act code o (config_of work rank top bytes now)) m.is
    ∙ done_value code m.call m.count m.second v work rank top 0 bytes tally [] (memory_of rank top bytes) []
    (has_enough code work rank top bytes tally goes m) (has_room code work rank top bytes tally v goes m) (written_none (memory_of rank top bytes)) in
    near_place code _ s.0 s.1 (behind_one code (config_of work rank top bytes now) _ s.0 s.1 went s.2)

near_behind : (code : Code) (work : Work) (rank top : ℕ) (bytes : List ℕ) (tally : Tally) (value : Option ℤ) → Goes code (config_of work rank top bytes tally)
    → (m : MpiAt (slice_get code.instrs work.place)) → place_behind m.second value work.place < 2 ^ 32
near_behind code work rank top bytes tally None goes m = near_half code work rank top bytes tally goes m
near_behind code work rank top bytes tally (Some v) goes m = near_value code work rank top bytes tally v goes m

takes_at : (code : Code) (work : Work) (rank top : ℕ) (bytes : List ℕ) (tally : Tally) (value : Option ℤ) → Goes code (config_of work rank top bytes tally)
    → MpiAt (slice_get code.instrs work.place) → TakesAnswer code work.place work.operands value
takes_at code work rank top bytes tally value goes m = record {
  call = m.call;
  count = m.count;
  second = m.second;
  found = m.is;
  enough = has_enough code work rank top bytes tally goes m;
  near = near_behind code work rank top bytes tally value goes m;
  room = λ v some. has_room code work rank top bytes tally v goes m;
}

-- ---- the rank

in_a_call : (code : Code) (rank : Rank) → Stands code rank → is_mpi (slice_get code.instrs rank.place) ≡ true → 0 < rank.depth
in_a_call code rank stands call =
    elim (cases_lt 0 rank.depth) [
      | inl some ↦ some
      | inr none ↦
          let first = stands.first (omega (arith, none)) in
          let at : slice_get code.instrs rank.place ≡ Some (instr.Call first.calls.function first.calls.count) =
          ap (slice_get code.instrs) first.place ∙ first.calls.found in
          absurd (true≢false (sym call ∙ ap is_mpi at))
    ]

deeper : (depth : ℕ) → 0 < depth → depth ≡ suc (depth - 1)
deeper depth some = omega (arith, some)

controls_stay : (old new : List ℕ) → StayBeside old new globals_start range_bytes → Same old new 4096 globals_start
controls_stay old new beside i low below = beside.at i (inl below)

frame_beside : (old new : List ℕ) (top depth : ℕ) → StayBeside old new globals_start range_bytes → depth ≤ 256 → 0 < depth
    → frame_at new top (record_place (depth - 1)) ≡ frame_at old top (record_place (depth - 1))
frame_beside old new top depth beside few some =
    frame_stands old new top (record_place (depth - 1)) 4096 globals_start (controls_stay old new beside) (omega arith) (omega (arith, few, some))

callers_beside : (old new : List ℕ) (top depth : ℕ) → StayBeside old new globals_start range_bytes → depth ≤ 256 → 0 < depth
    → frames_of new top (depth - 1) ≡ frames_of old top (depth - 1)
callers_beside old new top depth beside few some =
    frames_stand old new top (depth - 1) globals_start (controls_stay old new beside) (omega (arith, few, some))

pub answers_are_taken : AnswersAreTaken
answers_are_taken code rank bytes printed value goes at =
    let some = in_a_call code rank at.stands at.call in
    let here : Goes code (config_in code rank (suc (rank.depth - 1)) goes.tally) =
    subst (λ (d : ℕ). Goes code (config_in code rank d goes.tally)) (deeper rank.depth some) goes.goes in
    let takes = takes_at code (work_at rank.place rank.top rank.bytes (rank.depth - 1)) rank.number rank.top rank.bytes
    (record (goes.tally) { ticks = rank.ticks }) value here (mpi_at (slice_get code.instrs rank.place) at.call) in (
      some,
      subst (λ (f : Frame). TakesAnswer code rank.place f.operands value)
          (sym (frame_beside rank.bytes bytes rank.top rank.depth at.beside at.stands.deep some)) takes,
    )

-- ---- behind an answer

given_in : (code : Code) (rank : Rank) (depth left : ℕ) (answers : List Answer) (tally : Tally)
    → given left answers (config_in code rank depth tally) ≡ config_in code rank depth (record tally { left = left; answers = answers })
given_in code rank zero left answers tally = refl
given_in code rank (suc number) left answers tally = refl

-- the machine before the call has written
before_writes : (code : Code) (rank : Rank) (bytes : List ℕ) (tally : Tally) → StayBeside rank.bytes bytes globals_start range_bytes → rank.depth ≤ 256 → 0 < rank.depth
    → with_memory (memory_of rank.number rank.top rank.bytes) (config_at code (record rank { bytes = bytes }) tally) ≡ config_at code rank tally
before_writes code rank bytes tally beside few some =
    let n = rank.depth - 1 in
    let m = memory_of rank.number rank.top rank.bytes in
    let now : Tally = record tally { ticks = rank.ticks } in
    let framed : Frame → List Frame → Config = λ f callers. config_with rank.place (frame_with f.back f.start rank.top f.operands) callers m now in
    ap (λ (d : ℕ). with_memory m (config_in code (record rank { bytes = bytes }) d tally)) (deeper rank.depth some)
    ∙ ap (λ (f : Frame). framed f (frames_of bytes rank.top n)) (frame_beside rank.bytes bytes rank.top rank.depth beside few some)
    ∙ ap (framed (frame_at rank.bytes rank.top (record_place n))) (callers_beside rank.bytes bytes rank.top rank.depth beside few some)
    ∙ sym (ap (λ (d : ℕ). config_in code rank d tally) (deeper rank.depth some))

with_own_memory : (code : Code) (rank : Rank) (depth : ℕ) (tally : Tally)
    → with_memory (memory_of rank.number rank.top rank.bytes) (config_in code rank depth tally) ≡ config_in code rank depth tally
with_own_memory code rank zero tally = refl
with_own_memory code rank (suc number) tally = refl

-- what stops before the call stops behind the answer
stops_on : (code : Code) (old new : Rank) (tally after : Tally) (left more : ℕ) (answers others : List Answer) (stop : Stop) (done : Done) (c : Config)
    → c ≡ config_at code old (record tally { left = more; answers = others })
    → one_step code c ≡ Went (config_at code new (record after { left = left; answers = answers }))
    → Stops code (given more others (config_at code old tally)) stop done → Stops code (given left answers (config_at code new after)) stop done
stops_on code old new tally after left more answers others stop done c is went s =
    subst (λ (d : Config). Stops code d stop done) (sym (given_in code new new.depth left answers after))
    (behind_one code c (config_at code new (record after { left = left; answers = answers })) stop done went
    (subst (λ (d : Config). Stops code d stop done) (given_in code old old.depth more others tally ∙ sym is) s))

answer_leads_on : (code : Code) (old new : Rank) (bytes : List ℕ) (value : Option ℤ) (writes : List Write) (call : Call) (tally : Tally)
    → Goes code (config_at code old tally) → StayBeside old.bytes bytes globals_start range_bytes → old.depth ≤ 256 → 0 < old.depth
    → HasWritten old bytes value writes → StepsBy code (record old { bytes = bytes }) value new call
    → Goes code (config_at code new (record tally { made = call ∷ tally.made }))
answer_leads_on code old new bytes None writes call tally goes beside few some written step = record {
  stops = λ left answers.
      let s = goes.stops (suc left) (Half ∷ answers) in
      let now : Tally = record tally { left = suc left; answers = Half ∷ answers } in
      let there : Rank = record old { bytes = bytes } in
      let same : memory_of old.number old.top old.bytes ≡ memory_of old.number old.top bytes =
      sym (ap (written_all (memory_of old.number old.top old.bytes)) (written.nothing refl) ∙ written_none (memory_of old.number old.top old.bytes)) ∙ written.written in
      let is : config_at code there now ≡ config_at code old now =
      sym (with_own_memory code there old.depth now)
      ∙ ap (λ (m : Memory). with_memory m (config_at code there now)) (sym same)
      ∙ before_writes code old bytes now beside few some in (
        s.0,
        s.1,
        stops_on code old new tally (record tally { made = call ∷ tally.made }) left (suc left) answers (Half ∷ answers) s.0 s.1
            (config_at code there now) is (step tally left answers) s.2,
      );
}
answer_leads_on code old new bytes (Some v) writes call tally goes beside few some written step = record {
  stops = λ left answers.
      let s = goes.stops (suc left) (Value v writes ∷ answers) in
      let now : Tally = record tally { left = suc left; answers = Value v writes ∷ answers } in
      let m = memory_of old.number old.top old.bytes in (
        s.0,
        s.1,
        stops_on code old new tally (record tally { made = call ∷ tally.made }) left (suc left) answers (Value v writes ∷ answers) s.0 s.1
            (with_memory m (config_at code (record old { bytes = bytes }) now)) (before_writes code old bytes now beside few some)
            (step tally left answers m writes written.written) s.2,
      );
}

pub answers_lead_on : AnswersLeadOn
answers_lead_on code old new bytes printed value writes goes at written answered =
    let some = in_a_call code old at.stands at.call in
    record {
      tally = record (goes.tally) { made = answered.call ∷ goes.tally.made };
      size = goes.size;
      goes = answer_leads_on code old new bytes value writes answered.call goes.tally goes.goes at.beside at.stands.deep some written answered.step;
    }

-- ---- behind a run

lead_goes : StaysStopped → (code : Code) (old new : Rank) (printed taken : ℕ) (out : List ℕ) (tally : Tally) → length tally.text ≡ printed
    → LeadsTo code (config_at code old) (config_at code new) printed taken out → Goes code (config_at code old tally)
    → Goes code (config_at code new (run_on taken out tally))
lead_goes stays_stopped code old new printed taken out tally size leads goes = record {
  stops = λ left answers.
      let s = goes.stops (taken + left) answers in
      let now : Tally = record tally { left = left; answers = answers } in
      let here : Stops code (config_at code old (with_ticks taken now)) s.0 s.1 =
      subst (λ (c : Config). Stops code c s.0 s.1) (given_in code old old.depth (taken + left) answers tally) s.2 in
      let more : exec code (leads.count + here.instructions) (config_at code old (with_ticks taken now)) ≡ Stopped s.0 here.last =
      stays_stopped code (config_at code old (with_ticks taken now)) here.last s.0 here.instructions (leads.count + here.instructions) here.reached (omega arith) in
      let there : Stops code (config_at code new (run_on taken out now)) s.0 s.1 =
      record { instructions = here.instructions; last = here.last; reached = sym (leads.joined now here.instructions size) ∙ more; done_is = here.done_is } in
      (s.0, s.1, subst (λ (c : Config). Stops code c s.0 s.1) (sym (given_in code new new.depth left answers (run_on taken out tally))) there);
}

ran_leads_on : StaysStopped → (code : Code) (old new : Rank) (budget : ℕ) (old_output new_output : Output) (result : told.Stop) → GoesOn code old old_output.printed
    → Ran code old budget old_output new_output result new → goes_on result ≡ true → GoesOn code new new_output.printed
ran_leads_on stays code old new budget old_output new_output result goes ran on =
    let leads = leads_on code (config_at code old) old_output.printed new ran.taken ran.left ran.out result on ran.stops in
    let printed : new_output ≡ with_text old_output ran.out = ran.output ∙ output_on result (with_text old_output ran.out) on in
    record {
      tally = run_on ran.taken ran.out goes.tally;
      size = longer old_output.printed ran.taken ran.out goes.tally goes.size ∙ sym (ap (λ (o : Output). o.printed) printed);
      goes = lead_goes stays code old new old_output.printed ran.taken ran.out goes.tally goes.size leads goes.goes;
    }

unopened_leads_on : (code : Code) (old new : Rank) (old_output new_output : Output) (result : told.Stop) → GoesOn code old old_output.printed
    → Unopened old new old_output new_output result → GoesOn code new new_output.printed
unopened_leads_on code old new old_output new_output result goes u =
    subst (λ (o : Output). GoesOn code new o.printed) (sym u.output) (subst (λ (r : Rank). GoesOn code r old_output.printed) (sym u.rank) goes)

pub runs_lead_on : StaysStopped → RunsLeadOn
runs_lead_on stays code old new budget old_output new_output result goes (inl unopened) on =
    unopened_leads_on code old new old_output new_output result goes unopened
runs_lead_on stays code old new budget old_output new_output result goes (inr ran) on =
    ran_leads_on stays code old new budget old_output new_output result goes ran on

-- ---- from the start

pub fresh_ranks_run : FreshRanksRun
fresh_ranks_run code segment rank calls fresh goes =
    let depth = fresh.depth in
    let none : Tally = record { text = []; made = []; ticks = 0; left = 0; answers = [] } in
    let words = words_for rank.number (slice_get code.instrs 0) in
    let is : config_at code rank none ≡ start (opened segment rank.number) words 0 [] =
    begin_at_start code rank none fresh.place fresh.depth fresh.ticks refl refl ∙ ap (λ (m : Memory). start m words 0 []) fresh.memory in (
      record {
        deep = omega (arith, depth);
        first = λ zero_depth. record { place = fresh.place; empty = fresh.top; calls = calls };
        ends = λ number some. absurd (omega (arith, depth, some));
      },
      record { tally = none; size = refl; goes = subst (λ (c : Config). Goes code c) (sym is) goes },
    )
