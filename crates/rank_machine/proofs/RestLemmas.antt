-- A rank at rest is the machine that was run.
use Rattle.std.proofs.Common.{◌≡◌, ℕ, suc, ◌+◌, ◌-◌, ◌^◌, ◌<◌, ◌≤◌, ◌∙◌, inl, Bool, true, false, List, [], ◌++◌, length, take, drop, reverse, refl, sym, ap, subst, arith, add-one, Option, Some, None}
use Rattle.std.specs.Prelude.{nat_le, slice_get}
use Rattle.std.proofs.lemmas.Bool.{le-leb, true≢false}
use Rattle.std.proofs.lemmas.Option.{slice_get_within}
use Rattle.am_base.specs.declared.calls.MpiCall.{MpiCall}
use Rattle.rank_range.specs.Layout.{stack_start}
use Rattle.rank_range.specs.Numbers.{number_at}
use Rattle.rank_range.specs.Areas.{Memory, memory_of}
use Rattle.rank_range.specs.Parts.{StayBeside}
use Rattle.rank_range.specs.declared.run.Output.{Output}
use Rattle.rank_range.specs.declared.run.CallOut.{CallOut}
use Rattle.mpi_types.specs.declared.call.Call.{Call}
use Rattle.vm_code.specs.declared.code.Code.{Code}
use Rattle.vm_code.specs.declared.instr.Instr.{Instr}
use Rattle.vm_code.specs.declared.instr.Instr.TheVariants as instr
use Rattle.vm_code.specs.Bounded.{is_tick}
use Rattle.vm_code.specs.Lines.{place_of}
use Rattle.vm_code.specs.Stops as stops
use Rattle.vm_code.specs.Stops.{Done}
use Rattle.vm_code.specs.Machine.{Config, Frame, Stopped, act, exec, one_step}
use Rattle.rank_machine.specs.declared.work.Work.{Work}
use Rattle.rank_machine.specs.declared.halt.Halt.TheVariants as halt
use Rattle.rank_machine.specs.declared.halt.Rest.{Rest}
use Rattle.rank_machine.specs.declared.halt.Rest.TheVariants as rest
use Rattle.rank_machine.specs.declared.stop.Stop.{Stop}
use Rattle.rank_machine.specs.declared.stop.Stop.TheVariants as stop
use Rattle.rank_machine.specs.View.{Tally, Rank, record_place, in_stack, frame_at, frames_of, config_of, config_since, config_in, config_at, done_of, done_at}
use Rattle.rank_machine.specs.Steps.{is_call_of_mpi}
use Rattle.rank_machine.specs.Runs.{run_on, LeadsTo, EndsAs, Strands, AtTick, RestsAs, CameToRest, arguments_of}
use Rattle.rank_machine.specs.Told.{Tells, NeedsCall, TellsCall}
use Rattle.rank_machine.specs.Ran.{Stands, RanFrom, StopsAs, PausesHere, WaitsHere, goes_on, is_mpi, call_of}
use Rattle.rank_machine.proofs.FrameLemmas.{frame_with, frames_stand}
use Rattle.rank_machine.proofs.CallLemmas.{config_with}

abbrev pub rank_with : ℕ → ℕ → ℕ → ℕ → ℕ → List ℕ → Rank
rank_with place depth ticks number top bytes = record { place = place; depth = depth; ticks = ticks; number = number; top = top; bytes = bytes }

-- ---- what was put back is what was run

pub at_rest : (code : Code) (work : Work) (rank top ticks place : ℕ) (old new : List ℕ) (tally : Tally) → place ≡ work.place → stack_start ≤ top
    → frame_at new top (record_place work.number) ≡ frame_with work.back work.start (in_stack top top) (drop 0 work.operands)
    → StayBeside old new (record_place work.number) (record_place work.number + 288) → memory_of rank top new ≡ memory_of rank top old
    → config_at code (rank_with place (work.number + 1) ticks rank top new) tally ≡ config_since work rank top old ticks tally
at_rest code work rank top ticks place old new tally here above frame beside memory =
    let now : Tally = record tally { ticks = ticks } in
    let is : frame_at new top (record_place work.number) ≡ frame_with work.back work.start top work.operands =
    frame ∙ ap (λ (f : ℕ). frame_with work.back work.start f work.operands) (let e : in_stack top top ≡ top = omega (arith, above) in e) in
    let callers : frames_of new top work.number ≡ frames_of old top work.number =
    frames_stand old new top work.number (record_place work.number) (λ i low below. beside.at i (inl below)) (omega arith) in
    ap (λ (d : ℕ). config_in code (rank_with place d ticks rank top new) d tally) (add-one work.number)
    ∙ ap (λ (f : Frame). config_with place (frame_with f.back f.start top f.operands) (frames_of new top work.number) (memory_of rank top new) now) is
    ∙ ap (λ (p : ℕ). config_with p (frame_with work.back work.start top work.operands) (frames_of new top work.number) (memory_of rank top new) now) here
    ∙ ap (λ (fs : List Frame). config_with work.place (frame_with work.back work.start top work.operands) fs (memory_of rank top new) now) callers
    ∙ ap (λ (m : Memory). config_with work.place (frame_with work.back work.start top work.operands) (frames_of old top work.number) m now) memory

pub stands_again : (code : Code) (place number ticks rank top : ℕ) (bytes : List ℕ) → number < 256
    → number_at bytes (record_place number + 16) 8 ≡ top → Stands code (rank_with place (number + 1) ticks rank top bytes)
stands_again code place number ticks rank top bytes below finish = record {
  deep = omega (arith, below);
  first = λ none. absurd (omega (arith, none));
  ends = λ k is. (let same : k ≡ number = omega (arith, is) in ap (λ (n : ℕ). number_at bytes (record_place n + 16) 8) same ∙ finish);
}

-- ---- at a tick point

pauses : (code : Code) (i : Instr) (work : Work) (rank top : ℕ) (bytes : List ℕ) (tally : Tally) → is_tick (Some i) ≡ true → is_call_of_mpi i ≡ false
    → arguments_of i ≤ length work.operands
    → act code (Some i) (config_of work rank top bytes (record tally { left = 0 })) ≡ Stopped stops.Paused (config_of work rank top bytes (record tally { left = 0 }))
unfolding act
pauses code (instr.Tick unit line) work rank top bytes tally tick no_call enough = refl
pauses code (instr.Call function count) work rank top bytes tally tick no_call enough =
    let t : nat_le count (length work.operands) ≡ true = le-leb count (length work.operands) enough in rw t refl
pauses code (instr.Library call count) work rank top bytes tally tick no_call enough =
    let t : nat_le count (length work.operands) ≡ true = le-leb count (length work.operands) enough in rw t refl
pauses code (instr.Mpi call count second) work rank top bytes tally tick no_call enough = absurd (true≢false no_call)
pauses code (instr.Push word) work rank top bytes tally tick no_call enough = absurd (true≢false (sym tick))
pauses code instr.Pop work rank top bytes tally tick no_call enough = absurd (true≢false (sym tick))
pauses code instr.Dup work rank top bytes tally tick no_call enough = absurd (true≢false (sym tick))
pauses code (instr.Local offset) work rank top bytes tally tick no_call enough = absurd (true≢false (sym tick))
pauses code (instr.Global offset) work rank top bytes tally tick no_call enough = absurd (true≢false (sym tick))
pauses code (instr.Load k) work rank top bytes tally tick no_call enough = absurd (true≢false (sym tick))
pauses code (instr.Store k) work rank top bytes tally tick no_call enough = absurd (true≢false (sym tick))
pauses code (instr.Copy count) work rank top bytes tally tick no_call enough = absurd (true≢false (sym tick))
pauses code (instr.Zero count) work rank top bytes tally tick no_call enough = absurd (true≢false (sym tick))
pauses code (instr.Binary op k) work rank top bytes tally tick no_call enough = absurd (true≢false (sym tick))
pauses code (instr.Unary op k) work rank top bytes tally tick no_call enough = absurd (true≢false (sym tick))
pauses code (instr.Extend k) work rank top bytes tally tick no_call enough = absurd (true≢false (sym tick))
pauses code (instr.Jump place) work rank top bytes tally tick no_call enough = absurd (true≢false (sym tick))
pauses code (instr.JumpIfZero place) work rank top bytes tally tick no_call enough = absurd (true≢false (sym tick))
pauses code (instr.JumpIfNot place) work rank top bytes tally tick no_call enough = absurd (true≢false (sym tick))
pauses code instr.Return work rank top bytes tally tick no_call enough = absurd (true≢false (sym tick))

waits : (code : Code) (call : MpiCall) (count : ℕ) (second : Bool) (work : Work) (rank top left : ℕ) (bytes : List ℕ) (tally : Tally) → count ≤ length work.operands
    → act code (Some (instr.Mpi call count second)) (config_of work rank top bytes (record tally { left = suc left; answers = [] }))
    ≡ Stopped (stops.Waits (record { name = call; args = reverse (take count work.operands); second = second }))
    (config_of work rank top bytes (record tally { left = suc left; answers = [] }))
unfolding act
waits code call count second work rank top left bytes tally enough =
    let t : nat_le count (length work.operands) ≡ true = le-leb count (length work.operands) enough in rw t refl

no_mpi : (i : Instr) → is_call_of_mpi i ≡ false → is_mpi (Some i) ≡ false
no_mpi (instr.Mpi call count second) none = none
no_mpi (instr.Tick unit line) none = refl
no_mpi (instr.Call function count) none = refl
no_mpi (instr.Library call count) none = refl
no_mpi (instr.Push word) none = refl
no_mpi instr.Pop none = refl
no_mpi instr.Dup none = refl
no_mpi (instr.Local offset) none = refl
no_mpi (instr.Global offset) none = refl
no_mpi (instr.Load k) none = refl
no_mpi (instr.Store k) none = refl
no_mpi (instr.Copy count) none = refl
no_mpi (instr.Zero count) none = refl
no_mpi (instr.Binary op k) none = refl
no_mpi (instr.Unary op k) none = refl
no_mpi (instr.Extend k) none = refl
no_mpi (instr.Jump place) none = refl
no_mpi (instr.JumpIfZero place) none = refl
no_mpi (instr.JumpIfNot place) none = refl
no_mpi instr.Return none = refl

-- ---- from the machine in the midst of a call to the rank

abbrev pub IsAt : Code → Rank → Work → ℕ → ℕ → List ℕ → Type 0
IsAt code new work rank top bytes = (tally : Tally) → config_at code new tally ≡ config_since work rank top bytes new.ticks tally

leads_since : (code : Code) (from work : Work) (rank from_top top ticks printed taken : ℕ) (from_bytes bytes out : List ℕ) (new : Rank)
    → new.ticks ≡ ticks + taken → IsAt code new work rank top bytes
    → LeadsTo code (config_of from rank from_top from_bytes) (config_of work rank top bytes) printed taken out
    → LeadsTo code (config_since from rank from_top from_bytes ticks) (config_at code new) printed taken out
leads_since code from work rank from_top top ticks printed taken from_bytes bytes out new counted is l = record {
  count = l.count;
  joined = λ tally more size.
      l.joined (record tally { ticks = ticks }) more size
      ∙ ap (λ (n : ℕ). exec code more (config_since work rank top bytes n (run_on taken out tally))) (sym counted)
      ∙ ap (exec code more) (sym (is (run_on taken out tally)));
}

abbrev done_with : Memory → List ℕ → List Call → ℕ → Done
done_with m text made ticks = record { memory = m; text = text; made = made; ticks = ticks }

ends_since : (code : Code) (from : Work) (rank from_top top ticks printed taken : ℕ) (from_bytes bytes out : List ℕ) (new : Rank) (s : stops.Stop)
    → new.ticks ≡ ticks + taken → memory_of new.number new.top new.bytes ≡ memory_of rank top bytes
    → EndsAs code (config_of from rank from_top from_bytes) (done_of rank top bytes) printed taken out s
    → EndsAs code (config_since from rank from_top from_bytes ticks) (done_at new) printed taken out s
ends_since code from rank from_top top ticks printed taken from_bytes bytes out new s counted memory e = record {
  ends = λ tally size.
      let h = e.ends (record tally { ticks = ticks }) size in
      record {
        instructions = h.instructions;
        last = h.last;
        reached = h.reached;
        done_is = h.done_is ∙ ap (λ (m : Memory). done_with m (tally.text ++ out) tally.made (ticks + taken)) (sym memory)
            ∙ ap (done_with (memory_of new.number new.top new.bytes) (tally.text ++ out) tally.made) (sym counted);
      };
}

pauses_here : (code : Code) (work : Work) (rank top : ℕ) (bytes : List ℕ) (new : Rank) → IsAt code new work rank top bytes
    → AtTick code work.place work.operands → PausesHere code (config_at code new)
pauses_here code work rank top bytes new is a tally =
    let none : Tally = record tally { left = 0 } in
    let now : Tally = record tally { ticks = new.ticks } in
    subst (λ (c : Config). one_step code c ≡ Stopped stops.Paused c) (sym (is none))
    (ap (λ (o : Option Instr). act code o (config_of work rank top bytes (record now { left = 0 }))) a.found
    ∙ pauses code a.instr work rank top bytes now a.tick a.no_call a.enough)

waits_here : (code : Code) (work : Work) (rank top : ℕ) (bytes : List ℕ) (new : Rank) (out : CallOut) → IsAt code new work rank top bytes
    → TellsCall code work out → WaitsHere code (config_at code new) out
waits_here code work rank top bytes new out is t tally left =
    let some : Tally = record tally { left = suc left; answers = [] } in
    let now : Tally = record tally { ticks = new.ticks } in
    let call : List ℕ → Call = λ words. record { name = out.call; args = words; second = out.second } in
    subst (λ (c : Config). one_step code c ≡ Stopped (stops.Waits (call_of out)) c) (sym (is some))
    (ap (λ (o : Option Instr). act code o (config_of work rank top bytes (record now { left = suc left; answers = [] }))) t.found
    ∙ waits code out.call t.count out.second work rank top left bytes now t.enough
    ∙ ap (λ (words : List ℕ). Stopped (stops.Waits (call words)) (config_of work rank top bytes (record now { left = suc left; answers = [] }))) (sym t.arguments))

-- ---- what a run of a call tells

strands_since : (code : Code) (from : Work) (rank top ticks printed taken : ℕ) (bytes : List ℕ) → Strands code (config_of from rank top bytes) printed taken
    → Strands code (config_since from rank top bytes ticks) printed taken
strands_since code from rank top ticks printed taken bytes s =
    record { count = s.count; stuck = λ tally size. s.stuck (record tally { ticks = ticks }) size }

pub needs_call : (code : Code) (from work : Work) (rank from_top top ticks : ℕ) (from_bytes bytes : List ℕ) (old_output output : Output) (budget left : ℕ)
    (rests : Rest) → CameToRest code (config_of from rank from_top from_bytes) work rank top bytes old_output output budget left rests
    → ((taken : ℕ) → Strands code (config_since from rank from_top from_bytes ticks) old_output.printed taken → ⊥) → NeedsCall code work rests
needs_call code from work rank from_top top ticks from_bytes bytes old_output output budget left (rest.Halted (halt.Returned status)) came alive = tt
needs_call code from work rank from_top top ticks from_bytes bytes old_output output budget left (rest.Halted (halt.Exited status)) came alive = tt
needs_call code from work rank from_top top ticks from_bytes bytes old_output output budget left (rest.Halted (halt.Trapped cause)) came alive = tt
needs_call code from work rank from_top top ticks from_bytes bytes old_output output budget left (rest.Halted halt.Lost) came alive =
    alive came.taken (strands_since code from rank from_top ticks old_output.printed came.taken from_bytes came.rests_as)
needs_call code from work rank from_top top ticks from_bytes bytes old_output output budget left rest.Paused came alive = tt
needs_call code from work rank from_top top ticks from_bytes bytes old_output output budget left rest.Memory came alive = tt
needs_call code from work rank from_top top ticks from_bytes bytes old_output output budget left rest.Calls came alive = came.rests_as.1

pub small_place : (code : Code) (place : ℕ) (i : Instr) → slice_get code.instrs place ≡ Some i → place < 2 ^ 32
small_place code place i found =
    let within = slice_get_within code.instrs place i found in
    let short = code.short in
    omega (arith, within, short)

some_of : (instrs : List Instr) (place : ℕ) (o : Option Instr) → slice_get instrs place ≡ o → is_tick o ≡ true → place < length instrs
some_of instrs place None none tick = absurd (true≢false (sym tick))
some_of instrs place (Some i) found tick = slice_get_within instrs place i found

some_at : (instrs : List Instr) (place : ℕ) → is_tick (slice_get instrs place) ≡ true → place < length instrs
some_at instrs place tick = some_of instrs place (slice_get instrs place) refl tick

pub record Settled (code : Code) (work : Work) (rank top ticks taken : ℕ) (bytes : List ℕ) (told : Stop) (new : Rank) : Type 0 where
  pub counted : new.ticks ≡ ticks + taken
  pub memory : memory_of new.number new.top new.bytes ≡ memory_of rank top bytes
  pub place : work.place < 2 ^ 32 → new.place ≡ work.place
  pub config : goes_on told ≡ true → work.place < 2 ^ 32 → IsAt code new work rank top bytes

abbrev Stopped_so : Code → Work → Work → ℕ → ℕ → ℕ → ℕ → ℕ → ℕ → List ℕ → List ℕ → ℕ → List ℕ → Rest → Stop → Rank → Type 0
Stopped_so code from work rank from_top top ticks printed left from_bytes bytes taken out rests told new =
    RestsAs code (config_of from rank from_top from_bytes) work rank top bytes printed taken left out rests → Tells code work rests told
    → Settled code work rank top ticks taken bytes told new
    → StopsAs code (config_since from rank from_top from_bytes ticks) printed new taken left out told

stopped_so : (code : Code) (from work : Work) (rank from_top top ticks printed left : ℕ) (from_bytes bytes : List ℕ) (taken : ℕ) (out : List ℕ) (rests : Rest)
    (told : Stop) (new : Rank) → Stopped_so code from work rank from_top top ticks printed left from_bytes bytes taken out rests told new
stopped_so code from work rank from_top top ticks printed left from_bytes bytes taken out (rest.Halted (halt.Returned status)) told new rested tells settled =
    subst (λ (s : Stop). StopsAs code (config_since from rank from_top from_bytes ticks) printed new taken left out s) (sym tells)
    (ends_since code from rank from_top top ticks printed taken from_bytes bytes out new _ settled.counted settled.memory rested)
stopped_so code from work rank from_top top ticks printed left from_bytes bytes taken out (rest.Halted (halt.Exited status)) told new rested tells settled =
    subst (λ (s : Stop). StopsAs code (config_since from rank from_top from_bytes ticks) printed new taken left out s) (sym tells)
    (ends_since code from rank from_top top ticks printed taken from_bytes bytes out new _ settled.counted settled.memory rested)
stopped_so code from work rank from_top top ticks printed left from_bytes bytes taken out (rest.Halted (halt.Trapped cause)) told new rested tells settled =
    subst (λ (s : Stop). StopsAs code (config_since from rank from_top from_bytes ticks) printed new taken left out s) (sym tells)
    (ends_since code from rank from_top top ticks printed taken from_bytes bytes out new _ settled.counted settled.memory rested)
stopped_so code from work rank from_top top ticks printed left from_bytes bytes taken out (rest.Halted halt.Lost) told new rested tells settled = absurd tells
stopped_so code from work rank from_top top ticks printed left from_bytes bytes taken out rest.Paused told new rested tells settled =
    let at = rested.2 in
    let small = small_place code work.place at.instr at.found in
    let is = settled.config (ap goes_on tells) small in
    let same = settled.place small in
    subst (λ (s : Stop). StopsAs code (config_since from rank from_top from_bytes ticks) printed new taken left out s) (sym tells) (
      leads_since code from work rank from_top top ticks printed taken from_bytes bytes out new settled.counted is rested.0,
      rested.1,
      pauses_here code work rank top bytes new is at,
      ap (λ (p : ℕ). is_mpi (slice_get code.instrs p)) same ∙ ap is_mpi at.found ∙ no_mpi at.instr at.no_call,
    )
stopped_so code from work rank from_top top ticks printed left from_bytes bytes taken out rest.Memory told new rested tells settled =
    let within = some_at code.instrs work.place rested.1 in
    let short = code.short in
    let small : work.place < 2 ^ 32 = omega (arith, within, short) in
    let is = settled.config (ap goes_on tells) small in
    let same = settled.place small in
    subst (λ (s : Stop). StopsAs code (config_since from rank from_top from_bytes ticks) printed new taken left out s) (sym tells) (
      leads_since code from work rank from_top top ticks printed taken from_bytes bytes out new settled.counted is rested.0,
      ap (λ (p : ℕ). is_tick (slice_get code.instrs p)) same ∙ rested.1,
    )
stopped_so code from work rank from_top top ticks printed left from_bytes bytes taken out rest.Calls (stop.Call call) new rested tells settled =
    let at = rested.1 in
    let small = small_place code work.place _ at.found in
    let is = settled.config refl small in
    let same = settled.place small in (
      leads_since code from work rank from_top top ticks printed taken from_bytes bytes out new settled.counted is rested.0,
      waits_here code work rank top bytes new call is tells,
      ap (λ (p : ℕ). is_mpi (slice_get code.instrs p)) same ∙ ap is_mpi at.found,
      tells.unit ∙ ap (λ (p : ℕ). (place_of code p).unit) (sym same),
      tells.line ∙ ap (λ (p : ℕ). (place_of code p).line) (sym same),
    )
stopped_so code from work rank from_top top ticks printed left from_bytes bytes taken out rest.Calls stop.Memory new rested tells settled =
    let at = rested.1 in
    let small = small_place code work.place _ at.found in
    let is = settled.config refl small in
    let same = settled.place small in (
      leads_since code from work rank from_top top ticks printed taken from_bytes bytes out new settled.counted is rested.0,
      ap (λ (p : ℕ). is_tick (slice_get code.instrs p)) same ∙ ap is_tick at.found,
    )
stopped_so code from work rank from_top top ticks printed left from_bytes bytes taken out rest.Calls stop.Paused new rested tells settled = absurd tells
stopped_so code from work rank from_top top ticks printed left from_bytes bytes taken out rest.Calls (stop.Ended status) new rested tells settled = absurd tells
stopped_so code from work rank from_top top ticks printed left from_bytes bytes taken out rest.Calls (stop.Trap cause unit line) new rested tells settled = absurd tells

pub ran_from : (code : Code) (from work : Work) (rank from_top top ticks budget left : ℕ) (from_bytes bytes : List ℕ) (old_output new_output : Output)
    (rests : Rest) (told : Stop) (new : Rank)
    → CameToRest code (config_of from rank from_top from_bytes) work rank top bytes old_output new_output budget left rests → Tells code work rests told
    → new.ticks ≡ ticks + (budget - left) → memory_of new.number new.top new.bytes ≡ memory_of rank top bytes
    → (work.place < 2 ^ 32 → new.place ≡ work.place) → (goes_on told ≡ true → work.place < 2 ^ 32 → IsAt code new work rank top bytes)
    → RanFrom code (config_since from rank from_top from_bytes ticks) ticks old_output.printed budget old_output new_output told new
ran_from code from work rank from_top top ticks budget left from_bytes bytes old_output new_output rests told new came tells counted memory place config =
    let all = came.all in
    let count : new.ticks ≡ ticks + came.taken = omega (arith, all, counted) in
    record {
      taken = came.taken;
      left = left;
      out = came.out;
      all = all;
      counted = count;
      output = came.output;
      stops = stopped_so code from work rank from_top top ticks old_output.printed left from_bytes bytes came.taken came.out rests told new came.rests_as tells
          (record { counted = count; memory = memory; place = place; config = config });
    }
