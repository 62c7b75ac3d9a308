-- A run of the machine, instruction by instruction.
use Rattle.std.proofs.Common.{◌≡◌, ℕ, suc, ◌+◌, ◌-◌, ◌<◌, ◌≤◌, ◌⊎◌, ◌∙◌, inl, inr, Bool, true, false, List, [], ◌++◌, length, refl, sym, ap, subst, arith, append_assoc, length-append, Option, Some, None}
use Rattle.std.specs.Prelude.{nat_le, slice_get, replicate}
use Rattle.std.proofs.Math.Logic.{∥∥₁_elim}
use Rattle.std.proofs.Math.Bridge.{le_prop}
use Rattle.std.proofs.lemmas.Bool.{lt-leb, true≢false}
use Rattle.std.proofs.lemmas.List.{append-nil, length-replicate}
use Rattle.rank_range.specs.Output.{with_text}
use Rattle.rank_range.specs.Areas.{Memory, memory_of}
use Rattle.rank_range.specs.declared.run.Output.{Output}
use Rattle.rank_range.proofs.LineLemmas.{printed_together}
use Rattle.vm_code.specs.declared.code.Code.{Code}
use Rattle.vm_code.specs.declared.instr.Instr.{Instr}
use Rattle.vm_code.specs.declared.instr.Instr.TheVariants as instr
use Rattle.vm_code.specs.Bounded.{is_tick, LoopsTick}
use Rattle.vm_code.specs.Lines.{place_of}
use Rattle.vm_code.specs.Stops.{Stop, Ended, Trapped, Done}
use Rattle.vm_code.specs.Machine.{Config, Frame, Moved, Went, Stopped, Stuck, act, exec, follow}
use Rattle.rank_machine.specs.declared.work.Work.{Work}
use Rattle.rank_machine.specs.declared.halt.Halt.{Halt}
use Rattle.rank_machine.specs.declared.halt.Halt.TheVariants as halt
use Rattle.rank_machine.specs.declared.halt.Rest.{Rest}
use Rattle.rank_machine.specs.declared.halt.Rest.TheVariants as rest
use Rattle.rank_machine.specs.View.{Tally, config_of, done_of, frames_of}
use Rattle.rank_machine.specs.Steps.{Shown, On, Halted, Nowhere, Advanced, shown, shown_by, before, behind, with_out, is_call_of_mpi}
use Rattle.rank_machine.specs.Runs.{with_ticks, run_on, LeadsTo, EndsAs, Strands, AtCall, CameToRest, RestsHere, arguments_of, ticks_in}
use Rattle.rank_machine.specs.Weight.{weight}
use Rattle.rank_machine.proofs.CallLemmas.{callers_count, config_with}
use Rattle.rank_machine.proofs.LibraryLemmas.{no_text}
use Rattle.rank_machine.proofs.FrameLemmas.{frame_with}
use Rattle.rank_machine.proofs.LedLemmas.{on_went, Leads, led_between, few_behind, ticked_falls, left_falls, nearer_falls}

-- ---- one more instruction

taking : (b : Bool) (from : Tally → Config) (taken : ℕ) (tally : Tally)
    → from (with_ticks (taken + ticks_in b) tally) ≡ from (with_ticks taken (record tally { left = ticks_in b + tally.left }))
taking b from taken tally =
    let e : taken + ticks_in b + tally.left ≡ taken + (ticks_in b + tally.left) = omega arith in
    ap (λ (n : ℕ). from (record tally { left = n })) e

arrived : (b : Bool) (now : Tally → Config) (taken : ℕ) (out : List ℕ) (tally : Tally)
    → now (run_on taken out (record tally { left = ticks_in b + tally.left })) ≡ now (before b (run_on taken out tally))
arrived true now taken out tally =
    let e : 1 + tally.left ≡ suc tally.left = omega arith in
    ap (λ (n : ℕ). now (record (run_on taken out tally) { left = n })) e
arrived false now taken out tally =
    let e : 0 + tally.left ≡ tally.left = omega arith in
    ap (λ (n : ℕ). now (record (run_on taken out tally) { left = n })) e

step_exec : (code : Code) (from now : Tally → Config) (printed taken : ℕ) (out : List ℕ) (o : Option Instr) (b : Bool)
    (l : LeadsTo code from now printed taken out) → ((tally : Tally) → slice_get code.instrs (now tally).place ≡ o)
    → (tally : Tally) (more : ℕ) → length tally.text ≡ printed
    → exec code (l.count + suc more) (from (with_ticks (taken + ticks_in b) tally))
    ≡ follow (act code o (now (before b (run_on taken out tally)))) (exec code more)
step_exec code from now printed taken out o b l found tally more size =
    let less : Tally = record tally { left = ticks_in b + tally.left } in
    ap (exec code (l.count + suc more)) (taking b from taken tally)
    ∙ l.joined less (suc more) size
    ∙ ap (exec code (suc more)) (arrived b now taken out tally)
    ∙ ap (λ (i : Option Instr). follow (act code i (now (before b (run_on taken out tally)))) (exec code more)) (found (before b (run_on taken out tally)))

behind_is : (b : Bool) (taken : ℕ) (out more : List ℕ) (tally : Tally)
    → behind b (with_out more (run_on taken out tally)) ≡ run_on (taken + ticks_in b) (out ++ more) tally
behind_is true taken out more tally =
    let ticks : tally.ticks + taken + 1 ≡ tally.ticks + (taken + 1) = omega arith in
    ap (λ (text : List ℕ). record tally { text = text; ticks = tally.ticks + taken + 1 }) (append_assoc tally.text out more)
    ∙ ap (λ (n : ℕ). record tally { text = tally.text ++ (out ++ more); ticks = n }) ticks
behind_is false taken out more tally =
    let ticks : tally.ticks + taken ≡ tally.ticks + (taken + 0) = omega arith in
    ap (λ (text : List ℕ). record tally { text = text; ticks = tally.ticks + taken }) (append_assoc tally.text out more)
    ∙ ap (λ (n : ℕ). record tally { text = tally.text ++ (out ++ more); ticks = n }) ticks

longer : (printed taken : ℕ) (out : List ℕ) (tally : Tally) → length tally.text ≡ printed → length (run_on taken out tally).text ≡ printed + length out
longer printed taken out tally size = length-append tally.text out ∙ ap (λ (n : ℕ). n + length out) size

-- what an instruction's function shows, told of all machines with as much text
abbrev pub Shows : Code → Option Instr → (Tally → Config) → ℕ → Bool → (Tally → Shown) → Type 0
Shows code o now printed b result = (tally : Tally) → length tally.text ≡ printed → result tally ≡ shown (act code o (now (before b tally)))

pub leads_more : (code : Code) (from now new : Tally → Config) (printed taken : ℕ) (out more : List ℕ) (o : Option Instr) (b : Bool)
    → LeadsTo code from now printed taken out → ((tally : Tally) → slice_get code.instrs (now tally).place ≡ o)
    → Shows code o now (printed + length out) b (λ tally. On (new (behind b (with_out more tally))))
    → LeadsTo code from new printed (taken + ticks_in b) (out ++ more)
leads_more code from now new printed taken out more o b l found shows = record {
  count = l.count + 1;
  joined = λ tally rest size.
      let order : l.count + 1 + rest ≡ l.count + suc rest = omega arith in
      let went = on_went (act code o (now (before b (run_on taken out tally)))) (new (behind b (with_out more (run_on taken out tally))))
      (shows (run_on taken out tally) (longer printed taken out tally size)) in
      ap (λ (n : ℕ). exec code n (from (with_ticks (taken + ticks_in b) tally))) order
      ∙ step_exec code from now printed taken out o b l found tally rest size
      ∙ ap (λ (m : Moved). follow m (exec code rest)) went
      ∙ ap (λ (t : Tally). exec code rest (new t)) (behind_is b taken out more tally);
}

-- the machine at which it stopped
pub record Halts (m : Moved) (stop : Stop) (done : Done) : Type 0 where
  pub last : Config
  pub reached : m ≡ Stopped stop last
  pub is : last.done ≡ done

pub halts : (m : Moved) (stop : Stop) (done : Done) → Halted stop done ≡ shown m → Halts m stop done
halts (Went c) stop done e = absurd (cc (e))
halts (Stopped other c) stop done e =
    let same : stop ≡ other = cc (e) in
    let same_done : done ≡ c.done = cc (e) in
    record { last = c; reached = ap (λ (s : Stop). Stopped s c) (sym same); is = sym same_done }
halts Stuck stop done e = absurd (cc (e))

strayed : (m : Moved) → Nowhere ≡ shown m → m ≡ Stuck
strayed (Went c) e = absurd (cc (e))
strayed (Stopped stop c) e = absurd (cc (e))
strayed Stuck e = refl

pub ends_more : (code : Code) (from now : Tally → Config) (done : Tally → Done) (printed taken : ℕ) (out more : List ℕ) (o : Option Instr) (b : Bool) (stop : Stop)
    → LeadsTo code from now printed taken out → ((tally : Tally) → slice_get code.instrs (now tally).place ≡ o)
    → Shows code o now (printed + length out) b (λ tally. Halted stop (done (behind b (with_out more tally))))
    → EndsAs code from done printed (taken + ticks_in b) (out ++ more) stop
ends_more code from now done printed taken out more o b stop l found shows = record {
  ends = λ tally size.
      let h = halts (act code o (now (before b (run_on taken out tally)))) stop (done (behind b (with_out more (run_on taken out tally))))
      (shows (run_on taken out tally) (longer printed taken out tally size)) in
      record {
        instructions = l.count + 1;
        last = h.last;
        reached =
            step_exec code from now printed taken out o b l found tally 0 size ∙ ap (λ (m : Moved). follow m (exec code 0)) h.reached;
        done_is = h.is ∙ ap done (behind_is b taken out more tally);
      };
}

pub strands_more : (code : Code) (from now : Tally → Config) (printed taken : ℕ) (out : List ℕ) (o : Option Instr) (b : Bool)
    → LeadsTo code from now printed taken out → ((tally : Tally) → slice_get code.instrs (now tally).place ≡ o)
    → Shows code o now (printed + length out) b (λ tally. Nowhere) → Strands code from printed (taken + ticks_in b)
strands_more code from now printed taken out o b l found shows = record {
  count = l.count + 1;
  stuck = λ tally size.
      let none = strayed (act code o (now (before b (run_on taken out tally)))) (shows (run_on taken out tally) (longer printed taken out tally size)) in
      step_exec code from now printed taken out o b l found tally 0 size ∙ ap (λ (m : Moved). follow m (exec code 0)) none;
}

pub leads_start : (code : Code) (from : Tally → Config) (printed : ℕ) → LeadsTo code from from printed 0 []
leads_start code from printed = record {
  count = 0;
  joined = λ tally more size.
      let order : 0 + more ≡ more = omega arith in
      let left : 0 + tally.left ≡ tally.left = omega arith in
      let ticks : tally.ticks + 0 ≡ tally.ticks = omega arith in
      ap (λ (n : ℕ). exec code n (from (with_ticks 0 tally))) order
      ∙ ap (λ (n : ℕ). exec code more (from (record tally { left = n }))) left
      ∙ sym (ap (λ (n : ℕ). exec code more (from (record tally { text = tally.text ++ []; ticks = n }))) ticks
      ∙ ap (λ (text : List ℕ). exec code more (from (record tally { text = text }))) (append-nil tally.text));
}

-- ---- a run so far

pub record Going (code : Code) (from : Tally → Config) (work : Work) (rank top : ℕ) (bytes : List ℕ) (old_output output : Output) (old_left left : ℕ)
    : Type 0 where
  pub taken : ℕ
  pub out : List ℕ
  pub all : taken + left ≡ old_left
  pub printed : output ≡ with_text old_output out
  pub leads : LeadsTo code from (config_of work rank top bytes) old_output.printed taken out

pub going_start : (code : Code) (work : Work) (rank top : ℕ) (bytes : List ℕ) (output : Output) (left : ℕ)
    → Going code (config_of work rank top bytes) work rank top bytes output output left left
going_start code work rank top bytes output left = record {
  taken = 0;
  out = [];
  all = omega arith;
  printed = no_text output;
  leads = leads_start code (config_of work rank top bytes) output.printed;
}

same_size : (old output : Output) (out : List ℕ) → output ≡ with_text old out → output.printed ≡ old.printed + length out
same_size old output out is = ap (λ (o : Output). o.printed) is

both_printed : (old mid new : Output) (out more : List ℕ) → mid ≡ with_text old out → new ≡ with_text mid more → new ≡ with_text old (out ++ more)
both_printed old mid new out more first second =
    second ∙ ap (λ (o : Output). with_text o more) first ∙ printed_together old out more

-- The instruction at the machine's place did what its definition says.
abbrev Stepped : Code → Instr → Option Halt → Work → Work → ℕ → ℕ → ℕ → List ℕ → List ℕ → Output → Output → Type 0
Stepped code i h work new rank top new_top bytes new_bytes output new_output =
    Advanced code i h work new rank top new_top bytes new_bytes output new_output

-- what it shows, with as much text as was printed
shows_by : (code : Code) (i : Instr) (h : Option Halt) (work new : Work) (rank top new_top : ℕ) (bytes new_bytes : List ℕ) (output new_output : Output)
    (b : Bool) (printed : ℕ) → is_tick (Some i) ≡ b → output.printed ≡ printed
    → (a : Advanced code i h work new rank top new_top bytes new_bytes output new_output)
    → Shows code (Some i) (config_of work rank top bytes) printed b (λ tally. shown_by code h (config_of new rank new_top new_bytes (behind b (with_out a.out tally))))
shows_by code i h work new rank top new_top bytes new_bytes output new_output b printed is size a =
    subst (λ (t : Bool). Shows code (Some i) (config_of work rank top bytes) printed t (λ tally. shown_by code h (config_of new rank new_top new_bytes (behind t (with_out a.out tally))))) is
    (λ tally long. a.moved tally (long ∙ sym size))

pub going_more : (code : Code) (from : Tally → Config) (i : Instr) (work new : Work) (rank top new_top : ℕ) (bytes new_bytes : List ℕ)
    (old_output output new_output : Output) (old_left left new_left : ℕ) (b : Bool) → is_tick (Some i) ≡ b
    → slice_get code.instrs work.place ≡ Some i → left ≡ ticks_in b + new_left
    → Going code from work rank top bytes old_output output old_left left
    → Advanced code i None work new rank top new_top bytes new_bytes output new_output
    → Going code from new rank new_top new_bytes old_output new_output old_left new_left
going_more code from i work new rank top new_top bytes new_bytes old_output output new_output old_left left new_left b is found took g a =
    let all = g.all in
    record {
      taken = g.taken + ticks_in b;
      out = g.out ++ a.out;
      all = omega (arith, all, took);
      printed = both_printed old_output output new_output g.out a.out g.printed a.output;
      leads = leads_more code from (config_of work rank top bytes) (config_of new rank new_top new_bytes) old_output.printed g.taken g.out a.out (Some i) b
          g.leads (λ tally. found)
          (shows_by code i None work new rank top new_top bytes new_bytes output new_output b (old_output.printed + length g.out) is (same_size old_output output g.out g.printed) a);
    }

pub came_halted : (code : Code) (from : Tally → Config) (i : Instr) (h : Halt) (work new : Work) (rank top new_top : ℕ) (bytes new_bytes : List ℕ)
    (old_output output new_output : Output) (old_left left new_left : ℕ) (b : Bool) → is_tick (Some i) ≡ b
    → slice_get code.instrs work.place ≡ Some i → left ≡ ticks_in b + new_left
    → Going code from work rank top bytes old_output output old_left left
    → Advanced code i (Some h) work new rank top new_top bytes new_bytes output new_output
    → CameToRest code from new rank new_top new_bytes old_output new_output old_left new_left (rest.Halted h)
came_halted code from i (halt.Returned status) work new rank top new_top bytes new_bytes old_output output new_output old_left left new_left b is found took g a =
    let all = g.all in
    record {
      taken = g.taken + ticks_in b;
      out = g.out ++ a.out;
      all = omega (arith, all, took);
      output = both_printed old_output output new_output g.out a.out g.printed a.output;
      rests_as = ends_more code from (config_of work rank top bytes) (done_of rank new_top new_bytes) old_output.printed g.taken g.out a.out (Some i) b (Ended status)
          g.leads (λ tally. found)
          (shows_by code i (Some (halt.Returned status)) work new rank top new_top bytes new_bytes output new_output b (old_output.printed + length g.out) is (same_size old_output output g.out g.printed) a);
    }
came_halted code from i (halt.Exited status) work new rank top new_top bytes new_bytes old_output output new_output old_left left new_left b is found took g a =
    let all = g.all in
    record {
      taken = g.taken + ticks_in b;
      out = g.out ++ a.out;
      all = omega (arith, all, took);
      output = both_printed old_output output new_output g.out a.out g.printed a.output;
      rests_as = ends_more code from (config_of work rank top bytes) (done_of rank new_top new_bytes) old_output.printed g.taken g.out a.out (Some i) b (Ended status)
          g.leads (λ tally. found)
          (shows_by code i (Some (halt.Exited status)) work new rank top new_top bytes new_bytes output new_output b (old_output.printed + length g.out) is (same_size old_output output g.out g.printed) a);
    }
came_halted code from i (halt.Trapped cause) work new rank top new_top bytes new_bytes old_output output new_output old_left left new_left b is found took g a =
    let all = g.all in
    record {
      taken = g.taken + ticks_in b;
      out = g.out ++ a.out;
      all = omega (arith, all, took);
      output = both_printed old_output output new_output g.out a.out g.printed a.output;
      rests_as = ends_more code from (config_of work rank top bytes) (done_of rank new_top new_bytes) old_output.printed g.taken g.out a.out (Some i) b
          (Trapped cause (place_of code new.place).unit (place_of code new.place).line) g.leads (λ tally. found)
          (shows_by code i (Some (halt.Trapped cause)) work new rank top new_top bytes new_bytes output new_output b (old_output.printed + length g.out) is (same_size old_output output g.out g.printed) a);
    }
came_halted code from i halt.Lost work new rank top new_top bytes new_bytes old_output output new_output old_left left new_left b is found took g a =
    let all = g.all in
    record {
      taken = g.taken + ticks_in b;
      out = g.out ++ a.out;
      all = omega (arith, all, took);
      output = both_printed old_output output new_output g.out a.out g.printed a.output;
      rests_as = strands_more code from (config_of work rank top bytes) old_output.printed g.taken g.out (Some i) b
          g.leads (λ tally. found)
          (shows_by code i (Some halt.Lost) work new rank top new_top bytes new_bytes output new_output b (old_output.printed + length g.out) is (same_size old_output output g.out g.printed) a);
    }

-- ---- at rest

act_none : (code : Code) (c : Config) → Nowhere ≡ shown (act code None c)
unfolding act
act_none code c = refl

pub came_past : (code : Code) (from : Tally → Config) (work : Work) (rank top : ℕ) (bytes : List ℕ) (old_output output : Output) (old_left left : ℕ)
    → slice_get code.instrs work.place ≡ None → Going code from work rank top bytes old_output output old_left left
    → CameToRest code from work rank top bytes old_output output old_left left (rest.Halted halt.Lost)
came_past code from work rank top bytes old_output output old_left left none g =
    let all = g.all in
    record {
      taken = g.taken + ticks_in false;
      out = g.out;
      all = omega (arith, all);
      output = g.printed;
      rests_as = strands_more code from (config_of work rank top bytes) old_output.printed g.taken g.out None false g.leads (λ tally. none)
          (λ tally size. act_none code (config_of work rank top bytes tally));
    }

-- a tick point without its arguments
lost_here : (code : Code) (i : Instr) (work : Work) (rank top : ℕ) (bytes : List ℕ) (tally : Tally) → is_tick (Some i) ≡ true
    → length work.operands < arguments_of i → Nowhere ≡ shown (act code (Some i) (config_of work rank top bytes tally))
unfolding act
lost_here code (instr.Call function count) work rank top bytes tally tick few =
    let t : nat_le count (length work.operands) ≡ false = lt-leb count (length work.operands) few in sym (rw t refl)
lost_here code (instr.Library call count) work rank top bytes tally tick few =
    let t : nat_le count (length work.operands) ≡ false = lt-leb count (length work.operands) few in sym (rw t refl)
lost_here code (instr.Mpi call count second) work rank top bytes tally tick few =
    let t : nat_le count (length work.operands) ≡ false = lt-leb count (length work.operands) few in sym (rw t refl)
lost_here code (instr.Tick unit line) work rank top bytes tally tick few = absurd (omega (arith, few))
lost_here code (instr.Push word) work rank top bytes tally tick few = absurd (true≢false (sym tick))
lost_here code instr.Pop work rank top bytes tally tick few = absurd (true≢false (sym tick))
lost_here code instr.Dup work rank top bytes tally tick few = absurd (true≢false (sym tick))
lost_here code (instr.Local offset) work rank top bytes tally tick few = absurd (true≢false (sym tick))
lost_here code (instr.Global offset) work rank top bytes tally tick few = absurd (true≢false (sym tick))
lost_here code (instr.Load k) work rank top bytes tally tick few = absurd (true≢false (sym tick))
lost_here code (instr.Store k) work rank top bytes tally tick few = absurd (true≢false (sym tick))
lost_here code (instr.Copy count) work rank top bytes tally tick few = absurd (true≢false (sym tick))
lost_here code (instr.Zero count) work rank top bytes tally tick few = absurd (true≢false (sym tick))
lost_here code (instr.Binary op k) work rank top bytes tally tick few = absurd (true≢false (sym tick))
lost_here code (instr.Unary op k) work rank top bytes tally tick few = absurd (true≢false (sym tick))
lost_here code (instr.Extend k) work rank top bytes tally tick few = absurd (true≢false (sym tick))
lost_here code (instr.Jump place) work rank top bytes tally tick few = absurd (true≢false (sym tick))
lost_here code (instr.JumpIfZero place) work rank top bytes tally tick few = absurd (true≢false (sym tick))
lost_here code (instr.JumpIfNot place) work rank top bytes tally tick few = absurd (true≢false (sym tick))
lost_here code instr.Return work rank top bytes tally tick few = absurd (true≢false (sym tick))

call_here : (code : Code) (i : Instr) (place : ℕ) (operands : List ℕ) → is_call_of_mpi i ≡ true → arguments_of i ≤ length operands
    → slice_get code.instrs place ≡ Some i → AtCall code place operands
call_here code (instr.Mpi call count second) place operands mpi enough found =
    record { call = call; count = count; second = second; found = found; enough = enough }
call_here code (instr.Call function count) place operands mpi enough found = absurd (true≢false (sym mpi))
call_here code (instr.Library call count) place operands mpi enough found = absurd (true≢false (sym mpi))
call_here code (instr.Tick unit line) place operands mpi enough found = absurd (true≢false (sym mpi))
call_here code (instr.Push word) place operands mpi enough found = absurd (true≢false (sym mpi))
call_here code instr.Pop place operands mpi enough found = absurd (true≢false (sym mpi))
call_here code instr.Dup place operands mpi enough found = absurd (true≢false (sym mpi))
call_here code (instr.Local offset) place operands mpi enough found = absurd (true≢false (sym mpi))
call_here code (instr.Global offset) place operands mpi enough found = absurd (true≢false (sym mpi))
call_here code (instr.Load k) place operands mpi enough found = absurd (true≢false (sym mpi))
call_here code (instr.Store k) place operands mpi enough found = absurd (true≢false (sym mpi))
call_here code (instr.Copy count) place operands mpi enough found = absurd (true≢false (sym mpi))
call_here code (instr.Zero count) place operands mpi enough found = absurd (true≢false (sym mpi))
call_here code (instr.Binary op k) place operands mpi enough found = absurd (true≢false (sym mpi))
call_here code (instr.Unary op k) place operands mpi enough found = absurd (true≢false (sym mpi))
call_here code (instr.Extend k) place operands mpi enough found = absurd (true≢false (sym mpi))
call_here code (instr.Jump to) place operands mpi enough found = absurd (true≢false (sym mpi))
call_here code (instr.JumpIfZero to) place operands mpi enough found = absurd (true≢false (sym mpi))
call_here code (instr.JumpIfNot to) place operands mpi enough found = absurd (true≢false (sym mpi))
call_here code instr.Return place operands mpi enough found = absurd (true≢false (sym mpi))

pub came_resting : (code : Code) (from : Tally → Config) (i : Instr) (r : Rest) (work : Work) (rank top : ℕ) (bytes : List ℕ) (old_output output : Output)
    (old_left left operands : ℕ) → operands ≡ length work.operands → RestsHere i operands left (Some r) → slice_get code.instrs work.place ≡ Some i
    → Going code from work rank top bytes old_output output old_left left
    → CameToRest code from work rank top bytes old_output output old_left left r
came_resting code from i rest.Paused work rank top bytes old_output output old_left left operands size here found g =
    let enough = here.3 in
    record {
      taken = g.taken;
      out = g.out;
      all = g.all;
      output = g.printed;
      rests_as = (g.leads, here.0, record { instr = i; found = found; tick = here.1; no_call = here.2; enough = omega (arith, enough, size) });
    }
came_resting code from i rest.Calls work rank top bytes old_output output old_left left operands size here found g =
    let enough = here.1 in
    record {
      taken = g.taken;
      out = g.out;
      all = g.all;
      output = g.printed;
      rests_as = (g.leads, call_here code i work.place work.operands here.0 (omega (arith, enough, size)) found);
    }
came_resting code from i (rest.Halted halt.Lost) work rank top bytes old_output output old_left left operands size here found g =
    let all = g.all in
    let few = here.1 in
    record {
      taken = g.taken + ticks_in false;
      out = g.out;
      all = omega (arith, all);
      output = g.printed;
      rests_as = strands_more code from (config_of work rank top bytes) old_output.printed g.taken g.out (Some i) false g.leads (λ tally. found)
          (λ tally long. lost_here code i work rank top bytes tally here.0 (omega (arith, few, size)));
    }
came_resting code from i (rest.Halted (halt.Returned status)) work rank top bytes old_output output old_left left operands size here found g = absurd here
came_resting code from i (rest.Halted (halt.Exited status)) work rank top bytes old_output output old_left left operands size here found g = absurd here
came_resting code from i (rest.Halted (halt.Trapped cause)) work rank top bytes old_output output old_left left operands size here found g = absurd here
came_resting code from i rest.Memory work rank top bytes old_output output old_left left operands size here found g = absurd here

same_config : (old new : Work) (rank old_top new_top : ℕ) (old_bytes new_bytes : List ℕ) (tally : Tally) → new ≡ old → new_top ≡ old_top
    → memory_of rank old_top new_bytes ≡ memory_of rank old_top old_bytes → frames_of new_bytes old_top old.number ≡ frames_of old_bytes old_top old.number
    → config_of old rank old_top old_bytes tally ≡ config_of new rank new_top new_bytes tally
same_config old new rank old_top new_top old_bytes new_bytes tally works tops memory frames =
    let frame = frame_with old.back old.start old_top old.operands in
    ap (λ (m : Memory). config_with old.place frame (frames_of old_bytes old_top old.number) m tally) (sym memory)
    ∙ ap (λ (fs : List Frame). config_with old.place frame fs (memory_of rank old_top new_bytes) tally) (sym frames)
    ∙ ap (λ (t : ℕ). config_of old rank t new_bytes tally) (sym tops)
    ∙ ap (λ (w : Work). config_of w rank new_top new_bytes tally) (sym works)

pub came_memory : (code : Code) (from : Tally → Config) (i : Instr) (work new : Work) (rank top new_top : ℕ) (bytes new_bytes : List ℕ)
    (old_output output new_output : Output) (old_left left : ℕ) → slice_get code.instrs work.place ≡ Some i → is_tick (Some i) ≡ true
    → new ≡ work → new_top ≡ top → memory_of rank top new_bytes ≡ memory_of rank top bytes
    → ((limit k : ℕ) → k ≤ 256 → frames_of new_bytes limit k ≡ frames_of bytes limit k) → work.number < 256 → new_output ≡ output
    → Going code from work rank top bytes old_output output old_left left
    → CameToRest code from new rank new_top new_bytes old_output new_output old_left left rest.Memory
came_memory code from i work new rank top new_top bytes new_bytes old_output output new_output old_left left found tick works tops memory frames below printed g =
    record {
      taken = g.taken;
      out = g.out;
      all = g.all;
      output = printed ∙ g.printed;
      rests_as = (
        record {
          count = g.leads.count;
          joined = λ tally more size.
              g.leads.joined tally more size
              ∙ ap (exec code more) (same_config work new rank top new_top bytes new_bytes (run_on g.taken g.out tally) works tops memory
              (frames top work.number (omega (arith, below))));
        },
        ap (λ (w : Work). is_tick (slice_get code.instrs w.place)) works ∙ ap is_tick found ∙ tick,
      );
    }

-- ---- it gets nearer to its end

some_tally : ℕ → Tally
some_tally size = record { text = replicate size 0; made = []; ticks = 0; left = 0; answers = [] }

went_by : (code : Code) (i : Instr) (work new : Work) (rank top new_top : ℕ) (bytes new_bytes : List ℕ) (output new_output : Output)
    (b : Bool) → is_tick (Some i) ≡ b → (a : Advanced code i None work new rank top new_top bytes new_bytes output new_output)
    → act code (Some i) (config_of work rank top bytes (before b (some_tally output.printed)))
    ≡ Went (config_of new rank new_top new_bytes (behind b (with_out a.out (some_tally output.printed))))
unfolding some_tally
went_by code i work new rank top new_top bytes new_bytes output new_output b is a =
    on_went _ _
    (shows_by code i None work new rank top new_top bytes new_bytes output new_output b output.printed is refl a (some_tally output.printed)
    (length-replicate output.printed (let none : ℕ = 0 in none)))

callers_before : (work : Work) (rank top : ℕ) (bytes : List ℕ) (b : Bool) (tally : Tally)
    → length (config_of work rank top bytes (before b tally)).callers ≡ work.number + 1
callers_before work rank top bytes true tally = callers_count bytes top work.number
callers_before work rank top bytes false tally = callers_count bytes top work.number

callers_behind : (work : Work) (rank top : ℕ) (bytes : List ℕ) (b : Bool) (tally : Tally)
    → length (config_of work rank top bytes (behind b tally)).callers ≡ work.number + 1
callers_behind work rank top bytes true tally = callers_count bytes top work.number
callers_behind work rank top bytes false tally = callers_count bytes top work.number

-- how the calls under way and the place change
abbrev pub Moves : Instr → Bool → Work → Work → Type 0
Moves i true work new = new.number < 256
Moves i false work new = ((new.number ≡ work.number) × Leads i work.place new.place) ⊎ (work.number ≡ suc new.number)

pub moves : (code : Code) (i : Instr) (work new : Work) (rank top new_top : ℕ) (bytes new_bytes : List ℕ) (output new_output : Output) (b : Bool)
    → is_tick (Some i) ≡ b → is_call_of_mpi i ≡ false → work.number < 256
    → Advanced code i None work new rank top new_top bytes new_bytes output new_output → Moves i b work new
moves code i work new rank top new_top bytes new_bytes output new_output true is no_call below a =
    let went = went_by code i work new rank top new_top bytes new_bytes output new_output true is a in
    let old_size = callers_before work rank top bytes true (some_tally output.printed) in
    let new_size = callers_behind new rank new_top new_bytes true (with_out a.out (some_tally output.printed)) in
    let few = few_behind code i _ _ is no_call (omega (arith, old_size, below)) went in
    omega (arith, few, new_size)
moves code i work new rank top new_top bytes new_bytes output new_output false is no_call below a =
    let went = went_by code i work new rank top new_top bytes new_bytes output new_output false is a in
    let old_size = callers_before work rank top bytes false (some_tally output.printed) in
    let new_size = callers_behind new rank new_top new_bytes false (with_out a.out (some_tally output.printed)) in
    elim (led_between code i _ _ is went) [
      | inl stays ↦ (let same = stays.0 in inl (omega (arith, same, old_size, new_size), stays.1))
      | inr fewer ↦ inr (omega (arith, fewer, old_size, new_size))
    ]

pub number_after : (i : Instr) (b : Bool) (work new : Work) → work.number < 256 → Moves i b work new → new.number < 256
number_after i true work new below m = m
number_after i false work new below (inl stays) = let same = stays.0 in omega (arith, same, below)
number_after i false work new below (inr fewer) = omega (arith, fewer, below)

falls_by : (instrs : List Instr) (i : Instr) (b : Bool) (work new : Work) (left new_left : ℕ) → LoopsTick instrs → slice_get instrs work.place ≡ Some i
    → is_tick (Some i) ≡ b → work.place < length instrs → left ≡ ticks_in b + new_left → Moves i b work new
    → weight instrs new_left new.number new.place < weight instrs left work.number work.place
falls_by instrs i true work new left new_left loops found is within took m =
    let one : suc new_left ≡ left = omega (arith, took) in
    subst (λ (l : ℕ). weight instrs new_left new.number new.place < weight instrs l work.number work.place) one
    (ticked_falls instrs new_left work.number work.place new.number new.place m)
falls_by instrs i false work new left new_left loops found is within took (inl stays) =
    let none : new_left ≡ left = omega (arith, took) in
    subst (λ (l : ℕ). weight instrs new_left new.number new.place < weight instrs l work.number work.place) none
    (subst (λ (n : ℕ). weight instrs new_left n new.place < weight instrs new_left work.number work.place) (sym stays.0)
    (nearer_falls instrs i new_left work.number work.place new.place loops found is within stays.1))
falls_by instrs i false work new left new_left loops found is within took (inr fewer) =
    let none : new_left ≡ left = omega (arith, took) in
    subst (λ (l : ℕ). weight instrs new_left new.number new.place < weight instrs l work.number work.place) none
    (subst (λ (n : ℕ). weight instrs new_left new.number new.place < weight instrs new_left n work.place) (sym fewer)
    (left_falls instrs new_left new.number work.place new.place (ap is_tick found ∙ is) within))

pub falls : (code : Code) (i : Instr) (b : Bool) (work new : Work) (left new_left : ℕ) → slice_get code.instrs work.place ≡ Some i
    → is_tick (Some i) ≡ b → work.place < length code.instrs → left ≡ ticks_in b + new_left → Moves i b work new
    → weight code.instrs new_left new.number new.place < weight code.instrs left work.number work.place
falls code i b work new left new_left found is within took m =
    ∥∥₁_elim code.bounded le_prop (λ loops. falls_by code.instrs i b work new left new_left loops found is within took m)

-- ---- for the loop

pub took_is : (b : Bool) (left taken : ℕ) → taken ≡ ticks_in b → (b ≡ true → 0 < left) → left ≡ ticks_in b + (left - taken)
took_is true left taken is some = (let low = some refl in omega (arith, is, low))
took_is false left taken is some = omega (arith, is)

-- a halt at another state of the same place
pub halted_at : (code : Code) (from : Tally → Config) (h : Halt) (new last : Work) (rank top : ℕ) (bytes : List ℕ) (old_output output : Output)
    (old_left left : ℕ) → new.place ≡ last.place → CameToRest code from new rank top bytes old_output output old_left left (rest.Halted h)
    → CameToRest code from last rank top bytes old_output output old_left left (rest.Halted h)
halted_at code from (halt.Returned status) new last rank top bytes old_output output old_left left same came =
    record { taken = came.taken; out = came.out; all = came.all; output = came.output; rests_as = came.rests_as }
halted_at code from (halt.Exited status) new last rank top bytes old_output output old_left left same came =
    record { taken = came.taken; out = came.out; all = came.all; output = came.output; rests_as = came.rests_as }
halted_at code from (halt.Trapped cause) new last rank top bytes old_output output old_left left same came =
    record {
      taken = came.taken;
      out = came.out;
      all = came.all;
      output = came.output;
      rests_as = subst (λ (p : ℕ). EndsAs code from (done_of rank top bytes) old_output.printed came.taken came.out (Trapped cause (place_of code p).unit (place_of code p).line))
          same came.rests_as;
    }
halted_at code from halt.Lost new last rank top bytes old_output output old_left left same came =
    record { taken = came.taken; out = came.out; all = came.all; output = came.output; rests_as = came.rests_as }

pub owned : (code : Code) (i : Instr) (h : Option Halt) (work new : Work) (r s top new_top : ℕ) (bytes new_bytes : List ℕ) (output new_output : Output)
    → r ≡ s → Advanced code i h work new r top new_top bytes new_bytes output new_output → Advanced code i h work new s top new_top bytes new_bytes output new_output
owned code i h work new r s top new_top bytes new_bytes output new_output same a =
    subst (λ (n : ℕ). Advanced code i h work new n top new_top bytes new_bytes output new_output) same a
