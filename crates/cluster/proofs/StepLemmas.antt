-- A rank's run, by that of its machine.
use Rattle.std.proofs.Common.{ℕ, zero, suc, ◌≡◌, ◌+◌, ◌-◌, ◌<◌, ◌≤◌, ◌++◌, min, List, [], length, refl, sym, ap, ◌∙◌, subst, arith, true, false, inl, inr, Option, Some, None}
use Rattle.std.specs.Prelude.{slice_get}
use Rattle.rank_range.specs.Areas.{memory_of}
use Rattle.rank_range.specs.Nodes.{HasHeap}
use Rattle.rank_range.specs.Output.{text_limit, with_text, with_last_line, ArePrintedTogether}
use Rattle.rank_range.specs.declared.run.Output.{Output}
use Rattle.rank_range.specs.declared.run.Ending.{Ending}
use Rattle.rank_range.specs.declared.run.Ending.TheVariants.{Running}
use Rattle.rank_range.specs.declared.run.Ending.TheVariants as ending
use Rattle.vm_code.specs.declared.code.Code.{Code}
use Rattle.vm_code.specs.Stops.{Stop, Paused, Waits, Ended, Trapped, Done}
use Rattle.vm_code.specs.Machine.{Config, Moved, Stopped, exec, follow, one_step, Stops}
use Rattle.vm_code.specs.Laws.{StaysStopped}
use Rattle.c_model.specs.Outcome.{Outcome}
use Rattle.c_model.specs.Statements.{run_of}
use Rattle.c_model.specs.Laws.{MoreTicksExtend, RunsTakeTicks}
use Rattle.rank_machine.specs.View as machine
use Rattle.rank_machine.specs.View.{Tally, config_at, config_in, done_at}
use Rattle.rank_machine.specs.Runs.{LeadsTo, EndsAs, with_ticks, run_on}
use Rattle.rank_machine.specs.Ran.{Stands, GoesOn, Gone, Ran as MachineRan, PausesHere, is_mpi, goes_on}
use Rattle.rank_machine.specs.Onward.{RunsLeadOn}
use Rattle.rank_machine.specs.declared.stop.Stop.{Stop as MachineStop}
use Rattle.rank_machine.specs.declared.stop.Stop.TheVariants as stop
use Rattle.w_model.specs.World.{Setting}
use Rattle.w_model.specs.Texts.{ending_of, is_unended}
use Rattle.cluster.specs.declared.rank.Rank.{Rank}
use Rattle.cluster.specs.Job.{CallsNoMpi}
use Rattle.cluster.specs.Rank.{seen, nothing_printed, output_of, run_at, tally_of, stopped_as, GoesFrom, StandsFor, Ran}

-- what a rank has done, and how its machine goes on, don't depend on the ticks of a tally: the registers tell them
same-ticks : (code : Code) (rank : machine.Rank) (d k : ℕ) (tally : Tally)
    → config_in code rank d (record tally { ticks = k }) ≡ config_in code rank d tally
same-ticks code rank zero k tally = refl
same-ticks code rank (suc d) k tally = refl

done-in : (code : Code) (rank : machine.Rank) (d : ℕ) (tally : Tally) → (config_in code rank d tally).done ≡ done_at rank tally
done-in code rank zero tally = refl
done-in code rank (suc d) tally = refl

abbrev stop-of : Stop → Moved → Stop
stop-of other (Stopped stop c) = stop
stop-of other m = other

abbrev done-of : Done → Moved → Done
done-of other (Stopped stop c) = c.done
done-of other m = other

-- a machine stops in one way
one-stop : StaysStopped → (code : Code) (c : Config) (s t : Stop) (d e : Done) → Stops code c s d → Stops code c t e → (s ≡ t) × (d ≡ e)
one-stop stays code c s t d e first second =
    let j = first.instructions in
    let k = second.instructions in
    let same : Stopped s first.last ≡ Stopped t second.last =
    sym (stays code c first.last s j (j + k) first.reached (omega arith))
    ∙ stays code c second.last t k (j + k) second.reached (omega arith) in
    (ap (stop-of s) same, sym first.done_is ∙ ap (done-of d) same ∙ second.done_is)

-- where a machine leads to another, that one stops as it does
leads-on : StaysStopped → (code : Code) (from to : Tally → Config) (printed taken : ℕ) (out : List ℕ) (tally : Tally) (s : Stop) (d : Done)
    → LeadsTo code from to printed taken out → length tally.text ≡ printed
    → Stops code (from (with_ticks taken tally)) s d → Stops code (to (run_on taken out tally)) s d
leads-on stays code from to printed taken out tally s d leads size stops = record {
  instructions = stops.instructions;
  last = stops.last;
  reached = sym (leads.joined tally stops.instructions size)
      ∙ stays code (from (with_ticks taken tally)) stops.last s stops.instructions (leads.count + stops.instructions) stops.reached (omega arith);
  done_is = stops.done_is;
}

stops-here : (code : Code) (at : Tally → Config) (tally : Tally) → PausesHere code at
    → Stops code (at (record tally { left = 0 })) Paused (at (record tally { left = 0 })).done
stops-here code at tally pauses = record {
  instructions = 1;
  last = at (record tally { left = 0 });
  reached = ap (λ m. follow m (exec code 0)) (pauses tally);
  done_is = refl;
}

-- what a rank that is paused has printed
text-size : (code : Code) (s : Setting) (number : ℕ) (rank : Rank) → StandsFor code s number rank → GoesFrom code s number rank
    → length (run_at s number rank.regs.ticks).done.text ≡ rank.regs.output.printed
text-size code s number rank stands goes =
    let o = run_at s number rank.regs.ticks in
    let out = stands.output ∙ ap (λ st. output_of st o.done.text) goes.paused in
    omega (arith, ap (λ (x : Output). x.printed) out)

printed-on : ArePrintedTogether → (code : Code) (s : Setting) (number : ℕ) (rank : Rank) (out : List ℕ) → StandsFor code s number rank → GoesFrom code s number rank
    → with_text rank.regs.output out ≡ with_text nothing_printed ((run_at s number rank.regs.ticks).done.text ++ out)
printed-on together code s number rank out stands goes =
    let o = run_at s number rank.regs.ticks in
    ap (λ x. with_text x out) (stands.output ∙ ap (λ st. output_of st o.done.text) goes.paused)
    ∙ together nothing_printed o.done.text out

-- The rank's run after more ticks stands so, with this done.
record Came (s : Setting) (number : ℕ) (old new : Rank) (taken : ℕ) (out : List ℕ) (stop : Stop) : Type 0 where
  pub ticks : new.regs.ticks ≡ old.regs.ticks + taken
  pub stop_is : (run_at s number new.regs.ticks).stop ≡ stop
  pub done_is : (run_at s number new.regs.ticks).done ≡ done_at (seen new) (run_on taken out (tally_of (run_at s number old.regs.ticks) 0))

came-ended : StaysStopped → (code : Code) (s : Setting) (number : ℕ) (old new : Rank) (taken : ℕ) (out : List ℕ) (stop : Stop)
    → StandsFor code s number old → GoesFrom code s number old → new.regs.ticks ≡ old.regs.ticks + taken
    → EndsAs code (config_at code (seen old)) (done_at (seen new)) old.regs.output.printed taken out stop
    → Came s number old new taken out stop
came-ended stays code s number old new taken out stop stands goes ticks ends =
    let tally = tally_of (run_at s number old.regs.ticks) 0 in
    let none : taken + 0 ≡ taken = omega arith in
    let P : ℕ → Type 0 = λ k. Stops code (config_at code (seen old) (record tally { left = k })) stop (done_at (seen new) (run_on taken out tally)) in
    let ended = subst P none (ends.ends tally (text-size code s number old stands goes)) in
    let both = one-stop stays code _ _ _ _ _ (goes.on taken) ended in
    record {
      ticks = ticks;
      stop_is = ap (λ k. (run_at s number k).stop) ticks ∙ both.0;
      done_is = ap (λ k. (run_at s number k).done) ticks ∙ both.1;
    }

-- what the machine of the rank does from here with n ticks, where it is where the other one led
next-stops : StaysStopped → (code : Code) (s : Setting) (number : ℕ) (old new : Rank) (taken n : ℕ) (out : List ℕ)
    → StandsFor code s number old → GoesFrom code s number old → new.regs.ticks ≡ old.regs.ticks + taken
    → LeadsTo code (config_at code (seen old)) (config_at code (seen new)) old.regs.output.printed taken out
    → Stops code (config_at code (seen new) (run_on taken out (tally_of (run_at s number old.regs.ticks) n)))
    (run_at s number (new.regs.ticks + n)).stop (run_at s number (new.regs.ticks + n)).done
next-stops stays code s number old new taken n out stands goes ticks leads =
    let tally = tally_of (run_at s number old.regs.ticks) n in
    let all : old.regs.ticks + (taken + n) ≡ new.regs.ticks + n = omega (arith, ticks) in
    let P : ℕ → Type 0 = λ k. Stops code (config_at code (seen new) (run_on taken out tally)) (run_at s number k).stop (run_at s number k).done in
    subst P all (leads-on stays code (config_at code (seen old)) (config_at code (seen new)) old.regs.output.printed taken out tally _ _ leads
    (text-size code s number old stands goes) (goes.on (taken + n)))

came-paused : StaysStopped → (code : Code) (s : Setting) (number : ℕ) (old new : Rank) (taken : ℕ) (out : List ℕ)
    → StandsFor code s number old → GoesFrom code s number old → new.regs.ticks ≡ old.regs.ticks + taken
    → LeadsTo code (config_at code (seen old)) (config_at code (seen new)) old.regs.output.printed taken out
    → PausesHere code (config_at code (seen new))
    → Came s number old new taken out Paused
came-paused stays code s number old new taken out stands goes ticks leads pauses =
    let tally = run_on taken out (tally_of (run_at s number old.regs.ticks) 0) in
    let none : new.regs.ticks + 0 ≡ new.regs.ticks = omega arith in
    let both = one-stop stays code _ _ _ _ _ (next-stops stays code s number old new taken 0 out stands goes ticks leads)
    (stops-here code (config_at code (seen new)) tally pauses) in
    record {
      ticks = ticks;
      stop_is = ap (λ k. (run_at s number k).stop) (sym none) ∙ both.0;
      done_is = ap (λ k. (run_at s number k).done) (sym none) ∙ both.1 ∙ done-in code (seen new) new.regs.depth tally;
    }

-- the rank stands for the run then
stands-by : ArePrintedTogether → (code : Code) (s : Setting) (number : ℕ) (old new : Rank) (taken : ℕ) (out : List ℕ) (stop : Stop)
    → StandsFor code s number old → GoesFrom code s number old → Came s number old new taken out stop
    → new.memory.0 ≡ number → new.ending ≡ ending_of stop
    → (new.regs.output ≡ output_of stop ((run_at s number old.regs.ticks).done.text ++ out))
    → (new.ending ≡ Running → GoesFrom code s number new)
    → StandsFor code s number new
stands-by together code s number old new taken out stop stands goes came owner ending_is output on = record {
  owner = owner;
  ending = ending_is ∙ ap ending_of (sym came.stop_is);
  output = output ∙ ap (λ d. output_of stop d) (sym (ap (λ (d : Done). d.text) came.done_is))
      ∙ ap (λ st. output_of st (run_at s number new.regs.ticks).done.text) (sym came.stop_is);
  memory = ap (λ (d : Done). d.memory) came.done_is ∙ ap (λ k. memory_of k new.memory.1 new.memory.2) owner;
  ticks = ap (λ (d : Done). d.ticks) came.done_is;
  goes_on = on;
}

-- before each tick that was taken the run was paused
was-paused : MoreTicksExtend → RunsTakeTicks → (s : Setting) (number from taken j : ℕ) → j < taken
    → (run_at s number (from + taken)).done.ticks ≡ from + taken → (run_at s number (from + j)).stop ≡ Paused
was-paused extends takes s number from taken j small all =
    let more = extends s.program s.segment number (from + j) (taken - j) [] in
    let whole : (from + j) + (taken - j) ≡ from + taken = omega arith in
    let run = run_at s number (from + j) in
    by run.stop refl (λ other.
    let same = more.same other in
    let ticks : run.done.ticks ≡ from + taken =
    sym (ap (λ (o : Outcome). o.done.ticks) same) ∙ ap (λ k. (run_at s number k).done.ticks) whole ∙ all in
    omega (arith, ticks, (takes s.program s.segment number (from + j) []).at_most))
  where
    by : (stop : Stop) → (run_at s number (from + j)).stop ≡ stop → (((run_at s number (from + j)).stop ≡ Paused → ⊥) → ⊥)
        → (run_at s number (from + j)).stop ≡ Paused
    by Paused is not = is
    by (Waits call) is not = absurd (not (λ e. cc))
    by (Ended status) is not = absurd (not (λ e. cc))
    by (Trapped cause unit line) is not = absurd (not (λ e. cc))

-- no tick taken
pub ran-none : (code : Code) (s : Setting) (number budget : ℕ) (rank : Rank) → StandsFor code s number rank
    → (rank.ending ≡ Running → s.bound ≤ rank.regs.ticks) → Ran code s number budget rank rank 0
ran-none code s number budget rank stands at_bound = record {
  ticked = record {
    stands = stands;
    ticks = omega arith;
    running = λ j below. absurd (omega arith);
    below_bound = λ j below. absurd (omega arith);
  };
  within = omega arith;
  stopped = λ some paused. at_bound paused;
}

-- The laws of the machine and of runs.
pub record Laws : Type 0 where
  pub stays : StaysStopped
  pub together : ArePrintedTogether
  pub extends : MoreTicksExtend
  pub takes : RunsTakeTicks
  pub leads : RunsLeadOn

-- A run of the machine, and what it left.
pub record Going (code : Code) (s : Setting) (number most : ℕ) (old new : Rank) (result : MachineStop) : Type 0 where
  pub no_mpi : CallsNoMpi code
  pub stands : StandsFor code s number old
  pub goes : GoesFrom code s number old
  pub owner : new.memory.0 ≡ number
  pub gone : Gone code (seen old) most old.regs.output new.regs.output result (seen new)
  pub stand : goes_on result ≡ true → Stands code (seen new)
  pub heap : HasHeap new.memory.0 new.memory.2
  pub numbers : new.regs.output.next + length new.regs.output.unfinished ≤ new.regs.output.printed
  pub limit : new.regs.output.printed ≤ text_limit

-- so many ticks were taken, and no more could be
record Took (code : Code) (s : Setting) (number most : ℕ) (old new : Rank) : Type 0 where
  pub taken : ℕ
  pub stands : StandsFor code s number new
  pub ticks : new.regs.ticks ≡ old.regs.ticks + taken
  pub at_most : taken ≤ most
  pub all : new.ending ≡ Running → taken ≡ most

some-ending : (a b : Ending) → Some a ≡ Some b → a ≡ b
some-ending a b e = cc

took-paused : Laws → (code : Code) (s : Setting) (number most : ℕ) (old new : Rank)
    → (g : Going code s number most old new stop.Paused) → new.ending ≡ Running
    → MachineRan code (seen old) most old.regs.output new.regs.output stop.Paused (seen new) → Took code s number most old new
took-paused laws code s number most old new g ending_is ran =
    let came = came-paused laws.stays code s number old new ran.taken ran.out g.stands g.goes ran.counted ran.stops.0 ran.stops.2 in
    let o = run_at s number old.regs.ticks in
    let o' = run_at s number new.regs.ticks in
    let text : o'.done.text ≡ o.done.text ++ ran.out = ap (λ (d : Done). d.text) came.done_is in
    let made : o'.done.made ≡ o.done.made = ap (λ (d : Done). d.made) came.done_is in
    record {
      taken = ran.taken;
      stands = stands-by laws.together code s number old new ran.taken ran.out Paused g.stands g.goes came g.owner ending_is
          (ran.output ∙ printed-on laws.together code s number old ran.out g.stands g.goes)
          (λ running. record {
            paused = came.stop_is;
            stands = g.stand refl;
            heap = g.heap;
            goes = laws.leads code (seen old) (seen new) most old.regs.output new.regs.output stop.Paused g.goes.goes g.gone refl;
            numbers = g.numbers;
            limit = g.limit;
            on = λ n.
                let P : Config → Type 0 = λ c. Stops code c (run_at s number (new.regs.ticks + n)).stop (run_at s number (new.regs.ticks + n)).done in
                let with_text_and : List ℕ → Tally = λ t. record { text = t; made = o.done.made; ticks = 0; left = n; answers = [] } in
                let with_made_and : _ → Tally = λ m. record { text = o'.done.text; made = m; ticks = 0; left = n; answers = [] } in
                let same : config_at code (seen new) (run_on ran.taken ran.out (tally_of o n)) ≡ config_at code (seen new) (tally_of o' n) =
                sym (same-ticks code (seen new) new.regs.depth 0 (run_on ran.taken ran.out (tally_of o n)))
                ∙ ap (λ t. config_at code (seen new) (with_text_and t)) (sym text)
                ∙ ap (λ m. config_at code (seen new) (with_made_and m)) (sym made) in
                subst P same (next-stops laws.stays code s number old new ran.taken n ran.out g.stands g.goes ran.counted ran.stops.0);
          });
      ticks = ran.counted;
      at_most = omega (arith, ran.all);
      all = λ running. omega (arith, ran.all, ran.stops.1);
    }

took-halted : Laws → (code : Code) (s : Setting) (number most : ℕ) (old new : Rank) (result : MachineStop) (halt : Stop) (taken left : ℕ) (out : List ℕ)
    → (g : Going code s number most old new result) → new.ending ≡ ending_of halt → (ending_of halt ≡ Running → ⊥)
    → taken + left ≡ most → new.regs.ticks ≡ old.regs.ticks + taken
    → new.regs.output ≡ output_of halt ((run_at s number old.regs.ticks).done.text ++ out)
    → EndsAs code (config_at code (seen old)) (done_at (seen new)) old.regs.output.printed taken out halt
    → Took code s number most old new
took-halted laws code s number most old new result halt taken left out g ending_is over all ticks output ends =
    let came = came-ended laws.stays code s number old new taken out halt g.stands g.goes ticks ends in
    record {
      taken = taken;
      stands = stands-by laws.together code s number old new taken out halt g.stands g.goes came g.owner ending_is output
          (λ running. absurd (over (sym ending_is ∙ running)));
      ticks = ticks;
      at_most = omega (arith, all);
      all = λ running. absurd (over (sym ending_is ∙ running));
    }

took : Laws → (code : Code) (s : Setting) (number most : ℕ) (old new : Rank) (result : MachineStop)
    → (g : Going code s number most old new result) → stopped_as result ≡ Some new.ending
    → MachineRan code (seen old) most old.regs.output new.regs.output result (seen new) → Took code s number most old new
took laws code s number most old new stop.Paused g told ran = took-paused laws code s number most old new g (some-ending new.ending Running (sym told)) ran
took laws code s number most old new (stop.Ended status) g told ran =
    took-halted laws code s number most old new (stop.Ended status) (Ended status) ran.taken ran.left ran.out g
    (some-ending new.ending (ending.Ended status) (sym told)) (λ e. cc) ran.all ran.counted
    (ran.output ∙ ap with_last_line (printed-on laws.together code s number old ran.out g.stands g.goes)) ran.stops
took laws code s number most old new (stop.Trap cause unit line) g told ran =
    took-halted laws code s number most old new (stop.Trap cause unit line) (Trapped cause unit line) ran.taken ran.left ran.out g
    (some-ending new.ending (ending_of (Trapped cause unit line)) (sym told)) (λ e. cc) ran.all ran.counted
    (ran.output ∙ ap with_last_line (printed-on laws.together code s number old ran.out g.stands g.goes)) ran.stops
took laws code s number most old new (stop.Call call) g told ran =
    let is : is_mpi (slice_get code.instrs new.regs.position) ≡ true = ran.stops.2 in
    absurd (no (sym is ∙ g.no_mpi new.regs.position))
  where
    no : true ≡ false → ⊥
    no e = cc
took laws code s number most old new stop.Memory g told ran = absurd (cc)

took-any : Laws → (code : Code) (s : Setting) (number most : ℕ) (old new : Rank) (result : MachineStop)
    → (g : Going code s number most old new result) → stopped_as result ≡ Some new.ending → Took code s number most old new
took-any laws code s number most old new result g told = elim g.gone [
  | inl none ↦ absurd (nothing (sym (ap stopped_as none.memory) ∙ told))
  | inr ran ↦ took laws code s number most old new result g told ran
]
  where
    nothing : None ≡ Some new.ending → ⊥
    nothing e = cc

-- the ticks of the machine's run
pub ran-machine : Laws → (code : Code) (s : Setting) (number budget most taken : ℕ) (old new : Rank) (result : MachineStop)
    → Going code s number most old new result → stopped_as result ≡ Some new.ending
    → old.regs.ticks < s.bound → most ≡ min budget (s.bound - old.regs.ticks) → taken ≡ new.regs.ticks - old.regs.ticks
    → Ran code s number budget old new taken
ran-machine laws code s number budget most taken old new result g told below most_is taken_is =
    let took = took-any laws code s number most old new result g told in
    let same : taken ≡ took.taken = omega (arith, taken_is, took.ticks) in
    let all : new.regs.ticks ≡ old.regs.ticks + taken = omega (arith, took.ticks, same) in
    record {
      ticked = record {
        stands = took.stands;
        ticks = all;
        running = λ j small. was-paused laws.extends laws.takes s number old.regs.ticks taken j small
            (ap (λ k. (run_at s number k).done.ticks) (sym all) ∙ took.stands.ticks ∙ all);
        below_bound = λ j small. omega (arith, same, took.at_most, most_is);
      };
      within = omega (arith, same, took.at_most, most_is);
      stopped = λ left running. omega (arith, left, same, took.all running, most_is, all);
    }

pub unended-runs : (ending : Ending) → is_unended ending ≡ true → ending ≡ Running
unended-runs Running e = refl
unended-runs (ending.Ended status) e = cc
unended-runs (ending.Trapped why) e = cc
