-- A run behind another one.
use Rattle.std.proofs.Common.{◌≡◌, ℕ, ◌+◌, ◌∙◌, true, List, ◌++◌, length, refl, sym, ap, subst, arith, append_assoc, length-append}
use Rattle.std.proofs.lemmas.Bool.{true≢false}
use Rattle.rank_range.specs.Output.{with_text, ArePrintedTogether}
use Rattle.rank_range.specs.declared.run.Output.{Output}
use Rattle.vm_code.specs.declared.code.Code.{Code}
use Rattle.vm_code.specs.Stops as stops
use Rattle.vm_code.specs.Stops.{Done}
use Rattle.vm_code.specs.Machine.{Config, exec}
use Rattle.rank_machine.specs.declared.stop.Stop.{Stop}
use Rattle.rank_machine.specs.declared.stop.Stop.TheVariants as stop
use Rattle.rank_machine.specs.View.{Tally, Rank, config_at, done_at}
use Rattle.rank_machine.specs.Runs.{with_ticks, run_on, LeadsTo, EndsAs}
use Rattle.rank_machine.specs.Ran.{Ran, StopsAs, goes_on, output_at}
use Rattle.rank_machine.specs.Joined.{AreJoined, GoOnAsOne}
use Rattle.rank_machine.proofs.GoLemmas.{more_ticks}

run_further : (one two : ℕ) (out more : List ℕ) (tally : Tally) → run_on two more (run_on one out tally) ≡ run_on (one + two) (out ++ more) tally
run_further one two out more tally =
    let e : tally.ticks + one + two ≡ tally.ticks + (one + two) = omega arith in
    ap (λ (text : List ℕ). record tally { text = text; ticks = tally.ticks + one + two }) (append_assoc tally.text out more)
    ∙ ap (λ (n : ℕ). record tally { text = tally.text ++ (out ++ more); ticks = n }) e

pub longer : (printed one : ℕ) (out : List ℕ) (tally : Tally) → length tally.text ≡ printed → length (run_on one out tally).text ≡ printed + length out
longer printed one out tally size = length-append tally.text out ∙ ap (λ (n : ℕ). n + length out) size

leads_joined : (code : Code) (from mid to : Tally → Config) (printed one two : ℕ) (out more : List ℕ) → LeadsTo code from mid printed one out
    → LeadsTo code mid to (printed + length out) two more → LeadsTo code from to printed (one + two) (out ++ more)
leads_joined code from mid to printed one two out rest first second = record {
  count = first.count + second.count;
  joined = λ tally more size.
      let order : first.count + second.count + more ≡ first.count + (second.count + more) = omega arith in
      ap (λ (n : ℕ). exec code n (from (with_ticks (one + two) tally))) order
      ∙ ap (exec code (first.count + (second.count + more))) (more_ticks from one two tally)
      ∙ first.joined (with_ticks two tally) (second.count + more) size
      ∙ second.joined (run_on one out tally) more (longer printed one out tally size)
      ∙ ap (λ (t : Tally). exec code more (to t)) (run_further one two out rest tally);
}

ends_joined : (code : Code) (from mid : Tally → Config) (done : Tally → Done) (printed one two : ℕ) (out more : List ℕ) (s : stops.Stop)
    → LeadsTo code from mid printed one out → EndsAs code mid done (printed + length out) two more s
    → EndsAs code from done printed (one + two) (out ++ more) s
ends_joined code from mid done printed one two out more s first second = record {
  ends = λ tally size.
      let h = second.ends (run_on one out tally) (longer printed one out tally size) in
      record {
        instructions = first.count + h.instructions;
        last = h.last;
        reached =
            ap (exec code (first.count + h.instructions)) (more_ticks from one two tally)
            ∙ first.joined (with_ticks two tally) h.instructions size ∙ h.reached;
        done_is = h.done_is ∙ ap done (run_further one two out more tally);
      };
}

stops_joined : (code : Code) (from mid : Tally → Config) (printed : ℕ) (new : Rank) (one two left : ℕ) (out more : List ℕ) (result : Stop)
    → LeadsTo code from mid printed one out → StopsAs code mid (printed + length out) new two left more result
    → StopsAs code from printed new (one + two) left (out ++ more) result
stops_joined code from mid printed new one two left out more (stop.Ended status) first s = ends_joined code from mid (done_at new) printed one two out more _ first s
stops_joined code from mid printed new one two left out more (stop.Trap cause unit line) first s = ends_joined code from mid (done_at new) printed one two out more _ first s
stops_joined code from mid printed new one two left out more stop.Paused first s =
    (leads_joined code from mid (config_at code new) printed one two out more first s.0, s.1, s.2, s.3)
stops_joined code from mid printed new one two left out more (stop.Call call) first s =
    (leads_joined code from mid (config_at code new) printed one two out more first s.0, s.1, s.2, s.3, s.4)
stops_joined code from mid printed new one two left out more stop.Memory first s =
    (leads_joined code from mid (config_at code new) printed one two out more first s.0, s.1)

-- where a run that goes on later leads
pub leads_on : (code : Code) (from : Tally → Config) (printed : ℕ) (new : Rank) (taken left : ℕ) (out : List ℕ) (halt : Stop) → goes_on halt ≡ true
    → StopsAs code from printed new taken left out halt → LeadsTo code from (config_at code new) printed taken out
leads_on code from printed new taken left out (stop.Ended status) on s = absurd (true≢false (sym on))
leads_on code from printed new taken left out (stop.Trap cause unit line) on s = absurd (true≢false (sym on))
leads_on code from printed new taken left out stop.Paused on s = s.0
leads_on code from printed new taken left out (stop.Call call) on s = s.0
leads_on code from printed new taken left out stop.Memory on s = s.0

-- what is printed there
pub output_on : (halt : Stop) (output : Output) → goes_on halt ≡ true → output_at halt output ≡ output
output_on (stop.Ended status) output on = absurd (true≢false (sym on))
output_on (stop.Trap cause unit line) output on = absurd (true≢false (sym on))
output_on stop.Paused output on = refl
output_on (stop.Call call) output on = refl
output_on stop.Memory output on = refl

pub go_on_as_one : ArePrintedTogether → GoOnAsOne
go_on_as_one together code old mid new first second old_output mid_output new_output halt result on one two =
    let counted = one.counted in
    let more = two.counted in
    let all = two.all in
    let printed : mid_output ≡ with_text old_output one.out = one.output ∙ output_on halt (with_text old_output one.out) on in
    record {
      taken = one.taken + two.taken;
      left = two.left;
      out = one.out ++ two.out;
      all = omega (arith, all);
      counted = omega (arith, counted, more);
      output =
          two.output ∙ ap (λ (o : Output). output_at result (with_text o two.out)) printed
          ∙ ap (output_at result) (together old_output one.out two.out);
      stops =
          stops_joined code (config_at code old) (config_at code mid) old_output.printed new one.taken two.taken two.left one.out two.out result
          (leads_on code (config_at code old) old_output.printed mid one.taken one.left one.out halt on one.stops)
          (subst (λ (n : ℕ). StopsAs code (config_at code mid) n new two.taken two.left two.out result) (ap (λ (o : Output). o.printed) printed) two.stops);
    }

pub are_joined : ArePrintedTogether → AreJoined
are_joined together code old mid new first second old_output mid_output new_output result one two =
    let all = one.all in
    let none : one.left ≡ 0 = one.stops.1 in
    let taken : one.taken ≡ first = omega (arith, all, none) in
    subst (λ (n : ℕ). Ran code old (n + second) old_output new_output result new) taken
    (go_on_as_one together code old mid new first second old_output mid_output new_output stop.Paused result refl one two)
