-- A run of a rank, from its first instruction or from a call on.
use Rattle.std.proofs.Common.{◌≡◌, ℕ, zero, suc, ◌+◌, ◌-◌, ◌<◌, ◌≤◌, ◌∙◌, true, List, [], ◌++◌, length, take, reverse, refl, sym, ap, subst, arith, Some}
use Rattle.std.specs.Prelude.{nat_le, slice_get}
use Rattle.std.proofs.lemmas.Bool.{le-leb}
use Rattle.std.proofs.lemmas.List.{append-nil}
use Rattle.rank_range.specs.declared.run.Output.{Output}
use Rattle.am_base.specs.declared.traps.TrapCause.{TrapCause}
use Rattle.vm_code.specs.declared.code.Code.{Code}
use Rattle.vm_code.specs.declared.instr.Instr.TheVariants as instr
use Rattle.vm_code.specs.Lines.{place_of}
use Rattle.vm_code.specs.Stops as stops
use Rattle.vm_code.specs.Stops.{Done}
use Rattle.vm_code.specs.Machine.{Config, Moved, Went, Stopped, Stuck, act, exec, follow, one_step, given}
use Rattle.rank_machine.specs.declared.work.Work.{Work}
use Rattle.rank_machine.specs.declared.stop.Stop.{Stop}
use Rattle.rank_machine.specs.declared.stop.Stop.TheVariants as stop
use Rattle.rank_machine.specs.View.{Tally, Rank, work_at, config_of, config_since, config_before, config_in, config_at, done_of, done_at}
use Rattle.rank_machine.specs.Steps.{Shown, On, Halted, shown}
use Rattle.rank_machine.specs.Runs.{with_ticks, run_on, LeadsTo, EndsAs, Strands}
use Rattle.rank_machine.specs.Ran.{GoesOn, RanFrom, StopsAs, AtFirst, is_mpi}
use Rattle.rank_machine.proofs.LibraryLemmas.{no_text}
use Rattle.rank_machine.proofs.LedLemmas.{on_went}
use Rattle.rank_machine.proofs.RunLemmas.{leads_start, halts}
use Rattle.rank_machine.proofs.BeginLemmas.{two_words, operand_count}

-- ---- a machine that goes on isn't stuck

follow_both : (m : Moved) (f g : Config → Moved) (s : stops.Stop) (last : Config) → ((c : Config) → f c ≡ Stuck → g c ≡ Stopped s last → ⊥)
    → follow m f ≡ Stuck → follow m g ≡ Stopped s last → ⊥
follow_both (Went c) f g s last each stuck stopped = each c stuck stopped
follow_both (Stopped t c) f g s last each stuck stopped = cc (stuck)
follow_both Stuck f g s last each stuck stopped = cc (stopped)

no_both : (code : Code) (j k : ℕ) (c last : Config) (s : stops.Stop) → exec code j c ≡ Stuck → exec code k c ≡ Stopped s last → ⊥
no_both code zero k c last s stuck stopped = cc (stuck)
no_both code (suc j) zero c last s stuck stopped = cc (stopped)
no_both code (suc j) (suc k) c last s stuck stopped =
    follow_both (one_step code c) (exec code j) (exec code k) s last (λ d. no_both code j k d last s) stuck stopped

given_in : (code : Code) (rank : Rank) (depth : ℕ) (tally : Tally) (left : ℕ)
    → given left tally.answers (config_in code rank depth tally) ≡ config_in code rank depth (record tally { left = left })
given_in code rank zero tally left = refl
given_in code rank (suc number) tally left = refl

pub never_strands : (code : Code) (rank : Rank) (printed taken : ℕ) → GoesOn code rank printed → Strands code (config_at code rank) printed taken → ⊥
never_strands code rank printed taken g s =
    let tally = g.tally in
    let stop = g.goes.stops (taken + tally.left) tally.answers in
    let t = stop.2 in
    no_both code s.count t.instructions (config_at code rank (with_ticks taken tally)) t.last stop.0 (s.stuck tally g.size)
    (ap (exec code t.instructions) (sym (given_in code rank rank.depth tally (taken + tally.left))) ∙ t.reached)

-- ---- a run behind a first part that prints nothing

pub more_ticks : (from : Tally → Config) (one two : ℕ) (tally : Tally) → from (with_ticks (one + two) tally) ≡ from (with_ticks one (with_ticks two tally))
more_ticks from one two tally =
    let e : one + two + tally.left ≡ one + (two + tally.left) = omega arith in
    ap (λ (n : ℕ). from (record tally { left = n })) e

run_twice : (one two : ℕ) (out : List ℕ) (tally : Tally) → run_on two out (run_on one [] tally) ≡ run_on (one + two) out tally
run_twice one two out tally =
    let e : tally.ticks + one + two ≡ tally.ticks + (one + two) = omega arith in
    ap (λ (text : List ℕ). record tally { text = text ++ out; ticks = tally.ticks + one + two }) (append-nil tally.text)
    ∙ ap (λ (n : ℕ). record tally { text = tally.text ++ out; ticks = n }) e

same_length : (printed one : ℕ) (tally : Tally) → length tally.text ≡ printed → length (run_on one [] tally).text ≡ printed
same_length printed one tally size = ap length (append-nil tally.text) ∙ size

pub leads_prefix : (code : Code) (from mid to : Tally → Config) (printed one two : ℕ) (out : List ℕ) → LeadsTo code from mid printed one []
    → LeadsTo code mid to printed two out → LeadsTo code from to printed (one + two) out
leads_prefix code from mid to printed one two out first second = record {
  count = first.count + second.count;
  joined = λ tally more size.
      let order : first.count + second.count + more ≡ first.count + (second.count + more) = omega arith in
      ap (λ (n : ℕ). exec code n (from (with_ticks (one + two) tally))) order
      ∙ ap (exec code (first.count + (second.count + more))) (more_ticks from one two tally)
      ∙ first.joined (with_ticks two tally) (second.count + more) size
      ∙ second.joined (run_on one [] tally) more (same_length printed one tally size)
      ∙ ap (λ (t : Tally). exec code more (to t)) (run_twice one two out tally);
}

pub ends_prefix : (code : Code) (from mid : Tally → Config) (done : Tally → Done) (printed one two : ℕ) (out : List ℕ) (s : stops.Stop)
    → LeadsTo code from mid printed one [] → EndsAs code mid done printed two out s → EndsAs code from done printed (one + two) out s
ends_prefix code from mid done printed one two out s first second = record {
  ends = λ tally size.
      let h = second.ends (run_on one [] tally) (same_length printed one tally size) in
      record {
        instructions = first.count + h.instructions;
        last = h.last;
        reached =
            ap (exec code (first.count + h.instructions)) (more_ticks from one two tally)
            ∙ first.joined (with_ticks two tally) h.instructions size ∙ h.reached;
        done_is = h.done_is ∙ ap done (run_twice one two out tally);
      };
}

pub strands_prefix : (code : Code) (from mid : Tally → Config) (printed one two : ℕ) → LeadsTo code from mid printed one [] → Strands code mid printed two
    → Strands code from printed (one + two)
strands_prefix code from mid printed one two first second = record {
  count = first.count + second.count;
  stuck = λ tally size.
      ap (exec code (first.count + second.count)) (more_ticks from one two tally)
      ∙ first.joined (with_ticks two tally) second.count size ∙ second.stuck (run_on one [] tally) (same_length printed one tally size);
}

stops_prefix : (code : Code) (from mid : Tally → Config) (printed : ℕ) (new : Rank) (one two left : ℕ) (out : List ℕ) (result : Stop)
    → LeadsTo code from mid printed one [] → StopsAs code mid printed new two left out result → StopsAs code from printed new (one + two) left out result
stops_prefix code from mid printed new one two left out (stop.Ended status) first s = ends_prefix code from mid (done_at new) printed one two out _ first s
stops_prefix code from mid printed new one two left out (stop.Trap cause unit line) first s = ends_prefix code from mid (done_at new) printed one two out _ first s
stops_prefix code from mid printed new one two left out stop.Paused first s =
    (leads_prefix code from mid (config_at code new) printed one two out first s.0, s.1, s.2, s.3)
stops_prefix code from mid printed new one two left out (stop.Call call) first s =
    (leads_prefix code from mid (config_at code new) printed one two out first s.0, s.1, s.2, s.3, s.4)
stops_prefix code from mid printed new one two left out stop.Memory first s =
    (leads_prefix code from mid (config_at code new) printed one two out first s.0, s.1)

pub ran_behind : (code : Code) (from mid : Tally → Config) (ticks printed budget : ℕ) (old_output new_output : Output) (result : Stop) (new : Rank)
    → LeadsTo code from mid printed 1 [] → 0 < budget → RanFrom code mid (ticks + 1) printed (budget - 1) old_output new_output result new
    → RanFrom code from ticks printed budget old_output new_output result new
ran_behind code from mid ticks printed budget old_output new_output result new first some ran =
    let all = ran.all in
    let counted = ran.counted in
    record {
      taken = 1 + ran.taken;
      left = ran.left;
      out = ran.out;
      all = omega (arith, all, some);
      counted = omega (arith, counted);
      output = ran.output;
      stops = stops_prefix code from mid printed new 1 ran.taken ran.left ran.out result first ran.stops;
    }

-- ---- the first instruction

abbrev pub rank_first : ℕ → ℕ → List ℕ → Rank
rank_first rank top bytes = record { place = 0; depth = 0; ticks = 0; number = rank; top = top; bytes = bytes }

-- the machine before the call of `main`, at a place that is the first one
at_first : (code : Code) (place depth ticks rank top : ℕ) (bytes : List ℕ) (tally : Tally) → place ≡ 0 → depth ≡ 0
    → config_at code (record { place = place; depth = depth; ticks = ticks; number = rank; top = top; bytes = bytes }) tally
    ≡ config_before code (rank_first rank top bytes) (record tally { ticks = ticks })
at_first code place depth ticks rank top bytes tally first none =
    ap (λ (d : ℕ). config_in code (record { place = place; depth = d; ticks = ticks; number = rank; top = top; bytes = bytes }) d tally) none
    ∙ ap (λ (p : ℕ). config_before code (record { place = p; depth = 0; ticks = ticks; number = rank; top = top; bytes = bytes }) (record tally { ticks = ticks })) first

-- what the first instruction shows leads there
abbrev FirstShows : Code → ℕ → ℕ → List ℕ → (Tally → Shown) → Type 0
FirstShows code rank top bytes result =
    (tally : Tally) → result tally
    ≡ shown (act code (slice_get code.instrs 0) (config_before code (rank_first rank top bytes) (record tally { left = suc tally.left })))

pub main_leads : (code : Code) (place depth ticks rank top new_top printed : ℕ) (bytes new_bytes : List ℕ) (new : Work) → place ≡ 0 → depth ≡ 0
    → FirstShows code rank top bytes (λ tally. On (config_of new rank new_top new_bytes (record tally { ticks = tally.ticks + 1 })))
    → LeadsTo code (config_at code (record { place = place; depth = depth; ticks = ticks; number = rank; top = top; bytes = bytes }))
    (config_since new rank new_top new_bytes (ticks + 1)) printed 1 []
main_leads code place depth ticks rank top new_top printed bytes new_bytes new first none shows = record {
  count = 1;
  joined = λ tally more size.
      let order : 1 + more ≡ suc more = omega arith in
      let one : 1 + tally.left ≡ suc tally.left = omega arith in
      let now : Tally = record tally { ticks = ticks } in
      let went = on_went (act code (slice_get code.instrs 0) (config_before code (rank_first rank top bytes) (record now { left = suc tally.left })))
      (config_of new rank new_top new_bytes (record now { ticks = ticks + 1 })) (shows now) in
      ap (exec code (1 + more)) (at_first code place depth ticks rank top bytes (with_ticks 1 tally) first none)
      ∙ ap (λ (n : ℕ). exec code n (config_before code (rank_first rank top bytes) (record now { left = 1 + tally.left }))) order
      ∙ ap (λ (n : ℕ). exec code (suc more) (config_before code (rank_first rank top bytes) (record now { left = n }))) one
      ∙ ap (λ (m : Moved). follow m (exec code more)) went
      ∙ ap (λ (text : List ℕ). exec code more (config_of new rank new_top new_bytes (record now { text = text; ticks = ticks + 1 }))) (sym (append-nil tally.text));
}

abbrev done_with : Rank → List ℕ → Tally → ℕ → Done
done_with new text tally ticks = done_of new.number new.top new.bytes (record tally { text = text; ticks = ticks })

pub main_traps : (code : Code) (place depth ticks rank top printed budget : ℕ) (bytes : List ℕ) (new : Rank) (output : Output) (cause : TrapCause)
    (unit line : ℕ) → place ≡ 0 → depth ≡ 0 → 0 < budget → new.ticks ≡ ticks + 1 → unit ≡ (place_of code 0).unit → line ≡ (place_of code 0).line
    → FirstShows code rank top bytes (λ tally. Halted (stops.Trapped cause (place_of code 0).unit (place_of code 0).line)
    (done_of new.number new.top new.bytes (record tally { ticks = tally.ticks + 1 })))
    → RanFrom code (config_at code (record { place = place; depth = depth; ticks = ticks; number = rank; top = top; bytes = bytes })) ticks printed budget
    output output (stop.Trap cause unit line) new
main_traps code place depth ticks rank top printed budget bytes new output cause unit line first none some counted units lines shows = record {
  taken = 1;
  left = budget - 1;
  out = [];
  all = omega (arith, some);
  counted = counted;
  output = no_text output;
  stops = record {
    ends = λ tally size.
        let one : 1 + tally.left ≡ suc tally.left = omega arith in
        let now : Tally = record tally { ticks = ticks } in
        let h = halts (act code (slice_get code.instrs 0) (config_before code (rank_first rank top bytes) (record now { left = suc tally.left })))
        (stops.Trapped cause (place_of code 0).unit (place_of code 0).line) (done_with new tally.text tally (ticks + 1)) (shows now) in
        record {
          instructions = 1;
          last = h.last;
          reached =
              ap (exec code 1) (at_first code place depth ticks rank top bytes (with_ticks 1 tally) first none)
              ∙ ap (λ (n : ℕ). exec code 1 (config_before code (rank_first rank top bytes) (record now { left = n }))) one
              ∙ ap (λ (m : Moved). follow m (exec code 0)) h.reached
              ∙ ap (λ (u : ℕ). Stopped (stops.Trapped cause u (place_of code 0).line) h.last) (sym units)
              ∙ ap (λ (l : ℕ). Stopped (stops.Trapped cause unit l) h.last) (sym lines);
          done_is = h.is ∙ ap (done_with new tally.text tally) (sym counted) ∙ ap (λ (text : List ℕ). done_with new text tally new.ticks) (sym (append-nil tally.text));
        };
  };
}

main_pauses : (code : Code) (rank top function count : ℕ) (bytes : List ℕ) (tally : Tally) → slice_get code.instrs 0 ≡ Some (instr.Call function count)
    → count ≤ length (reverse (take count (two_words rank)))
    → act code (slice_get code.instrs 0) (config_before code (rank_first rank top bytes) (record tally { left = 0 }))
    ≡ Stopped stops.Paused (config_before code (rank_first rank top bytes) (record tally { left = 0 }))
unfolding act
main_pauses code rank top function count bytes tally found enough =
    let t : nat_le count (length (reverse (take count (two_words rank)))) ≡ true = le-leb count _ enough in
    rw (found, t) refl

-- the rank before its first instruction, with no tick to take
pub first_pauses : (code : Code) (rank : Rank) (printed budget : ℕ) (output : Output) → rank.depth ≡ 0 → AtFirst code rank → budget ≡ 0
    → RanFrom code (config_at code rank) rank.ticks printed budget output output stop.Paused rank
first_pauses code rank printed budget output none first no_budget =
    let calls = first.calls in
    let size = operand_count rank.number calls.count calls.few in
    record {
      taken = 0;
      left = 0;
      out = [];
      all = omega (arith, no_budget);
      counted = omega arith;
      output = no_text output;
      stops = (
        leads_start code (config_at code rank) printed,
        refl,
        λ tally.
            let here = at_first code rank.place rank.depth rank.ticks rank.number rank.top rank.bytes (record tally { left = 0 }) first.place none in
            subst (λ (c : Config). one_step code c ≡ Stopped stops.Paused c) (sym here)
            (main_pauses code rank.number rank.top calls.function calls.count rank.bytes (record tally { ticks = rank.ticks }) calls.found (omega (arith, size))),
        ap (λ (p : ℕ). is_mpi (slice_get code.instrs p)) first.place ∙ ap is_mpi calls.found,
      );
    }

-- the machine of a rank in the midst of a call
pub from_is : (code : Code) (work : Work) (place depth ticks rank top : ℕ) (bytes : List ℕ) → work ≡ work_at place top bytes (depth - 1) → 0 < depth
    → config_since work rank top bytes ticks ≡ config_at code (record { place = place; depth = depth; ticks = ticks; number = rank; top = top; bytes = bytes })
from_is code work place depth ticks rank top bytes is some =
    let deeper : depth ≡ suc (depth - 1) = omega (arith, some) in
    ap (λ (w : Work). config_since w rank top bytes ticks) is
    ∙ sym (ap (λ (d : ℕ). config_in code (record { place = place; depth = d; ticks = ticks; number = rank; top = top; bytes = bytes }) d) deeper)

abbrev pub rank_of_parts : ℕ → ℕ → ℕ → ℕ → ℕ → List ℕ → Rank
rank_of_parts place depth ticks number top bytes = record { place = place; depth = depth; ticks = ticks; number = number; top = top; bytes = bytes }

pub ran_owned : (code : Code) (work : Work) (r s top start ticks printed budget : ℕ) (bytes : List ℕ) (old_output new_output : Output) (result : Stop)
    (place depth new_ticks new_top : ℕ) (new_bytes : List ℕ) → r ≡ s
    → RanFrom code (config_since work r top bytes start) ticks printed budget old_output new_output result (rank_of_parts place depth new_ticks r new_top new_bytes)
    → RanFrom code (config_since work s top bytes start) ticks printed budget old_output new_output result (rank_of_parts place depth new_ticks s new_top new_bytes)
ran_owned code work r s top start ticks printed budget bytes old_output new_output result place depth new_ticks new_top new_bytes same ran =
    subst (λ (n : ℕ). RanFrom code (config_since work n top bytes start) ticks printed budget old_output new_output result (rank_of_parts place depth new_ticks n new_top new_bytes)) same ran
