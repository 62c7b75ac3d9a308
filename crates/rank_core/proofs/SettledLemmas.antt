-- A rank is settled before its first tick, behind arrivals and behind runs, and may then make its calls.
use Rattle.std.proofs.Common.{◌≡◌, ℕ, zero, suc, ◌+◌, ◌-◌, ◌^◌, ◌<◌, ◌≤◌, ◌∙◌, inl, inr, Bool, true, false, ◌||◌, List, [], length, refl, sym, ap, subst, arith, Option, Some, None}
use Rattle.std.specs.Prelude.{All, slice_get}
use Rattle.std.proofs.lemmas.Bool.{true≢false}
use Rattle.am_base.specs.declared.calls.MpiCall.{MpiCall}
use Rattle.am_base.specs.declared.calls.MpiCall.TheVariants as mpi
use Rattle.rank_range.specs.Areas.{Memory}
use Rattle.rank_range.specs.declared.run.CallOut.{CallOut}
use Rattle.rank_range.specs.declared.run.Output.{Output}
use Rattle.mpi_types.specs.declared.call.Call.{Call}
use Rattle.mpi_types.specs.declared.collective.Collective.{Collective}
use Rattle.mpi_types.specs.declared.lists.BookLists.{BookLists}
use Rattle.mpi_rules.specs.Data.{data_of, is_live}
use Rattle.mpi_call.specs.Answers.{Kept, kept, data_in}
use Rattle.mpi_call.specs.Lawful.{MayBegin, MayEndCall, MayFinish}
use Rattle.mpi_call.specs.Served.{collective_of, is_collective, is_receive, is_second}
use Rattle.mpi_call.specs.Steady.{IsSteady, ArrivesSteady, SteadyBegin}
use Rattle.vm_code.specs.declared.code.Code.{Code}
use Rattle.vm_code.specs.Stops.{Done, Waits}
use Rattle.vm_code.specs.Machine.{Config, Moved, Stops, exec, follow, given, start}
use Rattle.vm_code.specs.Memory.{opened}
use Rattle.rank_machine.specs.Begun.{BeginAtStart}
use Rattle.rank_machine.specs.declared.stop.Stop.{Stop}
use Rattle.rank_machine.specs.Onward.{FreshRanksRun, RunsLeadOn}
use Rattle.rank_machine.specs.Ran.{GoesOn, Gone, WaitsHere, call_of}
use Rattle.rank_machine.specs.View.{Rank, Tally, config_at, words_for}
use Rattle.rank_core.specs.Started.{StartedRun, rank_at}
use Rattle.rank_core.specs.Turns.{begun_in, ends_half, AsksInTurn, AsksOn, HasArguments, IsInTurn}
use Rattle.rank_core.specs.Settled.{IsHalfDone, IsHalfway, IsSettled, MayCall, StartsSettled, ArrivesSettled, RunsSettled, SettledCalls}
use Rattle.rank_core.proofs.TurnLemmas.{given_in, made_in, gone_asks_on}

-- ---- more ticks

weaker : {X : Type 0} (f : X → ℕ) (n m : ℕ) (xs : List X) → n ≤ m → All (λ x. f x ≤ n) xs → All (λ x. f x ≤ m) xs
weaker f n m xs le all = λ i inside. let h = all i inside in omega (arith, h, le)

later : (number old new : ℕ) (k : Kept) → old ≤ new → IsSteady number old k → IsSteady number new k
later number old new k le s = record {
  order = s.order;
  some = s.some;
  few = (let few = s.few in omega (arith, few, le));
  communicators = record {
    sized = s.communicators.sized;
    member = s.communicators.member;
    positions = weaker (λ c. c.position) old new k.own.communicators le s.communicators.positions;
  };
}

-- ---- before the first tick

pub starts_settled : StartedRun → BeginAtStart → StartsSettled
starts_settled started begins code segment number ranks regs ending load own sweep lists sent reorder owner top bytes within few calls goes asks is =
    let runs = started code segment number ranks regs ending load own sweep lists sent reorder owner top bytes within few calls goes is in
    let rank = rank_at regs owner top bytes in
    let none : Tally = record { text = []; made = []; ticks = 0; left = 0; answers = [] } in
    let words = words_for owner (slice_get code.instrs 0) in
    let at_start : config_at code rank none ≡ start (opened segment owner) words 0 [] =
    begins code rank none is.fresh.place is.fresh.depth is.fresh.ticks refl refl ∙ ap (λ (m : Memory). start m words 0 []) is.fresh.memory in
    let nothing : regs.output.printed ≡ 0 = ap (λ (o : Output). o.printed) is.output in
    record {
      stands = runs.0;
      goes = subst (λ n. GoesOn code rank n) (sym nothing) runs.1;
      heap = is.heap;
      numbers = subst (λ (o : Output). o.next + length o.unfinished ≤ o.printed) (sym is.output) (omega arith);
      limit = subst (λ (o : Output). o.printed ≤ 1048576) (sym is.output) (omega arith);
      begun = None;
      asks = record {
        tally = none;
        half = false;
        size = sym nothing;
        begun_is = refl;
        asks = subst (λ (c : Config). AsksInTurn code c false) (sym at_start) asks;
      };
      halfway = ap (λ s. s.joined) is.sweep_is;
      steady = subst (λ n. IsSteady owner n (kept own sweep lists)) (sym is.fresh.ticks) runs.2;
    }

-- ---- behind an arrival

still : (begun : Option Call) (k : Kept) (lists : BookLists) → IsHalfway begun k
    → ((n : ℕ) → is_live (data_in k) n ≡ true → is_live (data_of k.own k.sweep lists) n ≡ true)
    → IsHalfway begun (kept k.own k.sweep lists)
still None k lists idle live = idle
still (Some call) k lists h live = record {
  two = h.two;
  some = h.some;
  live = λ is. live (k.own.next - 1) (h.live is);
  idle = h.idle;
  gathered = h.gathered;
}

pub arrives_settled : ArrivesSteady → ArrivesSettled
arrives_settled arrives code rank output k message hit lists s there =
    let on = arrives rank.number rank.ticks k message hit lists there in
    record {
      stands = s.stands;
      goes = s.goes;
      heap = s.heap;
      numbers = s.numbers;
      limit = s.limit;
      begun = s.begun;
      asks = s.asks;
      halfway = still s.begun k lists s.halfway on.1;
      steady = on.0 s.steady;
    }

-- ---- behind a run

more_ticks : (code : Code) (old new : Rank) (budget : ℕ) (old_output new_output : Output) (result : Stop)
    → Gone code old budget old_output new_output result new → old.ticks ≤ new.ticks
more_ticks code old new budget old_output new_output result (inl u) = let same = ap (λ (r : Rank). r.ticks) u.rank in omega (arith, same)
more_ticks code old new budget old_output new_output result (inr ran) = let counted = ran.counted in omega (arith, counted)

pub runs_settled : RunsLeadOn → RunsSettled
runs_settled leads code old new budget old_output new_output result k s gone on left = record {
  stands = left.stands;
  goes = leads code old new budget old_output new_output result s.goes gone on;
  heap = left.heap;
  numbers = left.numbers;
  limit = left.limit;
  begun = s.begun;
  asks = gone_asks_on code old new budget old_output new_output result s.begun s.asks gone on;
  halfway = s.halfway;
  steady = subst (λ n. IsSteady n new.ticks k) (sym left.number_is)
      (later old.number old.ticks new.ticks k (more_ticks code old new budget old_output new_output result gone) s.steady);
}

-- ---- at a call

or_false : (a b : Bool) → (a || b) ≡ false → (a ≡ false) × (b ≡ false)
or_false false b e = (refl, e)
or_false true b e = absurd (true≢false e)

alone : (c : MpiCall) → is_collective c ≡ false → collective_of c ≡ None
alone mpi.Wait e = refl
alone mpi.Waitall e = refl
alone mpi.Test e = refl
alone mpi.Init e = refl
alone mpi.Initialized e = refl
alone mpi.Finalized e = refl
alone mpi.Finalize e = refl
alone mpi.CommRank e = refl
alone mpi.CommSize e = refl
alone mpi.CommFree e = refl
alone mpi.Abort e = refl
alone mpi.Send e = refl
alone mpi.Recv e = refl
alone mpi.Isend e = refl
alone mpi.Irecv e = refl
alone mpi.GetCount e = refl
alone mpi.CommDup e = absurd (true≢false e)
alone mpi.CommSplit e = absurd (true≢false e)
alone mpi.Barrier e = absurd (true≢false e)
alone mpi.Bcast e = absurd (true≢false e)
alone mpi.Reduce e = absurd (true≢false e)
alone mpi.Allreduce e = absurd (true≢false e)
alone mpi.Scan e = absurd (true≢false e)
alone mpi.Gather e = absurd (true≢false e)
alone mpi.Scatter e = absurd (true≢false e)
alone mpi.Allgather e = absurd (true≢false e)
alone mpi.Alltoall e = absurd (true≢false e)
alone mpi.Migrate e = absurd (true≢false e)

-- a call of one tick
whole_call : (call : MpiCall) (words : List ℕ) (number ticks : ℕ) (k : Kept) → IsSteady number ticks k → is_second call ≡ false
    → MayFinish call words k.own k.sweep k.lists
whole_call call words number ticks k s one =
    let parts = or_false (is_receive call) (is_collective call) one in
    record {
      apart = s.order.apart;
      some = λ is. absurd (true≢false (sym is ∙ parts.0));
      live = λ is. absurd (true≢false (sym is ∙ parts.0));
      gathered = subst (λ (o : Option Collective). MayEndCall o k.own words k.sweep.joined) (sym (alone call parts.1)) tt;
    }

half_done : (call : Call) (number ticks : ℕ) (k : Kept) → IsSteady number ticks k → IsHalfDone call k
    → MayFinish call.name call.args k.own k.sweep k.lists
half_done call number ticks k s h = record { apart = s.order.apart; some = h.some; live = h.live; gathered = h.gathered }

-- the machine stops where it waits
stops_here : (code : Code) (rank : Rank) (tally : Tally) (call : CallOut) → WaitsHere code (config_at code rank) call
    → Stops code (given 1 [] (config_at code rank tally)) (Waits (call_of call)) (config_at code rank (record tally { left = 1; answers = [] })).done
stops_here code rank tally call waits = record {
  instructions = 1;
  last = config_at code rank (record tally { left = 1; answers = [] });
  reached = ap (λ c. exec code 1 c) (given_in code rank rank.depth 1 [] tally) ∙ ap (λ (m : Moved). follow m (exec code 0)) (waits tally 0);
  done_is = refl;
}

may_call : (number ticks : ℕ) (k : Kept) (call : CallOut) (begun : Option Call) → SteadyBegin → IsSteady number ticks k → ticks + 2 < 2 ^ 32
    → IsHalfway begun k → IsInTurn begun (call_of call) → MayCall number k call
may_call number ticks k call None begins s room idle turn = record {
  arguments = turn.1;
  first = λ first. begins number ticks k s idle room;
  whole = λ first one. whole_call call.call call.arguments number ticks k s one;
  rest = λ second. absurd (true≢false (sym second ∙ turn.0));
}
may_call number ticks k call (Some begun) begins s room half turn =
    let second : call.second ≡ true = ap (λ (c : Call). c.second) turn.0 in
    let name : call.call ≡ begun.name = ap (λ (c : Call). c.name) turn.0 in
    let words : call.arguments ≡ begun.args = ap (λ (c : Call). c.args) turn.0 in
    record {
      arguments = turn.1;
      first = λ first. absurd (true≢false (sym second ∙ first));
      whole = λ first one. absurd (true≢false (sym second ∙ first));
      rest = λ is. (
        ap is_second name ∙ half.two,
        subst (λ n. MayFinish n call.arguments k.own k.sweep k.lists) (sym name)
            (subst (λ w. MayFinish begun.name w k.own k.sweep k.lists) (sym words) (half_done begun number ticks k s half)),
      );
    }

pub settled_calls : SteadyBegin → SettledCalls
settled_calls begins code rank output k call s waits room =
    let tally = s.asks.tally in
    let turn = s.asks.asks.turn 1 [] (call_of call) _ (stops_here code rank tally call waits) in
    let made = made_in code rank rank.depth (record tally { left = 1; answers = [] }) in
    let begun_is : begun_in s.asks.half (config_at code rank (record tally { left = 1; answers = [] })).done.made ≡ s.begun =
    ap (begun_in s.asks.half) made ∙ sym s.asks.begun_is in
    may_call rank.number rank.ticks k call s.begun begins s.steady room s.halfway
    (subst (λ (o : Option Call). IsInTurn o (call_of call)) begun_is turn)
