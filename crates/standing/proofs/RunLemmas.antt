-- Ticks at no call of MPI.
use Rattle.std.proofs.Common.{ℕ, suc, ◌≡◌, ◌≢◌, ◌+◌, ◌-◌, ◌<◌, inl, inr, List, [], ◌++◌, refl, sym, ap, ◌∙◌, subst, arith, Option, Some, None}
use Rattle.std.proofs.lemmas.List.{append-nil}
use Rattle.std.proofs.lemmas.Bool.Decides.{eqb_tells}
use Rattle.std.specs.Prelude.{replicate}
use Rattle.rank_range.specs.Areas.{Areas}
use Rattle.rank_range.specs.declared.run.Ending.{Ending}
use Rattle.rank_range.specs.declared.run.Ending.TheVariants.{Running, Ended, Trapped}
use Rattle.vm_code.specs.declared.code.Code.{Code}
use Rattle.vm_code.specs.Stops.{Stop, Paused, Waits, Done}
use Rattle.vm_code.specs.Stops as stops
use Rattle.vm_code.specs.Laws.{StaysStopped}
use Rattle.vm_code.specs.Machine.{Config, Stops, given}
use Rattle.c_model.specs.Outcome.{Outcome}
use Rattle.c_model.specs.Statements.{run_of}
use Rattle.c_model.specs.Laws.{MoreTicksExtend, RunsTakeTicks}
use Rattle.mpi_types.specs.declared.call.Answer.{Answer}
use Rattle.mpi_types.specs.declared.call.Call.{Call}
use Rattle.mpi_types.specs.declared.entries.Entry.TheVariants.{Tick}
use Rattle.mpi_types.specs.declared.lists.BookLists.{BookLists}
use Rattle.mpi_types.specs.declared.message.Message.{Message}
use Rattle.mpi_types.specs.Book.{IsOrderly, IsSettled}
use Rattle.mpi_rules.specs.Data.{MpiData, data_of}
use Rattle.rank_steps.specs.Steps.{Standing, HasRun, LeadsOn, StopsSo, RunsTo, KeepsData, stop_of, data_at}
use Rattle.standing.specs.World.{Setting, World, RankPart, outcome_of, next_of, reply_at, reply_for, after_all}
use Rattle.standing.specs.Stands.{FollowsRun, IsAtTick, RankStands, RanksStand, IsSetAt, later_of, from}
use Rattle.standing.specs.Laws.{RunsKeep}
use Rattle.standing.proofs.MachineLemmas.{one_stop}
use Rattle.standing.proofs.WorldLemmas.{at_ticks, ticks_go}

-- ---- the machine

-- where a machine leads to another, that one stops as it does
leads_on : StaysStopped → (code : Code) (old new : Config) (n left : ℕ) (answers : List Answer) (stop : Stop) (done : Done)
    → LeadsOn code old n new → Stops code (given (n + left) answers old) stop done → Stops code (given left answers new) stop done
leads_on stays code old new n left answers stop done leads stops = record {
  instructions = stops.instructions;
  last = stops.last;
  reached = sym (leads.leads left stops.instructions answers)
      ∙ stays code (given (n + left) answers old) stops.last stop stops.instructions (leads.instructions + stops.instructions) stops.reached (omega arith);
  done_is = stops.done_is;
}

-- ---- the run

-- before each tick that was taken the run was paused
was_paused : MoreTicksExtend → RunsTakeTicks → (s : Setting) (r : ℕ) (part : RankPart) (ticks j : ℕ) → j < ticks
    → (outcome_of s r (at_ticks part (part.ticks + ticks))).done.ticks ≡ part.ticks + ticks
    → (outcome_of s r (at_ticks part (part.ticks + j))).stop ≡ Paused
was_paused extends takes s r part ticks j small all =
    let more = extends s.program s.segment r (part.ticks + j) (ticks - j) part.answers in
    let whole : (part.ticks + j) + (ticks - j) ≡ part.ticks + ticks = omega arith in
    let run = outcome_of s r (at_ticks part (part.ticks + j)) in
    by run.stop refl (λ other.
    let same = more.same other in
    let count : run.done.ticks ≡ part.ticks + ticks =
    sym (ap (λ (o : Outcome). o.done.ticks) same) ∙ ap (λ k. (outcome_of s r (at_ticks part k)).done.ticks) whole ∙ all in
    omega (arith, count, (takes s.program s.segment r (part.ticks + j) part.answers).at_most))
  where
    by : (stop : Stop) → (outcome_of s r (at_ticks part (part.ticks + j))).stop ≡ stop
        → (((outcome_of s r (at_ticks part (part.ticks + j))).stop ≡ Paused → ⊥) → ⊥)
        → (outcome_of s r (at_ticks part (part.ticks + j))).stop ≡ Paused
    by Paused is not = is
    by (Waits call) is not = absurd (not (λ e. cc))
    by (stops.Ended status) is not = absurd (not (λ e. cc))
    by (stops.Trapped cause unit line) is not = absurd (not (λ e. cc))

no_reply : (areas : Areas) (mpi : MpiData) (stop : Stop) → ((call : Call) → stop ≡ Waits call → ⊥) → reply_at areas mpi stop ≡ None
no_reply areas mpi Paused never = refl
no_reply areas mpi (Waits call) never = absurd (never call refl)
no_reply areas mpi (stops.Ended status) never = refl
no_reply areas mpi (stops.Trapped cause unit line) never = refl

-- no tick that was taken was at a call of MPI
no_call_there : MoreTicksExtend → (s : Setting) (r : ℕ) (part : RankPart) (ticks j : ℕ) → j < ticks
    → ((call : Call) → (outcome_of s r (at_ticks part (part.ticks + ticks))).stop ≡ Waits call → ⊥)
    → reply_for s r (at_ticks part (part.ticks + j)) ≡ None
no_call_there extends s r part ticks j small never =
    let here = at_ticks part (part.ticks + j) in
    no_reply (next_of s r here).done.memory.areas here.mpi (next_of s r here).stop (λ call waits.
    let more = extends s.program s.segment r ((part.ticks + j) + 1) (ticks - suc j) part.answers in
    let whole : ((part.ticks + j) + 1) + (ticks - suc j) ≡ part.ticks + ticks = omega arith in
    let same = more.same (λ paused. waits_not call (sym waits ∙ paused)) in
    never call (ap (λ k. (outcome_of s r (at_ticks part k)).stop) (sym whole) ∙ ap (λ (o : Outcome). o.stop) same ∙ waits))
  where
    waits_not : (call : Call) → Waits call ≡ Paused → ⊥
    waits_not call e = cc

-- What comes of a run of ticks.
record RanOn (code : Code) (s : Setting) (r : ℕ) (part : RankPart) (ticks : ℕ) (new : Standing) : Type 0 where
  counted : (outcome_of s r (at_ticks part (part.ticks + ticks))).done.ticks ≡ part.ticks + ticks
  no_call : (call : Call) → (outcome_of s r (at_ticks part (part.ticks + ticks))).stop ≡ Waits call → ⊥
  follows : FollowsRun code s r (at_ticks part (part.ticks + ticks)) new

-- with no answer more, the run is that of the answers so far
plain_run : (s : Setting) (r : ℕ) (part : RankPart) (k : ℕ) → run_of s.program s.segment r (part.answers ++ []) k ≡ outcome_of s r (at_ticks part k)
plain_run s r part k = ap (λ a. run_of s.program s.segment r a k) (append-nil part.answers)

nothing_stops : (stop : Stop) → None ≡ Some stop → ⊥
nothing_stops stop e = cc

some_stop : (a b : Stop) → Some a ≡ Some b → a ≡ b
some_stop a b e = cc

paused_not : (call : Call) → Paused ≡ Waits call → ⊥
paused_not call e = cc

ran_paused : StaysStopped → RunsTakeTicks → (code : Code) (s : Setting) (r : ℕ) (part : RankPart) (ticks : ℕ) (old new : Standing)
    → FollowsRun code s r part old → old.ending ≡ Running → new.ending ≡ Running → new.machine.done.ticks ≡ old.machine.done.ticks + ticks
    → LeadsOn code old.machine ticks new.machine → IsAtTick code new.machine → RanOn code s r part ticks new
ran_paused stays takes code s r part ticks old new follows was is count leads at =
    let on : (left : ℕ) (answers : List Answer) → Stops code (given left answers new.machine)
    (later_of s r (at_ticks part (part.ticks + ticks)) left answers).stop (later_of s r (at_ticks part (part.ticks + ticks)) left answers).done =
    λ left answers.
    let sum : part.ticks + (ticks + left) ≡ (part.ticks + ticks) + left = omega arith in
    let P : ℕ → Type 0 = λ k. Stops code (given left answers new.machine) (run_of s.program s.segment r (part.answers ++ answers) k).stop
    (run_of s.program s.segment r (part.answers ++ answers) k).done in
    subst P sum (leads_on stays code old.machine new.machine ticks left answers _ _ leads (follows.goes was (ticks + left) answers)) in
    let none : (part.ticks + ticks) + 0 ≡ part.ticks + ticks = omega arith in
    let here : later_of s r (at_ticks part (part.ticks + ticks)) 0 [] ≡ outcome_of s r (at_ticks part (part.ticks + ticks)) =
    plain_run s r part ((part.ticks + ticks) + 0) ∙ ap (λ k. outcome_of s r (at_ticks part k)) none in
    let both = one_stop stays code (given 0 [] new.machine) _ Paused _ new.machine.done (on 0 []) at in
    let paused : (outcome_of s r (at_ticks part (part.ticks + ticks))).stop ≡ Paused = ap (λ (o : Outcome). o.stop) (sym here) ∙ both.0 in
    record {
      counted = (takes s.program s.segment r (part.ticks + ticks) part.answers).paused paused;
      no_call = λ call waits. paused_not call (sym paused ∙ waits);
      follows = record {
        ticks = omega (arith, count, follows.ticks);
        goes = λ running. on;
        over = λ stop e. absurd (nothing_stops stop (sym (ap stop_of is) ∙ e));
      };
    }

stops_not : (ending : Ending) (call : Call) → stop_of ending ≡ Some (Waits call) → ⊥
stops_not Running call e = cc
stops_not (Ended status) call e = cc
stops_not (Trapped t) call e = cc

ran_over : StaysStopped → (code : Code) (s : Setting) (r : ℕ) (part : RankPart) (ticks : ℕ) (old new : Standing) (stop : Stop)
    → FollowsRun code s r part old → old.ending ≡ Running → stop_of new.ending ≡ Some stop → new.machine.done.ticks ≡ old.machine.done.ticks + ticks
    → StopsSo code old.machine ticks stop new.machine → RanOn code s r part ticks new
ran_over stays code s r part ticks old new stop follows was is count so =
    let none : part.ticks + (ticks + 0) ≡ part.ticks + ticks = omega arith in
    let here : later_of s r part (ticks + 0) [] ≡ outcome_of s r (at_ticks part (part.ticks + ticks)) =
    plain_run s r part (part.ticks + (ticks + 0)) ∙ ap (λ k. outcome_of s r (at_ticks part k)) none in
    let both = one_stop stays code (given (ticks + 0) [] old.machine) _ stop _ new.machine.done (follows.goes was (ticks + 0) []) (so.stops 0 []) in
    let stop_is : (outcome_of s r (at_ticks part (part.ticks + ticks))).stop ≡ stop = ap (λ (o : Outcome). o.stop) (sym here) ∙ both.0 in
    let done_is : (outcome_of s r (at_ticks part (part.ticks + ticks))).done ≡ new.machine.done = ap (λ (o : Outcome). o.done) (sym here) ∙ both.1 in
    let all : new.machine.done.ticks ≡ part.ticks + ticks = omega (arith, count, follows.ticks) in
    record {
      counted = ap (λ (d : Done). d.ticks) done_is ∙ all;
      no_call = λ call waits. stops_not new.ending call (is ∙ ap Some (sym stop_is ∙ waits));
      follows = record {
        ticks = all;
        goes = λ running. absurd (nothing_stops stop (sym (ap stop_of running) ∙ is));
        over = λ other e. record {
          stop_is = stop_is ∙ some_stop stop other (sym is ∙ e);
          done_is = done_is;
        };
      };
    }

ran_on : StaysStopped → RunsTakeTicks → (code : Code) (s : Setting) (r : ℕ) (part : RankPart) (ticks : ℕ) (old new : Standing) (ending : Ending)
    → FollowsRun code s r part old → HasRun code ticks old new → new.machine.done.ticks ≡ old.machine.done.ticks + ticks
    → (new.ending ≡ Running → IsAtTick code new.machine) → new.ending ≡ ending → RunsTo code old.machine ticks (stop_of ending) new.machine
    → RanOn code s r part ticks new
ran_on stays takes code s r part ticks old new Running follows ran count at is to =
    ran_paused stays takes code s r part ticks old new follows ran.running is count to (at is)
ran_on stays takes code s r part ticks old new (Ended status) follows ran count at is to =
    ran_over stays code s r part ticks old new (stops.Ended status) follows ran.running (ap stop_of is) count to
ran_on stays takes code s r part ticks old new (Trapped t) follows ran count at is to =
    ran_over stays code s r part ticks old new (stops.Trapped t.cause t.unit t.line) follows ran.running (ap stop_of is) count to

-- ---- the world

-- a rank to which nothing happened
pub stands_still : (code : Code) (s : Setting) (w w' : World) (coming coming' : ℕ → ℕ → List Message) (q : ℕ) (rank : Standing)
    → w'.rank q ≡ w.rank q → ((a : ℕ) → w'.queue a q ≡ from a rank.lists.arrived ++ coming' a q) → RankStands code s w coming q rank
    → RankStands code s w' coming' q rank
stands_still code s w w' coming coming' q rank same queues stands = record {
  follows = let P : RankPart → Type 0 = λ p. FollowsRun code s q p rank in subst P (sym same) stands.follows;
  data_is = ap (λ (p : RankPart). p.mpi) same ∙ stands.data_is;
  queues = queues;
  settled = stands.settled;
  orderly = stands.orderly;
}

some_rank : (a b : Standing) → Some a ≡ Some b → a ≡ b
some_rank a b e = cc

-- all ranks stand, where the one that changed does and the others do
pub all_stand : (code : Code) (s : Setting) (w' : World) (coming' : ℕ → ℕ → List Message) (held held' : ℕ → Option Standing) (r : ℕ) (new : Standing)
    → IsSetAt held r new held' → RankStands code s w' coming' r new
    → ((q : ℕ) (rank : Standing) → q ≢ r → held q ≡ Some rank → RankStands code s w' coming' q rank) → RanksStand code s w' coming' held'
all_stand code s w' coming' held held' r new set here others q rank is = elim (eqb_tells q r) [
  | inl t ↦
      let P : ℕ → Type 0 = λ k. RankStands code s w' coming' k new in
      let Q : Standing → Type 0 = RankStands code s w' coming' q in
      let same : new ≡ rank = some_rank new rank (sym set.here ∙ ap held' (sym t.1) ∙ is) in
      subst Q same (subst P (sym t.1) here)
  | inr t ↦ others q rank t.1 (sym (set.others q t.1) ∙ is)
]

pub same_data : (old new : Standing) → KeepsData old new → data_at old ≡ data_at new
same_data old new keeps =
    ap (λ o. data_of o old.sweep old.lists) (sym keeps.own) ∙ ap (λ x. data_of new.own x old.lists) (sym keeps.sweep)
    ∙ ap (λ l. data_of new.own new.sweep l) (sym keeps.lists)

pub runs_go : StaysStopped → MoreTicksExtend → RunsTakeTicks → RunsKeep
runs_go stays extends takes code s w coming held held' r ticks old new stand held_is run set =
    let old_stands = stand r old held_is.here in
    let part = w.rank r in
    let ran = ran_on stays takes code s r part ticks old new new.ending old_stands.follows run.ran run.counted run.at_tick refl run.ran.machine in
    let go = ticks_go s r ticks w held_is.one_of_run (λ j small. record {
      paused = was_paused extends takes s r part ticks j small ran.counted;
      no_call = no_call_there extends s r part ticks j small ran.no_call;
    }) run.within in
    let w' = after_all s w (replicate ticks (Tick (record { 0 = r }))) in
    let P : RankPart → Type 0 = λ p. FollowsRun code s r p new in
    let Q : BookLists → Type 0 = IsSettled in
    let O : BookLists → Type 0 = IsOrderly in
    record {
      legal = go.legal;
      stands = all_stand code s w' coming held held' r new set (record {
        follows = subst P (sym go.ticked.here) ran.follows;
        data_is = ap (λ (p : RankPart). p.mpi) go.ticked.here ∙ old_stands.data_is ∙ same_data old new run.ran.data_is;
        queues = λ a. go.ticked.queue a r ∙ old_stands.queues a ∙ ap (λ (l : BookLists). from a l.arrived ++ coming a r) (sym run.ran.data_is.lists);
        settled = subst Q (sym run.ran.data_is.lists) old_stands.settled;
        orderly = subst O (sym run.ran.data_is.lists) old_stands.orderly;
      }) (λ q rank other is.
          let stands = stand q rank is in
          stands_still code s w w' coming coming q rank (go.ticked.others q other) (λ a. go.ticked.queue a q ∙ stands.queues a) stands);
    }
