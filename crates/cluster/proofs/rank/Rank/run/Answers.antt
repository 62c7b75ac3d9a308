use Rattle.std.proofs.Common.{sym, refl, ap, ◌∙◌, ℕ, arith, ◌≡◌, Some, subst, true}
use Rattle.rank_machine.specs.View as machine
use Rattle.rank_machine.specs.Ran.{Gone, Stands, goes_on}
use Rattle.cluster.specs.Job.{setting}
use Rattle.cluster.specs.Rank.{seen}
use Rattle.cluster.proofs.StepLemmas.{Laws, Going, ran-machine, unended-runs}
use Rattle.cluster.proofs.rank.Rank.run.Goals as goal

pub returns : goal.returns
returns c =
    let running = unended-runs _ (sym c.is_unended.ensures ∙ c.if-not-is_unended.false) in
    let laws : Laws = record {
      stays = c.a_stopped_machine_stays.ensures;
      together = c.lines_are_the_cut.ensures.together;
      extends = c.more_ticks_extend_a_run.ensures;
      takes = c.a_run_takes_its_ticks.ensures;
      leads = c.runs_lead_on.ensures;
    } in
    let old = c.args.self.now in
    let owner = c.go-stop.ensures.kept.owner in
    let now : ℕ → machine.Rank = λ n. record {
      place = c.go-stop.new.st.position;
      depth = c.go-stop.new.st.depth;
      ticks = c.go-stop.new.st.ticks;
      number = n;
      top = c.go-stop.new.m.1;
      bytes = c.go-stop.new.m.2;
    } in
    let P : ℕ → Type 0 = λ n. Gone c.args.job.now.code.now (seen old) c.min-most.result old.regs.output c.go-stop.new.st.output c.go-stop.result (now n) in
    let Q : ℕ → Type 0 = λ n. goes_on c.go-stop.result ≡ true → Stands c.args.job.now.code.now (now n) in
    ran-machine laws c.args.job.now.code.now (setting c.args.job.now) c.args.number c.args.budget c.min-most.result _ old _ c.go-stop.result
    (record {
      no_mpi = c.requires.job.no_mpi;
      stands = c.requires.stands;
      goes = c.requires.stands.goes_on running;
      owner = owner ∙ c.requires.stands.owner;
      gone = subst P (sym owner) c.go-stop.ensures.ran;
      stand = subst Q (sym owner) c.go-stop.ensures.stands;
      heap = c.go-stop.ensures.kept.heap (c.requires.stands.goes_on running).heap;
      numbers = c.go-stop.ensures.numbers;
      limit = c.go-stop.ensures.limit;
    })
    c.in_ok-self.ensures
    (omega (arith, c.if-job-before.false)) c.min-most.ensures refl
