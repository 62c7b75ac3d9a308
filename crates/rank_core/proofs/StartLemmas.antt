-- A rank before its first tick.
use Rattle.std.proofs.Common.{◌≡◌, ◌∙◌, ap, subst, sym}
use Rattle.mpi_call.specs.Answers.{Kept, kept}
use Rattle.mpi_call.specs.Steady.{IsSteady, no_lists, no_sweep, own_at_start}
use Rattle.mpi_call.proofs.SteadyStart.{starts_steady}
use Rattle.rank_machine.specs.Onward.{FreshRanksRun}
use Rattle.std.specs.Prelude.{ℕ}
use Rattle.rank_core.specs.Started.{StartedRun, rank_at}

pub started_run : FreshRanksRun → StartedRun
started_run fresh code segment number ranks regs ending load own sweep lists sent reorder owner top bytes within few calls goes is =
    let runs = fresh code segment (rank_at regs owner top bytes) calls is.fresh goes in
    let same : kept own sweep lists ≡ kept (own_at_start ranks) no_sweep no_lists =
    ap (λ o. kept o sweep lists) is.own_is ∙ ap (λ s. kept (own_at_start ranks) s lists) is.sweep_is ∙ ap (λ l. kept (own_at_start ranks) no_sweep l) is.lists_are in (
      runs.0,
      runs.1,
      subst (λ (k : Kept). IsSteady owner 0 k) (sym same)
          (subst (λ (n : ℕ). IsSteady n 0 (kept (own_at_start ranks) no_sweep no_lists)) (sym is.owner_is) (starts_steady number ranks within few)),
    )
