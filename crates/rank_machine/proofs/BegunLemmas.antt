-- A rank before its first instruction is the machine at its start.
use Rattle.std.proofs.Common.{ℕ, ◌∙◌, List, [], ap}
use Rattle.mpi_types.specs.declared.call.Call.{Call}
use Rattle.rank_machine.specs.View.{Tally, Rank, config_at}
use Rattle.rank_machine.specs.Begun.{BeginAtStart}

abbrev tally_with : List ℕ → List Call → Tally → Tally
tally_with text made tally = record tally { text = text; made = made }

abbrev rank_at : ℕ → ℕ → ℕ → Rank → Rank
rank_at place depth ticks rank = record rank { place = place; depth = depth; ticks = ticks }

pub begin_at_start : BeginAtStart
begin_at_start code rank tally place depth ticks text made =
    ap (λ (p : ℕ). config_at code (rank_at p rank.depth rank.ticks rank) tally) place
    ∙ ap (λ (d : ℕ). config_at code (rank_at 0 d rank.ticks rank) tally) depth
    ∙ ap (λ (n : ℕ). config_at code (rank_at 0 0 n rank) tally) ticks
    ∙ ap (λ (xs : List ℕ). config_at code (rank_at 0 0 0 rank) (tally_with xs tally.made tally)) text
    ∙ ap (λ (cs : List Call). config_at code (rank_at 0 0 0 rank) (tally_with [] cs tally)) made
