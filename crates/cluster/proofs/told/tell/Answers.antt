use Rattle.std.proofs.Common.{ap, ◌∙◌, ◌++◌}
use Rattle.std.specs.List.{flat_map}
use Rattle.w_model.specs.World.{world_of, start_world}
use Rattle.w_model.specs.Cut.{released_at, rank_numbers}
use Rattle.w_model.specs.Texts.{rank_line_at, end_line}
use Rattle.mpi_types.specs.Journal.{run_lines}
use Rattle.cluster.specs.Told.{on_first}
use Rattle.cluster.proofs.told.tell.Goals as goal

pub returns : goal.returns
returns c = λ code s h bound_is stand.
    let ranks = flat_map (rank_line_at c.args.files.now s (world_of h) on_first) (rank_numbers s) in
    record {
      journal = c.in_ok-append_runs.ensures ∙ ap (λ x. x ++ run_lines c.runs.result.now) c.new-journal.ensures ∙ ap run_lines c.runs.ensures;
      lines = c.in_ok-append_all_lines.ensures code s h stand ∙ ap (λ x. x ++ released_at s start_world (world_of h)) c.new-lines.ensures;
      report = c.in_ok-append_report.ensures code s h bound_is stand ∙ ap (λ x. x ++ ranks ++ end_line c.end_of-end.result) c.new-report.ensures
          ∙ ap (λ e. ranks ++ end_line e) (c.end_of-end.ensures code s h bound_is stand);
      end = c.end_of-end.ensures code s h bound_is stand;
    }
