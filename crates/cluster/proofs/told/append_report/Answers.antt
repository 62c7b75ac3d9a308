use Rattle.std.proofs.Common.{ap, ◌∙◌, ◌++◌}
use Rattle.w_model.specs.Texts.{end_line}
use Rattle.cluster.proofs.told.append_report.Goals as goal

pub returns : goal.returns
returns c = λ code s h bound_is stand.
    c.in_ok-append_end.ensures ∙ ap (λ x. x ++ end_line c.args.end) (c.in_ok-append_rank_lines.ensures code s h bound_is stand)
