use Rattle.std.proofs.Common.{◌∙◌, ◌++◌, ap}
use Rattle.am_base.specs.Released.{released_line}
use Rattle.output_commit.proofs.HeldLemmas.{released_more}
use Rattle.output_commit.proofs.held.text.Goals as goal

pub loop-line-preserved : goal.loop-line-preserved
loop-line-preserved c =
    c.in_ok-append_released.ensures
    ∙ ap (λ text. c.loop-line.out ++ released_line c.args.r.0 text) c.as_slice.ensures
    ∙ ap (λ out. out ++ released_line c.args.r.0 c.line-item.result.text) c.loop-line.invariant
    ∙ released_more c.args.out.now c.args.r.0 c.args.lines.now c.loop-line.line-index c.line-item.result c.loop-line-test.true c.line-item.is
