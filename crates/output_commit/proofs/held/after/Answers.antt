use Rattle.std.proofs.Common.{◌≡◌, List, subst, ap, ◌∙◌, sym, min, length}
use Rattle.am_base.specs.declared.lines.Line.{Line}
use Rattle.output_commit.specs.Held.{AscendByOne, unreleased}
use Rattle.output_commit.proofs.HeldLemmas.{unreleased_is_slice}
use Rattle.output_commit.proofs.held.after.Goals as goal

pub returns : goal.returns
returns c =
    let same : c.as_slice-lines.result.now ≡ c.args.held.now = c.as_slice-lines.ensures in
    let P : List Line → Type 0 = λ lines. AscendByOne lines in
    unreleased_is_slice c.args.released c.as_slice-lines.result.now c.in-Some.first.now c.min.result (sym c.in-Some.ensures.value)
    (subst P (sym same) c.requires)
    (c.min.ensures ∙ ap (λ n. min n (length c.as_slice-lines.result.now)) c.saturating_sub-gone.ensures)
    ∙ ap (unreleased c.args.released) same
