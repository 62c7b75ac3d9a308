use Rattle.std.proofs.Common.{◌∙◌, ap, rules}
use Rattle.std.specs.Int.{w64, cast_unsigned}
use Rattle.std.specs.Int.RustNames.{FitsSigned}
use Rattle.rank_range.proofs.OperatorLemmas.{reduces, back_and_forth}
use Rattle.rank_range.proofs.operators.reduced_word.Goals as goal

pub returns : goal.returns
returns c =
    let fits : FitsSigned w64 c.args.z = search rules in
    reduces c.args.kind c.args.z c.cast_unsigned.result c.extended.result fits
    (c.cast_unsigned.ensures ∙ ap (cast_unsigned w64) (back_and_forth c.args.z fits)) c.extended.ensures
