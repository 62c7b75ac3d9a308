use Rattle.std.proofs.Common.{◌∙◌, rules}
use Rattle.std.specs.Int.{w64}
use Rattle.std.specs.Int.RustNames.{FitsSigned}
use Rattle.rank_range.proofs.OperatorLemmas.{signed_value, back_and_forth}
use Rattle.rank_range.proofs.operators.number_in.Goals as goal

pub returns : goal.returns
returns c =
    let fits : FitsSigned w64 c.cast_signed.result = search rules in
    back_and_forth c.cast_signed.result fits ∙ c.cast_signed.ensures
    ∙ signed_value c.args.kind c.args.a c.extended.result c.requires c.extended.ensures
