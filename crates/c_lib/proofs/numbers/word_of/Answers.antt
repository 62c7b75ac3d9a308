use Rattle.std.proofs.Common.{◌∙◌, ap, sym, rules}
use Rattle.std.specs.Int.{w64, cast_unsigned}
use Rattle.std.specs.Int.RustNames.{FitsSigned}
use Rattle.rank_range.proofs.KindLemmas.{word_signed}
use Rattle.rank_range.proofs.OperatorLemmas.{back_and_forth}
use Rattle.c_lib.proofs.numbers.word_of.Goals as goal

pub returns : goal.returns
returns c =
    let fits : FitsSigned w64 c.args.value = search rules in
    c.cast_unsigned.ensures ∙ ap (cast_unsigned w64) (back_and_forth c.args.value fits) ∙ sym (word_signed c.args.value fits)
