use Rattle.std.proofs.Common.{◌≡◌, ◌∙◌, ap, sym, subst}
use Rattle.std.specs.Prelude.{ℤ}
use Rattle.std.specs.Int.{w32, w64, cast_unsigned}
use Rattle.std.specs.Int.RustNames.{FitsSigned}
use Rattle.std.proofs.Math.Facts.{sfits_widen}
use Rattle.rank_range.specs.Kinds.{word_of as word_of_number}
use Rattle.rank_range.proofs.KindLemmas.{word_signed}
use Rattle.rank_range.proofs.OperatorLemmas.{back_and_forth}
use Rattle.std.proofs.lemmas.Int.{to_z-of_z}
use Rattle.rank_machine.proofs.answers.word_of.Goals as goal

pub returns : goal.returns
returns c =
    let is : c.from.result ≡ c.args.value = c.from.ensures ∙ to_z-of_z w32 c.args.value c.ranges.value in
    let fits : FitsSigned w64 c.from.result = subst (λ (z : ℤ). FitsSigned w64 z) (sym is) (sfits_widen {w = w32} tt c.ranges.value) in
    c.cast_unsigned.ensures ∙ ap (cast_unsigned w64) (back_and_forth c.from.result fits) ∙ sym (word_signed c.from.result fits)
    ∙ ap word_of_number is
