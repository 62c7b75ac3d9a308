use Rattle.std.proofs.Common.{◌∙◌, sym}
use Rattle.rank_range.proofs.OperatorLemmas.{is_ones, none_below}
use Rattle.rank_range.proofs.operators.is_minus_one.Goals as goal

pub returns-then-not-is_signed : goal.returns-then-not-is_signed
returns-then-not-is_signed c = none_below c.args.kind c.args.a (sym c.is_signed.ensures ∙ c.if-not-is_signed.true)

pub returns : goal.returns
returns c =
    is_ones c.args.kind c.args.a c.is_equal.result (sym c.is_signed.ensures ∙ c.if-not-is_signed.false) c.is_equal.ensures
