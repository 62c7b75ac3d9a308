use Rattle.std.proofs.Common.{◌∙◌, sym}
use Rattle.rank_range.proofs.OperatorLemmas.{words_less}
use Rattle.rank_range.proofs.operators.is_less.Goals as goal

pub returns-else-is_signed : goal.returns-else-is_signed
returns-else-is_signed c =
    words_less c.args.kind c.args.a c.args.b c.extended.result c.extended-else-is_signed.result (sym c.is_signed.ensures ∙ c.if-is_signed.false)
    c.extended.ensures c.extended-else-is_signed.ensures
