use Rattle.std.proofs.Common.{sym, ◌∙◌}
use Rattle.c_lex.proofs.NumberLaws.{is_int, is_unsigned_int, is_long, is_unsigned_long, below}
use Rattle.c_lex.proofs.numbers.first_type.Goals as goal

pub returns-then-suits : goal.returns-then-suits
returns-then-suits c = is_int _ (sym c.if-suits.true ∙ c.suits.ensures)

pub returns-then-suits-2 : goal.returns-then-suits-2
returns-then-suits-2 c = is_unsigned_int _ (sym c.if-suits.false ∙ c.suits.ensures) (sym c.if-suits-2.true ∙ c.suits-2.ensures)

pub returns-then-suits-3 : goal.returns-then-suits-3
returns-then-suits-3 c =
    is_long _ (sym c.if-suits.false ∙ c.suits.ensures) (sym c.if-suits-2.false ∙ c.suits-2.ensures)
    (sym c.if-suits-3.true ∙ c.suits-3.ensures)

pub returns : goal.returns
returns c =
    is_unsigned_long _ (sym c.if-suits.false ∙ c.suits.ensures) (sym c.if-suits-2.false ∙ c.suits-2.ensures)
    (sym c.if-suits-3.false ∙ c.suits-3.ensures) (below c.args.value c.ranges.value.fits)
