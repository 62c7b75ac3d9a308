use Rattle.std.proofs.Common.{sym, ◌∙◌}
use Rattle.c_lex.proofs.CloseQuoteLaws.{in_literal-shorter, is_closed-more, is_closed-ends}
use Rattle.c_lex.proofs.literals.is_closed.Goals as goal

pub literal-smaller : goal.literal-smaller
literal-smaller c = in_literal-shorter _ _ _ (sym c.in-Some.ensures)

pub literal-preserved : goal.literal-preserved
literal-preserved c = sym (is_closed-more _ _ _ (sym c.in-Some.ensures)) ∙ c.literal.invariant

pub returns : goal.returns
returns c = c.begins_quote.ensures ∙ sym (is_closed-ends _ _ (sym c.in_default.ensures)) ∙ c.literal.invariant
