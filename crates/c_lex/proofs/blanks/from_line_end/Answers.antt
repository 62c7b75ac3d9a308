use Rattle.std.proofs.Common.{sym, ◌∙◌}
use Rattle.c_lex.proofs.GapLaws.{in_line-shorter, from_line_end-more, from_line_end-ends}
use Rattle.c_lex.proofs.blanks.from_line_end.Goals as goal

pub line-smaller : goal.line-smaller
line-smaller c = in_line-shorter _ _ (sym c.in-Some.ensures)

pub line-preserved : goal.line-preserved
line-preserved c = sym (from_line_end-more _ _ (sym c.in-Some.ensures)) ∙ c.line.invariant

pub returns : goal.returns
returns c = sym (from_line_end-ends _ (sym c.in_default.ensures)) ∙ c.line.invariant
