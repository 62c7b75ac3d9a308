use Rattle.std.proofs.Common.{refl}
use Rattle.c_lex.specs.Pieces.{IsDirective}
use Rattle.c_lex.proofs.GapEnds.{untrue}
use Rattle.c_lex.proofs.ReadLaws.{pragma-end, pragma-open}
use Rattle.c_lex.proofs.directives.pragma_at.Goals as goal

pub returns-then-is_line_end-clause-right : goal.returns-then-is_line_end-clause-right
returns-then-is_line_end-clause-right c = λ names.
    (IsDirective.pragma c.args.behind.now c.requires.head c.after_skipped-end.ensures.skipped (c.is_line_end.ensures.0 c.if-is_line_end.true) refl, tt)

pub place_of-requires-clause-ends : goal.place_of-requires-clause-ends
place_of-requires-clause-ends c =
    pragma-end c.args.text.now c.args.behind.now c.after_skipped-end.result.now c.requires.head c.after_skipped-end.ensures.skipped

pub returns-clause-wrong : goal.returns-clause-wrong
returns-clause-wrong c = λ names.
    pragma-open names c.args.text.now c.args.behind.now c.after_skipped-end.result.now c.args.at c.place_of.result c.requires.head
    c.after_skipped-end.ensures.skipped c.after_skipped-end.ensures.ends (untrue c.if-is_line_end.false c.is_line_end.ensures.1) c.place_of.ensures
