use Rattle.std.proofs.Common.{refl}
use Rattle.c_lex.specs.Pieces.{IsDirective}
use Rattle.c_lex.proofs.OneFront.{front-only}
use Rattle.c_lex.proofs.GapEnds.{untrue}
use Rattle.c_lex.proofs.ReadLaws.{tells-none, include-names-none, include-ends-not, include-end, include-open}
use Rattle.c_lex.proofs.directives.include_at.Goals as goal

pub returns-in_default-clause-wrong : goal.returns-in_default-clause-wrong
returns-in_default-clause-wrong c = λ names.
    tells-none names _ c.args.text.now c.args.behind.now c.args.at c.requires.head
    (include-names-none front-only names c.args.text.now c.args.behind.now c.after_gaps.result.now c.requires.head c.after_gaps.ensures.gaps
    c.after_gaps.ensures.none c.in_default.ensures.none)

pub returns-then-is_line_end-clause-right : goal.returns-then-is_line_end-clause-right
returns-then-is_line_end-clause-right c = λ names. (
  IsDirective.include c.in-Some.header c.in-Some.rest.now
      (c.args.behind.now, c.after_gaps.result.now, c.requires.head, c.after_gaps.ensures.gaps, c.in-Some.ensures.some)
      c.after_gaps-end.ensures.gaps (c.is_line_end.ensures.0 c.if-is_line_end.true) refl,
  tt,
)

pub place_of-requires-clause-ends : goal.place_of-requires-clause-ends
place_of-requires-clause-ends c =
    include-end c.args.text.now c.args.behind.now c.after_gaps.result.now c.in-Some.header c.in-Some.rest.now c.after_gaps-end.result.now
    c.requires.head c.after_gaps.ensures.gaps c.in-Some.ensures.some c.after_gaps-end.ensures.gaps

pub returns-then-is_open_comment-clause-wrong : goal.returns-then-is_open_comment-clause-wrong
returns-then-is_open_comment-clause-wrong c = λ names.
    include-open names c.args.text.now c.args.behind.now c.after_gaps.result.now c.in-Some.header c.in-Some.rest.now c.after_gaps-end.result.now
    c.args.at c.place_of.result c.requires.head c.after_gaps.ensures.gaps c.in-Some.ensures.some c.after_gaps-end.ensures.gaps
    (c.is_open_comment.ensures.0 c.if-is_open_comment.true) c.place_of.ensures

pub returns-clause-wrong : goal.returns-clause-wrong
returns-clause-wrong c = λ names.
    tells-none names _ c.args.text.now c.args.behind.now c.args.at c.requires.head
    (include-ends-not front-only names c.args.text.now c.args.behind.now c.after_gaps.result.now c.in-Some.header c.in-Some.rest.now c.after_gaps-end.result.now
    c.requires.head c.after_gaps.ensures.gaps c.in-Some.ensures.some c.after_gaps-end.ensures.gaps c.after_gaps-end.ensures.none
    (untrue c.if-is_line_end.false c.is_line_end.ensures.1) (untrue c.if-is_open_comment.false c.is_open_comment.ensures.1))
