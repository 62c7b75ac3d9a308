use Rattle.std.proofs.Common.{sym, inl}
use Rattle.c_lex.proofs.GapEnds.{no-gap-read, untrue, skips_byte}
use Rattle.c_lex.proofs.directives.skip_once.Goals as goal

pub returns-in-Some-clause-some : goal.returns-in-Some-clause-some
returns-in-Some-clause-some c = inl c.in-Some.ensures.gap

pub is_open_comment-requires : goal.is_open_comment-requires
is_open_comment-requires c = no-gap-read _ (sym c.in_default.ensures.reads)

pub returns-clause-some : goal.returns-clause-some
returns-clause-some c =
    skips_byte c.args.text.now c.in_ok-rest.field-0-0.now c.in_ok-rest.rest.now c.in_ok-rest.ensures.cases.0
    (no-gap-read _ (sym c.in_default.ensures.reads)) (untrue c.if-is_line_end.false c.is_line_end.ensures.1)
    (untrue c.if-is_open_comment.false c.is_open_comment.ensures.1)
