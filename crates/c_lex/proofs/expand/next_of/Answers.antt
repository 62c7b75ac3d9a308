use Rattle.std.proofs.Common.{sym, ◌∙◌}
use Rattle.c_lex.proofs.TableLaws.{unnamed_kept, begun_kept, is_replaced}
use Rattle.c_lex.specs.Frames.{hidden_of}
use Rattle.c_lex.proofs.expand.next_of.Goals as goal

pub returns-in_default : goal.returns-in_default
returns-in_default c = unnamed_kept c.args.table.now (hidden_of c.args.table.now c.args.frames.now) c.args.lexeme.now c.in_default.ensures.none

pub returns-then-is_begun : goal.returns-then-is_begun
returns-then-is_begun c =
    begun_kept c.args.table.now c.args.frames.now c.args.marks.now c.in-Some.number c.args.lexeme.now
    (sym c.is_begun.ensures ∙ c.if-is_begun.true) c.in-Some.ensures.some.1

pub returns-then-marks-number : goal.returns-then-marks-number
returns-then-marks-number c = (
  c.in-Some.number,
  (
    c.in-Some.ensures.some.0,
    is_replaced c.args.table.now c.args.frames.now c.args.marks.now c.in-Some.number c.args.lexeme.now c.requires.table
        c.in-Some.ensures.some.0 c.requires.within c.requires.placed (sym c.is_begun.ensures ∙ c.if-is_begun.false) c.in-Some.ensures.some.1,
  ),
  c.if-marks-number.true,
)

pub returns-else-marks-number : goal.returns-else-marks-number
returns-else-marks-number c = (
  (
    c.in-Some.ensures.some.0,
    is_replaced c.args.table.now c.args.frames.now c.args.marks.now c.in-Some.number c.args.lexeme.now c.requires.table
        c.in-Some.ensures.some.0 c.requires.within c.requires.placed (sym c.is_begun.ensures ∙ c.if-is_begun.false) c.in-Some.ensures.some.1,
  ),
  c.if-marks-number.false,
)
