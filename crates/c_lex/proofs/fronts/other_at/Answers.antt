use Rattle.std.proofs.Common.{ℕ, List, length, drop, refl, sym, ap, ◌∙◌, arith}
use Rattle.c_lex.specs.Words.{mark_text}
use Rattle.c_lex.specs.Faults.{BadByte, FloatLiteral, Unclosed, fraction}
use Rattle.c_lex.specs.Tokens.{Fault}
use Rattle.c_lex.proofs.OtherReading.{comment_open, bad_other, mark_lexeme}
use Rattle.c_lex.proofs.fronts.other_at.Goals as goal

pub returns-then-begins_with-clause-wrong : goal.returns-then-begins_with-clause-wrong
returns-then-begins_with-clause-wrong c =
    (Unclosed, 0, comment_open c.args.text.now c.in_default.ensures.reads c.if-begins_with.ensures, ap (Fault Unclosed) (omega arith))

pub returns-then-begins_fraction-clause-wrong : goal.returns-then-begins_fraction-clause-wrong
returns-then-begins_fraction-clause-wrong c =
    (FloatLiteral, 0, fraction (sym c.if-begins_fraction.ensures) refl refl, ap (Fault FloatLiteral) (omega arith))

pub returns-in_default-mark_at-clause-wrong : goal.returns-in_default-mark_at-clause-wrong
returns-in_default-mark_at-clause-wrong c = (
  BadByte,
  0,
  bad_other c.args.text.now c.requires.other c.in_default.ensures.reads c.if-begins_with.ensures c.in_default-mark_at.ensures.none,
  ap (Fault BadByte) (omega arith),
)

pub returns-clause-seen : goal.returns-clause-seen
returns-clause-seen c =
    let m = c.in-Some-mark_at.mark in
    mark_lexeme c.args.text.now m (drop (length (mark_text m)) c.args.text.now) c.new.result c.split_at.result.1.now
    c.in-Some-mark_at.ensures.mark (c.split_at.ensures.back ∙ ap (λ (x : List ℕ). drop (length x) c.args.text.now) c.mark_text.ensures) c.new.ensures c.if-begins_fraction.ensures
