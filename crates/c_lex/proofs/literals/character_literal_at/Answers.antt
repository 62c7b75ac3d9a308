use Rattle.std.proofs.Common.{◌+◌, ◌-◌, length, refl, ap, arith, inr}
use Rattle.c_lex.specs.Faults.{BadByte, Unclosed, open_literal}
use Rattle.c_lex.specs.Tokens.{Fault}
use Rattle.c_lex.proofs.LiteralReading.{open_at, next_shorter, character_literal, no_character_wrong, long_character_wrong}
use Rattle.c_lex.proofs.literals.character_literal_at.Goals as goal

pub returns-then-not-is_closed-clause-wrong : goal.returns-then-not-is_closed-clause-wrong
returns-then-not-is_closed-clause-wrong c = (
  Unclosed,
  0,
  open_literal 39 c.args.body.now (inr refl) refl (open_at 39 c.args.body.now c.if-not-is_closed.ensures) refl refl,
  ap (Fault Unclosed) (omega arith),
)

pub returns-in_default-clause-wrong : goal.returns-in_default-clause-wrong
returns-in_default-clause-wrong c =
    (BadByte, 1, no_character_wrong c.args.body.now c.if-not-is_closed.ensures c.in_default.ensures, ap (Fault BadByte) (omega arith))

pub overflow_sub-taken : goal.overflow_sub-taken
overflow_sub-taken c = omega (arith, next_shorter 39 c.args.body.now c.in-Some.byte c.in-Some.rest.now c.in-Some.ensures)

pub returns-in_default-after_quote-clause-wrong : goal.returns-in_default-after_quote-clause-wrong
returns-in_default-after_quote-clause-wrong c = (
  BadByte,
  1 + (length c.args.body.now - length c.in-Some.rest.now),
  long_character_wrong c.args.body.now c.in-Some.byte c.in-Some.rest.now c.if-not-is_closed.ensures c.in-Some.ensures
      c.in_default-after_quote.ensures,
  ap (Fault BadByte) (omega arith),
)

pub returns-clause-seen : goal.returns-clause-seen
returns-clause-seen c =
    character_literal c.args.body.now c.in-Some.byte c.in-Some.rest.now c.in-Some-after_quote.behind.now c.char_value.result c.new.result
    c.in-Some.ensures c.in-Some-after_quote.ensures c.char_value.ensures c.new.ensures
