use Rattle.std.proofs.Common.{◌+◌, ◌-◌, length, refl, ap, arith, inl}
use Rattle.c_lex.specs.Faults.{BadByte, Unclosed, open_literal}
use Rattle.c_lex.specs.Tokens.{Fault}
use Rattle.c_lex.proofs.LiteralReading.{open_at, rest_no_longer, next_shorter, none_yet, one_more, string_token, string_wrong}
use Rattle.c_lex.proofs.strings.string_at.Goals as goal

pub returns-then-not-is_closed-clause-wrong : goal.returns-then-not-is_closed-clause-wrong
returns-then-not-is_closed-clause-wrong c = (
  Unclosed,
  0,
  open_literal 34 c.args.body.now (inl refl) refl (open_at 34 c.args.body.now c.if-not-is_closed.ensures) refl refl,
  ap (Fault Unclosed) (omega arith),
)

pub characters-init : goal.characters-init
characters-init c = none_yet 34 c.args.body.now c.new-bytes.result c.new-bytes.ensures

pub characters-smaller : goal.characters-smaller
characters-smaller c = next_shorter 34 c.characters.rest.now c.in-Some.byte c.in-Some.next.now c.in-Some.ensures

pub characters-preserved : goal.characters-preserved
characters-preserved c =
    one_more 34 c.args.body.now c.characters.bytes c.characters.rest.now c.in-Some.byte c.in-Some.next.now c.push.new.self
    c.characters.invariant c.in-Some.ensures c.in_ok-push.ensures.ok

pub overflow_sub-taken : goal.overflow_sub-taken
overflow_sub-taken c = rest_no_longer 34 c.args.body.now c.characters.bytes c.characters.rest.now c.characters.invariant

pub returns-in_default-after_quote-clause-wrong : goal.returns-in_default-after_quote-clause-wrong
returns-in_default-after_quote-clause-wrong c = (
  BadByte,
  1 + (length c.args.body.now - length c.characters.rest.now),
  string_wrong c.args.body.now c.characters.bytes c.characters.rest.now c.if-not-is_closed.ensures c.characters.invariant
      c.in_default.ensures c.in_default-after_quote.ensures,
  ap (Fault BadByte) (omega arith),
)

pub returns-clause-seen : goal.returns-clause-seen
returns-clause-seen c =
    string_token c.args.body.now c.characters.bytes c.characters.rest.now c.in-Some-after_quote.behind.now c.characters.invariant
    c.in-Some-after_quote.ensures
