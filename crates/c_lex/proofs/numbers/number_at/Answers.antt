use Rattle.std.proofs.Common.{sym, ap, ◌∙◌}
use Rattle.std.specs.List.{prefix_len}
use Rattle.c_lex.specs.Literals.{is_digit, number_of}
use Rattle.c_lex.specs.Reading.{in_64_bits}
use Rattle.c_lex.proofs.NumberFronts.{cut-number}
use Rattle.c_lex.proofs.numbers.number_at.Goals as goal

pub returns-clause-seen : goal.returns-clause-seen
returns-clause-seen c =
    let digits = c.digits_at-notation.result.digits.now in
    cut-number c.args.text.now c.digits_at-notation.result.notation digits c.digits_at-notation.result.behind.now
    c.split_at.result.1.now c.right_digits-right.result c.in-Some.value c.suffix_at-suffix.result c.first_type-number_type.result
    c.number_lexeme-lexeme.result c.digits_at-notation.ensures (sym c.goes_on_as_float.ensures ∙ c.if-goes_on_as_float.false)
    (c.right_digits-right.ensures ∙ ap (λ b. prefix_len (is_digit b) digits) c.base.ensures) c.if-right-digits.false
    (sym c.in-Some.is ∙ c.number_of.ensures ∙ ap (λ b. in_64_bits (number_of b digits)) c.base-2.ensures)
    c.suffix_at-suffix.ensures.value c.first_type-number_type.ensures c.split_at.ensures.back c.number_lexeme-lexeme.ensures
