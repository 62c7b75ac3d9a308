use Rattle.std.proofs.Common.{◌+◌, drop, sym, ap, ◌∙◌, arith}
use Rattle.std.proofs.Math.ListN.{get_or}
use Rattle.std.proofs.lemmas.List.{drop_more}
use Rattle.c_lex.proofs.NumberLaws.{number_from, wide_later}
use Rattle.c_lex.proofs.numbers.number_of.Goals as goal

pub returns-in_default : goal.returns-in_default
returns-in_default c =
    wide_later c.args.base c.loop-digit.value (get_or c.args.digits.now c.loop-digit.digit-index 0)
    (drop (c.loop-digit.digit-index + 1) c.args.digits.now) c.args.digits.now (omega (arith, c.requires)) c.in_default.ensures
    (ap (number_from c.args.base c.loop-digit.value) (sym (drop_more c.args.digits.now c.loop-digit.digit-index 0 c.loop-digit-test.true)) ∙ c.loop-digit.invariant.so_far)
