use Rattle.std.proofs.Common.{arith}
use Rattle.c_lex.proofs.NumberLaws.{few_digits}
use Rattle.c_lex.specs.Literals.{is_digit}
use Rattle.c_lex.proofs.literals.digits_at.Goals as goal

pub split_at-requires : goal.split_at-requires
split_at-requires c =
    omega (arith, c.digits_len-count.ensures, few_digits (is_digit c.args.base) c.args.most c.args.text.now)
