use Rattle.std.proofs.Common.{arith}
use Rattle.std.proofs.lemmas.List.Sums.{prefix_len-le-length}
use Rattle.c_lex.specs.Literals.{is_run_digit}
use Rattle.c_lex.proofs.NumberFronts.{cut-digits}
use Rattle.c_lex.proofs.numbers.digits_at.Goals as goal

pub split_at-requires : goal.split_at-requires
split_at-requires c =
    omega (arith, c.run_len.ensures, prefix_len-le-length (is_run_digit c.notation_of-notation.result) c.behind_prefix-body.result.now)

pub returns : goal.returns
returns c =
    cut-digits c.args.text.now c.notation_of-notation.result c.run_len.result c.behind_prefix-body.result.now c.split_at.result.0.now
    c.split_at.result.1.now c.requires c.notation_of-notation.ensures c.behind_prefix-body.ensures c.run_len.ensures
    c.split_at.ensures.front c.split_at.ensures.back
