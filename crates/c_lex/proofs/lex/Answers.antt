use Rattle.std.proofs.lemmas.Result.{err_from_is_err_and}
use Rattle.c_lex.proofs.OneFront.{front-only}
use Rattle.c_lex.proofs.MacroLaws.{becomes_one}
use Rattle.c_lex.proofs.AnswerLaws.{told-only, read-only}
use Rattle.c_lex.proofs.lex.Goals as goal

pub returns-in_err-tokens-clause-only : goal.returns-in_err-tokens-clause-only
returns-in_err-tokens-clause-only c =
    let p = err_from_is_err_and c.from_residual.result c.from_residual.ensures.1 in
    rw (p.1, p.2)
    (told-only front-only becomes_one c.args.text.now c.in_err-tokens.field-0.0 c.in_err-tokens.ensures.wrong)

pub returns-clause-only : goal.returns-clause-only
returns-clause-only c =
    read-only front-only becomes_one c.args.text.now c.in_ok-tokens.ensures.right.0 c.in_ok-tokens.tokens.items c.in_ok-joined.joined.items
    c.in_ok-tokens.ensures.right.1 c.in_ok-joined.ensures
