use Rattle.std.proofs.Common.{subst, sym}
use Rattle.c_compile.specs.declared.error.TextError.{TextError}
use Rattle.c_compile.specs.Texts.{IsWhyNot}
use Rattle.c_compile.proofs.TextLaws.{lexer-tells}
use Rattle.c_compile.proofs.texts.source_of.Goals as goal

pub returns-in-Err-clause-err : goal.returns-in-Err-clause-err
returns-in-Err-clause-err c =
    subst (λ (e : TextError). IsWhyNot c.args.text.now e) (sym c.told_by_lexer.ensures)
    (lexer-tells c.args.text.now c.in-Err.error c.in-Err.ensures.fault)
