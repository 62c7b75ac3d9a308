use Rattle.std.proofs.Common.{subst, sym, ◌∙◌}
use Rattle.c_compile.specs.declared.error.TextError.{TextError}
use Rattle.c_compile.specs.Texts.{IsWhyNot}
use Rattle.c_compile.proofs.TextLaws.{tokens-few, parser-tells}
use Rattle.c_compile.proofs.texts.source_with_lines.Goals as goal

pub parse-requires : goal.parse-requires
parse-requires c = tokens-few c.args.text.now c.args.tokens.now c.requires.tokens

pub known_in-requires : goal.known_in-requires
known_in-requires c = tokens-few c.args.text.now c.args.tokens.now c.requires.tokens

pub returns-in-Err-clause-err : goal.returns-in-Err-clause-err
returns-in-Err-clause-err c =
    subst (λ (e : TextError). IsWhyNot c.args.text.now e) (sym c.told_by_parser-told.ensures)
    (parser-tells c.args.text.now c.args.tokens.now c.requires.tokens c.as_slice.result.now (c.as_slice.ensures ∙ c.requires.lines)
    c.in-Err.error c.in-Err.ensures.refused c.in-Err.ensures.unexpected c.in-Err.ensures.nested)
