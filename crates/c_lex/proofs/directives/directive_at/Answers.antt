use Rattle.std.proofs.lemmas.Result.{IfOk-weaker}
use Rattle.c_lex.specs.Tokens.{names_of}
use Rattle.c_lex.proofs.ReadLaws.{tells-no-directive}
use Rattle.c_lex.proofs.directives.directive_at.Goals as goal

pub returns-then-eq-clause-right : goal.returns-then-eq-clause-right
returns-then-eq-clause-right c = IfOk-weaker c.include_at.result _ _ (λ found h. h (names_of c.args.macros.now)) c.include_at.ensures.right

pub returns-then-eq-3-clause-right : goal.returns-then-eq-3-clause-right
returns-then-eq-3-clause-right c = IfOk-weaker c.pragma_at.result _ _ (λ found h. h (names_of c.args.macros.now)) c.pragma_at.ensures.right

pub returns-clause-wrong : goal.returns-clause-wrong
returns-clause-wrong c =
    tells-no-directive (names_of c.args.macros.now) c.args.text.now c.in-Some.field-0-0.now c.in-Some.behind.now c.head_of.result.0.now c.head_of.result.1.now
    c.args.at c.eq.result c.eq-2.result c.eq-3.result c.in-Some.ensures.cases.0 c.requires.hash c.head_of.ensures.only
    c.eq.ensures c.if-eq.false c.eq-2.ensures c.if-eq-2.false c.eq-3.ensures c.if-eq-3.false
