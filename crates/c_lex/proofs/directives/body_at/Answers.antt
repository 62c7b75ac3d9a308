use Rattle.std.proofs.Common.{List, sym, subst}
use Rattle.std.proofs.lemmas.Result.{err_from_is_err_and}
use Rattle.c_lex.specs.declared.lexeme.Lexeme.{Lexeme}
use Rattle.c_lex.specs.declared.fronts.Seen.{Seen}
use Rattle.c_lex.specs.Fronts.{IsSeen}
use Rattle.c_lex.specs.Pieces.{AreLexemes}
use Rattle.c_lex.proofs.OneFront.{front-only, front-takes}
use Rattle.c_lex.proofs.DirectiveLaws.{lexemes-gap, lexemes-token}
use Rattle.c_lex.proofs.ReadLaws.{lexemes-end, bad-body, token-shorter}
use Rattle.c_lex.proofs.directives.body_at.Goals as goal

pub lexemes-init : goal.lexemes-init
lexemes-init c =
    let P : List Lexeme → Type 0 = λ x. AreLexemes c.args.text.now x c.args.text.now in
    subst P (sym c.new-body.ensures.items) (AreLexemes.none c.args.text.now)

pub place_of-requires-clause-ends : goal.place_of-requires-clause-ends
place_of-requires-clause-ends c = lexemes-end front-takes c.args.text.now c.lexemes.body.items c.lexemes.rest.now c.lexemes.invariant

pub returns-in_err-seen-clause-wrong : goal.returns-in_err-seen-clause-wrong
returns-in_err-seen-clause-wrong c =
    let p = err_from_is_err_and c.from_residual.result c.from_residual.ensures.1 in
    rw (p.1, p.2)
    (bad-body c.args.text.now c.args.at c.place_of.result c.lexemes.body.items c.lexemes.rest.now c.in_err-seen.field-0.0
    (lexemes-end front-takes c.args.text.now c.lexemes.body.items c.lexemes.rest.now c.lexemes.invariant) c.lexemes.invariant
    c.place_of.ensures c.in_err-seen.ensures.wrong)

pub lexemes-preserved-in-Gap : goal.lexemes-preserved-in-Gap
lexemes-preserved-in-Gap c =
    let P : Seen → Type 0 = λ x. IsSeen c.lexemes.rest.now x c.in_ok-seen.behind.now in
    lexemes-gap c.args.text.now c.lexemes.body.items c.lexemes.rest.now c.in_ok-seen.behind.now c.lexemes.invariant
    (subst P c.in-Gap.is c.in_ok-seen.ensures.seen)

pub lexemes-smaller : goal.lexemes-smaller
lexemes-smaller c =
    let P : Seen → Type 0 = λ x. IsSeen c.lexemes.rest.now x c.in_ok-seen.behind.now in
    token-shorter front-only front-takes c.lexemes.rest.now c.in-Token.lexeme c.in_ok-seen.behind.now
    (subst P c.in-Token.is c.in_ok-seen.ensures.seen)

pub lexemes-preserved : goal.lexemes-preserved
lexemes-preserved c =
    let P : Seen → Type 0 = λ x. IsSeen c.lexemes.rest.now x c.in_ok-seen.behind.now in
    let Q : List Lexeme → Type 0 = λ x. AreLexemes c.args.text.now x c.in_ok-seen.behind.now in
    subst Q (sym c.in_ok-push-in-Token.ensures.items)
    (lexemes-token c.args.text.now c.lexemes.body.items c.lexemes.rest.now c.in_ok-seen.behind.now c.in-Token.lexeme c.lexemes.invariant
    (subst P c.in-Token.is c.in_ok-seen.ensures.seen))
