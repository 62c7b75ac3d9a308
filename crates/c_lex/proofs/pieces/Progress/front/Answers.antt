use Rattle.std.proofs.Common.{subst}
use Rattle.std.proofs.lemmas.Result.{err_from_is_err_and}
use Rattle.c_lex.specs.declared.fronts.Seen.{Seen}
use Rattle.c_lex.specs.Fronts.{IsSeen}
use Rattle.c_lex.proofs.OneFront.{front-only, front-takes}
use Rattle.c_lex.proofs.ReadLaws.{token-shorter}
use Rattle.c_lex.proofs.ProgressLaws.{end-or-gap, gap-behind, line-end-behind, token-behind, front-tells, many-tells}
use Rattle.c_lex.proofs.pieces.Progress.front.Goals as goal

pub returns-in_err-seen-clause-wrong : goal.returns-in_err-seen-clause-wrong
returns-in_err-seen-clause-wrong c =
    let p = err_from_is_err_and c.from_residual.result c.from_residual.ensures.1 in
    rw (p.1, p.2)
    (front-tells c.args.source.now c.args.text.now c.args.self.now c.place_of-at.result c.in_err-seen.field-0.0 c.requires.so_far
    c.place_of-at.ensures c.requires.no_directive c.in_err-seen.ensures.wrong)

pub pass-requires-clause-ends : goal.pass-requires-clause-ends
pass-requires-clause-ends c = (front-takes c.args.text.now c.in_ok-seen.seen c.in_ok-seen.rest.now c.in_ok-seen.ensures.seen).0

pub pass-requires-in-LineEnd-clause-ends : goal.pass-requires-in-LineEnd-clause-ends
pass-requires-in-LineEnd-clause-ends c = (front-takes c.args.text.now c.in_ok-seen.seen c.in_ok-seen.rest.now c.in_ok-seen.ensures.seen).0

pub pass-requires-in-Token-clause-ends : goal.pass-requires-in-Token-clause-ends
pass-requires-in-Token-clause-ends c = (front-takes c.args.text.now c.in_ok-seen.seen c.in_ok-seen.rest.now c.in_ok-seen.ensures.seen).0

pub returns-in-LineEnd-clause-right : goal.returns-in-LineEnd-clause-right
returns-in-LineEnd-clause-right c =
    let P : Seen → Type 0 = λ x. IsSeen c.args.text.now x c.in_ok-seen.rest.now in
    line-end-behind c.args.source.now c.args.text.now c.in_ok-seen.rest.now c.args.self.now c.pass-in-LineEnd.new.self c.requires.so_far
    (subst P c.in-LineEnd.is c.in_ok-seen.ensures.seen) c.pass-in-LineEnd.ensures.same c.pass-in-LineEnd.ensures.line

pub returns-in_err-put-in-Token-clause-wrong : goal.returns-in_err-put-in-Token-clause-wrong
returns-in_err-put-in-Token-clause-wrong c =
    let P : Seen → Type 0 = λ x. IsSeen c.args.text.now x c.in_ok-seen.rest.now in
    let p = err_from_is_err_and c.from_residual-in_err-put-in-Token.result c.from_residual-in_err-put-in-Token.ensures.1 in
    rw (p.1, p.2)
    (many-tells c.args.source.now c.args.text.now c.in_ok-seen.rest.now c.args.self.now c.place_of-at.result c.in-Token.lexeme c.in_err-put-in-Token.field-0.0
    c.requires.so_far c.place_of-at.ensures (subst P c.in-Token.is c.in_ok-seen.ensures.seen) c.in_err-put-in-Token.ensures.wrong)

pub returns-in-End-clause-right : goal.returns-in-End-clause-right
returns-in-End-clause-right c =
    gap-behind c.args.source.now c.args.text.now c.in_ok-seen.rest.now c.args.self.now c.pass.new.self c.requires.so_far
    (end-or-gap c.args.text.now c.in_ok-seen.rest.now c.in_ok-seen.seen c.in_ok-seen.ensures.seen c.in-End.is c.requires.some)
    c.pass.ensures.same c.pass.ensures.line

pub returns-in_ok-put-in-Token-clause-right : goal.returns-in_ok-put-in-Token-clause-right
returns-in_ok-put-in-Token-clause-right c =
    let P : Seen → Type 0 = λ x. IsSeen c.args.text.now x c.in_ok-seen.rest.now in
    let token = subst P c.in-Token.is c.in_ok-seen.ensures.seen in (
      token-behind c.args.source.now c.args.text.now c.in_ok-seen.rest.now c.args.self.now c.put.new.self c.pass-in-Token.new.self c.in-Token.lexeme
          c.requires.so_far token (front-takes c.args.text.now c.in_ok-seen.seen c.in_ok-seen.rest.now c.in_ok-seen.ensures.seen).0
          c.in_ok-put-in-Token.ensures.ok c.in_ok-put-in-Token.ensures.few c.in_ok-put-in-Token.ensures.same c.pass-in-Token.ensures.same c.pass-in-Token.ensures.line,
      token-shorter front-only front-takes c.args.text.now c.in-Token.lexeme c.in_ok-seen.rest.now token,
    )
