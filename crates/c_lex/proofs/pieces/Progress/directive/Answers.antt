use Rattle.std.proofs.Common.{◌+◌, ap, ◌∙◌}
use Rattle.std.proofs.lemmas.Result.{err_from_is_err_and}
use Rattle.c_lex.specs.declared.pieces.Progress.{Progress}
use Rattle.c_lex.specs.Blanks.{feeds_in}
use Rattle.c_lex.specs.Progress.{piece_of}
use Rattle.c_lex.proofs.OneFront.{front-takes}
use Rattle.c_lex.proofs.ProgressLaws.{directive-behind, directive-behind-hash, directive-end, directive-tells}
use Rattle.c_lex.proofs.pieces.Progress.directive.Goals as goal

pub returns-in_err-directive-clause-wrong : goal.returns-in_err-directive-clause-wrong
returns-in_err-directive-clause-wrong c =
    let p = err_from_is_err_and c.from_residual.result c.from_residual.ensures.1 in
    rw (p.1, p.2)
    (directive-tells c.args.source.now c.args.text.now c.args.self.now c.place_of-at.result c.in_err-directive.field-0.0 c.requires.so_far
    c.place_of-at.ensures c.requires.first c.in_err-directive.ensures.wrong)

pub pass-requires-clause-ends : goal.pass-requires-clause-ends
pass-requires-clause-ends c =
    directive-end c.args.text.now c.in_ok-directive.rest.now
    (directive-behind-hash front-takes c.args.text.now (piece_of c.in_ok-directive.directive) c.in_ok-directive.rest.now c.in_ok-directive.ensures.right.0)

pub returns-clause-right : goal.returns-clause-right
returns-clause-right c =
    directive-behind front-takes c.args.source.now c.args.text.now c.in_ok-directive.rest.now c.args.self.now c.pass.new.self c.in_ok-directive.directive
    c.requires.so_far c.requires.first c.in_ok-directive.ensures.right.0 c.in_ok-directive.ensures.right.1
    (c.pass.ensures.same ∙ ap (λ (x : Progress). record x { line = c.pass.new.self.line }) c.in_ok-apply.ensures)
    (c.pass.ensures.line ∙ ap (λ (x : Progress). x.line + feeds_in c.args.text.now) c.in_ok-apply.ensures)
