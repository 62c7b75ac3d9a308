use Rattle.std.proofs.Common.{List, ap, sym, ◌∙◌}
use Rattle.c_lex.specs.declared.token.Token.{Token as AToken}
use Rattle.c_lex.specs.Joining.{added}
use Rattle.c_lex.proofs.JoinLaws.{joined-more}
use Rattle.c_lex.proofs.joining.join.Goals as goal

pub loop-token-preserved : goal.loop-token-preserved
loop-token-preserved c =
    c.in_ok-add.ensures ∙ ap (λ (ts : List AToken). added ts c.in-Some.token) c.loop-token.invariant
    ∙ sym (joined-more c.loop-token.yielded c.in-Some.token)
