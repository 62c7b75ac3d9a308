use Rattle.std.proofs.Common.{[], ◌∷◌, ◌++◌, sym, ap, ◌∙◌}
use Rattle.c_grammar.specs.Names.{Names, declared}
use Rattle.c_grammar.proofs.ScopeLaws.{known_append}
use Rattle.c_grammar.proofs.scope.Scope.declare_all.Goals as goal

pub loop-known-preserved : goal.loop-known-preserved
loop-known-preserved c =
    let known = c.in-Some.known in
    c.in_ok-declare.ensures.ok ∙ ap (λ (names : Names). declared names known.name known.is_type) c.loop-known.invariant
    ∙ ap (λ (names : Names). names ++ c.args.self.now) (sym (known_append c.loop-known.yielded (known ∷ [])))
