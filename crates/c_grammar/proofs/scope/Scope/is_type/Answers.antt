use Rattle.std.proofs.Common.{Bool, Option, sym, ap, ◌∙◌}
use Rattle.std.specs.Option.{unwrap_or}
use Rattle.c_grammar.specs.Names.{Names, is_type_in, is_type_of, of_known}
use Rattle.c_grammar.proofs.ScopeLaws.{type_by_meaning}
use Rattle.c_grammar.proofs.scope.Scope.is_type.Goals as goal

pub returns-in-Some : goal.returns-in-Some
returns-in-Some c =
    let names = of_known c.self.inside.names.items in
    ap (λ (m : Option Bool). unwrap_or m (is_type_of c.args.headers c.args.name.now)) (c.in-Some.ensures ∙ c.self.invariant.agrees c.args.name.now)
    ∙ sym (type_by_meaning names c.args.headers c.args.name.now)
    ∙ ap (λ (names : Names). is_type_in names c.args.headers c.args.name.now) c.self.view_is

pub returns-in-None : goal.returns-in-None
returns-in-None c =
    let names = of_known c.self.inside.names.items in
    c.is_type_of.ensures
    ∙ ap (λ (m : Option Bool). unwrap_or m (is_type_of c.args.headers c.args.name.now)) (c.in-None.ensures ∙ c.self.invariant.agrees c.args.name.now)
    ∙ sym (type_by_meaning names c.args.headers c.args.name.now)
    ∙ ap (λ (names : Names). is_type_in names c.args.headers c.args.name.now) c.self.view_is
