use Rattle.std.proofs.Common.{◌-◌, ◌++◌, length, take, drop, ap, ◌∙◌, arith}
use Rattle.std.proofs.lemmas.List.{append-nil}
use Rattle.c_grammar.specs.Names.{Names, of_known}
use Rattle.c_grammar.proofs.ScopeLaws.{known_length, known_left, known_inner, left_behind}
use Rattle.c_grammar.proofs.scope.Scope.close.Goals as goal

pub split_off-requires : goal.split_off-requires
split_off-requires c =
    let same = ap length c.self.view_is in
    omega (arith, c.requires, same, known_length c.self.inside.names.items)

pub invariant_of-self-in_err-declare_all : goal.invariant_of-self-in_err-declare_all
invariant_of-self-in_err-declare_all c =
    left_behind c.args.len c.self.inside.names.items _ c.as_slice.result.now c.self.inside.meanings.entries _ c.self.invariant
    c.in_ok-names.ensures.items (c.as_slice.ensures.value ∙ c.in_ok-names.ensures.tail) c.restore_all.ensures

pub invariant_of-self-2 : goal.invariant_of-self-2
invariant_of-self-2 c =
    left_behind c.args.len c.self.inside.names.items _ c.as_slice.result.now c.self.inside.meanings.entries _ c.self.invariant
    c.in_ok-names.ensures.items (c.as_slice.ensures.value ∙ c.in_ok-names.ensures.tail) c.restore_all.ensures

pub returns-clause-inner : goal.returns-clause-inner
returns-clause-inner c =
    let ks = c.self.inside.names.items in
    let names = of_known c.in_ok-names.names.items in
    let same = ap length c.self.view_is in
    c.in_ok-declare_all.ensures ∙ ap (λ (under : Names). names ++ under) c.new-inner.ensures ∙ append-nil names
    ∙ ap of_known c.in_ok-names.ensures.tail
    ∙ known_inner c.args.len ks (omega (arith, c.requires, same, known_length ks))
    ∙ ap (λ (names : Names). take (length names - c.args.len) names) c.self.view_is

pub returns-clause-left : goal.returns-clause-left
returns-clause-left c =
    let ks = c.self.inside.names.items in
    let same = ap length c.self.view_is in
    ap of_known c.in_ok-names.ensures.items
    ∙ known_left c.args.len ks (omega (arith, c.requires, same, known_length ks))
    ∙ ap (λ (names : Names). drop (length names - c.args.len) names) c.self.view_is
