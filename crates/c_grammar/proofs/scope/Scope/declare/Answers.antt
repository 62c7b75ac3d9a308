use Rattle.std.proofs.Common.{ℕ, List, [], ◌∷◌, Some, sym, ap, subst, ◌∙◌}
use Rattle.std.specs.Prelude.{if◌then◌else◌}
use Rattle.std.specs.Str.{bytes_eq}
use Rattle.std.proofs.lemmas.List.{append-nil}
use Rattle.c_grammar.specs.declared.scope.KnownName.{KnownName}
use Rattle.c_grammar.specs.Names.{Names, of_known, declared}
use Rattle.c_grammar.specs.Meanings.{Entries, meaning_of, meaning_in, Agrees, Hide}
use Rattle.c_grammar.proofs.ScopeLaws.{known_append, agrees_declared, inserted, hide_more}
use Rattle.c_grammar.proofs.scope.Scope.declare.Goals as goal

pub invariant_of-self-in_default : goal.invariant_of-self-in_default
invariant_of-self-in_default c =
    let ks = c.self.inside.names.items in
    let k : KnownName = record { name = c.args.name; is_type = c.args.is_type; hidden = c.meaning-hidden.result } in
    let old : Entries = c.self.inside.meanings.entries in
    let new : Entries = c.insert.new.self.entries in
    let agrees = agrees_declared k (of_known ks) old new c.self.invariant.agrees (λ name.
    ap (λ (es : Entries). meaning_of es name) c.in_default.ensures.entries
    ∙ inserted old c.in_ok-key.key (Some k.is_type) name
    ∙ ap (λ (key : List ℕ). if bytes_eq name key then Some k.is_type else meaning_of old name)
    (c.in_ok-key.ensures.items ∙ c.as_slice-2.ensures)) in
    let hides =
    c.meaning-hidden.ensures ∙ ap (λ (name : List ℕ). meaning_of old name) c.as_slice.ensures ∙ c.self.invariant.agrees k.name
    ∙ ap (λ (names : Names). meaning_in names k.name) (sym (append-nil (of_known ks))) in
    record {
      agrees = subst (λ (names : Names). Agrees new names) (sym (ap of_known c.in_ok-push.ensures.items ∙ known_append ks (k ∷ []))) agrees;
      hide = subst (λ (xs : List KnownName). Hide [] xs) (sym c.in_ok-push.ensures.items) (hide_more [] ks k c.self.invariant.hide hides);
    }

pub returns-in_default-clause-ok : goal.returns-in_default-clause-ok
returns-in_default-clause-ok c =
    ap of_known c.in_ok-push.ensures.items ∙ known_append c.self.inside.names.items _
    ∙ ap (λ (names : Names). declared names c.args.name c.args.is_type) c.self.view_is
