-- What is read at each level is in the grammar there, and all that is in the grammar there is read.
use Rattle.std.proofs.Common.{◌≡◌, ℕ, zero, suc, ◌+◌, ◌≤◌, Ok, Err, refl, ap, subst, arith}
use Rattle.c_ast.specs.declared.expression.Expr.{Expr}
use Rattle.c_ast.specs.declared.declaration.Abstract.{Abstract}
use Rattle.c_grammar.specs.declared.phrases.ReadParam.{ReadParam}
use Rattle.c_grammar.specs.declared.phrases.ReadParam.TheVariants.{Unnamed}
use Rattle.c_grammar.specs.Grammar.{IsAbstract, arrays, no_sizes}
use Rattle.c_grammar.specs.Nesting.{Bounds}
use Rattle.c_grammar.specs.Reading.{State, Fault, Outcome}
use Rattle.c_grammar.specs.ReadingDecl.{too_deep}
use Rattle.c_grammar.specs.Levels.{readers, no_level, nothing_unnamed}
use Rattle.c_grammar.proofs.Laws.{at_state, Sound, TakesSpecs, Complete, IsParamPart}
use Rattle.c_grammar_laws.proofs.FirstStands.{stops_first, expr_first, specs_first, declarator_first, parens_first}
use Rattle.c_grammar_laws.proofs.ExprSound.{expr_sound, type_sound}
use Rattle.c_grammar_laws.proofs.ExprComplete.{expr_complete, type_complete}
use Rattle.c_grammar_laws.proofs.SpecsSound.{specs_sound}
use Rattle.c_grammar_laws.proofs.SpecsComplete.{specs_complete}
use Rattle.c_grammar_laws.proofs.DeclaratorSound.{declarator_sound, unnamed_sound, param_sound}
use Rattle.c_grammar_laws.proofs.DeclaratorComplete.{declarator_complete, unnamed_complete, param_complete}

-- ---- all levels

no_ok : {A P : Type 0} (f : Fault) (a : A) → ◌≡◌ {A = Outcome A} (Err f) (Ok a) → P
no_ok f a e = absurd cc

same_pair : {B : Type 0} (p q : B) → ◌≡◌ {A = Outcome B} (Ok p) (Ok q) → p ≡ q
same_pair p q e = cc

given : {A : Type 0} (a b : A) (s s' : State) → ◌≡◌ {A = Outcome (A × State)} (Ok (a, s)) (Ok (b, s')) → (a ≡ b) × (s ≡ s')
given {A = A} a b s s' e =
    let left : A × State = (a, s) in
    let right : A × State = (b, s') in
    let pair = same_pair left right e in
    (ap (λ (p : A × State). p.0) pair, ap (λ (p : A × State). p.1) pair)

empty_there : (total most : ℕ) (s s' : State) (a : Abstract Expr) → nothing_unnamed ≡ a → s ≡ s'
    → IsAbstract total most zero s.names s.rest s'.rest s'.names a
empty_there total most s s' a a_is s_is =
    let here : IsAbstract total most zero s.names s.rest s.rest s.names nothing_unnamed = arrays no_sizes in
    let there : IsAbstract total most zero s.names s.rest s'.rest s'.names nothing_unnamed =
    subst (λ (z : State). IsAbstract total most zero s.names s.rest z.rest z.names nothing_unnamed) s_is here in
    subst (λ b. IsAbstract total most zero s.names s.rest s'.rest s'.names b) a_is there

param_there : (total most : ℕ) (s s' : State) (p : ReadParam) → Unnamed nothing_unnamed ≡ p → s ≡ s'
    → IsParamPart total most zero s.names s.rest s'.rest s'.names p
param_there total most s s' p p_is s_is =
    subst (λ q. IsParamPart total most zero s.names s.rest s'.rest s'.names q) p_is
    (empty_there total most s s' nothing_unnamed refl s_is)

pub readers_sound : (total most room : ℕ) → Sound total most room (readers total most room)
unfolding readers
readers_sound total most zero = record {
  expr = λ x s s' e h. no_ok _ _ h;
  specs = λ s s' x h. no_ok _ _ h;
  declarator = λ s s' d h. no_ok _ _ h;
  unnamed = λ s s' a h. let g = given nothing_unnamed a s s' h in empty_there total most s s' a g.0 g.1;
  param = λ s s' p h. let g = given (Unnamed nothing_unnamed) p s s' h in param_there total most s s' p g.0 g.1;
  type_in_parens = λ s s' t h. no_ok _ _ h;
}
readers_sound total most (suc room) =
    let inner = readers total most room in
    let below = readers_sound total most room in
    record {
      expr = expr_sound total most room inner below;
      specs = specs_sound total most room inner below;
      declarator = declarator_sound total most room inner below;
      unnamed = unnamed_sound total most room inner below;
      param = param_sound total most room inner below;
      type_in_parens = type_sound total most room inner below;
    }

-- where there is no room, no specifiers are read
no_specs_read : (total : ℕ) {P : Type 0} → TakesSpecs (no_level total) → P
no_specs_read total takes = no_ok (too_deep total takes.from) takes.found takes.reads

pub readers_complete : (total wide : ℕ) (b : Bounds) (room place : ℕ) → place ≡ room + b.spare → Complete total wide b place (readers total b.chain room)
unfolding readers
readers_complete total wide b zero place is =
    let less : place ≤ b.spare = omega (arith, is) in
    record {
      expr = λ x names after ts rest e d stands ends. stops_first total b.later names ts (expr_first b d stands less) (Ok (e, at_state after rest));
      specs = λ names after ts rest x d stands no_keyword no_brace. stops_first total b.later names ts (specs_first b d stands less) (Ok (x, at_state after rest));
      declarator = λ names after ts rest x d stands ends. stops_first total b.later names ts (declarator_first b d stands less) (Ok (x, at_state after rest));
      unnamed = λ takes. no_specs_read total takes;
      param = λ takes. no_specs_read total takes;
      type_in_parens = λ names after ts rest t d stands. stops_first total b.later names ts (parens_first b d stands less) (Ok (t, at_state after rest));
    }
readers_complete total wide b (suc room) zero is = absurd (omega (arith, is))
readers_complete total wide b (suc room) (suc place) is =
    let inner = readers total b.chain room in
    let same : place ≡ room + b.spare = omega (arith, is) in
    let below = readers_complete total wide b room place same in
    record {
      expr = expr_complete total wide b place inner below;
      specs = specs_complete total wide b room place same inner below;
      declarator = declarator_complete total wide b room place same inner below;
      unnamed = λ takes. unnamed_complete total wide b place inner below;
      param = λ takes. param_complete total wide b room place same inner below;
      type_in_parens = type_complete total wide b place inner below;
    }
