-- The readers of each level beside those that have more room and read longer chains.
use Rattle.std.proofs.Common.{◌≡◌, ℕ, zero, suc, ◌+◌, ◌-◌, ◌≤◌, inl, inr, refl, sym, subst, arith}
use Rattle.c_grammar.specs.declared.phrases.ReadParam.TheVariants.{Unnamed}
use Rattle.c_grammar.specs.Inner.{Inner}
use Rattle.c_grammar.specs.ReadingDecl.{too_deep}
use Rattle.c_grammar.specs.Levels.{no_level, level_of, nothing_unnamed, readers}
use Rattle.c_grammar_laws.proofs.Agrees.{goes}
use Rattle.c_grammar.proofs.Late.{raised, raised_is}
use Rattle.c_grammar_laws.proofs.Higher.{Rise, OnwardInner, TakesInner, AboveInner, onward_of, nested, too_deep_for}
use Rattle.c_grammar_laws.proofs.HigherExpr.{no_rise, type_above, expr_above, type_takes, expr_takes}
use Rattle.c_grammar_laws.proofs.HigherSpecs.{specs_above, specs_takes}
use Rattle.c_grammar_laws.proofs.HigherDecl.{declarator_above, unnamed_above, param_above, declarator_takes}

level_above : (w : Rise) (room room' : ℕ) → room' ≡ room + w.extra → (inner inner' : Inner) → AboveInner w room inner inner'
    → AboveInner w (suc room) (level_of w.total w.most room inner) (level_of w.total w.wide room' inner')
level_above w room room' rooms inner inner' below = record {
  expr = λ x. expr_above w room inner inner' below x;
  specs = specs_above w room room' rooms inner inner' below;
  declarator = declarator_above w room room' rooms inner inner' below;
  type_in_parens = type_above w room inner inner' below;
  unnamed_on = (unnamed_above w room room' rooms inner inner' below).on;
  unnamed = λ some. (unnamed_above w room room' rooms inner inner' below).lift;
  param_on = (param_above w room room' rooms inner inner' below).on;
  param = λ some. (param_above w room room' rooms inner inner' below).lift;
  some_room = λ s x h. omega arith;
}

no_level_above : (w : Rise) → w.extra ≡ 0 → AboveInner w zero (no_level w.total) (no_level w.total)
unfolding too_deep
no_level_above w none = record {
  expr = λ x. nested none;
  specs = nested none;
  declarator = nested none;
  type_in_parens = nested none;
  unnamed_on = λ from len e s le. goes nothing_unnamed s le;
  unnamed = λ some. absurd (omega (arith, some));
  param_on = λ from len e s le. goes (Unnamed nothing_unnamed) s le;
  param = λ some. absurd (omega (arith, some));
  some_room = λ s x h. absurd cc;
}

-- with as much room
same_above : (w : Rise) → w.extra ≡ 0 → (room : ℕ) → AboveInner w room (readers w.total w.most room) (readers w.total w.wide room)
unfolding readers
same_above w none zero = no_level_above w none
same_above w none (suc room) =
    level_above w room room (omega (arith, none)) (readers w.total w.most room) (readers w.total w.wide room) (same_above w none room)

pub all_onward : (total wide room : ℕ) → OnwardInner total (readers total wide room)
all_onward total wide room = onward_of (same_above (no_rise total wide) refl room)

pub all_take : (w : Rise) → 2 ≤ w.extra → (room : ℕ) → TakesInner w (readers w.total w.wide (suc room))
unfolding readers
all_take w some room =
    let on = all_onward w.total w.wide room in
    record {
      expr = λ x. expr_takes w some (readers w.total w.wide room) on x;
      specs = specs_takes w some room (readers w.total w.wide room) on;
      declarator = declarator_takes w some room (readers w.total w.wide room) on;
      type_in_parens = type_takes w some (readers w.total w.wide room) on;
    }

-- where there is no room, beside some
first_above : (w : Rise) → 2 ≤ w.extra → (room : ℕ) → AboveInner w zero (no_level w.total) (readers w.total w.wide (suc room))
unfolding too_deep
first_above w some room =
    let on = all_onward w.total w.wide (suc room) in
    let takes = all_take w some room in
    record {
      expr = λ x. too_deep_for (on.expr x) (takes.expr x);
      specs = too_deep_for on.specs takes.specs;
      declarator = too_deep_for on.declarator takes.declarator;
      type_in_parens = too_deep_for on.type_in_parens takes.type_in_parens;
      unnamed_on = on.unnamed;
      unnamed = λ one. absurd (omega (arith, one));
      param_on = on.param;
      param = λ one. absurd (omega (arith, one));
      some_room = λ s x h. absurd cc;
    }

pub all_above : (w : Rise) (room : ℕ) → AboveInner w room (readers w.total w.most room) (readers w.total w.wide (raised w.extra room))
unfolding readers
all_above w zero = elim w.deeper [
  | inl none ↦ subst (λ n. AboveInner w zero (no_level w.total) (readers w.total w.wide n)) (sym none) (no_level_above w none)
  | inr some ↦
      let one : suc (w.extra - 1) ≡ w.extra = omega (arith, some) in
      subst (λ n. AboveInner w zero (no_level w.total) (readers w.total w.wide n)) one (first_above w some (w.extra - 1))
]
all_above w (suc room) =
    level_above w room (raised w.extra room) (raised_is w.extra room) (readers w.total w.most room) (readers w.total w.wide (raised w.extra room)) (all_above w room)
