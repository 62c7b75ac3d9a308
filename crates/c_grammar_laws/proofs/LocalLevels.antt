-- What the readers of a level do depends only on the tokens up to where they stop.
use Rattle.std.proofs.Common.{ℕ, zero, suc, refl}
use Rattle.c_grammar.specs.declared.phrases.ReadParam.TheVariants.{Unnamed}
use Rattle.c_grammar.specs.Inner.{Inner}
use Rattle.c_grammar.specs.ReadingExpr.{expr_of}
use Rattle.c_grammar.specs.ReadingDecl.{too_deep}
use Rattle.c_grammar.specs.Levels.{no_level, level_of, nothing_unnamed, readers}
use Rattle.c_grammar_laws.proofs.Agrees.{Sides, total_one, total_other, given, nested, weak}
use Rattle.c_grammar_laws.proofs.LocalExpr.{BothInner, expr_both, type_both, type_last, unary_last}
use Rattle.c_grammar_laws.proofs.LocalSpecs.{specs_both, specs_last}
use Rattle.c_grammar_laws.proofs.LocalDecl.{declarator_both, unnamed_both, param_both}

no_level_both : (w : Sides) → BothInner w zero (no_level (total_one w)) (no_level (total_other w))
unfolding too_deep
no_level_both w = record {
  expr = λ x n. nested;
  specs = λ n. nested;
  declarator = λ n. nested;
  unnamed = λ n. given nothing_unnamed;
  param = λ n. given (Unnamed nothing_unnamed);
  type_in_parens = λ n. nested;
  takes_one = record { type_in_parens = λ names t is. refl; expr = λ names t is. refl; specs = λ names t is. refl };
  takes_other = record { type_in_parens = λ names t is. refl; expr = λ names t is. refl; specs = λ names t is. refl };
}

level_both : (w : Sides) (most room : ℕ) (inner inner' : Inner) → BothInner w room inner inner'
    → BothInner w (suc room) (level_of (total_one w) most room inner) (level_of (total_other w) most room inner')
unfolding expr_of
level_both w most room inner inner' below = record {
  expr = λ x n. expr_both w room inner inner' below most x n;
  specs = λ n. specs_both w room inner inner' below n;
  declarator = λ n. declarator_both w room inner inner' below n;
  unnamed = λ n. unnamed_both w room inner inner' below n;
  param = λ n. param_both w room inner inner' below n;
  type_in_parens = λ n. weak (type_both w room inner inner' below n);
  takes_one = record {
    type_in_parens = λ names t is. (type_last w room inner inner' below names t is).0;
    expr = λ names t is. (unary_last w room inner inner' below most names t is).0;
    specs = λ names t is. (specs_last w room inner inner' below names t is).0;
  };
  takes_other = record {
    type_in_parens = λ names t is. (type_last w room inner inner' below names t is).1;
    expr = λ names t is. (unary_last w room inner inner' below most names t is).1;
    specs = λ names t is. (specs_last w room inner inner' below names t is).1;
  };
}

pub readers_both : (w : Sides) (most room : ℕ) → BothInner w room (readers (total_one w) most room) (readers (total_other w) most room)
unfolding readers
readers_both w most zero = no_level_both w
readers_both w most (suc room) =
    level_both w most room (readers (total_one w) most room) (readers (total_other w) most room) (readers_both w most room)
