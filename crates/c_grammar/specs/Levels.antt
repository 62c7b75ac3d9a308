-- What is read at each level: a place with no room takes nothing.
use Rattle.std.specs.Prelude.{ℕ, zero, suc, Ok, Err, []}
use Rattle.c_ast.specs.declared.expression.Expr.{Expr}
use Rattle.c_ast.specs.declared.declaration.Abstract.{Abstract}
use Rattle.c_grammar.specs.declared.phrases.ReadParam.TheVariants.{Unnamed}
use Rattle.c_grammar.specs.Inner.{Inner}
use Rattle.c_grammar.specs.ReadingExpr.{expr_of, type_in_parens}
use Rattle.c_grammar.specs.ReadingDecl.{specs, declarator, unnamed, param_declarator, too_deep}

-- a level, by the room that is left one further in and what is read there
abbrev pub level_of : ℕ → ℕ → ℕ → Inner → Inner
level_of total most room inner =
    record {
      expr = expr_of total most inner;
      specs = specs total room inner;
      declarator = declarator total room inner;
      unnamed = unnamed total inner;
      param = param_declarator total room inner;
      type_in_parens = type_in_parens total inner;
    }

-- a declarator without a name that takes no token
abbrev pub nothing_unnamed : Abstract Expr
nothing_unnamed = record { pointers = 0; sizes = [] }

-- where there is no room, only what takes no token is read
abbrev pub no_level : ℕ → Inner
no_level total =
    record {
      expr = λ extent s. Err (too_deep total s);
      specs = λ s. Err (too_deep total s);
      declarator = λ s. Err (too_deep total s);
      unnamed = λ s. Ok (nothing_unnamed, s);
      param = λ s. Ok (Unnamed nothing_unnamed, s);
      type_in_parens = λ s. Err (too_deep total s);
    }

unfoldable pub readers : ℕ → ℕ → ℕ → Inner
readers total most zero = no_level total
readers total most (suc room) = level_of total most room (readers total most room)
