-- What each initialiser is by what its parts are.
use Rattle.std.proofs.Common.{ℕ, ◌≡◌, sym, ap, ◌∙◌, List, map}
use Rattle.c_ast.specs.declared.expression.Expr.{Expr}
use Rattle.c_ast.specs.declared.declaration.Init.{Init, fold-Init}
use Rattle.c_ast.specs.declared.declaration.Init.TheVariants as init
use Rattle.c_ast.specs.declared.declaration.Init.TheOpen.{Init-F}
use Rattle.c_ast.specs.declared.declaration.Init.TheFolds.{fold-roll-Init}
use Rattle.c_stores.specs.Lists.{Initialising, init_step, initialising}

pub value_is : (whole : Init) (e : Expr) → whole ≡ init.Value e → initialising whole ≡ init_step (Init-F.Value e)
unfolding initialising
value_is whole e is =
    ap initialising is
    ∙ ap (fold-Init Initialising init_step) (sym (init.rolls-Value e))
    ∙ fold-roll-Init Initialising init_step (Init-F.Value e)

pub list_is : (whole : Init) (token : ℕ) (is : List Init) → whole ≡ init.List token is
    → initialising whole ≡ init_step (Init-F.List token (map initialising is))
unfolding initialising
list_is whole token items is =
    ap initialising is
    ∙ ap (fold-Init Initialising init_step) (sym (init.rolls-List token items))
    ∙ fold-roll-Init Initialising init_step (Init-F.List token items)
