-- Parts that are done one behind the other, and the turns of loops over lists of parts.
use Rattle.std.proofs.Common.{ℕ, ◌≡◌, ◌+◌, ◌<◌, ◌≤◌, refl, sym, ap, ◌∙◌, subst, List, [], ◌∷◌, drop, get_or, length, Option, Some, None, map, arith}
use Rattle.std.proofs.lemmas.List.{drop_more, drop_all}
use Rattle.std.specs.Prelude.{Result, Ok, Err, IfOk}
use Rattle.c_ast.specs.declared.expression.Expr.{Expr}
use Rattle.c_typing.specs.declared.judged.Judged.{Judged}
use Rattle.c_judge.specs.declared.checker.Mode.{Mode}
use Rattle.c_judge.specs.declared.checker.Checker.{Checker}
use Rattle.c_judge.specs.State.{Doing, then_with, Gives}
use Rattle.c_judge.specs.Expressions.{Reading, last_mode, unused}
use Rattle.c_judge.specs.Judging.{expression}

pub then_is : {A B : Type 0} (m : A × Checker) (a : A) (s : Checker) (f : A → Doing B) → m ≡ (a, s) → then_with m f ≡ f a s
unfolding then_with
then_is m a s f is = ap (λ p. f p.0 p.1) is

-- what is given is meant by another name of it
pub gives_as : {A E : Type 0} (r : Result A E) (new : Checker) (meant said : A × Checker) → meant ≡ said → Gives r new said → Gives r new meant
gives_as r new meant said same given = subst (λ m. Gives r new m) (sym same) given

-- what is given behind a part that is done
pub gives_then : {A B E : Type 0} (r : Result B E) (new : Checker) (m : A × Checker) (a : A) (s : Checker) (f : A → Doing B)
    → m ≡ (a, s) → Gives r new (f a s) → Gives r new (then_with m f)
gives_then r new m a s f is given = gives_as r new (then_with m f) (f a s) (then_is m a s f is) given

-- a turn of a loop: what is left does the same
pub turn : {X A R : Type 0} (run : List X → A → Checker → R) (xs : List X) (i : ℕ) (x : X) (a b : A) (s t : Checker) (meant : R)
    → i < length xs → x ≡ get_or xs i x → run (drop i xs) a s ≡ meant → run (x ∷ drop (i + 1) xs) a s ≡ run (drop (i + 1) xs) b t
    → run (drop (i + 1) xs) b t ≡ meant
turn run xs i x a b s t meant within is before step =
    sym step ∙ sym (ap (λ ys. run ys a s) (drop_more xs i x within ∙ ap (λ y. y ∷ drop (i + 1) xs) (sym is))) ∙ before

-- what is made, unless memory runs out, while what is known stays
pub gives_if : {A E : Type 0} (r : Result A E) (new : Checker) (meant : A × Checker) (a : A) → meant ≡ (a, new) → IfOk r (λ x. x ≡ a) → Gives r new meant
gives_if (Ok x) new meant a is made = is ∙ ap (λ y. (y, new)) (sym made)
gives_if (Err e) new meant a is made = tt

-- an expression in its mode
pub judged_in : (e x : Expr) (n m : Mode) (s : Checker) (p : Option Judged × Checker) → x ≡ e → m ≡ n → (expression x).judge m s ≡ p
    → (expression e).judge n s ≡ p
judged_in e x n m s p same mode is = ap (λ y. (expression y).judge n s) (sym same) ∙ ap (λ k. (expression x).judge k s) (sym mode) ∙ is

pub as_read : {E : Type 0} (r : Result (Option Judged) E) (new : Checker) (e : Expr) (what : Reading) (mode : Mode) (s : Checker)
    → expression e ≡ what → Gives r new (what.judge mode s) → Gives r new ((expression e).judge mode s)
as_read r new e what mode s is given = gives_as r new ((expression e).judge mode s) (what.judge mode s) (ap (λ (x : Reading). x.judge mode s) is) given

-- of commas, the last operand's mode
pub at_last : (es : List Expr) (left j : ℕ) (mode : Mode) → left ≡ 0 → left + j ≡ length es → last_mode (map expression (drop j es)) mode ≡ mode
at_last es left j mode none all =
    let end : length es ≤ j = omega (arith, none, all) in
    ap (λ xs. last_mode (map expression xs) mode) (drop_all j es end)

pub before_last : (es : List Expr) (e : Expr) (left j : ℕ) (mode : Mode) → 0 < left → left + j ≡ length es
    → last_mode (map expression (drop j es)) mode ≡ unused mode
before_last es e left j mode some all =
    let within : j < length es = omega (arith, some, all) in
    ap (λ xs. last_mode (map expression xs) mode) (drop_more es j e within)

pub pair_is : {A B : Type 0} (a b : A) (s t : B) → a ≡ b → s ≡ t → ◌≡◌ {A = A × B} (a, s) (b, t)
pair_is a b s t same so = ap (λ x. (x, s)) same ∙ ap (λ y. (b, y)) so

pub then_parts : {A B : Type 0} (m : A × Checker) (f : A → Doing B) → then_with m f ≡ f m.0 m.1
unfolding then_with
then_parts m f = refl

-- what is meant, where something is given
pub gave : {A E : Type 0} (r : Result A E) (new : Checker) (meant : A × Checker) (a : A) → Gives r new meant → r ≡ Ok a → meant ≡ (a, new)
gave r new meant a given is = subst (λ x. Gives x new meant) is given
