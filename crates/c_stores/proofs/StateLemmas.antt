-- One part, and what is behind it.
use Rattle.std.proofs.Common.{◌≡◌, ◌∙◌, sym, ap, subst, Result}
use Rattle.c_judge.specs.declared.checker.Checker.{Checker}
use Rattle.c_judge.specs.State.{Doing, Gives, then_with}

pub gives_then : {A B E : Type 0} (r : Result B E) (new : Checker) (m : A × Checker) (a : A) (s : Checker) (f : A → Doing B)
    → m ≡ (a, s) → Gives r new (f a s) → Gives r new (then_with m f)
unfolding then_with
gives_then r new m a s f is h = subst (λ x. Gives r new (f x.0 x.1)) (sym is) h

pub then_is : {A B : Type 0} (m : A × Checker) (a : A) (s : Checker) (f : A → Doing B) → m ≡ (a, s) → then_with m f ≡ f a s
unfolding then_with
then_is m a s f is = ap (λ x. f x.0 x.1) is

pub then_gives : {A B : Type 0} (m : A × Checker) (a : A) (s : Checker) (f : A → Doing B) (b : B) (new : Checker)
    → m ≡ (a, s) → b ≡ (f a s).0 → new ≡ (f a s).1 → then_with m f ≡ (b, new)
then_gives m a s f b new is value state =
    then_is m a s f is ∙ sym (ap (λ x. (x, new)) value ∙ ap (λ y. ((f a s).0, y)) state)
