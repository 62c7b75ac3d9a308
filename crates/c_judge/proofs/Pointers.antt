-- The pointers of a declarator, taken from the last one on.
use Rattle.std.proofs.Common.{ℕ, ◌≡◌, ◌+◌, ◌-◌, ◌<◌, ◌≤◌, refl, sym, ap, ◌∙◌, List, [], ◌∷◌, ◌++◌, drop, get_or, length, Option, Some, None, map, reverse, arith, subst}
use Rattle.std.proofs.lemmas.List.{drop_more, append_assoc}
use Rattle.std.proofs.lemmas.Grind.{reverse_onto}
use Rattle.std.proofs.lemmas.Option.{get_or_from_slice_get, slice_get-get_or}
use Rattle.std.specs.Prelude.{Bool, slice_get}
use Rattle.c_ast.specs.declared.words.Qualifier.{Qualifier}
use Rattle.c_judge.specs.declared.shapes.Shape.{Shape}
use Rattle.c_judge.specs.declared.shapes.Shape.TheVariants.{Pointer}
use Rattle.c_judge.specs.Judging.{has_const, pointer_shape}

from_last : (start shapes next : List Shape) (ps : List (List Qualifier)) (m : ℕ) (qs : List Qualifier) (is_const : Bool)
    → m < length ps → shapes ≡ start ++ reverse (map pointer_shape (drop (m + 1) ps)) → slice_get ps m ≡ Some qs → is_const ≡ has_const qs
    → next ≡ shapes ++ Pointer is_const ∷ [] → next ≡ start ++ reverse (map pointer_shape (drop m ps))
from_last start shapes next ps m qs is_const within before found const put =
    put
    ∙ ap (λ ss. ss ++ Pointer is_const ∷ []) before
    ∙ append_assoc start (reverse (map pointer_shape (drop (m + 1) ps))) (Pointer is_const ∷ [])
    ∙ ap (λ b. start ++ (reverse (map pointer_shape (drop (m + 1) ps)) ++ Pointer b ∷ [])) const
    ∙ ap (λ ss. start ++ ss) (sym (reverse_onto (map pointer_shape (drop (m + 1) ps)) (pointer_shape qs) []))
    ∙ ap (λ q. start ++ reverse (map pointer_shape (q ∷ drop (m + 1) ps))) (sym (get_or_from_slice_get ps m qs qs found))
    ∙ ap (λ rest. start ++ reverse (map pointer_shape rest)) (sym (drop_more ps m qs within))

pub pointers_turn : (start shapes next : List Shape) (ps : List (List Qualifier)) (n : ℕ) (qs : List Qualifier) (is_const : Bool)
    → 0 < n → n ≤ length ps → shapes ≡ start ++ reverse (map pointer_shape (drop n ps)) → slice_get ps (n - 1) ≡ Some qs → is_const ≡ has_const qs
    → next ≡ shapes ++ Pointer is_const ∷ [] → next ≡ start ++ reverse (map pointer_shape (drop (n - 1) ps))
pointers_turn start shapes next ps n qs is_const some within before found const put =
    let back : n ≡ n - 1 + 1 = omega (arith, some) in
    let inside : n - 1 < length ps = omega (arith, some, within) in
    from_last start shapes next ps (n - 1) qs is_const inside (subst (λ k. shapes ≡ start ++ reverse (map pointer_shape (drop k ps))) back before) found const put

pub no_pointer : {A : Type 0} (ps : List (List Qualifier)) (n : ℕ) → 0 < n → n ≤ length ps → slice_get ps (n - 1) ≡ None → A
no_pointer ps n some within none =
    let inside : n - 1 < length ps = omega (arith, some, within) in
    let h : None ≡ Some (get_or ps (n - 1) []) = sym none ∙ slice_get-get_or ps (n - 1) [] inside in
    absurd (cc (h))
