-- What declarators and specifiers do, part by part.
use Rattle.std.proofs.Common.{ℕ, ◌≡◌, refl, sym, ap, ◌∙◌, List, [], ◌∷◌, Option, map}
use Rattle.std.proofs.Common.{rules, length, drop, ◌≤◌}
use Rattle.std.proofs.lemmas.List.{drop_all}
use Rattle.c_ast.specs.declared.expression.Expr.{Expr}
use Rattle.std.specs.Prelude.{◌&&◌, Bool, false, nat_eq}
use Rattle.c_ast.specs.declared.declaration.Declarator.{Declarator}
use Rattle.c_ast.specs.declared.declaration.DirectSuffix.TheViews.{out-Declarator}
use Rattle.c_types.specs.declared.rooms.Rooms.{Rooms}
use Rattle.c_judge.specs.declared.checker.Checker.{Checker}
use Rattle.c_judge.specs.declared.sight.Sight.{Sight}
use Rattle.c_judge.specs.declared.shapes.Built.{Built}
use Rattle.c_judge.specs.declared.shapes.Shape.{Shape}
use Rattle.c_judge.specs.declared.gathered.Gathered.{Gathered}
use Rattle.c_judge.specs.declared.typing.Standing.{Standing}
use Rattle.c_judge.specs.Gathered.{nothing, built_of}
use Rattle.c_judge.specs.Judging as judging
use Rattle.c_judge.specs.Judging.{Specifying, Declaring, declarator, suffix}
use Rattle.c_judge.specs.Parts.{direct_of, sizes_of}
use Rattle.c_judge.proofs.TypeTrees.{declarator_is}
use Rattle.c_judge.proofs.Turns.{then_is}

pub shape_is : (d : Declarator) (keep : Bool) (made : List Shape) (s : Checker) (inner : List Shape) (s1 : Checker) (behind : List Shape) (s2 : Checker)
    → judging.direct_shape (direct_of (out-Declarator d).direct) keep made s ≡ (inner, s1)
    → judging.suffix_shapes (map suffix (out-Declarator d).suffixes) (keep && judging.is_bare_direct (direct_of (out-Declarator d).direct)) inner s1 ≡ (behind, s2)
    → (declarator d).shape keep made s ≡ (judging.with_pointers behind (out-Declarator d).pointers, s2)
shape_is d keep made s inner s1 behind s2 direct suffixes =
    ap (λ (x : Declaring). x.shape keep made s) (declarator_is d)
    ∙ then_is _ behind s2 (judging.put_pointers (out-Declarator d).pointers)
    (then_is _ inner s1 (judging.suffix_shapes (map suffix (out-Declarator d).suffixes) (keep && judging.is_bare_direct (direct_of (out-Declarator d).direct))) direct ∙ suffixes)

pub specify_is : (fs : List Specifying) (at : Standing) (s : Checker) (g : Gathered) (s1 : Checker) (b : Option Built)
    → judging.specify_all fs at nothing s ≡ (g, s1) → b ≡ built_of g → judging.specify fs at s ≡ (b, s1)
specify_is fs at s g s1 b is built = then_is _ g s1 (λ h t. (built_of h, t)) is ∙ ap (λ x. (x, s1)) (sym built)

abbrev pub standing : ℕ → Standing
standing place = record { place = place; is_alone = false }

abbrev pub sees : Checker → Sight → Checker
sees s g = record s { sight = g }

abbrev pub left_with : Checker → Sight → Rooms → Checker
left_with s g r = record s { sight = g; rooms = r }

pub nothing_is : (xs : List Shape) → judging.is_nothing xs ≡ nat_eq (length xs) 0
nothing_is [] = refl
nothing_is (x ∷ xs) = search (rules)

-- at the end of a loop over sizes
pub sizes_end : (items : List (Option Expr)) (i : ℕ) (shapes : List Shape) (s : Checker) (meant : List Shape × Checker)
    → length items ≤ i → judging.sizes_shape (sizes_of (drop i items)) shapes s ≡ meant → meant ≡ (shapes, s)
sizes_end items i shapes s meant end before =
    sym before ∙ ap (λ (es : List (Option Expr)). judging.sizes_shape (sizes_of es) shapes s) (drop_all i items end)
