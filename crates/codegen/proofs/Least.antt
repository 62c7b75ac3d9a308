-- What is found is the first token at which too many values are pending.
use Rattle.std.proofs.Common.{◌≡◌, ◌⊎◌, inl, inr, ℕ, zero, suc, ◌<◌, ◌≤◌, Bool, true, false, List, [], ◌∷◌, length, get_or, refl, sym, ◌∙◌, subst, arith}
use Rattle.std.specs.Prelude.{Option, None, Some, if◌then◌else◌, nat_lt, nat_le, nat_eq, ◌&&◌, ◌||◌}
use Rattle.std.specs.List.{flat_map, Contains}
use Rattle.std.proofs.lemmas.Bool.Decides.{nat_tests}
use Rattle.c_types.specs.declared.program.Program.{Program}
use Rattle.c_types.specs.declared.program.Function.{Function}
use Rattle.c_types.specs.declared.program.Body.{Body}
use Rattle.c_types.specs.declared.program.TokenAt.{TokenAt}
use Rattle.c_types.specs.Need.{Pending, pending_limit, pending_of, IsPastLimit}
use Rattle.c_types.specs.Places.{IsNotBehind}
use Rattle.codegen.specs.Checking.{not_behind, first_of, found_with, found_in, found_in_body, found_in_all}

-- the first token of a set, if there is one
abbrev pub First : (TokenAt → Type 0) → Option TokenAt → Type 0
First P None = (b : TokenAt) → P b → ⊥
First P (Some a) = P a × ((b : TokenAt) → P b → IsNotBehind a b)

first_same : (P Q : TokenAt → Type 0) (f : Option TokenAt) → ((b : TokenAt) → P b → Q b) → ((b : TokenAt) → Q b → P b) → First P f → First Q f
first_same P Q None to from h = λ b q. h b (from b q)
first_same P Q (Some a) to from h = (to a h.0, λ b q. h.1 b (from b q))

-- ---- the order of tokens

order_true : (u v x y : ℕ) → (nat_lt u v || (nat_eq u v && nat_le x y)) ≡ true → (u < v) ⊎ ((u ≡ v) × (x ≤ y))
order_true u v x y e = grind (arith, nat_tests)

order_false : (u v x y : ℕ) → (nat_lt u v || (nat_eq u v && nat_le x y)) ≡ false → (v < u) ⊎ ((v ≡ u) × (y ≤ x))
order_false u v x y e = grind (arith, nat_tests)

not_behind_self : (a : TokenAt) → IsNotBehind a a
not_behind_self a = inr (refl, omega arith)

not_behind_then : (a b c : TokenAt) → IsNotBehind a b → IsNotBehind b c → IsNotBehind a c
not_behind_then a b c (inl x) (inl y) = inl (omega (arith, x, y))
not_behind_then a b c (inl x) (inr y) = let e = y.0 in inl (omega (arith, x, e))
not_behind_then a b c (inr x) (inl y) = let e = x.0 in inl (omega (arith, e, y))
not_behind_then a b c (inr x) (inr y) = let e = x.1 in let f = y.1 in inr (x.0 ∙ y.0, omega (arith, e, f))

-- ---- one token more

-- the set with one token more
abbrev Or : (TokenAt → Type 0) → TokenAt → TokenAt → Type 0
Or P at b = P b ⊎ (b ≡ at)

at_is : (at b : TokenAt) → b ≡ at → IsNotBehind at b
at_is at b e = subst (IsNotBehind at) (sym e) (not_behind_self at)

choose : (P : TokenAt → Type 0) (a at : TokenAt) (r : Bool) → not_behind a at ≡ r → First P (Some a) → First (Or P at) (if r then Some a else Some at)
choose P a at true is h = (inl h.0, λ b e. less b e)
  where
    less : (b : TokenAt) → Or P at b → IsNotBehind a b
    less b (inl p) = h.1 b p
    less b (inr e) = not_behind_then a at b (order_true a.unit at.unit a.token at.token is) (at_is at b e)
choose P a at false is h = (inr refl, λ b e. less b e)
  where
    less : (b : TokenAt) → Or P at b → IsNotBehind at b
    less b (inl p) = not_behind_then at a b (order_false a.unit at.unit a.token at.token is) (h.1 b p)
    less b (inr e) = at_is at b e

none_less : (P : TokenAt → Type 0) (at : TokenAt) → ((b : TokenAt) → P b → ⊥) → (b : TokenAt) → Or P at b → IsNotBehind at b
none_less P at h b (inl p) = absurd (h b p)
none_less P at h b (inr e) = at_is at b e

first_step : (P : TokenAt → Type 0) (f : Option TokenAt) (at : TokenAt) → First P f → First (Or P at) (first_of f at)
first_step P None at h = (inr refl, λ b e. none_less P at h b e)
first_step P (Some a) at h = choose P a at (not_behind a at) refl h

-- ---- full expressions

abbrev at_of : ℕ → Pending → TokenAt
at_of unit p = record { unit = unit; token = p.token }

abbrev Past : ℕ → Pending → TokenAt → Type 0
Past unit p b = (pending_limit < p.need) × (b ≡ at_of unit p)

abbrev PastIn : ℕ → List Pending → TokenAt → Type 0
PastIn unit [] b = ⊥
PastIn unit (p ∷ ps) b = Past unit p b ⊎ PastIn unit ps b

limit_true : (n : ℕ) → nat_lt pending_limit n ≡ true → pending_limit < n
limit_true n e = grind (arith, nat_tests)

limit_false : (n : ℕ) → nat_lt pending_limit n ≡ false → pending_limit < n → ⊥
limit_false n e lt = grind (arith, nat_tests)

one_more : (P : TokenAt → Type 0) (unit : ℕ) (p : Pending) (f : Option TokenAt) (r : Bool) → nat_lt pending_limit p.need ≡ r → First P f
    → First (λ b. P b ⊎ Past unit p b) (if r then first_of f (at_of unit p) else f)
one_more P unit p f true is h =
    first_same (Or P (at_of unit p)) (λ b. P b ⊎ Past unit p b) (first_of f (at_of unit p)) (λ b e. to b e) (λ b e. from b e) (first_step P f (at_of unit p) h)
  where
    to : (b : TokenAt) → Or P (at_of unit p) b → P b ⊎ Past unit p b
    to b (inl q) = inl q
    to b (inr e) = inr (limit_true p.need is, e)

    from : (b : TokenAt) → P b ⊎ Past unit p b → Or P (at_of unit p) b
    from b (inl q) = inl q
    from b (inr e) = inr e.1
one_more P unit p f false is h = first_same P (λ b. P b ⊎ Past unit p b) f (λ b q. inl q) (λ b e. from b e) h
  where
    from : (b : TokenAt) → P b ⊎ Past unit p b → P b
    from b (inl q) = q
    from b (inr e) = absurd (limit_false p.need is e.0)

found_first : (P : TokenAt → Type 0) (unit : ℕ) (f : Option TokenAt) (ps : List Pending) → First P f → First (λ b. P b ⊎ PastIn unit ps b) (found_in unit f ps)
found_first P unit f [] h = first_same P (λ b. P b ⊎ PastIn unit [] b) f (λ b q. inl q) (λ b e. from b e) h
  where
    from : (b : TokenAt) → P b ⊎ PastIn unit [] b → P b
    from b (inl q) = q
    from b (inr e) = absurd e
found_first P unit f (p ∷ ps) h =
    first_same (λ b. (P b ⊎ Past unit p b) ⊎ PastIn unit ps b) (λ b. P b ⊎ PastIn unit (p ∷ ps) b) (found_in unit (found_with unit f p) ps) (λ b e. to b e) (λ b e. from b e)
    (found_first (λ b. P b ⊎ Past unit p b) unit (found_with unit f p) ps (one_more P unit p f (nat_lt pending_limit p.need) refl h))
  where
    to : (b : TokenAt) → (P b ⊎ Past unit p b) ⊎ PastIn unit ps b → P b ⊎ PastIn unit (p ∷ ps) b
    to b (inl (inl q)) = inl q
    to b (inl (inr e)) = inr (inl e)
    to b (inr e) = inr (inr e)

    from : (b : TokenAt) → P b ⊎ PastIn unit (p ∷ ps) b → (P b ⊎ Past unit p b) ⊎ PastIn unit ps b
    from b (inl q) = inl (inl q)
    from b (inr (inl e)) = inl (inr e)
    from b (inr (inr e)) = inr e

-- ---- functions

abbrev PastBody : Option Body → TokenAt → Type 0
PastBody None b = ⊥
PastBody (Some body) b = PastIn body.unit (flat_map pending_of body.stmts) b

abbrev PastAll : List Function → TokenAt → Type 0
PastAll [] b = ⊥
PastAll (f ∷ fs) b = PastBody f.body b ⊎ PastAll fs b

body_first : (P : TokenAt → Type 0) (f : Option TokenAt) (o : Option Body) → First P f → First (λ b. P b ⊎ PastBody o b) (found_in_body f o)
body_first P f None h = first_same P (λ b. P b ⊎ PastBody None b) f (λ b q. inl q) (λ b e. from b e) h
  where
    from : (b : TokenAt) → P b ⊎ PastBody None b → P b
    from b (inl q) = q
    from b (inr e) = absurd e
body_first P f (Some body) h = found_first P body.unit f (flat_map pending_of body.stmts) h

all_first : (P : TokenAt → Type 0) (f : Option TokenAt) (fs : List Function) → First P f → First (λ b. P b ⊎ PastAll fs b) (found_in_all f fs)
all_first P f [] h = first_same P (λ b. P b ⊎ PastAll [] b) f (λ b q. inl q) (λ b e. from b e) h
  where
    from : (b : TokenAt) → P b ⊎ PastAll [] b → P b
    from b (inl q) = q
    from b (inr e) = absurd e
all_first P f (g ∷ fs) h =
    first_same (λ b. (P b ⊎ PastBody g.body b) ⊎ PastAll fs b) (λ b. P b ⊎ PastAll (g ∷ fs) b) (found_in_all (found_in_body f g.body) fs) (λ b e. to b e) (λ b e. from b e)
    (all_first (λ b. P b ⊎ PastBody g.body b) (found_in_body f g.body) fs (body_first P f g.body h))
  where
    to : (b : TokenAt) → (P b ⊎ PastBody g.body b) ⊎ PastAll fs b → P b ⊎ PastAll (g ∷ fs) b
    to b (inl (inl q)) = inl q
    to b (inl (inr e)) = inr (inl e)
    to b (inr e) = inr (inr e)

    from : (b : TokenAt) → P b ⊎ PastAll (g ∷ fs) b → (P b ⊎ PastBody g.body b) ⊎ PastAll fs b
    from b (inl q) = inl (inl q)
    from b (inr (inl e)) = inl (inr e)
    from b (inr (inr e)) = inr e

-- ---- the program

further : {A : Type 0} (x : A) (xs : List A) (y : A) → Contains xs y → Contains (x ∷ xs) y
further x xs y c = (suc c.0, let lt = c.1 in omega (arith, lt), c.2)

in_list : (unit : ℕ) (ps : List Pending) (b : TokenAt) → PastIn unit ps b → (p : Pending) × Contains ps p × Past unit p b
in_list unit [] b e = absurd e
in_list unit (p ∷ ps) b (inl e) = (p, (0, omega arith, refl), e)
in_list unit (p ∷ ps) b (inr e) = let r = in_list unit ps b e in (r.0, further p ps r.0 r.1, r.2)

from_list : (unit : ℕ) (ps : List Pending) (b : TokenAt) (p : Pending) (k : ℕ) → k < length ps → get_or ps k p ≡ p → Past unit p b → PastIn unit ps b
from_list unit [] b p k lt is e = absurd (omega (arith, lt))
from_list unit (q ∷ ps) b p zero lt is e = inl (subst (λ r. Past unit r b) (sym is) e)
from_list unit (q ∷ ps) b p (suc k) lt is e = inr (from_list unit ps b p k (omega (arith, lt)) is e)

in_functions : (fs : List Function) (b : TokenAt) → PastAll fs b → (f : Function) × Contains fs f × PastBody f.body b
in_functions [] b e = absurd e
in_functions (f ∷ fs) b (inl e) = (f, (0, omega arith, refl), e)
in_functions (f ∷ fs) b (inr e) = let r = in_functions fs b e in (r.0, further f fs r.0 r.1, r.2)

from_functions : (fs : List Function) (b : TokenAt) (f : Function) (k : ℕ) → k < length fs → get_or fs k f ≡ f → PastBody f.body b → PastAll fs b
from_functions [] b f k lt is e = absurd (omega (arith, lt))
from_functions (g ∷ fs) b f zero lt is e = inl (subst (λ h. PastBody h.body b) (sym is) e)
from_functions (g ∷ fs) b f (suc k) lt is e = inr (from_functions fs b f k (omega (arith, lt)) is e)

in_body : (program : Program) (b : TokenAt) (f : Function) (o : Option Body) → Contains program.functions f → f.body ≡ o → PastBody o b → IsPastLimit program b
in_body program b f None c is e = absurd e
in_body program b f (Some body) c is e =
    let r = in_list body.unit (flat_map pending_of body.stmts) b e in
    record { function = f; body = body; expr = r.0; in_program = c; body_is = is; in_body = r.1; past = r.2.0; at_is = r.2.1 }

in_program : (program : Program) (b : TokenAt) → PastAll program.functions b → IsPastLimit program b
in_program program b e = let r = in_functions program.functions b e in in_body program b r.0 r.0.body r.1 refl r.2

from_program : (program : Program) (b : TokenAt) → IsPastLimit program b → PastAll program.functions b
from_program program b p =
    let here : PastIn p.body.unit (flat_map pending_of p.body.stmts) b =
    from_list p.body.unit (flat_map pending_of p.body.stmts) b p.expr p.in_body.0 p.in_body.1 p.in_body.2 (p.past, p.at_is) in
    from_functions program.functions b p.function p.in_program.0 p.in_program.1 p.in_program.2 (subst (λ o. PastBody o b) (sym p.body_is) here)

-- what is found in all functions is the first token at which too many values are pending
pub found_is_first : (program : Program) (f : Option TokenAt) → f ≡ found_in_all None program.functions → First (IsPastLimit program) f
found_is_first program f is =
    subst (First (IsPastLimit program)) (sym is)
    (first_same (λ b. ⊥ ⊎ PastAll program.functions b) (IsPastLimit program) (found_in_all None program.functions) (λ b e. to b e) (λ b p. inr (from_program program b p))
    (all_first (λ b. ⊥) None program.functions (λ b e. e)))
  where
    to : (b : TokenAt) → ⊥ ⊎ PastAll program.functions b → IsPastLimit program b
    to b (inl e) = absurd e
    to b (inr e) = in_program program b e
