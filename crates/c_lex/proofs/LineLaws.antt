-- A `//` comment is read to the first end of a line that isn't joined.
use Rattle.std.proofs.Common.{◌≡◌, ◌≢◌, ℕ, ◌⊎◌, ◌&&◌, Bool, true, false, cond, eqb, List, [], ◌∷◌, ◌++◌, refl, sym, ap, subst, ◌∙◌, arith, inl, inr}
use Rattle.std.proofs.lemmas.Bool.{eqb-true, and_parts}
use Rattle.std.proofs.lemmas.Bool.Decides.{nat_tests}
use Rattle.c_lex.specs.Blanks.{Joins, IsInOneLine, IsLineEnd}
use Rattle.c_lex.specs.Reading.{from_line_end}

-- Behind these bytes the line ends.
pub record EndsAt (t r : List ℕ) : Type 0 where
  pub body : List ℕ
  pub text_is : t ≡ body ++ r
  pub one : IsInOneLine body
  pub ends : IsLineEnd r
  pub unjoined : r ≢ [] → Joins body → ⊥

-- a backslash before a line's end
abbrev pub JoinsHere : ℕ → List ℕ → Type 0
JoinsHere a t = (a ≡ 92) × (((more : List ℕ) × (t ≡ 10 ∷ more)) ⊎ ((more : List ℕ) × (t ≡ 13 ∷ 10 ∷ more)))

joins_more : (a : ℕ) (front : List ℕ) → Joins front → Joins (a ∷ front)
joins_more a front (inl (f, e)) = inl (a ∷ f, ap (λ (x : List ℕ). a ∷ x) e)
joins_more a front (inr (f, e)) = inr (a ∷ f, ap (λ (x : List ℕ). a ∷ x) e)

one_byte : (a : ℕ) (body : List ℕ) → a ≢ 10 → IsInOneLine body → IsInOneLine (a ∷ body)
one_byte a body differ one [] back = λ e. let f : a ≡ 10 = cc in absurd (differ f)
one_byte a body differ one (x ∷ xs) back = λ e. let f : body ≡ xs ++ 10 ∷ back = cc in joins_more x xs (one xs back f)

open_byte : (a : ℕ) (t body r : List ℕ) → (JoinsHere a t → ⊥) → t ≡ body ++ r → IsLineEnd r → (r ≢ [] → Joins body → ⊥)
    → r ≢ [] → Joins (a ∷ body) → ⊥
open_byte a t body r differ is (inl nothing) unjoined some j = some nothing
open_byte a t body r differ is (inr (more, e)) unjoined some (inl ([], f)) = differ (cc, inl (more, cc))
open_byte a t body r differ is (inr (more, e)) unjoined some (inl (x ∷ xs, f)) = unjoined some (inl (xs, cc))
open_byte a t body r differ is (inr (more, e)) unjoined some (inr ([], f)) = differ (cc, inr (more, cc))
open_byte a t body r differ is (inr (more, e)) unjoined some (inr (x ∷ xs, f)) = unjoined some (inr (xs, cc))

pub behind_byte : (a : ℕ) (t r : List ℕ) → a ≢ 10 → (JoinsHere a t → ⊥) → EndsAt t r → EndsAt (a ∷ t) r
behind_byte a t r differ apart s = record {
  body = a ∷ s.body;
  text_is = ap (λ (x : List ℕ). a ∷ x) s.text_is;
  one = one_byte a s.body differ s.one;
  ends = s.ends;
  unjoined = open_byte a t s.body r apart s.text_is s.ends s.unjoined;
}

one_joined : (body : List ℕ) → IsInOneLine body → IsInOneLine (92 ∷ 10 ∷ body)
one_joined body one [] back = λ e. absurd cc
one_joined body one (x ∷ []) back = λ e. inl ([], cc)
one_joined body one (x ∷ y ∷ ys) back = λ e. joins_more x (y ∷ ys) (joins_more y ys (one ys back cc))

open_joined : (body : List ℕ) → Joins (92 ∷ 10 ∷ body) → Joins body
open_joined body (inl ([], e)) = absurd cc
open_joined body (inl (x ∷ [], e)) = absurd cc
open_joined body (inl (x ∷ y ∷ ys, e)) = inl (ys, cc)
open_joined body (inr ([], e)) = absurd cc
open_joined body (inr (x ∷ [], e)) = absurd cc
open_joined body (inr (x ∷ y ∷ ys, e)) = inr (ys, cc)

pub behind_joined : (t r : List ℕ) → EndsAt t r → EndsAt (92 ∷ 10 ∷ t) r
behind_joined t r s = record {
  body = 92 ∷ 10 ∷ s.body;
  text_is = ap (λ (x : List ℕ). 92 ∷ 10 ∷ x) s.text_is;
  one = one_joined s.body s.one;
  ends = s.ends;
  unjoined = λ some j. s.unjoined some (open_joined s.body j);
}

one_joined_cr : (body : List ℕ) → IsInOneLine body → IsInOneLine (92 ∷ 13 ∷ 10 ∷ body)
one_joined_cr body one [] back = λ e. absurd cc
one_joined_cr body one (x ∷ []) back = λ e. absurd cc
one_joined_cr body one (x ∷ y ∷ []) back = λ e. inr ([], cc)
one_joined_cr body one (x ∷ y ∷ z ∷ zs) back = λ e. joins_more x (y ∷ z ∷ zs) (joins_more y (z ∷ zs) (joins_more z zs (one zs back cc)))

open_joined_cr : (body : List ℕ) → Joins (92 ∷ 13 ∷ 10 ∷ body) → Joins body
open_joined_cr body (inl ([], e)) = absurd cc
open_joined_cr body (inl (x ∷ [], e)) = absurd cc
open_joined_cr body (inl (x ∷ y ∷ [], e)) = absurd cc
open_joined_cr body (inl (x ∷ y ∷ z ∷ zs, e)) = inl (zs, cc)
open_joined_cr body (inr ([], e)) = absurd cc
open_joined_cr body (inr (x ∷ [], e)) = absurd cc
open_joined_cr body (inr (x ∷ y ∷ [], e)) = absurd cc
open_joined_cr body (inr (x ∷ y ∷ z ∷ zs, e)) = inr (zs, cc)

pub behind_joined_cr : (t r : List ℕ) → EndsAt t r → EndsAt (92 ∷ 13 ∷ 10 ∷ t) r
behind_joined_cr t r s = record {
  body = 92 ∷ 13 ∷ 10 ∷ s.body;
  text_is = ap (λ (x : List ℕ). 92 ∷ 13 ∷ 10 ∷ x) s.text_is;
  one = one_joined_cr s.body s.one;
  ends = s.ends;
  unjoined = λ some j. s.unjoined some (open_joined_cr s.body j);
}

nothing_joins : Joins [] → ⊥
nothing_joins (inl ([], e)) = absurd cc
nothing_joins (inl (x ∷ xs, e)) = absurd cc
nothing_joins (inr ([], e)) = absurd cc
nothing_joins (inr (x ∷ xs, e)) = absurd cc

nothing_in : IsInOneLine []
nothing_in [] back = λ e. absurd cc
nothing_in (x ∷ xs) back = λ e. absurd cc

pub at_end : EndsAt [] []
at_end = record { body = []; text_is = refl; one = nothing_in; ends = inl refl; unjoined = λ some j. some refl }

pub at_feed : (t : List ℕ) → EndsAt (10 ∷ t) (10 ∷ t)
at_feed t = record { body = []; text_is = refl; one = nothing_in; ends = inr (t, refl); unjoined = λ some j. nothing_joins j }

-- ---- as it is read

apart : (a b : ℕ) (x y : ℕ) → (eqb a x && eqb b y) ≡ false → a ≡ x → b ≡ y → ⊥
apart a b x y e f g = clash (sym e ∙ both)
  where
    both : (eqb a x && eqb b y) ≡ true
    both = grind (arith, nat_tests)

    clash : false ≡ true → ⊥
    clash h = cc

apart_three : (a b c : ℕ) → (eqb a 92 && (eqb b 13 && eqb c 10)) ≡ false → a ≡ 92 → b ≡ 13 → c ≡ 10 → ⊥
apart_three a b c e f g h = clash (sym e ∙ all)
  where
    all : (eqb a 92 && (eqb b 13 && eqb c 10)) ≡ true
    all = grind (arith, nat_tests)

    clash : false ≡ true → ⊥
    clash i = cc

other_byte : (a : ℕ) → eqb a 10 ≡ false → a ≢ 10
other_byte a e = λ f. clash (sym e ∙ ap (λ x. eqb x 10) f)
  where
    clash : false ≡ true → ⊥
    clash h = cc

feed_first : (a : ℕ) (t : List ℕ) → a ≡ 10 → EndsAt (a ∷ t) (a ∷ t)
feed_first a t e = let P : ℕ → Type 0 = λ x. EndsAt (x ∷ t) (x ∷ t) in subst P (sym e) (at_feed t)

joined_first : (a b : ℕ) (t r : List ℕ) → a ≡ 92 → b ≡ 10 → EndsAt t r → EndsAt (a ∷ b ∷ t) r
joined_first a b t r e f s =
    let P : List ℕ → Type 0 = λ x. EndsAt x r in
    let same : 92 ∷ 10 ∷ t ≡ a ∷ b ∷ t = cc in
    subst P same (behind_joined t r s)

joined_cr_first : (a b c : ℕ) (t r : List ℕ) → a ≡ 92 → b ≡ 13 → c ≡ 10 → EndsAt t r → EndsAt (a ∷ b ∷ c ∷ t) r
joined_cr_first a b c t r e f g s =
    let P : List ℕ → Type 0 = λ x. EndsAt x r in
    let same : 92 ∷ 13 ∷ 10 ∷ t ≡ a ∷ b ∷ c ∷ t = cc in
    subst P same (behind_joined_cr t r s)

not_here : (a b c : ℕ) (bs : List ℕ) → (eqb a 92 && eqb b 10) ≡ false → (eqb a 92 && (eqb b 13 && eqb c 10)) ≡ false
    → JoinsHere a (b ∷ c ∷ bs) → ⊥
not_here a b c bs e f (is, inl (more, g)) = let h : b ≡ 10 = cc in apart a b 92 10 e is h
not_here a b c bs e f (is, inr (more, g)) =
    let h : b ≡ 13 = cc in
    let i : c ≡ 10 = cc in
    apart_three a b c f is h i

not_here_two : (a b : ℕ) → (eqb a 92 && eqb b 10) ≡ false → JoinsHere a (b ∷ []) → ⊥
not_here_two a b e (is, inl (more, g)) = let h : b ≡ 10 = cc in apart a b 92 10 e is h
not_here_two a b e (is, inr (more, g)) = absurd cc

not_here_one : (a : ℕ) → JoinsHere a [] → ⊥
not_here_one a (is, inl (more, g)) = absurd cc
not_here_one a (is, inr (more, g)) = absurd cc

step : (a b c : ℕ) (bs : List ℕ) (feed joins joins_cr : Bool) → eqb a 10 ≡ feed → (eqb a 92 && eqb b 10) ≡ joins
    → (eqb a 92 && (eqb b 13 && eqb c 10)) ≡ joins_cr → (x y z : List ℕ)
    → EndsAt (c ∷ bs) x → EndsAt bs y → EndsAt (b ∷ c ∷ bs) z
    → EndsAt (a ∷ b ∷ c ∷ bs) (cond feed (a ∷ b ∷ c ∷ bs) (cond joins x (cond joins_cr y z)))
step a b c bs true joins joins_cr e f g x y z s t u = feed_first a (b ∷ c ∷ bs) (eqb-true a 10 e)
step a b c bs false true joins_cr e f g x y z s t u =
    let both = and_parts (eqb a 92) (eqb b 10) f in
    joined_first a b (c ∷ bs) x (eqb-true a 92 both.0) (eqb-true b 10 both.1) s
step a b c bs false false true e f g x y z s t u =
    let both = and_parts (eqb a 92) (eqb b 13 && eqb c 10) g in
    let two = and_parts (eqb b 13) (eqb c 10) both.1 in
    joined_cr_first a b c bs y (eqb-true a 92 both.0) (eqb-true b 13 two.0) (eqb-true c 10 two.1) t
step a b c bs false false false e f g x y z s t u = behind_byte a (b ∷ c ∷ bs) z (other_byte a e) (not_here a b c bs f g) u

step_two : (a b : ℕ) (feed joins : Bool) → eqb a 10 ≡ feed → (eqb a 92 && eqb b 10) ≡ joins → (z : List ℕ) → EndsAt (b ∷ []) z
    → EndsAt (a ∷ b ∷ []) (cond feed (a ∷ b ∷ []) (cond joins [] z))
step_two a b true joins e f z u = feed_first a (b ∷ []) (eqb-true a 10 e)
step_two a b false true e f z u =
    let both = and_parts (eqb a 92) (eqb b 10) f in
    joined_first a b [] [] (eqb-true a 92 both.0) (eqb-true b 10 both.1) at_end
step_two a b false false e f z u = behind_byte a (b ∷ []) z (other_byte a e) (not_here_two a b f) u

step_one : (a : ℕ) (feed : Bool) → eqb a 10 ≡ feed → EndsAt (a ∷ []) (cond feed (a ∷ []) [])
step_one a true e = feed_first a [] (eqb-true a 10 e)
step_one a false e = behind_byte a [] [] (other_byte a e) (not_here_one a) at_end

pub from_line_end-sound : (t : List ℕ) → EndsAt t (from_line_end t)
unfolding from_line_end
from_line_end-sound [] = at_end
from_line_end-sound (a ∷ []) = step_one a (eqb a 10) refl
from_line_end-sound (a ∷ b ∷ []) =
    step_two a b (eqb a 10) (eqb a 92 && eqb b 10) refl refl (from_line_end (b ∷ [])) (from_line_end-sound (b ∷ []))
from_line_end-sound (a ∷ b ∷ c ∷ bs) =
    step a b c bs (eqb a 10) (eqb a 92 && eqb b 10) (eqb a 92 && (eqb b 13 && eqb c 10)) refl refl refl
    (from_line_end (c ∷ bs)) (from_line_end bs) (from_line_end (b ∷ c ∷ bs))
    (from_line_end-sound (c ∷ bs)) (from_line_end-sound bs) (from_line_end-sound (b ∷ c ∷ bs))
