-- Blanks, joined lines and comments, from their definition and as they are read.
use Rattle.std.proofs.Common.{◌≡◌, ℕ, ◌<◌, ◌&&◌, Bool, true, false, cond, eqb, List, [], ◌∷◌, length, Option, Some, None, refl, arith}
use Rattle.std.proofs.lemmas.Bool.Decides.{nat_tests}
use Rattle.c_lex.specs.Reading.{after_star_slash, after_close, in_line, from_line_end}

-- ---- to the close of a comment

pub after_close-ends : (t r : List ℕ) → after_star_slash t ≡ Some r → after_close t ≡ Some r
unfolding after_star_slash after_close
after_close-ends [] r e = absurd cc
after_close-ends (a ∷ []) r e = absurd cc
after_close-ends (a ∷ b ∷ bs) r e = chosen (eqb a 42 && eqb b 47) bs r (after_close (b ∷ bs)) e
  where
    chosen : (c : Bool) (x r : List ℕ) (other : Option (List ℕ)) → cond c (Some x) None ≡ Some r → cond c (Some x) other ≡ Some r
    chosen true x r other e = e
    chosen false x r other e = absurd cc

pub after_close-goes_on : (a : ℕ) (t : List ℕ) → after_star_slash (a ∷ t) ≡ None → after_close (a ∷ t) ≡ after_close t
unfolding after_star_slash after_close
after_close-goes_on a [] e = refl
after_close-goes_on a (b ∷ bs) e = chosen (eqb a 42 && eqb b 47) bs (after_close (b ∷ bs)) e
  where
    chosen : (c : Bool) (x : List ℕ) (other : Option (List ℕ)) → cond c (Some x) None ≡ None → cond c (Some x) other ≡ other
    chosen true x other e = absurd cc
    chosen false x other e = refl

pub after_close-nothing : (t : List ℕ) → length t ≡ 0 → after_close t ≡ None
unfolding after_close
after_close-nothing [] e = refl
after_close-nothing (a ∷ t) e = absurd (omega (arith, e))

-- ---- to the end of a line

pub in_line-shorter : (t r : List ℕ) → in_line t ≡ Some r → length r < length t
unfolding in_line
in_line-shorter [] r e = absurd cc
in_line-shorter (a ∷ []) r e = grind (arith, nat_tests)
in_line-shorter (a ∷ b ∷ []) r e = grind (arith, nat_tests)
in_line-shorter (a ∷ b ∷ c ∷ bs) r e = grind (arith, nat_tests)

-- the choice of a step, and the same choice of what stands behind it
choice : (feed slash feed_behind return : Bool) (r1 r2 r3 r whole : List ℕ) (f : List ℕ → List ℕ)
    → cond feed None (cond (slash && feed_behind) (Some r1) (cond (slash && return) (Some r2) (Some r3))) ≡ Some r
    → cond feed whole (cond (slash && feed_behind) (f r1) (cond (slash && return) (f r2) (f r3))) ≡ f r
choice true slash feed_behind return r1 r2 r3 r whole f e = absurd cc
choice false true true return r1 r2 r3 r whole f e = cc
choice false true false true r1 r2 r3 r whole f e = cc
choice false true false false r1 r2 r3 r whole f e = cc
choice false false feed_behind return r1 r2 r3 r whole f e = cc

choice_of_two : (feed joins : Bool) (r1 r3 r whole : List ℕ) (f : List ℕ → List ℕ)
    → cond feed None (cond joins (Some r1) (Some r3)) ≡ Some r → cond feed whole (cond joins (f r1) (f r3)) ≡ f r
choice_of_two true joins r1 r3 r whole f e = absurd cc
choice_of_two false true r1 r3 r whole f e = cc
choice_of_two false false r1 r3 r whole f e = cc

choice_of_one : (feed : Bool) (r1 r whole : List ℕ) (f : List ℕ → List ℕ)
    → cond feed None (Some r1) ≡ Some r → cond feed whole (f r1) ≡ f r
choice_of_one true r1 r whole f e = absurd cc
choice_of_one false r1 r whole f e = cc

pub from_line_end-more : (t r : List ℕ) → in_line t ≡ Some r → from_line_end t ≡ from_line_end r
unfolding in_line from_line_end
from_line_end-more [] r e = absurd cc
from_line_end-more (a ∷ []) r e = choice_of_one (eqb a 10) [] r (a ∷ []) from_line_end e
from_line_end-more (a ∷ b ∷ []) r e =
    choice_of_two (eqb a 10) (eqb a 92 && eqb b 10) [] (b ∷ []) r (a ∷ b ∷ []) from_line_end e
from_line_end-more (a ∷ b ∷ c ∷ bs) r e =
    choice (eqb a 10) (eqb a 92) (eqb b 10) (eqb b 13 && eqb c 10) (c ∷ bs) bs (b ∷ c ∷ bs) r (a ∷ b ∷ c ∷ bs) from_line_end e

ends : (feed slash feed_behind return : Bool) (r1 r2 r3 whole : List ℕ) (x1 x2 x3 : List ℕ)
    → cond feed None (cond (slash && feed_behind) (Some r1) (cond (slash && return) (Some r2) (Some r3))) ≡ None
    → cond feed whole (cond (slash && feed_behind) x1 (cond (slash && return) x2 x3)) ≡ whole
ends true slash feed_behind return r1 r2 r3 whole x1 x2 x3 e = refl
ends false true true return r1 r2 r3 whole x1 x2 x3 e = absurd cc
ends false true false true r1 r2 r3 whole x1 x2 x3 e = absurd cc
ends false true false false r1 r2 r3 whole x1 x2 x3 e = absurd cc
ends false false feed_behind return r1 r2 r3 whole x1 x2 x3 e = absurd cc

ends_of_two : (feed joins : Bool) (r1 r3 whole x1 x3 : List ℕ)
    → cond feed None (cond joins (Some r1) (Some r3)) ≡ None → cond feed whole (cond joins x1 x3) ≡ whole
ends_of_two true joins r1 r3 whole x1 x3 e = refl
ends_of_two false true r1 r3 whole x1 x3 e = absurd cc
ends_of_two false false r1 r3 whole x1 x3 e = absurd cc

ends_of_one : (feed : Bool) (r1 whole x1 : List ℕ) → cond feed None (Some r1) ≡ None → cond feed whole x1 ≡ whole
ends_of_one true r1 whole x1 e = refl
ends_of_one false r1 whole x1 e = absurd cc

pub from_line_end-ends : (t : List ℕ) → in_line t ≡ None → from_line_end t ≡ t
unfolding in_line from_line_end
from_line_end-ends [] e = refl
from_line_end-ends (a ∷ []) e = ends_of_one (eqb a 10) [] (a ∷ []) [] e
from_line_end-ends (a ∷ b ∷ []) e =
    ends_of_two (eqb a 10) (eqb a 92 && eqb b 10) [] (b ∷ []) (a ∷ b ∷ []) [] (from_line_end (b ∷ [])) e
from_line_end-ends (a ∷ b ∷ c ∷ bs) e =
    ends (eqb a 10) (eqb a 92) (eqb b 10) (eqb b 13 && eqb c 10) (c ∷ bs) bs (b ∷ c ∷ bs) (a ∷ b ∷ c ∷ bs)
    (from_line_end (c ∷ bs)) (from_line_end bs) (from_line_end (b ∷ c ∷ bs)) e
