-- Where nothing is read as a gap no gap begins, and what a gap takes.
use Rattle.std.proofs.Common.{◌≡◌, ℕ, ◌<◌, Bool, true, false, cond, IsTrue, List, [], ◌∷◌, ◌++◌, length, get_or, ◌≤◌, Option, Some, None, refl, sym, ap, subst, ◌∙◌, inl, inr, arith, append_assoc, length-append}
use Rattle.std.specs.Prelude.{codes}
use Rattle.c_lex.specs.Blanks.{is_blank, HasNoClose, IsGap, blank, joined, joined_cr, block, line, IsOpenComment, IsLineEnd}
use Rattle.c_lex.specs.Reading.{after_line_end, after_close, after_comment, after_gap, from_line_end}
use Rattle.c_lex.specs.Progress.{NoGap, IsSkippedOnce}
use Rattle.c_lex.proofs.CloseLaws.{after_close-sound, after_close-complete}

something : (o : Option (List ℕ)) (r : List ℕ) → o ≡ Some r → o ≡ None → ⊥
something o r e n = clash (sym n ∙ e)
  where
    clash : None ≡ Some r → ⊥
    clash e = cc

first_of : {A : Type 0} (b : Bool) (x y : A) → b ≡ true → cond b x y ≡ x
first_of true x y e = refl
first_of false x y e = absurd cc

read_blank : (b : ℕ) (r : List ℕ) → is_blank b ≡ true → after_gap (b ∷ r) ≡ Some r
unfolding after_gap
read_blank b r y = first_of (is_blank b) (Some r) _ y

read_joined : (r : List ℕ) → after_gap (92 ∷ 10 ∷ r) ≡ Some r
unfolding after_gap after_line_end
read_joined [] = refl
read_joined (b ∷ r) = refl

read_joined_cr : (r : List ℕ) → after_gap (92 ∷ 13 ∷ 10 ∷ r) ≡ Some r
unfolding after_gap after_line_end
read_joined_cr r = refl

read_block : (t r : List ℕ) → after_close t ≡ Some r → after_gap (47 ∷ 42 ∷ t) ≡ Some r
unfolding after_gap after_comment
read_block t r e = e

read_line : (t : List ℕ) → after_gap (47 ∷ 47 ∷ t) ≡ Some (from_line_end t)
unfolding after_gap after_comment
read_line t = refl

block_is : (body r : List ℕ) → 47 ∷ 42 ∷ (body ++ 42 ∷ 47 ∷ []) ++ r ≡ 47 ∷ 42 ∷ (body ++ 42 ∷ 47 ∷ r)
block_is body r = ap (λ (x : List ℕ). 47 ∷ 42 ∷ x) (append_assoc body (42 ∷ 47 ∷ []) r)

pub no-gap-read : (t : List ℕ) → after_gap t ≡ None → NoGap t
no-gap-read t n r (blank b y e) = something (after_gap t) r (ap after_gap e ∙ read_blank b r y) n
no-gap-read t n r (joined e) = something (after_gap t) r (ap after_gap e ∙ read_joined r) n
no-gap-read t n r (joined_cr e) = something (after_gap t) r (ap after_gap e ∙ read_joined_cr r) n
no-gap-read t n r (block body h e) =
    something (after_gap t) r
    (ap after_gap e ∙ ap after_gap (block_is body r) ∙ read_block (body ++ 42 ∷ 47 ∷ r) r (after_close-complete body r h)) n
no-gap-read t n r (line body one ends un e) =
    something (after_gap t) (from_line_end (body ++ r)) (ap after_gap e ∙ read_line (body ++ r)) n

-- ---- open comments

not_here : (o : Option (List ℕ)) (x : List ℕ) → Some x ≡ None → ⊥
not_here o x e = cc

chosen_none : (b : Bool) (x : List ℕ) (other : Option (List ℕ)) → cond b (Some x) other ≡ None → (b ≡ false) × (other ≡ None)
chosen_none true x other e = absurd cc
chosen_none false x other e = (refl, e)

close_now : (t back : List ℕ) → t ≡ 42 ∷ 47 ∷ back → after_close t ≡ None → ⊥
close_now t back e n = something (after_close t) back (ap after_close e ∙ after_close-complete [] back nothing) n
  where
    nothing : HasNoClose []
    nothing [] back = λ e. absurd cc
    nothing (x ∷ xs) back = λ e. absurd cc

close_later : (a : ℕ) (t : List ℕ) → after_close (a ∷ t) ≡ None → after_close t ≡ None
unfolding after_close
close_later a [] n = refl
close_later a (b ∷ bs) n = (chosen_none _ bs (after_close (b ∷ bs)) n).1

pub no-close-read : (t : List ℕ) → after_close t ≡ None → HasNoClose t
no-close-read t n [] back = λ e. close_now t back e n
no-close-read [] n (x ∷ xs) back = λ e. absurd cc
no-close-read (a ∷ t) n (x ∷ xs) back = λ e.
    let tails : t ≡ xs ++ 42 ∷ 47 ∷ [] ++ back = cc in
    no-close-read t (close_later a t n) xs back tails

open_or_gap : (t : List ℕ) (o : Option (List ℕ)) → after_close t ≡ o → NoGap (47 ∷ 42 ∷ t) → IsOpenComment (47 ∷ 42 ∷ t)
open_or_gap t None e n = (t, no-close-read t e, refl)
open_or_gap t (Some r) e n =
    let c = after_close-sound t r e in
    absurd (n r (block c.body c.none (ap (λ (x : List ℕ). 47 ∷ 42 ∷ x) c.text_is ∙ sym (block_is c.body r))))

pub open-without-gap : (t body : List ℕ) → t ≡ 47 ∷ 42 ∷ body → NoGap t → IsOpenComment t
open-without-gap t body e n =
    let P : List ℕ → Type 0 = λ x. NoGap x in
    let Q : List ℕ → Type 0 = λ x. IsOpenComment x in
    subst Q (sym e) (open_or_gap body (after_close body) refl (subst P e n))

-- ---- what a gap takes

taken : (t front r : List ℕ) → t ≡ front ++ r → 0 < length front → length r < length t
taken t front r e some = omega (arith, ap (λ (x : List ℕ). length x) e, length-append front r, some)

pub gap-shorter : (t r : List ℕ) → IsGap t r → length r < length t
gap-shorter t r (blank b y e) = taken t (b ∷ []) r e (omega arith)
gap-shorter t r (joined e) = taken t (92 ∷ 10 ∷ []) r e (omega arith)
gap-shorter t r (joined_cr e) = taken t (92 ∷ 13 ∷ 10 ∷ []) r e (omega arith)
gap-shorter t r (block body n e) = taken t (codes "/*" ++ body ++ codes "*/") r e (omega arith)
gap-shorter t r (line body one ends un e) = taken t (codes "//" ++ body) r e (omega arith)

pub gap-ends : (t r : List ℕ) → IsGap t r → (front : List ℕ) × (t ≡ front ++ r)
gap-ends t r (blank b y e) = (b ∷ [], e)
gap-ends t r (joined e) = (92 ∷ 10 ∷ [], e)
gap-ends t r (joined_cr e) = (92 ∷ 13 ∷ 10 ∷ [], e)
gap-ends t r (block body n e) = (codes "/*" ++ body ++ codes "*/", e)
gap-ends t r (line body one ends un e) = (codes "//" ++ body, e)

pub two-bytes : (t : List ℕ) (a b : ℕ) → get_or t 0 0 ≡ a → get_or t 1 0 ≡ b → 2 ≤ length t → (body : List ℕ) × (t ≡ a ∷ b ∷ body)
two-bytes [] a b e f n = absurd (omega (arith, n))
two-bytes (x ∷ []) a b e f n = absurd (omega (arith, n))
two-bytes (x ∷ y ∷ body) a b e f n = (body, ap (λ z. z ∷ y ∷ body) e ∙ ap (λ z. a ∷ z ∷ body) f)

-- ---- what a pragma skips

pub untrue : {P : Type 0} {b : Bool} → b ≡ false → (P → IsTrue b) → P → ⊥
untrue n f p = clash (sym n ∙ f p)
  where
    clash : false ≡ true → ⊥
    clash e = cc

pub skips_byte : (t : List ℕ) (b : ℕ) (rest : List ℕ) → t ≡ b ∷ rest → NoGap t → (IsLineEnd t → ⊥) → (IsOpenComment t → ⊥) → IsSkippedOnce t rest
skips_byte t b rest e n l o =
    let P : List ℕ → Type 0 = λ x. NoGap x in
    let Q : List ℕ → Type 0 = λ x. IsOpenComment x → ⊥ in
    inr (b, e, λ feed. l (inr (rest, e ∙ ap (λ z. z ∷ rest) feed)), (subst P e n, subst Q e o))

pub skip-shorter : (t rest : List ℕ) → IsSkippedOnce t rest → length rest < length t
skip-shorter t rest (inl g) = gap-shorter t rest g
skip-shorter t rest (inr (b, e, n, i)) = taken t (b ∷ []) rest e (omega arith)
