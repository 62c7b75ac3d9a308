-- What stands at a place of a source, found in each case: the gaps, the directive, the piece, or what is wrong.
use Rattle.std.proofs.Common.{◌≡◌, ◌≢◌, ℕ, zero, suc, ◌≤◌, ◌⊎◌, eqb, true, false, Option, Some, None, List, [], ◌∷◌, ◌++◌, length, refl, sym, ap, subst, ◌∙◌, arith, inl, inr, append_assoc}
use Rattle.std.specs.Prelude.{◌==◌, not}
use Rattle.std.specs.Str.{bytes_eq}
use Rattle.std.proofs.lemmas.Bool.{cases_Bool, eqb-true, eqb-false}
use Rattle.std.proofs.lemmas.Slice.Eq.{bytes_eq-Decides}
use Rattle.c_lex.specs.declared.token.Header.{Header}
use Rattle.c_lex.specs.declared.token.Header.TheVariants as header
use Rattle.c_lex.specs.declared.fronts.Seen.TheVariants as seen
use Rattle.c_lex.specs.declared.lexeme.Lexeme.{Lexeme}
use Rattle.c_lex.specs.Blanks.{First, NotFirst, IsLineEnd, IsGap, AreGaps, IsOpenComment}
use Rattle.c_lex.specs.Words.{starts_word}
use Rattle.c_lex.specs.Lexemes.{IsLexeme}
use Rattle.c_lex.specs.Pieces.{header_name, AreLexemes, AreSkipped}
use Rattle.c_lex.specs.Faults.{Cause, IsBadToken, IsDefined}
use Rattle.c_lex.specs.Reading.{after_gap}
use Rattle.c_lex.specs.Fronts.{Front, Right, Wrong, IsFront, HasFront, IsOneFront, TakesBytes}
use Rattle.c_lex.specs.Progress.{NoGap, NamesHeader}
use Rattle.c_lex.proofs.GapSound.{after_gap-sound}
use Rattle.c_lex.proofs.GapEnds.{no-gap-read, open-without-gap, gap-shorter}
use Rattle.c_lex.proofs.DirectiveLaws.{no-gaps}
use Rattle.c_lex.proofs.ReadLaws.{token-shorter}

-- ---- small decisions

option_cases : {A : Type 0} (o : Option A) → (o ≡ None) ⊎ ((x : A) × (o ≡ Some x))
option_cases None = inl refl
option_cases (Some x) = inr (x, refl)

pub same-or-not : (x y : List ℕ) → (x ≡ y) ⊎ (x ≡ y → ⊥)
same-or-not x y =
    elim (cases_Bool (bytes_eq x y)) [
      | inl e ↦ inl ((bytes_eq-Decides x y).0 e)
      | inr n ↦ inr (λ e. clash (sym n ∙ (bytes_eq-Decides x y).1 e))
    ]
  where
    clash : false ≡ true → ⊥
    clash e = cc

tails : (a b : ℕ) (x y : List ℕ) → a ∷ x ≡ b ∷ y → x ≡ y
tails a b x y e = cc

heads : (a b : ℕ) (x y : List ℕ) → a ∷ x ≡ b ∷ y → a ≡ b
heads a b x y e = cc

begins_or_not : (bytes t : List ℕ) → ((r : List ℕ) × (t ≡ bytes ++ r)) ⊎ ((r : List ℕ) → t ≡ bytes ++ r → ⊥)
begins_or_not [] t = inl (t, refl)
begins_or_not (b ∷ bs) [] = inr (λ r e. absurd cc)
begins_or_not (b ∷ bs) (x ∷ xs) =
    elim (cases_Bool (eqb x b)) [
      | inl y ↦
          elim (begins_or_not bs xs) [
            | inl (r, e) ↦ inl (r, ap (λ z. z ∷ xs) (eqb-true x b y) ∙ ap (λ (z : List ℕ). b ∷ z) e)
            | inr n ↦ inr (λ r e. n r (tails x b xs (bs ++ r) e))
          ]
      | inr n ↦ inr (λ r e. eqb-false x b n (heads x b xs (bs ++ r) e))
    ]

pub line-end-or-not : (t : List ℕ) → IsLineEnd t ⊎ (IsLineEnd t → ⊥)
line-end-or-not [] = inl (inl refl)
line-end-or-not (b ∷ bs) =
    elim (cases_Bool (eqb b 10)) [
      | inl y ↦ inl (inr (bs, ap (λ z. z ∷ bs) (eqb-true b 10 y)))
      | inr n ↦ inr (λ e. no_feed b bs n e)
    ]
  where
    no_feed : (b : ℕ) (bs : List ℕ) → eqb b 10 ≡ false → IsLineEnd (b ∷ bs) → ⊥
    no_feed b bs n (inl e) = absurd cc
    no_feed b bs n (inr (more, e)) = eqb-false b 10 n (heads b 10 bs more e)

pub open-or-not : (t : List ℕ) → NoGap t → IsOpenComment t ⊎ (IsOpenComment t → ⊥)
open-or-not t n =
    elim (begins_or_not (47 ∷ 42 ∷ []) t) [
      | inl (r, e) ↦ inl (open-without-gap t r e n)
      | inr none ↦ inr (λ o. none o.0 o.2)
    ]

pub word-or-not : (t : List ℕ) → First starts_word t ⊎ (First starts_word t → ⊥)
word-or-not [] = inr (λ s. s)
word-or-not (b ∷ bs) =
    elim (cases_Bool (starts_word b)) [
      | inl y ↦ inl y
      | inr n ↦ inr (λ y. clash (sym n ∙ y))
    ]
  where
    clash : false ≡ true → ⊥
    clash e = cc

pub paren-or-not : (t : List ℕ) → First (λ b. b == 40) t ⊎ NotFirst (λ b. b == 40) t
paren-or-not [] = inr tt
paren-or-not (b ∷ bs) =
    elim (cases_Bool (b == 40)) [
      | inl y ↦ inl y
      | inr n ↦ inr (ap not n)
    ]

not_defined : (name : List ℕ) (names : List (List ℕ)) (w : List ℕ) → (name ≡ w → ⊥) → (IsDefined names w → ⊥) → IsDefined (name ∷ names) w → ⊥
not_defined name names w differ n ([], behind, e) = let f : name ≡ w = cc in differ f
not_defined name names w differ n (x ∷ before, behind, e) = n (before, behind, cc)

pub defined-or-not : (names : List (List ℕ)) (w : List ℕ) → IsDefined names w ⊎ (IsDefined names w → ⊥)
defined-or-not [] w = inr (λ d. nothing d)
  where
    nothing : IsDefined [] w → ⊥
    nothing ([], behind, e) = absurd cc
    nothing (x ∷ before, behind, e) = absurd cc
defined-or-not (name ∷ names) w =
    elim (same-or-not name w) [
      | inl e ↦ inl ([], names, ap (λ (z : List ℕ). z ∷ names) e)
      | inr differ ↦
          elim (defined-or-not names w) [
            | inl (before, behind, e) ↦ inl (name ∷ before, behind, ap (λ (z : List (List ℕ)). name ∷ z) e)
            | inr n ↦ inr (not_defined name names w differ n)
          ]
    ]

names_it : (t : List ℕ) (h : Header) (opens close : ℕ) (r : List ℕ) → t ≡ (opens ∷ header_name h ++ close ∷ []) ++ r → t ≡ opens ∷ header_name h ++ close ∷ r
names_it t h opens close r e = e ∙ ap (λ (x : List ℕ). opens ∷ x) (append_assoc (header_name h) (close ∷ []) r)

names_back : (t : List ℕ) (h : Header) (opens close : ℕ) (r : List ℕ) → t ≡ opens ∷ header_name h ++ close ∷ r → t ≡ (opens ∷ header_name h ++ close ∷ []) ++ r
names_back t h opens close r e = e ∙ ap (λ (x : List ℕ). opens ∷ x) (sym (append_assoc (header_name h) (close ∷ []) r))

no_names : (t : List ℕ) (h : Header) → ((r : List ℕ) → t ≡ (60 ∷ header_name h ++ 62 ∷ []) ++ r → ⊥)
    → ((r : List ℕ) → t ≡ (34 ∷ header_name h ++ 34 ∷ []) ++ r → ⊥) → (r : List ℕ) → NamesHeader t h r → ⊥
no_names t h a b r (inl e) = a r (names_back t h 60 62 r e)
no_names t h a b r (inr e) = b r (names_back t h 34 34 r e)

names_or_not : (t : List ℕ) (h : Header) → ((r : List ℕ) × NamesHeader t h r) ⊎ ((r : List ℕ) → NamesHeader t h r → ⊥)
names_or_not t h =
    elim (begins_or_not (60 ∷ header_name h ++ 62 ∷ []) t) [
      | inl (r, e) ↦ inl (r, inl (names_it t h 60 62 r e))
      | inr a ↦
          elim (begins_or_not (34 ∷ header_name h ++ 34 ∷ []) t) [
            | inl (r, e) ↦ inl (r, inr (names_it t h 34 34 r e))
            | inr b ↦ inr (no_names t h a b)
          ]
    ]

no_header : (t : List ℕ) → ((r : List ℕ) → NamesHeader t header.Mpi r → ⊥) → ((r : List ℕ) → NamesHeader t header.Stdio r → ⊥)
    → ((r : List ℕ) → NamesHeader t header.Stdlib r → ⊥) → ((r : List ℕ) → NamesHeader t header.Strings r → ⊥)
    → (h : Header) (r : List ℕ) → NamesHeader t h r → ⊥
no_header t a b c d header.Mpi = a
no_header t a b c d header.Stdio = b
no_header t a b c d header.Stdlib = c
no_header t a b c d header.Strings = d

pub header-or-not : (t : List ℕ) → ((h : Header) × (r : List ℕ) × NamesHeader t h r) ⊎ ((h : Header) (r : List ℕ) → NamesHeader t h r → ⊥)
header-or-not t =
    elim (names_or_not t header.Mpi) [
      | inl (r, n) ↦ inl (header.Mpi, r, n)
      | inr a ↦
          elim (names_or_not t header.Stdio) [
            | inl (r, n) ↦ inl (header.Stdio, r, n)
            | inr b ↦
                elim (names_or_not t header.Stdlib) [
                  | inl (r, n) ↦ inl (header.Stdlib, r, n)
                  | inr c ↦
                      elim (names_or_not t header.Strings) [
                        | inl (r, n) ↦ inl (header.Strings, r, n)
                        | inr d ↦ inr (no_header t a b c d)
                      ]
                ]
          ]
    ]

-- ---- rows of gaps, of what a pragma skips, and of tokens

pub gaps-run : (n : ℕ) (t : List ℕ) → length t ≤ n → (mid : List ℕ) × AreGaps t mid × NoGap mid
gaps-run zero t f =
    elim (option_cases (after_gap t)) [
      | inl e ↦ (t, no-gaps t, no-gap-read t e)
      | inr (r, e) ↦ absurd (omega (arith, f, gap-shorter t r (after_gap-sound t r e)))
    ]
gaps-run (suc n) t f =
    elim (option_cases (after_gap t)) [
      | inl e ↦ (t, no-gaps t, no-gap-read t e)
      | inr (r, e) ↦
          let g = after_gap-sound t r e in
          let (mid, (k, a), none) = gaps-run n r (omega (arith, f, gap-shorter t r g)) in
          (mid, (suc k, (r, g, a)), none)
    ]

skip_here : (t : List ℕ) → NoGap t → (IsLineEnd t ⊎ IsOpenComment t) ⊎ ((b : ℕ) × (bs : List ℕ) × (t ≡ b ∷ bs) × (b ≢ 10) × (IsOpenComment t → ⊥))
skip_here [] n = inl (inl (inl refl))
skip_here (b ∷ bs) n =
    elim (line-end-or-not (b ∷ bs)) [
      | inl e ↦ inl (inl e)
      | inr line ↦
          elim (open-or-not (b ∷ bs) n) [
            | inl o ↦ inl (inr o)
            | inr none ↦ inr (b, bs, refl, (λ e. line (inr (bs, ap (λ z. z ∷ bs) e))), none)
          ]
    ]

skip_byte : (t : List ℕ) (b : ℕ) (bs r : List ℕ) → t ≡ b ∷ bs → b ≢ 10 → NoGap t → (IsOpenComment t → ⊥) → AreSkipped bs r → AreSkipped t r
skip_byte t b bs r e n gap o s =
    let P : List ℕ → Type 0 = λ x. AreSkipped x r in
    let Q : List ℕ → Type 0 = λ x. NoGap x in
    let R : List ℕ → Type 0 = λ x. IsOpenComment x → ⊥ in
    subst P (sym e) (AreSkipped.byte b bs r n (subst Q e gap, subst R e o) s)

pub skip-run : (n : ℕ) (t : List ℕ) → length t ≤ n → (r : List ℕ) × AreSkipped t r × (IsLineEnd r ⊎ IsOpenComment r)
skip-run zero t f =
    elim (option_cases (after_gap t)) [
      | inr (r, e) ↦ absurd (omega (arith, f, gap-shorter t r (after_gap-sound t r e)))
      | inl e ↦
          elim (skip_here t (no-gap-read t e)) [
            | inl ends ↦ (t, AreSkipped.none t, ends)
            | inr (b, bs, is, differ, o) ↦ absurd (omega (arith, f, ap (λ (x : List ℕ). length x) is))
          ]
    ]
skip-run (suc n) t f =
    elim (option_cases (after_gap t)) [
      | inr (r, e) ↦
          let g = after_gap-sound t r e in
          let (end, s, ends) = skip-run n r (omega (arith, f, gap-shorter t r g)) in
          (end, AreSkipped.gap t r end g s, ends)
      | inl e ↦
          elim (skip_here t (no-gap-read t e)) [
            | inl ends ↦ (t, AreSkipped.none t, ends)
            | inr (b, bs, is, differ, o) ↦
                let (end, s, ends) = skip-run n bs (omega (arith, f, ap (λ (x : List ℕ). length x) is)) in
                (end, skip_byte t b bs end is differ (no-gap-read t e) o s, ends)
          ]
    ]

-- what stands at the front of a text
pub data Stands (t : List ℕ) : Type 0 where
  end : IsLineEnd t → Stands t
  gap : (r : List ℕ) → IsGap t r → Stands t
  token : (l : Lexeme) (r : List ℕ) → IsLexeme t l r → Stands t
  bad : (cause : Cause) (k : ℕ) → IsBadToken t cause k → Stands t

stands_front : (t : List ℕ) (f : Front) → IsFront t f → Stands t
stands_front t (Right seen.End r) i = end (inl i.0)
stands_front t (Right seen.Gap r) i = gap r i
stands_front t (Right seen.LineEnd r) i = end (inr (r, i))
stands_front t (Right (seen.Token l) r) i = token l r i
stands_front t (Wrong cause k) i = bad cause k i

pub stands : HasFront → (t : List ℕ) → Stands t
stands has t = let f = has t in stands_front t f.0 f.1

abbrev pub EndsBody : List ℕ → Type 0
EndsBody r = IsLineEnd r ⊎ ((cause : Cause) × (k : ℕ) × IsBadToken r cause k)

pub lexemes-run : HasFront → IsOneFront → TakesBytes → (n : ℕ) (t : List ℕ) → length t ≤ n
    → (ls : List Lexeme) × (r : List ℕ) × AreLexemes t ls r × EndsBody r
lexemes-run has one takes zero t f =
    elim (stands has t) [
      | end e ↦ ([], t, AreLexemes.none t, inl e)
      | gap r g ↦ absurd (omega (arith, f, gap-shorter t r g))
      | token l r i ↦ absurd (omega (arith, f, token-shorter one takes t l r i))
      | bad cause k b ↦ ([], t, AreLexemes.none t, inr (cause, k, b))
    ]
lexemes-run has one takes (suc n) t f =
    elim (stands has t) [
      | end e ↦ ([], t, AreLexemes.none t, inl e)
      | gap r g ↦
          let (ls, s, a, ends) = lexemes-run has one takes n r (omega (arith, f, gap-shorter t r g)) in
          (ls, s, AreLexemes.gap t r s ls g a, ends)
      | token l r i ↦
          let (ls, s, a, ends) = lexemes-run has one takes n r (omega (arith, f, token-shorter one takes t l r i)) in
          (l ∷ ls, s, AreLexemes.token t r s l ls i a, ends)
      | bad cause k b ↦ ([], t, AreLexemes.none t, inr (cause, k, b))
    ]
