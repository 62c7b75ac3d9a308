-- At one place of a source stands one piece, or what is bad there, or its end, given that a text has one front at most.
use Rattle.std.proofs.Common.{◌≡◌, ℕ, ◌+◌, IsTrue, Bool, true, false, List, [], ◌∷◌, get_or, eqb, refl, sym, ap, subst, ◌∙◌, inl, inr, arith}
use Rattle.std.specs.Prelude.{◌==◌}
use Rattle.std.proofs.lemmas.Bool.{eqb-false}
use Rattle.c_lex.specs.declared.token.Header.{Header}
use Rattle.c_lex.specs.declared.token.Mark.{Mark}
use Rattle.c_lex.specs.declared.token.Mark.TheVariants as mark
use Rattle.c_lex.specs.declared.lexeme.Lexeme.{Lexeme}
use Rattle.c_lex.specs.Blanks.{NotFirst, IsLineEnd, IsGap, AreGaps, IsOpenComment}
use Rattle.c_lex.specs.Words.{mark_text}
use Rattle.c_lex.specs.Lexemes.{IsLexeme}
use Rattle.c_lex.specs.Pieces.{Piece, Include, Define, Token, IsIncludeOf, AreLexemes, AreSkipped, IsDirective, IsPiece}
use Rattle.c_lex.specs.Faults.{Cause, BadByte, Unclosed, StartsToken, IsBadToken, IsDefined, BeginsDirective, IsBefore, IsBadDirective, IsBadPiece}
use Rattle.c_lex.specs.Fronts.{IsOneFront}
use Rattle.c_lex.specs.Progress.{NoGap, Fresh}
use Rattle.c_lex.proofs.PlaceLaws.{NoToken, one-gap, gap-no-token, gap-not-bad, gap-no-line-end, one-lexeme, token-not-bad, token-no-line-end, one-bad, bad-no-line-end, line-end-no-gap, line-end-no-token, bad-no-gap, bad-no-token, open-no-gap, open-no-line-end}
use Rattle.c_lex.proofs.DirectiveLaws.{no-gap-at, same-gaps, one-include, one-define, one-pragma, include-no-define, include-no-pragma, define-no-pragma, same-lexemes, same-skipped, line-end-stops, open-stops, one-place}

-- ---- no token begins with `#`

hash_no_mark : (m : Mark) → eqb (get_or (mark_text m) 0 0) 35 ≡ false
hash_no_mark mark.OpenParen = refl
hash_no_mark mark.CloseParen = refl
hash_no_mark mark.OpenBracket = refl
hash_no_mark mark.CloseBracket = refl
hash_no_mark mark.OpenBrace = refl
hash_no_mark mark.CloseBrace = refl
hash_no_mark mark.Semicolon = refl
hash_no_mark mark.Comma = refl
hash_no_mark mark.Colon = refl
hash_no_mark mark.Question = refl
hash_no_mark mark.Dot = refl
hash_no_mark mark.Arrow = refl
hash_no_mark mark.Assign = refl
hash_no_mark mark.PlusAssign = refl
hash_no_mark mark.MinusAssign = refl
hash_no_mark mark.StarAssign = refl
hash_no_mark mark.SlashAssign = refl
hash_no_mark mark.PercentAssign = refl
hash_no_mark mark.AmpersandAssign = refl
hash_no_mark mark.CaretAssign = refl
hash_no_mark mark.BarAssign = refl
hash_no_mark mark.ShiftLeftAssign = refl
hash_no_mark mark.ShiftRightAssign = refl
hash_no_mark mark.OrOr = refl
hash_no_mark mark.AndAnd = refl
hash_no_mark mark.Bar = refl
hash_no_mark mark.Caret = refl
hash_no_mark mark.Ampersand = refl
hash_no_mark mark.Equal = refl
hash_no_mark mark.NotEqual = refl
hash_no_mark mark.Less = refl
hash_no_mark mark.Greater = refl
hash_no_mark mark.AtMost = refl
hash_no_mark mark.AtLeast = refl
hash_no_mark mark.ShiftLeft = refl
hash_no_mark mark.ShiftRight = refl
hash_no_mark mark.Plus = refl
hash_no_mark mark.Minus = refl
hash_no_mark mark.Star = refl
hash_no_mark mark.Slash = refl
hash_no_mark mark.Percent = refl
hash_no_mark mark.PlusPlus = refl
hash_no_mark mark.MinusMinus = refl
hash_no_mark mark.Tilde = refl
hash_no_mark mark.Bang = refl

is_true : (b : Bool) → b ≡ false → IsTrue b → ⊥
is_true b n y = clash (sym n ∙ y)
  where
    clash : false ≡ true → ⊥
    clash e = cc

pub hash-starts-none : StartsToken 35 → ⊥
hash-starts-none (inl y) = is_true false refl y
hash-starts-none (inr (inl y)) = is_true false refl y
hash-starts-none (inr (inr (inl e))) = eqb-false 35 34 refl e
hash-starts-none (inr (inr (inr (inl e)))) = eqb-false 35 39 refl e
hash-starts-none (inr (inr (inr (inr (m, (rest, e)))))) =
    eqb-false (get_or (mark_text m) 0 0) 35 (hash_no_mark m) (ap (λ (z : List ℕ). get_or z 0 0) e)

pub hash-no-gap : (bs : List ℕ) → NoGap (35 ∷ bs)
hash-no-gap bs = no-gap-at 35 bs refl

pub hash-is-bad : (bs : List ℕ) → IsBadToken (35 ∷ bs) BadByte 0
hash-is-bad bs = IsBadToken.byte 35 bs refl hash-starts-none (hash-no-gap bs) (eqb-false 35 10 refl) refl refl

pub hash-no-token : IsOneFront → (bs : List ℕ) → NoToken (35 ∷ bs)
hash-no-token one bs = bad-no-token one (35 ∷ bs) BadByte 0 (hash-is-bad bs)

hash_no_feed : (bs r : List ℕ) → 35 ∷ bs ≡ 10 ∷ r → ⊥
hash_no_feed bs r e = eqb-false 35 10 refl (ap (λ (z : List ℕ). get_or z 0 0) e)

-- ---- directives begin with `#`

abbrev pub Hash : List ℕ → Type 0
Hash t = (bs : List ℕ) × (t ≡ 35 ∷ bs)

pub directive-hash : (t : List ℕ) (p : Piece) (r : List ℕ) → IsDirective t p r → Hash t
directive-hash t p r (IsDirective.include h b i g e d) = (i.2.0, i.2.2)
directive-hash t p r (IsDirective.define n b ls i m e d) = (i.2.0, i.2.2)
directive-hash t p r (IsDirective.pragma b i s e d) = (i.0, i.2)

pub bad-directive-hash : (names : List (List ℕ)) (t : List ℕ) (c : Cause) (k : ℕ) → IsBadDirective names t c k → Hash t
bad-directive-hash names t c k (IsBadDirective.none bs e n d z) = (bs, e)
bad-directive-hash names t c k (IsBadDirective.include h b r i g o d z) = (i.2.0, i.2.2)
bad-directive-hash names t c k (IsBadDirective.define w b r ls m n i f l o z s) = (i.2.0, i.2.2)
bad-directive-hash names t c k (IsBadDirective.pragma b r i s o d z) = (i.0, i.2)

gap_no_hash : (t r : List ℕ) → IsGap t r → Hash t → ⊥
gap_no_hash t r g (bs, e) =
    let P : List ℕ → Type 0 = λ x. IsGap x r in
    hash-no-gap bs r (subst P e g)

feed_no_hash : (t r : List ℕ) → t ≡ 10 ∷ r → Hash t → ⊥
feed_no_hash t r f (bs, e) = hash_no_feed bs r (sym e ∙ f)

token_no_hash : IsOneFront → (t : List ℕ) (l : Lexeme) (r : List ℕ) → IsLexeme t l r → Hash t → ⊥
token_no_hash one t l r i (bs, e) =
    let P : List ℕ → Type 0 = λ x. IsLexeme x l r in
    hash-no-token one bs l r (subst P e i)

other_no_hash : (t : List ℕ) → NotFirst (λ b. b == 35) t → Hash t → ⊥
other_no_hash t n (bs, e) =
    let P : List ℕ → Type 0 = λ x. NotFirst (λ b. b == 35) x in
    let y : NotFirst (λ b. b == 35) (35 ∷ bs) = subst P e n in
    is_true false refl y

-- ---- directives

pub one-directive : IsOneFront → (t : List ℕ) (p q : Piece) (a b : List ℕ) → IsDirective t p a → IsDirective t q b → (p ≡ q) × (a ≡ b)
one-directive one t p q a b (IsDirective.include h x i g e d) (IsDirective.include k y j f u v) =
    let same = one-include one t h k x y i j in
    let P : List ℕ → Type 0 = λ z. AreGaps z b in
    let rests : a ≡ b = same-gaps one x a b g (subst P (sym same.1) f) (line-end-no-gap one a e) (line-end-no-gap one b u) in
    (d ∙ ap (λ (z : Header). Include z) same.0 ∙ sym v, rests)
one-directive one t p q a b (IsDirective.include h x i g e d) (IsDirective.define w y ls j m u v) =
    absurd (include-no-define one t h x w y i j)
one-directive one t p q a b (IsDirective.include h x i g e d) (IsDirective.pragma y j s u v) =
    absurd (include-no-pragma one t h x y i j)
one-directive one t p q a b (IsDirective.define w x ls i m e d) (IsDirective.include k y j f u v) =
    absurd (include-no-define one t k y w x j i)
one-directive one t p q a b (IsDirective.define w x ls i m e d) (IsDirective.define v y ks j n u c) =
    let same = one-define one t w v x y i j in
    let P : List ℕ → Type 0 = λ z. AreLexemes z ks b in
    let bodies = same-lexemes one x ls ks a b m (subst P (sym same.1) n)
    (line-end-no-gap one a e) (line-end-no-token one a e) (line-end-no-gap one b u) (line-end-no-token one b u) in
    (d ∙ same_macro w v ls ks same.0 bodies.0 ∙ sym c, bodies.1)
  where
    same_macro : (w v : List ℕ) (ls ks : List Lexeme) → w ≡ v → ls ≡ ks
        → Define (record { name = w; body = ls }) ≡ Define (record { name = v; body = ks })
    same_macro w v ls ks e f = cc
one-directive one t p q a b (IsDirective.define w x ls i m e d) (IsDirective.pragma y j s u v) =
    absurd (define-no-pragma one t w x y i j)
one-directive one t p q a b (IsDirective.pragma x i s e d) (IsDirective.include k y j f u v) =
    absurd (include-no-pragma one t k y x j i)
one-directive one t p q a b (IsDirective.pragma x i s e d) (IsDirective.define w y ls j m u v) =
    absurd (define-no-pragma one t w y x j i)
one-directive one t p q a b (IsDirective.pragma x i s e d) (IsDirective.pragma y j r u v) =
    let same : x ≡ y = one-pragma one t x y i j in
    let P : List ℕ → Type 0 = λ z. AreSkipped z b in
    let rests : a ≡ b = same-skipped one x a b s (subst P (sym same) r) (line-end-stops one a e) (line-end-stops one b u) in
    (d ∙ sym v, rests)

pub directive-begins : (names : List (List ℕ)) (t : List ℕ) (p : Piece) (r : List ℕ) → IsDirective t p r → Fresh names p → BeginsDirective names t
directive-begins names t p r (IsDirective.include h b i g e d) f = inl (h, b, i, (r, g, inl e))
directive-begins names t p r (IsDirective.define n b ls i m e d) f =
    let P : Piece → Type 0 = λ z. Fresh names z in
    inr (inl (n, b, i, subst P d f))
directive-begins names t p r (IsDirective.pragma b i s e d) f = inr (inr (b, i))

define_fresh : (names : List (List ℕ)) (w : List ℕ) (ls : List Lexeme) (p : Piece) → p ≡ Define (record { name = w; body = ls }) → Fresh names p
    → IsDefined names w → ⊥
define_fresh names w ls p d f = let P : Piece → Type 0 = λ z. Fresh names z in subst P d f

open_or_end : IsOneFront → (a b : List ℕ) → a ≡ b → IsLineEnd a → IsOpenComment b → ⊥
open_or_end one a b same e o = let P : List ℕ → Type 0 = λ z. IsLineEnd z in open-no-line-end one b o (subst P same e)

pub directive-not-bad : IsOneFront → (names : List (List ℕ)) (t : List ℕ) (p : Piece) (r : List ℕ) (c : Cause) (k : ℕ)
    → IsDirective t p r → Fresh names p → IsBadDirective names t c k → ⊥
directive-not-bad one names t p r c k i f (IsBadDirective.none bs e n d z) = n (directive-begins names t p r i f)
directive-not-bad one names t p r c k (IsDirective.include h b i g e d) f (IsBadDirective.include m y s j u o v z) =
    let same = one-include one t h m b y i j in
    let P : List ℕ → Type 0 = λ z. AreGaps z s in
    open_or_end one r s (same-gaps one b r s g (subst P (sym same.1) u) (line-end-no-gap one r e) (open-no-gap one s o)) e o
directive-not-bad one names t p r c k (IsDirective.include h b i g e d) f (IsBadDirective.define w y s ls m n j x l o z u) =
    include-no-define one t h b w y i j
directive-not-bad one names t p r c k (IsDirective.include h b i g e d) f (IsBadDirective.pragma y s j u o v z) =
    include-no-pragma one t h b y i j
directive-not-bad one names t p r c k (IsDirective.define w b ls i l e d) f (IsBadDirective.include m y s j u o v z) =
    include-no-define one t m y w b j i
directive-not-bad one names t p r c k (IsDirective.define w b ls i l e d) f (IsBadDirective.define v y s ks m n j x u o z a) =
    let same = one-define one t w v b y i j in
    let P : List ℕ → Type 0 = λ z. AreLexemes z ks s in
    let bodies = same-lexemes one b ls ks r s l (subst P (sym same.1) u)
    (line-end-no-gap one r e) (line-end-no-token one r e) (bad-no-gap one s c n o) (bad-no-token one s c n o) in
    let Q : List ℕ → Type 0 = λ z. IsLineEnd z in
    bad-no-line-end one s c n o (subst Q bodies.1 e)
directive-not-bad one names t p r c k (IsDirective.define w b ls i l e d) f (IsBadDirective.pragma y s j u o v z) =
    define-no-pragma one t w b y i j
directive-not-bad one names t p r c k (IsDirective.pragma b i u e d) f (IsBadDirective.include m y s j x o v z) =
    include-no-pragma one t m y b j i
directive-not-bad one names t p r c k (IsDirective.pragma b i u e d) f (IsBadDirective.define v y s ks m n j x l o z a) =
    define-no-pragma one t v y b j i
directive-not-bad one names t p r c k (IsDirective.pragma b i u e d) f (IsBadDirective.pragma y s j x o v z) =
    let same : b ≡ y = one-pragma one t b y i j in
    let P : List ℕ → Type 0 = λ z. AreSkipped z s in
    open_or_end one r s (same-skipped one b r s u (subst P (sym same) x) (line-end-stops one r e) (open-stops one s o)) e o

begins_include : (names : List (List ℕ)) (t : List ℕ) (h : Header) (b s : List ℕ) → IsIncludeOf t h b → AreGaps b s → IsOpenComment s → BeginsDirective names t
begins_include names t h b s i g o = inl (h, b, i, (s, g, inr o))

places : (c d v : Cause) (m n : ℕ) → c ≡ v → d ≡ v → m ≡ n → (c ≡ d) × (m ≡ n)
places c d v m n e f g = (e ∙ sym f, g)

same_place : (m n : ℕ) (t r s : List ℕ) → IsBefore m t r → IsBefore n t s → r ≡ s → m ≡ n
same_place m n t r s p q e =
    let P : List ℕ → Type 0 = λ z. IsBefore n t z in
    one-place m n t r p (subst P (sym e) q)

pub one-bad-directive : IsOneFront → (names : List (List ℕ)) (t : List ℕ) (c d : Cause) (m n : ℕ)
    → IsBadDirective names t c m → IsBadDirective names t d n → (c ≡ d) × (m ≡ n)
one-bad-directive one names t c d m n (IsBadDirective.none bs e x u z) (IsBadDirective.none cs f y v w) = (u ∙ sym v, z ∙ sym w)
one-bad-directive one names t c d m n (IsBadDirective.none bs e x u z) (IsBadDirective.include h b s i g o v w) =
    absurd (x (begins_include names t h b s i g o))
one-bad-directive one names t c d m n (IsBadDirective.none bs e x u z) (IsBadDirective.define v y s ks i j a f l o w p) =
    absurd (x (inr (inl (v, y, a, f))))
one-bad-directive one names t c d m n (IsBadDirective.none bs e x u z) (IsBadDirective.pragma y s j a o v w) =
    absurd (x (inr (inr (y, j))))
one-bad-directive one names t c d m n (IsBadDirective.include h b s i g o u z) (IsBadDirective.none cs f y v w) =
    absurd (y (begins_include names t h b s i g o))
one-bad-directive one names t c d m n (IsBadDirective.include h b s i g o u z) (IsBadDirective.include k y r j f q v w) =
    let same = one-include one t h k b y i j in
    let P : List ℕ → Type 0 = λ z. AreGaps z r in
    let rests : s ≡ r = same-gaps one b s r g (subst P (sym same.1) f) (open-no-gap one s o) (open-no-gap one r q) in
    places c d Unclosed m n u v (same_place m n t s r z w rests)
one-bad-directive one names t c d m n (IsBadDirective.include h b s i g o u z) (IsBadDirective.define v y r ks a e j f l q w p) =
    absurd (include-no-define one t h b v y i j)
one-bad-directive one names t c d m n (IsBadDirective.include h b s i g o u z) (IsBadDirective.pragma y r j a q v w) =
    absurd (include-no-pragma one t h b y i j)
one-bad-directive one names t c d m n (IsBadDirective.define w b s ls a e i f l o z p) (IsBadDirective.none cs g y v x) =
    absurd (y (inr (inl (w, b, i, f))))
one-bad-directive one names t c d m n (IsBadDirective.define w b s ls a e i f l o z p) (IsBadDirective.include k y r j g q v x) =
    absurd (include-no-define one t k y w b j i)
one-bad-directive one names t c d m n (IsBadDirective.define w b s ls a e i f l o z p) (IsBadDirective.define v y r ks h x j g u q k o2) =
    let same = one-define one t w v b y i j in
    let P : List ℕ → Type 0 = λ z. AreLexemes z ks r in
    let bodies = same-lexemes one b ls ks s r l (subst P (sym same.1) u)
    (bad-no-gap one s c e o) (bad-no-token one s c e o) (bad-no-gap one r d x q) (bad-no-token one r d x q) in
    let Q : List ℕ → Type 0 = λ z. IsBadToken z d x in
    let bads = one-bad one s c d e x o (subst Q (sym bodies.1) q) in
    let befores : a ≡ h = same_place a h t s r z k bodies.1 in
    (bads.0, p ∙ ap (λ z. a + z) bads.1 ∙ ap (λ z. z + x) befores ∙ sym o2)
one-bad-directive one names t c d m n (IsBadDirective.define w b s ls a e i f l o z p) (IsBadDirective.pragma y r j g q v x) =
    absurd (define-no-pragma one t w b y i j)
one-bad-directive one names t c d m n (IsBadDirective.pragma b s i g o u z) (IsBadDirective.none cs f y v w) =
    absurd (y (inr (inr (b, i))))
one-bad-directive one names t c d m n (IsBadDirective.pragma b s i g o u z) (IsBadDirective.include k y r j f q v w) =
    absurd (include-no-pragma one t k y b j i)
one-bad-directive one names t c d m n (IsBadDirective.pragma b s i g o u z) (IsBadDirective.define v y r ks a e j f l q w p) =
    absurd (define-no-pragma one t v y b j i)
one-bad-directive one names t c d m n (IsBadDirective.pragma b s i g o u z) (IsBadDirective.pragma y r j f q v w) =
    let same : b ≡ y = one-pragma one t b y i j in
    let P : List ℕ → Type 0 = λ z. AreSkipped z r in
    let rests : s ≡ r = same-skipped one b s r g (subst P (sym same) f) (open-stops one s o) (open-stops one r q) in
    places c d Unclosed m n u v (same_place m n t s r z w rests)

-- ---- pieces

pub one-piece : IsOneFront → (f : Bool) (w t : List ℕ) (p q : Piece) (a b : List ℕ) → IsPiece f w t p a → IsPiece f w t q b → (p ≡ q) × (a ≡ b)
one-piece one f w t p q a b (IsPiece.gap g d) (IsPiece.gap h e) = (d ∙ sym e, one-gap one t a b g h)
one-piece one f w t p q a b (IsPiece.gap g d) (IsPiece.line_end h e) = absurd (gap-no-line-end one t a g (inr (b, h)))
one-piece one f w t p q a b (IsPiece.gap g d) (IsPiece.directive y h) = absurd (gap_no_hash t a g (directive-hash t q b h))
one-piece one f w t p q a b (IsPiece.gap g d) (IsPiece.token n l h i e) = absurd (gap-no-token one t a b l g h)
one-piece one f w t p q a b (IsPiece.line_end g d) (IsPiece.gap h e) = absurd (gap-no-line-end one t b h (inr (a, g)))
one-piece one f w t p q a b (IsPiece.line_end g d) (IsPiece.line_end h e) = (d ∙ sym e, tails a b (sym g ∙ h))
  where
    tails : (a b : List ℕ) → 10 ∷ a ≡ 10 ∷ b → a ≡ b
    tails a b e = cc
one-piece one f w t p q a b (IsPiece.line_end g d) (IsPiece.directive y h) = absurd (feed_no_hash t a g (directive-hash t q b h))
one-piece one f w t p q a b (IsPiece.line_end g d) (IsPiece.token n l h i e) = absurd (token-no-line-end one t l b h (inr (a, g)))
one-piece one f w t p q a b (IsPiece.directive x g) (IsPiece.gap h e) = absurd (gap_no_hash t b h (directive-hash t p a g))
one-piece one f w t p q a b (IsPiece.directive x g) (IsPiece.line_end h e) = absurd (feed_no_hash t b h (directive-hash t p a g))
one-piece one f w t p q a b (IsPiece.directive x g) (IsPiece.directive y h) = one-directive one t p q a b g h
one-piece one f w t p q a b (IsPiece.directive x g) (IsPiece.token n l h i e) = absurd (token_no_hash one t l b h (directive-hash t p a g))
one-piece one f w t p q a b (IsPiece.token m k g j d) (IsPiece.gap h e) = absurd (gap-no-token one t b a k h g)
one-piece one f w t p q a b (IsPiece.token m k g j d) (IsPiece.line_end h e) = absurd (token-no-line-end one t k a g (inr (b, h)))
one-piece one f w t p q a b (IsPiece.token m k g j d) (IsPiece.directive y h) = absurd (token_no_hash one t k a g (directive-hash t q b h))
one-piece one f w t p q a b (IsPiece.token m k g j d) (IsPiece.token n l h i e) =
    let same = one-lexeme one t k l a b g h in
    let lines : m ≡ n = omega (arith, i, j) in
    (d ∙ ap (λ (z : ℕ). Token z k) lines ∙ ap (λ (z : Lexeme). Token n z) same.0 ∙ sym e, same.1)

pub piece-not-bad : IsOneFront → (f : Bool) (names : List (List ℕ)) (w t : List ℕ) (p : Piece) (r : List ℕ) (c : Cause) (k : ℕ)
    → IsPiece f w t p r → Fresh names p → IsBadPiece f names t c k → ⊥
piece-not-bad one true names w t p r c k (IsPiece.gap g d) x (inl i) = gap_no_hash t r g (bad-directive-hash names t c k i)
piece-not-bad one true names w t p r c k (IsPiece.gap g d) x (inr (n, i)) = gap-not-bad one t r c k g i
piece-not-bad one true names w t p r c k (IsPiece.line_end g d) x (inl i) = feed_no_hash t r g (bad-directive-hash names t c k i)
piece-not-bad one true names w t p r c k (IsPiece.line_end g d) x (inr (n, i)) = bad-no-line-end one t c k i (inr (r, g))
piece-not-bad one true names w t p r c k (IsPiece.directive y g) x (inl i) = directive-not-bad one names t p r c k g x i
piece-not-bad one true names w t p r c k (IsPiece.directive y g) x (inr (n, i)) = other_no_hash t n (directive-hash t p r g)
piece-not-bad one true names w t p r c k (IsPiece.token m l g j d) x (inl i) = token_no_hash one t l r g (bad-directive-hash names t c k i)
piece-not-bad one true names w t p r c k (IsPiece.token m l g j d) x (inr (n, i)) = token-not-bad one t l r c k g i
piece-not-bad one false names w t p r c k (IsPiece.gap g d) x i = gap-not-bad one t r c k g i
piece-not-bad one false names w t p r c k (IsPiece.line_end g d) x i = bad-no-line-end one t c k i (inr (r, g))
piece-not-bad one false names w t p r c k (IsPiece.directive y g) x i = is_true false refl y
piece-not-bad one false names w t p r c k (IsPiece.token m l g j d) x i = token-not-bad one t l r c k g i

pub one-bad-piece : IsOneFront → (f : Bool) (names : List (List ℕ)) (t : List ℕ) (c d : Cause) (m n : ℕ)
    → IsBadPiece f names t c m → IsBadPiece f names t d n → (c ≡ d) × (m ≡ n)
one-bad-piece one true names t c d m n (inl i) (inl j) = one-bad-directive one names t c d m n i j
one-bad-piece one true names t c d m n (inl i) (inr (x, j)) = absurd (other_no_hash t x (bad-directive-hash names t c m i))
one-bad-piece one true names t c d m n (inr (x, i)) (inl j) = absurd (other_no_hash t x (bad-directive-hash names t d n j))
one-bad-piece one true names t c d m n (inr (x, i)) (inr (y, j)) = one-bad one t c d m n i j
one-bad-piece one false names t c d m n i j = one-bad one t c d m n i j

-- ---- the end of a source

nothing_no_hash : (t : List ℕ) → t ≡ [] → Hash t → ⊥
nothing_no_hash t e (bs, f) = no_way (sym e ∙ f)
  where
    no_way : [] ≡ 35 ∷ bs → ⊥
    no_way e = cc

pub end-no-piece : IsOneFront → (f : Bool) (w t : List ℕ) (p : Piece) (r : List ℕ) → IsPiece f w t p r → t ≡ [] → ⊥
end-no-piece one f w t p r (IsPiece.gap g d) e = gap-no-line-end one t r g (inl e)
end-no-piece one f w t p r (IsPiece.line_end g d) e = no_way (sym e ∙ g)
  where
    no_way : [] ≡ 10 ∷ r → ⊥
    no_way e = cc
end-no-piece one f w t p r (IsPiece.directive y g) e = nothing_no_hash t e (directive-hash t p r g)
end-no-piece one f w t p r (IsPiece.token m l g j d) e = token-no-line-end one t l r g (inl e)

pub end-not-bad : IsOneFront → (f : Bool) (names : List (List ℕ)) (t : List ℕ) (c : Cause) (k : ℕ) → IsBadPiece f names t c k → t ≡ [] → ⊥
end-not-bad one true names t c k (inl i) e = nothing_no_hash t e (bad-directive-hash names t c k i)
end-not-bad one true names t c k (inr (n, i)) e = bad-no-line-end one t c k i (inl e)
end-not-bad one false names t c k i e = bad-no-line-end one t c k i (inl e)
