-- A directive is read in one way only, given that a text has one front at most.
use Rattle.std.proofs.Common.{◌≡◌, ℕ, zero, suc, ◌⊎◌, IsTrue, Bool, true, false, List, [], ◌∷◌, ◌++◌, length, drop, get_or, refl, sym, ap, subst, ◌∙◌, inl, inr, arith}
use Rattle.std.specs.Prelude.{◌≢◌, ◌||◌, ◌==◌, not, codes}
use Rattle.std.specs.List.{AllByRecursion}
use Rattle.std.proofs.lemmas.List.{append_cancel_right}
use Rattle.std.proofs.lemmas.Bool.{eqb-false}
use Rattle.std.proofs.lemmas.Bool.Decides.{nat_tests}
use Rattle.c_lex.specs.declared.token.Header.{Header}
use Rattle.c_lex.specs.declared.token.Header.TheVariants as header
use Rattle.c_lex.specs.declared.lexeme.Lexeme.{Lexeme}
use Rattle.c_lex.specs.Blanks.{First, NotFirst, is_blank, IsLineEnd, IsGap, blank, joined, joined_cr, block, line, AreGaps, AreGapsBy, IsOpenComment, IsNoGap}
use Rattle.c_lex.specs.Words.{IsWord, starts_word, continues_word}
use Rattle.c_lex.specs.Lexemes.{IsLexeme}
use Rattle.c_lex.specs.Pieces.{IsHead, IsIncludeOf, IsDefineOf, IsPragma, header_name, AreLexemes, AreSkipped}
use Rattle.c_lex.specs.Faults.{IsBefore}
use Rattle.c_lex.specs.Fronts.{IsOneFront}
use Rattle.c_lex.specs.Progress.{NoGap, IsSkippedOnce}
use Rattle.c_lex.proofs.PlaceLaws.{one-gap, gap-no-token, one-lexeme, line-end-no-gap, open-no-gap, NoToken}

-- ---- gaps in a row

gaps-by : IsOneFront → (m n : ℕ) (t a b : List ℕ) → AreGapsBy m t a → AreGapsBy n t b → NoGap a → NoGap b → a ≡ b
gaps-by one zero zero t a b p q na nb = sym p ∙ q
gaps-by one zero (suc n) t a b p q na nb =
    let P : List ℕ → Type 0 = λ x. IsGap x q.0 in
    absurd (na q.0 (subst P p q.1))
gaps-by one (suc m) zero t a b p q na nb =
    let P : List ℕ → Type 0 = λ x. IsGap x p.0 in
    absurd (nb p.0 (subst P q p.1))
gaps-by one (suc m) (suc n) t a b p q na nb =
    let same : p.0 ≡ q.0 = one-gap one t p.0 q.0 p.1 q.1 in
    let P : List ℕ → Type 0 = λ x. AreGapsBy n x b in
    gaps-by one m n p.0 a b p.2 (subst P (sym same) q.2) na nb

pub same-gaps : IsOneFront → (t a b : List ℕ) → AreGaps t a → AreGaps t b → NoGap a → NoGap b → a ≡ b
same-gaps one t a b p q na nb = gaps-by one p.0 q.0 t a b p.1 q.1 na nb

-- a byte that a gap begins with
abbrev pub starts_gap : ℕ → Bool
starts_gap b = is_blank b || (b == 92 || b == 47)

gap_first : (b : ℕ) (bs r : List ℕ) → IsGap (b ∷ bs) r → starts_gap b ≡ true
gap_first b bs r (blank c y e) =
    let same : c ≡ b = cc in
    let P : ℕ → Type 0 = λ x. starts_gap x ≡ true in
    subst P same (ap (λ (x : Bool). x || (c == 92 || c == 47)) y)
gap_first b bs r (joined e) =
    let same : 92 ≡ b = cc in
    let P : ℕ → Type 0 = λ x. starts_gap x ≡ true in
    subst P same refl
gap_first b bs r (joined_cr e) =
    let same : 92 ≡ b = cc in
    let P : ℕ → Type 0 = λ x. starts_gap x ≡ true in
    subst P same refl
gap_first b bs r (block body n e) =
    let same : 47 ≡ b = cc in
    let P : ℕ → Type 0 = λ x. starts_gap x ≡ true in
    subst P same refl
gap_first b bs r (line body one ends un e) =
    let same : 47 ≡ b = cc in
    let P : ℕ → Type 0 = λ x. starts_gap x ≡ true in
    subst P same refl

pub no-gap-at : (b : ℕ) (bs : List ℕ) → starts_gap b ≡ false → NoGap (b ∷ bs)
no-gap-at b bs n = λ r g. clash (sym n ∙ gap_first b bs r g)
  where
    clash : false ≡ true → ⊥
    clash e = cc

letter_no_gap : (b : ℕ) → starts_word b ≡ true → starts_gap b ≡ false
letter_no_gap b y = grind (arith, nat_tests)

word_no_gap : (t w r : List ℕ) → t ≡ w ++ r → First starts_word w → NoGap t
word_no_gap t [] r e s = absurd s
word_no_gap t (b ∷ bs) r e s =
    let P : List ℕ → Type 0 = λ x. NoGap x in
    subst P (sym e) (no-gap-at b (bs ++ r) (letter_no_gap b s))

pub word-no-gap : (t w r : List ℕ) → IsWord t w r → NoGap t
word-no-gap t w r i = word_no_gap t w r i.text_is i.starts

-- ---- words

not_both : (b : Bool) → IsTrue b → IsTrue (not b) → ⊥
not_both true y n = clash n
  where
    clash : false ≡ true → ⊥
    clash e = cc
not_both false y n = clash y
  where
    clash : false ≡ true → ⊥
    clash e = cc

same_word : (w v r s : List ℕ) → AllByRecursion (λ b. IsTrue (continues_word b)) w → AllByRecursion (λ b. IsTrue (continues_word b)) v
    → NotFirst continues_word r → NotFirst continues_word s → w ++ r ≡ v ++ s → (w ≡ v) × (r ≡ s)
same_word [] [] r s p q nr ns e = (refl, e)
same_word [] (y ∷ v) r s p q nr ns e =
    let P : List ℕ → Type 0 = λ x. NotFirst continues_word x in
    let n : NotFirst continues_word (y ∷ v ++ s) = subst P e nr in
    absurd (not_both (continues_word y) q.0 n)
same_word (x ∷ w) [] r s p q nr ns e =
    let P : List ℕ → Type 0 = λ x. NotFirst continues_word x in
    let n : NotFirst continues_word (x ∷ w ++ r) = subst P (sym e) ns in
    absurd (not_both (continues_word x) p.0 n)
same_word (x ∷ w) (y ∷ v) r s p q nr ns e =
    let e1 : x ≡ y = cc in
    let e2 : w ++ r ≡ v ++ s = cc in
    let (w_is, r_is) = same_word w v r s p.1 q.1 nr ns e2 in
    (ap (λ z. z ∷ w) e1 ∙ ap (λ z. y ∷ z) w_is, r_is)

pub one-word : (t w v r s : List ℕ) → IsWord t w r → IsWord t v s → (w ≡ v) × (r ≡ s)
one-word t w v r s i j = same_word w v r s i.all j.all i.ends j.ends (sym i.text_is ∙ j.text_is)

-- ---- the head of a directive

pub one-head : IsOneFront → (t w v r s : List ℕ) → IsHead w t r → IsHead v t s → (w ≡ v) × (r ≡ s)
one-head one t w v r s (b, m, e, g, i) (c, n, f, h, j) =
    let same : b ≡ c = cc in
    let P : List ℕ → Type 0 = λ x. AreGaps x n in
    let mids : m ≡ n = same-gaps one b m n g (subst P (sym same) h) (word-no-gap m w r i) (word-no-gap n v s j) in
    let Q : List ℕ → Type 0 = λ x. IsWord x v s in
    one-word m w v r s i (subst Q (sym mids) j)

-- ---- `#include`

two_names : (q : ℕ) (h k : Header) (r s : List ℕ) → header_name h ++ q ∷ r ≡ header_name k ++ q ∷ s → (h ≡ k) × (r ≡ s)
two_names q header.Mpi header.Mpi r s e = (refl, ap (λ (z : List ℕ). drop 6 z) e)
two_names q header.Mpi header.Stdio r s e = absurd (eqb-false 109 115 refl (ap (λ (z : List ℕ). get_or z 0 0) e))
two_names q header.Mpi header.Stdlib r s e = absurd (eqb-false 109 115 refl (ap (λ (z : List ℕ). get_or z 0 0) e))
two_names q header.Mpi header.Strings r s e = absurd (eqb-false 109 115 refl (ap (λ (z : List ℕ). get_or z 0 0) e))
two_names q header.Stdio header.Mpi r s e = absurd (eqb-false 115 109 refl (ap (λ (z : List ℕ). get_or z 0 0) e))
two_names q header.Stdio header.Stdio r s e = (refl, ap (λ (z : List ℕ). drop 8 z) e)
two_names q header.Stdio header.Stdlib r s e = absurd (eqb-false 105 108 refl (ap (λ (z : List ℕ). get_or z 3 0) e))
two_names q header.Stdio header.Strings r s e = absurd (eqb-false 100 114 refl (ap (λ (z : List ℕ). get_or z 2 0) e))
two_names q header.Stdlib header.Mpi r s e = absurd (eqb-false 115 109 refl (ap (λ (z : List ℕ). get_or z 0 0) e))
two_names q header.Stdlib header.Stdio r s e = absurd (eqb-false 108 105 refl (ap (λ (z : List ℕ). get_or z 3 0) e))
two_names q header.Stdlib header.Stdlib r s e = (refl, ap (λ (z : List ℕ). drop 9 z) e)
two_names q header.Stdlib header.Strings r s e = absurd (eqb-false 100 114 refl (ap (λ (z : List ℕ). get_or z 2 0) e))
two_names q header.Strings header.Mpi r s e = absurd (eqb-false 115 109 refl (ap (λ (z : List ℕ). get_or z 0 0) e))
two_names q header.Strings header.Stdio r s e = absurd (eqb-false 114 100 refl (ap (λ (z : List ℕ). get_or z 2 0) e))
two_names q header.Strings header.Stdlib r s e = absurd (eqb-false 114 100 refl (ap (λ (z : List ℕ). get_or z 2 0) e))
two_names q header.Strings header.Strings r s e = (refl, ap (λ (z : List ℕ). drop 9 z) e)

pub header-no-gap : (t : List ℕ) (h : Header) (r : List ℕ) → (t ≡ 60 ∷ header_name h ++ 62 ∷ r) ⊎ (t ≡ 34 ∷ header_name h ++ 34 ∷ r) → NoGap t
header-no-gap t h r (inl e) =
    let P : List ℕ → Type 0 = λ x. NoGap x in
    subst P (sym e) (no-gap-at 60 (header_name h ++ 62 ∷ r) refl)
header-no-gap t h r (inr e) =
    let P : List ℕ → Type 0 = λ x. NoGap x in
    subst P (sym e) (no-gap-at 34 (header_name h ++ 34 ∷ r) refl)

tails : (a b : ℕ) (x y : List ℕ) → a ∷ x ≡ b ∷ y → x ≡ y
tails a b x y e = cc

same_header : (t : List ℕ) (h k : Header) (r s : List ℕ)
    → (t ≡ 60 ∷ header_name h ++ 62 ∷ r) ⊎ (t ≡ 34 ∷ header_name h ++ 34 ∷ r)
    → (t ≡ 60 ∷ header_name k ++ 62 ∷ s) ⊎ (t ≡ 34 ∷ header_name k ++ 34 ∷ s) → (h ≡ k) × (r ≡ s)
same_header t h k r s (inl e) (inl f) =
    two_names 62 h k r s (tails 60 60 (header_name h ++ 62 ∷ r) (header_name k ++ 62 ∷ s) (sym e ∙ f))
same_header t h k r s (inl e) (inr f) = absurd (eqb-false 60 34 refl (ap (λ (z : List ℕ). get_or z 0 0) (sym e ∙ f)))
same_header t h k r s (inr e) (inl f) = absurd (eqb-false 34 60 refl (ap (λ (z : List ℕ). get_or z 0 0) (sym e ∙ f)))
same_header t h k r s (inr e) (inr f) =
    two_names 34 h k r s (tails 34 34 (header_name h ++ 34 ∷ r) (header_name k ++ 34 ∷ s) (sym e ∙ f))

pub one-include : IsOneFront → (t : List ℕ) (h k : Header) (r s : List ℕ) → IsIncludeOf t h r → IsIncludeOf t k s → (h ≡ k) × (r ≡ s)
one-include one t h k r s (b, m, d, g, q) (c, n, e, f, p) =
    let same = one-head one t (codes "include") (codes "include") b c d e in
    let P : List ℕ → Type 0 = λ x. AreGaps x n in
    let mids : m ≡ n = same-gaps one b m n g (subst P (sym same.1) f) (header-no-gap m h r q) (header-no-gap n k s p) in
    let Q : List ℕ → Type 0 = λ x. (x ≡ 60 ∷ header_name k ++ 62 ∷ s) ⊎ (x ≡ 34 ∷ header_name k ++ 34 ∷ s) in
    same_header m h k r s q (subst Q (sym mids) p)

-- ---- `#define` and `#pragma`

pub one-define : IsOneFront → (t w v r s : List ℕ) → IsDefineOf t w r → IsDefineOf t v s → (w ≡ v) × (r ≡ s)
one-define one t w v r s (b, m, d, g, i, a, u) (c, n, e, f, j, q, y) =
    let same = one-head one t (codes "define") (codes "define") b c d e in
    let P : List ℕ → Type 0 = λ x. AreGaps x n in
    let mids : m ≡ n = same-gaps one b m n g (subst P (sym same.1) f) (word-no-gap m w r i) (word-no-gap n v s j) in
    let Q : List ℕ → Type 0 = λ x. IsWord x v s in
    one-word m w v r s i (subst Q (sym mids) j)

pub one-pragma : IsOneFront → (t r s : List ℕ) → IsPragma t r → IsPragma t s → r ≡ s
one-pragma one t r s p q = (one-head one t (codes "pragma") (codes "pragma") r s p q).1

pub include-no-define : IsOneFront → (t : List ℕ) (h : Header) (r w s : List ℕ) → IsIncludeOf t h r → IsDefineOf t w s → ⊥
include-no-define one t h r w s p q =
    eqb-false 105 100 refl (ap (λ (z : List ℕ). get_or z 0 0) (one-head one t (codes "include") (codes "define") p.0 q.0 p.2 q.2).0)

pub include-no-pragma : IsOneFront → (t : List ℕ) (h : Header) (r s : List ℕ) → IsIncludeOf t h r → IsPragma t s → ⊥
include-no-pragma one t h r s p q =
    eqb-false 105 112 refl (ap (λ (z : List ℕ). get_or z 0 0) (one-head one t (codes "include") (codes "pragma") p.0 s p.2 q).0)

pub define-no-pragma : IsOneFront → (t w r s : List ℕ) → IsDefineOf t w r → IsPragma t s → ⊥
define-no-pragma one t w r s p q =
    eqb-false 100 112 refl (ap (λ (z : List ℕ). get_or z 0 0) (one-head one t (codes "define") (codes "pragma") p.0 s p.2 q).0)

-- ---- the tokens of a macro

no_lexemes : (t : List ℕ) (ls : List Lexeme) (r : List ℕ) → AreLexemes t ls r → NoGap t → NoToken t → (ls ≡ []) × (t ≡ r)
no_lexemes t ls r (AreLexemes.none x) ng nt = (refl, refl)
no_lexemes t ls r (AreLexemes.gap x mid y ms g h) ng nt = absurd (ng mid g)
no_lexemes t ls r (AreLexemes.token x mid y l ms i h) ng nt = absurd (nt l mid i)

behind_gap : IsOneFront → (t : List ℕ) (ls : List Lexeme) (r mid : List ℕ) → AreLexemes t ls r → IsGap t mid → NoGap r → AreLexemes mid ls r
behind_gap one t ls r mid (AreLexemes.none x) g nr = absurd (nr mid g)
behind_gap one t ls r mid (AreLexemes.gap x behind y ms f h) g nr =
    let P : List ℕ → Type 0 = λ z. AreLexemes z ms y in
    subst P (one-gap one x behind mid f g) h
behind_gap one t ls r mid (AreLexemes.token x behind y l ms i h) g nr = absurd (gap-no-token one x mid behind l g i)

behind_token : IsOneFront → (t : List ℕ) (ls : List Lexeme) (r mid : List ℕ) (l : Lexeme) → AreLexemes t ls r → IsLexeme t l mid → NoToken r
    → (ms : List Lexeme) × (ls ≡ l ∷ ms) × AreLexemes mid ms r
behind_token one t ls r mid l (AreLexemes.none x) i nr = absurd (nr l mid i)
behind_token one t ls r mid l (AreLexemes.gap x behind y ms f h) i nr = absurd (gap-no-token one x behind mid l f i)
behind_token one t ls r mid l (AreLexemes.token x behind y k ms j h) i nr =
    let same = one-lexeme one x k l behind mid j i in
    let P : List ℕ → Type 0 = λ z. AreLexemes z ms y in
    (ms, ap (λ (z : Lexeme). z ∷ ms) same.0, subst P same.1 h)

pub same-lexemes : IsOneFront → (t : List ℕ) (ls ms : List Lexeme) (r s : List ℕ) → AreLexemes t ls r → AreLexemes t ms s
    → NoGap r → NoToken r → NoGap s → NoToken s → (ls ≡ ms) × (r ≡ s)
same-lexemes one t ls ms r s (AreLexemes.none x) q gr tr gs ts =
    let e = no_lexemes x ms s q gr tr in (sym e.0, e.1)
same-lexemes one t ls ms r s (AreLexemes.gap x mid y ks g h) q gr tr gs ts =
    same-lexemes one mid ks ms y s h (behind_gap one x ms s mid q g gs) gr tr gs ts
same-lexemes one t ls ms r s (AreLexemes.token x mid y l ks i h) q gr tr gs ts =
    let (more, e, b) = behind_token one x ms s mid l q i ts in
    let (ks_are, r_is) = same-lexemes one mid ks more y s h b gr tr gs ts in
    (ap (λ (z : List Lexeme). l ∷ z) ks_are ∙ sym e, r_is)

-- ---- what a pragma skips

-- nothing is skipped here
pub record StopsSkipping (t : List ℕ) : Type 0 where
  pub no_gap : NoGap t
  pub no_byte : (b : ℕ) (bs : List ℕ) → t ≡ b ∷ bs → b ≢ 10 → IsNoGap (b ∷ bs) → ⊥

none_skipped : (t r : List ℕ) → AreSkipped t r → StopsSkipping t → t ≡ r
none_skipped t r (AreSkipped.none x) s = refl
none_skipped t r (AreSkipped.gap x mid y g h) s = absurd (s.no_gap mid g)
none_skipped t r (AreSkipped.byte b bs y n i h) s = absurd (s.no_byte b bs refl n i)

skipped_gap : IsOneFront → (t r mid : List ℕ) → AreSkipped t r → IsGap t mid → StopsSkipping r → AreSkipped mid r
skipped_gap one t r mid (AreSkipped.none x) g s = absurd (s.no_gap mid g)
skipped_gap one t r mid (AreSkipped.gap x behind y f h) g s =
    let P : List ℕ → Type 0 = λ z. AreSkipped z y in
    subst P (one-gap one x behind mid f g) h
skipped_gap one t r mid (AreSkipped.byte b bs y n i h) g s = absurd (i.0 mid g)

skipped_byte : (b : ℕ) (bs t r : List ℕ) → AreSkipped t r → t ≡ b ∷ bs → b ≢ 10 → IsNoGap (b ∷ bs) → StopsSkipping r → AreSkipped bs r
skipped_byte b bs t r (AreSkipped.none x) e n i s = absurd (s.no_byte b bs e n i)
skipped_byte b bs t r (AreSkipped.gap x mid y g h) e n i s =
    let P : List ℕ → Type 0 = λ z. IsGap z mid in
    absurd (i.0 mid (subst P e g))
skipped_byte b bs t r (AreSkipped.byte c cs y m j h) e n i s =
    let P : List ℕ → Type 0 = λ z. AreSkipped z y in
    subst P (tails c b cs bs e) h

pub same-skipped : IsOneFront → (t r s : List ℕ) → AreSkipped t r → AreSkipped t s → StopsSkipping r → StopsSkipping s → r ≡ s
same-skipped one t r s (AreSkipped.none x) q a b = none_skipped x s q a
same-skipped one t r s (AreSkipped.gap x mid y g h) q a b =
    same-skipped one mid y s h (skipped_gap one x s mid q g b) a b
same-skipped one t r s (AreSkipped.byte c cs y n i h) q a b =
    same-skipped one cs y s h (skipped_byte c cs (c ∷ cs) s q refl n i b) a b

feed_is : (b : ℕ) (bs : List ℕ) (t : List ℕ) → t ≡ b ∷ bs → IsLineEnd t → b ≢ 10 → ⊥
feed_is b bs t e (inl f) n = no_way (sym f ∙ e)
  where
    no_way : [] ≡ b ∷ bs → ⊥
    no_way e = cc
feed_is b bs t e (inr (more, f)) n = n (ap (λ (z : List ℕ). get_or z 0 0) (sym e ∙ f))

pub line-end-stops : IsOneFront → (t : List ℕ) → IsLineEnd t → StopsSkipping t
line-end-stops one t e = record {
  no_gap = line-end-no-gap one t e;
  no_byte = λ b bs f n i. feed_is b bs t f e n;
}

pub open-stops : IsOneFront → (t : List ℕ) → IsOpenComment t → StopsSkipping t
open-stops one t o = record {
  no_gap = open-no-gap one t o;
  no_byte = λ b bs f n i.
      let P : List ℕ → Type 0 = λ z. IsOpenComment z in
      i.1 (subst P f o);
}

-- ---- places

pub one-place : (m n : ℕ) (t r : List ℕ) → IsBefore m t r → IsBefore n t r → m ≡ n
one-place m n t r (f, e, a) (g, h, b) =
    a ∙ ap (λ (z : List ℕ). length z) (append_cancel_right f g r (sym e ∙ h)) ∙ sym b

-- ---- one more behind those before

pub no-gaps : (t : List ℕ) → AreGaps t t
no-gaps t = (0, refl)

gaps_more : (n : ℕ) (t mid r : List ℕ) → AreGapsBy n t mid → IsGap mid r → AreGapsBy (suc n) t r
gaps_more zero t mid r a g = let P : List ℕ → Type 0 = λ x. IsGap x r in (r, subst P (sym a) g, refl)
gaps_more (suc n) t mid r (x, g, a) h = (x, g, gaps_more n x mid r a h)

pub gaps-more : (t mid r : List ℕ) → AreGaps t mid → IsGap mid r → AreGaps t r
gaps-more t mid r (n, a) g = (suc n, gaps_more n t mid r a g)

pub skipped-more : (t mid r : List ℕ) → AreSkipped t mid → IsSkippedOnce mid r → AreSkipped t r
skipped-more t mid r (AreSkipped.none x) (inl g) = AreSkipped.gap x r r g (AreSkipped.none r)
skipped-more t mid r (AreSkipped.none x) (inr (b, e, n, i)) =
    let P : List ℕ → Type 0 = λ z. AreSkipped z r in
    subst P (sym e) (AreSkipped.byte b r r n i (AreSkipped.none r))
skipped-more t mid r (AreSkipped.gap x y m g h) s = AreSkipped.gap x y r g (skipped-more y m r h s)
skipped-more t mid r (AreSkipped.byte b bs m n i h) s = AreSkipped.byte b bs r n i (skipped-more bs m r h s)

pub lexemes-gap : (t : List ℕ) (ls : List Lexeme) (mid r : List ℕ) → AreLexemes t ls mid → IsGap mid r → AreLexemes t ls r
lexemes-gap t ls mid r (AreLexemes.none x) g = AreLexemes.gap x r r [] g (AreLexemes.none r)
lexemes-gap t ls mid r (AreLexemes.gap x y m ms f h) g = AreLexemes.gap x y r ms f (lexemes-gap y ms m r h g)
lexemes-gap t ls mid r (AreLexemes.token x y m l ms i h) g = AreLexemes.token x y r l ms i (lexemes-gap y ms m r h g)

pub lexemes-token : (t : List ℕ) (ls : List Lexeme) (mid r : List ℕ) (l : Lexeme) → AreLexemes t ls mid → IsLexeme mid l r → AreLexemes t (ls ++ l ∷ []) r
lexemes-token t ls mid r l (AreLexemes.none x) i = AreLexemes.token x r r l [] i (AreLexemes.none r)
lexemes-token t ls mid r l (AreLexemes.gap x y m ms f h) i = AreLexemes.gap x y r (ms ++ l ∷ []) f (lexemes-token y ms m r l h i)
lexemes-token t ls mid r l (AreLexemes.token x y m k ms j h) i =
    AreLexemes.token x y r k (ms ++ l ∷ []) j (lexemes-token y ms m r l h i)
