-- Directives as they are read: what is right is a directive, and what is wrong is bad.
use Rattle.std.proofs.Common.{◌≡◌, ◌≢◌, ℕ, zero, suc, ◌+◌, ◌≤◌, ◌<◌, ◌||◌, eqb, Option, Some, None, ◌⊎◌, IsTrue, Bool, true, false, List, [], ◌∷◌, ◌++◌, length, get_or, take, drop, refl, sym, ap, subst, ◌∙◌, arith, inl, inr, append_assoc, length-append}
use Rattle.std.specs.Prelude.{IfSome, codes, ◌==◌, not, MatchBool}
use Rattle.std.specs.List.{prefix_len, list_any, AllByRecursion}
use Rattle.std.specs.Str.{bytes_eq}
use Rattle.std.proofs.lemmas.Bool.{eqb-false, eqb-true}
use Rattle.std.proofs.lemmas.Slice.Eq.{bytes_eq-Decides}
use Rattle.c_lex.specs.declared.token.Header.{Header}
use Rattle.c_lex.specs.declared.token.Keyword.{Keyword}
use Rattle.c_lex.specs.declared.fronts.Seen.TheVariants as seen
use Rattle.c_lex.specs.declared.error.LexError.{LexError}
use Rattle.c_lex.specs.declared.lexeme.Lexeme.{Lexeme}
use Rattle.c_lex.specs.Blanks.{First, NotFirst, IsLineEnd, AreGaps, AreGapsBy, IsOpenComment}
use Rattle.c_lex.specs.Words.{IsWord, IsName, keyword_text, out_words, starts_word, continues_word}
use Rattle.c_lex.specs.Lexemes.{IsLexeme}
use Rattle.c_lex.specs.Pieces.{Define, IsHead, IsDefineOf, IsPragma, AreLexemes, AreSkipped, IsDirective}
use Rattle.c_lex.specs.Faults.{Cause, Directive as BadDirective, Unclosed, IsBadToken, IsDefined, BeginsDirective, IsBefore, IsBadDirective}
use Rattle.c_lex.specs.Tokens.{Fault, Answer, fault_of}
use Rattle.c_lex.specs.Fronts.{EndsWith, TakesBytes, IsOneFront}
use Rattle.c_lex.specs.Reading.{is_out_word}
use Rattle.c_lex.specs.Progress.{NoGap, NamesHeader, IsBadBody, TellsBody, TellsDirective}
use Rattle.c_lex.proofs.PlaceLaws.{line-end-no-gap, open-no-gap, token-no-line-end}
use Rattle.c_lex.proofs.GapEnds.{gap-ends}
use Rattle.c_lex.proofs.DirectiveLaws.{same-gaps, one-head, one-word, word-no-gap, one-include, header-no-gap}
use Rattle.c_lex.proofs.HeadLaws.{word-here, word-cut}

-- ---- ends of a text

pub ends-self : (t : List ℕ) → EndsWith t t
ends-self t = ([], refl)

pub ends-behind : (t m r : List ℕ) → EndsWith t m → EndsWith m r → EndsWith t r
ends-behind t m r (f, e) (g, h) = (f ++ g, e ∙ ap (λ (x : List ℕ). f ++ x) h ∙ sym (append_assoc f g r))

pub ends-length : (t r : List ℕ) → EndsWith t r → length r ≤ length t
ends-length t r (f, e) = omega (arith, ap (λ (x : List ℕ). length x) e, length-append f r)

gaps_by_end : (n : ℕ) (t r : List ℕ) → AreGapsBy n t r → EndsWith t r
gaps_by_end zero t r e = ([], e)
gaps_by_end (suc n) t r (m, g, a) = ends-behind t m r (gap-ends t m g) (gaps_by_end n m r a)

pub gaps-end : (t r : List ℕ) → AreGaps t r → EndsWith t r
gaps-end t r (n, a) = gaps_by_end n t r a

pub skipped-end : (t r : List ℕ) → AreSkipped t r → EndsWith t r
skipped-end t r (AreSkipped.none x) = ends-self x
skipped-end t r (AreSkipped.gap x m y g h) = ends-behind x m y (gap-ends x m g) (skipped-end m y h)
skipped-end t r (AreSkipped.byte b bs y n i h) = ends-behind (b ∷ bs) bs y (b ∷ [], refl) (skipped-end bs y h)

pub lexemes-end : TakesBytes → (t : List ℕ) (ls : List Lexeme) (r : List ℕ) → AreLexemes t ls r → EndsWith t r
lexemes-end takes t ls r (AreLexemes.none x) = ends-self x
lexemes-end takes t ls r (AreLexemes.gap x m y ms g h) = ends-behind x m y (gap-ends x m g) (lexemes-end takes m ms y h)
lexemes-end takes t ls r (AreLexemes.token x m y l ms i h) =
    ends-behind x m y (takes x (seen.Token l) m i).0 (lexemes-end takes m ms y h)

pub head-end : (w t r : List ℕ) → IsHead w t r → EndsWith t r
head-end w t r (b, m, e, g, i) = ends-behind t b r (35 ∷ [], e) (ends-behind b m r (gaps-end b m g) (w, i.text_is))

names_end : (t : List ℕ) (h : Header) (r front : List ℕ) (opens close : ℕ) → t ≡ opens ∷ front ++ close ∷ r → EndsWith t r
names_end t h r front opens close e = (opens ∷ front ++ close ∷ [], e ∙ ap (λ (x : List ℕ). opens ∷ x) (sym (append_assoc front (close ∷ []) r)))

pub header-end : (t : List ℕ) (h : Header) (r : List ℕ) → NamesHeader t h r → EndsWith t r
header-end t h r (inl e) = names_end t h r _ 60 62 e
header-end t h r (inr e) = names_end t h r _ 34 34 e

-- ---- places

-- where the end of a text stands
pub place-before : (at place : ℕ) (t r : List ℕ) (ends : EndsWith t r) → place + length r ≡ at + length t → place ≡ at + length ends.0
place-before at place t r ends e = omega (arith, e, ap (λ (x : List ℕ). length x) ends.1, length-append ends.0 r)

pub is-before : (t r : List ℕ) (ends : EndsWith t r) → IsBefore (length ends.0) t r
is-before t r ends = (ends.0, ends.1, refl)

abbrev pub Tells : List (List ℕ) → List ℕ → ℕ → Cause → ℕ → Type 0
Tells names t at cause place = (c : Cause) × (k : ℕ) × IsBadDirective names t c k × (Fault cause place ≡ Fault c (at + k))

pub tells-none : (names : List (List ℕ)) (w t r : List ℕ) (at : ℕ) → IsHead w t r → (BeginsDirective names t → ⊥) → Tells names t at BadDirective at
tells-none names w t r at h n =
    (BadDirective, 0, IsBadDirective.none h.0 h.2 n refl refl, ap (λ (k : ℕ). Fault BadDirective k) (omega arith))

-- ---- heads

pub other-head : IsOneFront → (t w v r s : List ℕ) → IsHead w t r → IsHead v t s → eqb (get_or w 0 0) (get_or v 0 0) ≡ false → ⊥
other-head one t w v r s h i n = eqb-false (get_or w 0 0) (get_or v 0 0) n (ap (λ (x : List ℕ). get_or x 0 0) (one-head one t w v r s h i).0)

same_start : IsOneFront → (t w r s m n : List ℕ) → IsHead w t r → IsHead w t s → AreGaps r m → AreGaps s n → NoGap m → NoGap n → m ≡ n
same_start one t w r s m n h i g f ng nf =
    let P : List ℕ → Type 0 = λ x. AreGaps x n in
    same-gaps one r m n g (subst P (sym (one-head one t w w r s h i).1) f) ng nf

-- ---- `#include`

pub include-names-none : IsOneFront → (names : List (List ℕ)) (t behind start : List ℕ) → IsHead (codes "include") t behind → AreGaps behind start → NoGap start
    → ((h : Header) (r : List ℕ) → NamesHeader start h r → ⊥) → BeginsDirective names t → ⊥
include-names-none one names t behind start h g n none (inl (k, r, (b, m, i, f, named), e)) =
    let same : m ≡ start = same_start one t (codes "include") b behind m start i h f g (header-no-gap m k r named) n in
    let P : List ℕ → Type 0 = λ x. NamesHeader x k r in
    none k r (subst P same named)
include-names-none one names t behind start h g n none (inr (inl (w, r, d, x))) =
    other-head one t (codes "include") (codes "define") behind d.0 h d.2 refl
include-names-none one names t behind start h g n none (inr (inr (r, p))) =
    other-head one t (codes "include") (codes "pragma") behind r h p refl

pub include-ends-not : IsOneFront → (names : List (List ℕ)) (t behind start : List ℕ) (h : Header) (rest end : List ℕ) → IsHead (codes "include") t behind
    → AreGaps behind start → NamesHeader start h rest → AreGaps rest end → NoGap end → (IsLineEnd end → ⊥) → (IsOpenComment end → ⊥)
    → BeginsDirective names t → ⊥
include-ends-not one names t behind start h rest end i g named f n no_end no_comment (inl (k, r, j, (s, x, e))) =
    let same : r ≡ rest = (one-include one t k h r rest j (behind, start, i, g, named)).1 in
    let P : List ℕ → Type 0 = λ z. AreGaps z end in
    elim e [
      | inl l ↦
          let ends : s ≡ end = same-gaps one r s end x (subst P (sym same) f) (line-end-no-gap one s l) n in
          let Q : List ℕ → Type 0 = λ z. IsLineEnd z in
          no_end (subst Q ends l)
      | inr o ↦
          let ends : s ≡ end = same-gaps one r s end x (subst P (sym same) f) (open-no-gap one s o) n in
          let Q : List ℕ → Type 0 = λ z. IsOpenComment z in
          no_comment (subst Q ends o)
    ]
include-ends-not one names t behind start h rest end i g named f n no_end no_comment (inr (inl (w, r, d, x))) =
    other-head one t (codes "include") (codes "define") behind d.0 i d.2 refl
include-ends-not one names t behind start h rest end i g named f n no_end no_comment (inr (inr (r, p))) =
    other-head one t (codes "include") (codes "pragma") behind r i p refl

pub include-end : (t behind start : List ℕ) (h : Header) (rest end : List ℕ) → IsHead (codes "include") t behind
    → AreGaps behind start → NamesHeader start h rest → AreGaps rest end → EndsWith t end
include-end t behind start h rest end i g named f =
    ends-behind t behind end (head-end (codes "include") t behind i)
    (ends-behind behind start end (gaps-end behind start g)
    (ends-behind start rest end (header-end start h rest named) (gaps-end rest end f)))

pub include-open : (names : List (List ℕ)) (t behind start : List ℕ) (h : Header) (rest end : List ℕ) (at place : ℕ) → IsHead (codes "include") t behind
    → AreGaps behind start → NamesHeader start h rest → AreGaps rest end → IsOpenComment end → place + length end ≡ at + length t
    → Tells names t at Unclosed place
include-open names t behind start h rest end at place i g named f o e =
    let ends = include-end t behind start h rest end i g named f in (
      Unclosed,
      length ends.0,
      IsBadDirective.include h rest end (behind, start, i, g, named) f o refl (is-before t end ends),
      ap (λ (k : ℕ). Fault Unclosed k) (place-before at place t end ends e),
    )

-- ---- `#pragma`

pub pragma-end : (t behind end : List ℕ) → IsPragma t behind → AreSkipped behind end → EndsWith t end
pragma-end t behind end h s = ends-behind t behind end (head-end (codes "pragma") t behind h) (skipped-end behind end s)

pub pragma-open : (names : List (List ℕ)) (t behind end : List ℕ) (at place : ℕ) → IsPragma t behind → AreSkipped behind end
    → IsLineEnd end ⊎ IsOpenComment end → (IsLineEnd end → ⊥) → place + length end ≡ at + length t → Tells names t at Unclosed place
pragma-open names t behind end at place h s (inl l) n e = absurd (n l)
pragma-open names t behind end at place h s (inr o) n e =
    let ends = pragma-end t behind end h s in (
      Unclosed,
      length ends.0,
      IsBadDirective.pragma behind end h s o refl (is-before t end ends),
      ap (λ (k : ℕ). Fault Unclosed k) (place-before at place t end ends e),
    )

-- ---- names

true_is_not : true ≡ false → ⊥
true_is_not e = cc

or_next : (b x : Bool) → b ≡ false → (b || x) ≡ x
or_next true x e = absurd (true_is_not e)
or_next false x e = refl

or_both : (b x : Bool) → (b || x) ≡ false → (b ≡ false) × (x ≡ false)
or_both true x e = absurd (true_is_not e)
or_both false x e = (refl, e)

differs : (w out : List ℕ) (b : Bool) → bytes_eq w out ≡ b → w ≢ out → bytes_eq w out ≡ false
differs w out true e n = absurd (n ((bytes_eq-Decides w out).0 e))
differs w out false e n = e

no_out : (w : List ℕ) (outs : List (List ℕ)) → AllByRecursion (λ out. w ≢ out) outs → list_any (λ other. bytes_eq w other) outs ≡ false
no_out w [] a = refl
no_out w (out ∷ outs) a =
    or_next (bytes_eq w out) (list_any (λ other. bytes_eq w other) outs) (differs w out (bytes_eq w out) refl a.0) ∙ no_out w outs a.1

all_out : (w : List ℕ) (outs : List (List ℕ)) → list_any (λ other. bytes_eq w other) outs ≡ false → AllByRecursion (λ out. w ≢ out) outs
all_out w [] e = tt
all_out w (out ∷ outs) e =
    let both = or_both (bytes_eq w out) (list_any (λ other. bytes_eq w other) outs) e in
    (λ same. true_is_not (sym ((bytes_eq-Decides w out).1 same) ∙ both.0), all_out w outs both.1)

pub out-no-name : (w : List ℕ) → is_out_word w ≡ true → IsName w → ⊥
out-no-name w e n = true_is_not (sym e ∙ no_out w out_words n.no_out_word)

pub is-name : (w : List ℕ) → is_out_word w ≡ false → ((k : Keyword) → w ≢ keyword_text k) → IsName w
is-name w e n = record { no_keyword = n; no_out_word = all_out w out_words e }

pub name-cut : (t word : List ℕ) (w r : List ℕ) → word ≡ take (prefix_len continues_word t) t → IsWord t w r → w ≡ word
name-cut t word w r e i = (word-cut t w r i).0 ∙ sym e

pub name-here : (t word rest : List ℕ) → word ≡ take (prefix_len continues_word t) t → rest ≡ drop (prefix_len continues_word t) t
    → First starts_word word → IsWord t word rest
name-here t word rest e f s =
    let P : List ℕ → Type 0 = λ x. First starts_word x in
    let Q : List ℕ → Type 0 = λ x. IsWord t x rest in
    let R : List ℕ → Type 0 = λ x. IsWord t (take (prefix_len continues_word t) t) x in
    subst Q (sym e) (subst R (sym f) (word-here t (subst P e s)))

-- ---- the tokens of a macro

bad_body : (text : List ℕ) (at place : ℕ) (ls : List Lexeme) (rest : List ℕ) → EndsWith text rest → AreLexemes text ls rest → place + length rest ≡ at + length text
    → (o : Option Answer) → IfSome o (λ fault. (cause : Cause) × (k : ℕ) × IsBadToken rest cause k × (fault ≡ Fault cause (place + k)))
    → IfSome o (λ fault. (cause : Cause) × (k : ℕ) × IsBadBody text cause k × (fault ≡ Fault cause (at + k)))
bad_body text at place ls rest ends a e None h = tt
bad_body text at place ls rest ends a e (Some f) (cause, k, b, is) =
    let place_is : place + k ≡ at + (length ends.0 + k) = omega (arith, place-before at place text rest ends e) in
    let body : IsBadBody text cause (length ends.0 + k) =
    record { ls = ls; rest = rest; m = length ends.0; n = k; lexemes = a; bad = b; before = is-before text rest ends; k_is = refl } in
    (cause, length ends.0 + k, body, is ∙ ap (λ (n : ℕ). Fault cause n) place_is)

pub bad-body : (text : List ℕ) (at place : ℕ) (ls : List Lexeme) (rest : List ℕ) (e : LexError) → EndsWith text rest → AreLexemes text ls rest
    → place + length rest ≡ at + length text
    → IfSome (fault_of e) (λ fault. (cause : Cause) × (k : ℕ) × IsBadToken rest cause k × (fault ≡ Fault cause (place + k)))
    → TellsBody text at e
bad-body text at place ls rest e ends a is h = bad_body text at place ls rest ends a is (fault_of e) h

pub token-shorter : IsOneFront → TakesBytes → (text : List ℕ) (l : Lexeme) (rest : List ℕ) → IsLexeme text l rest → length rest < length text
token-shorter one takes text l rest i =
    elim (takes text (seen.Token l) rest i).1 [
      | inl e ↦ absurd (token-no-line-end one text l rest i (inl e))
      | inr s ↦ s
    ]

-- ---- `#define`

pub define-not : IsOneFront → (names : List (List ℕ)) (t behind : List ℕ) → IsHead (codes "define") t behind
    → ((w r : List ℕ) → IsDefineOf t w r → (IsDefined names w → ⊥) → ⊥) → BeginsDirective names t → ⊥
define-not one names t behind h n (inl (k, r, i, e)) = other-head one t (codes "define") (codes "include") behind i.0 h i.2 refl
define-not one names t behind h n (inr (inl (w, r, d, x))) = n w r d x
define-not one names t behind h n (inr (inr (r, p))) = other-head one t (codes "define") (codes "pragma") behind r h p refl

pub define-names-none : IsOneFront → (t behind start : List ℕ) → IsHead (codes "define") t behind → AreGaps behind start → NoGap start
    → ((w r : List ℕ) → IsWord start w r → IsName w → ⊥) → (w r : List ℕ) → IsDefineOf t w r → ⊥
define-names-none one t behind start h g n none w r (b, m, i, f, j, named, p) =
    let same : m ≡ start = same_start one t (codes "define") b behind m start i h f g (word-no-gap m w r j) n in
    let P : List ℕ → Type 0 = λ x. IsWord x w r in
    none w r (subst P same j) named

pub record SameName (w r word rest : List ℕ) : Type 0 where
  pub name : w ≡ word
  pub rests : r ≡ rest
  pub ends : NotFirst (λ b. b == 40) r

pub define-names : IsOneFront → (t behind start word rest : List ℕ) → IsHead (codes "define") t behind → AreGaps behind start → IsWord start word rest
    → (w r : List ℕ) → IsDefineOf t w r → SameName w r word rest
define-names one t behind start word rest h g i w r (b, m, j, f, k, named, p) =
    let same : m ≡ start = same_start one t (codes "define") b behind m start j h f g (word-no-gap m w r k) (word-no-gap start word rest i) in
    let P : List ℕ → Type 0 = λ x. IsWord x w r in
    let both = one-word start w word r rest (subst P same k) i in
    record { name = both.0; rests = both.1; ends = p }

first_or_not : (rest : List ℕ) → First (λ b. b == 40) rest → NotFirst (λ b. b == 40) rest → ⊥
first_or_not [] y n = y
first_or_not (b ∷ bs) y n = both (b == 40) y n
  where
    both : (x : Bool) → IsTrue x → IsTrue (not x) → ⊥
    both true y n = true_is_not (sym n)
    both false y n = true_is_not (sym y)

pub with-parameters : (w r word rest : List ℕ) → SameName w r word rest → First (λ b. b == 40) rest → ⊥
with-parameters w r word rest s y =
    let P : List ℕ → Type 0 = λ x. NotFirst (λ b. b == 40) x in
    first_or_not rest y (subst P s.rests s.ends)

pub defined-before : (names : List (List ℕ)) (w r word rest : List ℕ) → SameName w r word rest → IsDefined names word → (IsDefined names w → ⊥) → ⊥
defined-before names w r word rest s d n =
    let P : List ℕ → Type 0 = λ x. IsDefined names x in
    n (subst P (sym s.name) d)

pub define-end : (t behind start word rest : List ℕ) → IsHead (codes "define") t behind → AreGaps behind start → IsWord start word rest → EndsWith t rest
define-end t behind start word rest h g i =
    ends-behind t behind rest (head-end (codes "define") t behind h)
    (ends-behind behind start rest (gaps-end behind start g) (word, i.text_is))

pub place-sum : (t r s : List ℕ) (ends : EndsWith t r) (m : ℕ) → IsBefore m r s → IsBefore (length ends.0 + m) t s
place-sum t r s ends m (f, e, k) =
    (ends.0 ++ f, ends.1 ∙ ap (λ (x : List ℕ). ends.0 ++ x) e ∙ sym (append_assoc ends.0 f s), omega (arith, k, length-append ends.0 f))

bad_define : (names : List (List ℕ)) (t word rest : List ℕ) (at place : ℕ) → IsDefineOf t word rest → (IsDefined names word → ⊥) → EndsWith t rest
    → place + length rest ≡ at + length t → (o : Option Answer)
    → IfSome o (λ fault. (cause : Cause) × (k : ℕ) × IsBadBody rest cause k × (fault ≡ Fault cause (place + k)))
    → IfSome o (λ fault. (cause : Cause) × (k : ℕ) × IsBadDirective names t cause k × (fault ≡ Fault cause (at + k)))
bad_define names t word rest at place d n ends e None h = tt
bad_define names t word rest at place d n ends e (Some f) (cause, k, b, is) =
    let sum : length ends.0 + k ≡ length ends.0 + b.m + b.n = omega (arith, b.k_is) in
    let place_is : place + k ≡ at + (length ends.0 + k) = omega (arith, place-before at place t rest ends e) in (
      cause,
      length ends.0 + k,
      IsBadDirective.define word rest b.rest b.ls (length ends.0 + b.m) b.n d n b.lexemes b.bad (place-sum t rest b.rest ends b.m b.before) sum,
      is ∙ ap (λ (x : ℕ). Fault cause x) place_is,
    )

pub bad-define : (names : List (List ℕ)) (t word rest : List ℕ) (at place : ℕ) (e : LexError) → IsDefineOf t word rest → (IsDefined names word → ⊥) → EndsWith t rest
    → place + length rest ≡ at + length t → TellsBody rest place e → TellsDirective names t at e
bad-define names t word rest at place e d n ends is h = bad_define names t word rest at place d n ends is (fault_of e) h

pub define-right : (names : List (List ℕ)) (t word rest name : List ℕ) (body : List Lexeme) (end : List ℕ) → name ≡ word → IsDefineOf t word rest
    → (IsDefined names word → ⊥) → AreLexemes rest body end → IsLineEnd end
    → IsDirective t (Define (record { name = name; body = body })) end × (IsDefined names name → ⊥)
define-right names t word rest name body end e d n a l =
    let P : List ℕ → Type 0 = λ x. IsDirective t (Define (record { name = x; body = body })) end × (IsDefined names x → ⊥) in
    subst P (sym e) (IsDirective.define word rest body d a l refl, n)

-- ---- tests

pub at-true : (P Q : Type 0) (b : Bool) → b ≡ true → MatchBool b P Q → P
at-true P Q true e m = m
at-true P Q false e m = absurd (true_is_not (sym e))

pub at-false : (P Q : Type 0) (b : Bool) → b ≡ false → MatchBool b P Q → Q
at-false P Q true e m = absurd (true_is_not e)
at-false P Q false e m = m

-- ---- any directive

other_word : (w word : List ℕ) (b : Bool) → b ≡ bytes_eq word w → b ≡ false → w ≡ word → ⊥
other_word w word b e n same = true_is_not (sym ((bytes_eq-Decides word w).1 (sym same)) ∙ sym e ∙ n)

pub none-of-three : (names : List (List ℕ)) (t word rest : List ℕ) → ((w r : List ℕ) → IsHead w t r → (w ≡ word) × (r ≡ rest))
    → (codes "include" ≡ word → ⊥) → (codes "define" ≡ word → ⊥) → (codes "pragma" ≡ word → ⊥) → BeginsDirective names t → ⊥
none-of-three names t word rest only i d p (inl (h, r, (b, m, k, g, n), e)) = i (only (codes "include") b k).0
none-of-three names t word rest only i d p (inr (inl (w, r, (b, m, k, g, n, y, u), x))) = d (only (codes "define") b k).0
none-of-three names t word rest only i d p (inr (inr (r, k))) = p (only (codes "pragma") r k).0

hash_text : (t : List ℕ) (b : ℕ) (behind : List ℕ) → t ≡ b ∷ behind → First (λ x. x == 35) t → t ≡ 35 ∷ behind
hash_text t b behind e y =
    let P : List ℕ → Type 0 = λ x. First (λ z. z == 35) x in
    let same : b ≡ 35 = eqb-true b 35 (subst P e y) in
    e ∙ ap (λ z. z ∷ behind) same

pub tells-no-directive : (names : List (List ℕ)) (t : List ℕ) (b : ℕ) (behind word rest : List ℕ) (at : ℕ) (x y z : Bool) → t ≡ b ∷ behind → First (λ x. x == 35) t
    → ((w r : List ℕ) → IsHead w (35 ∷ behind) r → (w ≡ word) × (r ≡ rest))
    → x ≡ bytes_eq word (codes "include") → x ≡ false → y ≡ bytes_eq word (codes "define") → y ≡ false → z ≡ bytes_eq word (codes "pragma") → z ≡ false
    → Tells names t at BadDirective at
tells-no-directive names t b behind word rest at x y z e hash only i ni d nd p np =
    let t_is : t ≡ 35 ∷ behind = hash_text t b behind e hash in
    let P : List ℕ → Type 0 = λ u. BeginsDirective names u in
    let none : BeginsDirective names t → ⊥ = λ begins.
    none-of-three names (35 ∷ behind) word rest only (other_word (codes "include") word x i ni) (other_word (codes "define") word y d nd)
    (other_word (codes "pragma") word z p np) (subst P t_is begins) in
    (BadDirective, 0, IsBadDirective.none behind t_is none refl refl, ap (λ (k : ℕ). Fault BadDirective k) (omega arith))
