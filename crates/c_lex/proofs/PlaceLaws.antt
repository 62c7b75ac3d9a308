-- What stands at the front of a text excludes all else there, given that a text has one front at most.
use Rattle.std.proofs.Common.{◌≡◌, ℕ, List, [], refl, inl, inr}
use Rattle.c_lex.specs.declared.fronts.Seen.{Seen}
use Rattle.c_lex.specs.declared.fronts.Seen.TheVariants as seen
use Rattle.c_lex.specs.declared.lexeme.Lexeme.{Lexeme}
use Rattle.c_lex.specs.Blanks.{IsLineEnd, IsGap, IsOpenComment}
use Rattle.c_lex.specs.Lexemes.{IsLexeme}
use Rattle.c_lex.specs.Faults.{Cause, Unclosed, IsBadToken, open_comment}
use Rattle.c_lex.specs.Progress.{NoGap}
use Rattle.c_lex.specs.Fronts.{Right, Wrong, IsOneFront}

gap_token : (a b : List ℕ) (l : Lexeme) → Right seen.Gap a ≡ Right (seen.Token l) b → ⊥
gap_token a b l e = cc

gap_end : (a b : List ℕ) → Right seen.Gap a ≡ Right seen.End b → ⊥
gap_end a b e = cc

gap_line_end : (a b : List ℕ) → Right seen.Gap a ≡ Right seen.LineEnd b → ⊥
gap_line_end a b e = cc

token_end : (a b : List ℕ) (l : Lexeme) → Right (seen.Token l) a ≡ Right seen.End b → ⊥
token_end a b l e = cc

token_line_end : (a b : List ℕ) (l : Lexeme) → Right (seen.Token l) a ≡ Right seen.LineEnd b → ⊥
token_line_end a b l e = cc

right_wrong : (s : Seen) (a : List ℕ) (cause : Cause) (k : ℕ) → Right s a ≡ Wrong cause k → ⊥
right_wrong s a cause k e = cc

same_rest : (s : Seen) (a b : List ℕ) → Right s a ≡ Right s b → a ≡ b
same_rest s a b e = cc

same_token : (l m : Lexeme) (a b : List ℕ) → Right (seen.Token l) a ≡ Right (seen.Token m) b → (l ≡ m) × (a ≡ b)
same_token l m a b e =
    let e1 : l ≡ m = cc in
    let e2 : a ≡ b = cc in
    (e1, e2)

same_fault : (c d : Cause) (m n : ℕ) → Wrong c m ≡ Wrong d n → (c ≡ d) × (m ≡ n)
same_fault c d m n e =
    let e1 : c ≡ d = cc in
    let e2 : m ≡ n = cc in
    (e1, e2)

-- ---- gaps

pub one-gap : IsOneFront → (t a b : List ℕ) → IsGap t a → IsGap t b → a ≡ b
one-gap one t a b p q = same_rest seen.Gap a b (one t (Right seen.Gap a) (Right seen.Gap b) p q)

pub gap-no-token : IsOneFront → (t a b : List ℕ) (l : Lexeme) → IsGap t a → IsLexeme t l b → ⊥
gap-no-token one t a b l p q = gap_token a b l (one t (Right seen.Gap a) (Right (seen.Token l) b) p q)

pub gap-not-bad : IsOneFront → (t a : List ℕ) (cause : Cause) (k : ℕ) → IsGap t a → IsBadToken t cause k → ⊥
gap-not-bad one t a cause k p q = right_wrong seen.Gap a cause k (one t (Right seen.Gap a) (Wrong cause k) p q)

pub gap-no-line-end : IsOneFront → (t a : List ℕ) → IsGap t a → IsLineEnd t → ⊥
gap-no-line-end one t a p (inl e) =
    gap_end a [] (one t (Right seen.Gap a) (Right seen.End []) p (e, refl))
gap-no-line-end one t a p (inr (more, e)) =
    gap_line_end a more (one t (Right seen.Gap a) (Right seen.LineEnd more) p e)

-- ---- tokens

pub one-lexeme : IsOneFront → (t : List ℕ) (l m : Lexeme) (a b : List ℕ) → IsLexeme t l a → IsLexeme t m b → (l ≡ m) × (a ≡ b)
one-lexeme one t l m a b p q = same_token l m a b (one t (Right (seen.Token l) a) (Right (seen.Token m) b) p q)

pub token-not-bad : IsOneFront → (t : List ℕ) (l : Lexeme) (a : List ℕ) (cause : Cause) (k : ℕ) → IsLexeme t l a → IsBadToken t cause k → ⊥
token-not-bad one t l a cause k p q =
    right_wrong (seen.Token l) a cause k (one t (Right (seen.Token l) a) (Wrong cause k) p q)

pub token-no-line-end : IsOneFront → (t : List ℕ) (l : Lexeme) (a : List ℕ) → IsLexeme t l a → IsLineEnd t → ⊥
token-no-line-end one t l a p (inl e) =
    token_end a [] l (one t (Right (seen.Token l) a) (Right seen.End []) p (e, refl))
token-no-line-end one t l a p (inr (more, e)) =
    token_line_end a more l (one t (Right (seen.Token l) a) (Right seen.LineEnd more) p e)

-- ---- what is bad

pub one-bad : IsOneFront → (t : List ℕ) (c d : Cause) (m n : ℕ) → IsBadToken t c m → IsBadToken t d n → (c ≡ d) × (m ≡ n)
one-bad one t c d m n p q = same_fault c d m n (one t (Wrong c m) (Wrong d n) p q)

pub bad-no-line-end : IsOneFront → (t : List ℕ) (cause : Cause) (k : ℕ) → IsBadToken t cause k → IsLineEnd t → ⊥
bad-no-line-end one t cause k p (inl e) =
    right_wrong seen.End [] cause k (one t (Right seen.End []) (Wrong cause k) (e, refl) p)
bad-no-line-end one t cause k p (inr (more, e)) =
    right_wrong seen.LineEnd more cause k (one t (Right seen.LineEnd more) (Wrong cause k) e p)

pub open-is-bad : (t : List ℕ) → IsOpenComment t → IsBadToken t Unclosed 0
open-is-bad t o = open_comment o refl refl

-- ---- where gaps or tokens end

abbrev pub NoToken : List ℕ → Type 0
NoToken t = (l : Lexeme) (r : List ℕ) → IsLexeme t l r → ⊥

pub line-end-no-gap : IsOneFront → (t : List ℕ) → IsLineEnd t → NoGap t
line-end-no-gap one t e = λ r g. gap-no-line-end one t r g e

pub line-end-no-token : IsOneFront → (t : List ℕ) → IsLineEnd t → NoToken t
line-end-no-token one t e = λ l r i. token-no-line-end one t l r i e

pub bad-no-gap : IsOneFront → (t : List ℕ) (cause : Cause) (k : ℕ) → IsBadToken t cause k → NoGap t
bad-no-gap one t cause k b = λ r g. gap-not-bad one t r cause k g b

pub bad-no-token : IsOneFront → (t : List ℕ) (cause : Cause) (k : ℕ) → IsBadToken t cause k → NoToken t
bad-no-token one t cause k b = λ l r i. token-not-bad one t l r cause k i b

pub open-no-gap : IsOneFront → (t : List ℕ) → IsOpenComment t → NoGap t
open-no-gap one t o = bad-no-gap one t Unclosed 0 (open-is-bad t o)

pub open-no-line-end : IsOneFront → (t : List ℕ) → IsOpenComment t → IsLineEnd t → ⊥
open-no-line-end one t o e = bad-no-line-end one t Unclosed 0 (open-is-bad t o) e
