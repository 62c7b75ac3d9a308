-- At a `#` that may begin a directive stands a directive, or what is wrong with it.
use Rattle.std.proofs.Common.{◌≡◌, ℕ, ◌+◌, List, ◌∷◌, ◌++◌, length, take, drop, refl, sym, ap, subst, ◌∙◌, arith, inl, inr}
use Rattle.std.specs.Prelude.{codes}
use Rattle.std.specs.List.{prefix_len}
use Rattle.c_lex.specs.declared.token.Header.{Header}
use Rattle.c_lex.specs.declared.token.Keyword.{Keyword}
use Rattle.c_lex.specs.declared.token.TokenKind.TheVariants as kind
use Rattle.c_lex.specs.declared.lexeme.Lexeme.{Lexeme}
use Rattle.c_lex.specs.Blanks.{First, AreGaps}
use Rattle.c_lex.specs.Words.{IsWord, IsName, starts_word, continues_word}
use Rattle.c_lex.specs.Lexemes.{IsLexeme, name_token}
use Rattle.c_lex.specs.Pieces.{Piece, Include, Define, Pragma, IsHead, IsDefineOf, AreLexemes, IsDirective}
use Rattle.c_lex.specs.Faults.{Cause, Directive, Unclosed, IsDefined, BeginsDirective, IsBadDirective}
use Rattle.c_lex.specs.Fronts.{HasFront, IsOneFront, TakesBytes}
use Rattle.c_lex.specs.Progress.{NoGap, NamesHeader, Fresh}
use Rattle.c_lex.proofs.PlaceLaws.{one-lexeme, gap-no-token, token-not-bad, token-no-line-end}
use Rattle.c_lex.proofs.HeadLaws.{head-is, head-only}
use Rattle.c_lex.proofs.ReadLaws.{is-before, define-end, include-end, pragma-end, lexemes-end, include-names-none, include-ends-not, define-not, define-names-none, define-names, with-parameters, defined-before, none-of-three, place-sum}
use Rattle.c_lex.proofs.Decisions.{end, gap, token, bad, stands, EndsBody, gaps-run, skip-run, lexemes-run, line-end-or-not, open-or-not, paren-or-not, defined-or-not, header-or-not, same-or-not}

-- a directive, or what is wrong with it
pub data Directed (names : List (List ℕ)) (t : List ℕ) : Type 0 where
  right : (p : Piece) (r : List ℕ) → IsDirective t p r → Fresh names p → Directed names t
  wrong : (cause : Cause) (k : ℕ) → IsBadDirective names t cause k → Directed names t

is_none : (names : List (List ℕ)) (bs : List ℕ) → (BeginsDirective names (35 ∷ bs) → ⊥) → Directed names (35 ∷ bs)
is_none names bs n = wrong Directive 0 (IsBadDirective.none bs refl n refl refl)

-- ---- `#include`

include_ended : IsOneFront → (names : List (List ℕ)) (bs behind start : List ℕ) (h : Header) (rest last : List ℕ) → IsHead (codes "include") (35 ∷ bs) behind
    → AreGaps behind start → NamesHeader start h rest → AreGaps rest last → NoGap last → Directed names (35 ∷ bs)
include_ended one names bs behind start h rest last i g named f n =
    elim (line-end-or-not last) [
      | inl e ↦ right (Include h) last (IsDirective.include h rest (behind, start, i, g, named) f e refl) tt
      | inr no_end ↦
          elim (open-or-not last n) [
            | inl o ↦
                let ends = include-end (35 ∷ bs) behind start h rest last i g named f in
                wrong Unclosed (length ends.0)
                (IsBadDirective.include h rest last (behind, start, i, g, named) f o refl (is-before (35 ∷ bs) last ends))
            | inr no_comment ↦
                is_none names bs (include-ends-not one names (35 ∷ bs) behind start h rest last i g named f n no_end no_comment)
          ]
    ]

include_case : IsOneFront → (names : List (List ℕ)) (bs behind : List ℕ) → IsHead (codes "include") (35 ∷ bs) behind → Directed names (35 ∷ bs)
include_case one names bs behind i =
    let (start, g, n) = gaps-run (length behind) behind (omega arith) in
    elim (header-or-not start) [
      | inl (h, rest, named) ↦
          let (last, f, m) = gaps-run (length rest) rest (omega arith) in
          include_ended one names bs behind start h rest last i g named f m
      | inr none ↦ is_none names bs (include-names-none one names (35 ∷ bs) behind start i g n none)
    ]

-- ---- `#pragma`

pragma_case : (names : List (List ℕ)) (bs behind : List ℕ) → IsHead (codes "pragma") (35 ∷ bs) behind → Directed names (35 ∷ bs)
pragma_case names bs behind i =
    let (last, s, ends) = skip-run (length behind) behind (omega arith) in
    elim ends [
      | inl e ↦ right Pragma last (IsDirective.pragma behind i s e refl) tt
      | inr o ↦
          let before = pragma-end (35 ∷ bs) behind last i s in
          wrong Unclosed (length before.0) (IsBadDirective.pragma behind last i s o refl (is-before (35 ∷ bs) last before))
    ]

-- ---- `#define`

-- a name stands there, or none
pub data Named (t : List ℕ) : Type 0 where
  some : (w r : List ℕ) → IsWord t w r → IsName w → Named t
  none : ((w r : List ℕ) → IsWord t w r → IsName w → ⊥) → Named t

other_kind : (l m : Lexeme) → l ≡ m → l.kind ≡ m.kind
other_kind l m e = ap (λ (x : Lexeme). x.kind) e

name_lexeme : (t w r : List ℕ) → IsWord t w r → IsName w → IsLexeme t (name_token w) r
name_lexeme t w r i n = IsLexeme.name w i n refl

no_keyword : (k : Keyword) → kind.Keyword k ≡ kind.Name → ⊥
no_keyword k e = cc

named_token : IsOneFront → (t : List ℕ) (l : Lexeme) (r : List ℕ) → IsLexeme t l r → Named t
named_token one t l r (IsLexeme.name w i n e) = some w r i n
named_token one t l r (IsLexeme.keyword k i e) =
    none (λ w s j n. kinds (sym (other_kind l _ e) ∙ other_kind l (name_token w) (one-lexeme one t l (name_token w) r s (IsLexeme.keyword k i e) (name_lexeme t w s j n)).0))
  where
    kinds : kind.Keyword k ≡ kind.Name → ⊥
    kinds e = cc
named_token one t l r (IsLexeme.number v y i e) =
    none (λ w s j n. kinds (sym (other_kind l _ e) ∙ other_kind l (name_token w) (one-lexeme one t l (name_token w) r s (IsLexeme.number v y i e) (name_lexeme t w s j n)).0))
  where
    kinds : kind.Number y ≡ kind.Name → ⊥
    kinds e = cc
named_token one t l r (IsLexeme.character b body x i e) =
    none (λ w s j n. kinds (sym (other_kind l _ e) ∙ other_kind l (name_token w) (one-lexeme one t l (name_token w) r s (IsLexeme.character b body x i e) (name_lexeme t w s j n)).0))
  where
    kinds : kind.Character ≡ kind.Name → ⊥
    kinds e = cc
named_token one t l r (IsLexeme.string bytes body x i e) =
    none (λ w s j n. kinds (sym (other_kind l _ e) ∙ other_kind l (name_token w) (one-lexeme one t l (name_token w) r s (IsLexeme.string bytes body x i e) (name_lexeme t w s j n)).0))
  where
    kinds : kind.Text ≡ kind.Name → ⊥
    kinds e = cc
named_token one t l r (IsLexeme.mark m i x e) =
    none (λ w s j n. kinds (sym (other_kind l _ e) ∙ other_kind l (name_token w) (one-lexeme one t l (name_token w) r s (IsLexeme.mark m i x e) (name_lexeme t w s j n)).0))
  where
    kinds : kind.Mark m ≡ kind.Name → ⊥
    kinds e = cc

named : HasFront → IsOneFront → (t : List ℕ) → Named t
named has one t =
    elim (stands has t) [
      | end e ↦ none (λ w r i n. token-no-line-end one t (name_token w) r (name_lexeme t w r i n) e)
      | gap r g ↦ none (λ w s i n. gap-no-token one t r s (name_token w) g (name_lexeme t w s i n))
      | token l r i ↦ named_token one t l r i
      | bad cause k b ↦ none (λ w r i n. token-not-bad one t (name_token w) r cause k (name_lexeme t w r i n) b)
    ]

define_body : HasFront → IsOneFront → TakesBytes → (names : List (List ℕ)) (bs w r : List ℕ) → IsDefineOf (35 ∷ bs) w r → (IsDefined names w → ⊥)
    → (before : (front : List ℕ) × (35 ∷ bs ≡ front ++ r)) → (ls : List Lexeme) (s : List ℕ) → AreLexemes r ls s → EndsBody s → Directed names (35 ∷ bs)
define_body has one takes names bs w r d n before ls s a (inl e) =
    right (Define (record { name = w; body = ls })) s (IsDirective.define w r ls d a e refl) n
define_body has one takes names bs w r d n before ls s a (inr (cause, k, b)) =
    let ends = lexemes-end takes r ls s a in
    wrong cause (length before.0 + length ends.0 + k)
    (IsBadDirective.define w r s ls (length before.0 + length ends.0) k d n a b (place-sum (35 ∷ bs) r s before (length ends.0) (is-before r s ends)) refl)

define_named : HasFront → IsOneFront → TakesBytes → (names : List (List ℕ)) (bs behind start w r : List ℕ) → IsHead (codes "define") (35 ∷ bs) behind
    → AreGaps behind start → IsWord start w r → IsName w → Directed names (35 ∷ bs)
define_named has one takes names bs behind start w r h g i n =
    elim (paren-or-not r) [
      | inl y ↦
          is_none names bs
          (define-not one names (35 ∷ bs) behind h
          (λ v s d m. with-parameters v s w r (define-names one (35 ∷ bs) behind start w r h g i v s d) y))
      | inr p ↦
          elim (defined-or-not names w) [
            | inl before ↦
                is_none names bs
                (define-not one names (35 ∷ bs) behind h
                (λ v s d m. defined-before names v s w r (define-names one (35 ∷ bs) behind start w r h g i v s d) before m))
            | inr new ↦
                let (ls, s, a, ends) = lexemes-run has one takes (length r) r (omega arith) in
                define_body has one takes names bs w r (behind, start, h, g, i, n, p) new (define-end (35 ∷ bs) behind start w r h g i) ls s a ends
          ]
    ]

define_case : HasFront → IsOneFront → TakesBytes → (names : List (List ℕ)) (bs behind : List ℕ) → IsHead (codes "define") (35 ∷ bs) behind → Directed names (35 ∷ bs)
define_case has one takes names bs behind h =
    let (start, g, n) = gaps-run (length behind) behind (omega arith) in
    elim (named has one start) [
      | some w r i m ↦ define_named has one takes names bs behind start w r h g i m
      | none no_name ↦
          is_none names bs
          (define-not one names (35 ∷ bs) behind h (λ w r d m. define-names-none one (35 ∷ bs) behind start h g n no_name w r d))
    ]

-- ---- any of them

of_word : HasFront → IsOneFront → TakesBytes → (names : List (List ℕ)) (bs word rest : List ℕ)
    → (First starts_word word → IsHead word (35 ∷ bs) rest) → ((w r : List ℕ) → IsHead w (35 ∷ bs) r → (w ≡ word) × (r ≡ rest))
    → Directed names (35 ∷ bs)
of_word has one takes names bs word rest is only =
    elim (same-or-not (codes "include") word) [
      | inl e ↦ include_case one names bs rest (here (codes "include") e refl)
      | inr i ↦
          elim (same-or-not (codes "define") word) [
            | inl e ↦ define_case has one takes names bs rest (here (codes "define") e refl)
            | inr d ↦
                elim (same-or-not (codes "pragma") word) [
                  | inl e ↦ pragma_case names bs rest (here (codes "pragma") e refl)
                  | inr p ↦ is_none names bs (none-of-three names (35 ∷ bs) word rest only i d p)
                ]
          ]
    ]
  where
    here : (w : List ℕ) → w ≡ word → First starts_word w → IsHead w (35 ∷ bs) rest
    here w e s =
        let P : List ℕ → Type 0 = λ x. First starts_word x in
        let Q : List ℕ → Type 0 = λ x. IsHead x (35 ∷ bs) rest in
        subst Q (sym e) (is (subst P e s))

pub directed : HasFront → IsOneFront → TakesBytes → (names : List (List ℕ)) (bs : List ℕ) → Directed names (35 ∷ bs)
directed has one takes names bs =
    let (mid, g, n) = gaps-run (length bs) bs (omega arith) in
    of_word has one takes names bs (take (prefix_len continues_word mid) mid) (drop (prefix_len continues_word mid) mid)
    (λ s. head-is bs mid (take (prefix_len continues_word mid) mid) (drop (prefix_len continues_word mid) mid) g refl refl s)
    (λ w r h. head-only one bs mid (take (prefix_len continues_word mid) mid) (drop (prefix_len continues_word mid) mid) w r g n refl refl h)
