-- Each source has an answer, given that each text has a front and each token becomes some list.
use Rattle.std.proofs.Common.{◌≡◌, ℕ, zero, suc, ◌+◌, ◌-◌, ◌≤◌, ◌<◌, ◌⊎◌, Bool, true, false, List, [], ◌∷◌, ◌++◌, length, map, refl, sym, ap, subst, arith, inl, inr, length-append}
use Rattle.std.specs.Prelude.{◌==◌, not, if◌then◌else◌}
use Rattle.std.proofs.lemmas.Bool.{cases_Bool, cases_lt, eqb-true}
use Rattle.std.proofs.lemmas.List.{append-nil, length-map}
use Rattle.std.proofs.lemmas.List.Sums.{sum_by-append}
use Rattle.c_lex.specs.declared.token.Token.{Token as AToken}
use Rattle.c_lex.specs.declared.fronts.Seen.TheVariants as seen
use Rattle.c_lex.specs.declared.lexeme.Lexeme.{Lexeme}
use Rattle.c_lex.specs.Blanks.{NotFirst, IsLineEnd, feeds_in}
use Rattle.c_lex.specs.Pieces.{Piece, Gap, LineEnd, Include, Define, Pragma, Token, is_first_after, IsPiece}
use Rattle.c_lex.specs.Faults.{Cause, TooMany, IsBadToken, IsBadPiece}
use Rattle.c_lex.specs.Tokens.{names_of, no_headers, macros_after, Become, BecomesSome, Give, placed, joined, most_tokens, BeginsRight, IsTooMany, IsFault, Answer, Tokens, Fault, IsAnswer}
use Rattle.c_lex.specs.Fronts.{HasFront, IsOneFront, TakesBytes, EndsWith}
use Rattle.c_lex.specs.Progress.{Fresh, headers_after}
use Rattle.c_lex.proofs.GapEnds.{gap-shorter, gap-ends}
use Rattle.c_lex.proofs.RowLaws.{pieces-append, give-append}
use Rattle.c_lex.proofs.ReadLaws.{ends-behind, token-shorter}
use Rattle.c_lex.proofs.ProgressLaws.{directive-behind-hash, directive-end, directive-shorter, feed-shorter}
use Rattle.c_lex.proofs.Decisions.{end, gap, token, bad, stands}
use Rattle.c_lex.proofs.DirectiveCases.{Directed, right, wrong, directed}

-- ---- the piece at a place

pub data Found (f : Bool) (names : List (List ℕ)) (w t : List ℕ) : Type 0 where
  over : t ≡ [] → Found f names w t
  piece : (p : Piece) (r : List ℕ) → IsPiece f w t p r → Fresh names p → Found f names w t
  fault : (cause : Cause) (k : ℕ) → IsBadPiece f names t cause k → Found f names w t

feeds_fit : (w t : List ℕ) → EndsWith w t → feeds_in t ≤ feeds_in w
feeds_fit w t (front, e) =
    omega (arith, ap (λ (x : List ℕ). feeds_in x) e, sum_by-append (λ (b : ℕ). if b == 10 then 1 else 0) front t)

line_of : (w t : List ℕ) → EndsWith w t → 1 + feeds_in w - feeds_in t + feeds_in t ≡ 1 + feeds_in w
line_of w t ends = omega (arith, feeds_fit w t ends)

bad_at : (f : Bool) (names : List (List ℕ)) (t : List ℕ) (cause : Cause) (k : ℕ) → (f ≡ false) ⊎ NotFirst (λ b. b == 35) t → IsBadToken t cause k
    → IsBadPiece f names t cause k
bad_at true names t cause k (inl e) b = absurd (clash e)
  where
    clash : true ≡ false → ⊥
    clash e = cc
bad_at true names t cause k (inr n) b = inr (n, b)
bad_at false names t cause k n b = b

found_end : (f : Bool) (names : List (List ℕ)) (w t : List ℕ) → IsLineEnd t → Found f names w t
found_end f names w t (inl e) = over e
found_end f names w t (inr (more, e)) = piece LineEnd more (IsPiece.line_end e refl) tt

found_front : HasFront → (f : Bool) (names : List (List ℕ)) (w t : List ℕ) → EndsWith w t → (f ≡ false) ⊎ NotFirst (λ b. b == 35) t → Found f names w t
found_front has f names w t ends n =
    elim (stands has t) [
      | end e ↦ found_end f names w t e
      | gap r g ↦ piece Gap r (IsPiece.gap g refl) tt
      | token l r i ↦
          piece (Token (1 + feeds_in w - feeds_in t) l) r (IsPiece.token (1 + feeds_in w - feeds_in t) l i (line_of w t ends) refl) tt
      | bad cause k b ↦ fault cause k (bad_at f names t cause k n b)
    ]

found_hash : (names : List (List ℕ)) (w t : List ℕ) → Directed names t → Found true names w t
found_hash names w t (right p r i f) = piece p r (IsPiece.directive refl i) f
found_hash names w t (wrong cause k b) = fault cause k (inl b)

found : HasFront → IsOneFront → TakesBytes → (f : Bool) (names : List (List ℕ)) (w t : List ℕ) → EndsWith w t → Found f names w t
found has one takes false names w t ends = found_front has false names w t ends (inl refl)
found has one takes true names w [] ends = over refl
found has one takes true names w (b ∷ bs) ends =
    elim (cases_Bool (b == 35)) [
      | inl y ↦
          let P : ℕ → Type 0 = λ x. Directed names (x ∷ bs) in
          found_hash names w (b ∷ bs) (subst P (sym (eqb-true b 35 y)) (directed has one takes names bs))
      | inr n ↦ found_front has true names w (b ∷ bs) ends (inr (ap not n))
    ]

-- ---- what a piece takes

pub record Shorter (t r : List ℕ) : Type 0 where
  pub ends : EndsWith t r
  pub less : length r < length t

piece_shorter : IsOneFront → TakesBytes → (f : Bool) (w t : List ℕ) (p : Piece) (r : List ℕ) → IsPiece f w t p r → Shorter t r
piece_shorter one takes f w t p r (IsPiece.gap g e) = record { ends = gap-ends t r g; less = gap-shorter t r g }
piece_shorter one takes f w t p r (IsPiece.line_end e d) = record { ends = (10 ∷ [], e); less = feed-shorter t r e }
piece_shorter one takes f w t p r (IsPiece.directive y i) =
    let behind = directive-behind-hash takes t p r i in
    record { ends = directive-end t r behind; less = directive-shorter t r behind }
piece_shorter one takes f w t p r (IsPiece.token line l i e d) =
    record { ends = (takes t (seen.Token l) r i).0; less = token-shorter one takes t l r i }

-- ---- what a piece gives

pub data Given (source : List ℕ) (ps : List Piece) (out : List AToken) (t : List ℕ) (p : Piece) : Type 0 where
  few : (more : List AToken) → Give (macros_after [] ps) (headers_after no_headers ps) (p ∷ []) more → length (out ++ more) ≤ most_tokens → Given source ps out t p
  much : IsTooMany source ps out t → Given source ps out t p

none_more : (out : List AToken) → length out ≤ most_tokens → length (out ++ []) ≤ most_tokens
none_more out f = let P : List AToken → Type 0 = λ x. length x ≤ most_tokens in subst P (sym (append-nil out)) f

given_token : (source : List ℕ) (ps : List Piece) (out : List AToken) (t : List ℕ) (line : ℕ) (l : Lexeme) (r : List ℕ)
    → IsPiece (is_first_after true ps) source t (Token line l) r → (ls : List Lexeme) → Become (macros_after [] ps) [] (l ∷ []) ls
    → Given source ps out t (Token line l)
given_token source ps out t line l r i ls become =
    elim (cases_lt most_tokens (length out + length ls)) [
      | inl many ↦ much (line, l, r, i, (ls, become, many))
      | inr fits ↦
          few (map (placed line (headers_after no_headers ps)) ls)
          (ls, [], become, sym (append-nil (map (placed line (headers_after no_headers ps)) ls)), refl)
          (omega (
            arith,
            fits,
            length-append out (map (placed line (headers_after no_headers ps)) ls),
            length-map ls (placed line (headers_after no_headers ps)),
          ))
    ]

given : BecomesSome → (source : List ℕ) (ps : List Piece) (out : List AToken) (t : List ℕ) (p : Piece) (r : List ℕ) → length out ≤ most_tokens
    → IsPiece (is_first_after true ps) source t p r → Fresh (names_of (macros_after [] ps)) p → Given source ps out t p
given some source ps out t Gap r f i n = few [] refl (none_more out f)
given some source ps out t LineEnd r f i n = few [] refl (none_more out f)
given some source ps out t (Include h) r f i n = few [] refl (none_more out f)
given some source ps out t (Define m) r f i n = few [] (n, refl) (none_more out f)
given some source ps out t Pragma r f i n = few [] refl (none_more out f)
given some source ps out t (Token line l) r f i n =
    let (ls, become) = some (macros_after [] ps) [] (l ∷ []) in
    given_token source ps out t line l r i ls become

-- ---- to the answer

one_more : (source : List ℕ) (ps : List Piece) (out : List AToken) (t : List ℕ) (p : Piece) (r : List ℕ) (more : List AToken) → BeginsRight source ps out t
    → IsPiece (is_first_after true ps) source t p r → Give (macros_after [] ps) (headers_after no_headers ps) (p ∷ []) more
    → length (out ++ more) ≤ most_tokens → BeginsRight source (ps ++ p ∷ []) (out ++ more) r
one_more source ps out t p r more b i g f = record {
  pieces = pieces-append true source source ps t (p ∷ []) r b.pieces (r, i, refl);
  give = give-append [] no_headers ps out (p ∷ []) more b.give g;
  few = f;
}

told_fault : (source : List ℕ) (ps : List Piece) (out : List AToken) (t : List ℕ) (cause : Cause) (k : ℕ) → BeginsRight source ps out t
    → (ends : EndsWith source t)
    → IsBadPiece (is_first_after true ps) (names_of (macros_after [] ps)) t cause k ⊎ ((cause ≡ TooMany) × (k ≡ 0) × IsTooMany source ps out t)
    → (answer : Answer) × IsAnswer source answer
told_fault source ps out t cause k b ends w =
    let is : IsFault source cause (length ends.0 + k) =
    record { ps = ps; out = out; front = ends.0; rest = t; k = k; source_is = ends.1; right = b; bad = w; at_is = refl } in
    (Fault cause (length ends.0 + k), is)

told_end : (source : List ℕ) (ps : List Piece) (out : List AToken) (t : List ℕ) → BeginsRight source ps out t → t ≡ [] → (answer : Answer) × IsAnswer source answer
told_end source ps out t b e =
    let P : List ℕ → Type 0 = λ x. BeginsRight source ps out x in
    (Tokens (joined out), (ps, out, subst P e b, refl))

answer_from : HasFront → IsOneFront → TakesBytes → BecomesSome → (n : ℕ) (source : List ℕ) (ps : List Piece) (out : List AToken) (t : List ℕ) → length t ≤ n
    → BeginsRight source ps out t → EndsWith source t → (answer : Answer) × IsAnswer source answer
answer_from has one takes some zero source ps out t f b ends = told_end source ps out t b (nothing t f)
  where
    nothing : (t : List ℕ) → length t ≤ 0 → t ≡ []
    nothing [] f = refl
    nothing (x ∷ xs) f = absurd (omega (arith, f))
answer_from has one takes some (suc n) source ps out t f b ends =
    elim (found has one takes (is_first_after true ps) (names_of (macros_after [] ps)) source t ends) [
      | over e ↦ told_end source ps out t b e
      | fault cause k w ↦ told_fault source ps out t cause k b ends (inl w)
      | piece p r i fresh ↦
          elim (given some source ps out t p r b.few i fresh) [
            | much m ↦ told_fault source ps out t TooMany 0 b ends (inr (refl, refl, m))
            | few more g fits ↦
                let s = piece_shorter one takes (is_first_after true ps) source t p r i in
                answer_from has one takes some n source (ps ++ p ∷ []) (out ++ more) r (omega (arith, f, s.less))
                (one_more source ps out t p r more b i g fits) (ends-behind source t r ends s.ends)
          ]
    ]

pub some-answer : HasFront → IsOneFront → TakesBytes → BecomesSome → (source : List ℕ) → (answer : Answer) × IsAnswer source answer
some-answer has one takes some source =
    answer_from has one takes some (length source) source [] [] source (omega arith) (record { pieces = refl; give = refl; few = omega arith }) ([], refl)
