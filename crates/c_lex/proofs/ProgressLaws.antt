-- What is known of a source, from one piece to the next, and what is wrong there.
use Rattle.std.proofs.Common.{◌≡◌, ℕ, ◌+◌, ◌≤◌, ◌<◌, ◌⊎◌, Bool, true, false, Option, Some, None, List, [], ◌∷◌, ◌++◌, length, map, refl, sym, ap, subst, ◌∙◌, arith, length-append, inl, inr}
use Rattle.std.specs.Prelude.{IfSome, ◌==◌}
use Rattle.std.proofs.lemmas.List.{append-nil}
use Rattle.c_lex.specs.declared.token.Headers.{Headers}
use Rattle.c_lex.specs.declared.token.Token.{Token as AToken}
use Rattle.c_lex.specs.declared.lexeme.Lexeme.{Lexeme}
use Rattle.c_lex.specs.declared.directives.Directive.{Directive as ADirective}
use Rattle.c_lex.specs.declared.pieces.Progress.{Progress}
use Rattle.c_lex.specs.declared.fronts.Seen.{Seen}
use Rattle.c_lex.specs.declared.fronts.Seen.TheVariants as seen
use Rattle.c_lex.specs.declared.directives.Directive.TheVariants as directive
use Rattle.c_lex.specs.declared.error.LexError.{LexError}
use Rattle.c_lex.specs.Blanks.{NotFirst, IsGap, feeds_in}
use Rattle.c_lex.specs.Lexemes.{IsLexeme}
use Rattle.c_lex.specs.Pieces.{Macro, Piece, Gap, LineEnd, Token, is_first_behind, is_first_after, IsHead, IsDirective, IsPiece, ArePieces}
use Rattle.c_lex.specs.Faults.{Cause, TooMany, IsBadToken, IsBadDirective, IsBadPiece}
use Rattle.c_lex.specs.Tokens.{names_of, no_headers, macros_after, Give, placed, most_tokens, Puts, PassesMost, BeginsRight, IsFault, Answer, Fault, IsAnswer, fault_of}
use Rattle.c_lex.specs.Fronts.{IsSeen, EndsWith, TakesBytes}
use Rattle.c_lex.specs.Progress.{Fresh, piece_of, headers_after, TellsDirective, SoFar}
use Rattle.c_lex.proofs.GapEnds.{gap-ends, gap-shorter}
use Rattle.c_lex.proofs.RowLaws.{pieces-append, first-append, macros-append, headers-append, give-append}
use Rattle.c_lex.proofs.ReadLaws.{ends-behind, gaps-end, skipped-end, lexemes-end, header-end}

-- ---- one more piece

behind_pieces : (f g : Bool) (source text rest : List ℕ) (ps : List Piece) (piece : Piece) → ArePieces true source source ps text → f ≡ is_first_after true ps
    → IsPiece f source text piece rest → ArePieces true source source (ps ++ piece ∷ []) rest
behind_pieces f g source text rest ps piece a e i =
    let P : Bool → Type 0 = λ x. IsPiece x source text piece rest in
    pieces-append true source source ps text (piece ∷ []) rest a (rest, subst P e i, refl)

behind_give : (ms : List Macro) (h : Headers) (ps : List Piece) (out more all : List AToken) (piece : Piece) → Give [] no_headers ps out
    → ms ≡ macros_after [] ps → h ≡ headers_after no_headers ps → Give ms h (piece ∷ []) more → all ≡ out ++ more → Give [] no_headers (ps ++ piece ∷ []) all
behind_give ms h ps out more all piece g e f i is =
    let P : List Macro → Type 0 = λ x. Give x h (piece ∷ []) more in
    let Q : Headers → Type 0 = λ x. Give (macros_after [] ps) x (piece ∷ []) more in
    let R : List AToken → Type 0 = λ x. Give [] no_headers (ps ++ piece ∷ []) x in
    subst R (sym is) (give-append [] no_headers ps out (piece ∷ []) more g (subst Q f (subst P e i)))

pub behind-piece : (source text rest : List ℕ) (p q : Progress) (piece : Piece) (more : List AToken) → SoFar source text p
    → IsPiece p.is_first source text piece rest → EndsWith text rest → Give p.macros p.headers (piece ∷ []) more
    → q.tokens.items ≡ p.tokens.items ++ more → length q.tokens.items ≤ most_tokens
    → q.is_first ≡ is_first_behind p.is_first piece → q.macros ≡ macros_after p.macros (piece ∷ []) → q.headers ≡ headers_after p.headers (piece ∷ [])
    → q.line + feeds_in rest ≡ p.line + feeds_in text → SoFar source rest q
behind-piece source text rest p q piece more s i ends g tokens few first macros headers line =
    let right : BeginsRight source (s.ps ++ piece ∷ []) q.tokens.items rest =
    record {
      pieces = behind_pieces p.is_first q.is_first source text rest s.ps piece s.right.pieces s.is_first_is i;
      give = behind_give p.macros p.headers s.ps p.tokens.items more q.tokens.items piece s.right.give s.macros_are s.headers_are g tokens;
      few = few;
    } in
    record {
      ps = s.ps ++ piece ∷ [];
      right = right;
      ends = ends-behind source text rest s.ends ends;
      is_first_is = first ∙ ap (λ (x : Bool). is_first_behind x piece) s.is_first_is ∙ sym (first-append true s.ps (piece ∷ []));
      macros_are = macros ∙ ap (λ (x : List Macro). macros_after x (piece ∷ [])) s.macros_are ∙ sym (macros-append [] s.ps (piece ∷ []));
      headers_are = headers ∙ ap (λ (x : Headers). headers_after x (piece ∷ [])) s.headers_are ∙ sym (headers-append no_headers s.ps (piece ∷ []));
      line_is = line ∙ s.line_is;
    }

no_tokens : (source text : List ℕ) (p q : Progress) → SoFar source text p → q.tokens ≡ p.tokens
    → (q.tokens.items ≡ p.tokens.items ++ []) × (length q.tokens.items ≤ most_tokens)
no_tokens source text p q s e =
    let items : q.tokens.items ≡ p.tokens.items = ap (λ x. x.items) e in
    let P : List AToken → Type 0 = λ x. length x ≤ most_tokens in
    (items ∙ sym (append-nil p.tokens.items), subst P (sym items) s.right.few)

pub gap-behind : (source text rest : List ℕ) (p q : Progress) → SoFar source text p → IsGap text rest → q ≡ record p { line = q.line }
    → q.line + feeds_in rest ≡ p.line + feeds_in text → SoFar source rest q × (length rest < length text)
gap-behind source text rest p q s g e line =
    let tokens = no_tokens source text p q s (ap (λ (x : Progress). x.tokens) e) in (
      behind-piece source text rest p q Gap [] s (IsPiece.gap g refl) (gap-ends text rest g) refl tokens.0 tokens.1
          (ap (λ (x : Progress). x.is_first) e) (ap (λ (x : Progress). x.macros) e) (ap (λ (x : Progress). x.headers) e) line,
      gap-shorter text rest g,
    )

pub feed-shorter : (text rest : List ℕ) → text ≡ 10 ∷ rest → length rest < length text
feed-shorter text rest e = omega (arith, ap (λ (x : List ℕ). length x) e)

pub line-end-behind : (source text rest : List ℕ) (p q : Progress) → SoFar source text p → text ≡ 10 ∷ rest → q ≡ record p { is_first = true; line = q.line }
    → q.line + feeds_in rest ≡ p.line + feeds_in text → SoFar source rest q × (length rest < length text)
line-end-behind source text rest p q s f e line =
    let tokens = no_tokens source text p q s (ap (λ (x : Progress). x.tokens) e) in (
      behind-piece source text rest p q LineEnd [] s (IsPiece.line_end f refl) (10 ∷ [], f) refl tokens.0 tokens.1
          (ap (λ (x : Progress). x.is_first) e) (ap (λ (x : Progress). x.macros) e) (ap (λ (x : Progress). x.headers) e) line,
      feed-shorter text rest f,
    )

pub token-behind : (source text rest : List ℕ) (p m q : Progress) (l : Lexeme) → SoFar source text p → IsLexeme text l rest → EndsWith text rest
    → Puts p.macros l p.line p.headers p.tokens.items m.tokens.items → length m.tokens.items ≤ most_tokens
    → m ≡ record p { tokens = m.tokens } → q ≡ record m { is_first = false; line = q.line }
    → q.line + feeds_in rest ≡ m.line + feeds_in text → SoFar source rest q
token-behind source text rest p m q l s i ends (ls, become, is) few same e line =
    let items : q.tokens.items ≡ m.tokens.items = ap (λ (x : Progress). x.tokens.items) e in
    let P : List AToken → Type 0 = λ x. length x ≤ most_tokens in
    behind-piece source text rest p q (Token p.line l) (map (placed p.line p.headers) ls) s (IsPiece.token p.line l i s.line_is refl) ends
    (ls, [], become, sym (append-nil (map (placed p.line p.headers) ls)), refl) (items ∙ is) (subst P (sym items) few)
    (ap (λ (x : Progress). x.is_first) e) (ap (λ (x : Progress). x.macros) e ∙ ap (λ (x : Progress). x.macros) same)
    (ap (λ (x : Progress). x.headers) e ∙ ap (λ (x : Progress). x.headers) same) (line ∙ ap (λ (x : Progress). x.line + feeds_in text) same)

-- some text begins with a gap, where neither a token nor a line's end was seen
pub end-or-gap : (text rest : List ℕ) (s : Seen) → IsSeen text s rest → (s ≡ seen.End) ⊎ (s ≡ seen.Gap) → 0 < length text → IsGap text rest
end-or-gap text rest s i (inl e) some =
    let P : Seen → Type 0 = λ x. IsSeen text x rest in
    absurd (omega (arith, some, ap (λ (x : List ℕ). length x) (subst P e i).0))
end-or-gap text rest s i (inr e) some = let P : Seen → Type 0 = λ x. IsSeen text x rest in subst P e i

-- ---- one more directive

pub record Behind (t r : List ℕ) : Type 0 where
  pub behind : List ℕ
  pub text_is : t ≡ 35 ∷ behind
  pub ends : EndsWith behind r

head_behind : (w t r s : List ℕ) → IsHead w t r → EndsWith r s → Behind t s
head_behind w t r s (b, m, e, g, i) ends =
    record { behind = b; text_is = e; ends = ends-behind b m s (gaps-end b m g) (ends-behind m r s (w, i.text_is) ends) }

pub directive-behind-hash : TakesBytes → (t : List ℕ) (p : Piece) (r : List ℕ) → IsDirective t p r → Behind t r
directive-behind-hash takes t p r (IsDirective.include h b (x, m, i, g, n) f e d) =
    head_behind _ t x r i (ends-behind x m r (gaps-end x m g) (ends-behind m b r (header-end m h b n) (gaps-end b r f)))
directive-behind-hash takes t p r (IsDirective.define w b ls (x, m, i, g, n, y, z) f e d) =
    head_behind _ t x r i (ends-behind x m r (gaps-end x m g) (ends-behind m b r (w, n.text_is) (lexemes-end takes b ls r f)))
directive-behind-hash takes t p r (IsDirective.pragma b i s e d) = head_behind _ t b r i (skipped-end b r s)

pub directive-end : (t r : List ℕ) → Behind t r → EndsWith t r
directive-end t r b = ends-behind t b.behind r (35 ∷ [], b.text_is) b.ends

pub directive-shorter : (t r : List ℕ) → Behind t r → length r < length t
directive-shorter t r b =
    omega (arith, ap (λ (x : List ℕ). length x) b.text_is, ap (λ (x : List ℕ). length x) b.ends.1, length-append b.ends.0 r)

give_directive : (ms : List Macro) (h : Headers) (d : ADirective) → Fresh (names_of ms) (piece_of d) → Give ms h (piece_of d ∷ []) []
give_directive ms h (directive.Include k) f = refl
give_directive ms h (directive.Define name body) f = (f, refl)
give_directive ms h directive.Pragma f = refl

not_first : (f : Bool) (d : ADirective) → false ≡ is_first_behind f (piece_of d)
not_first f (directive.Include k) = refl
not_first f (directive.Define name body) = refl
not_first f directive.Pragma = refl

pub directive-behind : TakesBytes → (source text rest : List ℕ) (p q : Progress) (d : ADirective) → SoFar source text p → p.is_first ≡ true
    → IsDirective text (piece_of d) rest → Fresh (names_of p.macros) (piece_of d)
    → q ≡ record p { is_first = false; headers = headers_after p.headers (piece_of d ∷ []); macros = macros_after p.macros (piece_of d ∷ []); line = q.line }
    → q.line + feeds_in rest ≡ p.line + feeds_in text → SoFar source rest q × (length rest < length text)
directive-behind takes source text rest p q d s first i fresh e line =
    let tokens = no_tokens source text p q s (ap (λ (x : Progress). x.tokens) e) in
    let behind = directive-behind-hash takes text (piece_of d) rest i in (
      behind-piece source text rest p q (piece_of d) [] s (IsPiece.directive first i) (directive-end text rest behind)
          (give_directive p.macros p.headers d fresh) tokens.0 tokens.1
          (ap (λ (x : Progress). x.is_first) e ∙ not_first p.is_first d) (ap (λ (x : Progress). x.macros) e) (ap (λ (x : Progress). x.headers) e) line,
      directive-shorter text rest behind,
    )

-- ---- what is wrong

bad_here : (f g : Bool) (ms ns : List Macro) (text : List ℕ) (cause : Cause) (k : ℕ) → f ≡ g → ms ≡ ns → IsBadPiece f (names_of ms) text cause k
    → IsBadPiece g (names_of ns) text cause k
bad_here f g ms ns text cause k e d b =
    let P : Bool → Type 0 = λ x. IsBadPiece x (names_of ms) text cause k in
    let Q : List Macro → Type 0 = λ x. IsBadPiece g (names_of x) text cause k in
    subst Q d (subst P e b)

fault_place : (at k : ℕ) (source text : List ℕ) (ends : EndsWith source text) → at + length text ≡ 0 + length source → at + k ≡ length ends.0 + k
fault_place at k source text ends e = omega (arith, e, ap (λ (x : List ℕ). length x) ends.1, length-append ends.0 text)

pub fault-piece : (source text : List ℕ) (p : Progress) (at : ℕ) (cause : Cause) (k : ℕ) → SoFar source text p → at + length text ≡ 0 + length source
    → IsBadPiece p.is_first (names_of p.macros) text cause k → IsFault source cause (at + k)
fault-piece source text p at cause k s e b = record {
  ps = s.ps;
  out = p.tokens.items;
  front = s.ends.0;
  rest = text;
  k = k;
  source_is = s.ends.1;
  right = s.right;
  bad = inl (bad_here p.is_first (is_first_after true s.ps) p.macros (macros_after [] s.ps) text cause k s.is_first_is s.macros_are b);
  at_is = fault_place at k source text s.ends e;
}

bad_front : (f : Bool) (names : List (List ℕ)) (text : List ℕ) (cause : Cause) (k : ℕ) → (f ≡ true → NotFirst (λ b. b == 35) text) → IsBadToken text cause k
    → IsBadPiece f names text cause k
bad_front true names text cause k n b = inr (n refl, b)
bad_front false names text cause k n b = b

abbrev Tells : List ℕ → Option Answer → Type 0
Tells source o = IfSome o (λ fault. IsAnswer source fault)

front_tells : (source text : List ℕ) (p : Progress) (at : ℕ) → SoFar source text p → at + length text ≡ 0 + length source
    → (p.is_first ≡ true → NotFirst (λ b. b == 35) text) → (o : Option Answer)
    → IfSome o (λ fault. (cause : Cause) × (k : ℕ) × IsBadToken text cause k × (fault ≡ Fault cause (at + k))) → Tells source o
front_tells source text p at s e n None h = tt
front_tells source text p at s e n (Some f) (cause, k, b, is) =
    let P : Answer → Type 0 = λ x. IsAnswer source x in
    subst P (sym is) (fault-piece source text p at cause k s e (bad_front p.is_first (names_of p.macros) text cause k n b))

pub front-tells : (source text : List ℕ) (p : Progress) (at : ℕ) (e : LexError) → SoFar source text p → at + length text ≡ 0 + length source
    → (p.is_first ≡ true → NotFirst (λ b. b == 35) text)
    → IfSome (fault_of e) (λ fault. (cause : Cause) × (k : ℕ) × IsBadToken text cause k × (fault ≡ Fault cause (at + k)))
    → IfSome (fault_of e) (λ fault. IsAnswer source fault)
front-tells source text p at e s is n h = front_tells source text p at s is n (fault_of e) h

bad_first : (f : Bool) (names : List (List ℕ)) (text : List ℕ) (cause : Cause) (k : ℕ) → f ≡ true → IsBadDirective names text cause k
    → IsBadPiece f names text cause k
bad_first true names text cause k e b = inl b
bad_first false names text cause k e b = absurd (clash e)
  where
    clash : false ≡ true → ⊥
    clash e = cc

directive_tells : (source text : List ℕ) (p : Progress) (at : ℕ) → SoFar source text p → at + length text ≡ 0 + length source → p.is_first ≡ true
    → (o : Option Answer)
    → IfSome o (λ fault. (cause : Cause) × (k : ℕ) × IsBadDirective (names_of p.macros) text cause k × (fault ≡ Fault cause (at + k))) → Tells source o
directive_tells source text p at s e first None h = tt
directive_tells source text p at s e first (Some f) (cause, k, b, is) =
    let P : Answer → Type 0 = λ x. IsAnswer source x in
    subst P (sym is) (fault-piece source text p at cause k s e (bad_first p.is_first (names_of p.macros) text cause k first b))

pub directive-tells : (source text : List ℕ) (p : Progress) (at : ℕ) (e : LexError) → SoFar source text p → at + length text ≡ 0 + length source
    → p.is_first ≡ true → TellsDirective (names_of p.macros) text at e → IfSome (fault_of e) (λ fault. IsAnswer source fault)
directive-tells source text p at e s is first h = directive_tells source text p at s is first (fault_of e) h

too_many : (source text rest : List ℕ) (p : Progress) (at : ℕ) (l : Lexeme) → SoFar source text p → at + length text ≡ 0 + length source → IsLexeme text l rest
    → PassesMost p.macros l (length p.tokens.items) → IsFault source TooMany at
too_many source text rest p at l s e i passes =
    let P : List Macro → Type 0 = λ x. PassesMost x l (length p.tokens.items) in
    record {
      ps = s.ps;
      out = p.tokens.items;
      front = s.ends.0;
      rest = text;
      k = 0;
      source_is = s.ends.1;
      right = s.right;
      bad = inr (refl, refl, (p.line, l, rest, IsPiece.token p.line l i s.line_is refl, subst P s.macros_are passes));
      at_is = omega (arith, fault_place at 0 source text s.ends e);
    }

many_tells : (source text rest : List ℕ) (p : Progress) (at : ℕ) (l : Lexeme) → SoFar source text p → at + length text ≡ 0 + length source → IsLexeme text l rest
    → (o : Option Answer) → IfSome o (λ fault. (fault ≡ Fault TooMany at) × PassesMost p.macros l (length p.tokens.items)) → Tells source o
many_tells source text rest p at l s e i None h = tt
many_tells source text rest p at l s e i (Some f) (is, passes) =
    let P : Answer → Type 0 = λ x. IsAnswer source x in
    subst P (sym is) (too_many source text rest p at l s e i passes)

pub many-tells : (source text rest : List ℕ) (p : Progress) (at : ℕ) (l : Lexeme) (e : LexError) → SoFar source text p → at + length text ≡ 0 + length source
    → IsLexeme text l rest → IfSome (fault_of e) (λ fault. (fault ≡ Fault TooMany at) × PassesMost p.macros l (length p.tokens.items))
    → IfSome (fault_of e) (λ fault. IsAnswer source fault)
many-tells source text rest p at l e s is i h = many_tells source text rest p at l s is i (fault_of e) h
