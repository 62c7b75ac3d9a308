-- A source has one answer, given that a text has one front at most and that tokens become one list.
use Rattle.std.proofs.Common.{◌≡◌, ℕ, ◌+◌, ◌≤◌, ◌<◌, ◌⊎◌, Option, Some, None, Bool, true, List, [], ◌∷◌, ◌++◌, length, map, refl, sym, ap, subst, ◌∙◌, arith, length-append, append_assoc, inl, inr}
use Rattle.std.proofs.lemmas.List.{append-nil, append_cancel_right, length-map}
use Rattle.std.specs.Prelude.{IfSome}
use Rattle.c_lex.specs.declared.error.LexError.{LexError}
use Rattle.c_lex.specs.declared.token.Headers.{Headers}
use Rattle.c_lex.specs.declared.token.Token.{Token as AToken}
use Rattle.c_lex.specs.declared.lexeme.Lexeme.{Lexeme}
use Rattle.c_lex.specs.Pieces.{Macro, Piece, Token, is_first_behind, is_first_after, ArePieces}
use Rattle.c_lex.specs.Faults.{Cause, TooMany, IsBadPiece}
use Rattle.c_lex.specs.Tokens.{names_of, AreDistinct, BecomesOne, no_headers, placed, macros_after, Give, joined, most_tokens, PassesMost, BeginsRight, IsTooMany, IsFault, Answer, Tokens, Fault, IsAnswer, fault_of}
use Rattle.c_lex.specs.Fronts.{IsOneFront}
use Rattle.c_lex.specs.Progress.{headers_after}
use Rattle.c_lex.proofs.PieceLaws.{one-piece, piece-not-bad, one-bad-piece, end-no-piece, end-not-bad}
use Rattle.c_lex.proofs.RowLaws.{macros-append, headers-append, split, fresh, distinct-behind, distinct-after, one-gives}

-- ---- of two beginnings of a source, one goes on behind the other

-- the pieces qs are the pieces ps and more behind them
pub record GoesOn (f : Bool) (w : List ℕ) (ms : List Macro) (h : Headers) (ps : List Piece) (out : List AToken) (r : List ℕ) (qs : List Piece) (all : List AToken) (s : List ℕ) : Type 0 where
  pub more : List Piece
  pub others : List AToken
  pub pieces_are : qs ≡ ps ++ more
  pub behind : ArePieces (is_first_after f ps) w r more s
  pub give : Give (macros_after ms ps) (headers_after h ps) more others
  pub all_is : all ≡ out ++ others

from_start : (f : Bool) (w t : List ℕ) (ms : List Macro) (h : Headers) (out : List AToken) (r : List ℕ) (qs : List Piece) (all : List AToken) (s : List ℕ)
    → t ≡ r → out ≡ [] → ArePieces f w t qs s → Give ms h qs all → GoesOn f w ms h [] out r qs all s
from_start f w t ms h out r qs all s e n a g = record {
  more = qs;
  others = all;
  pieces_are = refl;
  behind = let P : List ℕ → Type 0 = λ x. ArePieces f w x qs s in subst P e a;
  give = g;
  all_is = sym (ap (λ (v : List AToken). v ++ all) n);
}

behind_piece : (f : Bool) (w : List ℕ) (ms : List Macro) (h : Headers) (p : Piece) (ps : List Piece) (first out1 out : List AToken) (r : List ℕ)
    (qs : List Piece) (all1 all : List AToken) (s : List ℕ) → out ≡ first ++ out1 → all ≡ first ++ all1
    → GoesOn (is_first_behind f p) w (macros_after ms (p ∷ [])) (headers_after h (p ∷ [])) ps out1 r qs all1 s
    → GoesOn f w ms h (p ∷ ps) out r (p ∷ qs) all s
behind_piece f w ms h p ps first out1 out r qs all1 all s e d g =
    let P : List Macro → Type 0 = λ x. Give x (headers_after (headers_after h (p ∷ [])) ps) g.more g.others in
    let Q : Headers → Type 0 = λ x. Give (macros_after ms (p ∷ ps)) x g.more g.others in
    record {
      more = g.more;
      others = g.others;
      pieces_are = ap (λ (x : List Piece). p ∷ x) g.pieces_are;
      behind = g.behind;
      give = subst Q (sym (headers-append h (p ∷ []) ps)) (subst P (sym (macros-append ms (p ∷ []) ps)) g.give);
      all_is = d ∙ ap (λ (x : List AToken). first ++ x) g.all_is ∙ sym (append_assoc first out1 g.others) ∙ ap (λ (x : List AToken). x ++ g.others) (sym e);
    }

abbrev pub EitherGoesOn : Bool → List ℕ → List Macro → Headers → List Piece → List AToken → List ℕ → List Piece → List AToken → List ℕ → Type 0
EitherGoesOn f w ms h ps out r qs all s = GoesOn f w ms h ps out r qs all s ⊎ GoesOn f w ms h qs all s ps out r

either_behind : (f : Bool) (w : List ℕ) (ms : List Macro) (h : Headers) (p : Piece) (ps : List Piece) (first out1 out : List AToken) (r : List ℕ)
    (qs : List Piece) (all1 all : List AToken) (s : List ℕ) → out ≡ first ++ out1 → all ≡ first ++ all1
    → EitherGoesOn (is_first_behind f p) w (macros_after ms (p ∷ [])) (headers_after h (p ∷ [])) ps out1 r qs all1 s
    → EitherGoesOn f w ms h (p ∷ ps) out r (p ∷ qs) all s
either_behind f w ms h p ps first out1 out r qs all1 all s e d (inl g) =
    inl (behind_piece f w ms h p ps first out1 out r qs all1 all s e d g)
either_behind f w ms h p ps first out1 out r qs all1 all s e d (inr g) =
    inr (behind_piece f w ms h p qs first all1 all s ps out1 out r d e g)

pub either-goes-on : IsOneFront → BecomesOne → (f : Bool) (w t : List ℕ) (ms : List Macro) (h : Headers) → AreDistinct ms
    → (ps : List Piece) (out : List AToken) (r : List ℕ) (qs : List Piece) (all : List AToken) (s : List ℕ)
    → ArePieces f w t ps r → Give ms h ps out → ArePieces f w t qs s → Give ms h qs all
    → EitherGoesOn f w ms h ps out r qs all s
either-goes-on one same f w t ms h d [] out r qs all s a g b k = inl (from_start f w t ms h out r qs all s a g b k)
either-goes-on one same f w t ms h d (p ∷ ps) out r [] all s a g b k =
    inr (from_start f w t ms h all s (p ∷ ps) out r b k a g)
either-goes-on one same f w t ms h d (p ∷ ps) out r (q ∷ qs) all s (mid, i, a) g (end, j, b) k =
    let (q_is, mid_is) = one-piece one f w t q p end mid j i in
    let P : Piece → Type 0 = λ x. Give ms h (x ∷ qs) all in
    let F : Piece → Type 0 = λ x. ArePieces (is_first_behind f x) w end qs s in
    let E : List ℕ → Type 0 = λ x. ArePieces (is_first_behind f p) w x qs s in
    let x = split ms h p ps out g in
    let y = split ms h p qs all (subst P q_is k) in
    let firsts : y.first ≡ x.first = one-gives same ms h p y.first x.first d y.gives x.gives in
    let Q : Piece → Type 0 = λ z. EitherGoesOn f w ms h (p ∷ ps) out r (z ∷ qs) all s in
    subst Q (sym q_is)
    (either_behind f w ms h p ps x.first x.others out r qs y.others all s x.out_is
    (y.out_is ∙ ap (λ (z : List AToken). z ++ y.others) firsts)
    (either-goes-on one same (is_first_behind f p) w mid (macros_after ms (p ∷ [])) (headers_after h (p ∷ []))
    (distinct-behind ms h p x.first d x.gives) ps x.others r qs y.others s a x.give (subst E mid_is (subst F q_is b)) y.give))

-- ---- where a source is told to end

-- Behind these pieces and tokens stands what the answer says: the end, or what is wrong.
pub data Stops (source : List ℕ) (ps : List Piece) (out : List AToken) (rest : List ℕ) (answer : Answer) : Type 0 where
  done : rest ≡ [] → answer ≡ Tokens (joined out) → Stops source ps out rest answer
  bad : (front : List ℕ) (cause : Cause) (k : ℕ) → source ≡ front ++ rest
      → IsBadPiece (is_first_after true ps) (names_of (macros_after [] ps)) rest cause k
      → answer ≡ Fault cause (length front + k) → Stops source ps out rest answer
  many : (front : List ℕ) → source ≡ front ++ rest → IsTooMany source ps out rest
      → answer ≡ Fault TooMany (length front + 0) → Stops source ps out rest answer

pub record StopsAt (source : List ℕ) (answer : Answer) : Type 0 where
  pub ps : List Piece
  pub out : List AToken
  pub rest : List ℕ
  pub right : BeginsRight source ps out rest
  pub stops : Stops source ps out rest answer

same_fault : (c d : Cause) (a b m n : ℕ) → c ≡ d → a ≡ b + m → m ≡ n → Fault c a ≡ Fault d (b + n)
same_fault c d a b m n e f g = cc

stop_at_fault : (source : List ℕ) (cause : Cause) (at : ℕ) → IsFault source cause at → StopsAt source (Fault cause at)
stop_at_fault source cause at i = record {
  ps = i.ps;
  out = i.out;
  rest = i.rest;
  right = i.right;
  stops =
      elim i.bad [
        | inl b ↦ bad i.front cause i.k i.source_is b (same_fault cause cause at (length i.front) i.k i.k refl i.at_is refl)
        | inr (c, z, m) ↦ many i.front i.source_is m (same_fault cause TooMany at (length i.front) i.k 0 c i.at_is z)
      ];
}

pub stops-at : (source : List ℕ) (answer : Answer) → IsAnswer source answer → StopsAt source answer
stops-at source (Tokens tokens) (ps, out, right, e) =
    record { ps = ps; out = out; rest = []; right = right; stops = done refl (ap (λ (x : List AToken). Tokens x) e) }
stops-at source (Fault cause at) i = stop_at_fault source cause at i

-- ---- nothing is right behind that

too_long : (ls ks : List Lexeme) (line : ℕ) (h : Headers) (out first more others : List AToken) → ls ≡ ks → most_tokens < length out + length ks
    → first ≡ map (placed line h) ls ++ more → length (out ++ (first ++ others)) ≤ most_tokens → ⊥
too_long ls ks line h out first more others e passes f few =
    omega (
      arith,
      passes,
      few,
      ap (λ (x : List Lexeme). length x) e,
      ap (λ (x : List AToken). length x) f,
      length-append out (first ++ others),
      length-append first others,
      length-append (map (placed line h) ls) more,
      length-map ls (placed line h),
    )

no_token_more : BecomesOne → (ms : List Macro) (h : Headers) (p : Piece) (line : ℕ) (l : Lexeme) (out first others : List AToken) → AreDistinct ms
    → p ≡ Token line l → Give ms h (p ∷ []) first → PassesMost ms l (length out) → length (out ++ (first ++ others)) ≤ most_tokens → ⊥
no_token_more same ms h p line l out first others d e g (ks, j, passes) few =
    let P : Piece → Type 0 = λ x. Give ms h (x ∷ []) first in
    let (ls, more, i, f, n) = subst P e g in
    too_long ls ks line h out first more others (same ms [] (l ∷ []) ls ks d i j) passes f few

pub none-behind : IsOneFront → BecomesOne → (source : List ℕ) (ps : List Piece) (out : List AToken) (rest : List ℕ) (answer : Answer)
    → Stops source ps out rest answer → AreDistinct (macros_after [] ps) → (p : Piece) (more : List Piece) (others : List AToken) (s : List ℕ)
    → ArePieces (is_first_after true ps) source rest (p ∷ more) s
    → Give (macros_after [] ps) (headers_after no_headers ps) (p ∷ more) others
    → length (out ++ others) ≤ most_tokens → ⊥
none-behind one same source ps out rest answer (done e a) d p more others s (mid, i, b) g few =
    end-no-piece one (is_first_after true ps) source rest p mid i e
none-behind one same source ps out rest answer (bad front cause k e x a) d p more others s (mid, i, b) g few =
    let y = split (macros_after [] ps) (headers_after no_headers ps) p more others g in
    piece-not-bad one (is_first_after true ps) (names_of (macros_after [] ps)) source rest p mid cause k i
    (fresh (macros_after [] ps) (headers_after no_headers ps) p y.first y.gives) x
none-behind one same source ps out rest answer (many front e (line, l, r, j, m) a) d p more others s (mid, i, b) g few =
    let y = split (macros_after [] ps) (headers_after no_headers ps) p more others g in
    let token = one-piece one (is_first_after true ps) source rest p (Token line l) mid r i j in
    let P : List AToken → Type 0 = λ x. length (out ++ x) ≤ most_tokens in
    no_token_more same (macros_after [] ps) (headers_after no_headers ps) p line l out y.first y.others d token.0 y.gives m (subst P y.out_is few)

-- ---- one answer

places : (front back rest source : List ℕ) (c d : Cause) (m n : ℕ) (a b : Answer) → source ≡ front ++ rest → source ≡ back ++ rest
    → c ≡ d → m ≡ n → a ≡ Fault c (length front + m) → b ≡ Fault d (length back + n) → a ≡ b
places front back rest source c d m n a b e f g h u v =
    let same : front ≡ back = append_cancel_right front back rest (sym e ∙ f) in
    u ∙ same_fault c d (length front + m) (length back) m n g (ap (λ (x : List ℕ). length x + m) same) h ∙ sym v

pub one-stop : IsOneFront → (source : List ℕ) (ps : List Piece) (out : List AToken) (rest : List ℕ) (a b : Answer)
    → Stops source ps out rest a → Stops source ps out rest b → a ≡ b
one-stop one source ps out rest a b (done e x) (done f y) = x ∙ sym y
one-stop one source ps out rest a b (done e x) (bad front cause k f i y) =
    absurd (end-not-bad one (is_first_after true ps) (names_of (macros_after [] ps)) rest cause k i e)
one-stop one source ps out rest a b (done e x) (many front f (line, l, r, i, m) y) =
    absurd (end-no-piece one (is_first_after true ps) source rest (Token line l) r i e)
one-stop one source ps out rest a b (bad back c m e i x) (done f y) =
    absurd (end-not-bad one (is_first_after true ps) (names_of (macros_after [] ps)) rest c m i f)
one-stop one source ps out rest a b (bad back c m e i x) (bad front cause k f j y) =
    let same = one-bad-piece one (is_first_after true ps) (names_of (macros_after [] ps)) rest c cause m k i j in
    places back front rest source c cause m k a b e f same.0 same.1 x y
one-stop one source ps out rest a b (bad back c m e i x) (many front f (line, l, r, j, n) y) =
    absurd (piece-not-bad one (is_first_after true ps) (names_of (macros_after [] ps)) source rest (Token line l) r c m j tt i)
one-stop one source ps out rest a b (many back e (line, l, r, i, m) x) (done f y) =
    absurd (end-no-piece one (is_first_after true ps) source rest (Token line l) r i f)
one-stop one source ps out rest a b (many back e (line, l, r, i, m) x) (bad front cause k f j y) =
    absurd (piece-not-bad one (is_first_after true ps) (names_of (macros_after [] ps)) source rest (Token line l) r cause k i tt j)
one-stop one source ps out rest a b (many back e t x) (many front f u y) =
    places back front rest source TooMany TooMany 0 0 a b e f refl refl x y

goes_on_only : IsOneFront → BecomesOne → (source : List ℕ) (ps : List Piece) (out : List AToken) (r : List ℕ) (qs : List Piece) (all : List AToken) (s : List ℕ)
    (a b : Answer) → BeginsRight source ps out r → BeginsRight source qs all s → Stops source ps out r a → Stops source qs all s b
    → (more : List Piece) (others : List AToken) → qs ≡ ps ++ more → ArePieces (is_first_after true ps) source r more s
    → Give (macros_after [] ps) (headers_after no_headers ps) more others → all ≡ out ++ others → a ≡ b
goes_on_only one same source ps out r qs all s a b right wide x y [] others e n g all_is =
    let P : List Piece → Type 0 = λ z. Stops source z all s b in
    let Q : List AToken → Type 0 = λ z. Stops source ps z s b in
    let R : List ℕ → Type 0 = λ z. Stops source ps out z b in
    let tokens : all ≡ out = all_is ∙ ap (λ (z : List AToken). out ++ z) g ∙ append-nil out in
    one-stop one source ps out r a b x (subst R (sym n) (subst Q tokens (subst P (e ∙ append-nil ps) y)))
goes_on_only one same source ps out r qs all s a b right wide x y (p ∷ more) others e n g all_is =
    let P : List AToken → Type 0 = λ z. length z ≤ most_tokens in
    absurd (none-behind one same source ps out r a x (distinct-after [] no_headers ps out tt right.give) p more others s n g (subst P all_is wide.few))

pub one-answer : IsOneFront → BecomesOne → (source : List ℕ) (a b : Answer) → IsAnswer source a → IsAnswer source b → a ≡ b
one-answer one same source a b p q =
    let x = stops-at source a p in
    let y = stops-at source b q in
    elim (either-goes-on one same true source source [] no_headers tt x.ps x.out x.rest y.ps y.out y.rest x.right.pieces x.right.give y.right.pieces y.right.give) [
      | inl g ↦ goes_on_only one same source x.ps x.out x.rest y.ps y.out y.rest a b x.right y.right x.stops y.stops g.more g.others g.pieces_are g.behind g.give g.all_is
      | inr g ↦ sym (goes_on_only one same source y.ps y.out y.rest x.ps x.out x.rest b a y.right x.right y.stops x.stops g.more g.others g.pieces_are g.behind g.give g.all_is)
    ]

-- ---- what is told

told_only : IsOneFront → BecomesOne → (source : List ℕ) (answer : Answer) → IsAnswer source answer → (o : Option Answer)
    → IfSome o (λ fault. IsAnswer source fault) → IfSome o (λ fault. answer ≡ fault)
told_only one same source answer a None h = tt
told_only one same source answer a (Some f) h = one-answer one same source answer f a h

pub told-only : IsOneFront → BecomesOne → (source : List ℕ) (e : LexError) → IfSome (fault_of e) (λ fault. IsAnswer source fault)
    → (answer : Answer) → IsAnswer source answer → IfSome (fault_of e) (λ fault. answer ≡ fault)
told-only one same source e h answer a = told_only one same source answer a (fault_of e) h

pub read-only : IsOneFront → BecomesOne → (source : List ℕ) (ps : List Piece) (out tokens : List AToken) → BeginsRight source ps out [] → tokens ≡ joined out
    → (answer : Answer) → IsAnswer source answer → answer ≡ Tokens tokens
read-only one same source ps out tokens right e answer a = one-answer one same source answer (Tokens tokens) a (ps, out, right, e)
