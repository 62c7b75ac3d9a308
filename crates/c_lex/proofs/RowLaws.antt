-- Pieces in a row, and the tokens that they give.
use Rattle.std.proofs.Common.{◌≡◌, ℕ, Bool, List, [], ◌∷◌, ◌++◌, map, refl, sym, ap, subst, ◌∙◌, append_assoc}
use Rattle.std.proofs.lemmas.List.{append-nil}
use Rattle.c_lex.specs.declared.token.Headers.{Headers}
use Rattle.c_lex.specs.declared.token.Token.{Token as AToken}
use Rattle.c_lex.specs.declared.lexeme.Lexeme.{Lexeme}
use Rattle.c_lex.specs.Pieces.{Macro, Piece, Gap, LineEnd, Include, Define, Pragma, Token, is_first_behind, is_first_after, ArePieces}
use Rattle.c_lex.specs.Tokens.{names_of, AreDistinct, BecomesOne, with_header, placed, macros_after, Give}
use Rattle.c_lex.specs.Progress.{headers_after, Fresh}

-- ---- one list behind another

pub pieces-append : (f : Bool) (w t : List ℕ) (ps : List Piece) (mid : List ℕ) (qs : List Piece) (r : List ℕ)
    → ArePieces f w t ps mid → ArePieces (is_first_after f ps) w mid qs r → ArePieces f w t (ps ++ qs) r
pieces-append f w t [] mid qs r a b = let P : List ℕ → Type 0 = λ x. ArePieces f w x qs r in subst P (sym a) b
pieces-append f w t (p ∷ ps) mid qs r (m, i, a) b = (m, i, pieces-append (is_first_behind f p) w m ps mid qs r a b)

pub first-append : (f : Bool) (ps qs : List Piece) → is_first_after f (ps ++ qs) ≡ is_first_after (is_first_after f ps) qs
first-append f [] qs = refl
first-append f (p ∷ ps) qs = first-append (is_first_behind f p) ps qs

pub macros-append : (ms : List Macro) (ps qs : List Piece) → macros_after ms (ps ++ qs) ≡ macros_after (macros_after ms ps) qs
macros-append ms [] qs = refl
macros-append ms (Gap ∷ ps) qs = macros-append ms ps qs
macros-append ms (LineEnd ∷ ps) qs = macros-append ms ps qs
macros-append ms (Include h ∷ ps) qs = macros-append ms ps qs
macros-append ms (Define m ∷ ps) qs = macros-append (m ∷ ms) ps qs
macros-append ms (Pragma ∷ ps) qs = macros-append ms ps qs
macros-append ms (Token line l ∷ ps) qs = macros-append ms ps qs

pub headers-append : (h : Headers) (ps qs : List Piece) → headers_after h (ps ++ qs) ≡ headers_after (headers_after h ps) qs
headers-append h [] qs = refl
headers-append h (Gap ∷ ps) qs = headers-append h ps qs
headers-append h (LineEnd ∷ ps) qs = headers-append h ps qs
headers-append h (Include k ∷ ps) qs = headers-append (with_header k h) ps qs
headers-append h (Define m ∷ ps) qs = headers-append h ps qs
headers-append h (Pragma ∷ ps) qs = headers-append h ps qs
headers-append h (Token line l ∷ ps) qs = headers-append h ps qs

regroup : (x y z u : List AToken) → u ≡ x ++ y → u ++ z ≡ x ++ (y ++ z)
regroup x y z u e = ap (λ (v : List AToken). v ++ z) e ∙ append_assoc x y z

nothing_first : (out more : List AToken) → out ≡ [] → more ≡ out ++ more
nothing_first out more e = sym (ap (λ (v : List AToken). v ++ more) e)

pub give-append : (ms : List Macro) (h : Headers) (ps : List Piece) (out : List AToken) (qs : List Piece) (more : List AToken)
    → Give ms h ps out → Give (macros_after ms ps) (headers_after h ps) qs more → Give ms h (ps ++ qs) (out ++ more)
give-append ms h [] out qs more a b =
    let P : List AToken → Type 0 = λ x. Give ms h qs x in
    subst P (nothing_first out more a) b
give-append ms h (Gap ∷ ps) out qs more a b = give-append ms h ps out qs more a b
give-append ms h (LineEnd ∷ ps) out qs more a b = give-append ms h ps out qs more a b
give-append ms h (Include k ∷ ps) out qs more a b = give-append ms (with_header k h) ps out qs more a b
give-append ms h (Define m ∷ ps) out qs more (n, a) b = (n, give-append (m ∷ ms) h ps out qs more a b)
give-append ms h (Pragma ∷ ps) out qs more a b = give-append ms h ps out qs more a b
give-append ms h (Token line l ∷ ps) out qs more (ls, rest, i, e, a) b =
    (ls, rest ++ more, i, regroup (map (placed line h) ls) rest more out e, give-append ms h ps rest qs more a b)

-- ---- the first of them, and the others

pub record Split (ms : List Macro) (h : Headers) (p : Piece) (ps : List Piece) (out : List AToken) : Type 0 where
  pub first : List AToken
  pub others : List AToken
  pub gives : Give ms h (p ∷ []) first
  pub give : Give (macros_after ms (p ∷ [])) (headers_after h (p ∷ [])) ps others
  pub out_is : out ≡ first ++ others

pub split : (ms : List Macro) (h : Headers) (p : Piece) (ps : List Piece) (out : List AToken) → Give ms h (p ∷ ps) out → Split ms h p ps out
split ms h Gap ps out g = record { first = []; others = out; gives = refl; give = g; out_is = refl }
split ms h LineEnd ps out g = record { first = []; others = out; gives = refl; give = g; out_is = refl }
split ms h (Include k) ps out g = record { first = []; others = out; gives = refl; give = g; out_is = refl }
split ms h (Define m) ps out (n, g) = record { first = []; others = out; gives = (n, refl); give = g; out_is = refl }
split ms h Pragma ps out g = record { first = []; others = out; gives = refl; give = g; out_is = refl }
split ms h (Token line l) ps out (ls, more, i, e, g) =
    record {
      first = map (placed line h) ls;
      others = more;
      gives = (ls, [], i, sym (append-nil (map (placed line h) ls)), refl);
      give = g;
      out_is = e;
    }

pub fresh : (ms : List Macro) (h : Headers) (p : Piece) (out : List AToken) → Give ms h (p ∷ []) out → Fresh (names_of ms) p
fresh ms h Gap out g = tt
fresh ms h LineEnd out g = tt
fresh ms h (Include k) out g = tt
fresh ms h (Define m) out g = g.0
fresh ms h Pragma out g = tt
fresh ms h (Token line l) out g = tt

pub distinct-behind : (ms : List Macro) (h : Headers) (p : Piece) (out : List AToken) → AreDistinct ms → Give ms h (p ∷ []) out → AreDistinct (macros_after ms (p ∷ []))
distinct-behind ms h Gap out d g = d
distinct-behind ms h LineEnd out d g = d
distinct-behind ms h (Include k) out d g = d
distinct-behind ms h (Define m) out d g = (g.0, d)
distinct-behind ms h Pragma out d g = d
distinct-behind ms h (Token line l) out d g = d

pub distinct-after : (ms : List Macro) (h : Headers) (ps : List Piece) (out : List AToken) → AreDistinct ms → Give ms h ps out → AreDistinct (macros_after ms ps)
distinct-after ms h [] out d g = d
distinct-after ms h (Gap ∷ ps) out d g = distinct-after ms h ps out d g
distinct-after ms h (LineEnd ∷ ps) out d g = distinct-after ms h ps out d g
distinct-after ms h (Include k ∷ ps) out d g = distinct-after ms (with_header k h) ps out d g
distinct-after ms h (Define m ∷ ps) out d (n, g) = distinct-after (m ∷ ms) h ps out (n, d) g
distinct-after ms h (Pragma ∷ ps) out d g = distinct-after ms h ps out d g
distinct-after ms h (Token line l ∷ ps) out d (ls, more, i, e, g) = distinct-after ms h ps more d g

pub one-gives : BecomesOne → (ms : List Macro) (h : Headers) (p : Piece) (a b : List AToken) → AreDistinct ms → Give ms h (p ∷ []) a → Give ms h (p ∷ []) b → a ≡ b
one-gives one ms h Gap a b d f g = f ∙ sym g
one-gives one ms h LineEnd a b d f g = f ∙ sym g
one-gives one ms h (Include k) a b d f g = f ∙ sym g
one-gives one ms h (Define m) a b d f g = f.1 ∙ sym g.1
one-gives one ms h Pragma a b d f g = f ∙ sym g
one-gives one ms h (Token line l) a b d (ls, more, i, e, f) (ks, others, j, u, g) =
    let same : ls ≡ ks = one ms [] (l ∷ []) ls ks d i j in
    e ∙ ap (λ (x : List Lexeme). map (placed line h) x ++ more) same ∙ ap (λ (x : List AToken). map (placed line h) ks ++ x) (f ∙ sym g) ∙ sym u
