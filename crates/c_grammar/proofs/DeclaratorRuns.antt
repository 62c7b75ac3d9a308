-- Where runs of qualifiers, pointers and stars end.
use Rattle.std.proofs.Common.{◌≡◌, ℕ, zero, suc, false, Some, None, List, [], ◌∷◌, ◌++◌, refl, sym, ◌∙◌, append_assoc, append-nil}
use Rattle.c_lex.specs.declared.token.Token.{Token}
use Rattle.c_lex.specs.declared.token.Mark.TheVariants as mark
use Rattle.c_ast.specs.declared.words.Qualifier.{Qualifier}
use Rattle.c_grammar.specs.Names.{Names}
use Rattle.c_grammar.specs.Words.{qualifier_of}
use Rattle.c_grammar.specs.Grammar.{AreQualifiers, no_qualifiers, more_qualifiers}
use Rattle.c_grammar.specs.Reading.{sees_mark}
use Rattle.c_grammar.specs.ReadingExpr.{choose}
use Rattle.c_grammar.specs.ReadingDecl.{qualifiers, pointers, stars}
use Rattle.c_grammar.proofs.Laws.{at_state}

pub record QualifiersFound (room : ℕ) (ts : List Token) (front : List Qualifier) (y : List Qualifier × List Token) : Type 0 where
  pub found : List Qualifier
  pub are : AreQualifiers (suc room) ts y.1 found
  pub all : y.0 ≡ front ++ found

pub qualifiers_found : (room : ℕ) (front : List Qualifier) (ts : List Token) → QualifiersFound room ts front (qualifiers front ts)
qualifiers_found room front [] = record { found = []; are = no_qualifiers; all = sym (append-nil front) }
qualifiers_found room front (t ∷ ts) =
    elim (qualifier_of t.kind) as (λ o. (qualifier_of t.kind ≡ o) → QualifiersFound room (t ∷ ts) front (choose o (front, t ∷ ts) (λ q. qualifiers (front ++ q ∷ []) ts))) [
      | None ↦ λ is. record { found = []; are = no_qualifiers; all = sym (append-nil front) }
      | Some q ↦ λ is.
          let more : QualifiersFound room ts (front ++ q ∷ []) (qualifiers (front ++ q ∷ []) ts) = qualifiers_found room (front ++ q ∷ []) ts in
          record { found = q ∷ more.found; are = more_qualifiers q is more.are; all = more.all ∙ append_assoc front (q ∷ []) more.found }
    ] refl

pub pointers_end : (count : ℕ) (front : List (List Qualifier)) (names : Names) (ts : List Token) → sees_mark mark.Star ts ≡ false
    → pointers count front (at_state names ts) ≡ (front, at_state names ts)
unfolding pointers
pointers_end zero front names ts h = refl
pointers_end (suc count) front names ts h = rw h

pub stars_end : (count : ℕ) (ts : List Token) → sees_mark mark.Star ts ≡ false → stars count ts ≡ (count, ts)
unfolding stars
stars_end count [] h = refl
stars_end count (t ∷ ts) h = rw h
