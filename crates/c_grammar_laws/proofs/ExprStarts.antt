-- Which tokens begin a type name: as the grammar says it, and as it is tested.
use Rattle.std.proofs.Common.{◌≡◌, Bool, true, false, ◌&&◌, ◌||◌, is_some, Option, Some, None, List, [], ◌∷◌, refl, ap, inl, inr, ◌⊎◌}
use Rattle.c_lex.specs.declared.token.Token.{Token}
use Rattle.c_lex.specs.declared.token.Keyword.TheVariants as keyword
use Rattle.c_lex.specs.declared.token.Mark.TheVariants as mark
use Rattle.c_ast.specs.declared.words.Qualifier.{Qualifier}
use Rattle.c_ast.specs.declared.words.TypeWord.{TypeWord}
use Rattle.c_grammar.specs.Names.{Names, IsTypeName, is_type_in}
use Rattle.c_grammar.specs.Words.{IsKeyword, storage_of, qualifier_of, word_of}
use Rattle.c_grammar.specs.Grammar.{StartsType, StartsTypeInParens}
use Rattle.c_grammar.specs.Reading.{is_mark, is_keyword, is_name}
use Rattle.c_grammar.specs.ReadingExpr.{starts_type, sees_type_in_parens}
use Rattle.c_grammar_laws.proofs.ExprFound.{mark_is, keyword_is, name_is}

or_of : (a b : Bool) → (a ≡ true) ⊎ (b ≡ true) → (a || b) ≡ true
or_of true b h = refl
or_of false b (inl h) = absurd cc
or_of false b (inr h) = h

or_is : (a b : Bool) → (a || b) ≡ true → (a ≡ true) ⊎ (b ≡ true)
or_is true b h = inl refl
or_is false b h = inr h

and_of : (a b : Bool) → a ≡ true → b ≡ true → (a && b) ≡ true
and_of true b h k = k
and_of false b h k = absurd cc

pub and_is : (a b : Bool) → (a && b) ≡ true → (a ≡ true) × (b ≡ true)
and_is true b h = (refl, h)
and_is false b h = absurd cc

some_of : {A : Type 0} (o : Option A) → (a : A) × (o ≡ Some a) → is_some o ≡ true
some_of o h = ap is_some h.1

some_is : {A : Type 0} (o : Option A) → is_some o ≡ true → (a : A) × (o ≡ Some a)
some_is None h = absurd cc
some_is (Some a) h = (a, refl)

-- the tests behind the first one, and so on
abbrev named : Names → Token → Bool
named names t = is_name t.kind && is_type_in names t.headers t.text

abbrev an_enum : Names → Token → Bool
an_enum names t = is_keyword keyword.Enum t.kind || named names t

abbrev a_struct : Names → Token → Bool
a_struct names t = is_keyword keyword.Struct t.kind || an_enum names t

abbrev a_word : Names → Token → Bool
a_word names t = is_some (word_of t.kind) || a_struct names t

abbrev a_qualifier : Names → Token → Bool
a_qualifier names t = is_some (qualifier_of t.kind) || a_word names t

an_enum_of : (names : Names) (t : Token) → IsKeyword keyword.Enum t ⊎ IsTypeName names t → an_enum names t ≡ true
an_enum_of names t (inl h) = or_of (is_keyword keyword.Enum t.kind) (named names t) (inl (ap (is_keyword keyword.Enum) h))
an_enum_of names t (inr h) =
    or_of (is_keyword keyword.Enum t.kind) (named names t) (inr (and_of (is_name t.kind) (is_type_in names t.headers t.text) (ap is_name h.0) h.1))

a_struct_of : (names : Names) (t : Token) → IsKeyword keyword.Struct t ⊎ (IsKeyword keyword.Enum t ⊎ IsTypeName names t) → a_struct names t ≡ true
a_struct_of names t (inl h) = or_of (is_keyword keyword.Struct t.kind) (an_enum names t) (inl (ap (is_keyword keyword.Struct) h))
a_struct_of names t (inr h) = or_of (is_keyword keyword.Struct t.kind) (an_enum names t) (inr (an_enum_of names t h))

a_word_of : (names : Names) (t : Token) → ((w : TypeWord) × (word_of t.kind ≡ Some w)) ⊎ (IsKeyword keyword.Struct t ⊎ (IsKeyword keyword.Enum t ⊎ IsTypeName names t))
    → a_word names t ≡ true
a_word_of names t (inl h) = or_of (is_some (word_of t.kind)) (a_struct names t) (inl (some_of (word_of t.kind) h))
a_word_of names t (inr h) = or_of (is_some (word_of t.kind)) (a_struct names t) (inr (a_struct_of names t h))

a_qualifier_of : (names : Names) (t : Token) → ((q : Qualifier) × (qualifier_of t.kind ≡ Some q))
    ⊎ (((w : TypeWord) × (word_of t.kind ≡ Some w)) ⊎ (IsKeyword keyword.Struct t ⊎ (IsKeyword keyword.Enum t ⊎ IsTypeName names t)))
    → a_qualifier names t ≡ true
a_qualifier_of names t (inl h) = or_of (is_some (qualifier_of t.kind)) (a_word names t) (inl (some_of (qualifier_of t.kind) h))
a_qualifier_of names t (inr h) = or_of (is_some (qualifier_of t.kind)) (a_word names t) (inr (a_word_of names t h))

pub starts_type_of : (names : Names) (t : Token) → StartsType names t → starts_type names t ≡ true
starts_type_of names t (inl h) = or_of (is_some (storage_of t.kind)) (a_qualifier names t) (inl (some_of (storage_of t.kind) h))
starts_type_of names t (inr h) = or_of (is_some (storage_of t.kind)) (a_qualifier names t) (inr (a_qualifier_of names t h))

named_is : (names : Names) (t : Token) → named names t ≡ true → IsTypeName names t
named_is names t h = let both = and_is (is_name t.kind) (is_type_in names t.headers t.text) h in (name_is t.kind both.0, both.1)

an_enum_is : (names : Names) (t : Token) → an_enum names t ≡ true → IsKeyword keyword.Enum t ⊎ IsTypeName names t
an_enum_is names t h =
    elim (or_is (is_keyword keyword.Enum t.kind) (named names t) h) [ inl p ↦ inl (keyword_is keyword.Enum t.kind p) | inr p ↦ inr (named_is names t p) ]

a_struct_is : (names : Names) (t : Token) → a_struct names t ≡ true → IsKeyword keyword.Struct t ⊎ (IsKeyword keyword.Enum t ⊎ IsTypeName names t)
a_struct_is names t h =
    elim (or_is (is_keyword keyword.Struct t.kind) (an_enum names t) h) [ inl p ↦ inl (keyword_is keyword.Struct t.kind p) | inr p ↦ inr (an_enum_is names t p) ]

a_word_is : (names : Names) (t : Token) → a_word names t ≡ true
    → ((w : TypeWord) × (word_of t.kind ≡ Some w)) ⊎ (IsKeyword keyword.Struct t ⊎ (IsKeyword keyword.Enum t ⊎ IsTypeName names t))
a_word_is names t h = elim (or_is (is_some (word_of t.kind)) (a_struct names t) h) [ inl p ↦ inl (some_is (word_of t.kind) p) | inr p ↦ inr (a_struct_is names t p) ]

a_qualifier_is : (names : Names) (t : Token) → a_qualifier names t ≡ true → ((q : Qualifier) × (qualifier_of t.kind ≡ Some q))
    ⊎ (((w : TypeWord) × (word_of t.kind ≡ Some w)) ⊎ (IsKeyword keyword.Struct t ⊎ (IsKeyword keyword.Enum t ⊎ IsTypeName names t)))
a_qualifier_is names t h =
    elim (or_is (is_some (qualifier_of t.kind)) (a_word names t) h) [ inl p ↦ inl (some_is (qualifier_of t.kind) p) | inr p ↦ inr (a_word_is names t p) ]

pub starts_type_is : (names : Names) (t : Token) → starts_type names t ≡ true → StartsType names t
starts_type_is names t h =
    elim (or_is (is_some (storage_of t.kind)) (a_qualifier names t) h) [ inl p ↦ inl (some_is (storage_of t.kind) p) | inr p ↦ inr (a_qualifier_is names t p) ]

pub in_parens_of : (names : Names) (ts : List Token) → StartsTypeInParens names ts → sees_type_in_parens names ts ≡ true
in_parens_of names [] h = absurd h
in_parens_of names (o ∷ []) h = absurd h
in_parens_of names (o ∷ t ∷ ts) h = and_of (is_mark mark.OpenParen o.kind) (starts_type names t) (ap (is_mark mark.OpenParen) h.0) (starts_type_of names t h.1)

pub in_parens_is : (names : Names) (ts : List Token) → sees_type_in_parens names ts ≡ true → StartsTypeInParens names ts
in_parens_is names [] h = absurd cc
in_parens_is names (o ∷ []) h = let both = and_is (is_mark mark.OpenParen o.kind) false h in absurd (let e = both.1 in cc)
in_parens_is names (o ∷ t ∷ ts) h =
    let both = and_is (is_mark mark.OpenParen o.kind) (starts_type names t) h in (mark_is mark.OpenParen o.kind both.0, starts_type_is names t both.1)

pub starts_no_type : (names : Names) (ts : List Token) → sees_type_in_parens names ts ≡ false → StartsTypeInParens names ts → ⊥
starts_no_type names ts h k = let e : sees_type_in_parens names ts ≡ true = in_parens_of names ts k in absurd cc

pub sees_no_type : (names : Names) (ts : List Token) → (StartsTypeInParens names ts → ⊥) → sees_type_in_parens names ts ≡ false
sees_no_type names ts h =
    elim (sees_type_in_parens names ts) as (λ v. (v ≡ true → StartsTypeInParens names ts) → v ≡ false) [ true ↦ λ e. absurd (h (e refl)) | false ↦ λ e. refl ]
    (in_parens_is names ts)
