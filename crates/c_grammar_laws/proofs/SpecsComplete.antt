-- All specifiers are read, where what comes behind them is no specifier, or a late token stands too deep.
use Rattle.std.proofs.Common.{◌≡◌, ℕ, zero, suc, ◌+◌, ◌≤◌, ◌||◌, Bool, false, cond, Some, None, Ok, List, [], ◌∷◌, ◌++◌, length, append_assoc, append-nil, refl, sym, ap, ◌∙◌, subst, arith}
use Rattle.c_lex.specs.declared.token.Token.{Token}
use Rattle.c_lex.specs.declared.token.TokenKind.{TokenKind}
use Rattle.c_lex.specs.declared.token.TokenKind.TheVariants as kind
use Rattle.c_lex.specs.declared.token.Keyword.TheVariants as keyword
use Rattle.c_lex.specs.declared.token.Mark.TheVariants as mark
use Rattle.c_ast.specs.declared.words.Storage.{Storage}
use Rattle.c_ast.specs.declared.words.Qualifier.{Qualifier}
use Rattle.c_ast.specs.declared.words.TypeWord.{TypeWord}
use Rattle.c_ast.specs.declared.expression.Expr.{Expr}
use Rattle.c_ast.specs.declared.declaration.Specifier.{Specifier}
use Rattle.c_ast.specs.declared.declaration.Specifier.TheVariants as specifier
use Rattle.c_ast.specs.declared.declaration.Specs.{Specs}
use Rattle.c_ast.specs.declared.declaration.StructSpec.{StructSpec}
use Rattle.c_ast.specs.declared.declaration.Member.{Member}
use Rattle.c_ast.specs.declared.declaration.EnumSpec.{EnumSpec}
use Rattle.c_grammar.specs.declared.phrases.ReadSpecs.{ReadSpecs}
use Rattle.c_grammar.specs.Names.{Names, IsTypeName, name_at}
use Rattle.c_grammar.specs.Words.{number_of, storage_of, qualifier_of, word_of}
use Rattle.c_grammar.specs.Types.{AreOfType, Typed, Untyped, Words, Whole, with_word, IsOneType, declares_types}
use Rattle.c_grammar.specs.Grammar.{AreSpecs, specs as the_specs, AreSpecifiers, no_specifiers, storage, qualifier, word, struct_specifier, enum_specifier, typedef_name, IsStruct, struct_reference, struct_tagged, struct_untagged, IsEnum, enum_reference, enum_tagged, enum_untagged}
use Rattle.c_grammar.specs.Nesting.{Bounds, specs_stand, specifiers_stand}
use Rattle.c_grammar.specs.Reading.{State, Outcome, sees_mark}
use Rattle.c_grammar.specs.ReadingDecl.{taken_word, is_untyped, Saying, SaysStorage, SaysQualifier, SaysWord, SaysStruct, SaysEnum, SaysName, SaysNothing, saying_of, ended_specs, by_saying, specifiers, specs}
use Rattle.c_grammar.specs.Inner.{Inner}
use Rattle.c_grammar.proofs.Late.{Meets, same, on, ◌▸◌}
use Rattle.c_grammar.proofs.Laws.{at_state, is_keyword_at, Complete}
use Rattle.c_grammar.proofs.SpecsTypes.{are_of_type-Decides, of_type_front, length_last}
use Rattle.c_grammar_laws.proofs.SpecsSound.{SoFar, some_same, made, made_same, or_assoc, or_false}
use Rattle.c_grammar_laws.proofs.SpecsBegin.{of_kind, with_kind, struct_takes, enum_takes, specifiers_no_mark}
use Rattle.c_grammar_laws.proofs.SpecsPartsRead.{struct_read, enum_read}

-- what comes behind specifiers
record EndsSpecs (rest : List Token) : Type 0 where
  no_keyword : is_keyword_at rest ≡ false
  no_brace : sees_mark mark.OpenBrace rest ≡ false

-- ---- what a token says

qualifier_no_storage : (k : TokenKind) (q : Qualifier) → qualifier_of k ≡ Some q → storage_of k ≡ None
qualifier_no_storage (kind.Keyword keyword.Const) q h = refl
qualifier_no_storage (kind.Keyword keyword.Volatile) q h = refl
qualifier_no_storage (kind.Keyword keyword.Restrict) q h = refl
qualifier_no_storage _ q h = absurd cc

-- a word of a type is no other word
record WordAlone (k : TokenKind) : Type 0 where
  no_storage : storage_of k ≡ None
  no_qualifier : qualifier_of k ≡ None

word_alone : (k : TokenKind) (w : TypeWord) → word_of k ≡ Some w → WordAlone k
word_alone (kind.Keyword keyword.Void) w h = record { no_storage = refl; no_qualifier = refl }
word_alone (kind.Keyword keyword.Char) w h = record { no_storage = refl; no_qualifier = refl }
word_alone (kind.Keyword keyword.Short) w h = record { no_storage = refl; no_qualifier = refl }
word_alone (kind.Keyword keyword.Int) w h = record { no_storage = refl; no_qualifier = refl }
word_alone (kind.Keyword keyword.Long) w h = record { no_storage = refl; no_qualifier = refl }
word_alone (kind.Keyword keyword.Signed) w h = record { no_storage = refl; no_qualifier = refl }
word_alone (kind.Keyword keyword.Unsigned) w h = record { no_storage = refl; no_qualifier = refl }
word_alone _ w h = absurd cc

module _ (total : ℕ) (names : Names) where
  storage_said : (typed : Typed) (t : Token) (ts : List Token) (s : Storage) → storage_of t.kind ≡ Some s
      → saying_of total names typed (t ∷ ts) ≡ SaysStorage s
  storage_said typed t ts s h = rw h refl

  qualifier_said : (typed : Typed) (t : Token) (ts : List Token) (q : Qualifier) → qualifier_of t.kind ≡ Some q
      → saying_of total names typed (t ∷ ts) ≡ SaysQualifier q
  qualifier_said typed t ts q h = rw (qualifier_no_storage t.kind q h, h) refl

  word_said : (typed typed' : Typed) (t : Token) (ts : List Token) (w : TypeWord) → word_of t.kind ≡ Some w → taken_word w typed ≡ Some typed'
      → saying_of total names typed (t ∷ ts) ≡ SaysWord typed' w
  word_said typed typed' t ts w h takes = let a = word_alone t.kind w h in rw (a.no_storage, a.no_qualifier, h, takes) refl

  struct_said : {most r : ℕ} {before after : Names} {ts rest : List Token} {s : StructSpec Member} → IsStruct total most r before ts rest after s
      → saying_of total names Untyped ts ≡ SaysStruct
  struct_said (struct_reference {s = s} {t = t} {rest = rest} is named) =
      of_kind (λ u. saying_of total names Untyped (u ∷ t ∷ rest)) s (kind.Keyword keyword.Struct) is
  struct_said (struct_tagged {s = s} {t = t} {o = o} {ts = ts} is named opens ms closes) =
      of_kind (λ u. saying_of total names Untyped (u ∷ t ∷ o ∷ ts)) s (kind.Keyword keyword.Struct) is
  struct_said (struct_untagged {s = s} {o = o} {ts = ts} is opens ms closes) =
      of_kind (λ u. saying_of total names Untyped (u ∷ o ∷ ts)) s (kind.Keyword keyword.Struct) is

  enum_said : {most r : ℕ} {before after : Names} {ts rest : List Token} {e : EnumSpec Expr} → IsEnum total most r before ts rest after e
      → saying_of total names Untyped ts ≡ SaysEnum
  enum_said (enum_reference {e = s} {t = t} {rest = rest} is named) =
      of_kind (λ u. saying_of total names Untyped (u ∷ t ∷ rest)) s (kind.Keyword keyword.Enum) is
  enum_said (enum_tagged {e = s} {t = t} {o = o} {ts = ts} is named opens ms closes) =
      of_kind (λ u. saying_of total names Untyped (u ∷ t ∷ o ∷ ts)) s (kind.Keyword keyword.Enum) is
  enum_said (enum_untagged {e = s} {o = o} {ts = ts} is opens ms closes) =
      of_kind (λ u. saying_of total names Untyped (u ∷ o ∷ ts)) s (kind.Keyword keyword.Enum) is

  name_said : (t : Token) (ts : List Token) → IsTypeName names t
      → saying_of total names Untyped (t ∷ ts) ≡ SaysName (name_at (number_of total (t ∷ ts)) t)
  name_said t ts is =
      of_kind (λ u. saying_of total names Untyped (u ∷ ts)) t kind.Name is.0
      ∙ ap (λ b. cond b (SaysName (name_at (number_of total (t ∷ ts)) t)) SaysNothing) is.1

  no_words : (k : TokenKind) (t : Token) (ts : List Token) → is_keyword_at (with_kind t k ∷ ts) ≡ false → WordAlone k × (word_of k ≡ None)
  no_words (kind.Keyword k) t ts h = absurd cc
  no_words (kind.Mark m) t ts h = (record { no_storage = refl; no_qualifier = refl }, refl)
  no_words kind.Name t ts h = (record { no_storage = refl; no_qualifier = refl }, refl)
  no_words (kind.Number n) t ts h = (record { no_storage = refl; no_qualifier = refl }, refl)
  no_words kind.Character t ts h = (record { no_storage = refl; no_qualifier = refl }, refl)
  no_words kind.Text t ts h = (record { no_storage = refl; no_qualifier = refl }, refl)

  nothing_said : (typed : Typed) (rest : List Token) → is_untyped typed ≡ false → is_keyword_at rest ≡ false → saying_of total names typed rest ≡ SaysNothing
  nothing_said typed [] some h = refl
  nothing_said typed (t ∷ ts) some h =
      let (a, b) = no_words t.kind t ts h in
      rw (a.no_storage, a.no_qualifier, b, some) refl

-- ---- types so far

-- words, if there are any
abbrev Sensible : Typed → Type 0
Sensible Untyped = Unit {0}
Sensible (Words ws) = 1 ≤ length ws
Sensible Whole = Unit {0}

one_so_far : (typed : Typed) → IsOneType typed → SoFar typed
one_so_far Untyped one = tt
one_so_far (Words ws) one = one
one_so_far Whole one = tt

one_typed : (typed : Typed) → IsOneType typed → is_untyped typed ≡ false
one_typed Untyped one = absurd one
one_typed (Words ws) one = refl
one_typed Whole one = refl

sensible_with : (w : TypeWord) (typed between : Typed) → with_word w typed ≡ Some between → Sensible between
sensible_with w Untyped between h = subst Sensible (some_same h) (let e : 1 ≤ length (w ∷ []) = omega arith in e)
sensible_with w (Words ws) between h =
    let e = length_last w ws in
    subst Sensible (some_same h) (let l : 1 ≤ length (ws ++ w ∷ []) = omega (arith, e) in l)
sensible_with w Whole between h = absurd cc

word_before : (w : TypeWord) (typed between : Typed) → with_word w typed ≡ Some between → Sensible typed → SoFar between → SoFar typed
word_before w Untyped between h sensible so_far = tt
word_before w (Words ws) between h sensible so_far =
    let all : AreOfType (ws ++ w ∷ []) = subst SoFar (sym (some_same h)) so_far in of_type_front w ws sensible all
word_before w Whole between h sensible so_far = absurd cc

word_taken : (w : TypeWord) (typed between : Typed) → with_word w typed ≡ Some between → SoFar between → taken_word w typed ≡ Some between
word_taken w Untyped between h so_far = h
word_taken w (Words ws) between h so_far =
    let all : AreOfType (ws ++ w ∷ []) = subst SoFar (sym (some_same h)) so_far in
    ap (λ b. cond b (Some (Words (ws ++ w ∷ []))) None) ((are_of_type-Decides (ws ++ w ∷ [])).1 all) ∙ h
word_taken w Whole between h so_far = absurd cc

-- where all specifiers come to just one type, those so far may
type_so_far : {total most r : ℕ} {names after : Names} {typed typed' : Typed} {ts rest : List Token} {flag : Bool} {ss : List Specifier}
    → AreSpecifiers total most r names typed ts rest after typed' flag ss → IsOneType typed' → Sensible typed → SoFar typed
type_so_far (no_specifiers {typed = typed}) one sensible = one_so_far typed one
type_so_far (storage s is ss) one sensible = type_so_far ss one sensible
type_so_far (qualifier q is ss) one sensible = type_so_far ss one sensible
type_so_far (word {typed = typed} {between = between} w is takes ss) one sensible =
    word_before w typed between takes sensible (type_so_far ss one (sensible_with w typed between takes))
type_so_far (struct_specifier d ss) one sensible = tt
type_so_far (enum_specifier d ss) one sensible = tt
type_so_far (typedef_name is ss) one sensible = tt

-- ---- specifiers

ended_read : (total token : ℕ) (typed : Typed) (flag : Bool) (front : List Specifier) (s : State) → IsOneType typed
    → ended_specs total token typed flag front s ≡ Ok (made token (front ++ []) (flag || false), s)
ended_read total token typed flag front s one =
    rw (one_typed typed one) (ap (λ m. Ok (m, s)) (made_same token (sym (append-nil front)) (sym (or_false flag))))

module _ (total wide : ℕ) (b : Bounds) (room place : ℕ) (rooms : place ≡ room + b.spare) (inner : Inner) (complete : Complete total wide b place inner) (token : ℕ) where
  -- what goes on by what the next token says
  abbrev goes : ℕ → Typed → Bool → List Specifier → State → Saying → Outcome (ReadSpecs × State)
  goes count typed before front s say = by_saying total room inner token (specifiers total room inner token count) say typed before front s

  specifiers_read : {names after : Names} {typed typed' : Typed} {ts rest : List Token} {flag : Bool} {ss : List Specifier}
      → (is : AreSpecifiers total wide (suc place) names typed ts rest after typed' flag ss) → specifiers_stand b is → IsOneType typed' → Sensible typed → EndsSpecs rest
      → (count : ℕ) → length ts ≤ count → (before : Bool) (front : List Specifier)
      → Meets total b.later (specifiers total room inner token count typed before front (at_state names ts)) (Ok (made token (front ++ ss) (before || flag), at_state after rest))
  unfolding specifiers
  specifiers_read (no_specifiers {names = names} {typed = typed} {rest = rest}) stand one sensible ends zero few before front =
      same (ended_read total token typed before front (at_state names rest) one)
  specifiers_read (no_specifiers {names = names} {typed = typed} {rest = rest}) stand one sensible ends (suc count) few before front =
      same (rw (nothing_said total names typed rest (one_typed typed one) ends.no_keyword) (ended_read total token typed before front (at_state names rest) one))
  specifiers_read (storage s is ss) stand one sensible ends zero few before front = absurd (omega arith)
  specifiers_read (storage {names = names} {after = after} {typed = typed} {t = t} {ts = ts} {rest = rest} {is_typedef = flag} {ss = ss} s is more) stand one sensible ends (suc count) few before front =
      same (ap (goes count typed before front (at_state names (t ∷ ts))) (storage_said total names typed t ts s is))
      ▸ specifiers_read more stand.1 one sensible ends count (omega arith) (before || declares_types s) (front ++ specifier.Storage s ∷ [])
      ▸ same (ap (λ m. Ok (m, at_state after rest)) (made_same token (append_assoc front (specifier.Storage s ∷ []) ss) (sym (or_assoc before (declares_types s) flag))))
  specifiers_read (qualifier q is ss) stand one sensible ends zero few before front = absurd (omega arith)
  specifiers_read (qualifier {names = names} {after = after} {typed = typed} {t = t} {ts = ts} {rest = rest} {is_typedef = flag} {ss = ss} q is more) stand one sensible ends (suc count) few before front =
      same (ap (goes count typed before front (at_state names (t ∷ ts))) (qualifier_said total names typed t ts q is))
      ▸ specifiers_read more stand.1 one sensible ends count (omega arith) before (front ++ specifier.Qualifier q ∷ [])
      ▸ same (ap (λ ss. Ok (made token ss (before || flag), at_state after rest)) (append_assoc front (specifier.Qualifier q ∷ []) ss))
  specifiers_read (word w is takes ss) stand one sensible ends zero few before front = absurd (omega arith)
  specifiers_read (word {names = names} {after = after} {typed = typed} {between = between} {t = t} {ts = ts} {rest = rest} {is_typedef = flag} {ss = ss} w is takes more) stand one sensible ends (suc count) few before front =
      let next = sensible_with w typed between takes in
      same (ap (goes count typed before front (at_state names (t ∷ ts))) (word_said total names typed between t ts w is (word_taken w typed between takes (type_so_far more one next))))
      ▸ specifiers_read more stand.1 one next ends count (omega arith) before (front ++ specifier.Word w ∷ [])
      ▸ same (ap (λ ss. Ok (made token ss (before || flag), at_state after rest)) (append_assoc front (specifier.Word w ∷ []) ss))
  specifiers_read (struct_specifier d ss) stand one sensible ends zero few before front = absurd (omega (arith, struct_takes d))
  specifiers_read (struct_specifier {names = names} {after = after} {ts = ts} {rest = rest} {is_typedef = flag} {ss = ss} {s = s} d more) stand one sensible ends (suc count) few before front =
      same (ap (goes count Untyped before front (at_state names ts)) (struct_said total names d))
      ▸ on (λ x. specifiers total room inner token count Whole before (front ++ specifier.Struct x.0 ∷ []) x.1)
      (struct_read total wide b place inner complete d stand.0 (specifiers_no_mark mark.OpenBrace more ends.no_brace))
      ▸ specifiers_read more stand.1 one tt ends count (omega (arith, struct_takes d)) before (front ++ specifier.Struct s ∷ [])
      ▸ same (ap (λ ss. Ok (made token ss (before || flag), at_state after rest)) (append_assoc front (specifier.Struct s ∷ []) ss))
  specifiers_read (enum_specifier d ss) stand one sensible ends zero few before front = absurd (omega (arith, enum_takes d))
  specifiers_read (enum_specifier {names = names} {after = after} {ts = ts} {rest = rest} {is_typedef = flag} {ss = ss} {e = s} d more) stand one sensible ends (suc count) few before front =
      same (ap (goes count Untyped before front (at_state names ts)) (enum_said total names d))
      ▸ on (λ x. specifiers total room inner token count Whole before (front ++ specifier.Enum x.0 ∷ []) x.1)
      (enum_read total wide b place inner complete room rooms d stand.0 (specifiers_no_mark mark.OpenBrace more ends.no_brace))
      ▸ specifiers_read more stand.1 one tt ends count (omega (arith, enum_takes d)) before (front ++ specifier.Enum s ∷ [])
      ▸ same (ap (λ ss. Ok (made token ss (before || flag), at_state after rest)) (append_assoc front (specifier.Enum s ∷ []) ss))
  specifiers_read (typedef_name is ss) stand one sensible ends zero few before front = absurd (omega arith)
  specifiers_read (typedef_name {names = names} {after = after} {t = t} {ts = ts} {rest = rest} {is_typedef = flag} {ss = ss} is more) stand one sensible ends (suc count) few before front =
      let n = name_at (number_of total (t ∷ ts)) t in
      same (ap (goes count Untyped before front (at_state names (t ∷ ts))) (name_said total names t ts is))
      ▸ specifiers_read more stand.1 one tt ends count (omega arith) before (front ++ specifier.TypedefName n ∷ [])
      ▸ same (ap (λ ss. Ok (made token ss (before || flag), at_state after rest)) (append_assoc front (specifier.TypedefName n ∷ []) ss))

module _ (total wide : ℕ) (b : Bounds) (room place : ℕ) (rooms : place ≡ room + b.spare) (inner : Inner) (complete : Complete total wide b place inner) where
  specs_read : {names after : Names} {ts rest : List Token} {flag : Bool} {ss : Specs Specifier}
      → (is : AreSpecs total wide (suc place) names ts rest after flag ss) → specs_stand b is → EndsSpecs rest
      → Meets total b.later (specs total room inner (at_state names ts)) (Ok (record { specs = ss; is_typedef = flag }, at_state after rest))
  unfolding specs
  specs_read (the_specs {ts = ts} ss one) stand ends =
      let few : length ts ≤ length ts = omega arith in
      specifiers_read total wide b room place rooms inner complete (number_of total ts) ss stand one tt ends (length ts) few false []

  pub specs_complete : (names after : Names) (ts rest : List Token) (x : ReadSpecs)
      → (is : AreSpecs total wide (suc place) names ts rest after x.is_typedef x.specs) → specs_stand b is → is_keyword_at rest ≡ false → sees_mark mark.OpenBrace rest ≡ false
      → Meets total b.later (specs total room inner (at_state names ts)) (Ok (x, at_state after rest))
  specs_complete names after ts rest x is stand no_keyword no_brace =
      specs_read is stand (record { no_keyword = no_keyword; no_brace = no_brace })
