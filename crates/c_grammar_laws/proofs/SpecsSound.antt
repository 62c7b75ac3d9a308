-- What is read as specifiers is some.
use Rattle.std.proofs.Common.{◌≡◌, ℕ, zero, suc, ◌&&◌, ◌||◌, Bool, true, false, not, cond, if◌then◌else◌, Option, Some, None, Ok, List, [], ◌∷◌, ◌++◌, length, append_assoc, append-nil, refl, sym, ap, ◌∙◌, subst, inl, inr}
use Rattle.std.proofs.lemmas.Bool.{and_parts}
use Rattle.c_lex.specs.declared.token.Token.{Token}
use Rattle.c_lex.specs.declared.token.Keyword.TheVariants as keyword
use Rattle.c_ast.specs.declared.words.Name.{Name}
use Rattle.c_ast.specs.declared.words.TypeWord.{TypeWord}
use Rattle.c_ast.specs.declared.declaration.Specifier.{Specifier}
use Rattle.c_ast.specs.declared.declaration.Specifier.TheVariants as specifier
use Rattle.c_grammar.specs.declared.phrases.ReadSpecs.{ReadSpecs}
use Rattle.c_grammar.specs.Names.{Names, IsTypeName, is_type_in, name_at}
use Rattle.c_grammar.specs.Words.{IsKeyword, number_of, storage_of, qualifier_of, word_of}
use Rattle.c_grammar.specs.Types.{AreOfType, Typed, Untyped, Words, Whole, with_word, IsOneType, declares_types}
use Rattle.c_grammar.specs.Grammar.{AreSpecs, specs as the_specs, AreSpecifiers, no_specifiers, storage, qualifier, word as a_word, struct_specifier, enum_specifier, typedef_name}
use Rattle.c_grammar.specs.Reading.{State, Outcome, is_keyword, is_name, here}
use Rattle.c_grammar.specs.ReadingExpr.{choose}
use Rattle.c_grammar.specs.ReadingDecl.{are_of_type, taken_word, is_untyped, struct_spec, enum_spec, Saying, SaysStorage, SaysQualifier, SaysWord, SaysStruct, SaysEnum, SaysName, SaysNothing, saying_type, saying_word, saying_of, ended_specs, GoesOn, by_saying, specifiers, specs}
use Rattle.c_grammar.specs.Inner.{Inner}
use Rattle.c_grammar.proofs.Laws.{at_state, Sound}
use Rattle.c_grammar.proofs.SpecsTypes.{are_of_type-Decides, one_word}
use Rattle.c_grammar_laws.proofs.SpecsFound.{moved_ok, bind_ok, cond_is, is_keyword_kind, is_name_kind}
use Rattle.c_grammar_laws.proofs.SpecsParts.{struct_spec_sound, enum_spec_sound}

-- ---- what a token says

abbrev pub SaysIn : ℕ → Names → Typed → Token → List Token → Saying → Type 0
SaysIn total names typed t ts (SaysStorage w) = storage_of t.kind ≡ Some w
SaysIn total names typed t ts (SaysQualifier q) = qualifier_of t.kind ≡ Some q
SaysIn total names typed t ts (SaysWord typed' w) = (word_of t.kind ≡ Some w) × (taken_word w typed ≡ Some typed')
SaysIn total names typed t ts SaysStruct = (typed ≡ Untyped) × IsKeyword keyword.Struct t
SaysIn total names typed t ts SaysEnum = (typed ≡ Untyped) × IsKeyword keyword.Enum t
SaysIn total names typed t ts (SaysName n) = (typed ≡ Untyped) × (IsTypeName names t × (name_at (number_of total (t ∷ ts)) t ≡ n))
SaysIn total names typed t ts SaysNothing = Unit {0}

choose_by : {A B : Type 0} (P : B → Type 0) (o : Option A) (b : B) (f : A → B) → (o ≡ None → P b) → ((x : A) → o ≡ Some x → P (f x)) → P (choose o b f)
choose_by P None b f h g = h refl
choose_by P (Some x) b f h g = g x refl

cond_by : {B : Type 0} (P : B → Type 0) (t : Bool) (p q : B) → (t ≡ true → P p) → (t ≡ false → P q) → P (cond t p q)
cond_by P true p q h g = h refl
cond_by P false p q h g = g refl

untyped_is : (typed : Typed) → not (is_untyped typed) ≡ false → typed ≡ Untyped
untyped_is Untyped h = refl
untyped_is (Words ws) h = absurd cc
untyped_is Whole h = absurd cc

type_says : (total : ℕ) (names : Names) (typed : Typed) (t : Token) (ts : List Token) → SaysIn total names typed t ts (saying_type total names typed t ts)
type_says total names typed t ts =
    let P : Saying → Type 0 = SaysIn total names typed t ts in
    let name : Name = name_at (number_of total (t ∷ ts)) t in
    let named : Saying = if is_name t.kind && is_type_in names t.headers t.text then SaysName name else SaysNothing in
    let enumerated : Saying = if is_keyword keyword.Enum t.kind then SaysEnum else named in
    cond_by P (not (is_untyped typed)) SaysNothing (if is_keyword keyword.Struct t.kind then SaysStruct else enumerated) (λ e. tt)
    (λ u. cond_by P (is_keyword keyword.Struct t.kind) SaysStruct enumerated (λ e. (untyped_is typed u, is_keyword_kind keyword.Struct t.kind e))
    (λ _. cond_by P (is_keyword keyword.Enum t.kind) SaysEnum named (λ e. (untyped_is typed u, is_keyword_kind keyword.Enum t.kind e))
    (λ _. cond_by P (is_name t.kind && is_type_in names t.headers t.text) (SaysName name) SaysNothing
    (λ e. let p = and_parts (is_name t.kind) (is_type_in names t.headers t.text) e in (untyped_is typed u, ((is_name_kind t.kind p.0, p.1), refl)))
    (λ e. tt))))

pub says : (total : ℕ) (names : Names) (typed : Typed) (t : Token) (ts : List Token) → SaysIn total names typed t ts (saying_of total names typed (t ∷ ts))
says total names typed t ts =
    let P : Saying → Type 0 = SaysIn total names typed t ts in
    choose_by P (storage_of t.kind) (choose (qualifier_of t.kind) (saying_word total names typed t ts) (λ q. SaysQualifier q)) (λ s. SaysStorage s)
    (λ _. choose_by P (qualifier_of t.kind) (saying_word total names typed t ts) (λ q. SaysQualifier q)
    (λ _. choose_by P (word_of t.kind) (saying_type total names typed t ts) (λ w. choose (taken_word w typed) SaysNothing (λ typed'. SaysWord typed' w))
    (λ _. type_says total names typed t ts)
    (λ w is. choose_by P (taken_word w typed) SaysNothing (λ typed'. SaysWord typed' w) (λ _. tt) (λ typed' takes. (is, takes))))
    (λ q is. is))
    (λ s is. is)

-- ---- types so far

abbrev pub SoFar : Typed → Type 0
SoFar Untyped = Unit {0}
SoFar (Words ws) = AreOfType ws
SoFar Whole = Unit {0}

pub some_same : {A : Type 0} {x y : A} → Some x ≡ Some y → x ≡ y
some_same h = cc

pub taken_sound : (w : TypeWord) (typed typed' : Typed) → taken_word w typed ≡ Some typed' → (with_word w typed ≡ Some typed') × SoFar typed'
taken_sound w Untyped typed' h = (h, subst SoFar (some_same h) (one_word w))
taken_sound w (Words ws) typed' h =
    elim (cond_is (are_of_type (ws ++ w ∷ [])) (Some (Words (ws ++ w ∷ []))) None (Some typed') h) [
      | inl p ↦ (p.1, subst SoFar (some_same p.1) ((are_of_type-Decides (ws ++ w ∷ [])).0 p.0))
      | inr p ↦ absurd (let e = p.1 in cc)
    ]
taken_sound w Whole typed' h = absurd cc

-- ---- specifiers

abbrev pub made : ℕ → List Specifier → Bool → ReadSpecs
made token ss is_typedef = record { specs = record { token = token; specifiers = ss }; is_typedef = is_typedef }

pub made_same : (token : ℕ) {ss us : List Specifier} {b c : Bool} → ss ≡ us → b ≡ c → made token ss b ≡ made token us c
made_same token {ss} {us} {b} {c} e f = ap (λ vs. made token vs b) e ∙ ap (made token us) f

pub or_assoc : (a b c : Bool) → (a || (b || c)) ≡ ((a || b) || c)
or_assoc true b c = refl
or_assoc false b c = refl

pub or_false : (a : Bool) → (a || false) ≡ a
or_false true = refl
or_false false = refl

-- Specifiers were read behind those before.
pub record Specified (total most room token : ℕ) (typed : Typed) (is_typedef : Bool) (front : List Specifier) (s : State) (x : ReadSpecs × State) : Type 0 where
  pub last : Typed
  pub flag : Bool
  pub all : List Specifier
  pub found : AreSpecifiers total most (suc room) s.names typed s.rest x.1.rest x.1.names last flag all
  pub one : IsOneType last
  pub is : made token (front ++ all) (is_typedef || flag) ≡ x.0

abbrev GoesOnSoundly : ℕ → ℕ → ℕ → ℕ → GoesOn → Type 0
GoesOnSoundly total most room token on =
    (typed : Typed) (is_typedef : Bool) (front : List Specifier) (s : State) (x : ReadSpecs × State) → SoFar typed
    → on typed is_typedef front s ≡ Ok x → Specified total most room token typed is_typedef front s x

ended_at : (total most room token : ℕ) (typed : Typed) (is_typedef : Bool) (front : List Specifier) (s : State) (x : ReadSpecs × State) → IsOneType typed
    → ◌≡◌ {A = Outcome (ReadSpecs × State)} (Ok (made token front is_typedef, s)) (Ok x) → Specified total most room token typed is_typedef front s x
ended_at total most room token typed is_typedef front s x one h =
    moved_ok (Specified total most room token typed is_typedef front s) (record {
      last = typed;
      flag = false;
      all = [];
      found = no_specifiers;
      one = one;
      is = made_same token (append-nil front) (or_false is_typedef);
    }) h

ended_sound : (total most room token : ℕ) → GoesOnSoundly total most room token (ended_specs total token)
ended_sound total most room token Untyped is_typedef front s x so_far h = absurd cc
ended_sound total most room token (Words ws) is_typedef front s x so_far h = ended_at total most room token (Words ws) is_typedef front s x so_far h
ended_sound total most room token Whole is_typedef front s x so_far h = ended_at total most room token Whole is_typedef front s x tt h

module _ (total most room : ℕ) (inner : Inner) (sound : Sound total most room inner) (token : ℕ) where
  step_sound : (on : GoesOn) → GoesOnSoundly total most room token on
      → (say : Saying) (names : Names) (t : Token) (ts : List Token) (typed : Typed) (is_typedef : Bool) (front : List Specifier) (x : ReadSpecs × State)
      → SoFar typed → SaysIn total names typed t ts say
      → by_saying total room inner token on say typed is_typedef front (at_state names (t ∷ ts)) ≡ Ok x
      → Specified total most room token typed is_typedef front (at_state names (t ∷ ts)) x
  step_sound on goes (SaysStorage w) names t ts typed is_typedef front x so_far is h =
      let g = goes typed (is_typedef || declares_types w) (front ++ specifier.Storage w ∷ []) (at_state names ts) x so_far h in
      record {
        last = g.last;
        flag = declares_types w || g.flag;
        all = specifier.Storage w ∷ g.all;
        found = storage w is g.found;
        one = g.one;
        is = made_same token (sym (append_assoc front (specifier.Storage w ∷ []) g.all)) (or_assoc is_typedef (declares_types w) g.flag) ∙ g.is;
      }
  step_sound on goes (SaysQualifier q) names t ts typed is_typedef front x so_far is h =
      let g = goes typed is_typedef (front ++ specifier.Qualifier q ∷ []) (at_state names ts) x so_far h in
      record {
        last = g.last;
        flag = g.flag;
        all = specifier.Qualifier q ∷ g.all;
        found = qualifier q is g.found;
        one = g.one;
        is = made_same token (sym (append_assoc front (specifier.Qualifier q ∷ []) g.all)) refl ∙ g.is;
      }
  step_sound on goes (SaysWord typed' w) names t ts typed is_typedef front x so_far is h =
      let taken = taken_sound w typed typed' is.1 in
      let g = goes typed' is_typedef (front ++ specifier.Word w ∷ []) (at_state names ts) x taken.1 h in
      record {
        last = g.last;
        flag = g.flag;
        all = specifier.Word w ∷ g.all;
        found = a_word w is.0 taken.0 g.found;
        one = g.one;
        is = made_same token (sym (append_assoc front (specifier.Word w ∷ []) g.all)) refl ∙ g.is;
      }
  step_sound on goes SaysStruct names t ts typed is_typedef front x so_far is h =
      let (y, read, go) = bind_ok (struct_spec total inner (at_state names (t ∷ ts))) (λ y. on Whole is_typedef (front ++ specifier.Struct y.0 ∷ []) y.1) x h in
      let g = goes Whole is_typedef (front ++ specifier.Struct y.0 ∷ []) y.1 x tt go in
      record {
        last = g.last;
        flag = g.flag;
        all = specifier.Struct y.0 ∷ g.all;
        found = subst (λ ty. AreSpecifiers total most (suc room) names ty (t ∷ ts) x.1.rest x.1.names g.last g.flag (specifier.Struct y.0 ∷ g.all)) (sym is.0)
            (struct_specifier (struct_spec_sound total most room inner sound names t ts y is.1 read) g.found);
        one = g.one;
        is = made_same token (sym (append_assoc front (specifier.Struct y.0 ∷ []) g.all)) refl ∙ g.is;
      }
  step_sound on goes SaysEnum names t ts typed is_typedef front x so_far is h =
      let (y, read, go) = bind_ok (enum_spec total room inner (at_state names (t ∷ ts))) (λ y. on Whole is_typedef (front ++ specifier.Enum y.0 ∷ []) y.1) x h in
      let g = goes Whole is_typedef (front ++ specifier.Enum y.0 ∷ []) y.1 x tt go in
      record {
        last = g.last;
        flag = g.flag;
        all = specifier.Enum y.0 ∷ g.all;
        found = subst (λ ty. AreSpecifiers total most (suc room) names ty (t ∷ ts) x.1.rest x.1.names g.last g.flag (specifier.Enum y.0 ∷ g.all)) (sym is.0)
            (enum_specifier (enum_spec_sound total most room inner sound names t ts y is.1 read) g.found);
        one = g.one;
        is = made_same token (sym (append_assoc front (specifier.Enum y.0 ∷ []) g.all)) refl ∙ g.is;
      }
  step_sound on goes (SaysName n) names t ts typed is_typedef front x so_far is h =
      let g = goes Whole is_typedef (front ++ specifier.TypedefName n ∷ []) (at_state names ts) x tt h in
      let Q : Typed → Name → Type 0 = λ ty name. AreSpecifiers total most (suc room) names ty (t ∷ ts) x.1.rest x.1.names g.last g.flag (specifier.TypedefName name ∷ g.all) in
      record {
        last = g.last;
        flag = g.flag;
        all = specifier.TypedefName n ∷ g.all;
        found = subst (λ name. Q typed name) is.1.1 (subst (λ ty. Q ty (name_at (number_of total (t ∷ ts)) t)) (sym is.0) (typedef_name is.1.0 g.found));
        one = g.one;
        is = made_same token (sym (append_assoc front (specifier.TypedefName n ∷ []) g.all)) refl ∙ g.is;
      }
  step_sound on goes SaysNothing names t ts typed is_typedef front x so_far is h =
      ended_sound total most room token typed is_typedef front (at_state names (t ∷ ts)) x so_far h

  next_sound : (on : GoesOn) → GoesOnSoundly total most room token on
      → (names : Names) (ts : List Token) (typed : Typed) (is_typedef : Bool) (front : List Specifier) (x : ReadSpecs × State) → SoFar typed
      → by_saying total room inner token on (saying_of total names typed ts) typed is_typedef front (at_state names ts) ≡ Ok x
      → Specified total most room token typed is_typedef front (at_state names ts) x
  next_sound on goes names [] typed is_typedef front x so_far h = ended_sound total most room token typed is_typedef front (at_state names []) x so_far h
  next_sound on goes names (t ∷ ts) typed is_typedef front x so_far h =
      step_sound on goes (saying_of total names typed (t ∷ ts)) names t ts typed is_typedef front x so_far (says total names typed t ts) h

  specifiers_sound : (count : ℕ) → GoesOnSoundly total most room token (specifiers total room inner token count)
  unfolding specifiers
  specifiers_sound zero typed is_typedef front s x so_far h = ended_sound total most room token typed is_typedef front s x so_far h
  specifiers_sound (suc count) typed is_typedef front s x so_far h =
      next_sound (specifiers total room inner token count) (specifiers_sound count) s.names s.rest typed is_typedef front x so_far h

pub specs_sound : (total most room : ℕ) (inner : Inner) → Sound total most room inner → (s s' : State) (x : ReadSpecs) → specs total room inner s ≡ Ok (x, s')
    → AreSpecs total most (suc room) s.names s.rest s'.rest s'.names x.is_typedef x.specs
unfolding specs
specs_sound total most room inner sound s s' x h =
    let g = specifiers_sound total most room inner sound (here total s) (length s.rest) Untyped false [] s (x, s') tt h in
    subst (λ (z : ReadSpecs). AreSpecs total most (suc room) s.names s.rest s'.rest s'.names z.is_typedef z.specs) g.is (the_specs g.found g.one)
