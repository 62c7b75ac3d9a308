-- What is read as a declarator, as parameters or as an unnamed declarator is such a part.
use Rattle.std.proofs.Common.{◌≡◌, ℕ, zero, suc, ◌+◌, ◌&&◌, nat_eq, true, false, cond, Some, None, Option, Ok, Err, List, [], ◌∷◌, ◌++◌, length, refl, sym, ap, ◌∙◌, subst, inl, inr, arith, append_assoc, append-nil}
use Rattle.c_lex.specs.declared.token.Token.{Token}
use Rattle.c_lex.specs.declared.token.Keyword.TheVariants as keyword
use Rattle.c_lex.specs.declared.token.Mark.TheVariants as mark
use Rattle.c_ast.specs.declared.words.Name.{Name}
use Rattle.c_ast.specs.declared.words.Qualifier.{Qualifier}
use Rattle.c_ast.specs.declared.expression.Expr.{Expr}
use Rattle.c_ast.specs.declared.declaration.Declarator.{roll-Declarator}
use Rattle.c_ast.specs.declared.declaration.Direct.TheVariants as direct
use Rattle.c_ast.specs.declared.declaration.DirectSuffix.{DirectSuffix}
use Rattle.c_ast.specs.declared.declaration.DirectSuffix.TheVariants as suffix
use Rattle.c_ast.specs.declared.declaration.Param.{Param}
use Rattle.c_ast.specs.declared.declaration.Abstract.{Abstract}
use Rattle.c_grammar.specs.declared.phrases.Extent.TheVariants as extent
use Rattle.c_grammar.specs.declared.phrases.ReadDirect.{ReadDirect}
use Rattle.c_grammar.specs.declared.phrases.ReadSpecs.{ReadSpecs}
use Rattle.c_grammar.specs.declared.phrases.ReadDeclarator.{ReadDeclarator}
use Rattle.c_grammar.specs.declared.phrases.ReadParam.{ReadParam}
use Rattle.c_grammar.specs.declared.phrases.ReadParam.TheVariants.{Named, Unnamed}
use Rattle.c_grammar.specs.Names.{Names, name_at}
use Rattle.c_grammar.specs.Words.{IsMark, IsKeyword, number_of}
use Rattle.c_grammar.specs.Owns.{Own, Open, settled}
use Rattle.c_grammar.specs.Grammar.{Cond, behind_pointers, IsVoidAlone, AreQualifiers, no_qualifiers, more_qualifiers, ArePointers, no_pointers, more_pointers, IsExpr, IsAbstract, arrays, pointer, AreSizes, no_sizes, more_sizes, IsSize, unsized, sized, AreSpecs, IsDeclarator, declarator, IsDirect, direct_name, nested, AreSuffixes, no_suffixes, array, empty, void, params, AreParams, one_param, more_params, IsParam, named_param, unnamed_param}
use Rattle.c_grammar.specs.Reading.{State, Outcome, ◌>>=◌, sees_mark, sees_keyword, tail, behind, here, expect_mark, expect_name}
use Rattle.c_grammar.specs.ReadingDecl.{qualifiers, pointers, size, param_of, parameter, parameters, added, restored, function, suffixes, direct_at, declarator_from, sizes, unnamed_from, stars, unnamed, are_bare, starts_direct, param_declarator, too_deep}
use Rattle.c_grammar.specs.Inner.{Inner}
use Rattle.c_grammar.proofs.Laws.{at_state, IsParamPart, Sound}
use Rattle.c_grammar.proofs.Extends.{Extends, params_extend}
use Rattle.c_grammar.proofs.DeclaratorRuns.{QualifiersFound, qualifiers_found}
use Rattle.c_grammar.proofs.DeclaratorFound.{ok_moved, bind_ok, cond_is, mark_is, keyword_is, mark_seen, keyword_seen, MarkAhead, mark_ahead, MarkTaken, mark_taken, NameTaken, name_taken, take_added, drop_added}

-- ---- pointers

pub record PointersFound (room : ℕ) (names : Names) (ts : List Token) (front : List (List Qualifier)) (y : List (List Qualifier) × State) : Type 0 where
  pub found : List (List Qualifier)
  pub are : ArePointers (suc room) ts y.1.rest found
  pub all : y.0 ≡ front ++ found
  pub names_are : y.1.names ≡ names

pub pointers_found : (room count : ℕ) (front : List (List Qualifier)) (names : Names) (ts : List Token)
    → PointersFound room names ts front (pointers count front (at_state names ts))
unfolding pointers
pointers_found room zero front names ts = record { found = []; are = no_pointers; all = sym (append-nil front); names_are = refl }
pointers_found room (suc count) front names ts =
    let x : List Qualifier × List Token = qualifiers [] (tail ts) in
    elim (sees_mark mark.Star ts) as (λ b. (sees_mark mark.Star ts ≡ b)
    → PointersFound room names ts front (cond b (pointers count (front ++ x.0 ∷ []) (at_state names x.1)) (front, at_state names ts))) [
      | true ↦ λ is.
          let star : MarkAhead mark.Star ts = mark_ahead mark.Star ts is in
          let q : QualifiersFound room (tail ts) [] x = qualifiers_found room [] (tail ts) in
          let more : PointersFound room names x.1 (front ++ x.0 ∷ []) (pointers count (front ++ x.0 ∷ []) (at_state names x.1)) =
          pointers_found room count (front ++ x.0 ∷ []) names x.1 in
          let y : List (List Qualifier) × State = pointers count (front ++ x.0 ∷ []) (at_state names x.1) in
          let are : ArePointers (suc room) (star.t ∷ tail ts) y.1.rest (q.found ∷ more.found) = more_pointers star.is q.are more.are in
          record {
            found = q.found ∷ more.found;
            are = subst (λ us. ArePointers (suc room) us y.1.rest (q.found ∷ more.found)) (sym star.stands) are;
            all = more.all ∙ append_assoc front (x.0 ∷ []) more.found ∙ ap (λ qs. front ++ qs ∷ more.found) q.all;
            names_are = more.names_are;
          }
      | false ↦ λ is. record { found = []; are = no_pointers; all = sym (append-nil front); names_are = refl }
    ] refl

-- stars alone: so many more than those before
pub record StarsFound (total most room : ℕ) (names : Names) (ts : List Token) (count : ℕ) (y : ℕ × List Token) : Type 0 where
  pub found : ℕ
  pub all : y.0 ≡ count + found
  pub follows : (rest : List Token) (after : Names) (ss : List (Option Expr)) → AreSizes total most (suc room) names y.1 rest after ss
      → IsAbstract total most (suc room) names ts rest after (record { pointers = found; sizes = ss })

pub stars_found : (total most room : ℕ) (names : Names) (count : ℕ) (ts : List Token) → StarsFound total most room names ts count (stars count ts)
unfolding stars
stars_found total most room names count [] = record { found = 0; all = omega arith; follows = λ rest after ss are. arrays are }
stars_found total most room names count (t ∷ ts) =
    elim (Rattle.c_grammar.specs.Reading.is_mark mark.Star t.kind) as (λ b. (Rattle.c_grammar.specs.Reading.is_mark mark.Star t.kind ≡ b)
    → StarsFound total most room names (t ∷ ts) count (cond b (stars (suc count) ts) (count, t ∷ ts))) [
      | true ↦ λ is.
          let more : StarsFound total most room names ts (suc count) (stars (suc count) ts) = stars_found total most room names (suc count) ts in
          record {
            found = suc more.found;
            all = more.all ∙ omega arith;
            follows = λ rest after ss are. pointer (mark_is mark.Star t.kind is) (more.follows rest after ss are);
          }
      | false ↦ λ is. record { found = 0; all = omega arith; follows = λ rest after ss are. arrays are }
    ] refl

none_more : {room : ℕ} {ts rest : List Token} {qs : List Qualifier} → AreQualifiers room ts rest qs → qs ≡ [] → ts ≡ rest
none_more no_qualifiers h = refl
none_more (more_qualifiers q is ds) h = absurd cc

bare_one : (qs : List Qualifier) (ps : List (List Qualifier)) → are_bare (qs ∷ ps) ≡ true → (qs ≡ []) × (are_bare ps ≡ true)
bare_one [] ps h = (refl, h)
bare_one (q ∷ qs) ps h = absurd cc

pub bare_pointers : {total most room : ℕ} {names after : Names} {ts mid rest : List Token} {ps : List (List Qualifier)} {ss : List (Option Expr)}
    → ArePointers room ts mid ps → are_bare ps ≡ true → AreSizes total most room names mid rest after ss
    → IsAbstract total most room names ts rest after (record { pointers = length ps; sizes = ss })
bare_pointers no_pointers bare are = arrays are
bare_pointers {total = total} {most = most} {room = room} {names = names} {after = after} {rest = rest} {ss = ss}
    (more_pointers {ts = ts} {mid = mid} {qs = qs} {ps = ps} is ds more) bare are =
    let (none, others) = bare_one qs ps bare in
    let same : ts ≡ mid = none_more ds none in
    pointer is (subst (λ us. IsAbstract total most room names us rest after (record { pointers = length ps; sizes = ss })) (sym same) (bare_pointers more others are))

-- ---- sizes of arrays

pub record SizesFound (total most room : ℕ) (names : Names) (ts : List Token) (front : List (Option Expr)) (y : List (Option Expr) × State) : Type 0 where
  pub found : List (Option Expr)
  pub are : AreSizes total most (suc room) names ts y.1.rest y.1.names found
  pub all : y.0 ≡ front ++ found

-- ---- suffixes and parameters

-- what a suffix gives, whatever suffixes are behind it
pub record Follows (total most room : ℕ) (names : Names) (own : Own) (ts : List Token) (y : (DirectSuffix × Own) × State) : Type 0 where
  pub follows : (rest : List Token) (after : Names) (own' : Own) (ss : List DirectSuffix)
      → AreSuffixes total most (suc room) y.1.names y.0.1 y.1.rest rest after own' ss
      → AreSuffixes total most (suc room) names own ts rest after own' (y.0.0 ∷ ss)

pub record ParametersFound (total most room : ℕ) (names : Names) (ts : List Token) (front : List Param) (y : List Param × State) : Type 0 where
  pub found : List Param
  pub c : Token
  pub are : AreParams total most room names ts (c ∷ y.1.rest) y.1.names found
  pub closes : IsMark mark.CloseParen c
  pub all : y.0 ≡ front ++ found

pub record SuffixesFound (total most room : ℕ) (names : Names) (own : Own) (ts : List Token) (front : List DirectSuffix)
    (y : (List DirectSuffix × Own) × State) : Type 0 where
  pub found : List DirectSuffix
  pub are : AreSuffixes total most (suc room) names own ts y.1.rest y.1.names y.0.1 found
  pub all : y.0.0 ≡ front ++ found

suffixes_whole : {total most room : ℕ} {names : Names} {own : Own} {ts : List Token} {y : (List DirectSuffix × Own) × State}
    → SuffixesFound total most room names own ts [] y → AreSuffixes total most (suc room) names own ts y.1.rest y.1.names y.0.1 y.0.0
suffixes_whole {total = total} {most = most} {room = room} {names = names} {own = own} {ts = ts} {y = y} f =
    subst (λ ss. AreSuffixes total most (suc room) names own ts y.1.rest y.1.names y.0.1 ss) (sym f.all) f.are

-- a `void` alone needs room for it
void_there : (total most room : ℕ) (names after : Names) (own own' : Own) (o v c : Token) (mid rest : List Token) (ss : List DirectSuffix)
    → nat_eq room 0 ≡ false → IsMark mark.OpenParen o → IsKeyword keyword.Void v → IsMark mark.CloseParen c
    → AreSuffixes total most (suc room) names (settled own []) mid rest after own' ss
    → AreSuffixes total most (suc room) names own (o ∷ v ∷ c ∷ mid) rest after own' (suffix.Void (number_of total (o ∷ v ∷ c ∷ mid)) ∷ ss)
void_there total most zero names after own own' o v c mid rest ss has opens is closes d = absurd cc
void_there total most (suc room) names after own own' o v c mid rest ss has opens is closes d = void opens is closes d

pub void_alone : (ts : List Token) → IsVoidAlone ts → (sees_keyword keyword.Void ts && sees_mark mark.CloseParen (tail ts)) ≡ true
void_alone [] h = absurd h
void_alone (v ∷ []) h = absurd h
void_alone (v ∷ c ∷ ts) h = rw (keyword_seen keyword.Void v.kind h.0, mark_seen mark.CloseParen c.kind h.1)

-- two tokens that stand there
pub record VoidAhead (ts : List Token) : Type 0 where
  pub v : Token
  pub c : Token
  pub is : IsKeyword keyword.Void v
  pub closes : IsMark mark.CloseParen c
  pub stands : ts ≡ v ∷ c ∷ tail (tail ts)

pub void_ahead : (ts : List Token) → (sees_keyword keyword.Void ts && sees_mark mark.CloseParen (tail ts)) ≡ true → VoidAhead ts
void_ahead [] h = absurd cc
void_ahead (v ∷ ts) h =
    elim (Rattle.c_grammar.specs.Reading.is_keyword keyword.Void v.kind) as (λ b. (Rattle.c_grammar.specs.Reading.is_keyword keyword.Void v.kind ≡ b)
    → (b && sees_mark mark.CloseParen ts) ≡ true → VoidAhead (v ∷ ts)) [
      | true ↦ λ is closes.
          let c : MarkAhead mark.CloseParen ts = mark_ahead mark.CloseParen ts closes in
          record { v = v; c = c.t; is = keyword_is keyword.Void v.kind is; closes = c.is; stands = ap (λ us. v ∷ us) c.stands }
      | false ↦ λ is closes. absurd cc
    ] refl h

module _ (total most room : ℕ) (inner : Inner) (sound : Sound total most room inner) where
  size_at : (names : Names) (o : Token) (ts : List Token) (y : Option Expr × State) → IsMark mark.OpenBracket o
      → size total inner (at_state names (o ∷ ts)) ≡ Ok y → IsSize total most (suc room) names (o ∷ ts) y.1.rest y.1.names y.0
  unfolding size
  size_at names o ts y opens h =
      let s : State = at_state names ts in
      let read : Expr × State → Outcome (Option Expr × State) = λ x. expect_mark total mark.CloseBracket x.1 >>= λ s'. Ok (Some x.0, s') in
      elim (cond_is (sees_mark mark.CloseBracket ts) (Ok (None, behind s)) (inner.expr extent.Cond s >>= read) (Ok y) h) [
        | inl p ↦
            let c : MarkAhead mark.CloseBracket ts = mark_ahead mark.CloseBracket ts p.0 in
            let here : IsSize total most (suc room) names (o ∷ c.t ∷ tail ts) (tail ts) names None = unsized opens c.is in
            ok_moved (λ (z : Option Expr × State). IsSize total most (suc room) names (o ∷ ts) z.1.rest z.1.names z.0)
            (subst (λ us. IsSize total most (suc room) names (o ∷ us) (tail ts) names None) (sym c.stands) here) p.1
        | inr p ↦
            let (x, there, go) = bind_ok (inner.expr extent.Cond s) read y p.1 in
            let (s', closes, made) = bind_ok (expect_mark total mark.CloseBracket x.1) (λ s'. Ok (Some x.0, s')) y go in
            let c : MarkTaken mark.CloseBracket x.1 s' = mark_taken total mark.CloseBracket x.1 s' closes in
            let d : IsExpr total most Cond room names ts (c.t ∷ s'.rest) x.1.names x.0 =
            subst (λ us. IsExpr total most Cond room names ts us x.1.names x.0) c.stands (sound.expr extent.Cond s x.1 x.0 there) in
            let here : IsSize total most (suc room) names (o ∷ ts) s'.rest x.1.names (Some x.0) = sized opens d c.is in
            ok_moved (λ (z : Option Expr × State). IsSize total most (suc room) names (o ∷ ts) z.1.rest z.1.names z.0)
            (subst (λ ns. IsSize total most (suc room) names (o ∷ ts) s'.rest ns (Some x.0)) (sym c.names) here) made
      ]

  pub size_sound : (names : Names) (ts : List Token) (y : Option Expr × State) → sees_mark mark.OpenBracket ts ≡ true
      → size total inner (at_state names ts) ≡ Ok y → IsSize total most (suc room) names ts y.1.rest y.1.names y.0
  size_sound names [] y sees h = absurd cc
  size_sound names (o ∷ ts) y sees h = size_at names o ts y (mark_is mark.OpenBracket o.kind sees) h

  sizes_sound : (count : ℕ) (front : List (Option Expr)) (names : Names) (ts : List Token) (y : List (Option Expr) × State)
      → sizes total inner count front (at_state names ts) ≡ Ok y → SizesFound total most room names ts front y
  unfolding sizes
  sizes_sound zero front names ts y h = ok_moved (SizesFound total most room names ts front) (record { found = []; are = no_sizes; all = sym (append-nil front) }) h
  sizes_sound (suc count) front names ts y h =
      let s : State = at_state names ts in
      let read : Option Expr × State → Outcome (List (Option Expr) × State) = λ x. sizes total inner count (front ++ x.0 ∷ []) x.1 in
      elim (cond_is (sees_mark mark.OpenBracket ts) (size total inner s >>= read) (Ok (front, s)) (Ok y) h) [
        | inl p ↦
            let (x, there, go) = bind_ok (size total inner s) read y p.1 in
            let d : IsSize total most (suc room) names ts x.1.rest x.1.names x.0 = size_sound names ts x p.0 there in
            let more : SizesFound total most room x.1.names x.1.rest (front ++ x.0 ∷ []) y = sizes_sound count (front ++ x.0 ∷ []) x.1.names x.1.rest y go in
            record { found = x.0 ∷ more.found; are = more_sizes d more.are; all = more.all ∙ append_assoc front (x.0 ∷ []) more.found }
        | inr p ↦ ok_moved (SizesFound total most room names ts front) (record { found = []; are = no_sizes; all = sym (append-nil front) }) p.1
      ]

  param_made : (names : Names) (ts : List Token) (x : ReadSpecs × State) (p : ReadParam) (s' : State)
      → AreSpecs total most room names ts x.1.rest x.1.names x.0.is_typedef x.0.specs → IsParamPart total most room x.1.names x.1.rest s'.rest s'.names p
      → IsParam total most room names ts (param_of x.0 (p, s')).1.rest (param_of x.0 (p, s')).1.names (param_of x.0 (p, s')).0
  param_made names ts x (Named d) s' are is = named_param are is
  param_made names ts x (Unnamed a) s' are is = unnamed_param are is

  pub parameter_sound : (names : Names) (ts : List Token) (y : Param × State) → parameter total inner (at_state names ts) ≡ Ok y
      → IsParam total most room names ts y.1.rest y.1.names y.0
  unfolding parameter
  parameter_sound names ts y h =
      let s : State = at_state names ts in
      let (x, there, go) = bind_ok (inner.specs s) (λ x. inner.param x.1 >>= λ z. Ok (param_of x.0 z)) y h in
      let (z, behind, made) = bind_ok (inner.param x.1) (λ z. Ok (param_of x.0 z)) y go in
      ok_moved (λ (z : Param × State). IsParam total most room names ts z.1.rest z.1.names z.0)
      (param_made names ts x z.0 z.1 (sound.specs s x.1 x.0 there) (sound.param x.1 z.1 z.0 behind)) made

  parameters_sound : (count : ℕ) (front : List Param) (names : Names) (ts : List Token) (y : List Param × State)
      → parameters total inner count front (at_state names ts) ≡ Ok y → ParametersFound total most room names ts front y
  unfolding parameters
  parameters_sound zero front names ts y h = absurd cc
  parameters_sound (suc count) front names ts y h =
      let s : State = at_state names ts in
      let ends : Param × State → Outcome (List Param × State) = λ x. expect_mark total mark.CloseParen x.1 >>= λ s'. Ok (front ++ x.0 ∷ [], s') in
      let on : Param × State → Outcome (List Param × State) = λ x. parameters total inner count (front ++ x.0 ∷ []) (behind x.1) in
      let (x, there, go) = bind_ok (parameter total inner s) (λ x. cond (sees_mark mark.Comma x.1.rest) (on x) (ends x)) y h in
      let d : IsParam total most room names ts x.1.rest x.1.names x.0 = parameter_sound names ts x there in
      elim (cond_is (sees_mark mark.Comma x.1.rest) (on x) (ends x) (Ok y) go) [
        | inl p ↦
            let c : MarkAhead mark.Comma x.1.rest = mark_ahead mark.Comma x.1.rest p.0 in
            let more : ParametersFound total most room x.1.names (tail x.1.rest) (front ++ x.0 ∷ []) y =
            parameters_sound count (front ++ x.0 ∷ []) x.1.names (tail x.1.rest) y p.1 in
            let first : IsParam total most room names ts (c.t ∷ tail x.1.rest) x.1.names x.0 =
            subst (λ us. IsParam total most room names ts us x.1.names x.0) c.stands d in
            record {
              found = x.0 ∷ more.found;
              c = more.c;
              are = more_params first c.is more.are;
              closes = more.closes;
              all = more.all ∙ append_assoc front (x.0 ∷ []) more.found;
            }
        | inr p ↦
            let (s', closes, made) = bind_ok (expect_mark total mark.CloseParen x.1) (λ s'. Ok (front ++ x.0 ∷ [], s')) y p.1 in
            let c : MarkTaken mark.CloseParen x.1 s' = mark_taken total mark.CloseParen x.1 s' closes in
            let last : IsParam total most room names ts (c.t ∷ s'.rest) s'.names x.0 =
            subst (λ ns. IsParam total most room names ts (c.t ∷ s'.rest) ns x.0) (sym c.names)
            (subst (λ us. IsParam total most room names ts us x.1.names x.0) c.stands d) in
            ok_moved (ParametersFound total most room names ts front)
            (record { found = x.0 ∷ []; c = c.t; are = one_param last; closes = c.is; all = refl }) made
      ]

  -- the parameters of a function are a scope
  params_at : (names : Names) (own : Own) (o : Token) (ts : List Token) (x : List Param × State) → IsMark mark.OpenParen o
      → (IsVoidAlone ts → ⊥) → ParametersFound total most room names ts [] x
      → Follows total most room names own (o ∷ ts)
      ((suffix.Params (number_of total (o ∷ ts)) x.0, settled own (added names x.1.names)), record { names = restored names x.1.names; rest = x.1.rest })
  params_at names own o ts x opens other f = record {
    follows = λ rest after own' ss more.
        let e : Extends names x.1.names ts (f.c ∷ x.1.rest) = params_extend f.are in
        let came : added names x.1.names ≡ e.added = take_added e.added names x.1.names e.grows in
        let back : restored names x.1.names ≡ names = drop_added e.added names x.1.names e.grows in
        let are : AreParams total most room names ts (f.c ∷ x.1.rest) (e.added ++ names) x.0 =
        subst (λ ps. AreParams total most room names ts (f.c ∷ x.1.rest) (e.added ++ names) ps) (sym f.all)
        (subst (λ ns. AreParams total most room names ts (f.c ∷ x.1.rest) ns f.found) e.grows f.are) in
        let behind : AreSuffixes total most (suc room) names (settled own e.added) x.1.rest rest after own' ss =
        subst (λ ns. AreSuffixes total most (suc room) names (settled own ns) x.1.rest rest after own' ss) came
        (subst (λ ns. AreSuffixes total most (suc room) ns (settled own (added names x.1.names)) x.1.rest rest after own' ss) back more) in
        params e.added opens other are f.closes behind;
  }

  function_at : (names : Names) (own : Own) (o : Token) (ts : List Token) (y : (DirectSuffix × Own) × State) → IsMark mark.OpenParen o
      → function total room inner own (at_state names (o ∷ ts)) ≡ Ok y → Follows total most room names own (o ∷ ts) y
  unfolding function
  function_at names own o ts y opens h =
      let s : State = at_state names (o ∷ ts) in
      let P : (DirectSuffix × Own) × State → Type 0 = λ z. Follows total most room names own (o ∷ ts) z in
      let read : List Param × State → Outcome ((DirectSuffix × Own) × State) = λ x. Ok
      ((suffix.Params (here total s) x.0, settled own (added names x.1.names)), record { names = restored names x.1.names; rest = x.1.rest }) in
      let alone : Outcome ((DirectSuffix × Own) × State) =
      cond (nat_eq room 0) (Err (too_deep total (behind s))) (Ok ((suffix.Void (here total s), settled own []), behind (behind (behind s)))) in
      let reads : Outcome ((DirectSuffix × Own) × State) = parameters total inner (length (o ∷ ts)) [] (behind s) >>= read in
      elim (cond_is (sees_mark mark.CloseParen ts) (Ok ((suffix.Empty (here total s), settled own []), behind (behind s)))
      (cond (sees_keyword keyword.Void ts && sees_mark mark.CloseParen (tail ts)) alone reads) (Ok y) h) [
        | inl p ↦
            let c : MarkAhead mark.CloseParen ts = mark_ahead mark.CloseParen ts p.0 in
            ok_moved P (record {
              follows = λ rest after own' ss more.
                  let all : o ∷ c.t ∷ tail ts ≡ o ∷ ts = ap (λ us. o ∷ us) (sym c.stands) in
                  subst (λ us. AreSuffixes total most (suc room) names own us rest after own' (suffix.Empty (number_of total us) ∷ ss)) all
                  (empty opens c.is more);
            }) p.1
        | inr p ↦ elim (cond_is (sees_keyword keyword.Void ts && sees_mark mark.CloseParen (tail ts)) alone reads (Ok y) p.1) [
          | inl q ↦
              let v : VoidAhead ts = void_ahead ts q.0 in
              elim (cond_is (nat_eq room 0) (Err (too_deep total (behind s))) (Ok ((suffix.Void (here total s), settled own []), behind (behind (behind s)))) (Ok y) q.1) [
                | inl r ↦ absurd (let e = r.1 in cc)
                | inr r ↦
                    ok_moved P (record {
                      follows = λ rest after own' ss more.
                          let all : o ∷ v.v ∷ v.c ∷ tail (tail ts) ≡ o ∷ ts = ap (λ us. o ∷ us) (sym v.stands) in
                          subst (λ us. AreSuffixes total most (suc room) names own us rest after own' (suffix.Void (number_of total us) ∷ ss)) all
                          (void_there total most room names after own own' o v.v v.c (tail (tail ts)) rest ss r.0 opens v.is v.closes more);
                    }) r.1
              ]
          | inr q ↦
              let (x, there, made) = bind_ok (parameters total inner (length (o ∷ ts)) [] (behind s)) read y q.1 in
              let f : ParametersFound total most room names ts [] x = parameters_sound (length (o ∷ ts)) [] names ts x there in
              ok_moved P (params_at names own o ts x opens (λ alone. let e = void_alone ts alone in let n = q.0 in absurd cc) f) made
        ]
      ]

  pub function_sound : (names : Names) (own : Own) (ts : List Token) (y : (DirectSuffix × Own) × State) → sees_mark mark.OpenParen ts ≡ true
      → function total room inner own (at_state names ts) ≡ Ok y → Follows total most room names own ts y
  function_sound names own [] y sees h = absurd cc
  function_sound names own (o ∷ ts) y sees h = function_at names own o ts y (mark_is mark.OpenParen o.kind sees) h

  suffixes_sound : (count : ℕ) (own : Own) (front : List DirectSuffix) (names : Names) (ts : List Token) (y : (List DirectSuffix × Own) × State)
      → suffixes total room inner count own front (at_state names ts) ≡ Ok y → SuffixesFound total most room names own ts front y
  unfolding suffixes
  suffixes_sound zero own front names ts y h =
      ok_moved (SuffixesFound total most room names own ts front) (record { found = []; are = no_suffixes; all = sym (append-nil front) }) h
  suffixes_sound (suc count) own front names ts y h =
      let s : State = at_state names ts in
      let arrays_on : Option Expr × State → Outcome ((List DirectSuffix × Own) × State) = λ x.
      suffixes total room inner count (settled own []) (front ++ suffix.Array (here total s) x.0 ∷ []) x.1 in
      let on : (DirectSuffix × Own) × State → Outcome ((List DirectSuffix × Own) × State) = λ x.
      suffixes total room inner count x.0.1 (front ++ x.0.0 ∷ []) x.1 in
      elim (cond_is (sees_mark mark.OpenBracket ts) (size total inner s >>= arrays_on)
      (cond (sees_mark mark.OpenParen ts) (function total room inner own s >>= on) (Ok ((front, own), s))) (Ok y) h) [
        | inl p ↦
            let (x, there, go) = bind_ok (size total inner s) arrays_on y p.1 in
            let a : DirectSuffix = suffix.Array (number_of total ts) x.0 in
            let d : IsSize total most (suc room) names ts x.1.rest x.1.names x.0 = size_sound names ts x p.0 there in
            let more : SuffixesFound total most room x.1.names (settled own []) x.1.rest (front ++ a ∷ []) y =
            suffixes_sound count (settled own []) (front ++ a ∷ []) x.1.names x.1.rest y go in
            record { found = a ∷ more.found; are = array d more.are; all = more.all ∙ append_assoc front (a ∷ []) more.found }
        | inr p ↦ elim (cond_is (sees_mark mark.OpenParen ts) (function total room inner own s >>= on) (Ok ((front, own), s)) (Ok y) p.1) [
          | inl q ↦
              let (x, there, go) = bind_ok (function total room inner own s) on y q.1 in
              let f : Follows total most room names own ts x = function_sound names own ts x q.0 there in
              let more : SuffixesFound total most room x.1.names x.0.1 x.1.rest (front ++ x.0.0 ∷ []) y =
              suffixes_sound count x.0.1 (front ++ x.0.0 ∷ []) x.1.names x.1.rest y go in
              record {
                found = x.0.0 ∷ more.found;
                are = f.follows y.1.rest y.1.names y.0.1 more.found more.are;
                all = more.all ∙ append_assoc front (x.0.0 ∷ []) more.found;
              }
          | inr q ↦
              ok_moved (SuffixesFound total most room names own ts front) (record { found = []; are = no_suffixes; all = sym (append-nil front) }) q.1
        ]
      ]

  direct_at_paren : (names : Names) (o : Token) (ts : List Token) (y : ReadDirect × State) → IsMark mark.OpenParen o
      → (inner.declarator (at_state names ts)
      >>= λ x. expect_mark total mark.CloseParen x.1
      >>= λ s'. Ok (record { tree = direct.Nested (number_of total (o ∷ ts)) x.0.tree; name = x.0.name; own = x.0.own }, s')) ≡ Ok y
      → IsDirect total most (suc room) names (o ∷ ts) y.1.rest y.1.names y.0.name y.0.own y.0.tree
  direct_at_paren names o ts y opens h =
      let made : ReadDeclarator → ReadDirect = λ d. record { tree = direct.Nested (number_of total (o ∷ ts)) d.tree; name = d.name; own = d.own } in
      let (x, there, go) = bind_ok (inner.declarator (at_state names ts)) (λ x. expect_mark total mark.CloseParen x.1 >>= λ s'. Ok (made x.0, s')) y h in
      let (s', closes, done) = bind_ok (expect_mark total mark.CloseParen x.1) (λ s'. Ok (made x.0, s')) y go in
      let c : MarkTaken mark.CloseParen x.1 s' = mark_taken total mark.CloseParen x.1 s' closes in
      let d : IsDeclarator total most room names ts (c.t ∷ s'.rest) s'.names x.0.name x.0.own x.0.tree =
      subst (λ ns. IsDeclarator total most room names ts (c.t ∷ s'.rest) ns x.0.name x.0.own x.0.tree) (sym c.names)
      (subst (λ us. IsDeclarator total most room names ts us x.1.names x.0.name x.0.own x.0.tree) {y = c.t ∷ s'.rest} c.stands
      (sound.declarator (at_state names ts) x.1 x.0 there)) in
      ok_moved (λ (z : ReadDirect × State). IsDirect total most (suc room) names (o ∷ ts) z.1.rest z.1.names z.0.name z.0.own z.0.tree)
      (nested opens d c.is) done

  direct_at_name : (names : Names) (ts : List Token) (y : ReadDirect × State)
      → (expect_name total (at_state names ts) >>= λ x. Ok (record { tree = direct.Name x.0; name = x.0.text; own = Open }, x.1)) ≡ Ok y
      → IsDirect total most (suc room) names ts y.1.rest y.1.names y.0.name y.0.own y.0.tree
  direct_at_name names ts y h =
      let made : Name × State → ReadDirect × State = λ x. (record { tree = direct.Name x.0; name = x.0.text; own = Open }, x.1) in
      let (x, there, done) = bind_ok (expect_name total (at_state names ts)) (λ x. Ok (made x)) y h in
      let n : NameTaken total (at_state names ts) x = name_taken total (at_state names ts) x there in
      let here : IsDirect total most (suc room) names (n.t ∷ x.1.rest) x.1.rest names n.t.text Open (direct.Name (name_at (number_of total (n.t ∷ x.1.rest)) n.t)) =
      direct_name n.is in
      let stood : IsDirect total most (suc room) names ts x.1.rest names n.t.text Open (direct.Name (name_at (number_of total ts) n.t)) =
      subst (λ us. IsDirect total most (suc room) names us x.1.rest names n.t.text Open (direct.Name (name_at (number_of total us) n.t))) (sym n.stands) here in
      let named : IsDirect total most (suc room) names ts x.1.rest names x.0.text Open (direct.Name x.0) =
      subst (λ (m : Name). IsDirect total most (suc room) names ts x.1.rest names m.text Open (direct.Name m)) (sym n.named) stood in
      ok_moved (λ (z : ReadDirect × State). IsDirect total most (suc room) names ts z.1.rest z.1.names z.0.name z.0.own z.0.tree)
      (subst (λ ns. IsDirect total most (suc room) names ts x.1.rest ns x.0.text Open (direct.Name x.0)) (sym n.names) named) done

  pub direct_sound : (names : Names) (ts : List Token) (y : ReadDirect × State) → direct_at total inner (at_state names ts) ≡ Ok y
      → IsDirect total most (suc room) names ts y.1.rest y.1.names y.0.name y.0.own y.0.tree
  unfolding direct_at
  direct_sound names [] y h = direct_at_name names [] y h
  direct_sound names (o ∷ ts) y h =
      elim (cond_is (sees_mark mark.OpenParen (o ∷ ts)) (inner.declarator (at_state names ts)
      >>= λ x. expect_mark total mark.CloseParen x.1
      >>= λ s'. Ok (record { tree = direct.Nested (number_of total (o ∷ ts)) x.0.tree; name = x.0.name; own = x.0.own }, s'))
      (expect_name total (at_state names (o ∷ ts)) >>= λ x. Ok (record { tree = direct.Name x.0; name = x.0.text; own = Open }, x.1)) (Ok y) h) [
        | inl p ↦ direct_at_paren names o ts y (mark_is mark.OpenParen o.kind p.0) p.1
        | inr p ↦ direct_at_name names (o ∷ ts) y p.1
      ]

  declarator_from_sound : (names : Names) (ts : List Token) (ps : List (List Qualifier)) (start : State) (y : ReadDeclarator × State)
      → start.names ≡ names → ArePointers (suc room) ts start.rest ps
      → declarator_from total room inner (number_of total ts) ps start ≡ Ok y
      → IsDeclarator total most (suc room) names ts y.1.rest y.1.names y.0.name y.0.own y.0.tree
  unfolding declarator_from
  declarator_from_sound names ts ps start y same are h =
      let tree : ReadDirect × State → (List DirectSuffix × Own) × State → ReadDeclarator = λ x z. record {
        tree = roll-Declarator (record { token = number_of total ts; pointers = ps; direct = x.0.tree; suffixes = z.0.0 });
        name = x.0.name;
        own = behind_pointers ps z.0.1;
      } in
      let (x, there, go) = bind_ok (direct_at total inner start)
      (λ x. suffixes total room inner (length x.1.rest) x.0.own [] x.1 >>= λ z. Ok (tree x z, z.1)) y h in
      let (z, behind, made) = bind_ok (suffixes total room inner (length x.1.rest) x.0.own [] x.1) (λ z. Ok (tree x z, z.1)) y go in
      let d : IsDirect total most (suc room) names start.rest x.1.rest x.1.names x.0.name x.0.own x.0.tree =
      subst (λ ns. IsDirect total most (suc room) ns start.rest x.1.rest x.1.names x.0.name x.0.own x.0.tree) same
      (direct_sound start.names start.rest x there) in
      let f : SuffixesFound total most room x.1.names x.0.own x.1.rest [] z = suffixes_sound (length x.1.rest) x.0.own [] x.1.names x.1.rest z behind in
      let ss : AreSuffixes total most (suc room) x.1.names x.0.own x.1.rest z.1.rest z.1.names z.0.1 z.0.0 = suffixes_whole f in
      ok_moved (λ (w : ReadDeclarator × State). IsDeclarator total most (suc room) names ts w.1.rest w.1.names w.0.name w.0.own w.0.tree)
      (declarator are d ss) made

  pub declarator_sound : (s s' : State) (d : ReadDeclarator) → Rattle.c_grammar.specs.ReadingDecl.declarator total room inner s ≡ Ok (d, s')
      → IsDeclarator total most (suc room) s.names s.rest s'.rest s'.names d.name d.own d.tree
  unfolding Rattle.c_grammar.specs.ReadingDecl.declarator
  declarator_sound s s' d h =
      let x : List (List Qualifier) × State = pointers (length s.rest) [] s in
      let f : PointersFound room s.names s.rest [] x = pointers_found room (length s.rest) [] s.names s.rest in
      let are : ArePointers (suc room) s.rest x.1.rest x.0 = subst (λ ps. ArePointers (suc room) s.rest x.1.rest ps) (sym f.all) f.are in
      declarator_from_sound s.names s.rest x.0 x.1 (d, s') f.names_are are h

  unnamed_from_sound : (names : Names) (ts : List Token) (count : ℕ) (y : Abstract Expr × State) → unnamed_from total inner count (at_state names ts) ≡ Ok y
      → (ss : List (Option Expr)) × AreSizes total most (suc room) names ts y.1.rest y.1.names ss × (y.0 ≡ record { pointers = count; sizes = ss })
  unnamed_from_sound names ts count y h =
      let made : List (Option Expr) × State → Abstract Expr × State = λ x. (record { pointers = count; sizes = x.0 }, x.1) in
      let (x, there, done) = bind_ok (sizes total inner (length ts) [] (at_state names ts)) (λ x. Ok (made x)) y h in
      let f : SizesFound total most room names ts [] x = sizes_sound (length ts) [] names ts x there in
      let are : AreSizes total most (suc room) names ts x.1.rest x.1.names x.0 =
      subst (λ ss. AreSizes total most (suc room) names ts x.1.rest x.1.names ss) (sym f.all) f.are in
      ok_moved (λ (z : Abstract Expr × State).
      (ss : List (Option Expr)) × AreSizes total most (suc room) names ts z.1.rest z.1.names ss × (z.0 ≡ record { pointers = count; sizes = ss }))
      (x.0, are, refl) done

  pub unnamed_sound : (s s' : State) (a : Abstract Expr) → unnamed total inner s ≡ Ok (a, s')
      → IsAbstract total most (suc room) s.names s.rest s'.rest s'.names a
  unfolding unnamed
  unnamed_sound s s' a h =
      let x : ℕ × List Token = stars 0 s.rest in
      let f : StarsFound total most room s.names s.rest 0 x = stars_found total most room s.names 0 s.rest in
      let (ss, are, same) = unnamed_from_sound s.names x.1 x.0 (a, s') h in
      let count : x.0 ≡ f.found = f.all ∙ omega arith in
      let tree : record { pointers = f.found; sizes = ss } ≡ a =
      ap (λ n. record { pointers = n; sizes = ss }) (sym count) ∙ sym same in
      subst (λ (b : Abstract Expr). IsAbstract total most (suc room) s.names s.rest s'.rest s'.names b) tree (f.follows s'.rest s'.names ss are)

  pub param_sound : (s s' : State) (p : ReadParam) → param_declarator total room inner s ≡ Ok (p, s')
      → IsParamPart total most (suc room) s.names s.rest s'.rest s'.names p
  unfolding param_declarator
  param_sound s s' p h =
      let x : List (List Qualifier) × State = pointers (length s.rest) [] s in
      let f : PointersFound room s.names s.rest [] x = pointers_found room (length s.rest) [] s.names s.rest in
      let are : ArePointers (suc room) s.rest x.1.rest x.0 = subst (λ ps. ArePointers (suc room) s.rest x.1.rest ps) (sym f.all) f.are in
      let P : ReadParam × State → Type 0 = λ z. IsParamPart total most (suc room) s.names s.rest z.1.rest z.1.names z.0 in
      let named : Outcome (ReadParam × State) = declarator_from total room inner (here total s) x.0 x.1 >>= λ y. Ok (Named y.0, y.1) in
      let nameless : Outcome (ReadParam × State) = unnamed_from total inner (length x.0) x.1 >>= λ y. Ok (Unnamed y.0, y.1) in
      let fails : Outcome (ReadParam × State) = Err (Rattle.c_grammar.specs.Reading.Unexpected (here total x.1)) in
      elim (cond_is (starts_direct x.1.rest) named (cond (are_bare x.0) nameless fails) (Ok (p, s')) h) [
        | inl q ↦
            let (y, there, made) = bind_ok (declarator_from total room inner (here total s) x.0 x.1) (λ y. Ok (Named y.0, y.1)) (p, s') q.1 in
            ok_moved P (declarator_from_sound s.names s.rest x.0 x.1 y f.names_are are there) made
        | inr q ↦ elim (cond_is (are_bare x.0) nameless fails (Ok (p, s')) q.1) [
          | inl r ↦
              let (y, there, made) = bind_ok (unnamed_from total inner (length x.0) x.1) (λ y. Ok (Unnamed y.0, y.1)) (p, s') r.1 in
              let (ss, found, same) = unnamed_from_sound x.1.names x.1.rest (length x.0) y there in
              let sizes_are : AreSizes total most (suc room) s.names x.1.rest y.1.rest y.1.names ss =
              subst (λ ns. AreSizes total most (suc room) ns x.1.rest y.1.rest y.1.names ss) f.names_are found in
              ok_moved P (subst (λ (b : Abstract Expr). IsAbstract total most (suc room) s.names s.rest y.1.rest y.1.names b) (sym same)
              (bare_pointers are r.0 sizes_are)) made
          | inr r ↦ absurd (let e = r.1 in cc)
        ]
      ]
