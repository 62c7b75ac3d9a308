-- A declarator, parameters and an unnamed declarator are read, whatever comes behind them that doesn't go on with them, or a late token
-- stands too deep.
use Rattle.std.proofs.Common.{◌≡◌, ℕ, zero, suc, ◌+◌, ◌≤◌, ◌<◌, ◌&&◌, nat_eq, if◌then◌else◌, Bool, true, false, cond, None, Some, Option, Ok, Err, List, [], ◌∷◌, ◌++◌, length, refl, sym, ap, ◌∙◌, subst, arith, append_assoc, append-nil}
use Rattle.c_lex.specs.declared.token.Token.{Token}
use Rattle.c_lex.specs.declared.token.Keyword.TheVariants as keyword
use Rattle.c_lex.specs.declared.token.Mark.TheVariants as mark
use Rattle.c_ast.specs.declared.words.Qualifier.{Qualifier}
use Rattle.c_ast.specs.declared.expression.Expr.{Expr}
use Rattle.c_ast.specs.declared.declaration.Declarator.{Declarator, roll-Declarator}
use Rattle.c_ast.specs.declared.declaration.Direct.{Direct}
use Rattle.c_ast.specs.declared.declaration.Direct.TheVariants as direct
use Rattle.c_ast.specs.declared.declaration.DirectSuffix.{DirectSuffix}
use Rattle.c_ast.specs.declared.declaration.DirectSuffix.TheVariants as suffix
use Rattle.c_ast.specs.declared.declaration.Param.{Param}
use Rattle.c_ast.specs.declared.declaration.Abstract.{Abstract}
use Rattle.c_grammar.specs.declared.phrases.Extent.TheVariants as extent
use Rattle.c_grammar.specs.declared.phrases.ReadDirect.{ReadDirect}
use Rattle.c_grammar.specs.declared.phrases.ReadSpecs.{ReadSpecs}
use Rattle.c_grammar.specs.declared.phrases.ReadDeclarator.{ReadDeclarator}
use Rattle.c_grammar.specs.declared.phrases.ReadParam.{ReadParam}
use Rattle.c_grammar.specs.declared.phrases.ReadParam.TheVariants.{Named, Unnamed}
use Rattle.c_grammar.specs.Names.{Names}
use Rattle.c_grammar.specs.Words.{IsMark, IsKeyword, number_of}
use Rattle.c_grammar.specs.Owns.{Own, settled}
use Rattle.c_grammar.specs.Grammar.{behind_pointers, IsVoidAlone, AreQualifiers, no_qualifiers, more_qualifiers, ArePointers, no_pointers, more_pointers, IsAbstract, arrays, pointer, AreSizes, no_sizes, more_sizes, IsSize, unsized, sized, IsDeclarator, declarator, IsDirect, direct_name, nested, AreSuffixes, no_suffixes, array, empty, void, params, AreParams, one_param, more_params, IsParam, named_param, unnamed_param}
use Rattle.c_grammar.specs.Nesting as nesting
use Rattle.c_grammar.specs.Nesting.{Bounds, abstract_stands, sizes_stand, size_stands, declarator_stands, direct_stands, suffixes_stand, params_stand, param_stands}
use Rattle.c_grammar.specs.Reading.{State, Outcome, ◌>>=◌, is_mark, sees_mark, sees_keyword, tail, behind, expect_mark, expect_name}
use Rattle.c_grammar.specs.ReadingExpr.{choose}
use Rattle.c_grammar.specs.ReadingDecl.{qualifier_at, qualifiers, pointers, size, param_of, parameter, parameters, added, restored, too_deep, Suffixed, function, suffixes, direct_at, declarator_from, sizes, unnamed_from, stars, unnamed, are_bare, starts_direct, param_declarator}
use Rattle.c_grammar.specs.Inner.{Inner}
use Rattle.c_grammar.proofs.Late.{Meets, same, on, on_read, ◌▸◌}
use Rattle.c_grammar.proofs.Laws.{at_state, TakesSpecs, IsParamPart, param_part_stands, Complete, EndsDeclarator, EndsUnnamed, EndsParam, Ends}
use Rattle.c_grammar.proofs.Extends.{Extends, qualifiers_take, expr_extends, param_extends, params_extend}
use Rattle.c_grammar_laws.proofs.FirstStands.{stops_first}
use Rattle.c_grammar_laws.proofs.SpecsPartsRead.{some_room}
use Rattle.c_grammar.proofs.DeclaratorRuns.{pointers_end, stars_end}
use Rattle.c_grammar.proofs.DeclaratorFound.{mark_seen, keyword_seen, mark_read, take_added, drop_added}
use Rattle.c_grammar_laws.proofs.DeclaratorStarts.{expr_no_bracket, params_no_paren, EndsSpecs, declarator_ends_specs, abstract_ends_specs, EndsPointers, direct_ends_pointers, sizes_end_pointers, sizes_no_star, pointers_no_qualifier, direct_starts, sizes_no_direct, size_opens, EndsParameter, ends_at_comma, ends_at_paren}

-- ---- pointers

qualifiers_end : (front : List Qualifier) (ts : List Token) → qualifier_at ts ≡ None → qualifiers front ts ≡ (front, ts)
qualifiers_end front [] h = refl
qualifiers_end front (t ∷ ts) h = rw h

qualifiers_read : {room : ℕ} {ts rest : List Token} {qs : List Qualifier} → AreQualifiers room ts rest qs → qualifier_at rest ≡ None
    → (front : List Qualifier) → qualifiers front ts ≡ (front ++ qs, rest)
qualifiers_read (no_qualifiers {rest = rest}) ends front =
    qualifiers_end front rest ends ∙ ap (λ (qs : List Qualifier). (qs, rest)) (sym (append-nil front))
qualifiers_read (more_qualifiers {t = t} {ts = ts} {rest = rest} {qs = qs} q is ds) ends front =
    ap (λ o. choose o (front, t ∷ ts) (λ q. qualifiers (front ++ q ∷ []) ts)) is
    ∙ qualifiers_read ds ends (front ++ q ∷ [])
    ∙ ap (λ (qs : List Qualifier). (qs, rest)) (append_assoc front (q ∷ []) qs)

-- one pointer is read, and then those behind it
pointer_step : (count : ℕ) (front : List (List Qualifier)) (names : Names) (t : Token) (ts mid : List Token) (qs : List Qualifier)
    → IsMark mark.Star t → qualifiers [] ts ≡ (qs, mid)
    → pointers (suc count) front (at_state names (t ∷ ts)) ≡ pointers count (front ++ qs ∷ []) (at_state names mid)
unfolding pointers
pointer_step count front names t ts mid qs is h =
    ap (λ b. cond b (pointers count (front ++ (qualifiers [] ts).0 ∷ []) (at_state names (qualifiers [] ts).1)) (front, at_state names (t ∷ ts)))
    (mark_seen mark.Star t.kind is)
    ∙ ap (λ (x : List Qualifier × List Token). pointers count (front ++ x.0 ∷ []) (at_state names x.1)) h

pub pointers_read : {room : ℕ} {ts rest : List Token} {ps : List (List Qualifier)} → ArePointers room ts rest ps → EndsPointers rest
    → (count : ℕ) → length ts ≤ count → (front : List (List Qualifier)) (names : Names)
    → pointers count front (at_state names ts) ≡ (front ++ ps, at_state names rest)
pointers_read (no_pointers {rest = rest}) ends count enough front names =
    pointers_end count front names rest ends.no_pointer
    ∙ ap (λ (ps : List (List Qualifier)). (ps, at_state names rest)) (sym (append-nil front))
pointers_read (more_pointers is ds more) ends zero enough front names = absurd (omega arith)
pointers_read (more_pointers {t = t} {ts = ts} {mid = mid} {rest = rest} {qs = qs} {ps = ps} is ds more) ends (suc count) enough front names =
    let e : Extends names names ts mid = qualifiers_take ds in
    let fewer : length mid ≤ count = omega (arith, e.shrinks) in
    pointer_step count front names t ts mid qs is (qualifiers_read ds (pointers_no_qualifier more ends.no_qualifier) [])
    ∙ pointers_read more ends count fewer (front ++ qs ∷ []) names
    ∙ ap (λ (ps : List (List Qualifier)). (ps, at_state names rest)) (append_assoc front (qs ∷ []) ps)

star_step : (count : ℕ) (t : Token) (ts : List Token) → IsMark mark.Star t → stars count (t ∷ ts) ≡ stars (suc count) ts
unfolding stars
star_step count t ts is = ap (λ b. cond b (stars (suc count) ts) (count, t ∷ ts)) (mark_seen mark.Star t.kind is)

-- the pointers of an unnamed declarator, and its sizes
record Split (b : Bounds) (total wide room : ℕ) (names : Names) (ts rest : List Token) (after : Names) (a : Abstract Expr) : Type 0 where
  mid : List Token
  ps : List (List Qualifier)
  are : ArePointers room ts mid ps
  bare : are_bare ps ≡ true
  count : length ps ≡ a.pointers
  sizes_are : AreSizes total wide room names mid rest after a.sizes
  sizes_stand : nesting.sizes_stand b sizes_are
  stars_are : sees_mark mark.Star mid ≡ false → (n : ℕ) → stars n ts ≡ (n + a.pointers, mid)

split : (b : Bounds) {total wide room : ℕ} {names after : Names} {ts rest : List Token} {a : Abstract Expr}
    → (is : IsAbstract total wide room names ts rest after a) → abstract_stands b is → Split b total wide room names ts rest after a
split b (arrays {ts = ts} are) stand = record {
  mid = ts;
  ps = [];
  are = no_pointers;
  bare = refl;
  count = refl;
  sizes_are = are;
  sizes_stand = stand;
  stars_are = λ ends n. let e : n ≡ n + 0 = omega arith in stars_end n ts ends ∙ ap (λ (m : ℕ). (m, ts)) e;
}
split b (pointer {t = t} {ts = ts} {a = a} is d) stand =
    let s = split b d stand.1 in
    record {
      mid = s.mid;
      ps = [] ∷ s.ps;
      are = more_pointers is no_qualifiers s.are;
      bare = s.bare;
      count = ap suc s.count;
      sizes_are = s.sizes_are;
      sizes_stand = s.sizes_stand;
      stars_are = λ ends n.
          let e : suc n + a.pointers ≡ n + suc a.pointers = omega arith in
          star_step n t ts is ∙ s.stars_are ends (suc n) ∙ ap (λ (m : ℕ). (m, s.mid)) e;
    }

-- ---- sizes, parameters and suffixes

ends_at_bracket : (c : Token) (rest : List Token) → IsMark mark.CloseBracket c → Ends extent.Cond (c ∷ rest)
ends_at_bracket c rest is = record {
  unary = record { no_postfix = ap Rattle.c_grammar.proofs.Laws.is_postfix is };
  no_operator = ap Rattle.c_grammar.specs.Words.operator_of is;
  no_question = ap (is_mark mark.Question) is;
}

size_takes : {total most room : ℕ} {names after : Names} {ts rest : List Token} {found : Option Expr}
    → IsSize total most room names ts rest after found → length rest < length ts
size_takes (unsized opens closes) = omega arith
size_takes (sized opens d closes) = let e = expr_extends d in omega (arith, e.shrinks)

no_void : (ts : List Token) → (IsVoidAlone ts → ⊥) → (sees_keyword keyword.Void ts && sees_mark mark.CloseParen (tail ts)) ≡ false
no_void [] h = refl
no_void (v ∷ []) h =
    elim (Rattle.c_grammar.specs.Reading.is_keyword keyword.Void v.kind) as (λ b. (b && false) ≡ false) [ true ↦ refl | false ↦ refl ]
no_void (v ∷ c ∷ ts) h =
    elim (Rattle.c_grammar.specs.Reading.is_keyword keyword.Void v.kind) as (λ b. (Rattle.c_grammar.specs.Reading.is_keyword keyword.Void v.kind ≡ b) → (b && is_mark mark.CloseParen c.kind) ≡ false) [
      | true ↦ λ is.
          elim (is_mark mark.CloseParen c.kind) as (λ b. (is_mark mark.CloseParen c.kind ≡ b) → b ≡ false) [
            | true ↦ λ closes. absurd (h (Rattle.c_grammar.proofs.DeclaratorFound.keyword_is keyword.Void v.kind is, Rattle.c_grammar.proofs.DeclaratorFound.mark_is mark.CloseParen c.kind closes))
            | false ↦ λ closes. refl
          ] refl
      | false ↦ λ is. refl
    ] refl

module _ (total wide : ℕ) (b : Bounds) (place : ℕ) (inner : Inner) (complete : Complete total wide b place inner) where
  size_read : {names after : Names} {ts rest : List Token} {found : Option Expr} → (is : IsSize total wide (suc place) names ts rest after found) → size_stands b is
      → Meets total b.later (size total inner (at_state names ts)) (Ok (found, at_state after rest))
  unfolding size
  size_read (unsized {c = c} opens closes) stand = same (rw (mark_seen mark.CloseBracket c.kind closes))
  size_read (sized {names = names} {after = after} {o = o} {c = c} {ts = ts} {rest = rest} {a = a} opens d closes) stand =
      let inside : size total inner (at_state names (o ∷ ts))
      ≡ (inner.expr extent.Cond (at_state names ts) >>= λ x. expect_mark total mark.CloseBracket x.1 >>= λ s'. Ok (Some x.0, s')) =
      rw (expr_no_bracket d) in
      same inside
      ▸ on (λ x. expect_mark total mark.CloseBracket x.1 >>= λ s'. Ok (Some x.0, s'))
      (complete.expr extent.Cond names after ts (c ∷ rest) a d stand.1 (ends_at_bracket c rest closes))
      ▸ same (ap (λ o. o >>= λ s'. Ok (Some a, s')) (mark_read total mark.CloseBracket after c rest closes))

  sizes_end : (count : ℕ) (front : List (Option Expr)) (names : Names) (ts : List Token) → sees_mark mark.OpenBracket ts ≡ false
      → sizes total inner count front (at_state names ts) ≡ Ok (front, at_state names ts)
  unfolding sizes
  sizes_end zero front names ts h = refl
  sizes_end (suc count) front names ts h = rw h

  sizes_step : (count : ℕ) (front : List (Option Expr)) (names between : Names) (ts mid : List Token) (found : Option Expr)
      → sees_mark mark.OpenBracket ts ≡ true → Meets total b.later (size total inner (at_state names ts)) (Ok (found, at_state between mid))
      → Meets total b.later (sizes total inner (suc count) front (at_state names ts)) (sizes total inner count (front ++ found ∷ []) (at_state between mid))
  unfolding sizes
  sizes_step count front names between ts mid found opens h =
      let more : sizes total inner (suc count) front (at_state names ts)
      ≡ (size total inner (at_state names ts) >>= λ x. sizes total inner count (front ++ x.0 ∷ []) x.1) = rw opens in
      same more ▸ on (λ x. sizes total inner count (front ++ x.0 ∷ []) x.1) h

  sizes_read : {names after : Names} {ts rest : List Token} {ss : List (Option Expr)} → (is : AreSizes total wide (suc place) names ts rest after ss) → sizes_stand b is
      → sees_mark mark.OpenBracket rest ≡ false → (count : ℕ) → length ts ≤ count → (front : List (Option Expr))
      → Meets total b.later (sizes total inner count front (at_state names ts)) (Ok (front ++ ss, at_state after rest))
  sizes_read (no_sizes {names = names} {rest = rest}) stand ends count enough front =
      same (sizes_end count front names rest ends
      ∙ ap (λ (ss : List (Option Expr)). Ok (ss, at_state names rest)) (sym (append-nil front)))
  sizes_read (more_sizes d more) stand ends zero enough front = absurd (let takes = size_takes d in omega arith)
  sizes_read (more_sizes {names = names} {between = between} {after = after} {ts = ts} {mid = mid} {rest = rest} {size = found} {sizes = ss} d more) stand ends (suc count) enough front =
      let takes : length mid < length ts = size_takes d in
      let fewer : length mid ≤ count = omega arith in
      sizes_step count front names between ts mid found (size_opens d) (size_read d stand.0)
      ▸ sizes_read more stand.1 ends count fewer (front ++ found ∷ [])
      ▸ same (ap (λ (ss : List (Option Expr)). Ok (ss, at_state after rest)) (append_assoc front (found ∷ []) ss))

  -- specifiers, and what is behind them
  parameter_joined : (names between after : Names) (ts mid rest : List Token) (x : ReadSpecs) (p : ReadParam)
      → Meets total b.later (inner.specs (at_state names ts)) (Ok (x, at_state between mid))
      → (TakesSpecs inner → Meets total b.later (inner.param (at_state between mid)) (Ok (p, at_state after rest)))
      → Meets total b.later (parameter total inner (at_state names ts)) (Ok (param_of x (p, at_state after rest)))
  unfolding parameter
  parameter_joined names between after ts mid rest x p first second =
      on_read (λ x. inner.param x.1 >>= λ y. Ok (param_of x.0 y)) first
      (λ read. on (λ y. Ok (param_of x y)) (second (record { from = at_state names ts; found = (x, at_state between mid); reads = read })))

  parameter_read : {names after : Names} {ts rest : List Token} {p : Param} → (is : IsParam total wide place names ts rest after p) → param_stands b is
      → EndsParameter rest → Meets total b.later (parameter total inner (at_state names ts)) (Ok (p, at_state after rest))
  parameter_read (named_param {names = names} {between = between} {after = after} {ts = ts} {mid = mid} {rest = rest} {is_typedef = is_typedef} {bytes = bytes} {own = own} {ss = ss} {d = d} are is) stand ends =
      let begins : EndsSpecs mid = declarator_ends_specs is in
      let x : ReadSpecs = record { specs = ss; is_typedef = is_typedef } in
      let p : ReadParam = Named (record { tree = d; name = bytes; own = own }) in
      parameter_joined names between after ts mid rest x p (complete.specs names between ts mid x are stand.0 begins.no_keyword begins.no_brace)
      (λ takes. complete.param takes between after mid rest p is stand.1 (record { no_array = ends.no_array; no_function = ends.no_function }))
  parameter_read (unnamed_param {names = names} {between = between} {after = after} {ts = ts} {mid = mid} {rest = rest} {is_typedef = is_typedef} {ss = ss} {a = a} are is) stand ends =
      let begins : EndsSpecs mid = abstract_ends_specs is ends.specs_end in
      let x : ReadSpecs = record { specs = ss; is_typedef = is_typedef } in
      parameter_joined names between after ts mid rest x (Unnamed a) (complete.specs names between ts mid x are stand.0 begins.no_keyword begins.no_brace)
      (λ takes. complete.param takes between after mid rest (Unnamed a) is stand.1
      (record { no_array = ends.no_array; no_pointer = ends.pointers_end.no_pointer }, ends.no_direct, ends.pointers_end.no_qualifier))

  -- what goes on behind a parameter
  abbrev behind_parameter : ℕ → List Param → Param × State → Outcome (List Param × State)
  behind_parameter count front x =
      if sees_mark mark.Comma x.1.rest then parameters total inner count (front ++ x.0 ∷ []) (behind x.1)
      else (expect_mark total mark.CloseParen x.1 >>= λ s'. Ok (front ++ x.0 ∷ [], s'))

  parameters_last : (count : ℕ) (front : List Param) (names after : Names) (c : Token) (ts rest : List Token) (p : Param)
      → IsMark mark.CloseParen c → Meets total b.later (parameter total inner (at_state names ts)) (Ok (p, at_state after (c ∷ rest)))
      → Meets total b.later (parameters total inner (suc count) front (at_state names ts)) (Ok (front ++ p ∷ [], at_state after rest))
  unfolding parameters
  parameters_last count front names after c ts rest p closes h =
      let other : is_mark mark.Comma c.kind ≡ false = ap (is_mark mark.Comma) closes in
      let last : behind_parameter count front (p, at_state after (c ∷ rest)) ≡ Ok (front ++ p ∷ [], at_state after rest) =
      rw (other, mark_read total mark.CloseParen after c rest closes) in
      on (behind_parameter count front) h ▸ same last

  parameters_step : (count : ℕ) (front : List Param) (names between : Names) (t : Token) (ts mid : List Token) (p : Param)
      → IsMark mark.Comma t → Meets total b.later (parameter total inner (at_state names ts)) (Ok (p, at_state between (t ∷ mid)))
      → Meets total b.later (parameters total inner (suc count) front (at_state names ts)) (parameters total inner count (front ++ p ∷ []) (at_state between mid))
  unfolding parameters
  parameters_step count front names between t ts mid p is h =
      let next : behind_parameter count front (p, at_state between (t ∷ mid)) ≡ parameters total inner count (front ++ p ∷ []) (at_state between mid) =
      rw (mark_seen mark.Comma t.kind is) in
      on (behind_parameter count front) h ▸ same next

  -- the last parameter stands before the bracket
  last_read : {names after : Names} {ts end : List Token} {p : Param} (d : IsParam total wide place names ts end after p) → param_stands b d
      → (c : Token) (rest : List Token) → end ≡ c ∷ rest → IsMark mark.CloseParen c
      → Meets total b.later (parameter total inner (at_state names ts)) (Ok (p, at_state after (c ∷ rest)))
  last_read {names} {after} {ts} {end} {p} d stand c rest are closes =
      let ends : EndsParameter end = subst EndsParameter (sym are) (ends_at_paren c rest closes) in
      parameter_read d stand ends ▸ same (ap (λ us. Ok (p, at_state after us)) are)

  parameters_read : {names after : Names} {ts end : List Token} {ps : List Param} → (is : AreParams total wide place names ts end after ps) → params_stand b is
      → (c : Token) (rest : List Token) → end ≡ c ∷ rest → IsMark mark.CloseParen c → (count : ℕ) → length ts ≤ count → (front : List Param)
      → Meets total b.later (parameters total inner count front (at_state names ts)) (Ok (front ++ ps, at_state after rest))
  parameters_read (one_param d) stand c rest are closes zero enough front =
      absurd (let e = param_extends d in let size = ap length are in omega (arith, e.shrinks))
  parameters_read (one_param {names = names} {after = after} {ts = ts} {p = p} d) stand c rest are closes (suc count) enough front =
      parameters_last count front names after c ts rest p closes (last_read d stand c rest are closes)
  parameters_read (more_params d is more) stand c rest are closes zero enough front = absurd (let e = param_extends d in omega (arith, e.shrinks))
  parameters_read (more_params {names = names} {between = between} {after = after} {t = t} {ts = ts} {mid = mid} {p = p} {ps = ps} d is more) stand c rest are closes (suc count) enough front =
      let e : Extends names between ts (t ∷ mid) = param_extends d in
      let fewer : length mid ≤ count = omega (arith, e.shrinks) in
      parameters_step count front names between t ts mid p is (parameter_read d stand.0 (ends_at_comma t mid is))
      ▸ parameters_read more stand.2 c rest are closes count fewer (front ++ p ∷ [])
      ▸ same (ap (λ (ps : List Param). Ok (ps, at_state after rest)) (append_assoc front (p ∷ []) ps))

module _ (total later room : ℕ) (inner : Inner) where
  function_empty : (own : Own) (names : Names) (o c : Token) (mid : List Token) → IsMark mark.CloseParen c
      → function total room inner own (at_state names (o ∷ c ∷ mid))
      ≡ Ok ((suffix.Empty (number_of total (o ∷ c ∷ mid)), settled own []), at_state names mid)
  unfolding function
  function_empty own names o c mid closes = rw (mark_seen mark.CloseParen c.kind closes)

  -- `void` stands one level further in
  abbrev void_by : Own → Names → (o : Token) → List Token → Bool → Outcome (Suffixed × State)
  void_by own names o ts full =
      if full then Err (too_deep total (at_state names ts))
      else Ok ((suffix.Void (number_of total (o ∷ ts)), settled own []), at_state names (tail (tail ts)))

  function_void_is : (own : Own) (names : Names) (o v c : Token) (mid : List Token) → IsKeyword keyword.Void v → IsMark mark.CloseParen c
      → function total room inner own (at_state names (o ∷ v ∷ c ∷ mid)) ≡ void_by own names o (v ∷ c ∷ mid) (nat_eq room 0)
  unfolding function
  function_void_is own names o v c mid is closes =
      let other : is_mark mark.CloseParen v.kind ≡ false = ap (is_mark mark.CloseParen) is in
      rw (other, keyword_seen keyword.Void v.kind is, mark_seen mark.CloseParen c.kind closes)

  -- what goes on behind parameters
  abbrev behind_params : Own → ℕ → Names → List Param × State → Outcome (Suffixed × State)
  behind_params own token names x =
      Ok ((suffix.Params token x.0, settled own (added names x.1.names)), record { names = restored names x.1.names; rest = x.1.rest })

  function_params_is : (own : Own) (names : Names) (o : Token) (ts : List Token)
      → sees_mark mark.CloseParen ts ≡ false → (sees_keyword keyword.Void ts && sees_mark mark.CloseParen (tail ts)) ≡ false
      → function total room inner own (at_state names (o ∷ ts))
      ≡ (parameters total inner (length (o ∷ ts)) [] (at_state names ts) >>= behind_params own (number_of total (o ∷ ts)) names)
  unfolding function
  function_params_is own names o ts some other = rw (some, other)

  function_params : (own : Own) (new names : Names) (o : Token) (ts mid : List Token) (ps : List Param)
      → sees_mark mark.CloseParen ts ≡ false → (sees_keyword keyword.Void ts && sees_mark mark.CloseParen (tail ts)) ≡ false
      → Meets total later (parameters total inner (length (o ∷ ts)) [] (at_state names ts)) (Ok (ps, at_state (new ++ names) mid))
      → Meets total later (function total room inner own (at_state names (o ∷ ts)))
      (Ok ((suffix.Params (number_of total (o ∷ ts)) ps, settled own new), at_state names mid))
  function_params own new names o ts mid ps some other h =
      same (function_params_is own names o ts some other)
      ▸ on (behind_params own (number_of total (o ∷ ts)) names) h
      ▸ same (ap (λ (ns : Names). Ok ((suffix.Params (number_of total (o ∷ ts)) ps, settled own ns), at_state (restored names (new ++ names)) mid)) (take_added new names (new ++ names) refl)
      ∙ ap (λ (ns : Names). Ok ((suffix.Params (number_of total (o ∷ ts)) ps, settled own new), at_state ns mid)) (drop_added new names (new ++ names) refl))

  suffixes_end : (count : ℕ) (own : Own) (front : List DirectSuffix) (names : Names) (ts : List Token) → EndsDeclarator ts
      → suffixes total room inner count own front (at_state names ts) ≡ Ok ((front, own), at_state names ts)
  unfolding suffixes
  suffixes_end zero own front names ts ends = refl
  suffixes_end (suc count) own front names ts ends = rw (ends.no_array, ends.no_function)

  suffixes_array : (count : ℕ) (own : Own) (front : List DirectSuffix) (names between : Names) (ts mid : List Token) (found : Option Expr)
      → sees_mark mark.OpenBracket ts ≡ true → Meets total later (size total inner (at_state names ts)) (Ok (found, at_state between mid))
      → Meets total later (suffixes total room inner (suc count) own front (at_state names ts))
      (suffixes total room inner count (settled own []) (front ++ suffix.Array (number_of total ts) found ∷ []) (at_state between mid))
  unfolding suffixes
  suffixes_array count own front names between ts mid found opens h =
      let more : suffixes total room inner (suc count) own front (at_state names ts)
      ≡ (size total inner (at_state names ts)
      >>= λ x. suffixes total room inner count (settled own []) (front ++ suffix.Array (number_of total ts) x.0 ∷ []) x.1) = rw opens in
      same more ▸ on (λ x. suffixes total room inner count (settled own []) (front ++ suffix.Array (number_of total ts) x.0 ∷ []) x.1) h

  suffixes_function : (count : ℕ) (own own' : Own) (front : List DirectSuffix) (names : Names) (o : Token) (ts mid : List Token) (found : DirectSuffix)
      → IsMark mark.OpenParen o → Meets total later (function total room inner own (at_state names (o ∷ ts))) (Ok ((found, own'), at_state names mid))
      → Meets total later (suffixes total room inner (suc count) own front (at_state names (o ∷ ts)))
      (suffixes total room inner count own' (front ++ found ∷ []) (at_state names mid))
  unfolding suffixes
  suffixes_function count own own' front names o ts mid found opens h =
      let other : is_mark mark.OpenBracket o.kind ≡ false = ap (is_mark mark.OpenBracket) opens in
      let more : suffixes total room inner (suc count) own front (at_state names (o ∷ ts))
      ≡ (function total room inner own (at_state names (o ∷ ts)) >>= λ x. suffixes total room inner count x.0.1 (front ++ x.0.0 ∷ []) x.1) =
      rw (other, mark_seen mark.OpenParen o.kind opens) in
      same more ▸ on (λ x. suffixes total room inner count x.0.1 (front ++ x.0.0 ∷ []) x.1) h

-- there is room for `void`, or it is late
function_void : (total : ℕ) (b : Bounds) (room place : ℕ) → place ≡ room + b.spare → (inner : Inner) (own : Own) (names : Names) (o v c : Token) (mid : List Token)
    → IsKeyword keyword.Void v → IsMark mark.CloseParen c → nesting.Stands b place (v ∷ c ∷ mid)
    → Meets total b.later (function total room inner own (at_state names (o ∷ v ∷ c ∷ mid)))
    (Ok ((suffix.Void (number_of total (o ∷ v ∷ c ∷ mid)), settled own []), at_state names mid))
function_void total b zero place rooms inner own names o v c mid is closes stand =
    let all : List Token = v ∷ c ∷ mid in
    let late : length (v ∷ c ∷ mid) ≤ b.later = stand (omega arith) in
    same (function_void_is total b.later zero inner own names o v c mid is closes)
    ▸ stops_first total b.later names all (record { token = v; behind = c ∷ mid; ts_are = refl; late = late })
    (Ok ((suffix.Void (number_of total (o ∷ v ∷ c ∷ mid)), settled own []), at_state names mid))
function_void total b (suc room) place rooms inner own names o v c mid is closes stand =
    same (function_void_is total b.later (suc room) inner own names o v c mid is closes
    ∙ ap (void_by total b.later (suc room) inner own names o (v ∷ c ∷ mid)) (some_room room))

module _ (total wide : ℕ) (b : Bounds) (room : ℕ) (inner : Inner) where
  suffixes_read : {place : ℕ} → Complete total wide b place inner → place ≡ room + b.spare → {names after : Names} {own own' : Own} {ts rest : List Token} {ss : List DirectSuffix}
      → (is : AreSuffixes total wide (suc place) names own ts rest after own' ss) → suffixes_stand b is → EndsDeclarator rest
      → (count : ℕ) → length ts ≤ count → (front : List DirectSuffix)
      → Meets total b.later (suffixes total room inner count own front (at_state names ts)) (Ok ((front ++ ss, own'), at_state after rest))
  suffixes_read complete rooms (no_suffixes {names = names} {own = own} {rest = rest}) stand ends count enough front =
      same (suffixes_end total b.later room inner count own front names rest ends
      ∙ ap (λ (ss : List DirectSuffix). Ok ((ss, own), at_state names rest)) (sym (append-nil front)))
  suffixes_read complete rooms (array d more) stand ends zero enough front = absurd (let takes = size_takes d in omega arith)
  suffixes_read {place = place} complete rooms (array {names = names} {between = between} {after = after} {own = own} {own' = own'} {ts = ts} {mid = mid} {rest = rest} {size = found} {ss = ss} d more) stand ends (suc count) enough front =
      let takes : length mid < length ts = size_takes d in
      let fewer : length mid ≤ count = omega arith in
      let a : DirectSuffix = suffix.Array (number_of total ts) found in
      suffixes_array total b.later room inner count own front names between ts mid found (size_opens d) (size_read total wide b place inner complete d stand.0)
      ▸ suffixes_read complete rooms more stand.1 ends count fewer (front ++ a ∷ [])
      ▸ same (ap (λ (ss : List DirectSuffix). Ok ((ss, own'), at_state after rest)) (append_assoc front (a ∷ []) ss))
  suffixes_read complete rooms (empty opens closes more) stand ends zero enough front = absurd (omega arith)
  suffixes_read complete rooms (empty {names = names} {after = after} {own = own} {own' = own'} {o = o} {c = c} {mid = mid} {rest = rest} {ss = ss} opens closes more) stand ends (suc count) enough front =
      let fewer : length mid ≤ count = omega arith in
      let a : DirectSuffix = suffix.Empty (number_of total (o ∷ c ∷ mid)) in
      suffixes_function total b.later room inner count own (settled own []) front names o (c ∷ mid) mid a opens (same (function_empty total b.later room inner own names o c mid closes))
      ▸ suffixes_read complete rooms more stand.2 ends count fewer (front ++ a ∷ [])
      ▸ same (ap (λ (ss : List DirectSuffix). Ok ((ss, own'), at_state after rest)) (append_assoc front (a ∷ []) ss))
  suffixes_read complete rooms (void opens is closes more) stand ends zero enough front = absurd (omega arith)
  suffixes_read complete rooms (void {room = r} {names = names} {after = after} {own = own} {own' = own'} {o = o} {v = v} {c = c} {mid = mid} {rest = rest} {ss = ss} opens is closes more) stand ends (suc count) enough front =
      let fewer : length mid ≤ count = omega arith in
      let a : DirectSuffix = suffix.Void (number_of total (o ∷ v ∷ c ∷ mid)) in
      suffixes_function total b.later room inner count own (settled own []) front names o (v ∷ c ∷ mid) mid a opens
      (function_void total b room (suc r) rooms inner own names o v c mid is closes stand.1)
      ▸ suffixes_read complete rooms more stand.3 ends count fewer (front ++ a ∷ [])
      ▸ same (ap (λ (ss : List DirectSuffix). Ok ((ss, own'), at_state after rest)) (append_assoc front (a ∷ []) ss))
  suffixes_read complete rooms (params new opens other ps closes more) stand ends zero enough front = absurd (omega arith)
  suffixes_read {place = place} complete rooms (params new {names = names} {after = after} {own = own} {own' = own'} {o = o} {c = c} {ts = ts} {mid = mid} {rest = rest} {ps = ps} {ss = ss} opens other are closes more) stand ends (suc count) enough front =
      let e : Extends names (new ++ names) ts (c ∷ mid) = params_extend are in
      let fewer : length mid ≤ count = omega (arith, e.shrinks) in
      let room_for : length ts ≤ length (o ∷ ts) = omega arith in
      let a : DirectSuffix = suffix.Params (number_of total (o ∷ ts)) ps in
      suffixes_function total b.later room inner count own (settled own new) front names o ts mid a opens
      (function_params total b.later room inner own new names o ts mid ps (params_no_paren are) (no_void ts other)
      (parameters_read total wide b place inner complete are stand.1 c mid refl closes (length (o ∷ ts)) room_for []))
      ▸ suffixes_read complete rooms more stand.3 ends count fewer (front ++ a ∷ [])
      ▸ same (ap (λ (ss : List DirectSuffix). Ok ((ss, own'), at_state after rest)) (append_assoc front (a ∷ []) ss))

-- ---- declarators

module _ (total wide : ℕ) (b : Bounds) (room place : ℕ) (rooms : place ≡ room + b.spare) (inner : Inner) (complete : Complete total wide b place inner) where
  direct_read : {names after : Names} {ts rest : List Token} {bytes : List ℕ} {own : Own} {d : Direct Declarator}
      → (is : IsDirect total wide (suc place) names ts rest after bytes own d) → direct_stands b is
      → Meets total b.later (direct_at total inner (at_state names ts)) (Ok (record { tree = d; name = bytes; own = own }, at_state after rest))
  unfolding direct_at expect_name
  direct_read (direct_name is) stand = same (rw is)
  direct_read (nested {names = names} {after = after} {o = o} {c = c} {ts = ts} {rest = rest} {bytes = bytes} {own = own} {d = d} opens is closes) stand =
      let ends : EndsDeclarator (c ∷ rest) = record { no_array = ap (is_mark mark.OpenBracket) closes; no_function = ap (is_mark mark.OpenParen) closes } in
      let x : ReadDeclarator = record { tree = d; name = bytes; own = own } in
      let token = number_of total (o ∷ ts) in
      let inside : direct_at total inner (at_state names (o ∷ ts))
      ≡ (inner.declarator (at_state names ts) >>= λ x. expect_mark total mark.CloseParen x.1
      >>= λ s'. Ok (record { tree = direct.Nested token x.0.tree; name = x.0.name; own = x.0.own }, s')) =
      rw (mark_seen mark.OpenParen o.kind opens) in
      same inside
      ▸ on (λ x. expect_mark total mark.CloseParen x.1
      >>= λ s'. Ok (record { tree = direct.Nested token x.0.tree; name = x.0.name; own = x.0.own }, s')) (complete.declarator names after ts (c ∷ rest) x is stand.1 ends)
      ▸ same (ap (λ o. o >>= λ s'. Ok (record { tree = direct.Nested token d; name = bytes; own = own }, s')) (mark_read total mark.CloseParen after c rest closes))

  declarator_joined : (names between after : Names) (token : ℕ) (ps : List (List Qualifier)) (start mid rest : List Token) (x : ReadDirect) (own : Own) (ss : List DirectSuffix)
      → Meets total b.later (direct_at total inner (at_state names start)) (Ok (x, at_state between mid))
      → Meets total b.later (suffixes total room inner (length mid) x.own [] (at_state between mid)) (Ok ((ss, own), at_state after rest))
      → Meets total b.later (declarator_from total room inner token ps (at_state names start))
      (Ok (
        record {
          tree = roll-Declarator (record { token = token; pointers = ps; direct = x.tree; suffixes = ss });
          name = x.name;
          own = behind_pointers ps own;
        },
        at_state after rest,
      ))
  unfolding declarator_from
  declarator_joined names between after token ps start mid rest x own ss first second =
      on (λ x. suffixes total room inner (length x.1.rest) x.0.own [] x.1
      >>= λ y. Ok (
        record {
          tree = roll-Declarator (record { token = token; pointers = ps; direct = x.0.tree; suffixes = y.0.0 });
          name = x.0.name;
          own = behind_pointers ps y.0.1;
        },
        y.1,
      )) first
      ▸ on (λ y. Ok (
        record {
          tree = roll-Declarator (record { token = token; pointers = ps; direct = x.tree; suffixes = y.0.0 });
          name = x.name;
          own = behind_pointers ps y.0.1;
        },
        y.1,
      )) second

  -- a declarator is its pointers, and what is read behind them
  record ReadBehind (names after : Names) (ts rest : List Token) (x : ReadDeclarator) : Type 0 where
    start : List Token
    ps : List (List Qualifier)
    pointers_are : pointers (length ts) [] (at_state names ts) ≡ (ps, at_state names start)
    starts : starts_direct start ≡ true
    reads : Meets total b.later (declarator_from total room inner (number_of total ts) ps (at_state names start)) (Ok (x, at_state after rest))

  read_behind : {names after : Names} {ts rest : List Token} {bytes : List ℕ} {own : Own} {d : Declarator}
      → (is : IsDeclarator total wide (suc place) names ts rest after bytes own d) → declarator_stands b is → EndsDeclarator rest
      → ReadBehind names after ts rest (record { tree = d; name = bytes; own = own })
  read_behind (declarator {names = names} {between = between} {after = after} {ts = ts} {start = start} {mid = mid} {rest = rest} {bytes = bytes} {inner = own'} {own = own} {ps = ps} {d = d} {ss = ss} are is more) stand ends =
      record {
        start = start;
        ps = ps;
        pointers_are = pointers_read are (direct_ends_pointers is) (length ts) (omega arith) [] names;
        starts = direct_starts is;
        reads = declarator_joined names between after (number_of total ts) ps start mid rest (record { tree = d; name = bytes; own = own' }) own ss
            (direct_read is stand.1) (suffixes_read total wide b room inner complete rooms more stand.2 ends (length mid) (omega arith) []);
      }

  pub declarator_complete : (names after : Names) (ts rest : List Token) (x : ReadDeclarator)
      → (is : IsDeclarator total wide (suc place) names ts rest after x.name x.own x.tree) → declarator_stands b is → EndsDeclarator rest
      → Meets total b.later (Rattle.c_grammar.specs.ReadingDecl.declarator total room inner (at_state names ts)) (Ok (x, at_state after rest))
  unfolding Rattle.c_grammar.specs.ReadingDecl.declarator
  declarator_complete names after ts rest x is stand ends =
      let d : ReadBehind names after ts rest x = read_behind is stand ends in
      same (ap (λ (y : List (List Qualifier) × State). declarator_from total room inner (number_of total ts) y.0 y.1) d.pointers_are) ▸ d.reads

-- ---- declarators without a name

module _ (total wide : ℕ) (b : Bounds) (place : ℕ) (inner : Inner) (complete : Complete total wide b place inner) where
  unnamed_from_read : {names after : Names} {ts rest : List Token} {ss : List (Option Expr)} → (are : AreSizes total wide (suc place) names ts rest after ss) → sizes_stand b are
      → sees_mark mark.OpenBracket rest ≡ false → (count : ℕ)
      → Meets total b.later (unnamed_from total inner count (at_state names ts)) (Ok (record { pointers = count; sizes = ss }, at_state after rest))
  unnamed_from_read {ts = ts} are stand ends count =
      on (λ x. Ok (record { pointers = count; sizes = x.0 }, x.1)) (sizes_read total wide b place inner complete are stand ends (length ts) (omega arith) [])

  pub unnamed_complete : (names after : Names) (ts rest : List Token) (a : Abstract Expr) → (is : IsAbstract total wide (suc place) names ts rest after a) → abstract_stands b is
      → EndsUnnamed rest → Meets total b.later (unnamed total inner (at_state names ts)) (Ok (a, at_state after rest))
  unfolding unnamed
  unnamed_complete names after ts rest a is stand ends =
      let s = split b is stand in
      let count : 0 + a.pointers ≡ a.pointers = omega arith in
      same (ap (λ (y : ℕ × List Token). unnamed_from total inner y.0 (at_state names y.1)) (s.stars_are (sizes_no_star s.sizes_are ends.no_pointer) 0))
      ▸ unnamed_from_read s.sizes_are s.sizes_stand ends.no_array (0 + a.pointers)
      ▸ same (ap (λ (n : ℕ). Ok (record { pointers = n; sizes = a.sizes }, at_state after rest)) count)

-- ---- parameters, with a name or without

module _ (total wide : ℕ) (b : Bounds) (room place : ℕ) (rooms : place ≡ room + b.spare) (inner : Inner) (complete : Complete total wide b place inner) where
  -- which way a parameter goes on behind its pointers
  named_way : (names after : Names) (ts start rest : List Token) (ps : List (List Qualifier)) (x : ReadDeclarator)
      → pointers (length ts) [] (at_state names ts) ≡ (ps, at_state names start) → starts_direct start ≡ true
      → Meets total b.later (declarator_from total room inner (number_of total ts) ps (at_state names start)) (Ok (x, at_state after rest))
      → Meets total b.later (param_declarator total room inner (at_state names ts)) (Ok (Named x, at_state after rest))
  unfolding param_declarator
  named_way names after ts start rest ps x are starts h =
      let way : param_declarator total room inner (at_state names ts)
      ≡ (declarator_from total room inner (number_of total ts) ps (at_state names start) >>= λ y. Ok (Named y.0, y.1)) = rw (are, starts) in
      same way ▸ on (λ y. Ok (Named y.0, y.1)) h

  unnamed_way : (names after : Names) (ts mid rest : List Token) (ps : List (List Qualifier)) (a : Abstract Expr)
      → pointers (length ts) [] (at_state names ts) ≡ (ps, at_state names mid) → starts_direct mid ≡ false → are_bare ps ≡ true
      → Meets total b.later (unnamed_from total inner (length ps) (at_state names mid)) (Ok (a, at_state after rest))
      → Meets total b.later (param_declarator total room inner (at_state names ts)) (Ok (Unnamed a, at_state after rest))
  unfolding param_declarator
  unnamed_way names after ts mid rest ps a are other bare h =
      let way : param_declarator total room inner (at_state names ts)
      ≡ (unnamed_from total inner (length ps) (at_state names mid) >>= λ y. Ok (Unnamed y.0, y.1)) = rw (are, other, bare) in
      same way ▸ on (λ (y : Abstract Expr × State). Ok (Unnamed y.0, y.1)) h

  pub param_complete : (names after : Names) (ts rest : List Token) (p : ReadParam) → (is : IsParamPart total wide (suc place) names ts rest after p)
      → param_part_stands b total wide (suc place) names ts rest after p is
      → EndsParam p rest → Meets total b.later (param_declarator total room inner (at_state names ts)) (Ok (p, at_state after rest))
  param_complete names after ts rest (Named x) is stand ends =
      let d = read_behind total wide b room place rooms inner complete is stand ends in
      named_way names after ts d.start rest d.ps x d.pointers_are d.starts d.reads
  param_complete names after ts rest (Unnamed a) is stand ends =
      let s = split b is stand in
      let behind : EndsPointers s.mid = sizes_end_pointers s.sizes_are (record { no_pointer = ends.0.no_pointer; no_qualifier = ends.2 }) in
      unnamed_way names after ts s.mid rest s.ps a (pointers_read s.are behind (length ts) (omega arith) [] names)
      (sizes_no_direct s.sizes_are ends.1) s.bare
      (unnamed_from_read total wide b place inner complete s.sizes_are s.sizes_stand ends.0.no_array (length s.ps)
      ▸ same (ap (λ (n : ℕ). Ok (record { pointers = n; sizes = a.sizes }, at_state after rest)) s.count))
