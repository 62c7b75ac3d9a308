-- What a reader of declarators does depends only on the tokens up to where it stops.
use Rattle.std.proofs.Common.{◌≡◌, ℕ, zero, suc, ◌+◌, ◌-◌, ◌≤◌, Bool, true, false, cond, nat_eq, Option, Some, None, Ok, Err, List, [], ◌∷◌, ◌++◌, length, refl, sym, ap, arith}
use Rattle.std.proofs.Math.Dec.{eqb-suc-zero}
use Rattle.c_lex.specs.declared.token.Token.{Token}
use Rattle.c_lex.specs.declared.token.TokenKind.TheVariants as kind
use Rattle.c_lex.specs.declared.token.Keyword.TheVariants as keyword
use Rattle.c_lex.specs.declared.token.Mark.TheVariants as mark
use Rattle.c_ast.specs.declared.words.Qualifier.{Qualifier}
use Rattle.c_ast.specs.declared.expression.Expr.{Expr}
use Rattle.c_ast.specs.declared.declaration.Declarator.{roll-Declarator}
use Rattle.c_ast.specs.declared.declaration.Direct.TheVariants as direct
use Rattle.c_ast.specs.declared.declaration.DirectSuffix.{DirectSuffix}
use Rattle.c_ast.specs.declared.declaration.DirectSuffix.TheVariants as suffix
use Rattle.c_ast.specs.declared.declaration.Param.{Param}
use Rattle.c_ast.specs.declared.declaration.Param.TheVariants as param
use Rattle.c_grammar.specs.declared.phrases.Extent.TheVariants as extent
use Rattle.c_grammar.specs.declared.phrases.ReadSpecs.{ReadSpecs}
use Rattle.c_grammar.specs.declared.phrases.ReadParam.{ReadParam}
use Rattle.c_grammar.specs.declared.phrases.ReadParam.TheVariants.{Named, Unnamed}
use Rattle.c_grammar.specs.Names.{Names, declared}
use Rattle.c_grammar.specs.Words.{qualifier_of}
use Rattle.c_grammar.specs.Owns.{Own, Open, settled}
use Rattle.c_grammar.specs.Grammar.{behind_pointers}
use Rattle.c_grammar.specs.Reading.{State, TooNested, Outcome, Reader, ◌>>=◌, is_mark, sees_mark, sees_keyword, behind, here, expect_mark}
use Rattle.c_grammar.specs.ReadingExpr.{choose}
use Rattle.c_grammar.specs.ReadingDecl.{too_deep, qualifiers, at_rest, pointers, size, param_of, parameter, parameters, added, restored, function, suffixes, direct_at, declarator_from, declarator, sizes, unnamed_from, stars, unnamed, are_bare, starts_direct, param_declarator}
use Rattle.c_grammar.specs.Inner.{Inner}
use Rattle.c_grammar_laws.proofs.ExprFound.{keyword_is}
use Rattle.c_grammar_laws.proofs.Agrees.{Sides, total_one, total_other, state, Both, Alike, on, past, goes, IsTaken, either, scoped, bind, given, wider, weak, falling, equal, numbered, unexpected, nested, taken, passed, stepped, renamed, judged, tested, expected, name_next, forked, counted, sized, taken_bind, tail_within}
use Rattle.c_grammar_laws.proofs.LocalExpr.{BothInner}

-- ---- pointers

-- a choice of what is found
found_either : {A : Type 0} (b : Bool) (p q : A) → ◌≡◌ {A = Outcome A} (cond b (Ok p) (Ok q)) (Ok (cond b p q))
found_either true p q = refl
found_either false p q = refl

qualifiers_within : (front : List Qualifier) (ts : List Token) → length (qualifiers front ts).1 ≤ length ts
qualifiers_within front [] = omega arith
qualifiers_within front (t ∷ ts) =
    elim (qualifier_of t.kind) as (λ o. length (choose o (front, t ∷ ts) (λ q. qualifiers (front ++ q ∷ []) ts)).1 ≤ suc (length ts)) [
      | None ↦ omega arith
      | Some q ↦ let le = qualifiers_within (front ++ q ∷ []) ts in omega (arith, le)
    ]

-- qualifiers behind those before, as a reader
qualify : List Qualifier → Reader (List Qualifier)
qualify front s = Ok ((qualifiers front s.rest).0, at_rest s (qualifiers front s.rest).1)

qualifiers_both : (w : Sides) (n : ℕ) (front : List Qualifier) → Both w n n (qualify front) (qualify front)
unfolding qualify
qualifiers_both w n front = record {
  one = λ s le. let le' = qualifiers_within front s.rest in goes _ _ (omega (arith, le, le'));
  other = λ s le. let le' = qualifiers_within front s.rest in goes _ _ (omega (arith, le, le'));
  alike = λ names t ts le. by_list names front t ts le;
}
  where
    found : Names → List Qualifier × List Token → Outcome (List Qualifier × State)
    found names x = Ok (x.0, state names x.1)

    by_list : (names : Names) (front : List Qualifier) (t : Token) (ts : List Token) → suc (length ts) ≤ n
        → Alike w n (found names (qualifiers front (t ∷ (ts ++ w.one)))) (found names (qualifiers front (t ∷ (ts ++ w.other))))
    by_list names front t [] le =
        elim (qualifier_of t.kind) as (λ o. Alike w n (found names (choose o (front, t ∷ w.one) (λ q. qualifiers (front ++ q ∷ []) w.one))) (found names (choose o (front, t ∷ w.other) (λ q. qualifiers (front ++ q ∷ []) w.other)))) [
          | None ↦ on front names t [] le
          | Some q ↦ past (goes _ _ (qualifiers_within (front ++ q ∷ []) w.one)) (goes _ _ (qualifiers_within (front ++ q ∷ []) w.other))
        ]
    by_list names front t (u ∷ us) le =
        elim (qualifier_of t.kind) as (λ o. Alike w n (found names (choose o (front, t ∷ (u ∷ (us ++ w.one))) (λ q. qualifiers (front ++ q ∷ []) (u ∷ (us ++ w.one))))) (found names (choose o (front, t ∷ (u ∷ (us ++ w.other))) (λ q. qualifiers (front ++ q ∷ []) (u ∷ (us ++ w.other)))))) [
          | None ↦ on front names t (u ∷ us) le
          | Some q ↦ by_list names (front ++ q ∷ []) u us (omega (arith, le))
        ]

-- pointers as a reader
point : ℕ → List (List Qualifier) → Reader (List (List Qualifier))
point count front s = Ok (pointers count front s)

pointers_both : (w : Sides) (n count count' : ℕ) (front : List (List Qualifier)) → n ≤ count → n ≤ count' → Both w n n (point count front) (point count' front)
unfolding point pointers qualify
pointers_both w = counted point point (λ n front. given front)
    (λ n count count' rec front. equal (λ s. found_either (sees_mark mark.Star s.rest) _ _) (λ s. found_either (sees_mark mark.Star s.rest) _ _)
    (tested mark.Star (stepped (bind (qualifiers_both w (n - 1) []) (λ qs. rec (front ++ qs ∷ [])))) (given front)))

-- ---- stars alone

stars_within : (count : ℕ) (ts : List Token) → length (stars count ts).1 ≤ length ts
unfolding stars
stars_within count [] = omega arith
stars_within count (t ∷ ts) =
    elim (is_mark mark.Star t.kind) as (λ b. length (cond b (stars (suc count) ts) (count, t ∷ ts)).1 ≤ suc (length ts)) [
      | true ↦ let le = stars_within (suc count) ts in omega (arith, le)
      | false ↦ omega arith
    ]

count_stars : ℕ → Reader ℕ
count_stars count s = Ok ((stars count s.rest).0, at_rest s (stars count s.rest).1)

stars_both : (w : Sides) (n count : ℕ) → Both w n n (count_stars count) (count_stars count)
unfolding count_stars stars
stars_both w n count = record {
  one = λ s le. let le' = stars_within count s.rest in goes _ _ (omega (arith, le, le'));
  other = λ s le. let le' = stars_within count s.rest in goes _ _ (omega (arith, le, le'));
  alike = λ names t ts le. by_list names count t ts le;
}
  where
    found : Names → ℕ × List Token → Outcome (ℕ × State)
    found names x = Ok (x.0, state names x.1)

    by_list : (names : Names) (count : ℕ) (t : Token) (ts : List Token) → suc (length ts) ≤ n
        → Alike w n (found names (stars count (t ∷ (ts ++ w.one)))) (found names (stars count (t ∷ (ts ++ w.other))))
    by_list names count t [] le =
        elim (is_mark mark.Star t.kind) as (λ b. Alike w n (found names (cond b (stars (suc count) w.one) (count, t ∷ w.one))) (found names (cond b (stars (suc count) w.other) (count, t ∷ w.other)))) [
          | true ↦ past (goes _ _ (stars_within (suc count) w.one)) (goes _ _ (stars_within (suc count) w.other))
          | false ↦ on count names t [] le
        ]
    by_list names count t (u ∷ us) le =
        elim (is_mark mark.Star t.kind) as (λ b. Alike w n (found names (cond b (stars (suc count) (u ∷ (us ++ w.one))) (count, t ∷ (u ∷ (us ++ w.one))))) (found names (cond b (stars (suc count) (u ∷ (us ++ w.other))) (count, t ∷ (u ∷ (us ++ w.other)))))) [
          | true ↦ by_list names (suc count) u us (omega (arith, le))
          | false ↦ on count names t (u ∷ us) le
        ]

module _ (w : Sides) (room : ℕ) (inner inner' : Inner) (below : BothInner w room inner inner') where
  -- ---- suffixes

  size_both : (n : ℕ) → Both w (suc n) n (size (total_one w) inner) (size (total_other w) inner')
  unfolding size
  size_both n = taken (tested mark.CloseBracket (passed (given None)) (bind (below.expr extent.Cond n) (λ e. expected mark.CloseBracket (given (Some e)))))

  param_of_both : (n : ℕ) (ss : ReadSpecs) (p : ReadParam) → Both w n n (λ s. Ok (param_of ss (p, s))) (λ s. Ok (param_of ss (p, s)))
  param_of_both n ss (Named d) = renamed (λ names. declared names d.name false) (given (param.Named ss.specs d.tree))
  param_of_both n ss (Unnamed a) = given (param.Unnamed ss.specs a)

  parameter_both : (n : ℕ) → Both w (suc n) n (parameter (total_one w) inner) (parameter (total_other w) inner')
  unfolding parameter
  parameter_both n = bind (below.specs n) (λ ss. bind (below.param n) (λ p. param_of_both n ss p))

  parameters_both : (n count count' : ℕ) (front : List Param) → n ≤ count → n ≤ count'
      → Both w n n (parameters (total_one w) inner count front) (parameters (total_other w) inner' count' front)
  unfolding parameters
  parameters_both = counted (parameters (total_one w) inner) (parameters (total_other w) inner') (λ n front. unexpected)
      (λ n count count' rec front. bind (weak (parameter_both n))
      (λ p. tested mark.Comma (stepped (rec (front ++ p ∷ []))) (expected mark.CloseParen (given (front ++ p ∷ [])))))

  -- what goes on behind a parameter
  behind_param : (count : ℕ) (front : List Param) (p : Param) → Both w 0 0
      (λ s. cond (sees_mark mark.Comma s.rest) (parameters (total_one w) inner count (front ++ p ∷ []) (behind s)) (expect_mark (total_one w) mark.CloseParen s >>= λ s'. Ok (front ++ p ∷ [], s')))
      (λ s. cond (sees_mark mark.Comma s.rest) (parameters (total_other w) inner' count (front ++ p ∷ []) (behind s)) (expect_mark (total_other w) mark.CloseParen s >>= λ s'. Ok (front ++ p ∷ [], s')))
  behind_param count front p =
      tested mark.Comma (passed (parameters_both 0 count count (front ++ p ∷ []) (omega arith) (omega arith))) (expected mark.CloseParen (given (front ++ p ∷ [])))

  parameters_one : (count : ℕ) (front : List Param) (names : Names) (t : Token) → 1 ≤ count → t.kind ≡ kind.Keyword keyword.Void
      → IsTaken room w.from w.one t (parameters (total_one w) inner count front (state names (t ∷ w.one)))
  unfolding parameters parameter
  parameters_one zero front names t some is = absurd (omega (arith, some))
  parameters_one (suc count) front names t some is =
      let s = state names (t ∷ w.one) in
      let first = taken_bind room w.from w.one t (inner.specs s) {g = λ ss s. inner.param s >>= λ y. Ok (param_of ss y)} (below.takes_one.specs names t is)
      (λ ss s le. (bind (below.param 0) (λ p. param_of_both 0 ss p)).one s le) in
      taken_bind room w.from w.one t (parameter (total_one w) inner s) first (λ p s le. (behind_param count front p).one s le)

  parameters_other : (count : ℕ) (front : List Param) (names : Names) (t : Token) → 1 ≤ count → t.kind ≡ kind.Keyword keyword.Void
      → IsTaken room w.from w.other t (parameters (total_other w) inner' count front (state names (t ∷ w.other)))
  unfolding parameters parameter
  parameters_other zero front names t some is = absurd (omega (arith, some))
  parameters_other (suc count) front names t some is =
      let s = state names (t ∷ w.other) in
      let first = taken_bind room w.from w.other t (inner'.specs s) {g = λ ss s. inner'.param s >>= λ y. Ok (param_of ss y)} (below.takes_other.specs names t is)
      (λ ss s le. (bind (below.param 0) (λ p. param_of_both 0 ss p)).other s le) in
      taken_bind room w.from w.other t (parameter (total_other w) inner' s) first (λ p s le. (behind_param count front p).other s le)

  -- ---- functions

  -- `void` alone in the brackets
  no_params : ℕ → ℕ → Own → ℕ → Reader (DirectSuffix × Own)
  no_params total number own zero s = Err (TooNested (here total s))
  no_params total number own (suc room) s = Ok ((suffix.Void number, settled own []), behind (behind s))

  no_params_both : (n number : ℕ) (own : Own) (room : ℕ) → Both w n n (no_params (total_one w) number own room) (no_params (total_other w) number own room)
  unfolding no_params
  no_params_both n number own zero = nested
  no_params_both n number own (suc room) = passed (passed (given (suffix.Void number, settled own [])))

  no_params_is : (total number : ℕ) (own : Own) (room : ℕ) (s : State)
      → no_params total number own room s ≡ cond (nat_eq room 0) (Err (too_deep total s)) (Ok ((suffix.Void number, settled own []), behind (behind s)))
  unfolding no_params too_deep
  no_params_is total number own zero s = refl
  no_params_is total number own (suc room) s = sym (ap (λ b. cond b (Err (too_deep total s)) (Ok ((suffix.Void number, settled own []), behind (behind s)))) (eqb-suc-zero room))

  no_params_taken : (from : ℕ) (a : List Token) (number : ℕ) (own : Own) (room : ℕ) (names : Names) (t : Token)
      → IsTaken room from a t {A = DirectSuffix × Own} (cond (nat_eq room 0) (Err (too_deep (from + length a) (state names (t ∷ a)))) (Ok ((suffix.Void number, settled own []), behind (state names a))))
  unfolding too_deep
  no_params_taken from a number own zero names t = refl
  no_params_taken from a number own (suc room) names t = rw (eqb-suc-zero room) (goes _ _ (tail_within a (length a) (omega arith)))

  function_both : (n : ℕ) (own : Own) → Both w (suc n) n (function (total_one w) room inner own) (function (total_other w) room inner' own)
  unfolding function
  function_both n own =
      numbered (λ number. scoped (λ names. sized (λ l count count' small le le'.
      wider {n = l} {m = l - 1} (omega arith) (omega (arith, small)) (stepped (tested mark.CloseParen (passed (given (suffix.Empty number, settled own [])))
      (forked room (λ ts. sees_keyword keyword.Void ts) (λ names ts. sees_mark mark.CloseParen ts) (λ t ts us. refl) (λ names t ts us. refl)
      (λ inside t is some. (
        no_params_taken w.from w.one number own room inside t,
        taken_bind room w.from w.one t (parameters (total_one w) inner count [] (state inside (t ∷ w.one)))
            (parameters_one count [] inside t (omega (arith, le, some)) (keyword_is keyword.Void t.kind is)) (λ ps s le. goes _ _ le),
      ))
      (λ inside t is some. (
        no_params_taken w.from w.other number own room inside t,
        taken_bind room w.from w.other t (parameters (total_other w) inner' count' [] (state inside (t ∷ w.other)))
            (parameters_other count' [] inside t (omega (arith, le', some)) (keyword_is keyword.Void t.kind is)) (λ ps s le. goes _ _ le),
      ))
      (equal (λ s. no_params_is (total_one w) number own room s) (λ s. no_params_is (total_other w) number own room s) (no_params_both (l - 1) number own room))
      (bind (parameters_both (l - 1) count count' [] (omega (arith, le)) (omega (arith, le')))
      (λ ps. scoped (λ after. renamed (restored names) (given (suffix.Params number ps, settled own (added names after))))))))))))

  suffixes_both : (n count count' : ℕ) (own : Own) (front : List DirectSuffix) → n ≤ count → n ≤ count'
      → Both w n n (suffixes (total_one w) room inner count own front) (suffixes (total_other w) room inner' count' own front)
  unfolding suffixes
  suffixes_both n count count' own front =
      counted {X = Own × List DirectSuffix} (λ count x. suffixes (total_one w) room inner count x.0 x.1) (λ count x. suffixes (total_other w) room inner' count x.0 x.1) (λ n x. given (x.1, x.0))
      (λ n count count' rec x. tested mark.OpenBracket
      (numbered (λ number. falling (bind (size_both (n - 1)) (λ size. rec (settled x.0 [], x.1 ++ suffix.Array number size ∷ [])))))
      (tested mark.OpenParen (falling (bind (function_both (n - 1) x.0) (λ y. rec (y.1, x.1 ++ y.0 ∷ [])))) (given (x.1, x.0))))
      n count count' (own, front)

  -- ---- declarators

  direct_both : (n : ℕ) → Both w n n (direct_at (total_one w) inner) (direct_at (total_other w) inner')
  unfolding direct_at
  direct_both n =
      tested mark.OpenParen
      (numbered (λ number. passed (bind (below.declarator n)
      (λ d. expected mark.CloseParen (given (record { tree = direct.Nested number d.tree; name = d.name; own = d.own }))))))
      (bind (weak (name_next w n)) (λ name. given (record { tree = direct.Name name; name = name.text; own = Open })))

  declarator_from_both : (n token : ℕ) (ps : List (List Qualifier))
      → Both w n n (declarator_from (total_one w) room inner token ps) (declarator_from (total_other w) room inner' token ps)
  unfolding declarator_from
  declarator_from_both n token ps =
      bind (direct_both n) (λ d. bind
      (sized (λ l count count' small le le'. wider {n = l} {m = l} (omega arith) (omega (arith, small)) (suffixes_both l count count' d.own [] le le')))
      (λ y. given (record {
        tree = roll-Declarator (record { token = token; pointers = ps; direct = d.tree; suffixes = y.0 });
        name = d.name;
        own = behind_pointers ps y.1;
      })))

  all_pointers : (n : ℕ) → Both w n n (λ s. point (length s.rest) [] s) (λ s. point (length s.rest) [] s)
  all_pointers n = sized (λ l count count' small le le'. wider {n = l} {m = l} (omega arith) (omega (arith, small)) (pointers_both w l count count' [] le le'))

  pub declarator_both : (n : ℕ) → Both w n n (declarator (total_one w) room inner) (declarator (total_other w) room inner')
  unfolding declarator point
  declarator_both n = numbered (λ number. bind (all_pointers n) (λ ps. declarator_from_both n number ps))

  -- ---- declarators without a name

  sizes_both : (n count count' : ℕ) (front : List (Option Expr)) → n ≤ count → n ≤ count'
      → Both w n n (sizes (total_one w) inner count front) (sizes (total_other w) inner' count' front)
  unfolding sizes
  sizes_both = counted (sizes (total_one w) inner) (sizes (total_other w) inner') (λ n front. given front)
      (λ n count count' rec front. tested mark.OpenBracket (falling (bind (size_both (n - 1)) (λ x. rec (front ++ x ∷ [])))) (given front))

  unnamed_from_both : (n count : ℕ) → Both w n n (unnamed_from (total_one w) inner count) (unnamed_from (total_other w) inner' count)
  unnamed_from_both n pointers =
      bind (sized (λ l count count' small le le'. wider {n = l} {m = l} (omega arith) (omega (arith, small)) (sizes_both l count count' [] le le')))
      (λ sizes. given (record { pointers = pointers; sizes = sizes }))

  pub unnamed_both : (n : ℕ) → Both w n n (unnamed (total_one w) inner) (unnamed (total_other w) inner')
  unfolding unnamed count_stars
  unnamed_both n = bind (stars_both w n 0) (λ count. unnamed_from_both n count)

  pub param_both : (n : ℕ) → Both w n n (param_declarator (total_one w) room inner) (param_declarator (total_other w) room inner')
  unfolding param_declarator point
  param_both n =
      numbered (λ number. bind (all_pointers n) (λ ps. judged (λ names ts. starts_direct ts) (λ names t ts. refl)
      (bind (declarator_from_both n number ps) (λ d. given (Named d)))
      (either (bind (unnamed_from_both n (length ps)) (λ a. given (Unnamed a))) unexpected (are_bare ps))))
