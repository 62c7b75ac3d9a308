-- A reader of declarators beside one that has more room.
use Rattle.std.proofs.Common.{◌≡◌, ℕ, zero, suc, ◌+◌, ◌≤◌, ◌&&◌, Bool, true, false, cond, nat_eq, Option, Some, None, Ok, Err, List, [], ◌∷◌, ◌++◌, length, refl, sym, subst, arith}
use Rattle.c_lex.specs.declared.token.Token.{Token}
use Rattle.c_lex.specs.declared.token.Keyword.TheVariants as keyword
use Rattle.c_lex.specs.declared.token.Mark.TheVariants as mark
use Rattle.c_ast.specs.declared.words.Qualifier.{Qualifier}
use Rattle.c_ast.specs.declared.expression.Expr.{Expr}
use Rattle.c_ast.specs.declared.declaration.Declarator.{roll-Declarator}
use Rattle.c_ast.specs.declared.declaration.Direct.TheVariants as direct
use Rattle.c_ast.specs.declared.declaration.DirectSuffix.{DirectSuffix}
use Rattle.c_ast.specs.declared.declaration.DirectSuffix.TheVariants as suffix
use Rattle.c_ast.specs.declared.declaration.Param.{Param}
use Rattle.c_ast.specs.declared.declaration.Param.TheVariants as param
use Rattle.c_grammar.specs.declared.phrases.Extent.TheVariants as extent
use Rattle.c_grammar.specs.declared.phrases.ReadSpecs.{ReadSpecs}
use Rattle.c_grammar.specs.declared.phrases.ReadDeclarator.{ReadDeclarator}
use Rattle.c_grammar.specs.declared.phrases.ReadDirect.{ReadDirect}
use Rattle.c_grammar.specs.declared.phrases.ReadParam.{ReadParam}
use Rattle.c_grammar.specs.declared.phrases.ReadParam.TheVariants.{Named, Unnamed}
use Rattle.c_grammar.specs.Names.{Names, declared}
use Rattle.c_grammar.specs.Words.{number_of, qualifier_of}
use Rattle.c_grammar.specs.Owns.{Own, Open, settled}
use Rattle.c_grammar.specs.Grammar.{behind_pointers}
use Rattle.c_grammar.specs.Reading.{State, TooNested, Outcome, Reader, ◌>>=◌, is_mark, sees_mark, sees_keyword, tail, behind, here, expect_mark}
use Rattle.c_grammar.specs.ReadingExpr.{choose}
use Rattle.c_grammar.specs.ReadingDecl.{too_deep, qualifiers, at_rest, pointers, size, param_of, parameter, parameters, added, restored, function, suffixes, direct_at, declarator_from, declarator, sizes, unnamed_from, stars, unnamed, are_bare, starts_direct, param_declarator}
use Rattle.c_grammar.specs.Inner.{Inner}
use Rattle.c_grammar_laws.proofs.Agrees.{state, goes}
use Rattle.c_grammar_laws.proofs.Higher.{Rise, Higher, same, Onward, Above, Takes, higher_bind, onward_bind, onward_behind, bind, bind_found, given, equal, numbered, scoped, sized, unexpected, nested, passed, past_token, renamed, either, judged, tested, takes_bind, takes_mark, expected, name_next, takes_name, OnwardInner, AboveInner}
use Rattle.c_grammar_laws.proofs.HigherSpecs.{by_rooms, flat, inner_itself}

-- ---- pointers

-- a choice of what is found
found_either : {A : Type 0} (b : Bool) (p q : A) → ◌≡◌ {A = Outcome A} (cond b (Ok p) (Ok q)) (Ok (cond b p q))
found_either true p q = refl
found_either false p q = refl

qualifiers_within : (front : List Qualifier) (ts : List Token) → length (qualifiers front ts).1 ≤ length ts
qualifiers_within front [] = omega arith
qualifiers_within front (t ∷ ts) =
    elim (qualifier_of t.kind) as (λ o. length (choose o (front, t ∷ ts) (λ q. qualifiers (front ++ q ∷ []) ts)).1 ≤ suc (length ts)) [
      | None ↦ omega arith
      | Some q ↦ let le = qualifiers_within (front ++ q ∷ []) ts in omega (arith, le)
    ]

-- qualifiers behind those before, as a reader
qualify : List Qualifier → Reader (List Qualifier)
qualify front s = Ok ((qualifiers front s.rest).0, at_rest s (qualifiers front s.rest).1)

qualifiers_above : {w : Rise} (front : List Qualifier) → Above w (qualify front) (qualify front)
unfolding qualify
qualifiers_above front = record {
  on = λ from len e s le. let le' = qualifiers_within front s.rest in goes _ _ (omega (arith, le, le'));
  lift = λ s le. same _ _;
}

-- pointers as a reader
point : ℕ → List (List Qualifier) → Reader (List (List Qualifier))
point count front s = Ok (pointers count front s)

pointers_above : {w : Rise} (count : ℕ) (front : List (List Qualifier)) → Above w (point count front) (point count front)
unfolding point pointers qualify
pointers_above zero front = given front
pointers_above (suc count) front =
    equal (λ s. found_either (sees_mark mark.Star s.rest) _ _) (λ s. found_either (sees_mark mark.Star s.rest) _ _)
    (tested mark.Star (passed (bind (qualifiers_above []) (λ qs. pointers_above count (front ++ qs ∷ [])))) (given front))

-- ---- stars alone

stars_within : (count : ℕ) (ts : List Token) → length (stars count ts).1 ≤ length ts
unfolding stars
stars_within count [] = omega arith
stars_within count (t ∷ ts) =
    elim (is_mark mark.Star t.kind) as (λ b. length (cond b (stars (suc count) ts) (count, t ∷ ts)).1 ≤ suc (length ts)) [
      | true ↦ let le = stars_within (suc count) ts in omega (arith, le)
      | false ↦ omega arith
    ]

count_stars : ℕ → Reader ℕ
count_stars count s = Ok ((stars count s.rest).0, at_rest s (stars count s.rest).1)

stars_above : {w : Rise} (count : ℕ) → Above w (count_stars count) (count_stars count)
unfolding count_stars
stars_above count = record {
  on = λ from len e s le. let le' = stars_within count s.rest in goes _ _ (omega (arith, le, le'));
  lift = λ s le. same _ _;
}

-- ---- tests

onward_either : {total : ℕ} {A : Type 0} {f' g' : Reader A} → Onward total f' → Onward total g' → (b : Bool) → Onward total (λ s. cond b (f' s) (g' s))
onward_either on on' true = on
onward_either on on' false = on'

-- what is too deep where the token is there, and isn't with more room
deep_where : {w : Rise} {A : Type 0} {f' g g' : Reader A} (test : List Token → Bool) → test [] ≡ false → Onward w.total f' → Above w g g'
    → Above w (λ s. cond (test s.rest) (Err (TooNested (here w.total s))) (g s)) (λ s. cond (test s.rest) (f' (behind s)) (g' s))
deep_where {w = w} {f' = f'} {g = g} {g' = g'} test there on b = record {
  on = λ from len e s le. onward_either (onward_behind on) b.on (test s.rest) from len e s le;
  lift = λ s le. by_rest s.names s.rest le;
}
  where
    by_rest : (names : Names) (ts : List Token) → length ts ≤ w.total
        → Higher w (cond (test ts) (Err (TooNested (number_of w.total ts))) (g (state names ts))) (cond (test ts) (f' (state names (tail ts))) (g' (state names ts)))
    by_rest names [] le =
        subst (λ t. Higher w (cond t (Err (TooNested (number_of w.total []))) (g (state names []))) (cond t (f' (state names [])) (g' (state names []))))
        (sym there) (b.lift (state names []) le)
    by_rest names (t ∷ ts) le =
        elim (test (t ∷ ts)) as (λ c. Higher w (cond c (Err (TooNested (number_of w.total (t ∷ ts)))) (g (state names (t ∷ ts))))
        (cond c (f' (state names ts)) (g' (state names (t ∷ ts))))) [
          | true ↦ past_token on names t ts le
          | false ↦ b.lift (state names (t ∷ ts)) le
        ]

-- `void` alone in the brackets
abbrev only_void : List Token → Bool
only_void ts = sees_keyword keyword.Void ts && sees_mark mark.CloseParen (tail ts)

-- parameters, of which the names are in scope up to the bracket that closes
listed : ℕ → Inner → ℕ → Names → Own → ℕ → Reader (DirectSuffix × Own)
listed total inner number names own count s =
    parameters total inner count [] s
    >>= λ x. Ok ((suffix.Params number x.0, settled own (added names x.1.names)), record { names = restored names x.1.names; rest = x.1.rest })

-- `void` alone, which is too deep where there is no room, or parameters
abbrev void_or : ℕ → Bool → ℕ → Own → Reader (DirectSuffix × Own) → Reader (DirectSuffix × Own)
void_or total is_full number own list s =
    cond (only_void s.rest)
    (cond is_full (Err (TooNested (here total s))) (Ok ((suffix.Void number, settled own []), behind (behind s))))
    (list s)

-- behind a bracket that opens
in_brackets : ℕ → Inner → ℕ → Reader ReadDirect
in_brackets total inner number s =
    inner.declarator s
    >>= λ x. expect_mark total mark.CloseParen x.1
    >>= λ s'. Ok (record { tree = direct.Nested number x.0.tree; name = x.0.name; own = x.0.own }, s')

-- behind the name, or behind the bracket that closes
suffixed : ℕ → ℕ → Inner → ℕ → List (List Qualifier) → ReadDirect → Reader ReadDeclarator
suffixed total room inner token ps d s =
    suffixes total room inner (length s.rest) d.own [] s
    >>= λ y. Ok (
      record {
        tree = roll-Declarator (record { token = token; pointers = ps; direct = d.tree; suffixes = y.0.0 });
        name = d.name;
        own = behind_pointers ps y.0.1;
      },
      y.1,
    )

module _ (w : Rise) (room room' : ℕ) (rooms : room' ≡ room + w.extra) (inner inner' : Inner) {r : ℕ} (below : AboveInner w r inner inner') where
  -- ---- suffixes

  size_above : Above w (size w.total inner) (size w.total inner')
  unfolding size
  size_above = passed (tested mark.CloseBracket (passed (given None)) (bind (below.expr extent.Cond) (λ e. expected mark.CloseBracket (given (Some e)))))

  param_of_above : (ss : ReadSpecs) (p : ReadParam) → Above w (λ s. Ok (param_of ss (p, s))) (λ s. Ok (param_of ss (p, s)))
  param_of_above ss (Named d) = renamed (λ names. declared names d.name false) (given (param.Named ss.specs d.tree))
  param_of_above ss (Unnamed a) = given (param.Unnamed ss.specs a)

  -- behind specifiers there is room
  parameter_above : Above w (parameter w.total inner) (parameter w.total inner')
  unfolding parameter
  parameter_above =
      bind_found below.specs (λ ss. onward_bind below.param_on (λ p. (param_of_above ss p).on))
      (λ ss s s' is le. higher_bind (below.param (below.some_room s (ss, s') is) s' le) (λ p s'' h h'. same _ _) (λ p. (param_of_above ss p).on))

  parameters_above : (count : ℕ) (front : List Param) → Above w (parameters w.total inner count front) (parameters w.total inner' count front)
  unfolding parameters
  parameters_above zero front = unexpected
  parameters_above (suc count) front =
      bind parameter_above (λ p. tested mark.Comma (passed (parameters_above count (front ++ p ∷ []))) (expected mark.CloseParen (given (front ++ p ∷ []))))

  -- ---- functions

  listed_above : (number : ℕ) (names : Names) (own : Own) (count : ℕ)
      → Above w (listed w.total inner number names own count) (listed w.total inner' number names own count)
  unfolding listed
  listed_above number names own count =
      bind (parameters_above count []) (λ ps. scoped (λ after. renamed (restored names) (given (suffix.Params number ps, settled own (added names after)))))

  void_above : (number : ℕ) (names : Names) (own : Own) (count : ℕ) → Above w
      (void_or w.total (nat_eq room 0) number own (listed w.total inner number names own count))
      (void_or w.total (nat_eq room' 0) number own (listed w.total inner' number names own count))
  void_above number names own count =
      let list = listed_above number names own count in
      by_rooms w room room' rooms
      (λ b b'. Above w (void_or w.total b number own (listed w.total inner number names own count))
      (void_or w.total b' number own (listed w.total inner' number names own count)))
      (λ neither. judged (λ s. only_void s.rest) (nested neither) list)
      (λ deep. deep_where only_void refl (onward_behind (λ from len e s le. goes (suffix.Void number, settled own []) s le)) list)
      (judged (λ s. only_void s.rest) (passed (passed (given (suffix.Void number, settled own [])))) list)

  function_above : (own : Own) → Above w (function w.total room inner own) (function w.total room' inner' own)
  unfolding function too_deep listed
  function_above own =
      numbered (λ number. scoped (λ names. sized (λ count. passed
      (tested mark.CloseParen (passed (given (suffix.Empty number, settled own []))) (void_above number names own count)))))

  suffixes_above : (count : ℕ) (own : Own) (front : List DirectSuffix)
      → Above w (suffixes w.total room inner count own front) (suffixes w.total room' inner' count own front)
  unfolding suffixes
  suffixes_above zero own front = given (front, own)
  suffixes_above (suc count) own front =
      tested mark.OpenBracket
      (numbered (λ number. bind size_above (λ size. suffixes_above count (settled own []) (front ++ suffix.Array number size ∷ []))))
      (tested mark.OpenParen (bind (function_above own) (λ y. suffixes_above count y.1 (front ++ y.0 ∷ []))) (given (front, own)))

  -- ---- declarators

  in_brackets_above : (number : ℕ) → Above w (in_brackets w.total inner number) (in_brackets w.total inner' number)
  unfolding in_brackets
  in_brackets_above number =
      bind below.declarator (λ d. expected mark.CloseParen (given (record { tree = direct.Nested number d.tree; name = d.name; own = d.own })))

  direct_above : Above w (direct_at w.total inner) (direct_at w.total inner')
  unfolding direct_at in_brackets
  direct_above =
      tested mark.OpenParen (numbered (λ number. passed (in_brackets_above number)))
      (bind (name_next w) (λ name. given (record { tree = direct.Name name; name = name.text; own = Open })))

  suffixed_above : (token : ℕ) (ps : List (List Qualifier)) (d : ReadDirect) → Above w (suffixed w.total room inner token ps d) (suffixed w.total room' inner' token ps d)
  unfolding suffixed
  suffixed_above token ps d =
      bind (sized (λ count. suffixes_above count d.own []))
      (λ y. given (record {
        tree = roll-Declarator (record { token = token; pointers = ps; direct = d.tree; suffixes = y.0 });
        name = d.name;
        own = behind_pointers ps y.1;
      }))

  declarator_from_above : (token : ℕ) (ps : List (List Qualifier)) → Above w (declarator_from w.total room inner token ps) (declarator_from w.total room' inner' token ps)
  unfolding declarator_from suffixed
  declarator_from_above token ps = bind direct_above (λ d. suffixed_above token ps d)

  all_pointers : Above w (λ s. point (length s.rest) [] s) (λ s. point (length s.rest) [] s)
  all_pointers = sized (λ count. pointers_above count [])

  pub declarator_above : Above w (declarator w.total room inner) (declarator w.total room' inner')
  unfolding declarator point
  declarator_above = numbered (λ number. bind all_pointers (λ ps. declarator_from_above number ps))

  -- ---- declarators without a name

  sizes_above : (count : ℕ) (front : List (Option Expr)) → Above w (sizes w.total inner count front) (sizes w.total inner' count front)
  unfolding sizes
  sizes_above zero front = given front
  sizes_above (suc count) front = tested mark.OpenBracket (bind size_above (λ x. sizes_above count (front ++ x ∷ []))) (given front)

  unnamed_from_above : (count : ℕ) → Above w (unnamed_from w.total inner count) (unnamed_from w.total inner' count)
  unnamed_from_above pointers = bind (sized (λ count. sizes_above count [])) (λ sizes. given (record { pointers = pointers; sizes = sizes }))

  pub unnamed_above : Above w (unnamed w.total inner) (unnamed w.total inner')
  unfolding unnamed count_stars
  unnamed_above = bind (stars_above 0) (λ count. unnamed_from_above count)

  pub param_above : Above w (param_declarator w.total room inner) (param_declarator w.total room' inner')
  unfolding param_declarator point
  param_above =
      numbered (λ number. bind all_pointers (λ ps. judged (λ s. starts_direct s.rest)
      (bind (declarator_from_above number ps) (λ d. given (Named d)))
      (either (bind (unnamed_from_above (length ps)) (λ a. given (Unnamed a))) unexpected (are_bare ps))))

-- ---- what the other takes

module _ (w : Rise) (some : 2 ≤ w.extra) (room' : ℕ) (inner' : Inner) (on : OnwardInner w.total inner') where
  same_room : room' ≡ room' + 0
  same_room = omega arith

  from_on : (token : ℕ) (ps : List (List Qualifier)) → Onward w.total (declarator_from w.total room' inner' token ps)
  from_on token ps = (declarator_from_above (flat w.total) room' room' same_room inner' inner' (inner_itself {room = 1} (omega arith) on) token ps).on

  suffixed_on : (token : ℕ) (ps : List (List Qualifier)) (d : ReadDirect) → Onward w.total (suffixed w.total room' inner' token ps d)
  suffixed_on token ps d = (suffixed_above (flat w.total) room' room' same_room inner' inner' (inner_itself {room = 1} (omega arith) on) token ps d).on

  in_brackets_on : (number : ℕ) → Onward w.total (in_brackets w.total inner' number)
  in_brackets_on number = (in_brackets_above (flat w.total) room' room' same_room inner' inner' (inner_itself {room = 1} (omega arith) on) number).on

  direct_takes : Takes w (direct_at w.total inner')
  unfolding direct_at in_brackets
  direct_takes s le =
      takes_mark mark.OpenParen (in_brackets_on (here w.total s))
      (takes_bind (takes_name w some) (λ name from len e s le. goes (record { tree = direct.Name name; name = name.text; own = Open }) s le)) s le

  from_takes : (token : ℕ) (ps : List (List Qualifier)) → Takes w (declarator_from w.total room' inner' token ps)
  unfolding declarator_from suffixed
  from_takes token ps = takes_bind direct_takes (λ d. suffixed_on token ps d)

  -- behind the first star
  pointed : ℕ → ℕ → Reader ReadDeclarator
  pointed token count s = qualify [] s >>= λ qs. point count (qs.0 ∷ []) qs.1 >>= λ ps. declarator_from w.total room' inner' token ps.0 ps.1

  pointed_on : (token count : ℕ) → Onward w.total (pointed token count)
  unfolding pointed
  pointed_on token count =
      onward_bind (qualifiers_above {w = flat w.total} []).on (λ qs. onward_bind (pointers_above {w = flat w.total} count (qs ∷ [])).on (λ ps. from_on token ps))

  pub declarator_takes : Takes w (declarator w.total room' inner')
  unfolding declarator pointers pointed point qualify
  declarator_takes s le = by_rest s.names s.rest le
    where
      from_pointers : ℕ → List (List Qualifier) × State → Outcome (ReadDeclarator × State)
      from_pointers token x = declarator_from w.total room' inner' token x.0 x.1

      by_rest : (names : Names) (ts : List Token) → length ts ≤ w.total
          → Higher w {A = ReadDeclarator} (Err (TooNested (number_of w.total ts))) (from_pointers (number_of w.total ts) (pointers (length ts) [] (state names ts)))
      by_rest names [] le = from_takes (number_of w.total []) [] (state names []) le
      by_rest names (t ∷ ts) le =
          let token = number_of w.total (t ∷ ts) in
          elim (is_mark mark.Star t.kind) as (λ b. Higher w {A = ReadDeclarator} (Err (TooNested token)) (from_pointers token
          (cond b (pointers (length ts) ((qualifiers [] ts).0 ∷ []) (state names (qualifiers [] ts).1)) ([], state names (t ∷ ts))))) [
            | true ↦ past_token (pointed_on token (length ts)) names t ts le
            | false ↦ from_takes token [] (state names (t ∷ ts)) le
          ]
