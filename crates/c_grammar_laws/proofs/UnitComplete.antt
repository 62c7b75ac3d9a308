-- Each unit is read, or a late token stands too deep: so each within the limits is read, and tokens are of one unit at most.
use Rattle.std.proofs.Common.{◌≡◌, ◌≢◌, ℕ, zero, suc, ◌+◌, ◌<◌, ◌≤◌, ◌++◌, false, cond, Result, Ok, Err, List, [], ◌∷◌, length, refl, sym, ap, ◌∙◌, subst, append_assoc, append-nil, inl, inr, arith}
use Rattle.std.specs.Prelude.{IfErr}
use Rattle.c_lex.specs.declared.token.Token.{Token}
use Rattle.c_lex.specs.declared.token.Mark.TheVariants as mark
use Rattle.c_ast.specs.declared.declaration.InitDeclarator.{InitDeclarator}
use Rattle.c_ast.specs.declared.declaration.Decl.{Decl}
use Rattle.c_ast.specs.declared.declaration.External.{External}
use Rattle.c_ast.specs.declared.declaration.External.TheVariants as an_external
use Rattle.c_ast.specs.declared.declaration.Unit.{Unit as AUnit}
use Rattle.c_ast.specs.declared.statement.Stmt.{Stmt}
use Rattle.c_ast.specs.declared.statement.BlockItem.{BlockItem}
use Rattle.c_grammar.specs.declared.error.ParseError.{ParseError}
use Rattle.c_grammar.specs.declared.error.ParseError.TheVariants as error
use Rattle.c_grammar.specs.declared.phrases.ReadSpecs.{ReadSpecs}
use Rattle.c_grammar.specs.declared.phrases.ReadDeclarator.{ReadDeclarator}
use Rattle.c_grammar.specs.Names.{Names, declared, nothing}
use Rattle.c_grammar.specs.Owns.{own_names}
use Rattle.c_grammar.specs.Words.{IsMark, number_of}
use Rattle.c_grammar.specs.Grammar.{AreSpecs, IsDeclarator, IsDecl, bare, some, AreItems, IsExternal, AreExternals, ParsesWithin, Parses}
use Rattle.c_grammar.specs.Grammar as grammar
use Rattle.c_grammar.specs.Nesting.{Bounds, specs_stand, declarator_stands, decl_stands, items_stand, external_stands, externals_stand}
use Rattle.c_grammar.specs.Reading.{State, Outcome, Fault, Gives, ◌>>=◌, is_mark, sees_mark, behind}
use Rattle.c_grammar.specs.Levels.{readers}
use Rattle.c_grammar.specs.ReadingStmt.{left, is_end}
use Rattle.c_grammar.specs.ReadingStmt as reading
use Rattle.c_grammar.proofs.Late.{Meets, same, on, ◌▸◌}
use Rattle.c_grammar.proofs.Laws.{Complete, EndsDeclarator, at_state, is_keyword_at}
use Rattle.c_grammar.proofs.Extends.{closed, declarator_extends}
use Rattle.c_grammar_laws.proofs.ExprComplete.{sees_it}
use Rattle.c_grammar_laws.proofs.SpecsBegin.{specs_begin, declarator_begins}
use Rattle.c_grammar_laws.proofs.StmtExtends.{left_is, items_extend}
use Rattle.c_grammar_laws.proofs.StmtDeclRead.{ListRead, list_begins, list_read, from_read, decl_begins, declarator_no_semicolon}
use Rattle.c_grammar_laws.proofs.StmtComplete.{items_read}
use Rattle.c_grammar_laws.proofs.UnitLaws.{inner_added}
use Rattle.c_grammar_laws.proofs.AllStand.{within, externals_all_stand}
use Rattle.c_grammar_laws.proofs.Grows.{externals_grow}

-- an external declaration takes a token
external_takes : {total most room : ℕ} {names after : Names} {ts rest : List Token} {e : External} → IsExternal total most room names ts rest after e
    → length rest < length ts
external_takes (grammar.IsExternal.declaration d) = let b = decl_begins d in omega (arith, b.takes)
external_takes (grammar.IsExternal.function ss d opens is closes) =
    let b = specs_begin ss in omega (arith, b.takes, (declarator_extends d).shrinks, (items_extend is).shrinks)

no_keyword_there : (c : Token) (rest : List Token) → IsMark mark.Semicolon c → is_keyword_at (c ∷ rest) ≡ false
no_keyword_there c rest is = rw is refl

module _ (total wide : ℕ) (b : Bounds) (complete : (room place : ℕ) → place ≡ room + b.spare → Complete total wide b place (readers total b.chain room)) where
  specs_then : (room place : ℕ) → place ≡ room + b.spare → (ss : ReadSpecs) (names between : Names) (ts mid : List Token) (o : Outcome (External × State))
      → (are : AreSpecs total wide (suc place) names ts mid between ss.is_typedef ss.specs) → specs_stand b are → is_keyword_at mid ≡ false
      → sees_mark mark.OpenBrace mid ≡ false
      → Meets total b.later (reading.external_behind total b.chain room (number_of total ts) ss (at_state between mid)) o
      → Meets total b.later (reading.external total b.chain room (at_state names ts)) o
  unfolding reading.external
  specs_then room place at ss names between ts mid o are stands no_keyword no_brace h =
      on (λ x. reading.external_behind total b.chain room (number_of total ts) x.0 x.1)
      ((complete (suc room) (suc place) (omega (arith, at))).specs names between ts mid ss are stands no_keyword no_brace) ▸ h

  bare_read : (room token : ℕ) (ss : ReadSpecs) (names : Names) (c : Token) (rest : List Token) → IsMark mark.Semicolon c
      → reading.external_behind total b.chain room token ss (at_state names (c ∷ rest))
      ≡ Ok (an_external.Declaration (record { token = token; specs = ss.specs; declared = [] }), at_state names rest)
  unfolding reading.external_behind
  bare_read room token ss names c rest is =
      ap (λ z. cond z (Ok (an_external.Declaration (record { token = token; specs = ss.specs; declared = [] }), at_state names rest))
      ((readers total b.chain (suc room)).declarator (at_state names (c ∷ rest))
      >>= λ x. cond (sees_mark mark.OpenBrace x.1.rest) (reading.function total b.chain room token ss x.0 x.1)
      (reading.decl_from total b.chain (suc room) token ss x.0 x.1 >>= λ y. Ok (an_external.Declaration y.0, y.1)))) (sees_it mark.Semicolon c is)

  declarator_then : (room token : ℕ) (ss : ReadSpecs) (s between : State) (d : ReadDeclarator) (o : Outcome (External × State)) → sees_mark mark.Semicolon s.rest ≡ false
      → Meets total b.later ((readers total b.chain (suc room)).declarator s) (Ok (d, between))
      → Meets total b.later (cond (sees_mark mark.OpenBrace between.rest) (reading.function total b.chain room token ss d between)
      (reading.decl_from total b.chain (suc room) token ss d between >>= λ y. Ok (an_external.Declaration y.0, y.1))) o
      → Meets total b.later (reading.external_behind total b.chain room token ss s) o
  unfolding reading.external_behind
  declarator_then room token ss s between d o other there h =
      same (ap (λ z. cond z (Ok (an_external.Declaration (record { token = token; specs = ss.specs; declared = [] }), behind s))
      ((readers total b.chain (suc room)).declarator s
      >>= λ x. cond (sees_mark mark.OpenBrace x.1.rest) (reading.function total b.chain room token ss x.0 x.1)
      (reading.decl_from total b.chain (suc room) token ss x.0 x.1 >>= λ y. Ok (an_external.Declaration y.0, y.1)))) other)
      ▸ on (λ x. cond (sees_mark mark.OpenBrace x.1.rest) (reading.function total b.chain room token ss x.0 x.1)
      (reading.decl_from total b.chain (suc room) token ss x.0 x.1 >>= λ y. Ok (an_external.Declaration y.0, y.1))) there
      ▸ h

  some_read : (room token : ℕ) (ss : ReadSpecs) (s s' : State) (ds : List InitDeclarator) → sees_mark mark.Semicolon s.rest ≡ false
      → ListRead total wide b complete (suc room) ss.is_typedef s ds s'
      → Meets total b.later (reading.external_behind total b.chain room token ss s) (Ok (an_external.Declaration (record { token = token; specs = ss.specs; declared = ds }), s'))
  some_read room token ss s s' ds other l =
      declarator_then room token ss s l.between l.first _ other l.read
      (same (ap (λ z. cond z (reading.function total b.chain room token ss l.first l.between)
      (reading.decl_from total b.chain (suc room) token ss l.first l.between >>= λ y. Ok (an_external.Declaration y.0, y.1))) l.no_brace)
      ▸ on (λ y. Ok (an_external.Declaration y.0, y.1)) (from_read total wide b complete (suc room) token ss l.first l.between s' ds l.all))

  decl_there : (room place : ℕ) → place ≡ room + b.spare → {names after : Names} {ts rest : List Token} {d : Decl}
      → (is : IsDecl total wide (suc place) names ts rest after d) → decl_stands b is
      → Meets total b.later (reading.external total b.chain room (at_state names ts)) (Ok (an_external.Declaration d, at_state after rest))
  decl_there room place at (bare {names = names} {after = after} {s = c} {ts = ts} {rest = rest} {is_typedef = is_typedef} {ss = ss} are is) stands =
      let read : ReadSpecs = record { specs = ss; is_typedef = is_typedef } in
      specs_then room place at read names after ts (c ∷ rest) _ are stands.0 (no_keyword_there c rest is) (ap (is_mark mark.OpenBrace) is)
      (same (bare_read room (number_of total ts) read after c rest is))
  decl_there room place at (some {names = names} {between = between} {after = after} {s = c} {ts = ts} {mid = mid} {rest = rest} {is_typedef = is_typedef} {ss = ss} {ds = ds} are others is) stands =
      let read : ReadSpecs = record { specs = ss; is_typedef = is_typedef } in
      let begin = list_begins others in
      specs_then room place at read names between ts mid _ are stands.0 begin.begins.no_keyword begin.begins.no_brace
      (some_read room (number_of total ts) read (at_state between mid) (at_state after rest) ds begin.no_semicolon
      (list_read total wide b complete others stands.1 (suc room) (omega (arith, at)) c rest refl is))

  body_read : (room place : ℕ) → place ≡ room + b.spare → (token : ℕ) (ss : ReadSpecs) (d : ReadDeclarator) (names inner : Names) (o c : Token) (body rest : List Token)
      → (is : List (BlockItem Stmt)) → (are : AreItems total wide place (own_names d.own ++ declared names d.name ss.is_typedef) body (c ∷ rest) inner is)
      → items_stand b are → IsMark mark.CloseBrace c
      → Meets total b.later (reading.function total b.chain room token ss d (at_state names (o ∷ body)))
      (Ok (an_external.Function token ss.specs d.tree is, at_state (declared names d.name ss.is_typedef) rest))
  unfolding reading.function
  body_read room place at token ss d names inner o c body rest is are stands closes =
      let outer = declared names d.name ss.is_typedef in
      on (λ x. Ok (an_external.Function token ss.specs d.tree x.0, left outer x.1))
      (items_read total wide b complete are stands room at (length body) [] c rest (omega arith) refl closes)
      ▸ same (ap (λ (u : State). Ok (an_external.Function token ss.specs d.tree is, u)) (left_is (inner_added (own_names d.own) (closed (items_extend are)))))

  ends_at_brace : (o : Token) (body : List Token) → IsMark mark.OpenBrace o → EndsDeclarator (o ∷ body)
  ends_at_brace o body h = record { no_array = ap (is_mark mark.OpenBracket) h; no_function = ap (is_mark mark.OpenParen) h }

  function_read : (room place : ℕ) → place ≡ room + b.spare → (names between after inner : Names) (o c : Token) (ts mid body rest : List Token)
      → (ss : ReadSpecs) (d : ReadDeclarator) (is : List (BlockItem Stmt))
      → (are : AreSpecs total wide (suc place) names ts mid between ss.is_typedef ss.specs) → specs_stand b are
      → (there : IsDeclarator total wide (suc place) between mid (o ∷ body) after d.name d.own d.tree) → declarator_stands b there → IsMark mark.OpenBrace o
      → (items : AreItems total wide place (own_names d.own ++ declared after d.name ss.is_typedef) body (c ∷ rest) inner is) → items_stand b items
      → IsMark mark.CloseBrace c
      → Meets total b.later (reading.external total b.chain room (at_state names ts))
      (Ok (an_external.Function (number_of total ts) ss.specs d.tree is, at_state (declared after d.name ss.is_typedef) rest))
  function_read room place at names between after inner o c ts mid body rest ss d is are stand there stand' opens items stand'' closes =
      let begin = declarator_begins there in
      specs_then room place at ss names between ts mid _ are stand begin.no_keyword begin.no_brace
      (declarator_then room (number_of total ts) ss (at_state between mid) (at_state after (o ∷ body)) d _ (declarator_no_semicolon there)
      ((complete (suc room) (suc place) (omega (arith, at))).declarator between after mid (o ∷ body) d there stand' (ends_at_brace o body opens))
      (same (ap (λ z. cond z (reading.function total b.chain room (number_of total ts) ss d (at_state after (o ∷ body)))
      (reading.decl_from total b.chain (suc room) (number_of total ts) ss d (at_state after (o ∷ body)) >>= λ y. Ok (an_external.Declaration y.0, y.1))) (sees_it mark.OpenBrace o opens))
      ▸ body_read room place at (number_of total ts) ss d after inner o c body rest is items stand'' closes))

  external_read : {place : ℕ} {names after : Names} {ts rest : List Token} {e : External} → (d : IsExternal total wide (suc place) names ts rest after e)
      → external_stands b d → (room : ℕ) → place ≡ room + b.spare
      → Meets total b.later (reading.external total b.chain room (at_state names ts)) (Ok (e, at_state after rest))
  external_read {place = place} (grammar.IsExternal.declaration d) stands room at = decl_there room place at d stands
  external_read (grammar.IsExternal.function {room = place} {names = names} {between = between} {after = after} {inner = inner} {o = o} {c = c} {ts = ts} {mid = mid} {body = body} {rest = rest} {is_typedef = is_typedef} {bytes = bytes} {own = own} {ss = ss} {d = d} {is = is} are there opens items closes) stands room at =
      function_read room place at names between after inner o c ts mid body rest (record { specs = ss; is_typedef = is_typedef }) (record { tree = d; name = bytes; own = own }) is
      are stands.0 there stands.1 opens items stands.3 closes

  external_at : {n : ℕ} {names after : Names} {ts rest : List Token} {e : External} → (d : IsExternal total wide n names ts rest after e)
      → external_stands b d → (room place : ℕ) → n ≡ suc place → place ≡ room + b.spare
      → Meets total b.later (reading.external total b.chain room (at_state names ts)) (Ok (e, at_state after rest))
  external_at {names = names} {after = after} {ts = ts} {rest = rest} {e = e} d stands room place n_is at =
      subst (λ (k : ℕ). (d : IsExternal total wide k names ts rest after e) → external_stands b d
      → Meets total b.later (reading.external total b.chain room (at_state names ts)) (Ok (e, at_state after rest))) (sym n_is)
      (λ d stands. external_read d stands room at) d stands

  end_read : (room count : ℕ) (front : List External) (names : Names) (ts : List Token) → ts ≡ []
      → reading.externals total b.chain room count front (at_state names ts) ≡ Ok (front ++ [])
  unfolding reading.externals
  end_read room zero front names ts h =
      ap (λ z. cond z (Ok front) (Err (Fault.Unexpected (number_of total ts)))) (ap is_end h) ∙ ap (λ (es : List External). Ok es) (sym (append-nil front))
  end_read room (suc count) front names ts h =
      ap (λ z. cond z (Ok front) (reading.external total b.chain room (at_state names ts) >>= λ x. reading.externals total b.chain room count (front ++ x.0 ∷ []) x.1)) (ap is_end h)
      ∙ ap (λ (es : List External). Ok es) (sym (append-nil front))

  not_end : (ts rest : List Token) → length rest < length ts → is_end ts ≡ false
  not_end [] rest h = absurd (omega (arith, h))
  not_end (t ∷ ts) rest h = refl

  external_then : (room count : ℕ) (front es : List External) (e : External) (names between : Names) (ts mid : List Token) → is_end ts ≡ false
      → Meets total b.later (reading.external total b.chain room (at_state names ts)) (Ok (e, at_state between mid))
      → Meets total b.later (reading.externals total b.chain room count (front ++ e ∷ []) (at_state between mid)) (Ok ((front ++ e ∷ []) ++ es))
      → Meets total b.later (reading.externals total b.chain room (suc count) front (at_state names ts)) (Ok (front ++ e ∷ es))
  unfolding reading.externals
  external_then room count front es e names between ts mid going h next =
      same (ap (λ z. cond z (Ok front) (reading.external total b.chain room (at_state names ts) >>= λ x. reading.externals total b.chain room count (front ++ x.0 ∷ []) x.1)) going)
      ▸ on (λ x. reading.externals total b.chain room count (front ++ x.0 ∷ []) x.1) h
      ▸ next ▸ same (ap (λ (xs : List External). Ok xs) (append_assoc front (e ∷ []) es))

  externals_read : {n : ℕ} {names after : Names} {ts last : List Token} {es : List External} → (d : AreExternals total wide n names ts last after es)
      → externals_stand b d → (room place count : ℕ) (front : List External) → n ≡ suc place → place ≡ room + b.spare → length ts ≤ count → last ≡ []
      → Meets total b.later (reading.externals total b.chain room count front (at_state names ts)) (Ok (front ++ es))
  externals_read (grammar.AreExternals.none {names = names} {rest = ts}) stands room place count front n_is at few h = same (end_read room count front names ts h)
  externals_read (grammar.AreExternals.more e es) stands room place zero front n_is at few h = absurd (omega (arith, external_takes e))
  externals_read (grammar.AreExternals.more {names = names} {between = between} {ts = ts} {mid = mid} {e = e} {es = es} is are) stands room place (suc count) front n_is at few h =
      external_then room count front es e names between ts mid (not_end ts mid (external_takes is))
      (external_at is stands.0 room place n_is at)
      (externals_read are stands.1 room place count (front ++ e ∷ []) n_is at (omega (arith, external_takes is)) h)

-- Each unit is read as far as it stands within the bounds: all of it, or up to a late token that stands too deep.
pub unit_meets : (wide limit : ℕ) (b : Bounds) (ts : List Token)
    → ((room place : ℕ) → place ≡ room + b.spare → Complete (length ts) wide b place (readers (length ts) b.chain room)) → (unit : AUnit) (after : Names)
    → (d : AreExternals (length ts) wide (suc (limit + b.spare)) nothing ts [] after unit.externals) → externals_stand b d
    → Meets (length ts) b.later (reading.unit b.chain limit ts) (Ok unit)
unfolding reading.unit
unit_meets wide limit b ts complete unit after d stands =
    on (λ (es : List External). Ok (record { externals = es }))
    (externals_read (length ts) wide b complete d stands limit (limit + b.spare) (length ts) [] refl refl (omega arith) refl)

-- where no token is late, all is read
none_late : {total : ℕ} {A : Type 0} {o p : Outcome A} → Meets total 0 o p → o ≡ p
none_late (inl e) = e
none_late (inr l) = absurd (let late = l.late in omega (arith, late))

-- each unit within the limits is read
pub unit_complete : (most limit : ℕ) (ts : List Token)
    → ((room place : ℕ) → place ≡ room + 0 → Complete (length ts) most (within most) place (readers (length ts) most room)) → (unit : AUnit)
    → ParsesWithin limit most ts unit → reading.unit most limit ts ≡ Ok unit
unit_complete most limit ts complete unit parses =
    let n_is : suc limit ≡ suc (limit + 0) = omega arith in
    let d : AreExternals (length ts) most (suc (limit + 0)) nothing ts [] parses.0 unit.externals =
    subst (λ k. AreExternals (length ts) most k nothing ts [] parses.0 unit.externals) n_is parses.1 in
    none_late (unit_meets most limit (within most) ts complete unit parses.0 d (externals_all_stand most d))

-- where nothing was read, and memory didn't run out, there is no unit within the limits
pub refused : (most limit : ℕ) (ts : List Token)
    → ((room place : ℕ) → place ≡ room + 0 → Complete (length ts) most (within most) place (readers (length ts) most room))
    → (result : Result AUnit ParseError) → Gives (λ (u : AUnit). u) result (reading.unit most limit ts)
    → IfErr result (λ e. e ≢ error.Memory → (unit : AUnit) → ParsesWithin limit most ts unit → ⊥)
refused most limit ts complete (Ok u) h = tt
refused most limit ts complete (Err error.Memory) h = λ other unit parses. other refl
refused most limit ts complete (Err (error.Unexpected token)) h = λ other unit parses. let there = unit_complete most limit ts complete unit parses in absurd cc
refused most limit ts complete (Err (error.TooNested token)) h = λ other unit parses. let there = unit_complete most limit ts complete unit parses in absurd cc

-- ---- one unit at most

ok_same : (a b : AUnit) → ◌≡◌ {A = Outcome AUnit} (Ok a) (Ok b) → a ≡ b
ok_same a b h = cc

pub one_within : (most limit : ℕ) (ts : List Token)
    → ((room place : ℕ) → place ≡ room + 0 → Complete (length ts) most (within most) place (readers (length ts) most room)) → (a b : AUnit)
    → ParsesWithin limit most ts a → ParsesWithin limit most ts b → a ≡ b
one_within most limit ts complete a b first second =
    ok_same a b (sym (unit_complete most limit ts complete a first) ∙ unit_complete most limit ts complete b second)

-- within so many more of nesting
grown : (total most limit extra n : ℕ) {names after : Names} {ts rest : List Token} {es : List External} → n ≡ extra + limit
    → AreExternals total most (suc limit) names ts rest after es → AreExternals total most (suc n) names ts rest after es
grown total most limit zero n {names = names} {after = after} {ts = ts} {rest = rest} {es = es} same d =
    let less : limit ≡ n = omega (arith, same) in subst (λ k. AreExternals total most (suc k) names ts rest after es) less d
grown total most limit (suc extra) zero same d = absurd (omega (arith, same))
grown total most limit (suc extra) (suc n) same d = externals_grow total most most (omega arith) (grown total most limit extra n (omega (arith, same)) d)

pub within_greater : (limit most extra more : ℕ) (ts : List Token) (unit : AUnit) → most ≤ more → ParsesWithin limit most ts unit
    → ParsesWithin (suc (extra + limit)) more ts unit
within_greater limit most extra more ts unit wide parses =
    (parses.0, externals_grow (length ts) most more wide (grown (length ts) most limit extra (extra + limit) refl parses.1))

pub one_parse : ((total wide : ℕ) (b : Bounds) (room place : ℕ) → place ≡ room + b.spare → Complete total wide b place (readers total b.chain room))
    → (ts : List Token) (a b : AUnit) → Parses ts a → Parses ts b → a ≡ b
one_parse complete ts a b (limit, most, first) (limit', most', second) =
    let same : suc (limit + limit') ≡ suc (limit' + limit) = omega arith in
    let one : ParsesWithin (suc (limit' + limit)) (most + most') ts a = within_greater limit most limit' (most + most') ts a (omega arith) first in
    let other : ParsesWithin (suc (limit + limit')) (most + most') ts b = within_greater limit' most' limit (most + most') ts b (omega arith) second in
    one_within (most + most') (suc (limit' + limit)) ts (complete (length ts) (most + most') (within (most + most'))) a b one
    (subst (λ k. ParsesWithin k (most + most') ts b) same other)
