-- Each initialiser is read, where nothing behind it goes on with it, or a late token stands too deep.
use Rattle.std.proofs.Common.{◌≡◌, ℕ, zero, suc, ◌+◌, ◌≤◌, ◌++◌, ◌&&◌, not, true, false, cond, Ok, List, [], ◌∷◌, length, refl, sym, ap, ◌∙◌, subst, append_assoc, arith}
use Rattle.c_lex.specs.declared.token.Token.{Token}
use Rattle.c_lex.specs.declared.token.Mark.TheVariants as mark
use Rattle.c_ast.specs.declared.expression.Expr.{Expr}
use Rattle.c_ast.specs.declared.declaration.Init.{Init}
use Rattle.c_ast.specs.declared.declaration.Init.TheVariants as an_init
use Rattle.c_grammar.specs.declared.phrases.Extent.TheVariants as extent
use Rattle.c_grammar.specs.Names.{Names}
use Rattle.c_grammar.specs.Words.{IsMark, number_of}
use Rattle.c_grammar.specs.Grammar.{Assign, IsExpr, IsInit, init_value, list, AreInits, one_init, last_init, more_inits}
use Rattle.c_grammar.specs.Reading.{State, Outcome, Reader, ◌>>=◌, is_mark, sees_mark, behind, expect_mark}
use Rattle.c_grammar.specs.Nesting.{Bounds, expr_stands, init_stands, inits_stand}
use Rattle.c_grammar.specs.Levels.{readers}
use Rattle.c_grammar.specs.ReadingStmt.{inits_go_on, behind_comma}
use Rattle.c_grammar.specs.ReadingStmt as reading
use Rattle.c_grammar.proofs.Late.{Meets, same, on, ◌▸◌}
use Rattle.c_grammar.proofs.Laws.{Complete, EndsAssign, at_state}
use Rattle.c_grammar_laws.proofs.ExprComplete.{sees_it, expect_there, ends_comma, ends_at_comma}
use Rattle.c_grammar_laws.proofs.FirstStands.{LateFirst, stops_first, expr_first, init_first}
use Rattle.c_grammar_laws.proofs.StmtExtends.{init_extends}
use Rattle.c_grammar_laws.proofs.StmtBegins.{expr_opens, other_mark}

ends_at_brace : (t : Token) (ts : List Token) → IsMark mark.CloseBrace t → EndsAssign (t ∷ ts)
ends_at_brace t ts h = (ends_comma mark.CloseBrace t ts h refl refl refl refl refl).assign

-- an initialiser begins with no brace that closes a list
no_close : {total most room : ℕ} {names after : Names} {ts rest : List Token} {i : Init} → IsInit total most room names ts rest after i
    → sees_mark mark.CloseBrace ts ≡ false
no_close (init_value {names = names} {ts = ts} d) = other_mark mark.CloseBrace names ts refl (expr_opens d)
no_close (list is ds closes) = ap (is_mark mark.CloseBrace) is

inits_begin : {total most room : ℕ} {names after : Names} {ts rest : List Token} {is : List Init} → AreInits total most room names ts rest after is
    → sees_mark mark.CloseBrace ts ≡ false
inits_begin (one_init d) = no_close d
inits_begin (last_init d is) = no_close d
inits_begin (more_inits d is ds) = no_close d

-- there are no more initialisers than tokens
inits_few : {total most room : ℕ} {names after : Names} {ts last : List Token} {is : List Init} → AreInits total most room names ts last after is
    → (c : Token) (rest : List Token) → last ≡ c ∷ rest → length is ≤ length ts
inits_few (one_init d) c rest h = let e = init_extends d in let l : length _ ≡ suc (length rest) = ap length h in omega (arith, e.shrinks, l)
inits_few (last_init d is) c rest h = let e = init_extends d in omega (arith, e.shrinks)
inits_few (more_inits d is ds) c rest h = let e = init_extends d in let f = inits_few ds c rest h in omega (arith, e.shrinks, f)

module _ (total wide : ℕ) (b : Bounds) (complete : (room place : ℕ) → place ≡ room + b.spare → Complete total wide b place (readers total b.chain room)) where
  -- an initialiser, and those behind it
  abbrev from_first : Reader Init → ℕ → List Init → Reader (List Init)
  from_first read count front s = read s >>= λ x. reading.more_inits total read count (front ++ x.0 ∷ []) x.1

  ended : (front : List Init) (names : Names) (c : Token) (rest : List Token) → IsMark mark.CloseBrace c
      → reading.inits_end total front (at_state names (c ∷ rest)) ≡ Ok (front, at_state names rest)
  unfolding reading.inits_end
  ended front names c rest is =
      ap (λ b. expect_mark total mark.CloseBrace (cond b (at_state names rest) (at_state names (c ∷ rest))) >>= λ s'. Ok (front, s')) (ap (is_mark mark.Comma) is)
      ∙ ap (λ o. o >>= λ s'. Ok (front, s')) (expect_there total mark.CloseBrace names c rest is)

  ended_by_comma : (front : List Init) (names : Names) (t c : Token) (rest : List Token) → IsMark mark.Comma t → IsMark mark.CloseBrace c
      → reading.inits_end total front (at_state names (t ∷ c ∷ rest)) ≡ Ok (front, at_state names rest)
  unfolding reading.inits_end
  ended_by_comma front names t c rest comma is =
      ap (λ b. expect_mark total mark.CloseBrace (cond b (at_state names (c ∷ rest)) (at_state names (t ∷ c ∷ rest))) >>= λ s'. Ok (front, s')) (sees_it mark.Comma t comma)
      ∙ ap (λ o. o >>= λ s'. Ok (front, s')) (expect_there total mark.CloseBrace names c rest is)

  -- behind the last initialiser
  stops : (read : Reader Init) (count : ℕ) (front : List Init) (s : State) → inits_go_on s.rest ≡ false
      → reading.more_inits total read (suc count) front s ≡ reading.inits_end total front s
  unfolding reading.more_inits
  stops read count front s h = ap (λ b. cond b (from_first read count front (behind s)) (reading.inits_end total front s)) h

  goes_on : (read : Reader Init) (count : ℕ) (front : List Init) (s : State) → inits_go_on s.rest ≡ true
      → reading.more_inits total read (suc count) front s ≡ from_first read count front (behind s)
  unfolding reading.more_inits
  goes_on read count front s h = ap (λ b. cond b (from_first read count front (behind s)) (reading.inits_end total front s)) h

  no_more_at_close : (c : Token) (rest : List Token) → IsMark mark.CloseBrace c → inits_go_on (c ∷ rest) ≡ false
  no_more_at_close c rest is = ap (λ b. b && not (sees_mark mark.CloseBrace rest)) (ap (is_mark mark.Comma) is)

  no_more_at_comma : (t c : Token) (rest : List Token) → IsMark mark.Comma t → IsMark mark.CloseBrace c → inits_go_on (t ∷ c ∷ rest) ≡ false
  no_more_at_comma t c rest comma is =
      ap (λ b. b && not (is_mark mark.CloseBrace c.kind)) (sees_it mark.Comma t comma) ∙ ap (λ b. not b) (sees_it mark.CloseBrace c is)

  more_at_comma : (t : Token) (ts : List Token) → IsMark mark.Comma t → sees_mark mark.CloseBrace ts ≡ false → inits_go_on (t ∷ ts) ≡ true
  more_at_comma t ts comma other =
      ap (λ b. b && not (sees_mark mark.CloseBrace ts)) (sees_it mark.Comma t comma) ∙ ap (λ b. not b) other

  read_then : (read : Reader Init) (count : ℕ) (front : List Init) (s s' : State) (i : Init) (o : Outcome (List Init × State))
      → Meets total b.later (read s) (Ok (i, s')) → Meets total b.later (reading.more_inits total read count (front ++ i ∷ []) s') o
      → Meets total b.later (from_first read count front s) o
  read_then read count front s s' i o h k = on (λ x. reading.more_inits total read count (front ++ x.0 ∷ []) x.1) h ▸ k

  value_read : (room place : ℕ) → place ≡ room + b.spare → (names after : Names) (ts rest : List Token) (a : Expr)
      → (d : IsExpr total wide Assign place names ts rest after a) → expr_stands b d → EndsAssign rest
      → Meets total b.later (reading.init total b.chain room (at_state names ts)) (Ok (an_init.Value a, at_state after rest))
  unfolding reading.init
  value_read zero place at names after ts rest a d stands ends =
      let deep : place ≤ b.spare = omega (arith, at) in
      stops_first total b.later names ts (expr_first b d stands deep) (Ok (an_init.Value a, at_state after rest))
  value_read (suc room) place at names after ts rest a d stands ends =
      same (ap (λ c. cond c (reading.inits total (reading.init total b.chain room) (behind (at_state names ts)) >>= λ x. Ok (an_init.List (number_of total ts) x.0, x.1))
      ((readers total b.chain (suc room)).expr extent.Assign (at_state names ts) >>= λ x. Ok (an_init.Value x.0, x.1))) (other_mark mark.OpenBrace names ts refl (expr_opens d)))
      ▸ on (λ x. Ok (an_init.Value x.0, x.1)) ((complete (suc room) place at).expr extent.Assign names after ts rest a d stands ends)

  list_read : (room : ℕ) (names after : Names) (o : Token) (ts rest : List Token) (is : List Init) → IsMark mark.OpenBrace o
      → Meets total b.later (reading.inits total (reading.init total b.chain room) (at_state names ts)) (Ok (is, at_state after rest))
      → Meets total b.later (reading.init total b.chain (suc room) (at_state names (o ∷ ts))) (Ok (an_init.List (number_of total (o ∷ ts)) is, at_state after rest))
  unfolding reading.init
  list_read room names after o ts rest is opens h =
      same (ap (λ c. cond c (reading.inits total (reading.init total b.chain room) (at_state names ts) >>= λ x. Ok (an_init.List (number_of total (o ∷ ts)) x.0, x.1))
      ((readers total b.chain (suc room)).expr extent.Assign (at_state names (o ∷ ts)) >>= λ x. Ok (an_init.Value x.0, x.1))) (sees_it mark.OpenBrace o opens))
      ▸ on (λ x. Ok (an_init.List (number_of total (o ∷ ts)) x.0, x.1)) h

  -- where there is no room, nothing is read
  none_read : (names : Names) (ts : List Token) (o : Outcome (Init × State)) → LateFirst b.later ts
      → Meets total b.later (reading.init total b.chain zero (at_state names ts)) o
  unfolding reading.init
  none_read names ts o first = stops_first total b.later names ts first o

  -- behind the brace that opens the list
  first_read : (read : Reader Init) (s s' : State) (i : Init) (o : Outcome (List Init × State)) → Meets total b.later (read s) (Ok (i, s'))
      → Meets total b.later (reading.more_inits total read (length s'.rest) (i ∷ []) s') o → Meets total b.later (reading.inits total read s) o
  unfolding reading.inits
  first_read read s s' i o h k = on (λ x. reading.more_inits total read (length x.1.rest) (x.0 ∷ []) x.1) h ▸ k

  mutual
    pub init_read : {place : ℕ} {names after : Names} {ts rest : List Token} {i : Init} → (d : IsInit total wide place names ts rest after i)
        → init_stands b d → (room : ℕ) → place ≡ room + b.spare → EndsAssign rest
        → Meets total b.later (reading.init total b.chain room (at_state names ts)) (Ok (i, at_state after rest))
    init_read (init_value {room = place} {names = names} {after = after} {ts = ts} {rest = rest} {a = a} d) stands room at ends =
        value_read room place at names after ts rest a d stands ends
    init_read (list {names = names} {after = after} {o = o} {ts = ts} {rest = rest} {is = is} opens ds closes) stands zero at ends =
        none_read names (o ∷ ts) (Ok (an_init.List (number_of total (o ∷ ts)) is, at_state after rest)) (init_first b (list opens ds closes) stands (omega (arith, at)))
    init_read (list {names = names} {after = after} {o = o} {c = c} {ts = ts} {rest = rest} {is = is} opens ds closes) stands (suc room) at ends =
        list_read room names after o ts rest is opens (list_items_read ds stands.1 room (omega (arith, at)) c rest refl closes)

    list_items_read : {place : ℕ} {names after : Names} {ts last : List Token} {is : List Init} → (ds : AreInits total wide place names ts last after is)
        → inits_stand b ds → (room : ℕ) → place ≡ room + b.spare → (c : Token) (rest : List Token) → last ≡ c ∷ rest → IsMark mark.CloseBrace c
        → Meets total b.later (reading.inits total (reading.init total b.chain room) (at_state names ts)) (Ok (is, at_state after rest))
    list_items_read (one_init {names = names} {after = after} {ts = ts} {rest = last} {i = i} d) stands room at c rest h closes =
        first_read (reading.init total b.chain room) (at_state names ts) (at_state after last) i _ (init_read d stands room at (subst (λ us. EndsAssign us) (sym h) (ends_at_brace c rest closes)))
        (same (ap (λ us. reading.more_inits total (reading.init total b.chain room) (length us) (i ∷ []) (at_state after us)) h
        ∙ stops (reading.init total b.chain room) (length rest) (i ∷ []) (at_state after (c ∷ rest)) (no_more_at_close c rest closes) ∙ ended (i ∷ []) after c rest closes))
    list_items_read (last_init {names = names} {after = after} {t = t} {ts = ts} {rest = last} {i = i} d comma) stands room at c rest h closes =
        first_read (reading.init total b.chain room) (at_state names ts) (at_state after (t ∷ last)) i _ (init_read d stands.0 room at (ends_at_comma t last comma))
        (same (ap (λ us. reading.more_inits total (reading.init total b.chain room) (length (t ∷ us)) (i ∷ []) (at_state after (t ∷ us))) h
        ∙ stops (reading.init total b.chain room) (length (c ∷ rest)) (i ∷ []) (at_state after (t ∷ c ∷ rest)) (no_more_at_comma t c rest comma closes)
        ∙ ended_by_comma (i ∷ []) after t c rest comma closes))
    list_items_read (more_inits {names = names} {between = between} {after = after} {t = t} {ts = ts} {mid = mid} {rest = last} {i = i} {is = is} d comma ds) stands room at c rest h closes =
        first_read (reading.init total b.chain room) (at_state names ts) (at_state between (t ∷ mid)) i _ (init_read d stands.0 room at (ends_at_comma t mid comma))
        (same (goes_on (reading.init total b.chain room) (length mid) (i ∷ []) (at_state between (t ∷ mid)) (more_at_comma t mid comma (inits_begin ds)))
        ▸ others_read ds stands.2 room at c rest h closes (length mid) (i ∷ []) (inits_few ds c rest h))

    -- behind the comma that comes behind these
    others_read : {place : ℕ} {names after : Names} {ts last : List Token} {is : List Init} → (ds : AreInits total wide place names ts last after is)
        → inits_stand b ds → (room : ℕ) → place ≡ room + b.spare → (c : Token) (rest : List Token) → last ≡ c ∷ rest → IsMark mark.CloseBrace c
        → (count : ℕ) (front : List Init) → length is ≤ count
        → Meets total b.later (from_first (reading.init total b.chain room) count front (at_state names ts)) (Ok (front ++ is, at_state after rest))
    others_read (one_init d) stands room at c rest h closes zero front few = absurd (omega arith)
    others_read (last_init d comma) stands room at c rest h closes zero front few = absurd (omega arith)
    others_read (more_inits d comma ds) stands room at c rest h closes zero front few = absurd (omega arith)
    others_read (one_init {names = names} {after = after} {ts = ts} {rest = last} {i = i} d) stands room at c rest h closes (suc count) front few =
        read_then (reading.init total b.chain room) (suc count) front (at_state names ts) (at_state after last) i _ (init_read d stands room at (subst (λ us. EndsAssign us) (sym h) (ends_at_brace c rest closes)))
        (same (ap (λ us. reading.more_inits total (reading.init total b.chain room) (suc count) (front ++ i ∷ []) (at_state after us)) h
        ∙ stops (reading.init total b.chain room) count (front ++ i ∷ []) (at_state after (c ∷ rest)) (no_more_at_close c rest closes)
        ∙ ended (front ++ i ∷ []) after c rest closes))
    others_read (last_init {names = names} {after = after} {t = t} {ts = ts} {rest = last} {i = i} d comma) stands room at c rest h closes (suc count) front few =
        read_then (reading.init total b.chain room) (suc count) front (at_state names ts) (at_state after (t ∷ last)) i _ (init_read d stands.0 room at (ends_at_comma t last comma))
        (same (ap (λ us. reading.more_inits total (reading.init total b.chain room) (suc count) (front ++ i ∷ []) (at_state after (t ∷ us))) h
        ∙ stops (reading.init total b.chain room) count (front ++ i ∷ []) (at_state after (t ∷ c ∷ rest)) (no_more_at_comma t c rest comma closes)
        ∙ ended_by_comma (front ++ i ∷ []) after t c rest comma closes))
    others_read (more_inits {names = names} {between = between} {after = after} {t = t} {ts = ts} {mid = mid} {rest = last} {i = i} {is = is} d comma ds) stands room at c rest h closes (suc count) front few =
        read_then (reading.init total b.chain room) (suc count) front (at_state names ts) (at_state between (t ∷ mid)) i _ (init_read d stands.0 room at (ends_at_comma t mid comma))
        (same (goes_on (reading.init total b.chain room) count (front ++ i ∷ []) (at_state between (t ∷ mid)) (more_at_comma t mid comma (inits_begin ds)))
        ▸ others_read ds stands.2 room at c rest h closes count (front ++ i ∷ []) (omega (arith, few))
        ▸ same (ap (λ xs. Ok (xs, at_state after rest)) (append_assoc front (i ∷ []) is)))
