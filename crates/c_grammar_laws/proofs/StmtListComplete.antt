-- Declarators with commas between them, and the semicolon, are read, or a late token stands too deep.
use Rattle.std.proofs.Common.{◌≡◌, ℕ, zero, suc, ◌+◌, ◌≤◌, ◌++◌, Bool, cond, Ok, List, [], ◌∷◌, length, refl, sym, ap, ◌∙◌, subst, append_assoc, arith}
use Rattle.c_lex.specs.declared.token.Token.{Token}
use Rattle.c_lex.specs.declared.token.Mark.TheVariants as mark
use Rattle.c_ast.specs.declared.declaration.InitDeclarator.{InitDeclarator}
use Rattle.c_grammar.specs.Names.{Names}
use Rattle.c_grammar.specs.Words.{IsMark}
use Rattle.c_grammar.specs.Grammar.{AreInitDeclarators, one, more}
use Rattle.c_grammar.specs.Nesting.{Bounds, init_declarators_stand}
use Rattle.c_grammar.specs.Reading.{State, Outcome, Reader, ◌>>=◌, is_mark, expect_mark}
use Rattle.c_grammar.specs.Levels.{readers}
use Rattle.c_grammar.specs.ReadingStmt as reading
use Rattle.c_grammar.proofs.Late.{Meets, same, on, ◌▸◌}
use Rattle.c_grammar.proofs.Laws.{Complete, at_state}
use Rattle.c_grammar_laws.proofs.ExprComplete.{sees_it, expect_there, ends_comma, ends_at_comma}
use Rattle.c_grammar_laws.proofs.StmtExtends.{init_declarator_extends}
use Rattle.c_grammar_laws.proofs.StmtDeclComplete.{EndsInit, init_declarator_read}

pub semicolon_ends : (t : Token) (ts : List Token) → IsMark mark.Semicolon t → EndsInit (t ∷ ts)
semicolon_ends t ts h = record {
  value = (ends_comma mark.Semicolon t ts h refl refl refl refl refl).assign;
  declarator = record { no_array = ap (is_mark mark.OpenBracket) h; no_function = ap (is_mark mark.OpenParen) h };
  no_init = ap (is_mark mark.Assign) h;
}

pub comma_ends : (t : Token) (ts : List Token) → IsMark mark.Comma t → EndsInit (t ∷ ts)
comma_ends t ts h = record {
  value = ends_at_comma t ts h;
  declarator = record { no_array = ap (is_mark mark.OpenBracket) h; no_function = ap (is_mark mark.OpenParen) h };
  no_init = ap (is_mark mark.Assign) h;
}

-- there are no more declarators than tokens
pub declared_few : {total most : ℕ} {is_typedef : Bool} {room : ℕ} {names after : Names} {ts last : List Token} {ds : List InitDeclarator}
    → AreInitDeclarators total most is_typedef room names ts last after ds → (c : Token) (rest : List Token) → last ≡ c ∷ rest → length ds ≤ length ts
declared_few (one d) c rest h = let e = init_declarator_extends d in let l : length _ ≡ suc (length rest) = ap length h in omega (arith, e.shrinks, l)
declared_few (more d is ds) c rest h = let e = init_declarator_extends d in let f = declared_few ds c rest h in omega (arith, e.shrinks, f)

module _ (total wide : ℕ) (b : Bounds) (complete : (room place : ℕ) → place ≡ room + b.spare → Complete total wide b place (readers total b.chain room)) where
  -- a declarator, and those behind it
  abbrev pub from_first : ℕ → Bool → ℕ → List InitDeclarator → Reader (List InitDeclarator)
  from_first room is_typedef count front s =
      reading.init_declarator total b.chain room is_typedef s >>= λ x. reading.more_declared total b.chain room is_typedef count (front ++ x.0 ∷ []) x.1

  pub ended : (room : ℕ) (is_typedef : Bool) (count : ℕ) (front : List InitDeclarator) (names : Names) (c : Token) (rest : List Token) → IsMark mark.Semicolon c
      → reading.more_declared total b.chain room is_typedef (suc count) front (at_state names (c ∷ rest)) ≡ Ok (front, at_state names rest)
  unfolding reading.more_declared
  ended room is_typedef count front names c rest is =
      ap (λ z. cond z (from_first room is_typedef count front (at_state names rest)) (expect_mark total mark.Semicolon (at_state names (c ∷ rest)) >>= λ s'. Ok (front, s')))
      (ap (is_mark mark.Comma) is)
      ∙ ap (λ o. o >>= λ s'. Ok (front, s')) (expect_there total mark.Semicolon names c rest is)

  pub goes_on : (room : ℕ) (is_typedef : Bool) (count : ℕ) (front : List InitDeclarator) (names : Names) (t : Token) (ts : List Token) → IsMark mark.Comma t
      → reading.more_declared total b.chain room is_typedef (suc count) front (at_state names (t ∷ ts)) ≡ from_first room is_typedef count front (at_state names ts)
  unfolding reading.more_declared
  goes_on room is_typedef count front names t ts is =
      ap (λ z. cond z (from_first room is_typedef count front (at_state names ts)) (expect_mark total mark.Semicolon (at_state names (t ∷ ts)) >>= λ s'. Ok (front, s')))
      (sees_it mark.Comma t is)

  read_then : (room : ℕ) (is_typedef : Bool) (count : ℕ) (front : List InitDeclarator) (s s' : State) (d : InitDeclarator) (o : Outcome (List InitDeclarator × State))
      → Meets total b.later (reading.init_declarator total b.chain room is_typedef s) (Ok (d, s'))
      → Meets total b.later (reading.more_declared total b.chain room is_typedef count (front ++ d ∷ []) s') o
      → Meets total b.later (from_first room is_typedef count front s) o
  read_then room is_typedef count front s s' d o h k = on (λ x. reading.more_declared total b.chain room is_typedef count (front ++ x.0 ∷ []) x.1) h ▸ k

  pub declarators_read : {is_typedef : Bool} {place : ℕ} {names after : Names} {ts last : List Token} {ds : List InitDeclarator}
      → (are : AreInitDeclarators total wide is_typedef place names ts last after ds) → init_declarators_stand b are → (room : ℕ) → place ≡ room + b.spare
      → (c : Token) (rest : List Token) → last ≡ c ∷ rest → IsMark mark.Semicolon c → (count : ℕ) (front : List InitDeclarator) → length ds ≤ count
      → Meets total b.later (from_first room is_typedef count front (at_state names ts)) (Ok (front ++ ds, at_state after rest))
  declarators_read (one d) stands room at c rest h ends zero front few = absurd (omega arith)
  declarators_read (more d comma ds) stands room at c rest h ends zero front few = absurd (omega arith)
  declarators_read {is_typedef = is_typedef} (one {names = names} {after = after} {ts = ts} {rest = last} {d = d} is) stands room at c rest h ends (suc count) front few =
      read_then room is_typedef (suc count) front (at_state names ts) (at_state after last) d _
      (init_declarator_read total wide b complete is stands room at (subst (λ us. EndsInit us) (sym h) (semicolon_ends c rest ends)))
      (same (ap (λ us. reading.more_declared total b.chain room is_typedef (suc count) (front ++ d ∷ []) (at_state after us)) h
      ∙ ended room is_typedef count (front ++ d ∷ []) after c rest ends))
  declarators_read {is_typedef = is_typedef} (more {names = names} {between = between} {after = after} {t = t} {ts = ts} {mid = mid} {rest = last} {d = d} {ds = ds} is comma others) stands room at c rest h ends (suc count) front few =
      read_then room is_typedef (suc count) front (at_state names ts) (at_state between (t ∷ mid)) d _
      (init_declarator_read total wide b complete is stands.0 room at (comma_ends t mid comma))
      (same (goes_on room is_typedef count (front ++ d ∷ []) between t mid comma)
      ▸ declarators_read others stands.2 room at c rest h ends count (front ++ d ∷ []) (omega (arith, few))
      ▸ same (ap (λ xs. Ok (xs, at_state after rest)) (append_assoc front (d ∷ []) ds)))
