-- Each declarator with its initialiser is read, where nothing behind it goes on with it, or a late token stands too deep.
use Rattle.std.proofs.Common.{◌≡◌, ℕ, ◌+◌, Bool, false, cond, Some, None, Ok, List, ◌∷◌, ap}
use Rattle.c_lex.specs.declared.token.Token.{Token}
use Rattle.c_lex.specs.declared.token.Mark.TheVariants as mark
use Rattle.c_ast.specs.declared.declaration.Init.{Init}
use Rattle.c_ast.specs.declared.declaration.InitDeclarator.{InitDeclarator}
use Rattle.c_grammar.specs.declared.phrases.ReadDeclarator.{ReadDeclarator}
use Rattle.c_grammar.specs.Names.{Names, declared}
use Rattle.c_grammar.specs.Words.{IsMark}
use Rattle.c_grammar.specs.Grammar.{IsInit, IsInitDeclarator, plain, initialised}
use Rattle.c_grammar.specs.Nesting.{Bounds, init_stands, init_declarator_stands}
use Rattle.c_grammar.specs.Reading.{State, ◌>>=◌, is_mark, sees_mark, behind}
use Rattle.c_grammar.specs.Levels.{readers}
use Rattle.c_grammar.specs.ReadingStmt.{declaring}
use Rattle.c_grammar.specs.ReadingStmt as reading
use Rattle.c_grammar.proofs.Late.{Meets, same, on, ◌▸◌}
use Rattle.c_grammar.proofs.Laws.{Complete, EndsAssign, EndsDeclarator, at_state}
use Rattle.c_grammar_laws.proofs.ExprComplete.{sees_it}
use Rattle.c_grammar_laws.proofs.StmtInitComplete.{init_read}

-- a declarator ends here, with an initialiser or without
pub record EndsInit (rest : List Token) : Type 0 where
  pub value : EndsAssign rest
  pub declarator : EndsDeclarator rest
  pub no_init : sees_mark mark.Assign rest ≡ false

pub ends_at_assign : (t : Token) (ts : List Token) → IsMark mark.Assign t → EndsDeclarator (t ∷ ts)
ends_at_assign t ts h = record { no_array = ap (is_mark mark.OpenBracket) h; no_function = ap (is_mark mark.OpenParen) h }

module _ (total wide : ℕ) (b : Bounds) (complete : (room place : ℕ) → place ≡ room + b.spare → Complete total wide b place (readers total b.chain room)) where
  plain_then : (room : ℕ) (is_typedef : Bool) (after : Names) (rest : List Token) (d : ReadDeclarator) → EndsInit rest
      → reading.initialised total b.chain room is_typedef d (at_state after rest)
      ≡ Ok (record { declarator = d.tree; init = None }, at_state (declared after d.name is_typedef) rest)
  unfolding reading.initialised
  plain_then room is_typedef after rest d ends =
      ap (λ c. cond c (reading.init total b.chain room (behind (declaring d.name is_typedef (at_state after rest))) >>= λ x. Ok (record { declarator = d.tree; init = Some x.0 }, x.1))
      (Ok (record { declarator = d.tree; init = None }, at_state (declared after d.name is_typedef) rest))) ends.no_init

  with_init_then : (room place : ℕ) → place ≡ room + b.spare → (is_typedef : Bool) (between after : Names) (t : Token) (mid rest : List Token)
      → (d : ReadDeclarator) (i : Init) → IsMark mark.Assign t
      → (value : IsInit total wide place (declared between d.name is_typedef) mid rest after i) → init_stands b value → EndsInit rest
      → Meets total b.later (reading.initialised total b.chain room is_typedef d (at_state between (t ∷ mid)))
      (Ok (record { declarator = d.tree; init = Some i }, at_state after rest))
  unfolding reading.initialised
  with_init_then room place at is_typedef between after t mid rest d i assigns value stands ends =
      same (ap (λ c. cond c (reading.init total b.chain room (at_state (declared between d.name is_typedef) mid) >>= λ x. Ok (record { declarator = d.tree; init = Some x.0 }, x.1))
      (Ok (record { declarator = d.tree; init = None }, at_state (declared between d.name is_typedef) (t ∷ mid)))) (sees_it mark.Assign t assigns))
      ▸ on (λ x. Ok (record { declarator = d.tree; init = Some x.0 }, x.1)) (init_read total wide b complete value stands room at ends.value)

  -- a declarator is read, and then what comes behind it
  pub record FirstRead (room : ℕ) (is_typedef : Bool) (s : State) (d : InitDeclarator) (s' : State) : Type 0 where
    pub first : ReadDeclarator
    pub between : State
    pub read : Meets total b.later ((readers total b.chain room).declarator s) (Ok (first, between))
    pub then : Meets total b.later (reading.initialised total b.chain room is_typedef first between) (Ok (d, s'))
    pub no_brace : sees_mark mark.OpenBrace s'.rest ≡ false → sees_mark mark.OpenBrace between.rest ≡ false

  pub first_of : {is_typedef : Bool} {place : ℕ} {names after : Names} {ts rest : List Token} {d : InitDeclarator}
      → (is : IsInitDeclarator total wide is_typedef place names ts rest after d) → init_declarator_stands b is → (room : ℕ) → place ≡ room + b.spare
      → EndsInit rest → FirstRead room is_typedef (at_state names ts) d (at_state after rest)
  first_of {is_typedef = is_typedef} (plain {room = place} {names = names} {after = after} {ts = ts} {rest = rest} {bytes = bytes} {own = own} {d = d} is) stands room at ends =
      let first : ReadDeclarator = record { tree = d; name = bytes; own = own } in
      record {
        first = first;
        between = at_state after rest;
        read = (complete room place at).declarator names after ts rest first is stands ends.declarator;
        then = same (plain_then room is_typedef after rest first ends);
        no_brace = λ h. h;
      }
  first_of {is_typedef = is_typedef} (initialised {room = place} {names = names} {between = between} {after = after} {t = t} {ts = ts} {mid = mid} {rest = rest} {bytes = bytes} {own = own} {d = d} {i = i} is assigns value) stands room at ends =
      let first : ReadDeclarator = record { tree = d; name = bytes; own = own } in
      record {
        first = first;
        between = at_state between (t ∷ mid);
        read = (complete room place at).declarator names between ts (t ∷ mid) first is stands.0 (ends_at_assign t mid assigns);
        then = with_init_then room place at is_typedef between after t mid rest first i assigns value stands.2 ends;
        no_brace = λ h. ap (is_mark mark.OpenBrace) assigns;
      }

  first_then : (room : ℕ) (is_typedef : Bool) (s s' : State) (d : InitDeclarator) → FirstRead room is_typedef s d s'
      → Meets total b.later (reading.init_declarator total b.chain room is_typedef s) (Ok (d, s'))
  unfolding reading.init_declarator
  first_then room is_typedef s s' d f = on (λ x. reading.initialised total b.chain room is_typedef x.0 x.1) f.read ▸ f.then

  pub init_declarator_read : {is_typedef : Bool} {place : ℕ} {names after : Names} {ts rest : List Token} {d : InitDeclarator}
      → (is : IsInitDeclarator total wide is_typedef place names ts rest after d) → init_declarator_stands b is → (room : ℕ) → place ≡ room + b.spare
      → EndsInit rest → Meets total b.later (reading.init_declarator total b.chain room is_typedef (at_state names ts)) (Ok (d, at_state after rest))
  init_declarator_read {is_typedef = is_typedef} {names = names} {after = after} {ts = ts} {rest = rest} {d = d} is stands room at ends =
      first_then room is_typedef (at_state names ts) (at_state after rest) d (first_of is stands room at ends)
