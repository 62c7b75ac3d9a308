-- Where a reader stops, the tokens before that place go on to what it reads: some tokens put in the place of those that are left
-- make the part whole, with any tail behind it, and the tokens before the place stand within the limits.
use Rattle.std.proofs.Common.{◌≡◌, ℕ, zero, suc, ◌≤◌, ◌⊎◌, inl, inr, Bool, true, false, cond, Ok, Err, List, [], ◌∷◌, length, refl, sym, ap, arith}
use Rattle.c_lex.specs.declared.token.Token.{Token}
use Rattle.c_lex.specs.declared.token.TokenKind.{TokenKind}
use Rattle.c_lex.specs.declared.token.TokenKind.TheVariants as kind
use Rattle.c_lex.specs.declared.token.NumberType.TheVariants as number_type
use Rattle.c_lex.specs.declared.token.Keyword.{Keyword}
use Rattle.c_lex.specs.declared.token.Keyword.TheVariants as keyword
use Rattle.c_lex.specs.declared.token.Mark.{Mark}
use Rattle.c_lex.specs.declared.token.Mark.TheVariants as mark
use Rattle.c_ast.specs.declared.expression.Expr.{Expr}
use Rattle.c_ast.specs.declared.words.TypeWord.TheVariants as type_word
use Rattle.c_ast.specs.declared.declaration.Specifier.{Specifier}
use Rattle.c_ast.specs.declared.declaration.Specs.{Specs}
use Rattle.c_ast.specs.declared.declaration.Declarator.{Declarator}
use Rattle.c_ast.specs.declared.declaration.Abstract.{Abstract}
use Rattle.c_ast.specs.declared.declaration.TypeName.{TypeName, roll-TypeName}
use Rattle.c_grammar.specs.declared.phrases.Extent.{Extent}
use Rattle.c_grammar.specs.declared.phrases.Extent.TheVariants as extent
use Rattle.c_grammar.specs.Names.{Names}
use Rattle.c_grammar.specs.Owns.{Own, Open}
use Rattle.c_grammar.specs.Words.{number_of}
use Rattle.c_grammar.specs.Grammar as g
use Rattle.c_grammar.specs.Grammar.{Part, Primary, Postfix, Unary, Level, Cond, Assign, Comma, IsExpr, AreSpecs, IsDeclarator, IsAbstract, StartsTypeInParens}
use Rattle.c_grammar.specs.Nesting.{expr_stands, specs_stand, declarator_stands, abstract_stands}
use Rattle.c_grammar.specs.Reading.{State, Fault, Unexpected, TooNested, Outcome, ◌>>=◌, sees_mark, sees_keyword, expect_mark, expect_keyword, expect_name}
use Rattle.c_grammar.specs.Inner.{Inner, part_of}
use Rattle.c_grammar.specs.ReadingDecl.{too_deep}
use Rattle.c_grammar.specs.Levels.{no_level}
use Rattle.c_grammar.proofs.Laws.{IsTypeInParens, in_parens_stands}
use Rattle.c_grammar.proofs.SpecsTypes.{one_word}
use Rattle.c_grammar.proofs.Late.{raised, raised_is}
use Rattle.c_grammar_laws.proofs.Deep.{Deeper, bounds, Swapped, at_tail, more_swapped, joined, Moved, ExprAt, SpecsAt, DeclaratorAt, AbstractAt}

abbrev pub fault_at : Fault → ℕ
fault_at (Unexpected token) = token
fault_at (TooNested token) = token

pub record Viable (At : ℕ → ℕ → List Token → List Token → Names → Type 0) (total : ℕ) (ts : List Token) (fault : Fault) (tail : List Token) : Type 0 where
  -- what is left where the reader stops
  pub from : List Token
  pub stops : fault_at fault ≡ number_of total from
  -- what stands there instead, the tail at its end
  pub put : List Token
  pub room_there : length tail ≤ length put
  -- all of it
  pub all : List Token
  pub swapped : Swapped from put ts all
  pub after : Names
  pub is : (total' later : ℕ) → length put ≤ later → At total' later all tail after

-- ---- steps

pub bind_err : {A B : Type 0} (o : Outcome A) (f : A → Outcome B) (e : Fault) → (o >>= f) ≡ Err e
    → (o ≡ Err e) ⊎ ((x : A) × (o ≡ Ok x) × (f x ≡ Err e))
bind_err (Err e') f e h = inl (let same : e' ≡ e = err_same h in ap (λ z. Err z) same)
  where
    err_same : {B : Type 0} {x y : Fault} → ◌≡◌ {A = Outcome B} (Err x) (Err y) → x ≡ y
    err_same h = cc
bind_err (Ok x) f e h = inr (x, refl, h)

-- a punctuator, a keyword or a name that doesn't come next is missed there
pub mark_missed : (total : ℕ) (m : Mark) (s : State) (e : Fault) → expect_mark total m s ≡ Err e → fault_at e ≡ number_of total s.rest
unfolding expect_mark
mark_missed total m s e h = missed (sees_mark m s.rest) h
  where
    missed : (b : Bool) → cond b (Ok (Rattle.c_grammar.specs.Reading.behind s)) (Err (Unexpected (number_of total s.rest))) ≡ Err e → fault_at e ≡ number_of total s.rest
    missed true h = absurd cc
    missed false h = let same : Unexpected (number_of total s.rest) ≡ e = cc in ap fault_at (sym same)

-- ---- parts of what is viable

-- another part made of it, with less of a tail
abbrev pub onto : {A B : ℕ → ℕ → List Token → List Token → Names → Type 0} {total : ℕ} {ts : List Token} {e : Fault} {long : List Token} (tail : List Token)
    (v : Viable A total ts e long) → length tail ≤ length long → (after : Names)
    → ((total' later : ℕ) → length v.put ≤ later → A total' later v.all long v.after → B total' later v.all tail after) → Viable B total ts e tail
onto tail v less after on = record {
  from = v.from;
  stops = v.stops;
  put = v.put;
  room_there = let x = v.room_there in omega (arith, less, x);
  all = v.all;
  swapped = v.swapped;
  after = after;
  is = λ total' later late. on total' later late (v.is total' later late);
}

-- behind a token
abbrev pub led : {A B : ℕ → ℕ → List Token → List Token → Names → Type 0} {total : ℕ} {ts : List Token} {e : Fault} {long : List Token} (t : Token) (tail : List Token)
    (v : Viable A total ts e long) → length tail ≤ length long → (after : Names)
    → ((total' later : ℕ) → length v.put ≤ later → A total' later v.all long v.after → B total' later (t ∷ v.all) tail after) → Viable B total (t ∷ ts) e tail
led t tail v less after on = record {
  from = v.from;
  stops = v.stops;
  put = v.put;
  room_there = let x = v.room_there in omega (arith, less, x);
  all = t ∷ v.all;
  swapped = more_swapped v.swapped;
  after = after;
  is = λ total' later late. on total' later late (v.is total' later late);
}

-- behind a part that was read
abbrev pub behind_part : {A B C : ℕ → ℕ → List Token → List Token → Names → Type 0} {total : ℕ} {ts mid : List Token} {between : Names} {e : Fault} {long : List Token}
    (tail : List Token) (v : Viable A total mid e long) (m : Moved C ts mid v.all between) → length tail ≤ length long → (after : Names)
    → ((total' later : ℕ) → length v.put ≤ later → C total' later m.all v.all between → A total' later v.all long v.after → B total' later m.all tail after)
    → Viable B total ts e tail
behind_part tail v m less after on = record {
  from = v.from;
  stops = v.stops;
  put = v.put;
  room_there = let x = v.room_there in omega (arith, less, x);
  all = m.all;
  swapped = joined m.swapped v.swapped;
  after = after;
  is = λ total' later late. on total' later late (m.is total' later) (v.is total' later late);
}

-- tokens that are put behind a part that was read
abbrev pub put_behind : {B C : ℕ → ℕ → List Token → List Token → Names → Type 0} {total : ℕ} {ts mid : List Token} {between : Names} {e : Fault} (put tail : List Token)
    → fault_at e ≡ number_of total mid → (m : Moved C ts mid put between) → length tail ≤ length put → (after : Names)
    → ((total' later : ℕ) → length put ≤ later → C total' later m.all put between → B total' later m.all tail after) → Viable B total ts e tail
put_behind {mid = mid} put tail stops m less after on = record {
  from = mid;
  stops = stops;
  put = put;
  room_there = less;
  all = m.all;
  swapped = m.swapped;
  after = after;
  is = λ total' later late. on total' later late (m.is total' later);
}

-- tokens that are put in at once
abbrev pub put_here : {B : ℕ → ℕ → List Token → List Token → Names → Type 0} {total : ℕ} {ts : List Token} {e : Fault} (put tail : List Token)
    → fault_at e ≡ number_of total ts → length tail ≤ length put → (after : Names) → ((total' later : ℕ) → length put ≤ later → B total' later put tail after)
    → Viable B total ts e tail
put_here {ts = ts} put tail stops less after is =
    record { from = ts; stops = stops; put = put; room_there = less; all = put; swapped = at_tail; after = after; is = is }

-- ---- what is put in a place

abbrev pub made : TokenKind → Token
made k = record { kind = k; line = 0; value = 0; text = []; headers = record { mpi = false; stdio = false; stdlib = false; strings = false } }

abbrev pub mark_token : Mark → Token
mark_token m = made (kind.Mark m)

abbrev pub word_token : Keyword → Token
word_token k = made (kind.Keyword k)

abbrev pub number_token : Token
number_token = made (kind.Number number_type.Int)

abbrev pub name_token : Token
name_token = made kind.Name

-- there is always so much room
pub raised_big : (spare room : ℕ) → spare ≤ raised spare room
raised_big spare room = let x = raised_is spare room in omega (arith, x)

-- `0`, as each part of an expression
abbrev pub ZeroExpr : Deeper → ℕ → ℕ → Part → ℕ → Type 0
ZeroExpr to total later p room =
    (names : Names) (tail : List Token) → length (number_token ∷ tail) ≤ later
    → (tree : Expr) × (d : IsExpr total to.wide p room names (number_token ∷ tail) tail names tree) × expr_stands (bounds to later) d

module _ (to : Deeper) (total later : ℕ) where
  pub zero_primary : (room : ℕ) → 1 ≤ room → ZeroExpr to total later Primary room
  zero_primary zero some names tail late = absurd (omega (arith, some))
  zero_primary (suc room) some names tail late = (_, g.number number_type.Int refl, λ h. late)

  pub zero_postfix : (room : ℕ) → 1 ≤ room → ZeroExpr to total later Postfix room
  zero_postfix room some names tail late = let x = zero_primary room some names tail late in (_, g.postfix x.1 g.no_postfix (omega arith), (x.2, tt))

  pub zero_unary : (room : ℕ) → 1 ≤ room → ZeroExpr to total later Unary room
  zero_unary room some names tail late = let x = zero_postfix room some names tail late in (_, g.operand x.1, x.2)

  pub zero_level : (level room : ℕ) → 1 ≤ room → ZeroExpr to total later (Level level) room
  zero_level zero room some names tail late = let x = zero_unary room some names tail late in (_, g.lowest x.1, x.2)
  zero_level (suc level) room some names tail late =
      let x = zero_level level room some names tail late in (_, g.chained x.1 g.no_links (omega arith), (x.2, tt))

  pub zero_cond : (room : ℕ) → 1 ≤ room → ZeroExpr to total later Cond room
  zero_cond room some names tail late = let x = zero_level 10 room some names tail late in (_, g.binary x.1, x.2)

  pub zero_assign : (room : ℕ) → 1 ≤ room → ZeroExpr to total later Assign room
  zero_assign room some names tail late = let x = zero_cond room some names tail late in (_, g.value x.1, x.2)

  pub zero_comma : (room : ℕ) → 1 ≤ room → ZeroExpr to total later Comma room
  zero_comma room some names tail late = let x = zero_assign room some names tail late in (_, g.comma x.1 g.no_others (omega arith), (x.2, tt))

  pub zero_expr : (x : Extent) (room : ℕ) → 1 ≤ room → ZeroExpr to total later (part_of x) room
  zero_expr extent.Unary room some = zero_unary room some
  zero_expr extent.Cond room some = zero_cond room some
  zero_expr extent.Assign room some = zero_assign room some
  zero_expr extent.Comma room some = zero_comma room some

  -- `int`
  pub int_specs : (room : ℕ) → 1 ≤ room → (names : Names) (tail : List Token) → length (word_token keyword.Int ∷ tail) ≤ later
      → (tree : Specs Specifier) × (d : AreSpecs total to.wide room names (word_token keyword.Int ∷ tail) tail names false tree) × specs_stand (bounds to later) d
  int_specs zero some names tail late = absurd (omega (arith, some))
  int_specs (suc room) some names tail late = (_, g.specs (g.word type_word.Int refl refl g.no_specifiers) (one_word type_word.Int), (λ h. late, tt))

  -- a name that is declared
  pub name_declarator : (room : ℕ) → 1 ≤ room → (names : Names) (tail : List Token) → length (name_token ∷ tail) ≤ later
      → (tree : Declarator) × (d : IsDeclarator total to.wide room names (name_token ∷ tail) tail names [] Open tree) × declarator_stands (bounds to later) d
  name_declarator zero some names tail late = absurd (omega (arith, some))
  name_declarator (suc room) some names tail late = (_, g.declarator g.no_pointers (g.direct_name refl) g.no_suffixes, (tt, λ h. late, tt))

  -- no declarator at all
  pub nothing_abstract : (room : ℕ) (names : Names) (tail : List Token)
      → (tree : Abstract Expr) × (d : IsAbstract total to.wide room names tail tail names tree) × abstract_stands (bounds to later) d
  nothing_abstract room names tail = (_, g.arrays g.no_sizes, tt)

-- `( int )`
pub int_in_parens : (to : Deeper) (total later room : ℕ) → 4 ≤ room → (names : Names) (tail : List Token)
    → length (mark_token mark.OpenParen ∷ word_token keyword.Int ∷ mark_token mark.CloseParen ∷ tail) ≤ later
    → (tree : TypeName) × (d : IsTypeInParens total to.wide room names (mark_token mark.OpenParen ∷ word_token keyword.Int ∷ mark_token mark.CloseParen ∷ tail) tail names tree)
    × in_parens_stands (bounds to later) d
int_in_parens to total later zero more names tail late = absurd (omega (arith, more))
int_in_parens to total later (suc room) more names tail late =
    let close : List Token = mark_token mark.CloseParen ∷ tail in
    let less : length (word_token keyword.Int ∷ close) ≤ later = omega (arith, late) in
    let less' : length close ≤ later = omega (arith, late) in
    let x = int_specs to total later room (omega (arith, more)) names close less in
    let y = nothing_abstract to total later room names close in (
      roll-TypeName (record { specs = x.0; declarator = y.0 }),
      record {
        inner = room;
        open_token = mark_token mark.OpenParen;
        start = word_token keyword.Int ∷ close;
        close_token = mark_token mark.CloseParen;
        room_is = refl;
        ts_are = refl;
        opens = refl;
        named = g.type_named x.1 y.1;
        closes = refl;
      },
      (λ h. late, (x.2, y.2), λ h. less'),
    )

-- ---- what is viable at a level

abbrev pub InParensAt : Deeper → ℕ → Names → ℕ → ℕ → List Token → List Token → Names → Type 0
InParensAt to room names total later ts rest after =
    (tree : TypeName) × (d : IsTypeInParens total to.wide (raised to.spare room) names ts rest after tree) × in_parens_stands (bounds to later) d

-- An expression; where no type in parentheses stood there before, none does now.
pub record ViableExpr (to : Deeper) (total : ℕ) (p : Part) (room : ℕ) (names : Names) (ts : List Token) (fault : Fault) (tail : List Token) : Type 0 where
  pub whole : Viable (ExprAt to p room names) total ts fault tail
  pub no_type : (StartsTypeInParens names ts → ⊥) → StartsTypeInParens names whole.all → ⊥

pub record ViableSpecs (to : Deeper) (total room : ℕ) (names : Names) (ts : List Token) (fault : Fault) (tail : List Token) : Type 0 where
  pub flag : Bool
  pub whole : Viable (SpecsAt to room names flag) total ts fault tail

pub record ViableDeclarator (to : Deeper) (total room : ℕ) (names : Names) (ts : List Token) (fault : Fault) (tail : List Token) : Type 0 where
  pub bytes : List ℕ
  pub own : Own
  pub whole : Viable (DeclaratorAt to room names bytes own) total ts fault tail

-- All that a reader doesn't read, at a place with so much room, is viable.
pub record Viables (to : Deeper) (total room : ℕ) (inner : Inner) : Type 0 where
  pub expr : (x : Extent) (s : State) (e : Fault) → inner.expr x s ≡ Err e → (tail : List Token)
      → ViableExpr to total (part_of x) room s.names s.rest e tail
  pub specs : (s : State) (e : Fault) → inner.specs s ≡ Err e → (tail : List Token) → ViableSpecs to total room s.names s.rest e tail
  pub declarator : (s : State) (e : Fault) → inner.declarator s ≡ Err e → (tail : List Token) → ViableDeclarator to total room s.names s.rest e tail
  pub unnamed : (s : State) (e : Fault) → inner.unnamed s ≡ Err e → (tail : List Token)
      → Viable (AbstractAt to room s.names) total s.rest e tail
  pub param : (s : State) (e : Fault) → inner.param s ≡ Err e → (tail : List Token)
      → ViableDeclarator to total room s.names s.rest e tail ⊎ Viable (AbstractAt to room s.names) total s.rest e tail
  pub type_in_parens : (s : State) (e : Fault) → inner.type_in_parens s ≡ Err e → (tail : List Token)
      → Viable (InParensAt to room s.names) total s.rest e tail

-- ---- where there is no room

pub err_is : {A : Type 0} {x y : Fault} → ◌≡◌ {A = Outcome A} (Err x) (Err y) → x ≡ y
err_is h = cc

pub deep_at : (total : ℕ) (s : State) (e : Fault) → too_deep total s ≡ e → fault_at e ≡ number_of total s.rest
unfolding too_deep
deep_at total s e h = ap fault_at (sym h)

pub number_no_type : (names : Names) (tail : List Token) → StartsTypeInParens names (number_token ∷ tail) → ⊥
number_no_type names [] h = h
number_no_type names (t ∷ ts) h = absurd (let e = h.0 in cc)

pub no_level_viable : (to : Deeper) (total : ℕ) → Viables to total 0 (no_level total)
no_level_viable to total =
    let more : 4 ≤ to.spare = to.deeper in
    let some : 1 ≤ to.spare = omega (arith, more) in
    record {
      expr = λ x s e h tail.
          record {
            whole = put_here (number_token ∷ tail) tail (deep_at total s e (err_is h)) (omega arith) s.names
                (λ total' later late. zero_expr to total' later x to.spare some s.names tail late);
            no_type = λ was. number_no_type s.names tail;
          };
      specs = λ s e h tail.
          record {
            flag = false;
            whole = put_here (word_token keyword.Int ∷ tail) tail (deep_at total s e (err_is h)) (omega arith) s.names
                (λ total' later late. int_specs to total' later to.spare some s.names tail late);
          };
      declarator = λ s e h tail.
          record {
            bytes = [];
            own = Open;
            whole = put_here (name_token ∷ tail) tail (deep_at total s e (err_is h)) (omega arith) s.names
                (λ total' later late. name_declarator to total' later to.spare some s.names tail late);
          };
      unnamed = λ s e h tail. absurd cc;
      param = λ s e h tail. absurd cc;
      type_in_parens = λ s e h tail. put_here (mark_token mark.OpenParen ∷ word_token keyword.Int ∷ mark_token mark.CloseParen ∷ tail)
          tail (deep_at total s e (err_is h)) (omega arith) s.names (λ total' later late. int_in_parens to total' later to.spare more s.names tail late);
    }
