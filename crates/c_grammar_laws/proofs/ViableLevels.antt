-- Where an expression with prefix operators, or with operators between operands, isn't read, it is viable.
use Rattle.std.proofs.Common.{◌≡◌, ℕ, zero, suc, ◌+◌, ◌<◌, ◌≤◌, ◌++◌, inl, inr, Bool, true, if◌then◌else◌, Some, Ok, Err, List, [], ◌∷◌, length, refl, sym, ap, subst, ◌∙◌, arith}
use Rattle.c_lex.specs.declared.token.Token.{Token}
use Rattle.c_lex.specs.declared.token.TokenKind.TheVariants as kind
use Rattle.c_lex.specs.declared.token.Keyword.TheVariants as keyword
use Rattle.c_lex.specs.declared.token.Mark.TheVariants as mark
use Rattle.c_ast.specs.declared.words.PrefixOp.{PrefixOp}
use Rattle.c_ast.specs.declared.expression.Expr.{Expr}
use Rattle.c_ast.specs.declared.expression.Link.{Link}
use Rattle.c_ast.specs.declared.declaration.TypeName.{TypeName, roll-TypeName}
use Rattle.c_ast.specs.declared.declaration.Specifier.{Specifier}
use Rattle.c_ast.specs.declared.declaration.Specs.{Specs}
use Rattle.c_ast.specs.declared.declaration.Abstract.{Abstract}
use Rattle.c_ast.specs.declared.expression.Expr.TheVariants as expr
use Rattle.c_grammar.specs.declared.phrases.Extent.{Extent}
use Rattle.c_grammar.specs.declared.phrases.Extent.TheVariants as extent
use Rattle.c_grammar.specs.Names.{Names}
use Rattle.c_grammar.specs.Words.{IsMark, IsKeyword, number_of, prefix_of}
use Rattle.c_grammar.specs.Grammar as g
use Rattle.c_grammar.specs.Grammar.{Part, Primary, Postfix, Unary, Level, Cond, Assign, Comma, IsExpr, AreLinks, AreOthers, ArePostfix, AreArguments, IsTypeNamed, AreSpecs, IsAbstract, StartsTypeInParens, postfixed, linked, listed}
use Rattle.c_grammar.specs.Nesting.{Stands, expr_stands, links_stand, others_stand}
use Rattle.c_grammar.specs.Reading.{State, Fault, Unexpected, TooNested, Outcome, Reader, ◌>>=◌, is_mark, is_keyword, sees_mark, sees_keyword, behind, expect_mark, expect_name}
use Rattle.c_grammar.specs.Inner.{Inner, part_of}
use Rattle.c_grammar.specs.ReadingExpr.{front_expr, choose, or_else, sees_type_in_parens}
use Rattle.c_grammar.specs.ReadingExpr as reading
use Rattle.c_grammar.proofs.Late.{raised}
use Rattle.c_grammar.proofs.Laws.{Sound, at_state, IsTypeInParens, in_parens_stands}
use Rattle.c_grammar_laws.proofs.ExprSound.{unary_sound, level_from_sound, assign_sound, prefix_at_is, assign_at_is, operator_in_is, type_sound}
use Rattle.c_grammar_laws.proofs.ExprFound.{found, bind_ok, choose_is, cond_is, sees_mark_is, sees_keyword_is, expect_mark_is}
use Rattle.c_grammar_laws.proofs.ExprStarts.{starts_no_type, in_parens_is}
use Rattle.c_grammar_laws.proofs.Deep.{Deeper, bounds, Swapped, at_tail, more_swapped, joined, Moved, deep, none_left, early, ExprAt}
use Rattle.c_grammar_laws.proofs.Moves.{moved_expr, moved_type, no_type_moves, opens_there, expr_room}
use Rattle.c_grammar.specs.Nesting.{type_stands, specs_stand, abstract_stands}
use Rattle.c_grammar.specs.Reading.{tail}
use Rattle.c_grammar_laws.proofs.Deep.{TypeAt}
use Rattle.c_grammar_laws.proofs.Moves.{moved_specs}
use Rattle.c_grammar_laws.proofs.ViableExpr.{as_level, as_cond, as_assign, postfix_viable, no_paren_word}
use Rattle.c_grammar_laws.proofs.Viable.{zero_cond, nothing_abstract, int_in_parens, Viable, ViableExpr, Viables, InParensAt, fault_at, bind_err, err_is, mark_missed, onto, led, behind_part, put_behind, put_here, made, mark_token, number_token, word_token, zero_unary, raised_big}

-- ---- type names in parentheses

-- `sizeof` and a type name
sizeof_made : (to : Deeper) (total later place : ℕ) (names after : Names) (t : Token) (us rest : List Token) (n : TypeName) → IsKeyword keyword.Sizeof t
    → (d : IsTypeInParens total to.wide place names us rest after n) → in_parens_stands (bounds to later) d → Stands (bounds to later) (suc place) (t ∷ us)
    → (tree : Expr) × (e : IsExpr total to.wide Unary (suc place) names (t ∷ us) rest after tree) × expr_stands (bounds to later) e
sizeof_made to total later place names after t us rest n is d stand first =
    moved_there place us d.room_is d.ts_are first
  where
    moved_there : (place : ℕ) (us : List Token) → place ≡ suc d.inner → us ≡ d.open_token ∷ d.start → Stands (bounds to later) (suc place) (t ∷ us)
        → (tree : Expr) × (e : IsExpr total to.wide Unary (suc place) names (t ∷ us) rest after tree) × expr_stands (bounds to later) e
    moved_there place us room_is ts_are first =
        subst (λ vs. Stands (bounds to later) (suc place) (t ∷ vs) → (tree : Expr) × (e : IsExpr total to.wide Unary (suc place) names (t ∷ vs) rest after tree) × expr_stands (bounds to later) e)
        (sym ts_are)
        (subst (λ k. Stands (bounds to later) (suc k) (t ∷ d.open_token ∷ d.start)
        → (tree : Expr) × (e : IsExpr total to.wide Unary (suc k) names (t ∷ d.open_token ∷ d.start) rest after tree) × expr_stands (bounds to later) e)
        (sym room_is) (λ first. (_, g.sizeof_type is d.opens d.named d.closes, (first, stand.0, stand.1, stand.2)))) first

-- a type name in parentheses, and an operand
cast_made : (to : Deeper) (total later place : ℕ) (names between after : Names) (us mid rest : List Token) (n : TypeName) (a : Expr)
    → (d : IsTypeInParens total to.wide (suc place) names us mid between n) → in_parens_stands (bounds to later) d
    → (e : IsExpr total to.wide Unary place between mid rest after a) → expr_stands (bounds to later) e
    → (tree : Expr) × (e : IsExpr total to.wide Unary (suc place) names us rest after tree) × expr_stands (bounds to later) e
cast_made to total later place names between after us mid rest n a d stand e stand' =
    let same : place ≡ d.inner = let x = d.room_is in omega (arith, x) in
    let Made : ℕ → List Token → Type 0 =
    λ k vs. (tree : Expr) × (e : IsExpr total to.wide Unary (suc k) names vs rest after tree) × expr_stands (bounds to later) e in
    subst (λ vs. Made place vs) (sym d.ts_are)
    (subst (λ k. (e : IsExpr total to.wide Unary k between mid rest after a) → expr_stands (bounds to later) e → Made k (d.open_token ∷ d.start)) (sym same)
    (λ e stand'. (_, g.cast d.opens d.named d.closes e, (stand.0, stand.1, stand.2, stand'))) e stand')

-- what was read stands there with another tail too
moved_in_parens : (to : Deeper) (total room : ℕ) {names after : Names} {ts rest : List Token} {n : TypeName} → IsTypeInParens total to.chain (suc room) names ts rest after n
    → (rest' : List Token) → Moved (InParensAt to (suc room) names) ts rest rest' after
moved_in_parens to total room {names = names} {after = after} {ts = ts} {rest = rest} {n = n} d rest' =
    let same : d.inner ≡ room = let x = d.room_is in omega (arith, x) in
    let named : IsTypeNamed total to.chain room names d.start (d.close_token ∷ rest) after n =
    subst (λ r. IsTypeNamed total to.chain r names d.start (d.close_token ∷ rest) after n) same d.named in
    let m = moved_type to named (d.close_token ∷ rest') in
    record {
      all = d.open_token ∷ m.all;
      swapped = subst (λ us. Swapped rest rest' us (d.open_token ∷ m.all)) (sym d.ts_are) (more_swapped (joined m.swapped (more_swapped at_tail)));
      is = λ total' later.
          let x = m.is total' later in (
            x.0,
            record {
              inner = raised to.spare room;
              open_token = d.open_token;
              start = m.all;
              close_token = d.close_token;
              room_is = refl;
              ts_are = refl;
              opens = d.opens;
              named = x.1;
              closes = d.closes;
            },
            (deep room to.spare, x.2, deep room to.spare),
          );
    }

-- an operand, and operators behind it
abbrev ThenLinksIn : Deeper → ℕ → ℕ → Names → ℕ → ℕ → ℕ → ℕ → List Token → List Token → Names → Type 0
ThenLinksIn to room level names before count total later ts rest after =
    (between : Names) × (mid : List Token) × (a : Expr) × (tree : List (Link Expr)) × (d : IsExpr total to.wide (Level level) (raised to.spare (suc room)) names ts mid between a)
    × (ds : AreLinks total to.wide level (raised to.spare (suc room)) between mid rest after tree) × (length tree ≤ count) × expr_stands (bounds to later) d
    × links_stand (bounds to later) (suc before) ds

module _ (to : Deeper) (total room : ℕ) (inner : Inner) (sound : Sound total to.chain room inner) (below : Viables to total room inner) where
  -- behind `(`
  named_viable : (o : Token) (start : State) (e : Fault) → IsMark mark.OpenParen o
      → ◌≡◌ {A = Outcome (TypeName × State)} (inner.specs start >>= λ x. inner.unnamed x.1 >>= λ y. expect_mark total mark.CloseParen y.1
      >>= λ s'. Ok (roll-TypeName (record { specs = x.0.specs; declarator = y.0 }), s')) (Err e)
      → (tail : List Token) → Viable (InParensAt to (suc room) start.names) total (o ∷ start.rest) e tail
  named_viable o start e opens h tail =
      let close : List Token = mark_token mark.CloseParen ∷ tail in
      elim (bind_err (inner.specs start) (λ x. inner.unnamed x.1 >>= λ y. expect_mark total mark.CloseParen y.1
      >>= λ s'. Ok (roll-TypeName (record { specs = x.0.specs; declarator = y.0 }), s')) e h) [
        | inl p ↦
            let v = below.specs start e p close in
            led o tail v.whole (omega arith) v.whole.after
            (λ total' later late x.
            let y = nothing_abstract to total' later (raised to.spare room) v.whole.after close in
            let there = v.whole.room_there in
            made_there later o close tail opens x.1 x.2 y.1 y.2 (omega (arith, there, late)))
        | inr q ↦
            let (x, there, go) = q in
            let first : AreSpecs total to.chain room start.names start.rest x.1.rest x.1.names x.0.is_typedef x.0.specs = sound.specs start x.1 x.0 there in
            elim (bind_err (inner.unnamed x.1) (λ y. expect_mark total mark.CloseParen y.1 >>= λ s'. Ok (roll-TypeName (record { specs = x.0.specs; declarator = y.0 }), s')) e go) [
              | inl p ↦
                  let v = below.unnamed x.1 e p close in
                  led o tail (behind_part {B = TypeAt to room start.names} close v (moved_specs to first v.all) (omega arith) v.after
                  (λ total' later late y z. (_, g.type_named y.1 z.1, (y.2, z.2)))) (omega arith) v.after
                  (λ total' later late x. let room_there = v.room_there in closed_there later o close tail opens x.1 x.2 (omega (arith, room_there, late)))
              | inr r ↦
                  let (y, unnamed, on) = r in
                  let second : IsAbstract total to.chain room x.1.names x.1.rest y.1.rest y.1.names y.0 = sound.unnamed x.1 y.1 y.0 unnamed in
                  elim (bind_err (expect_mark total mark.CloseParen y.1) (λ s'. Ok (roll-TypeName (record { specs = x.0.specs; declarator = y.0 }), s')) e on) [
                    | inl p ↦
                        led o tail (put_behind {B = TypeAt to room start.names} close close (mark_missed total mark.CloseParen y.1 e p) (moved_type to (g.type_named first second) close) (omega arith) y.1.names
                        (λ total' later late z. z)) (omega arith) y.1.names
                        (λ total' later late x. closed_there later o close tail opens x.1 x.2 late)
                    | inr u ↦ let (s', closes, made) = u in absurd cc
                  ]
            ]
      ]
    where
      closed_there : {total' : ℕ} {after : Names} {us : List Token} {n : TypeName} (later : ℕ) (o : Token) (close tail : List Token) → IsMark mark.OpenParen o
          → (d : IsTypeNamed total' to.wide (raised to.spare room) start.names us (mark_token mark.CloseParen ∷ tail) after n) → type_stands (bounds to later) d
          → length (mark_token mark.CloseParen ∷ tail) ≤ later → InParensAt to (suc room) start.names total' later (o ∷ us) tail after
      closed_there {us = us} later o close tail opens d stand late = (
        _,
        record {
          inner = raised to.spare room;
          open_token = o;
          start = us;
          close_token = mark_token mark.CloseParen;
          room_is = refl;
          ts_are = refl;
          opens = opens;
          named = d;
          closes = refl;
        },
        (deep room to.spare, stand, λ _. late),
      )

      made_there : {total' : ℕ} {between after : Names} {us mid : List Token} {flag : Bool} {ss : Specs Specifier} {a : Abstract Expr} (later : ℕ) (o : Token) (close tail : List Token) → IsMark mark.OpenParen o
          → (d : AreSpecs total' to.wide (raised to.spare room) start.names us mid between flag ss) → specs_stand (bounds to later) d
          → (d' : IsAbstract total' to.wide (raised to.spare room) between mid (mark_token mark.CloseParen ∷ tail) after a) → abstract_stands (bounds to later) d'
          → length (mark_token mark.CloseParen ∷ tail) ≤ later → InParensAt to (suc room) start.names total' later (o ∷ us) tail after
      made_there {us = us} later o close tail opens d stand d' stand' late = (
        _,
        record {
          inner = raised to.spare room;
          open_token = o;
          start = us;
          close_token = mark_token mark.CloseParen;
          room_is = refl;
          ts_are = refl;
          opens = opens;
          named = g.type_named d d';
          closes = refl;
        },
        (deep room to.spare, (stand, stand'), λ _. late),
      )

  pub in_parens_viable : (s : State) (e : Fault) → reading.type_in_parens total inner s ≡ Err e → (tail : List Token)
      → Viable (InParensAt to (suc room) s.names) total s.rest e tail
  unfolding reading.type_in_parens
  in_parens_viable s e h tail =
      elim (bind_err (expect_mark total mark.OpenParen s)
      (λ start. inner.specs start >>= λ x. inner.unnamed x.1 >>= λ y. expect_mark total mark.CloseParen y.1 >>= λ s'. Ok (roll-TypeName (record { specs = x.0.specs; declarator = y.0 }), s')) e h) [
        | inl p ↦
            put_here (mark_token mark.OpenParen ∷ word_token keyword.Int ∷ mark_token mark.CloseParen ∷ tail) tail (mark_missed total mark.OpenParen s e p) (omega arith) s.names
            (λ total' later late. int_in_parens to total' later (raised to.spare (suc room)) (let x = raised_big to.spare (suc room) in let y = to.deeper in omega (arith, x, y)) s.names tail late)
        | inr q ↦
            let (start, opens, go) = q in
            let o = expect_mark_is total mark.OpenParen s start opens in
            subst (λ us. Viable (InParensAt to (suc room) s.names) total us e tail) (sym o.stands.ts_are)
            (subst (λ ns. Viable (InParensAt to (suc room) ns) total (o.stands.token ∷ start.rest) e tail) o.names_are (named_viable o.stands.token start e o.stands.is go tail))
      ]

  -- ---- prefix operators

  prefixed_viable : (names : Names) (t : Token) (ts : List Token) (op : PrefixOp) (e : Fault) → prefix_of t.kind ≡ Some op
      → reading.prefixed total inner op (at_state names (t ∷ ts)) ≡ Err e → (tail : List Token) → ViableExpr to total Unary (suc room) names (t ∷ ts) e tail
  unfolding reading.prefixed
  prefixed_viable names t ts op e is h tail =
      elim (bind_err (inner.expr extent.Unary (at_state names ts)) (λ x. Ok (expr.Prefix (number_of total (t ∷ ts)) op x.0, x.1)) e h) [
        | inl p ↦
            let v = below.expr extent.Unary (at_state names ts) e p tail in
            record {
              whole = led t tail v.whole (omega arith) v.whole.after (λ total' later late x. (_, g.prefixed op is x.1, (deep room to.spare, x.2)));
              no_type = λ was h. let opens = opens_there names t v.whole.all h in absurd (let x = sym (ap prefix_of opens) ∙ is in cc);
            }
        | inr q ↦ let (x, there, made) = q in absurd cc
      ]

  sizeof_viable : (names : Names) (t : Token) (ts : List Token) (e : Fault) → IsKeyword keyword.Sizeof t
      → reading.sizeof total inner (at_state names (t ∷ ts)) ≡ Err e → (tail : List Token) → ViableExpr to total Unary (suc room) names (t ∷ ts) e tail
  unfolding reading.sizeof
  sizeof_viable names t ts e is h tail =
      elim (cond_is (sees_type_in_parens names ts) (inner.type_in_parens (at_state names ts) >>= λ x. Ok (expr.SizeofType (number_of total (t ∷ ts)) x.0, x.1))
      (inner.expr extent.Unary (at_state names ts) >>= λ x. Ok (expr.SizeofExpr (number_of total (t ∷ ts)) x.0, x.1)) (Err e) h) [
        | inl p ↦
            elim (bind_err (inner.type_in_parens (at_state names ts)) (λ x. Ok (expr.SizeofType (number_of total (t ∷ ts)) x.0, x.1)) e p.1) [
              | inl q ↦
                  let v = below.type_in_parens (at_state names ts) e q tail in
                  record {
                    whole = led t tail v (omega arith) v.after
                        (λ total' later late x. sizeof_made to total' later (raised to.spare room) names v.after t v.all tail x.0 is x.1 x.2 (deep room to.spare));
                    no_type = λ was. no_paren_word names t v.all (kind.Keyword keyword.Sizeof) is refl;
                  }
              | inr q ↦ let (x, there, made) = q in absurd cc
            ]
        | inr p ↦
            elim (bind_err (inner.expr extent.Unary (at_state names ts)) (λ x. Ok (expr.SizeofExpr (number_of total (t ∷ ts)) x.0, x.1)) e p.1) [
              | inl q ↦
                  let v = below.expr extent.Unary (at_state names ts) e q tail in
                  record {
                    whole = led t tail v.whole (omega arith) v.whole.after
                        (λ total' later late x. (_, g.sizeof_expr is (v.no_type (starts_no_type names ts p.0)) x.1, (deep room to.spare, x.2)));
                    no_type = λ was. no_paren_word names t v.whole.all (kind.Keyword keyword.Sizeof) is refl;
                  }
              | inr q ↦ let (x, there, made) = q in absurd cc
            ]
      ]

  cast_viable : (s : State) (e : Fault) → sees_type_in_parens s.names s.rest ≡ true → reading.cast total inner s ≡ Err e → (tail : List Token)
      → ViableExpr to total Unary (suc room) s.names s.rest e tail
  unfolding reading.cast
  cast_viable s e type h tail =
      let some : 1 ≤ raised to.spare room = let x = raised_big to.spare room in let y = to.deeper in omega (arith, x, y) in
      elim (bind_err (reading.type_in_parens total inner s) (λ x. inner.expr extent.Unary x.1 >>= λ y. Ok (expr.Cast (number_of total s.rest) x.0 y.0, y.1)) e h) [
        | inl p ↦
            let v = in_parens_viable s e p (number_token ∷ tail) in
            record {
              whole = onto tail v (omega arith) v.after
                  (λ total' later late x.
                  let there = v.room_there in
                  let z = zero_unary to total' later (raised to.spare room) some v.after tail (omega (arith, there, late)) in
                  cast_made to total' later (raised to.spare room) s.names v.after v.after v.all (number_token ∷ tail) tail x.0 z.0 x.1 x.2 z.1 z.2);
              no_type = λ was. absurd (was (in_parens_is s.names s.rest type));
            }
        | inr q ↦
            let (x, there, go) = q in
            let d = type_sound total to.chain room inner sound s x.1 x.0 there in
            elim (bind_err (inner.expr extent.Unary x.1) (λ y. Ok (expr.Cast (number_of total s.rest) x.0 y.0, y.1)) e go) [
              | inl p ↦
                  let v = below.expr extent.Unary x.1 e p tail in
                  record {
                    whole = behind_part tail v.whole (moved_in_parens to total room d v.whole.all) (omega arith) v.whole.after
                        (λ total' later late y z.
                        cast_made to total' later (raised to.spare room) s.names x.1.names v.whole.after _ v.whole.all tail y.0 z.0 y.1 y.2 z.1 z.2);
                    no_type = λ was. absurd (was (in_parens_is s.names s.rest type));
                  }
              | inr r ↦ let (y, right, made) = r in absurd cc
            ]
      ]

  unary_viable : (s : State) (e : Fault) → reading.unary total to.chain inner s ≡ Err e → (tail : List Token)
      → ViableExpr to total Unary (suc room) s.names s.rest e tail
  unfolding reading.unary
  unary_viable s e h tail =
      elim (choose_is (reading.prefix_at s.rest)
      (if sees_keyword keyword.Sizeof s.rest then reading.sizeof total inner s
      else (if sees_type_in_parens s.names s.rest then reading.cast total inner s else reading.postfix total to.chain inner s))
      (λ op. reading.prefixed total inner op s) (Err e) h) [
        | inr p ↦
            let (t, stands, is) = prefix_at_is total to.chain room inner sound s.rest p.0 p.1 in
            subst (λ us. reading.prefixed total inner p.0 (at_state s.names us) ≡ Err e → ViableExpr to total Unary (suc room) s.names us e tail) (sym stands)
            (λ h. prefixed_viable s.names t (Rattle.c_grammar.specs.Reading.tail s.rest) p.0 e is h tail) p.2
        | inl p ↦ elim (cond_is (sees_keyword keyword.Sizeof s.rest) (reading.sizeof total inner s)
            (if sees_type_in_parens s.names s.rest then reading.cast total inner s else reading.postfix total to.chain inner s) (Err e) p.1) [
              | inl q ↦
                  let w = sees_keyword_is keyword.Sizeof s.rest q.0 in
                  subst (λ us. reading.sizeof total inner (at_state s.names us) ≡ Err e → ViableExpr to total Unary (suc room) s.names us e tail) (sym w.ts_are)
                  (λ h. sizeof_viable s.names w.token (Rattle.c_grammar.specs.Reading.tail s.rest) e w.is h tail) q.1
              | inr q ↦ elim (cond_is (sees_type_in_parens s.names s.rest) (reading.cast total inner s) (reading.postfix total to.chain inner s) (Err e) q.1) [
                | inl r ↦ cast_viable s e r.0 r.1 tail
                | inr r ↦
                    let v = postfix_viable to total room inner sound below s e r.1 tail in
                    record {
                      whole = onto tail v.whole (omega arith) v.whole.after (λ total' later late x. (_, g.operand x.1, x.2));
                      no_type = v.no_type;
                    }
              ]
            ]
      ]

  -- ---- operators between operands

  -- operators of a level behind so many, so many at most
  abbrev LinksGo : ℕ → Names → ℕ → ℕ → ℕ → ℕ → List Token → List Token → Names → Type 0
  LinksGo level names before count total' later ts rest after =
      (tree : List (Link Expr)) × (d : AreLinks total' to.wide level (raised to.spare (suc room)) names ts rest after tree) × (length tree ≤ count)
      × links_stand (bounds to later) before d

  links_viable : (level : ℕ) (next : Reader Expr)
      → ((s : State) (y : Expr × State) → next s ≡ Ok y → IsExpr total to.chain (Level level) (suc room) s.names s.rest y.1.rest y.1.names y.0)
      → ((s : State) (e : Fault) → next s ≡ Err e → (tail : List Token) → ViableExpr to total (Level level) (suc room) s.names s.rest e tail)
      → (spare : ℕ) (front : List (Link Expr)) (s : State) (e : Fault) → reading.links total next (suc level) spare front s ≡ Err e
      → (before : ℕ) → before + spare ≡ to.chain → (tail : List Token) → Viable (LinksGo level s.names before spare) total s.rest e tail
  unfolding reading.links
  links_viable level next is fails zero front s e h before left tail =
      elim (choose_is (reading.operator_in (suc level) s.rest) (Ok (front, s)) (λ op. Err (TooNested (number_of total s.rest))) (Err e) h) [
        | inl p ↦ absurd (let x = p.1 in cc)
        | inr p ↦
            let same : TooNested (number_of total s.rest) ≡ e = err_is p.2 in
            put_here tail tail (ap fault_at (sym same)) (omega arith) s.names (λ total' later late. ([], g.no_links, omega arith, tt))
      ]
  links_viable level next is fails (suc spare) front s e h before left tail =
      let less : before < to.chain = omega (arith, left) in
      elim (choose_is (reading.operator_in (suc level) s.rest) (Ok (front, s))
      (λ op. next (behind s) >>= λ x. reading.links total next (suc level) spare (front ++ record { at = number_of total s.rest; op = op; right = x.0 } ∷ []) x.1) (Err e) h) [
        | inl p ↦ absurd (let x = p.1 in cc)
        | inr p ↦
            let (op, found, on) = p in
            let (t, stands, place) = operator_in_is (suc level) s.rest op found in
            let ts : List Token = Rattle.c_grammar.specs.Reading.tail s.rest in
            subst (λ us. Viable (LinksGo level s.names before (suc spare)) total us e tail) (sym stands)
            (elim (bind_err (next (behind s)) (λ x. reading.links total next (suc level) spare (front ++ record { at = number_of total s.rest; op = op; right = x.0 } ∷ []) x.1) e on) [
              | inl q ↦
                  let v = fails (behind s) e q tail in
                  led t tail v.whole (omega arith) v.whole.after
                  (λ total' later late x. (_, g.more_links op place x.1 g.no_links, omega arith, (deep room to.spare, early before to.chain less, x.2, tt)))
              | inr q ↦
                  let (x, there, go) = q in
                  let v = links_viable level next is fails spare (front ++ record { at = number_of total s.rest; op = op; right = x.0 } ∷ []) x.1 e go (suc before) (omega (arith, left)) tail in
                  let d = is (behind s) x there in
                  led {A = ThenLinksIn to room level s.names before spare} t tail (behind_part tail v (moved_expr to d v.all) (omega arith) v.after
                  (λ total' later late y z. (x.1.names, v.all, y.0, z.0, y.1, z.1, (let few = z.2 in few), y.2, z.3))) (omega arith) v.after
                  (λ total' later late w. (_, g.more_links op place w.4 w.5, (let few = w.6 in omega (arith, few)), (deep room to.spare, early before to.chain less, w.7, w.8)))
            ])
      ]

  abbrev unary_reads : Reader Expr
  unary_reads = reading.unary total to.chain inner

  -- an operand of a level was read, or wasn't
  level_from_viable : (level : ℕ) (start s : State) (a : Expr) (e : Fault) → IsExpr total to.chain Unary (suc room) start.names start.rest s.rest s.names a
      → reading.level_from total to.chain unary_reads level (number_of total start.rest) a s ≡ Err e → (tail : List Token)
      → ViableExpr to total (Level level) (suc room) start.names start.rest e tail
  unfolding reading.level_from
  level_from_viable zero start s a e d h tail = absurd cc
  level_from_viable (suc level) start s a e d h tail =
      let next : Reader Expr = λ t. unary_reads t >>= λ y. reading.level_from total to.chain unary_reads level (number_of total t.rest) y.0 y.1 in
      elim (bind_err (reading.level_from total to.chain unary_reads level (number_of total start.rest) a s)
      (λ x. reading.links total next (suc level) to.chain [] x.1 >>= λ z. Ok (linked (number_of total start.rest) x.0 z.0, z.1)) e h) [
        | inl p ↦
            let v = level_from_viable level start s a e d p tail in
            record {
              whole = onto tail v.whole (omega arith) v.whole.after (λ total' later late x. (_, g.chained x.1 g.no_links (omega arith), (x.2, tt)));
              no_type = v.no_type;
            }
        | inr q ↦
            let (x, there, go) = q in
            let first = level_from_sound total to.chain room inner sound unary_reads (unary_sound total to.chain room inner sound) level start s a x d there in
            elim (bind_err (reading.links total next (suc level) to.chain [] x.1) (λ z. Ok (linked (number_of total start.rest) x.0 z.0, z.1)) e go) [
              | inl p ↦
                  let v = links_viable level next
                  (λ t w k. let (u, one, more) = bind_ok (unary_reads t) (λ y. reading.level_from total to.chain unary_reads level (number_of total t.rest) y.0 y.1) w k in
                  level_from_sound total to.chain room inner sound unary_reads (unary_sound total to.chain room inner sound) level t u.1 u.0 w (unary_sound total to.chain room inner sound t u one) more)
                  (λ t f k tail. elim (bind_err (unary_reads t) (λ y. reading.level_from total to.chain unary_reads level (number_of total t.rest) y.0 y.1) f k) [
                    | inl m ↦
                        let u = unary_viable t f m tail in
                        record {
                          whole = onto tail u.whole (omega arith) u.whole.after (λ total' later late y. as_level to (suc room) t.names total' later u.whole.all tail u.whole.after level y);
                          no_type = u.no_type;
                        }
                    | inr m ↦ let (u, one, more) = m in level_from_viable level t u.1 u.0 f (unary_sound total to.chain room inner sound t u one) more tail
                  ])
                  to.chain [] x.1 e p 0 (omega arith) tail in
                  let m = moved_expr to first v.all in
                  record {
                    whole = behind_part tail v m (omega arith) v.after
                        (λ total' later late y z. (_, g.chained y.1 z.1 (let few = z.2 in let wider = to.wider in omega (arith, few, wider)), (y.2, z.3)));
                    no_type = λ was. no_type_moves first was m.swapped;
                  }
              | inr r ↦ let (z, found, made) = r in absurd cc
            ]
      ]

  -- ---- conditions, assignments and commas

  -- what stands between `?` and `:`, and what is behind that
  conditional_viable : (s s1 : State) (a : Expr) (q : Token) (e : Fault) (f : Expr × State → Expr × State → Expr × State) → IsMark mark.Question q
      → (d : IsExpr total to.chain (Level 10) (suc room) s.names s.rest (q ∷ s1.rest) s1.names a)
      → (inner.expr extent.Comma s1 >>= λ y. expect_mark total mark.Colon y.1 >>= λ s'. inner.expr extent.Cond s' >>= λ z. Ok (f y z)) ≡ Err e
      → (tail : List Token) → ViableExpr to total Cond (suc room) s.names s.rest e tail
  conditional_viable s s1 a q e f is d h tail =
      let some : 1 ≤ raised to.spare room = let x = raised_big to.spare room in let y = to.deeper in omega (arith, x, y) in
      let long : List Token = mark_token mark.Colon ∷ number_token ∷ tail in
      elim (bind_err (inner.expr extent.Comma s1) (λ y. expect_mark total mark.Colon y.1 >>= λ s'. inner.expr extent.Cond s' >>= λ z. Ok (f y z)) e h) [
        | inl p ↦
            let v = below.expr extent.Comma s1 e p long in
            middle_viable v.whole
        | inr r ↦
            let (y, there, go) = r in
            let middle : IsExpr total to.chain Comma room s1.names s1.rest y.1.rest y.1.names y.0 = sound.expr extent.Comma s1 y.1 y.0 there in
            elim (bind_err (expect_mark total mark.Colon y.1) (λ s'. inner.expr extent.Cond s' >>= λ z. Ok (f y z)) e go) [
              | inl p ↦ middle_viable (put_behind long long (mark_missed total mark.Colon y.1 e p) (moved_expr to middle long) (omega arith) y.1.names (λ total' later late z. z))
              | inr u ↦
                  let (s', colon, on) = u in
                  let c = expect_mark_is total mark.Colon y.1 s' colon in
                  elim (bind_err (inner.expr extent.Cond s') (λ z. Ok (f y z)) e on) [
                    | inl p ↦
                        let v = below.expr extent.Cond s' e p tail in
                        let middle' : IsExpr total to.chain Comma room s1.names s1.rest (c.stands.token ∷ s'.rest) s'.names y.0 =
                        subst (λ ns. IsExpr total to.chain Comma room s1.names s1.rest (c.stands.token ∷ s'.rest) ns y.0) (sym c.names_are)
                        (subst (λ us. IsExpr total to.chain Comma room s1.names s1.rest us y.1.names y.0) c.stands.ts_are middle) in
                        otherwise_viable s' c.stands.token c.stands.is middle' v.whole
                    | inr w ↦ let (z, there, made) = w in absurd cc
                  ]
            ]
      ]
    where
      middle_viable : Viable (ExprAt to Comma room s1.names) total s1.rest e (mark_token mark.Colon ∷ number_token ∷ tail) → ViableExpr to total Cond (suc room) s.names s.rest e tail
      middle_viable v =
          let some : 1 ≤ raised to.spare room = let x = raised_big to.spare room in let y = to.deeper in omega (arith, x, y) in
          let long : List Token = mark_token mark.Colon ∷ number_token ∷ tail in
          let m = moved_expr to d (q ∷ v.all) in
          record {
            whole = record {
              from = v.from;
              stops = v.stops;
              put = v.put;
              room_there = let x = v.room_there in omega (arith, x);
              all = m.all;
              swapped = joined m.swapped (more_swapped v.swapped);
              after = v.after;
              is = λ total' later late.
                  let test = m.is total' later in
                  let between = v.is total' later late in
                  let there = v.room_there in
                  let less : length (number_token ∷ tail) ≤ later = omega (arith, there, late) in
                  let last = zero_cond to total' later (raised to.spare room) some v.after tail less in
                  (_, g.conditional test.1 is between.1 refl last.1, (test.2, deep room to.spare, between.2, (λ _. omega (arith, there, late)), last.2));
            };
            no_type = λ was. no_type_moves d was m.swapped;
          }

      otherwise_viable : (s' : State) (c : Token) → IsMark mark.Colon c → {b : Expr} → IsExpr total to.chain Comma room s1.names s1.rest (c ∷ s'.rest) s'.names b
          → Viable (ExprAt to Cond room s'.names) total s'.rest e tail → ViableExpr to total Cond (suc room) s.names s.rest e tail
      otherwise_viable s' c colon middle v =
          let n = moved_expr to middle (c ∷ v.all) in
          let m = moved_expr to d (q ∷ n.all) in
          record {
            whole = record {
              from = v.from;
              stops = v.stops;
              put = v.put;
              room_there = v.room_there;
              all = m.all;
              swapped = joined m.swapped (more_swapped (joined n.swapped (more_swapped v.swapped)));
              after = v.after;
              is = λ total' later late.
                  let test = m.is total' later in
                  let between = n.is total' later in
                  let last = v.is total' later late in
                  (_, g.conditional test.1 is between.1 colon last.1, (test.2, deep room to.spare, between.2, none_left room to.spare (expr_room middle), last.2));
            };
            no_type = λ was. no_type_moves d was m.swapped;
          }

  cond_from_viable : (start s : State) (a : Expr) (e : Fault) → IsExpr total to.chain Unary (suc room) start.names start.rest s.rest s.names a
      → reading.cond_from total to.chain inner (number_of total start.rest) a s ≡ Err e → (tail : List Token)
      → ViableExpr to total Cond (suc room) start.names start.rest e tail
  unfolding reading.cond_from
  cond_from_viable start s a e d h tail =
      let on : Expr × State → Outcome (Expr × State) = λ x. if sees_mark mark.Question x.1.rest
      then (inner.expr extent.Comma (behind x.1) >>= λ y. expect_mark total mark.Colon y.1 >>= λ s'. inner.expr extent.Cond s'
      >>= λ z. Ok (expr.Conditional (number_of total start.rest) x.0 (number_of total x.1.rest) y.0 z.0, z.1)) else Ok x in
      elim (bind_err (reading.level_from total to.chain unary_reads 10 (number_of total start.rest) a s) on e h) [
        | inl p ↦
            let v = level_from_viable 10 start s a e d p tail in
            record {
              whole = onto tail v.whole (omega arith) v.whole.after (λ total' later late x. (_, g.binary x.1, x.2));
              no_type = v.no_type;
            }
        | inr r ↦
            let (x, there, go) = r in
            let test = level_from_sound total to.chain room inner sound unary_reads (unary_sound total to.chain room inner sound) 10 start s a x d there in
            elim (cond_is (sees_mark mark.Question x.1.rest) (inner.expr extent.Comma (behind x.1) >>= λ y. expect_mark total mark.Colon y.1 >>= λ s'. inner.expr extent.Cond s'
            >>= λ z. Ok (expr.Conditional (number_of total start.rest) x.0 (number_of total x.1.rest) y.0 z.0, z.1)) (Ok x) (Err e) go) [
              | inl p ↦
                  let q = sees_mark_is mark.Question x.1.rest p.0 in
                  let test' : IsExpr total to.chain (Level 10) (suc room) start.names start.rest (q.token ∷ Rattle.c_grammar.specs.Reading.tail x.1.rest) x.1.names x.0 =
                  subst (λ us. IsExpr total to.chain (Level 10) (suc room) start.names start.rest us x.1.names x.0) q.ts_are test in
                  conditional_viable start (behind x.1) x.0 q.token e (λ y z. (expr.Conditional (number_of total start.rest) x.0 (number_of total x.1.rest) y.0 z.0, z.1)) q.is test' p.1 tail
              | inr p ↦ absurd (let z = p.1 in cc)
            ]
      ]

  cond_viable : (s : State) (e : Fault) → reading.cond total to.chain inner s ≡ Err e → (tail : List Token)
      → ViableExpr to total Cond (suc room) s.names s.rest e tail
  unfolding reading.cond
  cond_viable s e h tail =
      elim (bind_err (unary_reads s) (λ x. reading.cond_from total to.chain inner (number_of total s.rest) x.0 x.1) e h) [
        | inl p ↦
            let v = unary_viable s e p tail in
            record {
              whole = onto tail v.whole (omega arith) v.whole.after
                  (λ total' later late x. as_cond to (suc room) s.names total' later v.whole.all tail v.whole.after (as_level to (suc room) s.names total' later v.whole.all tail v.whole.after 10 x));
              no_type = v.no_type;
            }
        | inr r ↦ let (x, there, go) = r in cond_from_viable s x.1 x.0 e (unary_sound total to.chain room inner sound s x there) go tail
      ]

  assign_viable : (s : State) (e : Fault) → reading.assign total to.chain inner s ≡ Err e → (tail : List Token)
      → ViableExpr to total Assign (suc room) s.names s.rest e tail
  unfolding reading.assign
  assign_viable s e h tail =
      elim (bind_err (unary_reads s)
      (λ x. choose (reading.assign_at x.1.rest) (reading.cond_from total to.chain inner (number_of total s.rest) x.0 x.1)
      (λ op. inner.expr extent.Assign (behind x.1) >>= λ y. Ok (expr.Assign (number_of total s.rest) x.0 (number_of total x.1.rest) op y.0, y.1))) e h) [
        | inl p ↦
            let v = unary_viable s e p tail in
            record {
              whole = onto tail v.whole (omega arith) v.whole.after
                  (λ total' later late x.
                  as_assign to (suc room) s.names total' later v.whole.all tail v.whole.after
                  (as_cond to (suc room) s.names total' later v.whole.all tail v.whole.after (as_level to (suc room) s.names total' later v.whole.all tail v.whole.after 10 x)));
              no_type = v.no_type;
            }
        | inr r ↦
            let (x, there, go) = r in
            let d = unary_sound total to.chain room inner sound s x there in
            elim (choose_is (reading.assign_at x.1.rest) (reading.cond_from total to.chain inner (number_of total s.rest) x.0 x.1)
            (λ op. inner.expr extent.Assign (behind x.1) >>= λ y. Ok (expr.Assign (number_of total s.rest) x.0 (number_of total x.1.rest) op y.0, y.1)) (Err e) go) [
              | inl p ↦
                  let v = cond_from_viable s x.1 x.0 e d p.1 tail in
                  record {
                    whole = onto tail v.whole (omega arith) v.whole.after (λ total' later late y. (_, g.value y.1, y.2));
                    no_type = v.no_type;
                  }
              | inr p ↦
                  let (t, stands, is) = assign_at_is total to.chain room inner sound x.1.rest p.0 p.1 in
                  elim (bind_err (inner.expr extent.Assign (behind x.1)) (λ y. Ok (expr.Assign (number_of total s.rest) x.0 (number_of total x.1.rest) p.0 y.0, y.1)) e p.2) [
                    | inl q ↦
                        let v = below.expr extent.Assign (behind x.1) e q tail in
                        let d' : IsExpr total to.chain Unary (suc room) s.names s.rest (t ∷ Rattle.c_grammar.specs.Reading.tail x.1.rest) x.1.names x.0 =
                        subst (λ us. IsExpr total to.chain Unary (suc room) s.names s.rest us x.1.names x.0) stands d in
                        let m = moved_expr to d' (t ∷ v.whole.all) in
                        record {
                          whole = record {
                            from = v.whole.from;
                            stops = v.whole.stops;
                            put = v.whole.put;
                            room_there = v.whole.room_there;
                            all = m.all;
                            swapped = joined m.swapped (more_swapped v.whole.swapped);
                            after = v.whole.after;
                            is = λ total' later late.
                                let place = m.is total' later in
                                let right = v.whole.is total' later late in
                                (_, g.assigned p.0 place.1 is right.1, (place.2, deep room to.spare, right.2));
                          };
                          no_type = λ was. no_type_moves d' was m.swapped;
                        }
                    | inr q ↦ let (y, right, made) = q in absurd cc
                  ]
            ]
      ]

  -- expressions behind commas, behind so many, so many at most
  abbrev OthersGo : Names → ℕ → ℕ → ℕ → ℕ → List Token → List Token → Names → Type 0
  OthersGo names before count total' later ts rest after =
      (tree : List Expr) × (d : AreOthers total' to.wide (raised to.spare (suc room)) names ts rest after tree) × (length tree ≤ count)
      × others_stand (bounds to later) before d

  abbrev ThenOthers : Names → ℕ → ℕ → ℕ → ℕ → List Token → List Token → Names → Type 0
  ThenOthers names before count total' later ts rest after =
      (between : Names) × (mid : List Token) × (a : Expr) × (tree : List Expr) × (d : IsExpr total' to.wide Assign (raised to.spare (suc room)) names ts mid between a)
      × (ds : AreOthers total' to.wide (raised to.spare (suc room)) between mid rest after tree) × (length tree ≤ count) × expr_stands (bounds to later) d
      × others_stand (bounds to later) (suc before) ds

  others_viable : (spare : ℕ) (front : List Expr) (s : State) (e : Fault) → reading.others total (reading.assign total to.chain inner) spare front s ≡ Err e
      → (before : ℕ) → before + spare ≡ to.chain → (tail : List Token) → Viable (OthersGo s.names before spare) total s.rest e tail
  unfolding reading.others
  others_viable zero front s e h before left tail =
      elim (cond_is (sees_mark mark.Comma s.rest) (Err (TooNested (number_of total s.rest))) (Ok (front, s)) (Err e) h) [
        | inl p ↦
            let same : TooNested (number_of total s.rest) ≡ e = err_is p.1 in
            put_here tail tail (ap fault_at (sym same)) (omega arith) s.names (λ total' later late. ([], g.no_others, omega arith, tt))
        | inr p ↦ absurd (let x = p.1 in cc)
      ]
  others_viable (suc spare) front s e h before left tail =
      let less : before < to.chain = omega (arith, left) in
      let next : Reader Expr = reading.assign total to.chain inner in
      elim (cond_is (sees_mark mark.Comma s.rest) (next (behind s) >>= λ x. reading.others total next spare (front ++ x.0 ∷ []) x.1) (Ok (front, s)) (Err e) h) [
        | inl p ↦
            let c = sees_mark_is mark.Comma s.rest p.0 in
            subst (λ us. Viable (OthersGo s.names before (suc spare)) total us e tail) (sym c.ts_are)
            (elim (bind_err (next (behind s)) (λ x. reading.others total next spare (front ++ x.0 ∷ []) x.1) e p.1) [
              | inl q ↦
                  let v = assign_viable (behind s) e q tail in
                  led c.token tail v.whole (omega arith) v.whole.after
                  (λ total' later late x. (_, g.more_others c.is x.1 g.no_others, omega arith, (deep room to.spare, early before to.chain less, x.2, tt)))
              | inr q ↦
                  let (x, there, go) = q in
                  let v = others_viable spare (front ++ x.0 ∷ []) x.1 e go (suc before) (omega (arith, left)) tail in
                  let d = assign_sound total to.chain room inner sound (behind s) x there in
                  led {A = ThenOthers s.names before spare} c.token tail (behind_part tail v (moved_expr to d v.all) (omega arith) v.after
                  (λ total' later late y z. (x.1.names, v.all, y.0, z.0, y.1, z.1, (let few = z.2 in few), y.2, z.3))) (omega arith) v.after
                  (λ total' later late w. (_, g.more_others c.is w.4 w.5, (let few = w.6 in omega (arith, few)), (deep room to.spare, early before to.chain less, w.7, w.8)))
            ])
        | inr p ↦ absurd (let x = p.1 in cc)
      ]

  comma_viable : (s : State) (e : Fault) → reading.comma total to.chain inner s ≡ Err e → (tail : List Token)
      → ViableExpr to total Comma (suc room) s.names s.rest e tail
  unfolding reading.comma
  comma_viable s e h tail =
      let next : Reader Expr = reading.assign total to.chain inner in
      elim (bind_err (next s) (λ x. reading.others total next to.chain [] x.1 >>= λ y. Ok (listed (number_of total s.rest) x.0 y.0, y.1)) e h) [
        | inl p ↦
            let v = assign_viable s e p tail in
            record {
              whole = onto tail v.whole (omega arith) v.whole.after (λ total' later late x. (_, g.comma x.1 g.no_others (omega arith), (x.2, tt)));
              no_type = v.no_type;
            }
        | inr q ↦
            let (x, there, go) = q in
            let d = assign_sound total to.chain room inner sound s x there in
            elim (bind_err (reading.others total next to.chain [] x.1) (λ y. Ok (listed (number_of total s.rest) x.0 y.0, y.1)) e go) [
              | inl p ↦
                  let v = others_viable to.chain [] x.1 e p 0 (omega arith) tail in
                  let m = moved_expr to d v.all in
                  record {
                    whole = behind_part tail v m (omega arith) v.after
                        (λ total' later late y z. (_, g.comma y.1 z.1 (let few = z.2 in let wider = to.wider in omega (arith, few, wider)), (y.2, z.3)));
                    no_type = λ was. no_type_moves d was m.swapped;
                  }
              | inr r ↦ let (y, found, made) = r in absurd cc
            ]
      ]

  pub expr_viable : (x : Extent) (s : State) (e : Fault) → reading.expr_of total to.chain inner x s ≡ Err e → (tail : List Token)
      → ViableExpr to total (part_of x) (suc room) s.names s.rest e tail
  unfolding reading.expr_of
  expr_viable extent.Unary s e h tail = unary_viable s e h tail
  expr_viable extent.Cond s e h tail = cond_viable s e h tail
  expr_viable extent.Assign s e h tail = assign_viable s e h tail
  expr_viable extent.Comma s e h tail = comma_viable s e h tail
