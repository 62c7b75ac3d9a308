-- Where a declarator isn't read, it is viable.
use Rattle.std.proofs.Common.{◌≡◌, ℕ, zero, suc, ◌≤◌, ◌⊎◌, ◌&&◌, ◌++◌, inl, inr, nat_eq, Bool, true, false, cond, if◌then◌else◌, Option, Some, None, Ok, Err, List, [], ◌∷◌, length, refl, sym, ap, subst, ◌∙◌, arith}
use Rattle.c_lex.specs.declared.token.Token.{Token}
use Rattle.c_lex.specs.declared.token.Keyword.TheVariants as keyword
use Rattle.c_lex.specs.declared.token.Mark.TheVariants as mark
use Rattle.c_ast.specs.declared.words.Name.{Name}
use Rattle.c_ast.specs.declared.words.Qualifier.{Qualifier}
use Rattle.c_ast.specs.declared.expression.Expr.{Expr}
use Rattle.c_ast.specs.declared.declaration.Specifier.{Specifier}
use Rattle.c_ast.specs.declared.declaration.Specs.{Specs}
use Rattle.c_ast.specs.declared.declaration.Declarator.{roll-Declarator}
use Rattle.c_ast.specs.declared.declaration.Direct.{Direct}
use Rattle.c_ast.specs.declared.declaration.Direct.TheVariants as direct
use Rattle.c_ast.specs.declared.declaration.Declarator.{Declarator}
use Rattle.c_ast.specs.declared.declaration.DirectSuffix.{DirectSuffix}
use Rattle.c_ast.specs.declared.declaration.DirectSuffix.TheVariants as suffix
use Rattle.c_ast.specs.declared.declaration.Param.{Param}
use Rattle.c_ast.specs.declared.declaration.Abstract.{Abstract}
use Rattle.c_grammar.specs.declared.phrases.Extent.TheVariants as extent
use Rattle.c_grammar.specs.declared.phrases.ReadDirect.{ReadDirect}
use Rattle.c_grammar.specs.declared.phrases.ReadDeclarator.{ReadDeclarator}
use Rattle.c_grammar.specs.declared.phrases.ReadParam.{ReadParam}
use Rattle.c_grammar.specs.declared.phrases.ReadParam.TheVariants.{Named, Unnamed}
use Rattle.c_grammar.specs.Names.{Names, declared}
use Rattle.c_grammar.specs.Words.{IsMark, IsKeyword, number_of, storage_of, qualifier_of, word_of}
use Rattle.c_grammar.specs.Types.{Typed}
use Rattle.c_grammar.specs.Owns.{Own, Open, settled}
use Rattle.c_grammar.specs.Grammar as g
use Rattle.c_grammar.specs.Grammar.{behind_pointers, IsVoidAlone, ArePointers, IsAbstract, AreSizes, IsSize, AreSpecs, AreSpecifiers, IsDeclarator, IsDirect, AreSuffixes, AreParams, IsParam}
use Rattle.c_grammar.specs.Nesting.{Bounds, Stands, pointers_stand, abstract_stands, sizes_stand, direct_stands, suffixes_stand, param_stands}
use Rattle.c_grammar.specs.Reading.{State, Fault, Unexpected, Outcome, ◌>>=◌, is_mark, sees_mark, sees_keyword, behind, here, expect_mark, expect_name}
use Rattle.c_grammar.specs.ReadingDecl.{at_rest, pointers, size, param_of, parameter, parameters, added, restored, function, suffixes, direct_at, declarator_from, sizes, unnamed_from, stars, unnamed, are_bare, starts_direct, param_declarator, too_deep}
use Rattle.c_grammar.specs.Inner.{Inner}
use Rattle.c_grammar.proofs.Late.{raised}
use Rattle.c_grammar.proofs.Laws.{Sound, at_state}
use Rattle.c_grammar.proofs.Extends.{Extends, params_extend}
use Rattle.c_grammar_laws.proofs.ExprFound.{cond_is, mark_is, sees_mark_is}
use Rattle.c_grammar_laws.proofs.DeclaratorSound.{PointersFound, pointers_found, Follows, VoidAhead, void_ahead, void_alone, size_sound, parameter_sound, function_sound, direct_sound}
use Rattle.c_grammar_laws.proofs.FirstStands.{params_first}
use Rattle.c_grammar_laws.proofs.Deep.{Deeper, bounds, at_tail, more_swapped, deep, none_left, AbstractAt, SizesAt, SizeAt, DeclaratorAt, DirectAt, SuffixesAt, ParamsAt, ParamAt}
use Rattle.c_grammar_laws.proofs.Moves.{moved_pointers, moved_size, moved_specs, moved_declarator, moved_direct, moved_suffixes, moved_param, param_room}
use Rattle.c_grammar_laws.proofs.Viable.{Viable, ViableDeclarator, Viables, fault_at, bind_err, err_is, mark_missed, deep_at, onto, led, behind_part, put_behind, put_here, mark_token, name_token, word_token, int_specs, nothing_abstract, raised_big}
use Rattle.c_grammar_laws.proofs.ViableExpr.{then_mark, name_missed}
use Rattle.c_grammar_laws.proofs.ViableSpecs.{behind_led, some_there}

-- ---- what is put in a place

-- `int`, as a parameter
int_param : (to : Deeper) (total later room : ℕ) → 1 ≤ room → (names : Names) (tail : List Token) → length (word_token keyword.Int ∷ tail) ≤ later
    → (tree : Param) × (d : IsParam total to.wide room names (word_token keyword.Int ∷ tail) tail names tree) × param_stands (bounds to later) d
int_param to total later room some names tail late =
    let x = int_specs to total later room some names tail late in
    let y = nothing_abstract to total later room names tail in
    (_, g.unnamed_param x.1 y.1, (x.2, y.2))

-- ---- `void` alone

first_same : {c d : Token} {ts us : List Token} → c ∷ ts ≡ d ∷ us → c ≡ d
first_same h = cc

rest_same : {c d : Token} {ts us : List Token} → c ∷ ts ≡ d ∷ us → ts ≡ us
rest_same h = cc

specifiers_end : {total most room : ℕ} {names after : Names} {typed typed' : Typed} {c : Token} {mid rest : List Token} {flag : Bool} {ss : List Specifier}
    → AreSpecifiers total most room names typed (c ∷ mid) rest after typed' flag ss → IsMark mark.CloseParen c → rest ≡ c ∷ mid
specifiers_end g.no_specifiers closes = refl
specifiers_end (g.storage s is ss) closes = absurd (let x = sym (ap storage_of closes) ∙ is in cc)
specifiers_end (g.qualifier q is ss) closes = absurd (let x = sym (ap qualifier_of closes) ∙ is in cc)
specifiers_end (g.word w is takes ss) closes = absurd (let x = sym (ap word_of closes) ∙ is in cc)
specifiers_end (g.struct_specifier (g.struct_reference is name) ss) closes = absurd (let x = sym closes ∙ is in cc)
specifiers_end (g.struct_specifier (g.struct_tagged is name opens ms ends) ss) closes = absurd (let x = sym closes ∙ is in cc)
specifiers_end (g.struct_specifier (g.struct_untagged is opens ms ends) ss) closes = absurd (let x = sym closes ∙ is in cc)
specifiers_end (g.enum_specifier (g.enum_reference is name) ss) closes = absurd (let x = sym closes ∙ is in cc)
specifiers_end (g.enum_specifier (g.enum_tagged is name opens es ends) ss) closes = absurd (let x = sym closes ∙ is in cc)
specifiers_end (g.enum_specifier (g.enum_untagged is opens es ends) ss) closes = absurd (let x = sym closes ∙ is in cc)
specifiers_end (g.typedef_name is ss) closes = absurd (let x = sym closes ∙ is.0 in cc)

void_specs : {total most room : ℕ} {names after : Names} {v c : Token} {mid rest : List Token} {flag : Bool} {ss : Specs Specifier}
    → AreSpecs total most room names (v ∷ c ∷ mid) rest after flag ss → IsKeyword keyword.Void v → IsMark mark.CloseParen c → rest ≡ c ∷ mid
void_specs (g.specs g.no_specifiers one) is closes = absurd one
void_specs (g.specs (g.storage s it ss) one) is closes = specifiers_end ss closes
void_specs (g.specs (g.qualifier q it ss) one) is closes = specifiers_end ss closes
void_specs (g.specs (g.word w it takes ss) one) is closes = specifiers_end ss closes
void_specs (g.specs (g.struct_specifier (g.struct_reference it name) ss) one) is closes = absurd (let x = sym is ∙ it in cc)
void_specs (g.specs (g.struct_specifier (g.struct_tagged it name opens ms ends) ss) one) is closes = absurd (let x = sym is ∙ it in cc)
void_specs (g.specs (g.struct_specifier (g.struct_untagged it opens ms ends) ss) one) is closes = absurd (let x = sym is ∙ it in cc)
void_specs (g.specs (g.enum_specifier (g.enum_reference it name) ss) one) is closes = absurd (let x = sym is ∙ it in cc)
void_specs (g.specs (g.enum_specifier (g.enum_tagged it name opens es ends) ss) one) is closes = absurd (let x = sym is ∙ it in cc)
void_specs (g.specs (g.enum_specifier (g.enum_untagged it opens es ends) ss) one) is closes = absurd (let x = sym is ∙ it in cc)
void_specs (g.specs (g.typedef_name it ss) one) is closes = specifiers_end ss closes

sizes_end : {total most room : ℕ} {names after : Names} {c : Token} {mid rest : List Token} {us : List (Option Expr)}
    → AreSizes total most room names (c ∷ mid) rest after us → IsMark mark.CloseParen c → rest ≡ c ∷ mid
sizes_end g.no_sizes closes = refl
sizes_end (g.more_sizes (g.unsized opens ends) more) closes = absurd (let x = sym closes ∙ opens in cc)
sizes_end (g.more_sizes (g.sized opens d ends) more) closes = absurd (let x = sym closes ∙ opens in cc)

abstract_end : {total most room : ℕ} {names after : Names} {ts rest : List Token} {c : Token} {mid : List Token} {a : Abstract Expr}
    → IsAbstract total most room names ts rest after a → ts ≡ c ∷ mid → IsMark mark.CloseParen c → rest ≡ c ∷ mid
abstract_end {total = total} {most = most} {room = room} {names = names} {after = after} {rest = rest} (g.arrays {sizes = us} d) are closes =
    sizes_end (subst (λ vs. AreSizes total most room names vs rest after us) are d) closes
abstract_end (g.pointer is d) are closes =
    absurd (let x = sym is ∙ ap (λ (u : Token). u.kind) (first_same are) ∙ closes in cc)

no_declarator : {P : Type 0} {total most room : ℕ} {names after : Names} {c : Token} {mid rest : List Token} {bytes : List ℕ} {own : Own} {d : Declarator}
    → IsDeclarator total most room names (c ∷ mid) rest after bytes own d → IsMark mark.CloseParen c → P
no_declarator (g.declarator g.no_pointers (g.direct_name is) ss) closes = absurd (let x = sym closes ∙ is in cc)
no_declarator (g.declarator g.no_pointers (g.nested opens d ends) ss) closes = absurd (let x = sym closes ∙ opens in cc)
no_declarator (g.declarator (g.more_pointers is qs ps) d ss) closes = absurd (let x = sym closes ∙ is in cc)

param_end : {total most room : ℕ} {names after : Names} {v c : Token} {mid rest : List Token} {p : Param}
    → IsParam total most room names (v ∷ c ∷ mid) rest after p → IsKeyword keyword.Void v → IsMark mark.CloseParen c → rest ≡ c ∷ mid
param_end {total = total} {most = most} {room = room} {c = c} {mid = mid} {rest = rest}
    (g.named_param {between = between} {after = after} {bytes = bytes} {own = own} {d = d} ss is) v closes =
    no_declarator (subst (λ us. IsDeclarator total most room between us rest after bytes own d) (void_specs ss v closes) is) closes
param_end (g.unnamed_param ss is) v closes = abstract_end is (void_specs ss v closes) closes

-- what is behind parameters that are a `void` alone
params_end : {total most room : ℕ} {names after : Names} {v c : Token} {mid rest : List Token} {ps : List Param}
    → AreParams total most room names (v ∷ c ∷ mid) rest after ps → IsKeyword keyword.Void v → IsMark mark.CloseParen c → rest ≡ c ∷ mid
params_end (g.one_param p) v closes = param_end p v closes
params_end (g.more_params p is ps) v closes =
    absurd (let x = sym is ∙ ap (λ (u : Token). u.kind) (first_same (param_end p v closes)) ∙ closes in cc)

void_at : (to : Deeper) (total later room : ℕ) → 1 ≤ room → to.spare ≤ room → (names : Names) (own : Own) (o v c : Token) (mid : List Token)
    → IsMark mark.OpenParen o → IsKeyword keyword.Void v → IsMark mark.CloseParen c → Stands (bounds to later) room (v ∷ c ∷ mid)
    → (tree : List DirectSuffix) × (d : AreSuffixes total to.wide (suc room) names own (o ∷ v ∷ c ∷ mid) mid names (settled own []) tree)
    × suffixes_stand (bounds to later) d
void_at to total later zero some more names own o v c mid opens is closes stands = absurd (omega (arith, some))
void_at to total later (suc room) some more names own o v c mid opens is closes stands =
    (_, g.void opens is closes g.no_suffixes, ((λ h. absurd (omega (arith, h, more))), stands, (λ h. absurd (omega (arith, h, more))), tt))

-- ---- functions

-- Parameters that a bracket closes are those of a function, or a `void` alone.
module _ (to : Deeper) (room : ℕ) (names : Names) (own : Own) (total later : ℕ) (o : Token) (opens : IsMark mark.OpenParen o) (tail : List Token) where
  void_function : (all : List Token) → IsVoidAlone all → (after : Names)
      → ParamsAt to room names total later all (mark_token mark.CloseParen ∷ tail) after
      → SuffixesAt to (suc room) names own (settled own []) total later (o ∷ all) tail names
  void_function [] alone after x = absurd alone
  void_function (v ∷ []) alone after x = absurd alone
  void_function (v ∷ c ∷ mid) alone after x =
      let same : mark_token mark.CloseParen ∷ tail ≡ c ∷ mid = params_end x.1 alone.0 alone.1 in
      let stands : Stands (bounds to later) (raised to.spare room) (v ∷ c ∷ mid) =
      (λ h. let f = params_first (bounds to later) x.1 x.2 h in subst (λ us. length us ≤ later) (sym f.ts_are) f.late) in
      subst (λ us. SuffixesAt to (suc room) names own (settled own []) total later (o ∷ v ∷ c ∷ mid) us names) (sym (rest_same same))
      (void_at to total later (raised to.spare room) (some_there to room) (raised_big to.spare room) names own o v c mid opens alone.0 alone.1 stands)

  params_function : (all : List Token) → (IsVoidAlone all → ⊥) → (new : Names) → length (mark_token mark.CloseParen ∷ tail) ≤ later
      → ParamsAt to room names total later all (mark_token mark.CloseParen ∷ tail) (new ++ names)
      → SuffixesAt to (suc room) names own (settled own new) total later (o ∷ all) tail names
  params_function all no_void new late x =
      (_, g.params new opens no_void x.1 refl g.no_suffixes, (deep room to.spare, x.2, (λ _. late), tt))

-- all of two lists of suffixes
appended : (b : Bounds) {total most room : ℕ} {names between after : Names} {own inner own' : Own} {ts mid rest : List Token} {ss us : List DirectSuffix}
    → (d : AreSuffixes total most room names own ts mid between inner ss) → suffixes_stand b d
    → (d' : AreSuffixes total most room between inner mid rest after own' us) → suffixes_stand b d'
    → (e : AreSuffixes total most room names own ts rest after own' (ss ++ us)) × suffixes_stand b e
appended b g.no_suffixes s d' s' = (d', s')
appended b (g.array d more) s d' s' = let x = appended b more s.1 d' s' in (g.array d x.0, (s.0, x.1))
appended b (g.empty opens closes more) s d' s' = let x = appended b more s.2 d' s' in (g.empty opens closes x.0, (s.0, s.1, x.1))
appended b (g.void opens is closes more) s d' s' = let x = appended b more s.3 d' s' in (g.void opens is closes x.0, (s.0, s.1, s.2, x.1))
appended b (g.params new opens no_void ps closes more) s d' s' =
    let x = appended b more s.3 d' s' in (g.params new opens no_void ps closes x.0, (s.0, s.1, s.2, x.1))

record ViableSuffixes (to : Deeper) (total room : ℕ) (names : Names) (own : Own) (ts : List Token) (fault : Fault) (tail : List Token) : Type 0 where
  last : Own
  whole : Viable (SuffixesAt to room names own last) total ts fault tail

-- behind the bracket of a function
function_closed : (to : Deeper) (total room : ℕ) (names : Names) (own : Own) (o : Token) (ts : List Token) (e : Fault) (tail : List Token)
    → IsMark mark.OpenParen o → Viable (ParamsAt to room names) total ts e (mark_token mark.CloseParen ∷ tail)
    → ViableSuffixes to total (suc room) names own (o ∷ ts) e tail
function_closed to total room names own o ts e tail opens v =
    let sees : Bool = sees_keyword keyword.Void v.all && sees_mark mark.CloseParen (Rattle.c_grammar.specs.Reading.tail v.all) in
    elim sees as (λ b. (sees ≡ b) → ViableSuffixes to total (suc room) names own (o ∷ ts) e tail) [
      | true ↦ λ is.
          let w : VoidAhead v.all = void_ahead v.all is in
          let alone : IsVoidAlone v.all = subst IsVoidAlone (sym w.stands) (w.is, w.closes) in
          record {
            last = settled own [];
            whole = led o tail v (omega arith) names (λ total' later late x. void_function to room names own total' later o opens tail v.all alone v.after x);
          }
      | false ↦ λ is.
          let no_void : IsVoidAlone v.all → ⊥ = (λ alone. let seen = void_alone v.all alone in absurd cc) in
          let x0 = v.is 0 (length v.put) (omega arith) in
          let grown : Extends names v.after v.all (mark_token mark.CloseParen ∷ tail) = params_extend x0.1 in
          record {
            last = settled own grown.added;
            whole = led o tail v (omega arith) names
                (λ total' later late x.
                params_function to room names own total' later o opens tail v.all no_void grown.added (let y = v.room_there in omega (arith, late, y))
                (subst (λ ns. ParamsAt to room names total' later v.all (mark_token mark.CloseParen ∷ tail) ns) grown.grows x));
          }
    ] refl

module _ (to : Deeper) (total room : ℕ) (inner : Inner) (sound : Sound total to.chain room inner) (below : Viables to total room inner) where
  -- ---- parameters

  parameter_viable : (s : State) (e : Fault) → parameter total inner s ≡ Err e → (tail : List Token) → Viable (ParamAt to room s.names) total s.rest e tail
  unfolding parameter
  parameter_viable s e h tail =
      elim (bind_err (inner.specs s) (λ x. inner.param x.1 >>= λ y. Ok (param_of x.0 y)) e h) [
        | inl p ↦
            let v = below.specs s e p tail in
            onto tail v.whole (omega arith) v.whole.after
            (λ total' later late x.
            let y = nothing_abstract to total' later (raised to.spare room) v.whole.after tail in
            (_, g.unnamed_param x.1 y.1, (x.2, y.2)))
        | inr q ↦
            let (x, there, go) = q in
            let d : AreSpecs total to.chain room s.names s.rest x.1.rest x.1.names x.0.is_typedef x.0.specs = sound.specs s x.1 x.0 there in
            elim (bind_err (inner.param x.1) (λ y. Ok (param_of x.0 y)) e go) [
              | inl p ↦ elim (below.param x.1 e p tail) [
                | inl v ↦ behind_part tail v.whole (moved_specs to d v.whole.all) (omega arith) (declared v.whole.after v.bytes false)
                    (λ total' later late y z. (_, g.named_param y.1 z.1, (y.2, z.2)))
                | inr v ↦ behind_part tail v (moved_specs to d v.all) (omega arith) v.after
                    (λ total' later late y z. (_, g.unnamed_param y.1 z.1, (y.2, z.2)))
              ]
              | inr r ↦ let (y, found, made) = r in absurd cc
            ]
      ]

  parameters_viable : (count : ℕ) (front : List Param) (s : State) (e : Fault) → parameters total inner count front s ≡ Err e
      → (tail : List Token) → Viable (ParamsAt to room s.names) total s.rest e (mark_token mark.CloseParen ∷ tail)
  unfolding parameters
  parameters_viable zero front s e h tail =
      let same : Unexpected (number_of total s.rest) ≡ e = err_is h in
      let close : List Token = mark_token mark.CloseParen ∷ tail in
      put_here (word_token keyword.Int ∷ close) close (ap fault_at (sym same)) (omega arith) s.names
      (λ total' later late. let x = int_param to total' later (raised to.spare room) (some_there to room) s.names close late in (_, g.one_param x.1, x.2))
  parameters_viable (suc count) front s e h tail =
      let close : List Token = mark_token mark.CloseParen ∷ tail in
      elim (bind_err (parameter total inner s)
      (λ x. if sees_mark mark.Comma x.1.rest then parameters total inner count (front ++ x.0 ∷ []) (behind x.1)
      else (expect_mark total mark.CloseParen x.1 >>= λ s'. Ok (front ++ x.0 ∷ [], s'))) e h) [
        | inl p ↦
            let v = parameter_viable s e p close in
            onto close v (omega arith) v.after (λ total' later late x. (_, g.one_param x.1, x.2))
        | inr q ↦
            let (x, there, go) = q in
            let d : IsParam total to.chain room s.names s.rest x.1.rest x.1.names x.0 = parameter_sound total to.chain room inner sound s.names s.rest x there in
            elim (cond_is (sees_mark mark.Comma x.1.rest) (parameters total inner count (front ++ x.0 ∷ []) (behind x.1))
            (expect_mark total mark.CloseParen x.1 >>= λ s'. Ok (front ++ x.0 ∷ [], s')) (Err e) go) [
              | inl p ↦
                  let c = sees_mark_is mark.Comma x.1.rest p.0 in
                  let v = parameters_viable count (front ++ x.0 ∷ []) (behind x.1) e p.1 tail in
                  let d' : IsParam total to.chain room s.names s.rest (c.token ∷ Rattle.c_grammar.specs.Reading.tail x.1.rest) x.1.names x.0 =
                  subst (λ us. IsParam total to.chain room s.names s.rest us x.1.names x.0) c.ts_are d in
                  behind_led c.token close v (moved_param to d' (c.token ∷ v.all)) (omega arith) v.after
                  (λ total' later late y z. (_, g.more_params y.1 c.is z.1, (y.2, none_left room to.spare (param_room d), z.2)))
              | inr p ↦
                  elim (bind_err (expect_mark total mark.CloseParen x.1) (λ s'. Ok (front ++ x.0 ∷ [], s')) e p.1) [
                    | inl r ↦ put_behind close close (mark_missed total mark.CloseParen x.1 e r) (moved_param to d close) (omega arith) x.1.names
                        (λ total' later late y. (_, g.one_param y.1, y.2))
                    | inr r ↦ let (s', closes, made) = r in absurd cc
                  ]
            ]
      ]

  -- ---- suffixes

  size_at_viable : (names : Names) (o : Token) (ts : List Token) (e : Fault) → IsMark mark.OpenBracket o
      → size total inner (at_state names (o ∷ ts)) ≡ Err e → (tail : List Token) → Viable (SizeAt to (suc room) names) total (o ∷ ts) e tail
  unfolding size
  size_at_viable names o ts e opens h tail =
      let s : State = at_state names ts in
      elim (cond_is (sees_mark mark.CloseBracket ts) (Ok (None, behind s))
      (inner.expr extent.Cond s >>= λ x. expect_mark total mark.CloseBracket x.1 >>= λ s'. Ok (Some x.0, s')) (Err e) h) [
        | inl p ↦ absurd (let made = p.1 in cc)
        | inr p ↦
            let v = (then_mark to total room inner sound below extent.Cond mark.CloseBracket s e (λ x s'. (Some x.0, s')) tail p.1).whole in
            led o tail v (omega arith) v.after
            (λ total' later late x. (_, g.sized opens x.1 refl, (deep room to.spare, x.2, λ _. let y = v.room_there in omega (arith, late, y))))
      ]

  size_viable : (names : Names) (ts : List Token) (e : Fault) → sees_mark mark.OpenBracket ts ≡ true
      → size total inner (at_state names ts) ≡ Err e → (tail : List Token) → Viable (SizeAt to (suc room) names) total ts e tail
  size_viable names [] e sees h tail = absurd cc
  size_viable names (o ∷ ts) e sees h tail = size_at_viable names o ts e (mark_is mark.OpenBracket o.kind sees) h tail

  function_at_viable : (names : Names) (own : Own) (o : Token) (ts : List Token) (e : Fault) → IsMark mark.OpenParen o
      → function total room inner own (at_state names (o ∷ ts)) ≡ Err e → (tail : List Token)
      → ViableSuffixes to total (suc room) names own (o ∷ ts) e tail
  unfolding function
  function_at_viable names own o ts e opens h tail =
      let s : State = at_state names (o ∷ ts) in
      let us : List Token = Rattle.c_grammar.specs.Reading.tail ts in
      let read : List Param × State → Outcome ((DirectSuffix × Own) × State) = λ x. Ok
      ((suffix.Params (here total s) x.0, settled own (added s.names x.1.names)), record { names = restored s.names x.1.names; rest = x.1.rest }) in
      let alone : Outcome ((DirectSuffix × Own) × State) =
      cond (nat_eq room 0) (Err (too_deep total (behind s))) (Ok ((suffix.Void (here total s), settled own []), behind (behind (behind s)))) in
      let reads : Outcome ((DirectSuffix × Own) × State) = parameters total inner (length (o ∷ ts)) [] (behind s) >>= read in
      let close : List Token = mark_token mark.CloseParen ∷ tail in
      elim (cond_is (sees_mark mark.CloseParen ts) (Ok ((suffix.Empty (here total s), settled own []), behind (behind s)))
      (cond (sees_keyword keyword.Void ts && sees_mark mark.CloseParen us) alone reads) (Err e) h) [
        | inl p ↦ absurd (let made = p.1 in cc)
        | inr p ↦ elim (cond_is (sees_keyword keyword.Void ts && sees_mark mark.CloseParen us) alone reads (Err e) p.1) [
          | inl q ↦ elim (cond_is (nat_eq room 0) (Err (too_deep total (behind s))) (Ok ((suffix.Void (here total s), settled own []), behind (behind (behind s)))) (Err e) q.1) [
            | inl r ↦ record {
              last = settled own [];
              whole = record {
                from = ts;
                stops = deep_at total (at_state names ts) e (err_is r.1);
                put = close;
                room_there = omega arith;
                all = o ∷ close;
                swapped = more_swapped at_tail;
                after = names;
                is = λ total' later late. (_, g.empty opens refl g.no_suffixes, (deep room to.spare, (λ _. late), tt));
              };
            }
            | inr r ↦ absurd (let made = r.1 in cc)
          ]
          | inr q ↦ elim (bind_err (parameters total inner (length (o ∷ ts)) [] (behind s)) read e q.1) [
            | inl r ↦ function_closed to total room names own o ts e tail opens (parameters_viable (length (o ∷ ts)) [] (at_state names ts) e r tail)
            | inr r ↦ let (x, there, made) = r in absurd cc
          ]
        ]
      ]

  function_viable : (names : Names) (own : Own) (ts : List Token) (e : Fault) → sees_mark mark.OpenParen ts ≡ true
      → function total room inner own (at_state names ts) ≡ Err e → (tail : List Token) → ViableSuffixes to total (suc room) names own ts e tail
  function_viable names own [] e sees h tail = absurd cc
  function_viable names own (o ∷ ts) e sees h tail = function_at_viable names own o ts e (mark_is mark.OpenParen o.kind sees) h tail

  suffixes_viable : (count : ℕ) (own : Own) (front : List DirectSuffix) (s : State) (e : Fault) → suffixes total room inner count own front s ≡ Err e
      → (tail : List Token) → ViableSuffixes to total (suc room) s.names own s.rest e tail
  unfolding suffixes
  suffixes_viable zero own front s e h tail = absurd cc
  suffixes_viable (suc count) own front s e h tail =
      let arrays_on : Option Expr × State → Outcome ((List DirectSuffix × Own) × State) = λ x.
      suffixes total room inner count (settled own []) (front ++ suffix.Array (here total s) x.0 ∷ []) x.1 in
      let on : (DirectSuffix × Own) × State → Outcome ((List DirectSuffix × Own) × State) = λ x.
      suffixes total room inner count x.0.1 (front ++ x.0.0 ∷ []) x.1 in
      elim (cond_is (sees_mark mark.OpenBracket s.rest) (size total inner s >>= arrays_on)
      (cond (sees_mark mark.OpenParen s.rest) (function total room inner own s >>= on) (Ok ((front, own), s))) (Err e) h) [
        | inl p ↦ elim (bind_err (size total inner s) arrays_on e p.1) [
          | inl q ↦
              let v = size_viable s.names s.rest e p.0 q tail in
              record { last = settled own []; whole = onto tail v (omega arith) v.after (λ total' later late x. (_, g.array x.1 g.no_suffixes, (x.2, tt))) }
          | inr q ↦
              let (x, there, go) = q in
              let d : IsSize total to.chain (suc room) s.names s.rest x.1.rest x.1.names x.0 = size_sound total to.chain room inner sound s.names s.rest x p.0 there in
              let v = suffixes_viable count (settled own []) (front ++ suffix.Array (here total s) x.0 ∷ []) x.1 e go tail in
              record {
                last = v.last;
                whole = behind_part tail v.whole (moved_size to d v.whole.all) (omega arith) v.whole.after
                    (λ total' later late y z. (_, g.array y.1 z.1, (y.2, z.2)));
              }
        ]
        | inr p ↦ elim (cond_is (sees_mark mark.OpenParen s.rest) (function total room inner own s >>= on) (Ok ((front, own), s)) (Err e) p.1) [
          | inl q ↦ elim (bind_err (function total room inner own s) on e q.1) [
            | inl r ↦ function_viable s.names own s.rest e q.0 r tail
            | inr r ↦
                let (x, there, go) = r in
                let f : Follows total to.chain room s.names own s.rest x = function_sound total to.chain room inner sound s.names own s.rest x q.0 there in
                let one : AreSuffixes total to.chain (suc room) s.names own s.rest x.1.rest x.1.names x.0.1 (x.0.0 ∷ []) =
                f.follows x.1.rest x.1.names x.0.1 [] g.no_suffixes in
                let v = suffixes_viable count x.0.1 (front ++ x.0.0 ∷ []) x.1 e go tail in
                record {
                  last = v.last;
                  whole = behind_part tail v.whole (moved_suffixes to one v.whole.all) (omega arith) v.whole.after
                      (λ total' later late y z. let a = appended (bounds to later) y.1 y.2 z.1 z.2 in (y.0 ++ z.0, a.0, a.1));
                }
          ]
          | inr q ↦ absurd (let made = q.1 in cc)
        ]
      ]

-- ---- declarators

record ViableDirect (to : Deeper) (total room : ℕ) (names : Names) (ts : List Token) (fault : Fault) (tail : List Token) : Type 0 where
  bytes : List ℕ
  own : Own
  whole : Viable (DirectAt to room names bytes own) total ts fault tail

-- what is behind the pointers of a declarator
abbrev DirectedAt : Deeper → ℕ → Names → List ℕ → Own → ℕ → ℕ → List Token → List Token → Names → Type 0
DirectedAt to room names bytes own total later ts rest after =
    (inner : Own) × (between : Names) × (mid : List Token) × (tree : Direct Declarator) × (ss : List DirectSuffix)
    × (d : IsDirect total to.wide (raised to.spare room) names ts mid between bytes inner tree)
    × (us : AreSuffixes total to.wide (raised to.spare room) between inner mid rest after own ss) × direct_stands (bounds to later) d × suffixes_stand (bounds to later) us

record ViableDirected (to : Deeper) (total room : ℕ) (names : Names) (ts : List Token) (fault : Fault) (tail : List Token) : Type 0 where
  bytes : List ℕ
  own : Own
  whole : Viable (DirectedAt to room names bytes own) total ts fault tail

-- behind the pointers that were read
pointed : (to : Deeper) (total room : ℕ) (names : Names) (ts : List Token) (ps : List (List Qualifier)) (start : State) (e : Fault) (tail : List Token)
    → start.names ≡ names → ArePointers (suc room) ts start.rest ps → ViableDirected to total (suc room) start.names start.rest e tail
    → ViableDeclarator to total (suc room) names ts e tail
pointed to total room names ts ps start e tail same are v = record {
  bytes = v.bytes;
  own = behind_pointers ps v.own;
  whole = subst (λ ns. Viable (DeclaratorAt to (suc room) ns v.bytes (behind_pointers ps v.own)) total ts e tail) same
      (behind_part tail v.whole (moved_pointers to are v.whole.all) (omega arith) v.whole.after
      (λ total' later late y z. (_, g.declarator y.0 z.5 z.6, (y.1, z.7, z.8))));
}

-- pointers without qualifiers, and sizes behind them
bare_abstract : (b : Bounds) {total most room : ℕ} {names after : Names} {ts mid rest : List Token} {ps : List (List Qualifier)} {us : List (Option Expr)}
    → (d : ArePointers room ts mid ps) → pointers_stand b d → are_bare ps ≡ true
    → (are : AreSizes total most room names mid rest after us) → sizes_stand b are
    → (tree : Abstract Expr) × (a : IsAbstract total most room names ts rest after tree) × abstract_stands b a
bare_abstract b g.no_pointers s bare are z = (_, g.arrays are, z)
bare_abstract b (g.more_pointers is g.no_qualifiers more) s bare are z =
    let x = bare_abstract b more s.2 bare are z in (_, g.pointer is x.1, (s.0, x.2))
bare_abstract b (g.more_pointers is (g.more_qualifiers q it qs) more) s bare are z = absurd cc

-- stars that were read, before sizes
stars_viable : (to : Deeper) (total room : ℕ) (names : Names) (e : Fault) (tail : List Token) (count : ℕ) (ts : List Token)
    → Viable (SizesAt to (suc room) names) total (stars count ts).1 e tail → Viable (AbstractAt to (suc room) names) total ts e tail
unfolding stars
stars_viable to total room names e tail count [] v = onto tail v (omega arith) v.after (λ total' later late x. (_, g.arrays x.1, x.2))
stars_viable to total room names e tail count (t ∷ ts) v =
    elim (is_mark mark.Star t.kind) as (λ b. (is_mark mark.Star t.kind ≡ b)
    → Viable (SizesAt to (suc room) names) total (cond b (stars (suc count) ts) (count, t ∷ ts)).1 e tail → Viable (AbstractAt to (suc room) names) total (t ∷ ts) e tail) [
      | true ↦ λ is w.
          let u = stars_viable to total room names e tail (suc count) ts w in
          led t tail u (omega arith) u.after (λ total' later late x. (_, g.pointer (mark_is mark.Star t.kind is) x.1, (deep room to.spare, x.2)))
      | false ↦ λ is w. onto tail w (omega arith) w.after (λ total' later late x. (_, g.arrays x.1, x.2))
    ] refl v

module _ (to : Deeper) (total room : ℕ) (inner : Inner) (sound : Sound total to.chain room inner) (below : Viables to total room inner) where
  paren_viable : (names : Names) (o : Token) (ts : List Token) (e : Fault) → IsMark mark.OpenParen o
      → ◌≡◌ {A = Outcome (ReadDirect × State)} (inner.declarator (at_state names ts)
      >>= λ x. expect_mark total mark.CloseParen x.1
      >>= λ s'. Ok (record { tree = direct.Nested (number_of total (o ∷ ts)) x.0.tree; name = x.0.name; own = x.0.own }, s')) (Err e)
      → (tail : List Token) → ViableDirect to total (suc room) names (o ∷ ts) e tail
  paren_viable names o ts e opens h tail =
      let made : ReadDeclarator → ReadDirect = λ d. record { tree = direct.Nested (number_of total (o ∷ ts)) d.tree; name = d.name; own = d.own } in
      let close : List Token = mark_token mark.CloseParen ∷ tail in
      elim (bind_err (inner.declarator (at_state names ts)) (λ x. expect_mark total mark.CloseParen x.1 >>= λ s'. Ok (made x.0, s')) e h) [
        | inl p ↦
            let v = below.declarator (at_state names ts) e p close in
            record {
              bytes = v.bytes;
              own = v.own;
              whole = led o tail v.whole (omega arith) v.whole.after
                  (λ total' later late x. (_, g.nested opens x.1 refl, (deep room to.spare, x.2, λ _. let y = v.whole.room_there in omega (arith, late, y))));
            }
        | inr q ↦
            let (x, there, go) = q in
            let d : IsDeclarator total to.chain room names ts x.1.rest x.1.names x.0.name x.0.own x.0.tree = sound.declarator (at_state names ts) x.1 x.0 there in
            elim (bind_err (expect_mark total mark.CloseParen x.1) (λ s'. Ok (made x.0, s')) e go) [
              | inl p ↦
                  let v : Viable (DeclaratorAt to room names x.0.name x.0.own) total ts e close =
                  put_behind close close (mark_missed total mark.CloseParen x.1 e p) (moved_declarator to d close) (omega arith) x.1.names (λ total' later late y. y) in
                  record {
                    bytes = x.0.name;
                    own = x.0.own;
                    whole = led o tail v (omega arith) v.after
                        (λ total' later late y. (_, g.nested opens y.1 refl, (deep room to.spare, y.2, λ _. let z = v.room_there in omega (arith, late, z))));
                  }
              | inr p ↦ let (s', closes, found) = p in absurd cc
            ]
      ]

  name_viable : (names : Names) (ts : List Token) (e : Fault)
      → ◌≡◌ {A = Outcome (ReadDirect × State)} (expect_name total (at_state names ts)
      >>= λ x. Ok (record { tree = direct.Name x.0; name = x.0.text; own = Open }, x.1)) (Err e)
      → (tail : List Token) → ViableDirect to total (suc room) names ts e tail
  name_viable names ts e h tail =
      let made : Name × State → ReadDirect × State = λ x. (record { tree = direct.Name x.0; name = x.0.text; own = Open }, x.1) in
      elim (bind_err (expect_name total (at_state names ts)) (λ x. Ok (made x)) e h) [
        | inl p ↦ record {
          bytes = [];
          own = Open;
          whole = put_here (name_token ∷ tail) tail (name_missed total (at_state names ts) e p) (omega arith) names
              (λ total' later late. (_, g.direct_name refl, deep room to.spare));
        }
        | inr p ↦ let (x, there, found) = p in absurd cc
      ]

  direct_viable : (names : Names) (ts : List Token) (e : Fault) → direct_at total inner (at_state names ts) ≡ Err e
      → (tail : List Token) → ViableDirect to total (suc room) names ts e tail
  unfolding direct_at
  direct_viable names [] e h tail = name_viable names [] e h tail
  direct_viable names (o ∷ ts) e h tail =
      elim (cond_is (sees_mark mark.OpenParen (o ∷ ts)) (inner.declarator (at_state names ts)
      >>= λ x. expect_mark total mark.CloseParen x.1
      >>= λ s'. Ok (record { tree = direct.Nested (number_of total (o ∷ ts)) x.0.tree; name = x.0.name; own = x.0.own }, s'))
      (expect_name total (at_state names (o ∷ ts)) >>= λ x. Ok (record { tree = direct.Name x.0; name = x.0.text; own = Open }, x.1)) (Err e) h) [
        | inl p ↦ paren_viable names o ts e (mark_is mark.OpenParen o.kind p.0) p.1 tail
        | inr p ↦ name_viable names (o ∷ ts) e p.1 tail
      ]

  directed_viable : (token : ℕ) (ps : List (List Qualifier)) (s : State) (e : Fault) → declarator_from total room inner token ps s ≡ Err e
      → (tail : List Token) → ViableDirected to total (suc room) s.names s.rest e tail
  unfolding declarator_from
  directed_viable token ps s e h tail =
      let tree : ReadDirect × State → (List DirectSuffix × Own) × State → ReadDeclarator = λ x z. record {
        tree = roll-Declarator (record { token = token; pointers = ps; direct = x.0.tree; suffixes = z.0.0 });
        name = x.0.name;
        own = behind_pointers ps z.0.1;
      } in
      elim (bind_err (direct_at total inner s)
      (λ x. suffixes total room inner (length x.1.rest) x.0.own [] x.1 >>= λ z. Ok (tree x z, z.1)) e h) [
        | inl p ↦
            let v = direct_viable s.names s.rest e p tail in
            record {
              bytes = v.bytes;
              own = v.own;
              whole = onto tail v.whole (omega arith) v.whole.after
                  (λ total' later late x. (v.own, v.whole.after, tail, x.0, [], x.1, g.no_suffixes, x.2, tt));
            }
        | inr q ↦
            let (x, there, go) = q in
            let d : IsDirect total to.chain (suc room) s.names s.rest x.1.rest x.1.names x.0.name x.0.own x.0.tree =
            direct_sound total to.chain room inner sound s.names s.rest x there in
            elim (bind_err (suffixes total room inner (length x.1.rest) x.0.own [] x.1) (λ z. Ok (tree x z, z.1)) e go) [
              | inl p ↦
                  let v = suffixes_viable to total room inner sound below (length x.1.rest) x.0.own [] x.1 e p tail in
                  record {
                    bytes = x.0.name;
                    own = v.last;
                    whole = behind_part tail v.whole (moved_direct to d v.whole.all) (omega arith) v.whole.after
                        (λ total' later late y z. (x.0.own, x.1.names, v.whole.all, y.0, z.0, y.1, z.1, y.2, z.2));
                  }
              | inr p ↦ let (z, found, made) = p in absurd cc
            ]
      ]

  pub declarator_viable : (s : State) (e : Fault) → Rattle.c_grammar.specs.ReadingDecl.declarator total room inner s ≡ Err e
      → (tail : List Token) → ViableDeclarator to total (suc room) s.names s.rest e tail
  unfolding Rattle.c_grammar.specs.ReadingDecl.declarator
  declarator_viable s e h tail =
      let x : List (List Qualifier) × State = pointers (length s.rest) [] s in
      let f : PointersFound room s.names s.rest [] x = pointers_found room (length s.rest) [] s.names s.rest in
      let are : ArePointers (suc room) s.rest x.1.rest x.0 = subst (λ ps. ArePointers (suc room) s.rest x.1.rest ps) (sym f.all) f.are in
      pointed to total room s.names s.rest x.0 x.1 e tail f.names_are are (directed_viable (here total s) x.0 x.1 e h tail)

  -- ---- declarators without a name

  sizes_viable : (count : ℕ) (front : List (Option Expr)) (s : State) (e : Fault) → sizes total inner count front s ≡ Err e
      → (tail : List Token) → Viable (SizesAt to (suc room) s.names) total s.rest e tail
  unfolding sizes
  sizes_viable zero front s e h tail = absurd cc
  sizes_viable (suc count) front s e h tail =
      let read : Option Expr × State → Outcome (List (Option Expr) × State) = λ x. sizes total inner count (front ++ x.0 ∷ []) x.1 in
      elim (cond_is (sees_mark mark.OpenBracket s.rest) (size total inner s >>= read) (Ok (front, s)) (Err e) h) [
        | inl p ↦ elim (bind_err (size total inner s) read e p.1) [
          | inl q ↦
              let v = size_viable to total room inner sound below s.names s.rest e p.0 q tail in
              onto tail v (omega arith) v.after (λ total' later late x. (_, g.more_sizes x.1 g.no_sizes, (x.2, tt)))
          | inr q ↦
              let (x, there, go) = q in
              let d : IsSize total to.chain (suc room) s.names s.rest x.1.rest x.1.names x.0 = size_sound total to.chain room inner sound s.names s.rest x p.0 there in
              let v = sizes_viable count (front ++ x.0 ∷ []) x.1 e go tail in
              behind_part tail v (moved_size to d v.all) (omega arith) v.after (λ total' later late y z. (_, g.more_sizes y.1 z.1, (y.2, z.2)))
        ]
        | inr p ↦ absurd (let made = p.1 in cc)
      ]

  sizes_from_viable : (count : ℕ) (s : State) (e : Fault) → unnamed_from total inner count s ≡ Err e
      → (tail : List Token) → Viable (SizesAt to (suc room) s.names) total s.rest e tail
  sizes_from_viable count s e h tail =
      let made : List (Option Expr) × State → Abstract Expr × State = λ x. (record { pointers = count; sizes = x.0 }, x.1) in
      elim (bind_err (sizes total inner (length s.rest) [] s) (λ x. Ok (made x)) e h) [
        | inl p ↦ sizes_viable (length s.rest) [] s e p tail
        | inr p ↦ let (x, there, found) = p in absurd cc
      ]

  pub unnamed_viable : (s : State) (e : Fault) → unnamed total inner s ≡ Err e → (tail : List Token)
      → Viable (AbstractAt to (suc room) s.names) total s.rest e tail
  unfolding unnamed
  unnamed_viable s e h tail =
      let x : ℕ × List Token = stars 0 s.rest in
      stars_viable to total room s.names e tail 0 s.rest (sizes_from_viable x.0 (at_rest s x.1) e h tail)

  pub param_viable : (s : State) (e : Fault) → param_declarator total room inner s ≡ Err e → (tail : List Token)
      → ViableDeclarator to total (suc room) s.names s.rest e tail ⊎ Viable (AbstractAt to (suc room) s.names) total s.rest e tail
  unfolding param_declarator
  param_viable s e h tail =
      let x : List (List Qualifier) × State = pointers (length s.rest) [] s in
      let f : PointersFound room s.names s.rest [] x = pointers_found room (length s.rest) [] s.names s.rest in
      let are : ArePointers (suc room) s.rest x.1.rest x.0 = subst (λ ps. ArePointers (suc room) s.rest x.1.rest ps) (sym f.all) f.are in
      let named : Outcome (ReadParam × State) = declarator_from total room inner (here total s) x.0 x.1 >>= λ y. Ok (Named y.0, y.1) in
      let nameless : Outcome (ReadParam × State) = unnamed_from total inner (length x.0) x.1 >>= λ y. Ok (Unnamed y.0, y.1) in
      let fails : Outcome (ReadParam × State) = Err (Unexpected (here total x.1)) in
      elim (cond_is (starts_direct x.1.rest) named (cond (are_bare x.0) nameless fails) (Err e) h) [
        | inl q ↦ elim (bind_err (declarator_from total room inner (here total s) x.0 x.1) (λ y. Ok (Named y.0, y.1)) e q.1) [
          | inl r ↦ inl (pointed to total room s.names s.rest x.0 x.1 e tail f.names_are are (directed_viable (here total s) x.0 x.1 e r tail))
          | inr r ↦ let (y, there, made) = r in absurd cc
        ]
        | inr q ↦ elim (cond_is (are_bare x.0) nameless fails (Err e) q.1) [
          | inl r ↦ elim (bind_err (unnamed_from total inner (length x.0) x.1) (λ y. Ok (Unnamed y.0, y.1)) e r.1) [
            | inl w ↦
                let v = sizes_from_viable (length x.0) x.1 e w tail in
                inr (subst (λ ns. Viable (AbstractAt to (suc room) ns) total s.rest e tail) f.names_are
                (behind_part tail v (moved_pointers to are v.all) (omega arith) v.after
                (λ total' later late y z. bare_abstract (bounds to later) y.0 y.1 r.0 z.1 z.2)))
            | inr w ↦ let (y, there, made) = w in absurd cc
          ]
          | inr r ↦
              let same : Unexpected (here total x.1) ≡ e = err_is r.1 in
              inl (record {
                bytes = [];
                own = behind_pointers x.0 Open;
                whole = put_behind (name_token ∷ tail) tail (ap fault_at (sym same)) (moved_pointers to are (name_token ∷ tail)) (omega arith) s.names
                    (λ total' later late y. (_, g.declarator y.0 (g.direct_name refl) g.no_suffixes, (y.1, deep room to.spare, tt)));
              })
        ]
      ]
