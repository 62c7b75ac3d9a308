-- Where specifiers aren't read, they are viable.
use Rattle.std.proofs.Common.{◌≡◌, ℕ, zero, suc, ◌≤◌, ◌||◌, ◌++◌, inl, inr, nat_eq, Bool, false, if◌then◌else◌, Option, Some, None, Ok, Err, List, [], ◌∷◌, length, refl, sym, ap, subst, ◌∙◌, arith}
use Rattle.std.proofs.lemmas.Bool.{eqb-true}
use Rattle.c_lex.specs.declared.token.Token.{Token}
use Rattle.c_lex.specs.declared.token.TokenKind.TheVariants as kind
use Rattle.c_lex.specs.declared.token.Keyword.TheVariants as keyword
use Rattle.c_lex.specs.declared.token.Mark.TheVariants as mark
use Rattle.c_ast.specs.declared.words.Name.{Name}
use Rattle.c_ast.specs.declared.words.TypeWord.TheVariants as type_word
use Rattle.c_ast.specs.declared.expression.Expr.{Expr}
use Rattle.c_ast.specs.declared.declaration.Specifier.{Specifier}
use Rattle.c_ast.specs.declared.declaration.Specifier.TheVariants as specifier
use Rattle.c_ast.specs.declared.declaration.StructSpec.{StructSpec}
use Rattle.c_ast.specs.declared.declaration.StructSpec.TheVariants as a_struct
use Rattle.c_ast.specs.declared.declaration.Member.{Member, roll-Member}
use Rattle.c_ast.specs.declared.declaration.EnumSpec.{EnumSpec}
use Rattle.c_ast.specs.declared.declaration.EnumSpec.TheVariants as an_enum
use Rattle.c_ast.specs.declared.declaration.Enumerator.{Enumerator}
use Rattle.c_ast.specs.declared.declaration.Declarator.{Declarator}
use Rattle.c_grammar.specs.declared.phrases.Extent.TheVariants as extent
use Rattle.c_grammar.specs.Names.{Names, declared}
use Rattle.c_grammar.specs.Words.{IsMark, IsKeyword, number_of}
use Rattle.c_grammar.specs.Types.{Typed, Untyped, Words, Whole, IsOneType, declares_types}
use Rattle.c_grammar.specs.Grammar as g
use Rattle.c_grammar.specs.Grammar.{Cond, IsMember, IsDeclarator, IsEnumerator, IsStruct, IsEnum}
use Rattle.c_grammar.specs.Nesting.{Stands, member_stands, enumerator_stands}
use Rattle.c_grammar.specs.Reading.{State, Fault, Unexpected, Outcome, ◌>>=◌, sees_mark, behind, here, expect_mark, expect_name, name_at_front}
use Rattle.c_grammar.specs.ReadingDecl.{members_declared, member, members, struct_body, struct_spec, too_deep, with_declared, enumerator, enumerators, enum_body, enum_spec, Saying, SaysStorage, SaysQualifier, SaysWord, SaysStruct, SaysEnum, SaysName, SaysNothing, saying_of, ended_specs, GoesOn, by_saying, specifiers, specs}
use Rattle.c_grammar.specs.Inner.{Inner}
use Rattle.c_grammar.proofs.Late.{raised}
use Rattle.c_grammar.proofs.Laws.{Sound, at_state}
use Rattle.c_grammar_laws.proofs.ExprFound.{choose_is, cond_is, sees_mark_is}
use Rattle.c_grammar_laws.proofs.SpecsFound.{moved_both, Taken, expect_mark_is, expect_name_is, name_at_front_is}
use Rattle.c_grammar.proofs.SpecsTypes.{one_word}
use Rattle.c_grammar_laws.proofs.SpecsParts.{member_sound, enumerator_sound, struct_spec_sound, enum_spec_sound}
use Rattle.c_grammar_laws.proofs.SpecsSound.{SaysIn, says, taken_sound}
use Rattle.c_grammar_laws.proofs.Deep.{Deeper, bounds, more_swapped, joined, Moved, deep, none_left, ExprAt, DeclaratorsAt, MemberAt, MembersAt, StructAt, EnumeratorAt, EnumeratorsAt, EnumAt, SpecifiersAt}
use Rattle.c_grammar_laws.proofs.Moves.{moved_declarator, moved_specs, moved_member, moved_struct, moved_enumerator, moved_enum, declarator_room}
use Rattle.c_grammar_laws.proofs.Viable.{Viable, ViableSpecs, Viables, fault_at, bind_err, err_is, mark_missed, deep_at, onto, led, behind_part, put_behind, put_here, mark_token, name_token, word_token, int_specs, name_declarator, raised_big}
use Rattle.c_grammar_laws.proofs.ViableExpr.{name_missed}

-- ---- parts of what is viable

-- behind two tokens
abbrev pub led_two : {A B : ℕ → ℕ → List Token → List Token → Names → Type 0} {total : ℕ} {ts : List Token} {e : Fault} {long : List Token} (t u : Token) (tail : List Token)
    (v : Viable A total ts e long) → length tail ≤ length long → (after : Names)
    → ((total' later : ℕ) → length v.put ≤ later → A total' later v.all long v.after → B total' later (t ∷ u ∷ v.all) tail after) → Viable B total (t ∷ u ∷ ts) e tail
led_two t u tail v less after on = record {
  from = v.from;
  stops = v.stops;
  put = v.put;
  room_there = let x = v.room_there in omega (arith, less, x);
  all = t ∷ u ∷ v.all;
  swapped = more_swapped (more_swapped v.swapped);
  after = after;
  is = λ total' later late. on total' later late (v.is total' later late);
}

-- behind a part that was read, and the token behind it
abbrev pub behind_led : {A B C : ℕ → ℕ → List Token → List Token → Names → Type 0} {total : ℕ} {ts mid : List Token} {between : Names} {e : Fault} {long : List Token}
    (t : Token) (tail : List Token) (v : Viable A total mid e long) (m : Moved C ts (t ∷ mid) (t ∷ v.all) between) → length tail ≤ length long → (after : Names)
    → ((total' later : ℕ) → length v.put ≤ later → C total' later m.all (t ∷ v.all) between → A total' later v.all long v.after → B total' later m.all tail after)
    → Viable B total ts e tail
behind_led t tail v m less after on = record {
  from = v.from;
  stops = v.stops;
  put = v.put;
  room_there = let x = v.room_there in omega (arith, less, x);
  all = m.all;
  swapped = joined m.swapped (more_swapped v.swapped);
  after = after;
  is = λ total' later late. on total' later late (m.is total' later) (v.is total' later late);
}

pub some_there : (to : Deeper) (room : ℕ) → 1 ≤ raised to.spare room
some_there to room = let y = raised_big to.spare room in let z = to.deeper in omega (arith, y, z)

-- ---- braces

-- braces around what stands in a structure or in an enumeration
data BracedAt (In : ℕ → ℕ → List Token → List Token → Names → Type 0) (to : Deeper) (room total later : ℕ) : List Token → List Token → Names → Type 0 where
  braced : {o c : Token} {ts rest : List Token} {after : Names}
      → IsMark mark.OpenBrace o → In total later ts (c ∷ rest) after → IsMark mark.CloseBrace c
      → Stands (bounds to later) (suc (raised to.spare room)) (o ∷ ts) → Stands (bounds to later) (suc (raised to.spare room)) (c ∷ rest)
      → BracedAt In to room total later (o ∷ ts) rest after

-- behind the brace that was read
opened : (In : Names → ℕ → ℕ → List Token → List Token → Names → Type 0) (to : Deeper) (room total : ℕ) (s start : State) (e : Fault) (tail : List Token)
    → Taken mark.OpenBrace s start → Viable (In start.names) total start.rest e (mark_token mark.CloseBrace ∷ tail)
    → Viable (BracedAt (In s.names) to room) total s.rest e tail
opened In to room total s start e tail t v =
    let there : Viable (BracedAt (In start.names) to room) total (t.token ∷ start.rest) e tail =
    led t.token tail v (omega arith) v.after
    (λ total' later late x. braced t.is x refl (deep room to.spare) (λ _. let y = v.room_there in omega (arith, late, y))) in
    subst (λ ns. Viable (BracedAt (In ns) to room) total s.rest e tail) (sym t.names)
    (subst (λ us. Viable (BracedAt (In start.names) to room) total us e tail) (sym t.are) there)

-- where the brace itself is missed, with the least that stands in it
brace_missed : (In : ℕ → ℕ → List Token → List Token → Names → Type 0) (to : Deeper) (room total : ℕ) (s : State) (e : Fault) (least tail : List Token) (after : Names)
    → expect_mark total mark.OpenBrace s ≡ Err e → length (mark_token mark.CloseBrace ∷ tail) ≤ length least
    → ((total' later : ℕ) → length least ≤ later → In total' later least (mark_token mark.CloseBrace ∷ tail) after)
    → Viable (BracedAt In to room) total s.rest e tail
brace_missed In to room total s e least tail after h more is =
    put_here (mark_token mark.OpenBrace ∷ least) tail (mark_missed total mark.OpenBrace s e h) (omega (arith, more)) after
    (λ total' later late. braced refl (is total' later (omega (arith, late))) refl (λ _. late) (λ _. omega (arith, late, more)))

untagged : (to : Deeper) (room : ℕ) (names : Names) (total later : ℕ) (k : Token) {ts rest : List Token} {after : Names} → IsKeyword keyword.Struct k
    → BracedAt (MembersAt to room names) to room total later ts rest after → StructAt to (suc room) names total later (k ∷ ts) rest after
untagged to room names total later k is (braced opens x closes left right) =
    (_, g.struct_untagged is opens x.1 closes, (deep room to.spare, left, x.2, right))

tagged : (to : Deeper) (room : ℕ) (names : Names) (total later : ℕ) (k n : Token) {ts rest : List Token} {after : Names} → IsKeyword keyword.Struct k
    → n.kind ≡ kind.Name
    → BracedAt (MembersAt to room names) to room total later ts rest after → StructAt to (suc room) names total later (k ∷ n ∷ ts) rest after
tagged to room names total later k n is name (braced opens x closes left right) =
    (_, g.struct_tagged is name opens x.1 closes, (deep room to.spare, deep room to.spare, left, x.2, right))

enum_untagged : (to : Deeper) (room : ℕ) (names : Names) (total later : ℕ) (k : Token) {ts rest : List Token} {after : Names} → IsKeyword keyword.Enum k
    → BracedAt (EnumeratorsAt to room names) to room total later ts rest after → EnumAt to (suc room) names total later (k ∷ ts) rest after
enum_untagged to room names total later k is (braced opens x closes left right) =
    (_, g.enum_untagged is opens x.1 closes, (deep room to.spare, left, x.2, right))

enum_tagged : (to : Deeper) (room : ℕ) (names : Names) (total later : ℕ) (k n : Token) {ts rest : List Token} {after : Names} → IsKeyword keyword.Enum k
    → n.kind ≡ kind.Name
    → BracedAt (EnumeratorsAt to room names) to room total later ts rest after → EnumAt to (suc room) names total later (k ∷ n ∷ ts) rest after
enum_tagged to room names total later k n is name (braced opens x closes left right) =
    (_, g.enum_tagged is name opens x.1 closes, (deep room to.spare, deep room to.spare, left, x.2, right))

-- ---- what is put in a place

abbrev int_name : List Token → List Token
int_name tail = word_token keyword.Int ∷ name_token ∷ mark_token mark.Semicolon ∷ tail

module _ (to : Deeper) (total later : ℕ) where
  -- `int name ;`
  int_member : (room : ℕ) → 1 ≤ room → (names : Names) (tail : List Token) → length (int_name tail) ≤ later
      → (tree : Member) × (d : IsMember total to.wide room names (int_name tail) tail names tree) × member_stands (bounds to later) d
  int_member room some names tail late =
      let end : List Token = mark_token mark.Semicolon ∷ tail in
      let x = int_specs to total later room some names (name_token ∷ end) late in
      let y = name_declarator to total later room some names end (omega (arith, late)) in
      (_, g.member x.1 (g.one_declarator y.1) refl, (x.2, y.2, λ _. omega (arith, late)))

  -- a name that an enumeration declares
  name_enumerator : (room : ℕ) → 1 ≤ room → (names : Names) (tail : List Token) → length (name_token ∷ tail) ≤ later
      → (tree : Enumerator Expr) × (d : IsEnumerator total to.wide room names (name_token ∷ tail) tail (declared names [] false) tree) × enumerator_stands (bounds to later) d
  name_enumerator zero some names tail late = absurd (omega (arith, some))
  name_enumerator (suc room) some names tail late = (_, g.enumerator refl, λ _. late)

-- ---- structures

module _ (to : Deeper) (total room : ℕ) (inner : Inner) (sound : Sound total to.chain room inner) (below : Viables to total room inner) where
  declarators_viable : (count : ℕ) (front : List Declarator) (s : State) (e : Fault) → members_declared total inner count front s ≡ Err e
      → (tail : List Token) → Viable (DeclaratorsAt to room s.names) total s.rest e (mark_token mark.Semicolon ∷ tail)
  unfolding members_declared
  declarators_viable zero front s e h tail =
      let same : Unexpected (number_of total s.rest) ≡ e = err_is h in
      let end : List Token = mark_token mark.Semicolon ∷ tail in
      put_here (name_token ∷ end) end (ap fault_at (sym same)) (omega arith) s.names
      (λ total' later late. let x = name_declarator to total' later (raised to.spare room) (some_there to room) s.names end late in (_, g.one_declarator x.1, x.2))
  declarators_viable (suc count) front s e h tail =
      let end : List Token = mark_token mark.Semicolon ∷ tail in
      elim (bind_err (inner.declarator s)
      (λ x. if sees_mark mark.Comma x.1.rest then members_declared total inner count (front ++ x.0.tree ∷ []) (behind x.1)
      else (expect_mark total mark.Semicolon x.1 >>= λ s'. Ok (front ++ x.0.tree ∷ [], s'))) e h) [
        | inl p ↦
            let v = below.declarator s e p end in
            onto end v.whole (omega arith) v.whole.after (λ total' later late x. (_, g.one_declarator x.1, x.2))
        | inr q ↦
            let (x, there, go) = q in
            let d : IsDeclarator total to.chain room s.names s.rest x.1.rest x.1.names x.0.name x.0.own x.0.tree = sound.declarator s x.1 x.0 there in
            elim (cond_is (sees_mark mark.Comma x.1.rest) (members_declared total inner count (front ++ x.0.tree ∷ []) (behind x.1))
            (expect_mark total mark.Semicolon x.1 >>= λ s'. Ok (front ++ x.0.tree ∷ [], s')) (Err e) go) [
              | inl p ↦
                  let c = sees_mark_is mark.Comma x.1.rest p.0 in
                  let v = declarators_viable count (front ++ x.0.tree ∷ []) (behind x.1) e p.1 tail in
                  let d' : IsDeclarator total to.chain room s.names s.rest (c.token ∷ Rattle.c_grammar.specs.Reading.tail x.1.rest) x.1.names x.0.name x.0.own x.0.tree =
                  subst (λ us. IsDeclarator total to.chain room s.names s.rest us x.1.names x.0.name x.0.own x.0.tree) c.ts_are d in
                  behind_led c.token end v (moved_declarator to d' (c.token ∷ v.all)) (omega arith) v.after
                  (λ total' later late y z. (_, g.more_declarators y.1 c.is z.1, (y.2, none_left room to.spare (declarator_room d), z.2)))
              | inr p ↦
                  elim (bind_err (expect_mark total mark.Semicolon x.1) (λ s'. Ok (front ++ x.0.tree ∷ [], s')) e p.1) [
                    | inl r ↦ put_behind end end (mark_missed total mark.Semicolon x.1 e r) (moved_declarator to d end) (omega arith) x.1.names
                        (λ total' later late y. (_, g.one_declarator y.1, y.2))
                    | inr r ↦ let (s', closes, made) = r in absurd cc
                  ]
            ]
      ]

  member_viable : (s : State) (e : Fault) → member total inner s ≡ Err e → (tail : List Token) → Viable (MemberAt to room s.names) total s.rest e tail
  unfolding member
  member_viable s e h tail =
      let end : List Token = mark_token mark.Semicolon ∷ tail in
      elim (bind_err (inner.specs s)
      (λ x. members_declared total inner (length x.1.rest) [] x.1 >>= λ y. Ok (roll-Member (record { specs = x.0.specs; declarators = y.0 }), y.1)) e h) [
        | inl p ↦
            let v = below.specs s e p (name_token ∷ end) in
            onto tail v.whole (omega arith) v.whole.after
            (λ total' later late x.
            let less : length (name_token ∷ end) ≤ later = (let r = v.whole.room_there in omega (arith, late, r)) in
            let y = name_declarator to total' later (raised to.spare room) (some_there to room) v.whole.after end less in
            (_, g.member x.1 (g.one_declarator y.1) refl, (x.2, y.2, λ _. omega (arith, less))))
        | inr q ↦
            let (x, there, go) = q in
            elim (bind_err (members_declared total inner (length x.1.rest) [] x.1)
            (λ y. Ok (roll-Member (record { specs = x.0.specs; declarators = y.0 }), y.1)) e go) [
              | inl p ↦
                  let v = declarators_viable (length x.1.rest) [] x.1 e p tail in
                  behind_part tail v (moved_specs to (sound.specs s x.1 x.0 there) v.all) (omega arith) v.after
                  (λ total' later late y z. (_, g.member y.1 z.1 refl, (y.2, z.2, λ _. let r = v.room_there in omega (arith, late, r))))
              | inr r ↦ let (y, found, made) = r in absurd cc
            ]
      ]

  members_viable : (count : ℕ) (front : List Member) (s : State) (e : Fault) → members total inner count front s ≡ Err e
      → (tail : List Token) → Viable (MembersAt to room s.names) total s.rest e (mark_token mark.CloseBrace ∷ tail)
  unfolding members
  members_viable zero front s e h tail =
      let close : List Token = mark_token mark.CloseBrace ∷ tail in
      elim (bind_err (member total inner s) (λ x. Err (Unexpected (here total x.1))) e h) [
        | inl p ↦
            let v = member_viable s e p close in
            onto close v (omega arith) v.after (λ total' later late x. (_, g.one_member x.1, x.2))
        | inr q ↦
            let (x, there, stops) = q in
            let same : Unexpected (number_of total x.1.rest) ≡ e = err_is stops in
            put_behind close close (ap fault_at (sym same))
            (moved_member to (member_sound total to.chain room inner sound s x there) close) (omega arith) x.1.names
            (λ total' later late y. (_, g.one_member y.1, y.2))
      ]
  members_viable (suc count) front s e h tail =
      let close : List Token = mark_token mark.CloseBrace ∷ tail in
      elim (bind_err (member total inner s)
      (λ x. if sees_mark mark.CloseBrace x.1.rest then Ok (front ++ x.0 ∷ [], behind x.1)
      else members total inner count (front ++ x.0 ∷ []) x.1) e h) [
        | inl p ↦
            let v = member_viable s e p close in
            onto close v (omega arith) v.after (λ total' later late x. (_, g.one_member x.1, x.2))
        | inr q ↦
            let (x, there, go) = q in
            elim (cond_is (sees_mark mark.CloseBrace x.1.rest) (Ok (front ++ x.0 ∷ [], behind x.1)) (members total inner count (front ++ x.0 ∷ []) x.1) (Err e) go) [
              | inl p ↦ absurd (let made = p.1 in cc)
              | inr p ↦
                  let v = members_viable count (front ++ x.0 ∷ []) x.1 e p.1 tail in
                  behind_part close v (moved_member to (member_sound total to.chain room inner sound s x there) v.all) (omega arith) v.after
                  (λ total' later late y z. (_, g.more_members y.1 z.1, (y.2, z.2)))
            ]
      ]

  struct_body_viable : (token : ℕ) (name : Option Name) (s : State) (e : Fault) → struct_body total inner token name s ≡ Err e
      → (tail : List Token) → Viable (BracedAt (MembersAt to room s.names) to room) total s.rest e tail
  unfolding struct_body
  struct_body_viable token name s e h tail =
      let close : List Token = mark_token mark.CloseBrace ∷ tail in
      elim (bind_err (expect_mark total mark.OpenBrace s)
      (λ start. members total inner (length start.rest) [] start >>= λ x. Ok (a_struct.Body token name x.0, x.1)) e h) [
        | inl p ↦ brace_missed (MembersAt to room s.names) to room total s e (int_name close) tail s.names p (omega arith)
            (λ total' later late. let x = int_member to total' later (raised to.spare room) (some_there to room) s.names close late in (_, g.one_member x.1, x.2))
        | inr q ↦
            let (start, opens, go) = q in
            elim (bind_err (members total inner (length start.rest) [] start) (λ x. Ok (a_struct.Body token name x.0, x.1)) e go) [
              | inl p ↦ opened (MembersAt to room) to room total s start e tail (expect_mark_is total mark.OpenBrace s start opens)
                  (members_viable (length start.rest) [] start e p tail)
              | inr r ↦ let (x, there, made) = r in absurd cc
            ]
      ]

  pub struct_viable : (names : Names) (k : Token) (ts : List Token) (e : Fault) → IsKeyword keyword.Struct k
      → struct_spec total inner (at_state names (k ∷ ts)) ≡ Err e → (tail : List Token) → Viable (StructAt to (suc room) names) total (k ∷ ts) e tail
  unfolding struct_spec
  struct_viable names k ts e is h tail =
      let token : ℕ = number_of total (k ∷ ts) in
      let us : List Token = Rattle.c_grammar.specs.Reading.tail ts in
      let named : Name → Outcome (StructSpec Member × State) = λ name. if sees_mark mark.OpenBrace us
      then struct_body total inner token (Some name) (at_state names us)
      else Ok (a_struct.Reference token name, at_state names us) in
      elim (choose_is (name_at_front total ts) (struct_body total inner token None (at_state names ts)) named (Err e) h) [
        | inl p ↦
            let v = struct_body_viable token None (at_state names ts) e p.1 tail in
            led k tail v (omega arith) v.after (λ total' later late x. untagged to room names total' later k is x)
        | inr p ↦
            let n = name_at_front_is total ts p.0 p.1 in
            elim (cond_is (sees_mark mark.OpenBrace us) (struct_body total inner token (Some p.0) (at_state names us))
            (Ok (a_struct.Reference token p.0, at_state names us)) (Err e) p.2) [
              | inl q ↦
                  let v = struct_body_viable token (Some p.0) (at_state names us) e q.1 tail in
                  subst (λ vs. Viable (StructAt to (suc room) names) total (k ∷ vs) e tail) (sym n.are)
                  (led_two k n.token tail v (omega arith) v.after (λ total' later late x. tagged to room names total' later k n.token is n.is x))
              | inr q ↦ absurd (let made = q.1 in cc)
            ]
      ]

-- ---- enumerations

-- an enumerator stands at a place with room
module _ (to : Deeper) (total room : ℕ) (inner : Inner) (sound : Sound total to.chain (suc room) inner) (below : Viables to total (suc room) inner) where
  enumerator_viable : (s : State) (e : Fault) → enumerator total inner s ≡ Err e → (tail : List Token)
      → Viable (EnumeratorAt to (suc room) s.names) total s.rest e tail
  unfolding enumerator
  enumerator_viable s e h tail =
      elim (bind_err (expect_name total s)
      (λ x. if sees_mark mark.Assign x.1.rest
      then (inner.expr extent.Cond (behind x.1) >>= λ y. Ok (record { name = x.0; value = Some y.0 }, with_declared x.0.text y.1))
      else Ok (record { name = x.0; value = None }, with_declared x.0.text x.1)) e h) [
        | inl p ↦ put_here (name_token ∷ tail) tail (name_missed total s e p) (omega arith) (declared s.names [] false)
            (λ total' later late. name_enumerator to total' later (raised to.spare (suc room)) (omega arith) s.names tail late)
        | inr q ↦
            let (x, there, go) = q in
            let n = expect_name_is total s x there in
            elim (cond_is (sees_mark mark.Assign x.1.rest)
            (inner.expr extent.Cond (behind x.1) >>= λ y. Ok (record { name = x.0; value = Some y.0 }, with_declared x.0.text y.1))
            (Ok (record { name = x.0; value = None }, with_declared x.0.text x.1)) (Err e) go) [
              | inl p ↦
                  let a = sees_mark_is mark.Assign x.1.rest p.0 in
                  elim (bind_err (inner.expr extent.Cond (behind x.1))
                  (λ y. Ok (record { name = x.0; value = Some y.0 }, with_declared x.0.text y.1)) e p.1) [
                    | inl r ↦
                        let v : Viable (ExprAt to Cond (suc room) x.1.names) total (Rattle.c_grammar.specs.Reading.tail x.1.rest) e tail =
                        (below.expr extent.Cond (behind x.1) e r tail).whole in
                        let all : s.rest ≡ n.token ∷ a.token ∷ Rattle.c_grammar.specs.Reading.tail x.1.rest = n.are ∙ ap (λ us. n.token ∷ us) a.ts_are in
                        subst (λ ns. Viable (EnumeratorAt to (suc room) ns) total s.rest e tail) (sym n.names)
                        (subst (λ us. Viable (EnumeratorAt to (suc room) x.1.names) total us e tail) (sym all)
                        (led_two n.token a.token tail v (omega arith) (declared v.after n.token.text false)
                        (λ total' later late y. (_, g.valued n.is a.is y.1, (deep room to.spare, deep room to.spare, y.2)))))
                    | inr r ↦ let (y, found, made) = r in absurd cc
                  ]
              | inr p ↦ absurd (let made = p.1 in cc)
            ]
      ]

  enumerators_viable : (count : ℕ) (front : List (Enumerator Expr)) (s : State) (e : Fault) → enumerators total inner count front s ≡ Err e
      → (tail : List Token) → Viable (EnumeratorsAt to (suc room) s.names) total s.rest e (mark_token mark.CloseBrace ∷ tail)
  unfolding enumerators
  enumerators_viable zero front s e h tail =
      let same : Unexpected (number_of total s.rest) ≡ e = err_is h in
      let close : List Token = mark_token mark.CloseBrace ∷ tail in
      put_here (name_token ∷ close) close (ap fault_at (sym same)) (omega arith) (declared s.names [] false)
      (λ total' later late. let x = name_enumerator to total' later (raised to.spare (suc room)) (omega arith) s.names close late in (_, g.one_enumerator x.1, x.2))
  enumerators_viable (suc count) front s e h tail =
      let close : List Token = mark_token mark.CloseBrace ∷ tail in
      let behind_comma : Enumerator Expr → State → Outcome (List (Enumerator Expr) × State) =
      λ a s'. if sees_mark mark.CloseBrace s'.rest then Ok (front ++ a ∷ [], behind s') else enumerators total inner count (front ++ a ∷ []) s' in
      elim (bind_err (enumerator total inner s)
      (λ x. if sees_mark mark.CloseBrace x.1.rest then Ok (front ++ x.0 ∷ [], behind x.1)
      else (expect_mark total mark.Comma x.1 >>= λ s'. behind_comma x.0 s')) e h) [
        | inl p ↦
            let v = enumerator_viable s e p close in
            onto close v (omega arith) v.after (λ total' later late x. (_, g.one_enumerator x.1, x.2))
        | inr q ↦
            let (x, there, go) = q in
            let d : IsEnumerator total to.chain (suc room) s.names s.rest x.1.rest x.1.names x.0 = enumerator_sound total to.chain room inner sound s x there in
            elim (cond_is (sees_mark mark.CloseBrace x.1.rest) (Ok (front ++ x.0 ∷ [], behind x.1)) (expect_mark total mark.Comma x.1 >>= λ s'. behind_comma x.0 s') (Err e) go) [
              | inl p ↦ absurd (let made = p.1 in cc)
              | inr p ↦
                  elim (bind_err (expect_mark total mark.Comma x.1) (λ s'. behind_comma x.0 s') e p.1) [
                    | inl r ↦ put_behind close close (mark_missed total mark.Comma x.1 e r) (moved_enumerator to d close) (omega arith) x.1.names
                        (λ total' later late y. (_, g.one_enumerator y.1, y.2))
                    | inr r ↦
                        let (z, commas, on) = r in
                        let c = expect_mark_is total mark.Comma x.1 z commas in
                        elim (cond_is (sees_mark mark.CloseBrace z.rest) (Ok (front ++ x.0 ∷ [], behind z)) (enumerators total inner count (front ++ x.0 ∷ []) z) (Err e) on) [
                          | inl w ↦ absurd (let made = w.1 in cc)
                          | inr w ↦
                              let v = enumerators_viable count (front ++ x.0 ∷ []) z e w.1 tail in
                              let d' : IsEnumerator total to.chain (suc room) s.names s.rest (c.token ∷ z.rest) z.names x.0 =
                              moved_both (λ us ns. IsEnumerator total to.chain (suc room) s.names s.rest us ns x.0) {us = c.token ∷ z.rest} c.are c.names d in
                              behind_led c.token close v (moved_enumerator to d' (c.token ∷ v.all)) (omega arith) v.after
                              (λ total' later late y t. (_, g.more_enumerators y.1 c.is t.1, (y.2, none_left (suc room) to.spare (omega arith), t.2)))
                        ]
                  ]
            ]
      ]

-- the least that stands in the braces
least_enumerators : (to : Deeper) (room : ℕ) (names : Names) (tail : List Token) (total later : ℕ) → length (name_token ∷ tail) ≤ later
    → EnumeratorsAt to room names total later (name_token ∷ tail) tail (declared names [] false)
least_enumerators to room names tail total later late =
    let x = name_enumerator to total later (raised to.spare room) (some_there to room) names tail late in (_, g.one_enumerator x.1, x.2)

enum_body_viable : (to : Deeper) (total room : ℕ) (inner : Inner) → Sound total to.chain room inner → Viables to total room inner
    → (token : ℕ) (name : Option Name) (s : State) (e : Fault) → enum_body total room inner token name s ≡ Err e
    → (tail : List Token) → Viable (BracedAt (EnumeratorsAt to room s.names) to room) total s.rest e tail
unfolding enum_body
enum_body_viable to total zero inner sound below token name s e h tail =
    let close : List Token = mark_token mark.CloseBrace ∷ tail in
    elim (bind_err (expect_mark total mark.OpenBrace s) (λ start. Err (too_deep total start)) e h) [
      | inl p ↦ brace_missed (EnumeratorsAt to zero s.names) to zero total s e (name_token ∷ close) tail (declared s.names [] false) p (omega arith)
          (least_enumerators to zero s.names close)
      | inr q ↦
          let (start, opens, go) = q in
          opened (EnumeratorsAt to zero) to zero total s start e tail (expect_mark_is total mark.OpenBrace s start opens)
          (put_here (name_token ∷ close) close (deep_at total start e (err_is go)) (omega arith) (declared start.names [] false)
          (least_enumerators to zero start.names close))
    ]
enum_body_viable to total (suc room) inner sound below token name s e h tail =
    let close : List Token = mark_token mark.CloseBrace ∷ tail in
    elim (bind_err (expect_mark total mark.OpenBrace s)
    (λ start. if nat_eq (suc room) 0 then Err (too_deep total start)
    else (enumerators total inner (length start.rest) [] start >>= λ x. Ok (an_enum.Body token name x.0, x.1))) e h) [
      | inl p ↦ brace_missed (EnumeratorsAt to (suc room) s.names) to (suc room) total s e (name_token ∷ close) tail (declared s.names [] false) p (omega arith)
          (least_enumerators to (suc room) s.names close)
      | inr q ↦
          let (start, opens, on) = q in
          elim (cond_is (nat_eq (suc room) 0) (Err (too_deep total start))
          (enumerators total inner (length start.rest) [] start >>= λ x. Ok (an_enum.Body token name x.0, x.1)) (Err e) on) [
            | inl p ↦ absurd (let none : suc room ≡ 0 = eqb-true (suc room) 0 p.0 in omega (arith, none))
            | inr p ↦
                elim (bind_err (enumerators total inner (length start.rest) [] start) (λ x. Ok (an_enum.Body token name x.0, x.1)) e p.1) [
                  | inl r ↦ opened (EnumeratorsAt to (suc room)) to (suc room) total s start e tail (expect_mark_is total mark.OpenBrace s start opens)
                      (enumerators_viable to total room inner sound below (length start.rest) [] start e r tail)
                  | inr r ↦ let (x, there, made) = r in absurd cc
                ]
          ]
    ]

module _ (to : Deeper) (total room : ℕ) (inner : Inner) (sound : Sound total to.chain room inner) (below : Viables to total room inner) where
  pub enum_viable : (names : Names) (k : Token) (ts : List Token) (e : Fault) → IsKeyword keyword.Enum k
      → enum_spec total room inner (at_state names (k ∷ ts)) ≡ Err e → (tail : List Token) → Viable (EnumAt to (suc room) names) total (k ∷ ts) e tail
  unfolding enum_spec
  enum_viable names k ts e is h tail =
      let token : ℕ = number_of total (k ∷ ts) in
      let us : List Token = Rattle.c_grammar.specs.Reading.tail ts in
      let named : Name → Outcome (EnumSpec Expr × State) = λ name. if sees_mark mark.OpenBrace us
      then enum_body total room inner token (Some name) (at_state names us)
      else Ok (an_enum.Reference token name, at_state names us) in
      elim (choose_is (name_at_front total ts) (enum_body total room inner token None (at_state names ts)) named (Err e) h) [
        | inl p ↦
            let v = enum_body_viable to total room inner sound below token None (at_state names ts) e p.1 tail in
            led k tail v (omega arith) v.after (λ total' later late x. enum_untagged to room names total' later k is x)
        | inr p ↦
            let n = name_at_front_is total ts p.0 p.1 in
            elim (cond_is (sees_mark mark.OpenBrace us) (enum_body total room inner token (Some p.0) (at_state names us))
            (Ok (an_enum.Reference token p.0, at_state names us)) (Err e) p.2) [
              | inl q ↦
                  let v = enum_body_viable to total room inner sound below token (Some p.0) (at_state names us) e q.1 tail in
                  subst (λ vs. Viable (EnumAt to (suc room) names) total (k ∷ vs) e tail) (sym n.are)
                  (led_two k n.token tail v (omega arith) v.after (λ total' later late x. enum_tagged to room names total' later k n.token is n.is x))
              | inr q ↦ absurd (let made = q.1 in cc)
            ]
      ]

-- ---- specifiers

-- Specifiers behind others go on; what all have said then is just one type.
record ViableSpecifiers (to : Deeper) (total room : ℕ) (names : Names) (typed : Typed) (ts : List Token) (fault : Fault) (tail : List Token) : Type 0 where
  last : Typed
  flag : Bool
  one : IsOneType last
  whole : Viable (SpecifiersAt to room names typed last flag) total ts fault tail

abbrev GoesOnViably : Deeper → ℕ → ℕ → GoesOn → Type 0
GoesOnViably to total room on =
    (typed : Typed) (is_typedef : Bool) (front : List Specifier) (s : State) (e : Fault) → on typed is_typedef front s ≡ Err e → (tail : List Token)
    → ViableSpecifiers to total (suc room) s.names typed s.rest e tail

ended_viable : (to : Deeper) (total room token : ℕ) → GoesOnViably to total room (ended_specs total token)
ended_viable to total room token Untyped is_typedef front s e h tail =
    let same : Unexpected (number_of total s.rest) ≡ e = err_is h in
    record {
      last = Words (type_word.Int ∷ []);
      flag = false;
      one = one_word type_word.Int;
      whole = put_here (word_token keyword.Int ∷ tail) tail (ap fault_at (sym same)) (omega arith) s.names
          (λ total' later late. (_, g.word type_word.Int refl refl g.no_specifiers, (deep room to.spare, tt)));
    }
ended_viable to total room token (Words ws) is_typedef front s e h tail = absurd cc
ended_viable to total room token Whole is_typedef front s e h tail = absurd cc

module _ (to : Deeper) (total room : ℕ) (inner : Inner) (sound : Sound total to.chain room inner) (below : Viables to total room inner) (token : ℕ) where
  step_viable : (on : GoesOn) → GoesOnViably to total room on
      → (say : Saying) (names : Names) (t : Token) (ts : List Token) (typed : Typed) (is_typedef : Bool) (front : List Specifier) (e : Fault)
      → SaysIn total names typed t ts say
      → by_saying total room inner token on say typed is_typedef front (at_state names (t ∷ ts)) ≡ Err e
      → (tail : List Token) → ViableSpecifiers to total (suc room) names typed (t ∷ ts) e tail
  step_viable on goes (SaysStorage w) names t ts typed is_typedef front e is h tail =
      let v = goes typed (is_typedef || declares_types w) (front ++ specifier.Storage w ∷ []) (at_state names ts) e h tail in
      record {
        last = v.last;
        flag = declares_types w || v.flag;
        one = v.one;
        whole = led t tail v.whole (omega arith) v.whole.after (λ total' later late x. (_, g.storage w is x.1, (deep room to.spare, x.2)));
      }
  step_viable on goes (SaysQualifier q) names t ts typed is_typedef front e is h tail =
      let v = goes typed is_typedef (front ++ specifier.Qualifier q ∷ []) (at_state names ts) e h tail in
      record {
        last = v.last;
        flag = v.flag;
        one = v.one;
        whole = led t tail v.whole (omega arith) v.whole.after (λ total' later late x. (_, g.qualifier q is x.1, (deep room to.spare, x.2)));
      }
  step_viable on goes (SaysWord typed' w) names t ts typed is_typedef front e is h tail =
      let taken = taken_sound w typed typed' is.1 in
      let v = goes typed' is_typedef (front ++ specifier.Word w ∷ []) (at_state names ts) e h tail in
      record {
        last = v.last;
        flag = v.flag;
        one = v.one;
        whole = led t tail v.whole (omega arith) v.whole.after (λ total' later late x. (_, g.word w is.0 taken.0 x.1, (deep room to.spare, x.2)));
      }
  step_viable on goes SaysStruct names t ts typed is_typedef front e is h tail =
      elim (bind_err (struct_spec total inner (at_state names (t ∷ ts))) (λ y. on Whole is_typedef (front ++ specifier.Struct y.0 ∷ []) y.1) e h) [
        | inl p ↦
            let v = struct_viable to total room inner sound below names t ts e is.1 p tail in
            record {
              last = Whole;
              flag = false;
              one = tt;
              whole = subst (λ ty. Viable (SpecifiersAt to (suc room) names ty Whole false) total (t ∷ ts) e tail) (sym is.0)
                  (onto tail v (omega arith) v.after (λ total' later late x. (_, g.struct_specifier x.1 g.no_specifiers, (x.2, tt))));
            }
        | inr p ↦
            let (y, there, go) = p in
            let v = goes Whole is_typedef (front ++ specifier.Struct y.0 ∷ []) y.1 e go tail in
            let d : IsStruct total to.chain (suc room) names (t ∷ ts) y.1.rest y.1.names y.0 = struct_spec_sound total to.chain room inner sound names t ts y is.1 there in
            record {
              last = v.last;
              flag = v.flag;
              one = v.one;
              whole = subst (λ ty. Viable (SpecifiersAt to (suc room) names ty v.last v.flag) total (t ∷ ts) e tail) (sym is.0)
                  (behind_part tail v.whole (moved_struct to d v.whole.all) (omega arith) v.whole.after
                  (λ total' later late x z. (_, g.struct_specifier x.1 z.1, (x.2, z.2))));
            }
      ]
  step_viable on goes SaysEnum names t ts typed is_typedef front e is h tail =
      elim (bind_err (enum_spec total room inner (at_state names (t ∷ ts))) (λ y. on Whole is_typedef (front ++ specifier.Enum y.0 ∷ []) y.1) e h) [
        | inl p ↦
            let v = enum_viable to total room inner sound below names t ts e is.1 p tail in
            record {
              last = Whole;
              flag = false;
              one = tt;
              whole = subst (λ ty. Viable (SpecifiersAt to (suc room) names ty Whole false) total (t ∷ ts) e tail) (sym is.0)
                  (onto tail v (omega arith) v.after (λ total' later late x. (_, g.enum_specifier x.1 g.no_specifiers, (x.2, tt))));
            }
        | inr p ↦
            let (y, there, go) = p in
            let v = goes Whole is_typedef (front ++ specifier.Enum y.0 ∷ []) y.1 e go tail in
            let d : IsEnum total to.chain (suc room) names (t ∷ ts) y.1.rest y.1.names y.0 = enum_spec_sound total to.chain room inner sound names t ts y is.1 there in
            record {
              last = v.last;
              flag = v.flag;
              one = v.one;
              whole = subst (λ ty. Viable (SpecifiersAt to (suc room) names ty v.last v.flag) total (t ∷ ts) e tail) (sym is.0)
                  (behind_part tail v.whole (moved_enum to d v.whole.all) (omega arith) v.whole.after
                  (λ total' later late x z. (_, g.enum_specifier x.1 z.1, (x.2, z.2))));
            }
      ]
  step_viable on goes (SaysName n) names t ts typed is_typedef front e is h tail =
      let v = goes Whole is_typedef (front ++ specifier.TypedefName n ∷ []) (at_state names ts) e h tail in
      record {
        last = v.last;
        flag = v.flag;
        one = v.one;
        whole = subst (λ ty. Viable (SpecifiersAt to (suc room) names ty v.last v.flag) total (t ∷ ts) e tail) (sym is.0)
            (led t tail v.whole (omega arith) v.whole.after (λ total' later late x. (_, g.typedef_name is.1.0 x.1, (deep room to.spare, x.2))));
      }
  step_viable on goes SaysNothing names t ts typed is_typedef front e is h tail =
      ended_viable to total room token typed is_typedef front (at_state names (t ∷ ts)) e h tail

  next_viable : (on : GoesOn) → GoesOnViably to total room on
      → (names : Names) (ts : List Token) (typed : Typed) (is_typedef : Bool) (front : List Specifier) (e : Fault)
      → by_saying total room inner token on (saying_of total names typed ts) typed is_typedef front (at_state names ts) ≡ Err e
      → (tail : List Token) → ViableSpecifiers to total (suc room) names typed ts e tail
  next_viable on goes names [] typed is_typedef front e h tail = ended_viable to total room token typed is_typedef front (at_state names []) e h tail
  next_viable on goes names (t ∷ ts) typed is_typedef front e h tail =
      step_viable on goes (saying_of total names typed (t ∷ ts)) names t ts typed is_typedef front e (says total names typed t ts) h tail

  specifiers_viable : (count : ℕ) → GoesOnViably to total room (specifiers total room inner token count)
  unfolding specifiers
  specifiers_viable zero typed is_typedef front s e h tail = ended_viable to total room token typed is_typedef front s e h tail
  specifiers_viable (suc count) typed is_typedef front s e h tail =
      next_viable (specifiers total room inner token count) (specifiers_viable count) s.names s.rest typed is_typedef front e h tail

pub specs_viable : (to : Deeper) (total room : ℕ) (inner : Inner) → Sound total to.chain room inner → Viables to total room inner
    → (s : State) (e : Fault) → specs total room inner s ≡ Err e → (tail : List Token) → ViableSpecs to total (suc room) s.names s.rest e tail
unfolding specs
specs_viable to total room inner sound below s e h tail =
    let v = specifiers_viable to total room inner sound below (here total s) (length s.rest) Untyped false [] s e h tail in
    record { flag = v.flag; whole = onto tail v.whole (omega arith) v.whole.after (λ total' later late x. (_, g.specs x.1 v.one, x.2)) }
