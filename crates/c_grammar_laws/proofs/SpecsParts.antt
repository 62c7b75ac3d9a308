-- What is read as a structure or as an enumeration is one.
use Rattle.std.proofs.Common.{◌≡◌, ℕ, zero, suc, nat_eq, false, if◌then◌else◌, Option, Some, None, Ok, Err, List, [], ◌∷◌, ◌++◌, length, append_assoc, refl, sym, ap, ◌∙◌, subst, inl, inr}
use Rattle.c_lex.specs.declared.token.Token.{Token}
use Rattle.c_lex.specs.declared.token.Keyword.TheVariants as keyword
use Rattle.c_lex.specs.declared.token.Mark.{Mark}
use Rattle.c_lex.specs.declared.token.Mark.TheVariants as mark
use Rattle.c_ast.specs.declared.words.Name.{Name}
use Rattle.c_ast.specs.declared.expression.Expr.{Expr}
use Rattle.c_ast.specs.declared.declaration.StructSpec.{StructSpec}
use Rattle.c_ast.specs.declared.declaration.StructSpec.TheVariants as a_struct
use Rattle.c_ast.specs.declared.declaration.Member.{Member, roll-Member}
use Rattle.c_ast.specs.declared.declaration.EnumSpec.{EnumSpec}
use Rattle.c_ast.specs.declared.declaration.EnumSpec.TheVariants as an_enum
use Rattle.c_ast.specs.declared.declaration.Enumerator.{Enumerator}
use Rattle.c_ast.specs.declared.declaration.Declarator.{Declarator}
use Rattle.c_grammar.specs.declared.phrases.Extent.TheVariants as extent
use Rattle.c_grammar.specs.Names.{Names, declared, name_at}
use Rattle.c_grammar.specs.Words.{IsMark, IsKeyword, number_of}
use Rattle.c_grammar.specs.Grammar.{IsExpr, Cond, IsStruct, struct_reference, struct_tagged, struct_untagged, AreMembers, one_member, more_members, IsMember, member as a_member, AreDeclarators, one_declarator, more_declarators, IsDeclarator, IsEnum, enum_reference, enum_tagged, enum_untagged, AreEnumerators, one_enumerator, last_enumerator, more_enumerators, IsEnumerator, enumerator as an_enumerator, valued}
use Rattle.c_grammar.specs.Reading.{State, Unexpected, Outcome, ◌>>=◌, sees_mark, tail, behind, here, expect_mark, expect_name, name_at_front}
use Rattle.c_grammar.specs.ReadingDecl.{members_declared, member, members, struct_body, struct_spec, too_deep, with_declared, enumerator, enumerators, enum_body, enum_spec}
use Rattle.c_grammar.specs.Inner.{Inner}
use Rattle.c_grammar.proofs.Laws.{at_state, Sound}
use Rattle.c_grammar_laws.proofs.SpecsFound.{ok_same, moved_ok, bind_ok, choose_is, cond_is, moved_both, taken_behind, expect_mark_is, expect_name_is, name_at_front_is}

-- Parts were read behind those before, and then this punctuator.
pub record Listed {A : Type 0} (m : Mark) (Are : Names → List Token → List Token → Names → List A → Type 0) (front : List A) (s : State) (x : List A × State) : Type 0 where
  pub all : List A
  pub token : Token
  pub are : x.0 ≡ front ++ all
  pub found : Are s.names s.rest (token ∷ x.1.rest) x.1.names all
  pub is : IsMark m token

-- the body of a structure or an enumeration
pub record Braced {A : Type 0} (Are : Names → List Token → List Token → Names → List A → Type 0) (s s' : State) (all : List A) : Type 0 where
  pub open_token : Token
  pub start : List Token
  pub close_token : Token
  pub are : s.rest ≡ open_token ∷ start
  pub opens : IsMark mark.OpenBrace open_token
  pub found : Are s.names start (close_token ∷ s'.rest) s'.names all
  pub closes : IsMark mark.CloseBrace close_token

module _ (total most room : ℕ) (inner : Inner) (sound : Sound total most room inner) where
  declarators_sound : (count : ℕ) (front : List Declarator) (s : State) (x : List Declarator × State)
      → members_declared total inner count front s ≡ Ok x → Listed mark.Semicolon (AreDeclarators total most room) front s x
  unfolding members_declared
  declarators_sound zero front s x h = absurd cc
  declarators_sound (suc count) front s x h =
      let (d, read, go) = bind_ok (inner.declarator s)
      (λ x. if sees_mark mark.Comma x.1.rest then members_declared total inner count (front ++ x.0.tree ∷ []) (behind x.1)
      else (expect_mark total mark.Semicolon x.1 >>= λ s'. Ok (front ++ x.0.tree ∷ [], s'))) x h in
      let is : IsDeclarator total most room s.names s.rest d.1.rest d.1.names d.0.name d.0.own d.0.tree = sound.declarator s d.1 d.0 read in
      elim (cond_is (sees_mark mark.Comma d.1.rest) (members_declared total inner count (front ++ d.0.tree ∷ []) (behind d.1))
      (expect_mark total mark.Semicolon d.1 >>= λ s'. Ok (front ++ d.0.tree ∷ [], s')) (Ok x) go) [
        | inl p ↦
            let comma = taken_behind mark.Comma d.1 p.0 in
            let more = declarators_sound count (front ++ d.0.tree ∷ []) (behind d.1) x p.1 in
            record {
              all = d.0.tree ∷ more.all;
              token = more.token;
              are = more.are ∙ append_assoc front (d.0.tree ∷ []) more.all;
              found = more_declarators (subst (λ us. IsDeclarator total most room s.names s.rest us d.1.names d.0.name d.0.own d.0.tree) comma.are is) comma.is more.found;
              is = more.is;
            }
        | inr p ↦
            let (z, ends, made) = bind_ok (expect_mark total mark.Semicolon d.1) (λ s'. Ok (front ++ d.0.tree ∷ [], s')) x p.1 in
            let end = expect_mark_is total mark.Semicolon d.1 z ends in
            moved_ok (Listed mark.Semicolon (AreDeclarators total most room) front s) (record {
              all = d.0.tree ∷ [];
              token = end.token;
              are = refl;
              found = one_declarator (moved_both (λ us n. IsDeclarator total most room s.names s.rest us n d.0.name d.0.own d.0.tree) end.are end.names is);
              is = end.is;
            }) made
      ]

  pub member_sound : (s : State) (x : Member × State) → member total inner s ≡ Ok x → IsMember total most room s.names s.rest x.1.rest x.1.names x.0
  unfolding member
  member_sound s x h =
      let (a, read, go) = bind_ok (inner.specs s) (λ x. members_declared total inner (length x.1.rest) [] x.1 >>= λ y. Ok (roll-Member (record { specs = x.0.specs; declarators = y.0 }), y.1)) x h in
      let (y, more, made) = bind_ok (members_declared total inner (length a.1.rest) [] a.1) (λ y. Ok (roll-Member (record { specs = a.0.specs; declarators = y.0 }), y.1)) x go in
      let l = declarators_sound (length a.1.rest) [] a.1 y more in
      moved_ok (λ (z : Member × State). IsMember total most room s.names s.rest z.1.rest z.1.names z.0)
      (subst (λ ds. IsMember total most room s.names s.rest y.1.rest y.1.names (roll-Member (record { specs = a.0.specs; declarators = ds }))) (sym l.are)
      (a_member (sound.specs s a.1 a.0 read) l.found l.is)) made

  members_sound : (count : ℕ) (front : List Member) (s : State) (x : List Member × State)
      → members total inner count front s ≡ Ok x → Listed mark.CloseBrace (AreMembers total most room) front s x
  unfolding members
  members_sound zero front s x h =
      let (m, read, made) = bind_ok (member total inner s) (λ x. Err (Unexpected (here total x.1))) x h in absurd cc
  members_sound (suc count) front s x h =
      let (m, read, go) = bind_ok (member total inner s)
      (λ x. if sees_mark mark.CloseBrace x.1.rest then Ok (front ++ x.0 ∷ [], behind x.1)
      else members total inner count (front ++ x.0 ∷ []) x.1) x h in
      let is = member_sound s m read in
      elim (cond_is (sees_mark mark.CloseBrace m.1.rest) (Ok (front ++ m.0 ∷ [], behind m.1)) (members total inner count (front ++ m.0 ∷ []) m.1) (Ok x) go) [
        | inl p ↦
            let end = taken_behind mark.CloseBrace m.1 p.0 in
            moved_ok (Listed mark.CloseBrace (AreMembers total most room) front s) (record {
              all = m.0 ∷ [];
              token = end.token;
              are = refl;
              found = one_member (subst (λ us. IsMember total most room s.names s.rest us m.1.names m.0) end.are is);
              is = end.is;
            }) p.1
        | inr p ↦
            let more = members_sound count (front ++ m.0 ∷ []) m.1 x p.1 in
            record {
              all = m.0 ∷ more.all;
              token = more.token;
              are = more.are ∙ append_assoc front (m.0 ∷ []) more.all;
              found = more_members is more.found;
              is = more.is;
            }
      ]

  struct_body_sound : (token : ℕ) (name : Option Name) (s : State) (x : StructSpec Member × State) → struct_body total inner token name s ≡ Ok x
      → (ms : List Member) × (a_struct.Body token name ms ≡ x.0) × Braced (AreMembers total most room) s x.1 ms
  unfolding struct_body
  struct_body_sound token name s x h =
      let (start, opens, go) = bind_ok (expect_mark total mark.OpenBrace s) (λ start. members total inner (length start.rest) [] start >>= λ x. Ok (a_struct.Body token name x.0, x.1)) x h in
      let (y, read, made) = bind_ok (members total inner (length start.rest) [] start) (λ x. Ok (a_struct.Body token name x.0, x.1)) x go in
      let begin = expect_mark_is total mark.OpenBrace s start opens in
      let l = members_sound (length start.rest) [] start y read in
      let e : (a_struct.Body token name y.0, y.1) ≡ x = ok_same made in (
        y.0,
        ap (λ z. z.0) e,
        subst (λ (z : StructSpec Member × State). Braced (AreMembers total most room) s z.1 y.0) e (record {
          open_token = begin.token;
          start = start.rest;
          close_token = l.token;
          are = begin.are;
          opens = begin.is;
          found = subst (λ ms. AreMembers total most room s.names start.rest (l.token ∷ y.1.rest) y.1.names ms) (sym l.are)
              (subst (λ n. AreMembers total most room n start.rest (l.token ∷ y.1.rest) y.1.names l.all) (sym begin.names) l.found);
          closes = l.is;
        }),
      )

  pub struct_spec_sound : (names : Names) (k : Token) (ts : List Token) (x : StructSpec Member × State) → IsKeyword keyword.Struct k
      → struct_spec total inner (at_state names (k ∷ ts)) ≡ Ok x → IsStruct total most (suc room) names (k ∷ ts) x.1.rest x.1.names x.0
  unfolding struct_spec
  struct_spec_sound names k ts x is h =
      let P : List Token → StructSpec Member → Type 0 = λ us t. IsStruct total most (suc room) names us x.1.rest x.1.names t in
      let named : Name → Outcome (StructSpec Member × State) = λ name. if sees_mark mark.OpenBrace (tail ts)
      then struct_body total inner (number_of total (k ∷ ts)) (Some name) (at_state names (tail ts))
      else Ok (a_struct.Reference (number_of total (k ∷ ts)) name, at_state names (tail ts)) in
      elim (choose_is (name_at_front total ts) (struct_body total inner (number_of total (k ∷ ts)) None (at_state names ts)) named (Ok x) h) [
        | inl p ↦
            let (ms, made, b) = struct_body_sound (number_of total (k ∷ ts)) None (at_state names ts) x p.1 in
            subst (P (k ∷ ts)) made
            (subst (λ us. P (k ∷ us) (a_struct.Body (number_of total (k ∷ us)) None ms)) (sym b.are) (struct_untagged is b.opens b.found b.closes))
        | inr p ↦
            let n = name_at_front_is total ts p.0 p.1 in
            elim (cond_is (sees_mark mark.OpenBrace (tail ts)) (struct_body total inner (number_of total (k ∷ ts)) (Some p.0) (at_state names (tail ts)))
            (Ok (a_struct.Reference (number_of total (k ∷ ts)) p.0, at_state names (tail ts))) (Ok x) p.2) [
              | inl q ↦
                  let (ms, made, b) = struct_body_sound (number_of total (k ∷ ts)) (Some p.0) (at_state names (tail ts)) x q.1 in
                  let here : P (k ∷ n.token ∷ tail ts) (a_struct.Body (number_of total (k ∷ n.token ∷ tail ts)) (Some (name_at (number_of total (n.token ∷ tail ts)) n.token)) ms) =
                  subst (λ us. P (k ∷ n.token ∷ us) (a_struct.Body (number_of total (k ∷ n.token ∷ us)) (Some (name_at (number_of total (n.token ∷ us)) n.token)) ms)) (sym b.are)
                  (struct_tagged is n.is b.opens b.found b.closes) in
                  subst (P (k ∷ ts)) made
                  (subst (λ name. P (k ∷ ts) (a_struct.Body (number_of total (k ∷ ts)) (Some name) ms)) n.made
                  (subst (λ us. P (k ∷ us) (a_struct.Body (number_of total (k ∷ us)) (Some (name_at (number_of total us) n.token)) ms)) (sym n.are) here))
              | inr q ↦
                  moved_ok (λ (z : StructSpec Member × State). IsStruct total most (suc room) names (k ∷ ts) z.1.rest z.1.names z.0)
                  (subst (λ name. IsStruct total most (suc room) names (k ∷ ts) (tail ts) names (a_struct.Reference (number_of total (k ∷ ts)) name)) n.made
                  (subst (λ us. IsStruct total most (suc room) names (k ∷ us) (tail ts) names (a_struct.Reference (number_of total (k ∷ us)) (name_at (number_of total us) n.token))) (sym n.are)
                  (struct_reference is n.is))) q.1
            ]
      ]

-- an enumerator stands at a place with room
module _ (total most room : ℕ) (inner : Inner) (sound : Sound total most (suc room) inner) where
  pub enumerator_sound : (s : State) (x : Enumerator Expr × State) → enumerator total inner s ≡ Ok x
      → IsEnumerator total most (suc room) s.names s.rest x.1.rest x.1.names x.0
  unfolding enumerator
  enumerator_sound s x h =
      let P : Enumerator Expr × State → Type 0 = λ z. IsEnumerator total most (suc room) s.names s.rest z.1.rest z.1.names z.0 in
      let (y, names, go) = bind_ok (expect_name total s)
      (λ x. if sees_mark mark.Assign x.1.rest
      then (inner.expr extent.Cond (behind x.1) >>= λ y. Ok (record { name = x.0; value = Some y.0 }, with_declared x.0.text y.1))
      else Ok (record { name = x.0; value = None }, with_declared x.0.text x.1)) x h in
      let n = expect_name_is total s y names in
      elim (cond_is (sees_mark mark.Assign y.1.rest)
      (inner.expr extent.Cond (behind y.1) >>= λ z. Ok (record { name = y.0; value = Some z.0 }, with_declared y.0.text z.1))
      (Ok (record { name = y.0; value = None }, with_declared y.0.text y.1)) (Ok x) go) [
        | inl p ↦
            let (z, read, made) = bind_ok (inner.expr extent.Cond (behind y.1)) (λ z. Ok (record { name = y.0; value = Some z.0 }, with_declared y.0.text z.1)) x p.1 in
            let a = taken_behind mark.Assign y.1 p.0 in
            let value : IsExpr total most Cond (suc room) y.1.names (tail y.1.rest) z.1.rest z.1.names z.0 = sound.expr extent.Cond (behind y.1) z.1 z.0 read in
            let Q : List Token → Name → Type 0 = λ us name. IsEnumerator total most (suc room) s.names us z.1.rest (declared z.1.names name.text false) (record { name = name; value = Some z.0 }) in
            let first : Q (n.token ∷ a.token ∷ tail y.1.rest) (name_at (number_of total (n.token ∷ a.token ∷ tail y.1.rest)) n.token) =
            valued n.is a.is (subst (λ k. IsExpr total most Cond (suc room) k (tail y.1.rest) z.1.rest z.1.names z.0) (sym n.names) value) in
            moved_ok P
            (subst (Q s.rest) n.made
            (subst (λ us. Q us (name_at (number_of total us) n.token)) (sym n.are)
            (subst (λ us. Q (n.token ∷ us) (name_at (number_of total (n.token ∷ us)) n.token)) (sym a.are) first))) made
        | inr p ↦
            let Q : Names → List Token → Name → Type 0 = λ k us name. IsEnumerator total most (suc room) s.names us y.1.rest (declared k name.text false) (record { name = name; value = None }) in
            let first : Q s.names (n.token ∷ y.1.rest) (name_at (number_of total (n.token ∷ y.1.rest)) n.token) = an_enumerator n.is in
            moved_ok P
            (subst (λ k. Q k s.rest y.0) n.names
            (subst (Q s.names s.rest) n.made
            (subst (λ us. Q s.names us (name_at (number_of total us) n.token)) (sym n.are) first))) p.1
      ]

  enumerators_sound : (count : ℕ) (front : List (Enumerator Expr)) (s : State) (x : List (Enumerator Expr) × State)
      → enumerators total inner count front s ≡ Ok x → Listed mark.CloseBrace (AreEnumerators total most (suc room)) front s x
  unfolding enumerators
  enumerators_sound zero front s x h = absurd cc
  enumerators_sound (suc count) front s x h =
      let behind_comma : Enumerator Expr → State → Outcome (List (Enumerator Expr) × State) =
      λ e s'. if sees_mark mark.CloseBrace s'.rest then Ok (front ++ e ∷ [], behind s') else enumerators total inner count (front ++ e ∷ []) s' in
      let (e, read, go) = bind_ok (enumerator total inner s)
      (λ x. if sees_mark mark.CloseBrace x.1.rest then Ok (front ++ x.0 ∷ [], behind x.1)
      else (expect_mark total mark.Comma x.1 >>= λ s'. behind_comma x.0 s')) x h in
      let is = enumerator_sound s e read in
      elim (cond_is (sees_mark mark.CloseBrace e.1.rest) (Ok (front ++ e.0 ∷ [], behind e.1)) (expect_mark total mark.Comma e.1 >>= λ s'. behind_comma e.0 s') (Ok x) go) [
        | inl p ↦
            let end = taken_behind mark.CloseBrace e.1 p.0 in
            moved_ok (Listed mark.CloseBrace (AreEnumerators total most (suc room)) front s) (record {
              all = e.0 ∷ [];
              token = end.token;
              are = refl;
              found = one_enumerator (subst (λ us. IsEnumerator total most (suc room) s.names s.rest us e.1.names e.0) end.are is);
              is = end.is;
            }) p.1
        | inr p ↦
            let (z, commas, on) = bind_ok (expect_mark total mark.Comma e.1) (λ s'. behind_comma e.0 s') x p.1 in
            let comma = expect_mark_is total mark.Comma e.1 z commas in
            let this : IsEnumerator total most (suc room) s.names s.rest (comma.token ∷ z.rest) z.names e.0 =
            moved_both (λ us n. IsEnumerator total most (suc room) s.names s.rest us n e.0) {us = comma.token ∷ z.rest} comma.are comma.names is in
            elim (cond_is (sees_mark mark.CloseBrace z.rest) (Ok (front ++ e.0 ∷ [], behind z)) (enumerators total inner count (front ++ e.0 ∷ []) z) (Ok x) on) [
              | inl q ↦
                  let end = taken_behind mark.CloseBrace z q.0 in
                  moved_ok (Listed mark.CloseBrace (AreEnumerators total most (suc room)) front s) (record {
                    all = e.0 ∷ [];
                    token = end.token;
                    are = refl;
                    found = last_enumerator {t = comma.token} {rest = end.token ∷ tail z.rest} (subst (λ us. IsEnumerator total most (suc room) s.names s.rest (comma.token ∷ us) z.names e.0) end.are this) comma.is;
                    is = end.is;
                  }) q.1
              | inr q ↦
                  let more = enumerators_sound count (front ++ e.0 ∷ []) z x q.1 in
                  record {
                    all = e.0 ∷ more.all;
                    token = more.token;
                    are = more.are ∙ append_assoc front (e.0 ∷ []) more.all;
                    found = more_enumerators this comma.is more.found;
                    is = more.is;
                  }
            ]
      ]

enum_body_sound : (total most room : ℕ) (inner : Inner) → Sound total most room inner → (token : ℕ) (name : Option Name) (s : State) (x : EnumSpec Expr × State)
    → enum_body total room inner token name s ≡ Ok x
    → (es : List (Enumerator Expr)) × (an_enum.Body token name es ≡ x.0) × Braced (AreEnumerators total most room) s x.1 es
unfolding enum_body
enum_body_sound total most zero inner sound token name s x h =
    let (start, opens, go) = bind_ok (expect_mark total mark.OpenBrace s) (λ start. Err (too_deep total start)) x h in
    absurd cc
enum_body_sound total most (suc room) inner sound token name s x h =
    let (start, opens, on) = bind_ok (expect_mark total mark.OpenBrace s)
    (λ start. if nat_eq (suc room) 0 then Err (too_deep total start)
    else (enumerators total inner (length start.rest) [] start >>= λ x. Ok (an_enum.Body token name x.0, x.1))) x h in
    elim (cond_is (nat_eq (suc room) 0) (Err (too_deep total start)) (enumerators total inner (length start.rest) [] start >>= λ x. Ok (an_enum.Body token name x.0, x.1)) (Ok x) on) [
      | inl p ↦ absurd (let e = p.1 in cc)
      | inr p ↦
          let (y, read, made) = bind_ok (enumerators total inner (length start.rest) [] start) (λ x. Ok (an_enum.Body token name x.0, x.1)) x p.1 in
          let begin = expect_mark_is total mark.OpenBrace s start opens in
          let l = enumerators_sound total most room inner sound (length start.rest) [] start y read in
          let e : (an_enum.Body token name y.0, y.1) ≡ x = ok_same made in (
            y.0,
            ap (λ z. z.0) e,
            subst (λ (z : EnumSpec Expr × State). Braced (AreEnumerators total most (suc room)) s z.1 y.0) e (record {
              open_token = begin.token;
              start = start.rest;
              close_token = l.token;
              are = begin.are;
              opens = begin.is;
              found = subst (λ es. AreEnumerators total most (suc room) s.names start.rest (l.token ∷ y.1.rest) y.1.names es) (sym l.are)
                  (subst (λ n. AreEnumerators total most (suc room) n start.rest (l.token ∷ y.1.rest) y.1.names l.all) (sym begin.names) l.found);
              closes = l.is;
            }),
          )
    ]

module _ (total most room : ℕ) (inner : Inner) (sound : Sound total most room inner) where
  pub enum_spec_sound : (names : Names) (k : Token) (ts : List Token) (x : EnumSpec Expr × State) → IsKeyword keyword.Enum k
      → enum_spec total room inner (at_state names (k ∷ ts)) ≡ Ok x → IsEnum total most (suc room) names (k ∷ ts) x.1.rest x.1.names x.0
  unfolding enum_spec
  enum_spec_sound names k ts x is h =
      let P : List Token → EnumSpec Expr → Type 0 = λ us t. IsEnum total most (suc room) names us x.1.rest x.1.names t in
      let named : Name → Outcome (EnumSpec Expr × State) = λ name. if sees_mark mark.OpenBrace (tail ts)
      then enum_body total room inner (number_of total (k ∷ ts)) (Some name) (at_state names (tail ts))
      else Ok (an_enum.Reference (number_of total (k ∷ ts)) name, at_state names (tail ts)) in
      elim (choose_is (name_at_front total ts) (enum_body total room inner (number_of total (k ∷ ts)) None (at_state names ts)) named (Ok x) h) [
        | inl p ↦
            let (ms, made, b) = enum_body_sound total most room inner sound (number_of total (k ∷ ts)) None (at_state names ts) x p.1 in
            subst (P (k ∷ ts)) made
            (subst (λ us. P (k ∷ us) (an_enum.Body (number_of total (k ∷ us)) None ms)) (sym b.are) (enum_untagged is b.opens b.found b.closes))
        | inr p ↦
            let n = name_at_front_is total ts p.0 p.1 in
            elim (cond_is (sees_mark mark.OpenBrace (tail ts)) (enum_body total room inner (number_of total (k ∷ ts)) (Some p.0) (at_state names (tail ts)))
            (Ok (an_enum.Reference (number_of total (k ∷ ts)) p.0, at_state names (tail ts))) (Ok x) p.2) [
              | inl q ↦
                  let (ms, made, b) = enum_body_sound total most room inner sound (number_of total (k ∷ ts)) (Some p.0) (at_state names (tail ts)) x q.1 in
                  let here : P (k ∷ n.token ∷ tail ts) (an_enum.Body (number_of total (k ∷ n.token ∷ tail ts)) (Some (name_at (number_of total (n.token ∷ tail ts)) n.token)) ms) =
                  subst (λ us. P (k ∷ n.token ∷ us) (an_enum.Body (number_of total (k ∷ n.token ∷ us)) (Some (name_at (number_of total (n.token ∷ us)) n.token)) ms)) (sym b.are)
                  (enum_tagged is n.is b.opens b.found b.closes) in
                  subst (P (k ∷ ts)) made
                  (subst (λ name. P (k ∷ ts) (an_enum.Body (number_of total (k ∷ ts)) (Some name) ms)) n.made
                  (subst (λ us. P (k ∷ us) (an_enum.Body (number_of total (k ∷ us)) (Some (name_at (number_of total us) n.token)) ms)) (sym n.are) here))
              | inr q ↦
                  moved_ok (λ (z : EnumSpec Expr × State). IsEnum total most (suc room) names (k ∷ ts) z.1.rest z.1.names z.0)
                  (subst (λ name. IsEnum total most (suc room) names (k ∷ ts) (tail ts) names (an_enum.Reference (number_of total (k ∷ ts)) name)) n.made
                  (subst (λ us. IsEnum total most (suc room) names (k ∷ us) (tail ts) names (an_enum.Reference (number_of total (k ∷ us)) (name_at (number_of total us) n.token))) (sym n.are)
                  (enum_reference is n.is))) q.1
            ]
      ]
