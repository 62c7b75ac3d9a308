-- Each structure and each enumeration is read, or a late token stands too deep.
use Rattle.std.proofs.Common.{◌≡◌, ℕ, zero, suc, ◌+◌, ◌≤◌, nat_eq, if◌then◌else◌, Bool, false, Option, Some, None, Ok, Err, List, [], ◌∷◌, ◌++◌, length, append_assoc, refl, ap, ◌∙◌, arith}
use Rattle.std.proofs.lemmas.Bool.Decides.{nat_tests}
use Rattle.c_lex.specs.declared.token.Token.{Token}
use Rattle.c_lex.specs.declared.token.Mark.{Mark}
use Rattle.c_lex.specs.declared.token.Mark.TheVariants as mark
use Rattle.c_ast.specs.declared.words.Name.{Name}
use Rattle.c_ast.specs.declared.expression.Expr.{Expr}
use Rattle.c_ast.specs.declared.declaration.StructSpec.{StructSpec}
use Rattle.c_ast.specs.declared.declaration.StructSpec.TheVariants as a_struct
use Rattle.c_ast.specs.declared.declaration.Member.{Member, roll-Member}
use Rattle.c_ast.specs.declared.declaration.EnumSpec.{EnumSpec}
use Rattle.c_ast.specs.declared.declaration.EnumSpec.TheVariants as an_enum
use Rattle.c_ast.specs.declared.declaration.Enumerator.{Enumerator}
use Rattle.c_ast.specs.declared.declaration.Declarator.{Declarator}
use Rattle.c_grammar.specs.declared.phrases.Extent.TheVariants as extent
use Rattle.c_grammar.specs.declared.phrases.ReadDeclarator.{ReadDeclarator}
use Rattle.c_grammar.specs.Names.{Names, name_at}
use Rattle.c_grammar.specs.Words.{IsMark, number_of, operator_of}
use Rattle.c_grammar.specs.Grammar.{IsStruct, struct_reference, struct_tagged, struct_untagged, AreMembers, one_member, more_members, IsMember, member as a_member, AreDeclarators, one_declarator, more_declarators, IsEnum, enum_reference, enum_tagged, enum_untagged, AreEnumerators, one_enumerator, last_enumerator, more_enumerators, IsEnumerator, enumerator as an_enumerator, valued}
use Rattle.c_grammar.specs.Nesting.{Bounds, struct_stands, members_stand, member_stands, declarators_stand, enum_stands, enumerators_stand, enumerator_stands}
use Rattle.c_grammar.specs.Reading.{State, Outcome, ◌>>=◌, same_mark, is_name, sees_mark, tail, behind, expect_mark, expect_name}
use Rattle.c_grammar.specs.ReadingExpr.{operator_at}
use Rattle.c_grammar.specs.ReadingDecl.{members_declared, member, members, struct_body, struct_spec, too_deep, with_declared, enumerator, enumerators, enum_body, enum_spec}
use Rattle.c_grammar.specs.Inner.{Inner}
use Rattle.c_grammar.proofs.Late.{Meets, same, on, ◌▸◌}
use Rattle.c_grammar.proofs.Laws.{at_state, Complete, EndsCond, EndsDeclarator, is_postfix, sees_postfix}
use Rattle.c_grammar.proofs.Extends.{declarator_extends}
use Rattle.c_grammar_laws.proofs.FirstStands.{stops_first, enumerators_first}
use Rattle.c_grammar_laws.proofs.SpecsFound.{Stands}
use Rattle.c_grammar_laws.proofs.SpecsBegin.{stands_sees, stands_here, expect_there, member_begins, members_begin, declarators_begin, enumerator_begins, enumerators_begin}

-- this token stands at the front
pub at_front : (m : Mark) (t : Token) (ts : List Token) → IsMark m t → Stands m (t ∷ ts) ts
at_front m t ts is = record { token = t; are = refl; is = is }

ends_declarator : (m : Mark) {ts rest : List Token} → Stands m ts rest → same_mark m mark.OpenBracket ≡ false → same_mark m mark.OpenParen ≡ false → EndsDeclarator ts
ends_declarator m s a b = record { no_array = stands_sees m mark.OpenBracket s ∙ a; no_function = stands_sees m mark.OpenParen s ∙ b }

module _ (total wide : ℕ) (b : Bounds) (place : ℕ) (inner : Inner) (complete : Complete total wide b place inner) where
  -- what goes on behind a declarator of a member, and behind a member
  abbrev behind_declarator : ℕ → List Declarator → ReadDeclarator × State → Outcome (List Declarator × State)
  behind_declarator count front x =
      if sees_mark mark.Comma x.1.rest then members_declared total inner count (front ++ x.0.tree ∷ []) (behind x.1)
      else (expect_mark total mark.Semicolon x.1 >>= λ s'. Ok (front ++ x.0.tree ∷ [], s'))

  abbrev behind_member : ℕ → List Member → Member × State → Outcome (List Member × State)
  behind_member count front x =
      if sees_mark mark.CloseBrace x.1.rest then Ok (front ++ x.0 ∷ [], behind x.1) else members total inner count (front ++ x.0 ∷ []) x.1

  declarators_read : {names after : Names} {ts end : List Token} {ds : List Declarator}
      → (is : AreDeclarators total wide place names ts end after ds) → declarators_stand b is
      → (rest : List Token) → Stands mark.Semicolon end rest → (count : ℕ) → length ts ≤ count → (front : List Declarator)
      → Meets total b.later (members_declared total inner count front (at_state names ts)) (Ok (front ++ ds, at_state after rest))
  unfolding members_declared
  declarators_read (one_declarator d) stand rest s zero few front =
      absurd (let e = ap length s.are in omega (arith, (declarator_extends d).shrinks, e))
  declarators_read (one_declarator {names = names} {after = after} {ts = ts} {rest = end} {bytes = bytes} {own = own} {d = d} is) stand rest s (suc count) few front =
      let x : ReadDeclarator = record { tree = d; name = bytes; own = own } in
      let last : behind_declarator count front (x, at_state after end) ≡ Ok (front ++ d ∷ [], at_state after rest) =
      rw (stands_sees mark.Semicolon mark.Comma s, expect_there total mark.Semicolon after end rest s) refl in
      on (behind_declarator count front) (complete.declarator names after ts end x is stand (ends_declarator mark.Semicolon s refl refl))
      ▸ same last
  declarators_read (more_declarators d is ds) stand rest s zero few front =
      absurd (omega (arith, (declarator_extends d).shrinks))
  declarators_read (more_declarators {names = names} {between = between} {after = after} {t = t} {ts = ts} {mid = mid} {bytes = bytes} {own = own} {d = d} {ds = ds} is comma more) stand rest s (suc count) few front =
      let c = at_front mark.Comma t mid comma in
      let x : ReadDeclarator = record { tree = d; name = bytes; own = own } in
      let next : behind_declarator count front (x, at_state between (t ∷ mid)) ≡ members_declared total inner count (front ++ d ∷ []) (at_state between mid) =
      rw (stands_here mark.Comma c) refl in
      on (behind_declarator count front) (complete.declarator names between ts (t ∷ mid) x is stand.0 (ends_declarator mark.Comma c refl refl))
      ▸ same next
      ▸ declarators_read more stand.2 rest s count (omega (arith, (declarator_extends is).shrinks)) (front ++ d ∷ [])
      ▸ same (ap (λ xs. Ok (xs, at_state after rest)) (append_assoc front (d ∷ []) ds))

  member_read : {names after : Names} {ts rest : List Token} {m : Member} → (is : IsMember total wide place names ts rest after m) → member_stands b is
      → Meets total b.later (member total inner (at_state names ts)) (Ok (m, at_state after rest))
  unfolding member
  member_read (a_member {names = names} {between = between} {s = s} {ts = ts} {mid = mid} {rest = rest} {is_typedef = flag} {ss = ss} d ds ends) stand =
      let begins = declarators_begin ds in
      let few : length mid ≤ length mid = omega arith in
      on (λ x. members_declared total inner (length x.1.rest) [] x.1 >>= λ y. Ok (roll-Member (record { specs = x.0.specs; declarators = y.0 }), y.1))
      (complete.specs names between ts mid (record { specs = ss; is_typedef = flag }) d stand.0 begins.no_keyword begins.no_brace)
      ▸ on (λ y. Ok (roll-Member (record { specs = ss; declarators = y.0 }), y.1))
      (declarators_read ds stand.1 rest (at_front mark.Semicolon s rest ends) (length mid) few [])

  members_read : {names after : Names} {ts end : List Token} {ms : List Member} → (is : AreMembers total wide place names ts end after ms) → members_stand b is
      → (rest : List Token) → Stands mark.CloseBrace end rest → (count : ℕ) → length ts ≤ count → (front : List Member)
      → Meets total b.later (members total inner count front (at_state names ts)) (Ok (front ++ ms, at_state after rest))
  unfolding members
  members_read (one_member d) stand rest s zero few front = absurd (omega (arith, (member_begins d).takes))
  members_read (one_member {after = after} {rest = end} {m = m} d) stand rest s (suc count) few front =
      let last : behind_member count front (m, at_state after end) ≡ Ok (front ++ m ∷ [], at_state after rest) =
      rw (stands_here mark.CloseBrace s) (ap (λ us. Ok (front ++ m ∷ [], at_state after (tail us))) s.are) in
      on (behind_member count front) (member_read d stand) ▸ same last
  members_read (more_members d ms) stand rest s zero few front = absurd (omega (arith, (member_begins d).takes))
  members_read (more_members {between = between} {after = after} {mid = mid} {m = m} {ms = ms} d more) stand rest s (suc count) few front =
      let next : behind_member count front (m, at_state between mid) ≡ members total inner count (front ++ m ∷ []) (at_state between mid) =
      rw (members_begin more mark.CloseBrace) refl in
      on (behind_member count front) (member_read d stand.0)
      ▸ same next
      ▸ members_read more stand.1 rest s count (omega (arith, (member_begins d).takes)) (front ++ m ∷ [])
      ▸ same (ap (λ xs. Ok (xs, at_state after rest)) (append_assoc front (m ∷ []) ms))

  struct_body_read : (token : ℕ) (name : Option Name) (o c : Token) {names after : Names} {ts rest : List Token} {ms : List Member} → IsMark mark.OpenBrace o
      → (is : AreMembers total wide place names ts (c ∷ rest) after ms) → members_stand b is → IsMark mark.CloseBrace c
      → Meets total b.later (struct_body total inner token name (at_state names (o ∷ ts))) (Ok (a_struct.Body token name ms, at_state after rest))
  unfolding struct_body
  struct_body_read token name o c {names} {after} {ts} {rest} opens ms stand closes =
      let few : length ts ≤ length ts = omega arith in
      same (ap (λ p. p >>= λ start. members total inner (length start.rest) [] start >>= λ x. Ok (a_struct.Body token name x.0, x.1))
      (expect_there total mark.OpenBrace names (o ∷ ts) ts (at_front mark.OpenBrace o ts opens)))
      ▸ on (λ x. Ok (a_struct.Body token name x.0, x.1)) (members_read ms stand rest (at_front mark.CloseBrace c rest closes) (length ts) few [])

  pub struct_read : {names after : Names} {ts rest : List Token} {s : StructSpec Member} → (is : IsStruct total wide (suc place) names ts rest after s) → struct_stands b is
      → sees_mark mark.OpenBrace rest ≡ false → Meets total b.later (struct_spec total inner (at_state names ts)) (Ok (s, at_state after rest))
  unfolding struct_spec
  struct_read (struct_reference is named) stand no_brace = same (rw (ap is_name named, no_brace) refl)
  struct_read (struct_tagged {names = names} {s = s} {t = t} {o = o} {c = c} {ts = ts} is named opens found closes) stand no_brace =
      let token = number_of total (s ∷ t ∷ o ∷ ts) in
      let name : Option Name = Some (name_at (number_of total (t ∷ o ∷ ts)) t) in
      let body : struct_spec total inner (at_state names (s ∷ t ∷ o ∷ ts)) ≡ struct_body total inner token name (at_state names (o ∷ ts)) =
      rw (ap is_name named, stands_here mark.OpenBrace (at_front mark.OpenBrace o ts opens)) refl in
      same body ▸ struct_body_read token name o c opens found stand.3 closes
  struct_read (struct_untagged {names = names} {s = s} {o = o} {c = c} {ts = ts} is opens found closes) stand no_brace =
      let token = number_of total (s ∷ o ∷ ts) in
      let body : struct_spec total inner (at_state names (s ∷ o ∷ ts)) ≡ struct_body total inner token None (at_state names (o ∷ ts)) =
      rw (ap is_name opens) refl in
      same body ▸ struct_body_read token None o c opens found stand.2 closes

-- what comes behind an enumerator
record EndsEnumerator (ts : List Token) : Type 0 where
  cond : EndsCond ts
  no_assign : sees_mark mark.Assign ts ≡ false

ends_at_comma : {ts rest : List Token} → Stands mark.Comma ts rest → EndsEnumerator ts
ends_at_comma s = record {
  cond = record {
    unary = record { no_postfix = ap sees_postfix s.are ∙ ap is_postfix s.is };
    no_operator = ap operator_at s.are ∙ ap operator_of s.is;
    no_question = stands_sees mark.Comma mark.Question s;
  };
  no_assign = stands_sees mark.Comma mark.Assign s;
}

ends_at_brace : {ts rest : List Token} → Stands mark.CloseBrace ts rest → EndsEnumerator ts
ends_at_brace s = record {
  cond = record {
    unary = record { no_postfix = ap sees_postfix s.are ∙ ap is_postfix s.is };
    no_operator = ap operator_at s.are ∙ ap operator_of s.is;
    no_question = stands_sees mark.CloseBrace mark.Question s;
  };
  no_assign = stands_sees mark.CloseBrace mark.Assign s;
}

module _ (total wide : ℕ) (b : Bounds) (inner : Inner) where
  -- what goes on behind the name of an enumerator, and behind an enumerator
  abbrev behind_name : Name × State → Outcome (Enumerator Expr × State)
  behind_name x =
      if sees_mark mark.Assign x.1.rest
      then (inner.expr extent.Cond (behind x.1) >>= λ y. Ok (record { name = x.0; value = Some y.0 }, with_declared x.0.text y.1))
      else Ok (record { name = x.0; value = None }, with_declared x.0.text x.1)

  abbrev behind_enumerator : ℕ → List (Enumerator Expr) → Enumerator Expr × State → Outcome (List (Enumerator Expr) × State)
  behind_enumerator count front x =
      if sees_mark mark.CloseBrace x.1.rest then Ok (front ++ x.0 ∷ [], behind x.1)
      else (expect_mark total mark.Comma x.1
      >>= λ s'. if sees_mark mark.CloseBrace s'.rest then Ok (front ++ x.0 ∷ [], behind s')
      else enumerators total inner count (front ++ x.0 ∷ []) s')

  enumerator_read : {place : ℕ} {names after : Names} {ts end : List Token} {e : Enumerator Expr}
      → (is : IsEnumerator total wide place names ts end after e) → enumerator_stands b is → Complete total wide b place inner → EndsEnumerator end
      → Meets total b.later (enumerator total inner (at_state names ts)) (Ok (e, at_state after end))
  unfolding enumerator expect_name
  enumerator_read (an_enumerator named) stand complete ends = same (rw (ap is_name named, ends.no_assign) refl)
  enumerator_read (valued {names = names} {after = after} {t = t} {e = e} {ts = ts} {rest = rest} {a = a} named is d) stand complete ends =
      let name : Name = name_at (number_of total (t ∷ e ∷ ts)) t in
      let value : enumerator total inner (at_state names (t ∷ e ∷ ts))
      ≡ (inner.expr extent.Cond (at_state names ts) >>= λ y. Ok (record { name = name; value = Some y.0 }, with_declared name.text y.1)) =
      rw (ap is_name named, stands_here mark.Assign (at_front mark.Assign e ts is)) refl in
      same value
      ▸ on (λ y. Ok (record { name = name; value = Some y.0 }, with_declared name.text y.1)) (complete.expr extent.Cond names after ts rest a d stand.2 ends.cond)

  enumerators_read : {place : ℕ} {names after : Names} {ts end : List Token} {es : List (Enumerator Expr)}
      → (is : AreEnumerators total wide place names ts end after es) → enumerators_stand b is
      → Complete total wide b place inner → (rest : List Token) → Stands mark.CloseBrace end rest → (count : ℕ) → length ts ≤ count → (front : List (Enumerator Expr))
      → Meets total b.later (enumerators total inner count front (at_state names ts)) (Ok (front ++ es, at_state after rest))
  unfolding enumerators
  enumerators_read (one_enumerator d) stand complete rest s zero few front = absurd (omega (arith, (enumerator_begins d).takes))
  enumerators_read (one_enumerator {after = after} {rest = end} {e = e} d) stand complete rest s (suc count) few front =
      let last : behind_enumerator count front (e, at_state after end) ≡ Ok (front ++ e ∷ [], at_state after rest) =
      rw (stands_here mark.CloseBrace s) (ap (λ us. Ok (front ++ e ∷ [], at_state after (tail us))) s.are) in
      on (behind_enumerator count front) (enumerator_read d stand complete (ends_at_brace s)) ▸ same last
  enumerators_read (last_enumerator d is) stand complete rest s zero few front = absurd (omega (arith, (enumerator_begins d).takes))
  enumerators_read (last_enumerator {after = after} {t = t} {rest = end} {e = e} d is) stand complete rest s (suc count) few front =
      let c = at_front mark.Comma t end is in
      let last : behind_enumerator count front (e, at_state after (t ∷ end)) ≡ Ok (front ++ e ∷ [], at_state after rest) =
      rw (stands_sees mark.Comma mark.CloseBrace c, expect_there total mark.Comma after (t ∷ end) end c, stands_here mark.CloseBrace s)
      (ap (λ us. Ok (front ++ e ∷ [], at_state after (tail us))) s.are) in
      on (behind_enumerator count front) (enumerator_read d stand.0 complete (ends_at_comma c)) ▸ same last
  enumerators_read (more_enumerators d is es) stand complete rest s zero few front = absurd (omega (arith, (enumerator_begins d).takes))
  enumerators_read (more_enumerators {between = between} {after = after} {t = t} {mid = mid} {e = e} {es = es} d is more) stand complete rest s (suc count) few front =
      let c = at_front mark.Comma t mid is in
      let next : behind_enumerator count front (e, at_state between (t ∷ mid)) ≡ enumerators total inner count (front ++ e ∷ []) (at_state between mid) =
      rw (stands_sees mark.Comma mark.CloseBrace c, expect_there total mark.Comma between (t ∷ mid) mid c, (enumerators_begin more).0 mark.CloseBrace) refl in
      on (behind_enumerator count front) (enumerator_read d stand.0 complete (ends_at_comma c))
      ▸ same next
      ▸ enumerators_read more stand.2 complete rest s count (omega (arith, (enumerator_begins d).takes)) (front ++ e ∷ [])
      ▸ same (ap (λ xs. Ok (xs, at_state after rest)) (append_assoc front (e ∷ []) es))

pub some_room : (room : ℕ) → nat_eq (suc room) 0 ≡ false
some_room room = grind (arith, nat_tests)

-- Behind the brace stand the enumerators, one level further in: there is room for them, or the first of them is late.
module _ (total wide : ℕ) (b : Bounds) (place : ℕ) (inner : Inner) (complete : Complete total wide b place inner) where
  abbrev behind_brace : ℕ → Option Name → Bool → State → Outcome (EnumSpec Expr × State)
  behind_brace token name full start =
      if full then Err (too_deep total start)
      else (enumerators total inner (length start.rest) [] start >>= λ x. Ok (an_enum.Body token name x.0, x.1))

  inside_read : (room : ℕ) → place ≡ room + b.spare → (token : ℕ) (name : Option Name) (c : Token) {names after : Names} {ts rest : List Token} {es : List (Enumerator Expr)}
      → (is : AreEnumerators total wide place names ts (c ∷ rest) after es) → enumerators_stand b is → IsMark mark.CloseBrace c
      → Meets total b.later (behind_brace token name (nat_eq room 0) (at_state names ts)) (Ok (an_enum.Body token name es, at_state after rest))
  inside_read zero rooms token name c {names} {after} {ts} {rest} {es} is stand closes =
      stops_first total b.later names ts (enumerators_first b is stand (omega arith)) (Ok (an_enum.Body token name es, at_state after rest))
  inside_read (suc room) rooms token name c {names} {after} {ts} {rest} {es} is stand closes =
      let few : length ts ≤ length ts = omega arith in
      same (ap (λ full. behind_brace token name full (at_state names ts)) (some_room room))
      ▸ on (λ x. Ok (an_enum.Body token name x.0, x.1))
      (enumerators_read total wide b inner is stand complete rest (at_front mark.CloseBrace c rest closes) (length ts) few [])

  module _ (room : ℕ) (rooms : place ≡ room + b.spare) where
    enum_body_read : (token : ℕ) (name : Option Name) (o c : Token) {names after : Names} {ts rest : List Token} {es : List (Enumerator Expr)} → IsMark mark.OpenBrace o
        → (is : AreEnumerators total wide place names ts (c ∷ rest) after es) → enumerators_stand b is → IsMark mark.CloseBrace c
        → Meets total b.later (enum_body total room inner token name (at_state names (o ∷ ts))) (Ok (an_enum.Body token name es, at_state after rest))
    unfolding enum_body
    enum_body_read token name o c {names} {after} {ts} {rest} opens es stand closes =
        same (ap (λ p. p >>= behind_brace token name (nat_eq room 0)) (expect_there total mark.OpenBrace names (o ∷ ts) ts (at_front mark.OpenBrace o ts opens)))
        ▸ inside_read room rooms token name c es stand closes

    pub enum_read : {names after : Names} {ts rest : List Token} {s : EnumSpec Expr} → (is : IsEnum total wide (suc place) names ts rest after s) → enum_stands b is
        → sees_mark mark.OpenBrace rest ≡ false → Meets total b.later (enum_spec total room inner (at_state names ts)) (Ok (s, at_state after rest))
    unfolding enum_spec
    enum_read (enum_reference is named) stand no_brace = same (rw (ap is_name named, no_brace) refl)
    enum_read (enum_tagged {names = names} {e = e} {t = t} {o = o} {c = c} {ts = ts} is named opens found closes) stand no_brace =
        let token = number_of total (e ∷ t ∷ o ∷ ts) in
        let name : Option Name = Some (name_at (number_of total (t ∷ o ∷ ts)) t) in
        let body : enum_spec total room inner (at_state names (e ∷ t ∷ o ∷ ts)) ≡ enum_body total room inner token name (at_state names (o ∷ ts)) =
        rw (ap is_name named, stands_here mark.OpenBrace (at_front mark.OpenBrace o ts opens)) refl in
        same body ▸ enum_body_read token name o c opens found stand.3 closes
    enum_read (enum_untagged {names = names} {e = e} {o = o} {c = c} {ts = ts} is opens found closes) stand no_brace =
        let token = number_of total (e ∷ o ∷ ts) in
        let body : enum_spec total room inner (at_state names (e ∷ o ∷ ts)) ≡ enum_body total room inner token None (at_state names (o ∷ ts)) =
        rw (ap is_name opens) refl in
        same body ▸ enum_body_read token None o c opens found stand.2 closes
