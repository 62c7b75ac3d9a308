-- A reader of specifiers beside one that has more room.
use Rattle.std.proofs.Common.{◌≡◌, ℕ, zero, suc, ◌+◌, ◌≤◌, ◌||◌, inl, inr, Bool, true, false, cond, nat_eq, Option, Some, None, Ok, Err, List, [], ◌∷◌, ◌++◌, length, refl, sym, subst, arith}
use Rattle.std.proofs.Math.Dec.{eqb-suc-zero}
use Rattle.c_lex.specs.declared.token.Token.{Token}
use Rattle.c_lex.specs.declared.token.Mark.TheVariants as mark
use Rattle.c_ast.specs.declared.words.Name.{Name}
use Rattle.c_ast.specs.declared.expression.Expr.{Expr}
use Rattle.c_ast.specs.declared.declaration.Specifier.{Specifier}
use Rattle.c_ast.specs.declared.declaration.Specifier.TheVariants as specifier
use Rattle.c_ast.specs.declared.declaration.StructSpec.{StructSpec}
use Rattle.c_ast.specs.declared.declaration.StructSpec.TheVariants as a_struct
use Rattle.c_ast.specs.declared.declaration.Member.{Member, roll-Member}
use Rattle.c_ast.specs.declared.declaration.EnumSpec.{EnumSpec}
use Rattle.c_ast.specs.declared.declaration.EnumSpec.TheVariants as an_enum
use Rattle.c_ast.specs.declared.declaration.Enumerator.{Enumerator}
use Rattle.c_ast.specs.declared.declaration.Declarator.{Declarator}
use Rattle.c_grammar.specs.declared.phrases.Extent.TheVariants as extent
use Rattle.c_grammar.specs.declared.phrases.ReadSpecs.{ReadSpecs}
use Rattle.c_grammar.specs.Names.{Names, declared}
use Rattle.c_grammar.specs.Words.{number_of}
use Rattle.c_grammar.specs.Types.{Typed, Untyped, Whole, declares_types}
use Rattle.c_grammar.specs.Reading.{State, Unexpected, TooNested, Outcome, Reader, ◌>>=◌, sees_mark, tail, behind, here, name_at_front}
use Rattle.c_grammar.specs.ReadingExpr.{choose}
use Rattle.c_grammar.specs.ReadingDecl.{too_deep, is_untyped, members_declared, member, members, struct_body, struct_spec, enumerator, enumerators, enum_body, enum_spec, with_declared, Saying, SaysStorage, SaysQualifier, SaysWord, SaysStruct, SaysEnum, SaysName, SaysNothing, saying_of, ended_specs, GoesOn, by_saying, specifiers, specs}
use Rattle.c_grammar.specs.Inner.{Inner}
use Rattle.c_grammar_laws.proofs.Agrees.{state}
use Rattle.c_grammar_laws.proofs.Higher.{Rise, Higher, same, free, missed, still, Onward, Above, Takes, onward_bind, bind, given, picked, numbered, sized, unexpected, too_deep_for, nested, passed, past_token, renamed, either, tested, chosen, takes_bind, takes_none, expected, name_next, takes_name, OnwardInner, AboveInner}

-- Neither has room, or only the other one, or both have.
pub by_rooms : (w : Rise) (room room' : ℕ) → room' ≡ room + w.extra → (P : Bool → Bool → Type 0) → (w.extra ≡ 0 → P true true)
    → (2 ≤ w.extra → P true false) → P false false → P (nat_eq room 0) (nat_eq room' 0)
by_rooms w zero zero e P neither other both = neither (omega (arith, e))
by_rooms w zero (suc room') e P neither other both =
    subst (λ b. P true b) (sym (eqb-suc-zero room')) (elim w.deeper [
      | inl n ↦ absurd (omega (arith, e, n))
      | inr d ↦ other d
    ])
by_rooms w (suc room) zero e P neither other both = absurd (omega (arith, e))
by_rooms w (suc room) (suc room') e P neither other both =
    subst (λ b. P b (nat_eq (suc room') 0)) (sym (eqb-suc-zero room)) (subst (λ b. P false b) (sym (eqb-suc-zero room')) both)

-- ---- a reader beside itself

abbrev pub flat : ℕ → Rise
flat total = record {
  total = total;
  extra = 0;
  most = 0;
  wide = 0;
  wider = omega arith;
  deeper = inl refl;
}

flat_outcome : {total : ℕ} {A : Type 0} (o : Outcome (A × State)) → Higher (flat total) o o
flat_outcome (Ok x) = same x.0 x.1
flat_outcome (Err (Unexpected n)) = free n (Err (Unexpected n))
flat_outcome (Err (TooNested n)) = still n (inl refl)

pub itself : {total : ℕ} {A : Type 0} {f : Reader A} → Onward total f → Above (flat total) f f
itself {f = f} on = record {
  on = on;
  lift = λ s le. flat_outcome (f s);
}

pub inner_itself : {total : ℕ} {room : ℕ} {inner : Inner} → 1 ≤ room → OnwardInner total inner → AboveInner (flat total) room inner inner
inner_itself {inner = inner} more on = record {
  expr = λ x. itself (on.expr x);
  specs = itself on.specs;
  declarator = itself on.declarator;
  type_in_parens = itself on.type_in_parens;
  unnamed_on = on.unnamed;
  unnamed = λ one s le. flat_outcome (inner.unnamed s);
  param_on = on.param;
  param = λ one s le. flat_outcome (inner.param s);
  some_room = λ s x is. more;
}

-- ---- parts of the readers

-- behind `struct`
abbrev struct_behind : ℕ → Inner → ℕ → Reader (StructSpec Member)
struct_behind total inner token s =
    choose (name_at_front total s.rest) (struct_body total inner token None s)
    (λ name. cond (sees_mark mark.OpenBrace (tail s.rest)) (struct_body total inner token (Some name) (behind s)) (Ok (a_struct.Reference token name, behind s)))

-- behind `enum`
abbrev enum_behind : ℕ → ℕ → Inner → ℕ → Reader (EnumSpec Expr)
enum_behind total room inner token s =
    choose (name_at_front total s.rest) (enum_body total room inner token None s)
    (λ name. cond (sees_mark mark.OpenBrace (tail s.rest)) (enum_body total room inner token (Some name) (behind s)) (Ok (an_enum.Reference token name, behind s)))

abbrev valued : Name → Option Expr → Enumerator Expr
valued name value = record { name = name; value = value }

-- behind the name of an enumerator
abbrev value_behind : Inner → Name → Reader (Enumerator Expr)
value_behind inner name s =
    cond (sees_mark mark.Assign s.rest)
    (inner.expr extent.Cond (behind s) >>= λ y. Ok (valued name (Some y.0), with_declared name.text y.1))
    (Ok (valued name None, with_declared name.text s))

module _ (w : Rise) (room room' : ℕ) (rooms : room' ≡ room + w.extra) (inner inner' : Inner) {r : ℕ} (below : AboveInner w r inner inner') where
  -- ---- structures

  members_declared_above : (count : ℕ) (front : List Declarator) → Above w (members_declared w.total inner count front) (members_declared w.total inner' count front)
  unfolding members_declared
  members_declared_above zero front = unexpected
  members_declared_above (suc count) front =
      bind below.declarator
      (λ d. tested mark.Comma (passed (members_declared_above count (front ++ d.tree ∷ []))) (expected mark.Semicolon (given (front ++ d.tree ∷ []))))

  member_above : Above w (member w.total inner) (member w.total inner')
  unfolding member
  member_above =
      bind below.specs (λ ss. bind (sized (λ count. members_declared_above count []))
      (λ ds. given (roll-Member (record { specs = ss.specs; declarators = ds }))))

  members_above : (count : ℕ) (front : List Member) → Above w (members w.total inner count front) (members w.total inner' count front)
  unfolding members
  members_above zero front = bind member_above (λ x. unexpected)
  members_above (suc count) front =
      bind member_above (λ m. tested mark.CloseBrace (passed (given (front ++ m ∷ []))) (members_above count (front ++ m ∷ [])))

  struct_body_above : (token : ℕ) (name : Option Name) → Above w (struct_body w.total inner token name) (struct_body w.total inner' token name)
  unfolding struct_body
  struct_body_above token name = expected mark.OpenBrace (bind (sized (λ count. members_above count [])) (λ ms. given (a_struct.Body token name ms)))

  struct_behind_above : (token : ℕ) → Above w (struct_behind w.total inner token) (struct_behind w.total inner' token)
  struct_behind_above token =
      chosen (λ s. name_at_front w.total s.rest) (struct_body_above token None)
      (λ name. passed (tested mark.OpenBrace (struct_body_above token (Some name)) (given (a_struct.Reference token name))))

  struct_above : Above w (struct_spec w.total inner) (struct_spec w.total inner')
  unfolding struct_spec
  struct_above = numbered (λ token. passed (struct_behind_above token))

  -- ---- enumerations

  value_above : (name : Name) → Above w (value_behind inner name) (value_behind inner' name)
  value_above name =
      tested mark.Assign (bind (passed (below.expr extent.Cond)) (λ e. renamed (λ names. declared names name.text false) (given (valued name (Some e)))))
      (renamed (λ names. declared names name.text false) (given (valued name None)))

  enumerator_above : Above w (enumerator w.total inner) (enumerator w.total inner')
  unfolding enumerator
  enumerator_above = bind (name_next w) value_above

  enumerators_above : (count : ℕ) (front : List (Enumerator Expr)) → Above w (enumerators w.total inner count front) (enumerators w.total inner' count front)
  unfolding enumerators
  enumerators_above zero front = unexpected
  enumerators_above (suc count) front =
      bind enumerator_above (λ e. tested mark.CloseBrace (passed (given (front ++ e ∷ [])))
      (expected mark.Comma (tested mark.CloseBrace (passed (given (front ++ e ∷ []))) (enumerators_above count (front ++ e ∷ [])))))

  -- Where only the other has room for enumerators, it takes a name.
  takes_enumerators : 2 ≤ w.extra → (count : ℕ) (front : List (Enumerator Expr)) → Takes w (enumerators w.total inner' count front)
  unfolding enumerators enumerator
  takes_enumerators deep zero front = takes_none deep
  takes_enumerators deep (suc count) front =
      takes_bind (takes_bind (takes_name w deep) (λ name. (value_above name).on))
      (λ e. (tested {f = λ s. Ok (front ++ e ∷ [], behind s)} mark.CloseBrace (passed (given (front ++ e ∷ [])))
      (expected mark.Comma (tested mark.CloseBrace (passed (given (front ++ e ∷ []))) (enumerators_above count (front ++ e ∷ []))))).on)

  enum_body_above : (token : ℕ) (name : Option Name) → Above w (enum_body w.total room inner token name) (enum_body w.total room' inner' token name)
  unfolding enum_body too_deep
  enum_body_above token name =
      let read = bind (sized (λ count. enumerators_above count [])) (λ es. given (an_enum.Body token name es)) in
      expected mark.OpenBrace (by_rooms w room room' rooms (λ b b'. Above w
      (λ start. cond b (Err (TooNested (here w.total start))) (enumerators w.total inner (length start.rest) [] start >>= λ x. Ok (an_enum.Body token name x.0, x.1)))
      (λ start. cond b' (Err (TooNested (here w.total start))) (enumerators w.total inner' (length start.rest) [] start >>= λ x. Ok (an_enum.Body token name x.0, x.1))))
      nested
      (λ deep. too_deep_for read.on (takes_bind (λ s le. takes_enumerators deep (length s.rest) [] s le) (λ es. (given {w = w} (an_enum.Body token name es)).on)))
      read)

  enum_behind_above : (token : ℕ) → Above w (enum_behind w.total room inner token) (enum_behind w.total room' inner' token)
  enum_behind_above token =
      chosen (λ s. name_at_front w.total s.rest) (enum_body_above token None)
      (λ name. passed (tested mark.OpenBrace (enum_body_above token (Some name)) (given (an_enum.Reference token name))))

  enum_above : Above w (enum_spec w.total room inner) (enum_spec w.total room' inner')
  unfolding enum_spec
  enum_above = numbered (λ token. passed (enum_behind_above token))

  -- ---- specifiers

  ended_above : (token : ℕ) (typed : Typed) (flag : Bool) (front : List Specifier)
      → Above w (ended_specs w.total token typed flag front) (ended_specs w.total token typed flag front)
  ended_above token typed flag front =
      either unexpected (given (record { specs = record { token = token; specifiers = front }; is_typedef = flag })) (is_untyped typed)

  by_saying_above : (token : ℕ) (on on' : GoesOn) → ((typed : Typed) (flag : Bool) (front : List Specifier) → Above w (on typed flag front) (on' typed flag front))
      → (typed : Typed) (flag : Bool) (front : List Specifier) (saying : Saying)
      → Above w (by_saying w.total room inner token on saying typed flag front) (by_saying w.total room' inner' token on' saying typed flag front)
  by_saying_above token on on' rec typed flag front (SaysStorage x) = passed (rec typed (flag || declares_types x) (front ++ specifier.Storage x ∷ []))
  by_saying_above token on on' rec typed flag front (SaysQualifier q) = passed (rec typed flag (front ++ specifier.Qualifier q ∷ []))
  by_saying_above token on on' rec typed flag front (SaysWord typed' x) = passed (rec typed' flag (front ++ specifier.Word x ∷ []))
  by_saying_above token on on' rec typed flag front SaysStruct = bind struct_above (λ x. rec Whole flag (front ++ specifier.Struct x ∷ []))
  by_saying_above token on on' rec typed flag front SaysEnum = bind enum_above (λ x. rec Whole flag (front ++ specifier.Enum x ∷ []))
  by_saying_above token on on' rec typed flag front (SaysName name) = passed (rec Whole flag (front ++ specifier.TypedefName name ∷ []))
  by_saying_above token on on' rec typed flag front SaysNothing = ended_above token typed flag front

  specifiers_above : (token count : ℕ) (typed : Typed) (flag : Bool) (front : List Specifier)
      → Above w (specifiers w.total room inner token count typed flag front) (specifiers w.total room' inner' token count typed flag front)
  unfolding specifiers
  specifiers_above token zero typed flag front = ended_above token typed flag front
  specifiers_above token (suc count) typed flag front =
      picked (λ s. saying_of w.total s.names typed s.rest)
      (by_saying_above token (specifiers w.total room inner token count) (specifiers w.total room' inner' token count)
      (λ typed flag front. specifiers_above token count typed flag front) typed flag front)

  pub specs_above : Above w (specs w.total room inner) (specs w.total room' inner')
  unfolding specs
  specs_above = numbered (λ token. sized (λ count. specifiers_above token count Untyped false []))

-- ---- what the other takes

module _ (w : Rise) (some : 2 ≤ w.extra) (room' : ℕ) (inner' : Inner) (on : OnwardInner w.total inner') where
  same_room : room' ≡ room' + 0
  same_room = omega arith

  specifiers_on : (token count : ℕ) (typed : Typed) (flag : Bool) (front : List Specifier) → Onward w.total (specifiers w.total room' inner' token count typed flag front)
  specifiers_on token count typed flag front =
      (specifiers_above (flat w.total) room' room' same_room inner' inner' (inner_itself {room = 1} (omega arith) on) token count typed flag front).on

  struct_on : (token : ℕ) → Onward w.total (struct_behind w.total inner' token)
  struct_on token = (struct_behind_above (flat w.total) room' room' same_room inner' inner' (inner_itself {room = 1} (omega arith) on) token).on

  enum_on : (token : ℕ) → Onward w.total (enum_behind w.total room' inner' token)
  enum_on token = (enum_behind_above (flat w.total) room' room' same_room inner' inner' (inner_itself {room = 1} (omega arith) on) token).on

  -- The first token is a specifier, or it isn't expected.
  takes_saying : (token count : ℕ) (names : Names) (t : Token) (ts : List Token) → length (t ∷ ts) ≤ w.total → (saying : Saying)
      → Higher w {A = ReadSpecs} (Err (TooNested (number_of w.total (t ∷ ts))))
      (by_saying w.total room' inner' token (specifiers w.total room' inner' token count) saying Untyped false [] (state names (t ∷ ts)))
  unfolding struct_spec enum_spec
  takes_saying token count names t ts le (SaysStorage x) = past_token (specifiers_on token count Untyped (declares_types x) (specifier.Storage x ∷ [])) names t ts le
  takes_saying token count names t ts le (SaysQualifier q) = past_token (specifiers_on token count Untyped false (specifier.Qualifier q ∷ [])) names t ts le
  takes_saying token count names t ts le (SaysWord typed' x) = past_token (specifiers_on token count typed' false (specifier.Word x ∷ [])) names t ts le
  takes_saying token count names t ts le SaysStruct =
      past_token (onward_bind (struct_on (number_of w.total (t ∷ ts))) (λ x. specifiers_on token count Whole false (specifier.Struct x ∷ []))) names t ts le
  takes_saying token count names t ts le SaysEnum =
      past_token (onward_bind (enum_on (number_of w.total (t ∷ ts))) (λ x. specifiers_on token count Whole false (specifier.Enum x ∷ []))) names t ts le
  takes_saying token count names t ts le (SaysName name) = past_token (specifiers_on token count Whole false (specifier.TypedefName name ∷ [])) names t ts le
  takes_saying token count names t ts le SaysNothing = missed (number_of w.total (t ∷ ts)) some

  pub specs_takes : Takes w (specs w.total room' inner')
  unfolding specs specifiers
  specs_takes s le = by_rest s.names s.rest le
    where
      by_rest : (names : Names) (ts : List Token) → length ts ≤ w.total
          → Higher w {A = ReadSpecs} (Err (TooNested (number_of w.total ts)))
          (specifiers w.total room' inner' (number_of w.total ts) (length ts) Untyped false [] (state names ts))
      by_rest names [] le = missed (number_of w.total []) some
      by_rest names (t ∷ ts) le = takes_saying (number_of w.total (t ∷ ts)) (length ts) names t ts le (saying_of w.total names Untyped (t ∷ ts))
