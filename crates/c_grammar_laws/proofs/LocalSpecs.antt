-- What a reader of specifiers does depends only on the tokens up to where it stops.
use Rattle.std.proofs.Common.{◌≡◌, ℕ, zero, suc, ◌-◌, ◌≤◌, ◌&&◌, ◌||◌, not, Bool, false, cond, nat_eq, Option, Some, None, List, [], ◌∷◌, ◌++◌, length, ap, arith}
use Rattle.c_lex.specs.declared.token.Token.{Token}
use Rattle.c_lex.specs.declared.token.TokenKind.{TokenKind}
use Rattle.c_lex.specs.declared.token.TokenKind.TheVariants as kind
use Rattle.c_lex.specs.declared.token.Keyword.TheVariants as keyword
use Rattle.c_lex.specs.declared.token.Mark.TheVariants as mark
use Rattle.c_ast.specs.declared.words.Name.{Name}
use Rattle.c_ast.specs.declared.words.TypeWord.TheVariants as word
use Rattle.c_ast.specs.declared.expression.Expr.{Expr}
use Rattle.c_ast.specs.declared.declaration.Specifier.{Specifier}
use Rattle.c_ast.specs.declared.declaration.Specifier.TheVariants as specifier
use Rattle.c_ast.specs.declared.declaration.StructSpec.TheVariants as a_struct
use Rattle.c_ast.specs.declared.declaration.Member.{Member, roll-Member}
use Rattle.c_ast.specs.declared.declaration.EnumSpec.TheVariants as an_enum
use Rattle.c_ast.specs.declared.declaration.Enumerator.{Enumerator}
use Rattle.c_ast.specs.declared.declaration.Declarator.{Declarator}
use Rattle.c_grammar.specs.declared.phrases.Extent.TheVariants as extent
use Rattle.c_grammar.specs.Names.{Names, is_type_in, declared, name_at}
use Rattle.c_grammar.specs.Words.{number_of, storage_of, qualifier_of, word_of}
use Rattle.c_grammar.specs.Types.{Typed, Untyped, Words, Whole, declares_types}
use Rattle.c_grammar.specs.Reading.{is_keyword, is_name, name_at_front}
use Rattle.c_grammar.specs.ReadingExpr.{choose}
use Rattle.c_grammar.specs.ReadingDecl.{too_deep, taken_word, is_untyped, members_declared, member, members, struct_body, struct_spec, enumerator, enumerators, enum_body, enum_spec, Saying, SaysStorage, SaysQualifier, SaysWord, SaysStruct, SaysEnum, SaysName, SaysNothing, saying_of, ended_specs, GoesOn, by_saying, specifiers, specs}
use Rattle.c_grammar.specs.Inner.{Inner}
use Rattle.c_grammar_laws.proofs.Agrees.{Sides, total_one, total_other, state, Both, IsPast, either, bind, given, wider, weak, falling, mixed, picked, numbered, unexpected, nested, taken, passed, stepped, renamed, tested, chosen, expected, same_number, same_name, name_next, counted, sized}
use Rattle.c_grammar_laws.proofs.LocalExpr.{BothInner}

-- what the next token says, by its kind and its number
says : Names → Typed → Token → ℕ → TokenKind → Saying
says names typed t number k =
    choose (storage_of k) (choose (qualifier_of k) (choose (word_of k)
    (cond (not (is_untyped typed)) SaysNothing (cond (is_keyword keyword.Struct k) SaysStruct (cond (is_keyword keyword.Enum k) SaysEnum
    (cond (is_name k && is_type_in names t.headers t.text) (SaysName (name_at number t)) SaysNothing))))
    (λ w. choose (taken_word w typed) SaysNothing (λ typed'. SaysWord typed' w))) (λ q. SaysQualifier q)) (λ s. SaysStorage s)

same_saying : (w : Sides) (names : Names) (typed : Typed) (t : Token) (ts : List Token)
    → saying_of (total_one w) names typed (t ∷ (ts ++ w.one)) ≡ saying_of (total_other w) names typed (t ∷ (ts ++ w.other))
unfolding says
same_saying w names typed t ts = ap (λ number. says names typed t number t.kind) (same_number w t ts)

says_void : (total : ℕ) (names : Names) (t : Token) (ts : List Token) → t.kind ≡ kind.Keyword keyword.Void
    → saying_of total names Untyped (t ∷ ts) ≡ SaysWord (Words (word.Void ∷ [])) word.Void
unfolding says
says_void total names t ts is = ap (says names Untyped t (number_of total (t ∷ ts))) is

module _ (w : Sides) (room : ℕ) (inner inner' : Inner) (below : BothInner w room inner inner') where
  -- ---- structures

  members_declared_both : (n count count' : ℕ) (front : List Declarator) → n ≤ count → n ≤ count'
      → Both w n n (members_declared (total_one w) inner count front) (members_declared (total_other w) inner' count' front)
  unfolding members_declared
  members_declared_both = counted (members_declared (total_one w) inner) (members_declared (total_other w) inner') (λ n front. unexpected)
      (λ n count count' rec front. bind (below.declarator n)
      (λ d. tested mark.Comma (stepped (rec (front ++ d.tree ∷ []))) (expected mark.Semicolon (given (front ++ d.tree ∷ [])))))

  member_both : (n : ℕ) → Both w (suc n) n (member (total_one w) inner) (member (total_other w) inner')
  unfolding member
  member_both n =
      bind (below.specs n) (λ ss. bind
      (sized (λ l count count' small le le'. wider {n = l} {m = l} (omega arith) (omega (arith, small)) (members_declared_both l count count' [] le le')))
      (λ ds. given (roll-Member (record { specs = ss.specs; declarators = ds }))))

  members_both : (n count count' : ℕ) (front : List Member) → n ≤ count → n ≤ count'
      → Both w n n (members (total_one w) inner count front) (members (total_other w) inner' count' front)
  unfolding members
  members_both = counted (members (total_one w) inner) (members (total_other w) inner')
      (λ n front. weak (bind (member_both n) (λ x. unexpected)))
      (λ n count count' rec front. falling (bind (member_both (n - 1))
      (λ m. tested mark.CloseBrace (wider {n = n - 1} {m = n - 1} (omega arith) (omega arith) (passed (given (front ++ m ∷ [])))) (rec (front ++ m ∷ [])))))

  struct_body_both : (n token : ℕ) (name : Option Name) → Both w n n (struct_body (total_one w) inner token name) (struct_body (total_other w) inner' token name)
  unfolding struct_body
  struct_body_both n token name =
      expected mark.OpenBrace (bind
      (sized (λ l count count' small le le'. wider {n = l} {m = l} (omega arith) (omega (arith, small)) (members_both l count count' [] le le')))
      (λ ms. given (a_struct.Body token name ms)))

  struct_both : (n : ℕ) → Both w (suc n) n (struct_spec (total_one w) inner) (struct_spec (total_other w) inner')
  unfolding struct_spec
  struct_both n =
      numbered (λ number. taken (chosen (λ s. name_at_front (total_one w) s.rest) (λ s. name_at_front (total_other w) s.rest) (λ names t ts. same_name w t ts)
      (struct_body_both n number None)
      (λ name. passed (tested mark.OpenBrace (struct_body_both n number (Some name)) (given (a_struct.Reference number name))))))

  -- ---- enumerations

  enumerator_both : (n : ℕ) → Both w (suc n) n (enumerator (total_one w) inner) (enumerator (total_other w) inner')
  unfolding enumerator
  enumerator_both n =
      bind (name_next w n) (λ name. tested mark.Assign
      (bind (passed (below.expr extent.Cond n)) (λ e. renamed (λ names. declared names name.text false) (given (record { name = name; value = Some e }))))
      (renamed (λ names. declared names name.text false) (given (record { name = name; value = None }))))

  enumerators_both : (n count count' : ℕ) (front : List (Enumerator Expr)) → n ≤ count → n ≤ count'
      → Both w n n (enumerators (total_one w) inner count front) (enumerators (total_other w) inner' count' front)
  unfolding enumerators
  enumerators_both = counted (enumerators (total_one w) inner) (enumerators (total_other w) inner') (λ n front. unexpected)
      (λ n count count' rec front. falling (bind (enumerator_both (n - 1))
      (λ e. tested mark.CloseBrace (wider {n = n - 1} {m = n - 1} (omega arith) (omega arith) (passed (given (front ++ e ∷ []))))
      (expected mark.Comma
      (tested mark.CloseBrace (wider {n = n - 1} {m = n - 1} (omega arith) (omega arith) (passed (given (front ++ e ∷ [])))) (rec (front ++ e ∷ [])))))))

  enum_body_both : (n token : ℕ) (name : Option Name) → Both w n n (enum_body (total_one w) room inner token name) (enum_body (total_other w) room inner' token name)
  unfolding enum_body too_deep
  enum_body_both n token name =
      expected mark.OpenBrace (either nested (bind
      (sized (λ l count count' small le le'. wider {n = l} {m = l} (omega arith) (omega (arith, small)) (enumerators_both l count count' [] le le')))
      (λ es. given (an_enum.Body token name es))) (nat_eq room 0))

  enum_both : (n : ℕ) → Both w (suc n) n (enum_spec (total_one w) room inner) (enum_spec (total_other w) room inner')
  unfolding enum_spec
  enum_both n =
      numbered (λ number. taken (chosen (λ s. name_at_front (total_one w) s.rest) (λ s. name_at_front (total_other w) s.rest) (λ names t ts. same_name w t ts)
      (enum_body_both n number None)
      (λ name. passed (tested mark.OpenBrace (enum_body_both n number (Some name)) (given (an_enum.Reference number name))))))

  -- ---- specifiers

  ended_both : (n token : ℕ) (typed : Typed) (flag : Bool) (front : List Specifier)
      → Both w n n (ended_specs (total_one w) token typed flag front) (ended_specs (total_other w) token typed flag front)
  ended_both n token typed flag front =
      either unexpected (given (record { specs = record { token = token; specifiers = front }; is_typedef = flag })) (is_untyped typed)

  by_saying_both : (n m token : ℕ) (on on' : GoesOn) → ((typed : Typed) (flag : Bool) (front : List Specifier) → Both w (n - 1) m (on typed flag front) (on' typed flag front))
      → (typed : Typed) (flag : Bool) (front : List Specifier)
      → Both w n m (ended_specs (total_one w) token typed flag front) (ended_specs (total_other w) token typed flag front)
      → (saying : Saying) → Both w n m (by_saying (total_one w) room inner token on saying typed flag front) (by_saying (total_other w) room inner' token on' saying typed flag front)
  by_saying_both n m token on on' rec typed flag front ends (SaysStorage x) = stepped (rec typed (flag || declares_types x) (front ++ specifier.Storage x ∷ []))
  by_saying_both n m token on on' rec typed flag front ends (SaysQualifier q) = stepped (rec typed flag (front ++ specifier.Qualifier q ∷ []))
  by_saying_both n m token on on' rec typed flag front ends (SaysWord typed' x) = stepped (rec typed' flag (front ++ specifier.Word x ∷ []))
  by_saying_both n m token on on' rec typed flag front ends SaysStruct = falling (bind (struct_both (n - 1)) (λ x. rec Whole flag (front ++ specifier.Struct x ∷ [])))
  by_saying_both n m token on on' rec typed flag front ends SaysEnum = falling (bind (enum_both (n - 1)) (λ x. rec Whole flag (front ++ specifier.Enum x ∷ [])))
  by_saying_both n m token on on' rec typed flag front ends (SaysName name) = stepped (rec Whole flag (front ++ specifier.TypedefName name ∷ []))
  by_saying_both n m token on on' rec typed flag front ends SaysNothing = ends

  step_both : (n m token : ℕ) (on on' : GoesOn) → ((typed : Typed) (flag : Bool) (front : List Specifier) → Both w (n - 1) m (on typed flag front) (on' typed flag front))
      → (typed : Typed) (flag : Bool) (front : List Specifier)
      → Both w n m (ended_specs (total_one w) token typed flag front) (ended_specs (total_other w) token typed flag front)
      → Both w n m (λ s. by_saying (total_one w) room inner token on (saying_of (total_one w) s.names typed s.rest) typed flag front s)
      (λ s. by_saying (total_other w) room inner' token on' (saying_of (total_other w) s.names typed s.rest) typed flag front s)
  step_both n m token on on' rec typed flag front ends =
      picked (λ s. saying_of (total_one w) s.names typed s.rest) (λ s. saying_of (total_other w) s.names typed s.rest)
      (λ names t ts. same_saying w names typed t ts) (by_saying_both n m token on on' rec typed flag front ends)

  specifiers_both : (token n count count' : ℕ) (typed : Typed) (flag : Bool) (front : List Specifier) → n ≤ count → n ≤ count'
      → Both w n n (specifiers (total_one w) room inner token count typed flag front) (specifiers (total_other w) room inner' token count' typed flag front)
  unfolding specifiers
  specifiers_both token n count count' typed flag front =
      counted {X = Typed × Bool × List Specifier} (λ count x. specifiers (total_one w) room inner token count x.0 x.1 x.2)
      (λ count x. specifiers (total_other w) room inner' token count x.0 x.1 x.2)
      (λ n x. ended_both n token x.0 x.1 x.2)
      (λ n count count' rec x. step_both n n token (specifiers (total_one w) room inner token count) (specifiers (total_other w) room inner' token count')
      (λ typed flag front. rec (typed, flag, front)) x.0 x.1 x.2 (ended_both n token x.0 x.1 x.2))
      n count count' (typed, flag, front)

  -- where nothing says a type, none ends
  untyped_both : (token l n count count' : ℕ) → l ≤ suc n → l ≤ count → l ≤ count'
      → Both w l n (specifiers (total_one w) room inner token count Untyped false []) (specifiers (total_other w) room inner' token count' Untyped false [])
  unfolding specifiers
  untyped_both token l n zero zero small le le' = unexpected
  untyped_both token l n zero (suc count') small le le' =
      let b = specifiers_both token 0 (suc count') (suc count') Untyped false [] (omega arith) (omega arith) in
      mixed le unexpected (wider (omega (arith, le)) (omega arith) b)
  untyped_both token l n (suc count) zero small le le' =
      let b = specifiers_both token 0 (suc count) (suc count) Untyped false [] (omega arith) (omega arith) in
      mixed le' (wider (omega (arith, le')) (omega arith) b) unexpected
  untyped_both token l n (suc count) (suc count') small le le' =
      step_both l n token (specifiers (total_one w) room inner token count) (specifiers (total_other w) room inner' token count')
      (λ typed flag front. wider (omega arith) (omega (arith, small)) (specifiers_both token (l - 1) count count' typed flag front (omega (arith, le)) (omega (arith, le'))))
      Untyped false [] unexpected

  pub specs_both : (n : ℕ) → Both w (suc n) n (specs (total_one w) room inner) (specs (total_other w) room inner')
  unfolding specs
  specs_both n = numbered (λ number. sized (λ l count count' small le le'. untyped_both number l n count count' small le le'))

  -- at `void` as the last token in front
  pub specs_last : (names : Names) (t : Token) → t.kind ≡ kind.Keyword keyword.Void
      → IsPast w.from (length w.one) (specs (total_one w) room inner (state names (t ∷ w.one))) × IsPast w.from (length w.other) (specs (total_other w) room inner' (state names (t ∷ w.other)))
  unfolding specs specifiers
  specs_last names t is =
      let number = number_of (total_one w) (t ∷ w.one) in
      let number' = number_of (total_other w) (t ∷ w.other) in
      let first : List Specifier = specifier.Word word.Void ∷ [] in
      let b = specifiers_both number 0 (length w.one) (length w.one) (Words (word.Void ∷ [])) false first (omega arith) (omega arith) in
      let b' = specifiers_both number' 0 (length w.other) (length w.other) (Words (word.Void ∷ [])) false first (omega arith) (omega arith) in
      (rw (says_void (total_one w) names t w.one is) (b.one (state names w.one) (omega arith)), rw (says_void (total_other w) names t w.other is) (b'.other (state names w.other) (omega arith)))
