-- One step of what reads lists of declarators or of members.
use Rattle.std.proofs.Common.{◌≡◌, ℕ, zero, suc, ◌-◌, ◌<◌, ◌≤◌, Bool, true, false, Some, None, Result, Ok, Err, List, [], ◌∷◌, ◌++◌, refl, sym, ap, ◌∙◌, subst, arith}
use Rattle.std.specs.Result.{IsErrAnd}
use Rattle.std.proofs.lemmas.Result.{err_from_is_err_and}
use Rattle.c_lex.specs.declared.token.Mark.TheVariants as mark
use Rattle.c_ast.specs.declared.declaration.Specifier.{Specifier}
use Rattle.c_ast.specs.declared.declaration.Specifier.TheVariants as specifier
use Rattle.c_ast.specs.declared.declaration.Member.{Member}
use Rattle.c_ast.specs.declared.declaration.Declarator.{Declarator}
use Rattle.c_grammar.specs.declared.phrases.ReadDeclarator.{ReadDeclarator}
use Rattle.c_grammar.specs.declared.phrases.ReadSpecs.{ReadSpecs}
use Rattle.c_grammar.specs.declared.error.ParseError.{ParseError}
use Rattle.c_grammar.specs.declared.error.ParseError.TheVariants as error
use Rattle.c_grammar.specs.Types.{Typed, Whole}
use Rattle.c_grammar.specs.Reading.{State, Outcome, ◌>>=◌, sees_mark, behind, expect_mark, FailsBy, Gives}
use Rattle.c_grammar.specs.ReadingExpr.{choose}
use Rattle.c_grammar.specs.ReadingDecl.{members_declared, member, members, struct_spec, enum_spec, Saying, SaysStorage, SaysQualifier, SaysWord, SaysStruct, SaysEnum, SaysName, SaysNothing, saying_of, ended_specs, GoesOn, by_saying, specifiers}
use Rattle.c_phrases.specs.ReadingSpecs.{Step, said, specifier_step}
use Rattle.c_grammar.specs.Inner.{Inner}
use Rattle.c_grammar.specs.Levels.{readers}
use Rattle.c_grammar.specs.Nests.{most}

fails_bind : {A B : Type 0} (e : ParseError) (o : Outcome A) (f : A → Outcome B) → FailsBy e o → FailsBy e (o >>= f)
fails_bind error.Memory o f h = tt
fails_bind (error.Unexpected token) o f h = ap (λ p. p >>= f) h
fails_bind (error.TooNested token) o f h = ap (λ p. p >>= f) h

pub fails_moved : {A : Type 0} (e : ParseError) {o p : Outcome A} → o ≡ p → FailsBy e o → FailsBy e p
fails_moved e same h = subst (FailsBy e) same h

pub declarators_end : (total room count : ℕ) (front : List Declarator) (s : State) {t t' : ℕ} {all : List Declarator} {s1 s' : State} {d : ReadDeclarator}
    → 0 < count → t ≡ total → t' ≡ t → (readers t most room).declarator s ≡ Ok (d, s1) → sees_mark mark.Comma s1.rest ≡ false
    → all ≡ front ++ d.tree ∷ [] → expect_mark t' mark.Semicolon s1 ≡ Ok s'
    → members_declared total (readers total most room) count front s ≡ Ok (all, s')
unfolding members_declared
declarators_end total room zero front s more same same' read other are ends = absurd (omega arith)
declarators_end total room (suc count) front s {t} {t'} {all} {s1} {s'} {d} more same same' read other are ends =
    let read' : (readers total most room).declarator s ≡ Ok (d, s1) = ap (λ n. (readers n most room).declarator s) (sym same) ∙ read in
    let ends' : expect_mark total mark.Semicolon s1 ≡ Ok s' = ap (λ n. expect_mark n mark.Semicolon s1) (sym (same' ∙ same)) ∙ ends in
    rw (read', other, ends') (ap (λ ds. Ok (ds, s')) (sym are))

pub declarators_fail : (total room count : ℕ) (front : List Declarator) (s : State) {t t' : ℕ} {s1 : State} {d : ReadDeclarator} (e : ParseError)
    → 0 < count → t ≡ total → t' ≡ t → (readers t most room).declarator s ≡ Ok (d, s1) → sees_mark mark.Comma s1.rest ≡ false
    → FailsBy e (expect_mark t' mark.Semicolon s1)
    → FailsBy e (members_declared total (readers total most room) count front s)
unfolding members_declared
declarators_fail total room zero front s e more same same' read other fails = absurd (omega arith)
declarators_fail total room (suc count) front s {t} {t'} {s1} {d} e more same same' read other fails =
    let read' : (readers total most room).declarator s ≡ Ok (d, s1) = ap (λ n. (readers n most room).declarator s) (sym same) ∙ read in
    let fails' : FailsBy e (expect_mark total mark.Semicolon s1) = fails_moved e (ap (λ n. expect_mark n mark.Semicolon s1) (same' ∙ same)) fails in
    rw (read', other) (fails_bind e (expect_mark total mark.Semicolon s1) (λ s'. Ok (front ++ d.tree ∷ [], s')) fails')

pub declarators_more : (total room count : ℕ) (front : List Declarator) (s : State) {t : ℕ} {all : List Declarator} {s1 s2 : State} {d : ReadDeclarator}
    → 0 < count → t ≡ total → (readers t most room).declarator s ≡ Ok (d, s1) → sees_mark mark.Comma s1.rest ≡ true
    → all ≡ front ++ d.tree ∷ [] → s2 ≡ behind s1
    → members_declared total (readers total most room) (count - 1) all s2 ≡ members_declared total (readers total most room) count front s
unfolding members_declared
declarators_more total room zero front s more same read other are next = absurd (omega arith)
declarators_more total room (suc count) front s {t} {all} {s1} {s2} {d} more same read other are next =
    let less : suc count - 1 ≡ count = omega arith in
    let read' : (readers total most room).declarator s ≡ Ok (d, s1) = ap (λ n. (readers n most room).declarator s) (sym same) ∙ read in
    rw (read', other) (ap (λ n. members_declared total (readers total most room) n all s2) less
    ∙ ap (λ ds. members_declared total (readers total most room) count ds s2) are
    ∙ ap (λ s'. members_declared total (readers total most room) count (front ++ d.tree ∷ []) s') next)

pub members_more : (total room count : ℕ) (front : List Member) (s : State) {t : ℕ} {all : List Member} {s1 : State} {m : Member}
    → 0 < count → t ≡ total → member t (readers t most room) s ≡ Ok (m, s1) → sees_mark mark.CloseBrace s1.rest ≡ false
    → all ≡ front ++ m ∷ []
    → members total (readers total most room) (count - 1) all s1 ≡ members total (readers total most room) count front s
unfolding members
members_more total room zero front s more same read other are = absurd (omega arith)
members_more total room (suc count) front s {t} {all} {s1} {m} more same read other are =
    let less : suc count - 1 ≡ count = omega arith in
    let read' : member total (readers total most room) s ≡ Ok (m, s1) = ap (λ n. member n (readers n most room) s) (sym same) ∙ read in
    rw (read', other) (ap (λ n. members total (readers total most room) n all s1) less ∙ ap (λ ms. members total (readers total most room) count ms s1) are)

-- ---- specifiers

module _ (total room : ℕ) (inner : Inner) (token : ℕ) where
  -- what goes on behind a step
  abbrev goes_on : GoesOn → List Specifier → Step × State → Outcome (ReadSpecs × State)
  goes_on on front x = choose x.0.0 (ended_specs total token x.0.1.0 x.0.1.1 front x.1) (λ y. on x.0.1.0 x.0.1.1 (front ++ y ∷ []) x.1)

  joined : {A B C : Type 0} (o : Outcome A) (f : A → Outcome B) (g : B → Outcome C) → ((o >>= f) >>= g) ≡ (o >>= λ x. f x >>= g)
  joined (Ok x) f g = refl
  joined (Err e) f g = refl

  by_step : (on : GoesOn) (say : Saying) (typed : Typed) (flag : Bool) (front : List Specifier) (s : State)
      → by_saying total room inner token on say typed flag front s ≡ (said total room inner say typed flag s >>= goes_on on front)
  by_step on (SaysStorage w) typed flag front s = refl
  by_step on (SaysQualifier q) typed flag front s = refl
  by_step on (SaysWord typed' w) typed flag front s = refl
  by_step on SaysStruct typed flag front s =
      sym (joined (struct_spec total inner s) (λ x. Ok ((Some (specifier.Struct x.0), (Whole, flag)), x.1)) (goes_on on front))
  by_step on SaysEnum typed flag front s =
      sym (joined (enum_spec total room inner s) (λ x. Ok ((Some (specifier.Enum x.0), (Whole, flag)), x.1)) (goes_on on front))
  by_step on (SaysName name) typed flag front s = refl
  by_step on SaysNothing typed flag front s = refl

  specifiers_step : (count : ℕ) (typed : Typed) (flag : Bool) (front : List Specifier) (s : State) → 0 < count
      → specifiers total room inner token count typed flag front s
      ≡ (specifier_step total room inner typed flag s >>= goes_on (specifiers total room inner token (count - 1)) front)
  unfolding specifiers specifier_step
  specifiers_step zero typed flag front s more = absurd (omega arith)
  specifiers_step (suc count) typed flag front s more =
      let less : count ≡ suc count - 1 = omega arith in
      by_step (specifiers total room inner token count) (saying_of total s.names typed s.rest) typed flag front s
      ∙ ap (λ n. said total room inner (saying_of total s.names typed s.rest) typed flag s >>= goes_on (specifiers total room inner token n) front) less

  pub specifiers_none_left : (count : ℕ) (typed : Typed) (flag : Bool) (front : List Specifier) (s : State) → count ≤ 0
      → specifiers total room inner token count typed flag front s ≡ ended_specs total token typed flag front s
  unfolding specifiers
  specifiers_none_left zero typed flag front s none = refl
  specifiers_none_left (suc count) typed flag front s none = absurd (omega arith)

pub specifiers_more : (total room token count : ℕ) (front : List Specifier) (typed : Typed) (flag : Bool) (s : State)
    {t : ℕ} {x : Specifier} {typed' : Typed} {flag' : Bool} {all : List Specifier} {s' : State}
    → 0 < count → t ≡ total → specifier_step t room (readers t most room) typed flag s ≡ Ok ((Some x, (typed', flag')), s') → all ≡ front ++ x ∷ []
    → specifiers total room (readers total most room) token (count - 1) typed' flag' all s'
    ≡ specifiers total room (readers total most room) token count typed flag front s
specifiers_more total room token count front typed flag s {t} {x} {typed'} {flag'} {all} {s'} more same read are =
    let read' : specifier_step total room (readers total most room) typed flag s ≡ Ok ((Some x, (typed', flag')), s') =
    ap (λ n. specifier_step n room (readers n most room) typed flag s) (sym same) ∙ read in
    let on : GoesOn = specifiers total room (readers total most room) token (count - 1) in
    ap (λ ss. on typed' flag' ss s') are
    ∙ sym (specifiers_step total room (readers total most room) token count typed flag front s more
    ∙ ap (λ o. o >>= goes_on total room (readers total most room) token on front) read')

pub specifiers_end : (total room token count : ℕ) (front : List Specifier) (typed : Typed) (flag : Bool) (s : State)
    {t : ℕ} {typed' : Typed} {flag' : Bool} {s' : State}
    → 0 < count → t ≡ total → specifier_step t room (readers t most room) typed flag s ≡ Ok ((None, (typed', flag')), s')
    → specifiers total room (readers total most room) token count typed flag front s ≡ ended_specs total token typed' flag' front s'
specifiers_end total room token count front typed flag s {t} {typed'} {flag'} {s'} more same read =
    let read' : specifier_step total room (readers total most room) typed flag s ≡ Ok ((None, (typed', flag')), s') =
    ap (λ n. specifier_step n room (readers n most room) typed flag s) (sym same) ∙ read in
    specifiers_step total room (readers total most room) token count typed flag front s more
    ∙ ap (λ o. o >>= goes_on total room (readers total most room) token (specifiers total room (readers total most room) token (count - 1)) front) read'

pub specifiers_fail : (total room token count : ℕ) (front : List Specifier) (typed : Typed) (flag : Bool) (s : State) {t : ℕ} (e : ParseError)
    → 0 < count → t ≡ total → FailsBy e (specifier_step t room (readers t most room) typed flag s)
    → FailsBy e (specifiers total room (readers total most room) token count typed flag front s)
specifiers_fail total room token count front typed flag s {t} e more same fails =
    let fails' : FailsBy e (specifier_step total room (readers total most room) typed flag s) =
    fails_moved e (ap (λ n. specifier_step n room (readers n most room) typed flag s) same) fails in
    fails_moved e (sym (specifiers_step total room (readers total most room) token count typed flag front s more))
    (fails_bind e _ (goes_on total room (readers total most room) token (specifiers total room (readers total most room) token (count - 1)) front) fails')

-- what an error that was passed on says
pub passed_on : {X Y : Type 0} (view : X → Y) (result : Result X ParseError) (e : ParseError) (found : Outcome Y)
    → IsErrAnd result (λ y. y ≡ e) → FailsBy e found → Gives view result found
passed_on {X} {Y} view result e found err fails =
    let (x, is, same) = err_from_is_err_and result err in
    let f : FailsBy x found = subst (λ y. FailsBy y found) (sym same) fails in
    subst (λ r. Gives view r found) (sym is) f

-- what ends specifiers, by the tokens of all
pub ended_gives : (token : ℕ) (typed : Typed) (flag : Bool) (front : List Specifier) (s : State) {total t : ℕ} {whole : Outcome (ReadSpecs × State)}
    (view : ReadSpecs → ReadSpecs × State) (result : Result ReadSpecs ParseError)
    → t ≡ total → ended_specs total token typed flag front s ≡ whole → Gives view result (ended_specs t token typed flag front s) → Gives view result whole
ended_gives token typed flag front s view result same is h =
    subst (Gives view result) (ap (λ n. ended_specs n token typed flag front s) same ∙ is) h
