-- What is read as a unit depends only on the tokens up to where the reader stops: a refusal comes on every other list of tokens that
-- has the same ones up to the token that it tells.
use Rattle.std.proofs.Common.{◌≡◌, ℕ, zero, suc, ◌-◌, ◌≤◌, ◌⊎◌, inl, inr, Bool, true, false, cond, Ok, Err, List, [], ◌∷◌, ◌++◌, length, refl, sym, ap, subst, length-append, arith}
use Rattle.c_lex.specs.declared.token.Token.{Token}
use Rattle.c_lex.specs.declared.token.Mark.TheVariants as mark
use Rattle.c_ast.specs.declared.declaration.External.{External}
use Rattle.c_ast.specs.declared.declaration.External.TheVariants as an_external
use Rattle.c_ast.specs.declared.declaration.Unit.{Unit as AUnit}
use Rattle.c_grammar.specs.declared.phrases.ReadSpecs.{ReadSpecs}
use Rattle.c_grammar.specs.declared.phrases.ReadDeclarator.{ReadDeclarator}
use Rattle.c_grammar.specs.Names.{declared, nothing}
use Rattle.c_grammar.specs.Owns.{own_names}
use Rattle.c_grammar.specs.Reading.{State, Fault, Unexpected, Outcome, Reader, ◌>>=◌, here}
use Rattle.c_grammar.specs.ReadingStmt.{left_to, statement, items, decl_from, external_behind, external, is_end, externals, unit}
use Rattle.c_grammar.specs.ReadingStmt as reading
use Rattle.c_grammar_laws.proofs.Agrees.{fault_at, Sides, total_one, total_other, state, IsPast, stops, goes, Alike, same, on, past, Both, scoped, bind, given, wider, falling, equal, numbered, unexpected, passed, renamed, judged, tested, counted, sized}
use Rattle.c_grammar_laws.proofs.LocalLevels.{readers_both}
use Rattle.c_grammar_laws.proofs.LocalStmt.{outside, decl_from_both, statement_both, items_both}

-- the end, behind which nothing is read
unfoldable pub ended : State
ended = state [] []

-- all that was read, at the end
abbrev pub whole : {A : Type 0} → Outcome A → Outcome (A × State)
whole o = o >>= λ x. Ok (x, ended)

-- all to the end, as a reader
unfoldable pub external_list : ℕ → ℕ → ℕ → ℕ → List External → Reader (List External)
external_list total most room count front s = whole (externals total most room count front s)

at_end : {w : Sides} {n m : ℕ} {A : Type 0} (x : A) → Both w n m (λ s. Ok (x, ended)) (λ s. Ok (x, ended))
unfolding ended
at_end x = record {
  one = λ s le. goes x ended (omega arith);
  other = λ s le. goes x ended (omega arith);
  alike = λ names t ts le. past (goes x ended (omega arith)) (goes x ended (omega arith));
}

pub whole_stop : {A : Type 0} (b : Bool) (x : A) (e : Fault) → cond b (Ok (x, ended)) (Err e) ≡ whole (cond b (Ok x) (Err e))
whole_stop true x e = refl
whole_stop false x e = refl

pub whole_go : {A B : Type 0} (b : Bool) (x : A) (o : Outcome B) (f : B → Outcome A) → cond b (Ok (x, ended)) (o >>= λ y. whole (f y)) ≡ whole (cond b (Ok x) (o >>= f))
whole_go true x o f = refl
whole_go false x (Ok y) f = refl
whole_go false x (Err e) f = refl

module _ (w : Sides) (most : ℕ) where
  function_both : (room n token : ℕ) (ss : ReadSpecs) (d : ReadDeclarator)
      → Both w n n (reading.function (total_one w) most room token ss d) (reading.function (total_other w) most room token ss d)
  unfolding reading.function left_to
  function_both room n token ss d =
      scoped (λ names. renamed (λ ns. own_names d.own ++ declared ns d.name ss.is_typedef) (passed (bind
      (sized (λ l count count' small le le'. wider {n = l} {m = l} (omega arith) (omega (arith, small))
      (items_both w most (statement (total_one w) most room) (statement (total_other w) most room) (statement_both w most room) room l count count' [] le le')))
      (λ x. renamed (outside (declared names d.name ss.is_typedef)) (given (an_external.Function token ss.specs d.tree x))))))

  external_behind_both : (room n token : ℕ) (ss : ReadSpecs)
      → Both w n n (external_behind (total_one w) most room token ss) (external_behind (total_other w) most room token ss)
  unfolding external_behind
  external_behind_both room n token ss =
      tested mark.Semicolon (passed (given (an_external.Declaration (record { token = token; specs = ss.specs; declared = [] }))))
      (bind ((readers_both w most (suc room)).declarator n) (λ d. tested mark.OpenBrace (function_both room n token ss d)
      (bind (decl_from_both w most (suc room) n token ss d) (λ y. given (an_external.Declaration y)))))

  external_both : (room n : ℕ) → Both w (suc n) n (external (total_one w) most room) (external (total_other w) most room)
  unfolding external
  external_both room n = numbered (λ number. bind ((readers_both w most (suc room)).specs n) (λ ss. external_behind_both room n number ss))

  externals_both : (room n count count' : ℕ) (front : List External) → n ≤ count → n ≤ count'
      → Both w n n (external_list (total_one w) most room count front) (external_list (total_other w) most room count' front)
  unfolding externals external_list
  externals_both room = counted (external_list (total_one w) most room) (external_list (total_other w) most room)
      (λ n front. equal (λ s. whole_stop (is_end s.rest) front (Unexpected (here (total_one w) s))) (λ s. whole_stop (is_end s.rest) front (Unexpected (here (total_other w) s)))
      (judged (λ names ts. is_end ts) (λ names t ts. refl) (at_end front) unexpected))
      (λ n count count' rec front.
      equal (λ s. whole_go (is_end s.rest) front (external (total_one w) most room s) (λ x. externals (total_one w) most room count (front ++ x.0 ∷ []) x.1))
      (λ s. whole_go (is_end s.rest) front (external (total_other w) most room s) (λ x. externals (total_other w) most room count' (front ++ x.0 ∷ []) x.1))
      (judged (λ names ts. is_end ts) (λ names t ts. refl) (at_end front)
      (falling (bind (external_both room (n - 1)) (λ x. rec (front ++ x ∷ []))))))

-- ---- two lists of tokens

-- The lists have the same first tokens, so many, or are the same where they have fewer.
pub data SameFirst : ℕ → List Token → List Token → Type 0 where
  none_same : {ts ts' : List Token} → SameFirst zero ts ts'
  end_same : {n : ℕ} → SameFirst n [] []
  more_same : {n : ℕ} {t : Token} {ts ts' : List Token} → SameFirst n ts ts' → SameFirst (suc n) (t ∷ ts) (t ∷ ts')

-- what stands in front on both sides, and behind it on each
record Split (n : ℕ) (ts ts' : List Token) : Type 0 where
  front : List Token
  one : List Token
  other : List Token
  long : length front ≡ n
  one_is : ts ≡ front ++ one
  other_is : ts' ≡ front ++ other

split : {n : ℕ} {ts ts' : List Token} → SameFirst n ts ts' → (ts ≡ ts') ⊎ Split n ts ts'
split (none_same {ts} {ts'}) = inr (record { front = []; one = ts; other = ts'; long = refl; one_is = refl; other_is = refl })
split end_same = inl refl
split (more_same {t = t} d) = elim (split d) [
  | inl e ↦ inl (ap (λ us. t ∷ us) e)
  | inr s ↦ inr (record { front = t ∷ s.front; one = s.one; other = s.other; long = ap suc s.long; one_is = ap (λ us. t ∷ us) s.one_is; other_is = ap (λ us. t ∷ us) s.other_is })
]

-- ---- refusals

pub err_same : {A : Type 0} {e f : Fault} → ◌≡◌ {A = Outcome A} (Err e) (Err f) → e ≡ f
err_same h = cc

not_past : {from len : ℕ} {A : Type 0} {o : Outcome (A × State)} → IsPast from len o → (fault : Fault) → o ≡ Err fault → suc (fault_at fault) ≤ from → ⊥
not_past (stops e late) fault h before =
    let there : fault_at e ≡ fault_at fault = ap fault_at (err_same h) in
    omega (arith, late, there, before)
not_past (goes x s le) fault h before = absurd cc

-- A refusal in front is the same on both sides.
same_refusal : {w : Sides} {m : ℕ} {A : Type 0} {o o' : Outcome (A × State)} → Alike w m o o' → (fault : Fault) → o ≡ Err fault → suc (fault_at fault) ≤ w.from
    → o' ≡ Err fault
same_refusal (same e) fault h before = h
same_refusal (on x names t ts le) fault h before = absurd cc
same_refusal (past p q) fault h before = absurd (not_past p fault h before)

refused_alike : {A B : Type 0} (o o' : Outcome A) (f : A → B) (fault : Fault) → (whole o ≡ Err fault → whole o' ≡ Err fault)
    → (o >>= λ x. Ok (f x)) ≡ Err fault → (o' >>= λ x. Ok (f x)) ≡ Err fault
refused_alike (Ok x) o' f fault is h = absurd cc
refused_alike (Err e) (Ok x) f fault is h = absurd (let there = is (ap Err (err_same h)) in cc)
refused_alike (Err e) (Err e') f fault is h = ap Err (err_same (is (ap Err (err_same h))))

unit_of : ℕ → ℕ → ℕ → List Token → Outcome AUnit
unit_of total most limit ts = externals total most limit (length ts) [] (state nothing ts) >>= λ es. Ok (record { externals = es })

behind_front : (most limit : ℕ) (front one other : List Token) (k : ℕ) (fault : Fault) → length front ≡ suc k → fault_at fault ≡ k
    → unit most limit (front ++ one) ≡ Err fault → unit most limit (front ++ other) ≡ Err fault
unfolding unit external_list unit_of
behind_front most limit [] one other k fault long there h = absurd (omega (arith, long))
behind_front most limit (t ∷ ts) one other k fault long there h =
    let w : Sides = record { from = suc k; one = one; other = other } in
    let here_long = length-append ts one in
    let there_long = length-append ts other in
    let e : length (t ∷ (ts ++ one)) ≡ total_one w = omega (arith, here_long, long) in
    let e' : length (t ∷ (ts ++ other)) ≡ total_other w = omega (arith, there_long, long) in
    let b = externals_both w most limit (suc (length ts)) (length (t ∷ (ts ++ one))) (length (t ∷ (ts ++ other))) [] (omega (arith, here_long)) (omega (arith, there_long)) in
    let both = b.alike nothing t ts (omega arith) in
    let o = externals (total_one w) most limit (length (t ∷ (ts ++ one))) [] (state nothing (t ∷ (ts ++ one))) in
    let o' = externals (total_other w) most limit (length (t ∷ (ts ++ other))) [] (state nothing (t ∷ (ts ++ other))) in
    let stops : unit_of (total_one w) most limit (t ∷ (ts ++ one)) ≡ Err fault = subst (λ n. unit_of n most limit (t ∷ (ts ++ one)) ≡ Err fault) e h in
    let found : unit_of (total_other w) most limit (t ∷ (ts ++ other)) ≡ Err fault =
    refused_alike o o' (λ es. record { externals = es }) fault (λ is. same_refusal both fault is (omega (arith, there))) stops in
    subst (λ n. unit_of n most limit (t ∷ (ts ++ other)) ≡ Err fault) (sym e') found

-- A refusal comes on every list that has the same tokens up to the one that it tells.
pub refuses_alike : (most limit : ℕ) (ts ts' : List Token) (k : ℕ) (fault : Fault) → SameFirst (suc k) ts ts' → fault_at fault ≡ k
    → unit most limit ts ≡ Err fault → unit most limit ts' ≡ Err fault
refuses_alike most limit ts ts' k fault d there h = elim (split d) [
  | inl e ↦ subst (λ us. unit most limit us ≡ Err fault) e h
  | inr s ↦ subst (λ us. unit most limit us ≡ Err fault) (sym s.other_is)
      (behind_front most limit s.front s.one s.other k fault s.long there (subst (λ us. unit most limit us ≡ Err fault) s.one_is h))
]
