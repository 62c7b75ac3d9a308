-- A reader beside one that has more room and reads longer chains. Where the first stops at a token that stands too deep, the other goes
-- on behind that token, or doesn't expect it.
use Rattle.std.proofs.Common.{◌≡◌, ℕ, suc, ◌+◌, ◌-◌, ◌≤◌, ◌⊎◌, inl, Bool, true, false, cond, Option, Some, None, Ok, Err, List, [], ◌∷◌, length, refl, sym, ap, subst, arith}
use Rattle.c_lex.specs.declared.token.Token.{Token}
use Rattle.c_lex.specs.declared.token.Keyword.{Keyword}
use Rattle.c_lex.specs.declared.token.Mark.{Mark}
use Rattle.c_grammar.specs.Names.{Names}
use Rattle.c_grammar.specs.Words.{number_of}
use Rattle.c_grammar.specs.Reading.{State, Fault, Unexpected, TooNested, Outcome, Reader, ◌>>=◌, is_mark, is_name, sees_mark, sees_keyword, tail, behind, here, expect_mark, expect_keyword, expect_name, name_at_front, or_unexpected}
use Rattle.c_ast.specs.declared.words.Name.{Name}
use Rattle.c_grammar.specs.declared.phrases.Extent.{Extent}
use Rattle.c_grammar.specs.declared.phrases.ReadSpecs.{ReadSpecs}
use Rattle.c_grammar.specs.Inner.{Inner}
use Rattle.c_grammar.specs.ReadingExpr.{choose}
use Rattle.c_grammar_laws.proofs.Agrees.{state, IsPast, stops, goes, fault_at, past_bind}

-- More room by `extra`, and chains of `wide` operators in place of `most` ones, among so many tokens.
pub record Rise : Type 0 where
  pub total : ℕ
  pub extra : ℕ
  pub most : ℕ
  pub wide : ℕ
  pub wider : most ≤ wide
  pub deeper : (extra ≡ 0) ⊎ (2 ≤ extra)

-- What a reader gives, and what one with more room gives. Behind the token at which the first stops, `len` tokens are left.
pub data Higher (w : Rise) {A : Type 0} : Outcome (A × State) → Outcome (A × State) → Type 0 where
  same : (x : A) (s : State) → Higher w (Ok (x, s)) (Ok (x, s))
  free : (n : ℕ) (o : Outcome (A × State)) → Higher w (Err (Unexpected n)) o
  beyond : (n len : ℕ) (o : Outcome (A × State)) → suc n + len ≡ w.total → IsPast (suc n) len o → Higher w (Err (TooNested n)) o
  missed : (n : ℕ) → 2 ≤ w.extra → Higher w (Err (TooNested n)) (Err (Unexpected n))
  still : (n : ℕ) → (w.extra ≡ 0) ⊎ (w.most ≡ w.wide) → Higher w (Err (TooNested n)) (Err (TooNested n))

-- it stops where the state stands or behind that, or goes on behind
abbrev pub Onward : ℕ → {A : Type 0} → Reader A → Type 0
Onward total f = (from len : ℕ) → from + len ≡ total → (s : State) → length s.rest ≤ len → IsPast from len (f s)

pub record Above (w : Rise) {A : Type 0} (f f' : Reader A) : Type 0 where
  pub on : Onward w.total f'
  pub lift : (s : State) → length s.rest ≤ w.total → Higher w (f s) (f' s)

-- With more room the next token isn't too deep: it is taken, or not expected.
abbrev pub Takes : Rise → {A : Type 0} → Reader A → Type 0
Takes w {A = A} f' = (s : State) → length s.rest ≤ w.total → Higher w {A = A} (Err (TooNested (here w.total s))) (f' s)

-- ---- one after the other

pub higher_bind : {w : Rise} {A B : Type 0} {o o' : Outcome (A × State)} {g g' : A → Reader B} → Higher w o o'
    → ((x : A) (s : State) → o ≡ Ok (x, s) → o' ≡ Ok (x, s) → Higher w (g x s) (g' x s)) → ((x : A) → Onward w.total (g' x))
    → Higher w (o >>= λ x. g x.0 x.1) (o' >>= λ x. g' x.0 x.1)
higher_bind (same x s) go on = go x s refl refl
higher_bind {g' = g'} (free n o) go on = free n (o >>= λ x. g' x.0 x.1)
higher_bind {g' = g'} (beyond n len o e p) go on = beyond n len (o >>= λ x. g' x.0 x.1) e (past_bind p (λ x s le. on x (suc n) len e s le))
higher_bind (missed n d) go on = missed n d
higher_bind (still n d) go on = still n d

pub onward_bind : {total : ℕ} {A B : Type 0} {f' : Reader A} {g' : A → Reader B} → Onward total f' → ((x : A) → Onward total (g' x))
    → Onward total (λ s. f' s >>= λ x. g' x.0 x.1)
onward_bind on go from len e s le = past_bind (on from len e s le) (λ x s' le'. go x from len e s' le')

-- no more tokens are left than before
abbrev state_in : {A : Type 0} → State → Outcome (A × State) → State
state_in d (Ok x) = x.1
state_in d (Err e) = d

past_ok : {from len : ℕ} {A : Type 0} {o : Outcome (A × State)} {x : A} {s : State} → IsPast from len o → o ≡ Ok (x, s) → length s.rest ≤ len
past_ok (stops e le) h = absurd cc
past_ok {len = len} {s = s} (goes y s' le) h = subst (λ (t : State). length t.rest ≤ len) (ap (state_in s) h) le

pub shorter : {total : ℕ} {A : Type 0} {f' : Reader A} → Onward total f' → (s : State) → length s.rest ≤ total → (x : A) (s' : State) → f' s ≡ Ok (x, s')
    → length s'.rest ≤ length s.rest
shorter {total = total} on s le x s' h = past_ok (on (total - length s.rest) (length s.rest) (omega (arith, le)) s (omega arith)) h

-- where what follows is lifted only behind what was read
pub bind_found : {w : Rise} {A B : Type 0} {f f' : Reader A} {g g' : A → Reader B} → Above w f f' → ((x : A) → Onward w.total (g' x))
    → ((x : A) (s s' : State) → f s ≡ Ok (x, s') → length s'.rest ≤ w.total → Higher w (g x s') (g' x s'))
    → Above w (λ s. f s >>= λ x. g x.0 x.1) (λ s. f' s >>= λ x. g' x.0 x.1)
bind_found b on go = record {
  on = onward_bind b.on on;
  lift = λ s le. higher_bind (b.lift s le) (λ x s' h h'. go x s s' h (let less = shorter b.on s le x s' h' in omega (arith, less, le))) on;
}

pub bind : {w : Rise} {A B : Type 0} {f f' : Reader A} {g g' : A → Reader B} → Above w f f' → ((x : A) → Above w (g x) (g' x))
    → Above w (λ s. f s >>= λ x. g x.0 x.1) (λ s. f' s >>= λ x. g' x.0 x.1)
bind b go = bind_found b (λ x. (go x).on) (λ x s s' h le. (go x).lift s' le)

pub takes_bind : {w : Rise} {A B : Type 0} {f' : Reader A} {g' : A → Reader B} → Takes w f' → ((x : A) → Onward w.total (g' x))
    → Takes w (λ s. f' s >>= λ x. g' x.0 x.1)
takes_bind {w = w} {A = A} {B = B} {f' = f'} {g' = g'} b on s le =
    higher_bind {w = w} {A = A} {B = B} {o = Err (TooNested (here w.total s))} {o' = f' s} {g = g'} {g' = g'} (b s le) (λ x s' h h'. absurd cc) on

pub given : {w : Rise} {A : Type 0} (x : A) → Above w (λ s. Ok (x, s)) (λ s. Ok (x, s))
given x = record {
  on = λ from len e s le. goes x s le;
  lift = λ s le. same x s;
}

-- readers that are the same everywhere
pub equal : {w : Rise} {A : Type 0} {f f' g g' : Reader A} → ((s : State) → f s ≡ g s) → ((s : State) → f' s ≡ g' s) → Above w f f' → Above w g g'
equal {w = w} {f = f} {f' = f'} {g = g} {g' = g'} e e' b = record {
  on = λ from len d s le. subst (IsPast from len) (e' s) (b.on from len d s le);
  lift = λ s le. subst (λ o. Higher w (g s) o) (e' s) (subst (λ o. Higher w o (f' s)) (e s) (b.lift s le));
}

pub takes_equal : {w : Rise} {A : Type 0} {f' g' : Reader A} → ((s : State) → f' s ≡ g' s) → Takes w f' → Takes w g'
takes_equal {w = w} {A = A} e b s le = subst (λ o. Higher w {A = A} (Err (TooNested (here w.total s))) o) (e s) (b s le)

-- ---- what is seen at the state

pub picked : {w : Rise} {A X : Type 0} {h h' : X → Reader A} (pick : State → X) → ((x : X) → Above w (h x) (h' x))
    → Above w (λ s. h (pick s) s) (λ s. h' (pick s) s)
picked pick go = record {
  on = λ from len e s le. (go (pick s)).on from len e s le;
  lift = λ s le. (go (pick s)).lift s le;
}

-- by the number of the next token
pub numbered : {w : Rise} {A : Type 0} {f f' : ℕ → Reader A} → ((number : ℕ) → Above w (f number) (f' number))
    → Above w (λ s. f (here w.total s) s) (λ s. f' (here w.total s) s)
numbered {w = w} go = picked (here w.total) go

-- by the names in scope
pub scoped : {w : Rise} {A : Type 0} {f f' : Names → Reader A} → ((names : Names) → Above w (f names) (f' names))
    → Above w (λ s. f s.names s) (λ s. f' s.names s)
scoped go = picked (λ s. s.names) go

-- by the count of the tokens that are left
pub sized : {w : Rise} {A : Type 0} {f f' : ℕ → Reader A} → ((count : ℕ) → Above w (f count) (f' count))
    → Above w (λ s. f (length s.rest) s) (λ s. f' (length s.rest) s)
sized go = picked (λ s. length s.rest) go

number_past : {total : ℕ} (from len : ℕ) (ts : List Token) → from + len ≡ total → length ts ≤ len → from ≤ number_of total ts
number_past from len ts e le = omega (arith, e, le)

-- by a fault at the next token
pub stopped : {total : ℕ} {A : Type 0} (fault : ℕ → Fault) → ((number : ℕ) → fault_at (fault number) ≡ number) → Onward total {A = A} (λ s. Err (fault (here total s)))
stopped {total = total} fault there from len e s le =
    stops (fault (here total s)) (let d = there (here total s) in let past = number_past {total = total} from len s.rest e le in rw d past)

pub unexpected : {w : Rise} {A : Type 0} → Above w {A = A} (λ s. Err (Unexpected (here w.total s))) (λ s. Err (Unexpected (here w.total s)))
unexpected {w = w} = record {
  on = stopped Unexpected (λ number. refl);
  lift = λ s le. free (here w.total s) (Err (Unexpected (here w.total s)));
}

pub takes_none : {w : Rise} {A : Type 0} → 2 ≤ w.extra → Takes w {A = A} (λ s. Err (Unexpected (here w.total s)))
takes_none {w = w} some s le = missed (here w.total s) some

-- what stands too deep for the reader, and isn't with more room
pub too_deep_for : {w : Rise} {A : Type 0} {f' : Reader A} → Onward w.total f' → Takes w f' → Above w (λ s. Err (TooNested (here w.total s))) f'
too_deep_for on takes = record { on = on; lift = takes }

-- and is, with as much room
pub nested : {w : Rise} {A : Type 0} → w.extra ≡ 0 → Above w {A = A} (λ s. Err (TooNested (here w.total s))) (λ s. Err (TooNested (here w.total s)))
nested {w = w} none = record {
  on = stopped TooNested (λ number. refl);
  lift = λ s le. still (here w.total s) (inl none);
}

-- ---- behind a token

pub tail_within : (ts : List Token) (len : ℕ) → length ts ≤ len → length (tail ts) ≤ len
tail_within [] len le = le
tail_within (t ∷ ts) len le = omega (arith, le)

pub onward_behind : {total : ℕ} {A : Type 0} {f' : Reader A} → Onward total f' → Onward total (λ s. f' (behind s))
onward_behind on from len e s le = on from len e (behind s) (tail_within s.rest len le)

pub passed : {w : Rise} {A : Type 0} {f f' : Reader A} → Above w f f' → Above w (λ s. f (behind s)) (λ s. f' (behind s))
passed {w = w} b = record {
  on = onward_behind b.on;
  lift = λ s le. b.lift (behind s) (tail_within s.rest w.total le);
}

-- the token is behind
pub past_token : {w : Rise} {A : Type 0} {f' : Reader A} → Onward w.total f' → (names : Names) (t : Token) (ts : List Token) → length (t ∷ ts) ≤ w.total
    → Higher w {A = A} (Err (TooNested (here w.total (state names (t ∷ ts))))) (f' (state names ts))
past_token {w = w} {f' = f'} on names t ts le =
    let there : suc (number_of w.total (t ∷ ts)) + length ts ≡ w.total = omega (arith, le) in
    beyond (number_of w.total (t ∷ ts)) (length ts) (f' (state names ts)) there (on (suc (number_of w.total (t ∷ ts))) (length ts) there (state names ts) (omega arith))

-- with other names in scope
pub onward_renamed : {total : ℕ} {A : Type 0} {f' : Reader A} (names_of : Names → Names) → Onward total f' → Onward total (λ s. f' (state (names_of s.names) s.rest))
onward_renamed names_of on from len e s le = on from len e (state (names_of s.names) s.rest) le

pub renamed : {w : Rise} {A : Type 0} {f f' : Reader A} (names_of : Names → Names) → Above w f f'
    → Above w (λ s. f (state (names_of s.names) s.rest)) (λ s. f' (state (names_of s.names) s.rest))
renamed names_of b = record {
  on = onward_renamed names_of b.on;
  lift = λ s le. b.lift (state (names_of s.names) s.rest) le;
}

-- ---- tests

pub either : {w : Rise} {A : Type 0} {f f' g g' : Reader A} → Above w f f' → Above w g g' → (b : Bool) → Above w (λ s. cond b (f s) (g s)) (λ s. cond b (f' s) (g' s))
either b c true = b
either b c false = c

-- by what is seen at the state
pub judged : {w : Rise} {A : Type 0} {f f' g g' : Reader A} (test : State → Bool) → Above w f f' → Above w g g'
    → Above w (λ s. cond (test s) (f s) (g s)) (λ s. cond (test s) (f' s) (g' s))
judged test b c = picked test (either b c)

pub tested : {w : Rise} {A : Type 0} {f f' g g' : Reader A} (mark : Mark) → Above w f f' → Above w g g'
    → Above w (λ s. cond (sees_mark mark s.rest) (f s) (g s)) (λ s. cond (sees_mark mark s.rest) (f' s) (g' s))
tested mark b c = judged (λ s. sees_mark mark s.rest) b c

maybe : {w : Rise} {A X : Type 0} {f f' : Reader A} {g g' : X → Reader A} → Above w f f' → ((x : X) → Above w (g x) (g' x))
    → (o : Option X) → Above w (λ s. choose o (f s) (λ x. g x s)) (λ s. choose o (f' s) (λ x. g' x s))
maybe b c None = b
maybe b c (Some x) = c x

pub chosen : {w : Rise} {A X : Type 0} {f f' : Reader A} {g g' : X → Reader A} (found : State → Option X) → Above w f f'
    → ((x : X) → Above w (g x) (g' x)) → Above w (λ s. choose (found s) (f s) (λ x. g x s)) (λ s. choose (found s) (f' s) (λ x. g' x s))
chosen found b c = picked found (maybe b c)

-- what begins with a token that is seen there
pub takes_either : {w : Rise} {A : Type 0} {f' g' : Reader A} → Takes w f' → Takes w g' → (b : Bool) → Takes w (λ s. cond b (f' s) (g' s))
takes_either b c true = b
takes_either b c false = c

pub takes_judged : {w : Rise} {A : Type 0} {f' g' : Reader A} (test : State → Bool) → Takes w f' → Takes w g' → Takes w (λ s. cond (test s) (f' s) (g' s))
takes_judged test b c s le = takes_either b c (test s) s le

-- this punctuator, which is taken
pub takes_mark : {w : Rise} {A : Type 0} {f' g' : Reader A} (mark : Mark) → Onward w.total f' → Takes w g'
    → Takes w (λ s. cond (sees_mark mark s.rest) (f' (behind s)) (g' s))
takes_mark {w = w} {A = A} {f' = f'} {g' = g'} mark on c s le = by_rest s.names s.rest le
  where
    by_rest : (names : Names) (ts : List Token) → length ts ≤ w.total
        → Higher w {A = A} (Err (TooNested (number_of w.total ts))) (cond (sees_mark mark ts) (f' (state names (tail ts))) (g' (state names ts)))
    by_rest names [] le = c (state names []) le
    by_rest names (t ∷ ts) le =
        elim (is_mark mark t.kind) as (λ b. Higher w {A = A} (Err (TooNested (number_of w.total (t ∷ ts)))) (cond b (f' (state names ts)) (g' (state names (t ∷ ts))))) [
          | true ↦ past_token on names t ts le
          | false ↦ c (state names (t ∷ ts)) le
        ]

-- ---- what has to come next

pub stop_or : {A : Type 0} (b : Bool) (s s' : State) (e : Fault) (f : Reader A) → cond b (f s') (Err e) ≡ ((cond b (Ok s') (Err e)) >>= f)
stop_or true s s' e f = refl
stop_or false s s' e f = refl

-- behind a punctuator, or a keyword
pub expected : {w : Rise} {A : Type 0} {f f' : Reader A} (mark : Mark) → Above w f f'
    → Above w (λ s. expect_mark w.total mark s >>= f) (λ s. expect_mark w.total mark s >>= f')
unfolding expect_mark
expected {w = w} {f = f} {f' = f'} mark b =
    equal (λ s. stop_or (sees_mark mark s.rest) s (behind s) (Unexpected (here w.total s)) f)
    (λ s. stop_or (sees_mark mark s.rest) s (behind s) (Unexpected (here w.total s)) f') (tested mark (passed b) unexpected)

pub takes_expected : {w : Rise} {A : Type 0} {f' : Reader A} → 2 ≤ w.extra → (mark : Mark) → Onward w.total f' → Takes w (λ s. expect_mark w.total mark s >>= f')
unfolding expect_mark
takes_expected {w = w} {f' = f'} some mark on =
    takes_equal (λ s. stop_or (sees_mark mark s.rest) s (behind s) (Unexpected (here w.total s)) f') (takes_mark mark on (takes_none some))

pub expected_word : {w : Rise} {A : Type 0} {f f' : Reader A} (keyword : Keyword) → Above w f f'
    → Above w (λ s. expect_keyword w.total keyword s >>= f) (λ s. expect_keyword w.total keyword s >>= f')
unfolding expect_keyword
expected_word {w = w} {f = f} {f' = f'} keyword b =
    equal (λ s. stop_or (sees_keyword keyword s.rest) s (behind s) (Unexpected (here w.total s)) f)
    (λ s. stop_or (sees_keyword keyword s.rest) s (behind s) (Unexpected (here w.total s)) f')
    (judged (λ s. sees_keyword keyword s.rest) (passed b) unexpected)

-- the name that comes next, if one does
name_or : {w : Rise} (o : Option Name) → Above w (λ s. or_unexpected w.total s o) (λ s. or_unexpected w.total s o)
name_or None = unexpected
name_or (Some name) = passed (given name)

pub name_next : (w : Rise) → Above w (expect_name w.total) (expect_name w.total)
unfolding expect_name
name_next w = picked (λ s. name_at_front w.total s.rest) name_or

pub takes_name : (w : Rise) → 2 ≤ w.extra → Takes w (expect_name w.total)
unfolding expect_name
takes_name w some s le = by_rest s.names s.rest le
  where
    by_rest : (names : Names) (ts : List Token) → length ts ≤ w.total
        → Higher w {A = Name} (Err (TooNested (number_of w.total ts))) (or_unexpected w.total (state names ts) (name_at_front w.total ts))
    by_rest names [] le = missed (number_of w.total []) some
    by_rest names (t ∷ ts) le =
        let name : Name = record { token = number_of w.total (t ∷ ts); text = t.text } in
        elim (is_name t.kind) as (λ b. Higher w {A = Name} (Err (TooNested (number_of w.total (t ∷ ts)))) (or_unexpected w.total (state names (t ∷ ts)) (cond b (Some name) None))) [
          | true ↦ past_token (λ from len e s le. goes name s le) names t ts le
          | false ↦ missed (number_of w.total (t ∷ ts)) some
        ]

-- ---- chains

-- Where a chain is as long as it may be, one more operator is too many; where it may be longer, it is taken.
pub chain_ends : {w : Rise} {A X : Type 0} {g' : X → Reader A} (found : List Token → Option X) → found [] ≡ None → (x : A) → ((op : X) → Onward w.total (g' op))
    → Above w (λ s. choose (found s.rest) (Ok (x, s)) (λ op. Err (TooNested (here w.total s)))) (λ s. choose (found s.rest) (Ok (x, s)) (λ op. g' op (behind s)))
chain_ends {w = w} {A = A} {X = X} {g' = g'} found none x on = record {
  on = λ from len e s le. on_by (found s.rest) from len e s le;
  lift = λ s le. by_rest s.names s.rest le;
}
  where
    on_by : (o : Option X) → Onward w.total (λ s. choose o (Ok (x, s)) (λ op. g' op (behind s)))
    on_by None from len e s le = goes x s le
    on_by (Some op) from len e s le = onward_behind (on op) from len e s le

    by_rest : (names : Names) (ts : List Token) → length ts ≤ w.total
        → Higher w (choose (found ts) (Ok (x, state names ts)) (λ op. Err (TooNested (number_of w.total ts)))) (choose (found ts) (Ok (x, state names ts)) (λ op. g' op (state names (tail ts))))
    by_rest names [] le =
        subst (λ o. Higher w (choose o (Ok (x, state names [])) (λ op. Err (TooNested (number_of w.total [])))) (choose o (Ok (x, state names [])) (λ op. g' op (state names []))))
        (sym none) (same x (state names []))
    by_rest names (t ∷ ts) le =
        elim (found (t ∷ ts)) as (λ o. Higher w (choose o (Ok (x, state names (t ∷ ts))) (λ op. Err (TooNested (number_of w.total (t ∷ ts)))))
        (choose o (Ok (x, state names (t ∷ ts))) (λ op. g' op (state names ts)))) [
          | None ↦ same x (state names (t ∷ ts))
          | Some op ↦ past_token (on op) names t ts le
        ]

-- ---- what is read one level further in

pub record OnwardInner (total : ℕ) (inner' : Inner) : Type 0 where
  pub expr : (x : Extent) → Onward total (inner'.expr x)
  pub specs : Onward total inner'.specs
  pub declarator : Onward total inner'.declarator
  pub unnamed : Onward total inner'.unnamed
  pub param : Onward total inner'.param
  pub type_in_parens : Onward total inner'.type_in_parens

-- where there is room
pub record TakesInner (w : Rise) (inner' : Inner) : Type 0 where
  pub expr : (x : Extent) → Takes w (inner'.expr x)
  pub specs : Takes w inner'.specs
  pub declarator : Takes w inner'.declarator
  pub type_in_parens : Takes w inner'.type_in_parens

-- Without room nothing is read where a declarator without a name may come, and specifiers are read only with room.
pub record AboveInner (w : Rise) (room : ℕ) (inner inner' : Inner) : Type 0 where
  pub expr : (x : Extent) → Above w (inner.expr x) (inner'.expr x)
  pub specs : Above w inner.specs inner'.specs
  pub declarator : Above w inner.declarator inner'.declarator
  pub type_in_parens : Above w inner.type_in_parens inner'.type_in_parens
  pub unnamed_on : Onward w.total inner'.unnamed
  pub unnamed : 1 ≤ room → (s : State) → length s.rest ≤ w.total → Higher w (inner.unnamed s) (inner'.unnamed s)
  pub param_on : Onward w.total inner'.param
  pub param : 1 ≤ room → (s : State) → length s.rest ≤ w.total → Higher w (inner.param s) (inner'.param s)
  pub some_room : (s : State) (x : ReadSpecs × State) → inner.specs s ≡ Ok x → 1 ≤ room

pub onward_of : {w : Rise} {room : ℕ} {inner inner' : Inner} → AboveInner w room inner inner' → OnwardInner w.total inner'
onward_of b = record {
  expr = λ x. (b.expr x).on;
  specs = b.specs.on;
  declarator = b.declarator.on;
  unnamed = b.unnamed_on;
  param = b.param_on;
  type_in_parens = b.type_in_parens.on;
}
