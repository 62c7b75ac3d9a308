-- Readers over two lists of tokens that are the same up to a token: on both they do the same, or they go on behind that token.
use Rattle.std.proofs.Common.{◌≡◌, ℕ, zero, suc, ◌+◌, ◌-◌, ◌≤◌, Bool, true, false, cond, Option, Some, None, Ok, Err, List, [], ◌∷◌, ◌++◌, ◌&&◌, length, refl, sym, ap, ◌∙◌, subst, length-append, arith}
use Rattle.c_lex.specs.declared.token.Token.{Token}
use Rattle.c_lex.specs.declared.token.Keyword.{Keyword}
use Rattle.c_lex.specs.declared.token.Mark.{Mark}
use Rattle.c_grammar.specs.Names.{Names}
use Rattle.c_grammar.specs.Words.{number_of}
use Rattle.c_grammar.specs.Reading.{State, Fault, Unexpected, TooNested, Outcome, Reader, ◌>>=◌, is_mark, is_name, sees_mark, sees_keyword, tail, behind, here, expect_mark, expect_keyword, expect_name, name_at_front, or_unexpected}
use Rattle.c_ast.specs.declared.words.Name.{Name}
use Rattle.c_grammar.specs.ReadingExpr.{choose}

-- the token that a reader stops at
abbrev pub fault_at : Fault → ℕ
fault_at (Unexpected n) = n
fault_at (TooNested n) = n

abbrev pub state : Names → List Token → State
state names ts = record { names = names; rest = ts }

-- two lists that go on differently from the token of this number on
pub record Sides : Type 0 where
  pub from : ℕ
  pub one : List Token
  pub other : List Token

-- how many tokens there are on a side
abbrev pub total_one : Sides → ℕ
total_one w = w.from + length w.one

abbrev pub total_other : Sides → ℕ
total_other w = w.from + length w.other

-- the reader stops at this token or behind it, or only so many tokens are left
pub data IsPast (from len : ℕ) {A : Type 0} : Outcome (A × State) → Type 0 where
  stops : (e : Fault) → from ≤ fault_at e → IsPast from len (Err e)
  goes : (x : A) (s : State) → length s.rest ≤ len → IsPast from len (Ok (x, s))

-- Both outcomes are the same, up to what stands from that token on, with so many tokens at most in front of it; or both are past it.
pub data Alike (w : Sides) (most : ℕ) {A : Type 0} : Outcome (A × State) → Outcome (A × State) → Type 0 where
  same : (e : Fault) → Alike w most (Err e) (Err e)
  on : (x : A) (names : Names) (t : Token) (ts : List Token) → suc (length ts) ≤ most
      → Alike w most (Ok (x, state names (t ∷ (ts ++ w.one)))) (Ok (x, state names (t ∷ (ts ++ w.other))))
  past : {o o' : Outcome (A × State)} → IsPast w.from (length w.one) o → IsPast w.from (length w.other) o' → Alike w most o o'

-- A reader on either side: with `n` tokens at most in front, which are `m` at most behind it. Behind them all it goes on there.
pub record Both (w : Sides) (n m : ℕ) {A : Type 0} (f f' : Reader A) : Type 0 where
  pub one : (s : State) → length s.rest ≤ length w.one → IsPast w.from (length w.one) (f s)
  pub other : (s : State) → length s.rest ≤ length w.other → IsPast w.from (length w.other) (f' s)
  pub alike : (names : Names) (t : Token) (ts : List Token) → suc (length ts) ≤ n
      → Alike w m (f (state names (t ∷ (ts ++ w.one)))) (f' (state names (t ∷ (ts ++ w.other))))

-- ---- one after the other

pub past_bind : {from len : ℕ} {A B : Type 0} {o : Outcome (A × State)} {g : A → Reader B} → IsPast from len o
    → ((x : A) (s : State) → length s.rest ≤ len → IsPast from len (g x s)) → IsPast from len (o >>= λ x. g x.0 x.1)
past_bind (stops e le) go = stops e le
past_bind (goes x s le) go = go x s le

alike_bind : {w : Sides} {m p : ℕ} {A B : Type 0} {o o' : Outcome (A × State)} {g g' : A → Reader B} → Alike w m o o'
    → ((x : A) → Both w m p (g x) (g' x)) → Alike w p (o >>= λ x. g x.0 x.1) (o' >>= λ x. g' x.0 x.1)
alike_bind (same e) go = same e
alike_bind (on x names t ts le) go = (go x).alike names t ts le
alike_bind (past p q) go = past (past_bind p (λ x s le. (go x).one s le)) (past_bind q (λ x s le. (go x).other s le))

pub bind : {w : Sides} {n m p : ℕ} {A B : Type 0} {f f' : Reader A} {g g' : A → Reader B} → Both w n m f f'
    → ((x : A) → Both w m p (g x) (g' x)) → Both w n p (λ s. f s >>= λ x. g x.0 x.1) (λ s. f' s >>= λ x. g' x.0 x.1)
bind b go = record {
  one = λ s le. past_bind (b.one s le) (λ x s le. (go x).one s le);
  other = λ s le. past_bind (b.other s le) (λ x s le. (go x).other s le);
  alike = λ names t ts le. alike_bind (b.alike names t ts le) go;
}

pub given : {w : Sides} {n : ℕ} {A : Type 0} (x : A) → Both w n n (λ s. Ok (x, s)) (λ s. Ok (x, s))
given x = record {
  one = λ s le. goes x s le;
  other = λ s le. goes x s le;
  alike = λ names t ts le. on x names t ts le;
}

-- where fewer tokens stand in front, or more behind
pub wider : {w : Sides} {n n' m m' : ℕ} {A : Type 0} {f f' : Reader A} → n' ≤ n → m ≤ m' → Both w n m f f' → Both w n' m' f f'
wider {w = w} {m = m} {m' = m'} fewer more b = record {
  one = b.one;
  other = b.other;
  alike = λ names t ts le. alike_wider (b.alike names t ts (omega (arith, le, fewer)));
}
  where
    alike_wider : {A : Type 0} {o o' : Outcome (A × State)} → Alike w m o o' → Alike w m' o o'
    alike_wider (same e) = same e
    alike_wider (on x names t ts le) = on x names t ts (omega (arith, le, more))
    alike_wider (past p q) = past p q

-- where nothing stands in front, two readers that each go on there
pub mixed : {w : Sides} {n m : ℕ} {A : Type 0} {f f' g g' : Reader A} → n ≤ 0 → Both w n m f f' → Both w n m g g' → Both w n m f g'
mixed none b c = record {
  one = b.one;
  other = c.other;
  alike = λ names t ts le. absurd (omega (arith, le, none));
}

-- readers that are the same everywhere
pub equal : {w : Sides} {n m : ℕ} {A : Type 0} {f f' g g' : Reader A} → ((s : State) → f s ≡ g s) → ((s : State) → f' s ≡ g' s)
    → Both w n m f f' → Both w n m g g'
equal {w = w} {m = m} {f = f} {f' = f'} {g = g} {g' = g'} e e' b = record {
  one = λ s le. subst (IsPast w.from (length w.one)) (e s) (b.one s le);
  other = λ s le. subst (IsPast w.from (length w.other)) (e' s) (b.other s le);
  alike = λ names t ts le. moved (e (state names (t ∷ (ts ++ w.one)))) (e' (state names (t ∷ (ts ++ w.other)))) (b.alike names t ts le);
}
  where
    moved : {A : Type 0} {o o' p p' : Outcome (A × State)} → o ≡ p → o' ≡ p' → Alike w m o o' → Alike w m p p'
    moved {o' = o'} {p = p} d d' a = subst (λ q. Alike w m p q) d' (subst (λ q. Alike w m q o') d a)

-- ---- what is seen at the state

-- by what is the same on both sides
pub picked : {w : Sides} {n m : ℕ} {A X : Type 0} {h h' : X → Reader A} (pick pick' : State → X)
    → ((names : Names) (t : Token) (ts : List Token) → pick (state names (t ∷ (ts ++ w.one))) ≡ pick' (state names (t ∷ (ts ++ w.other))))
    → ((x : X) → Both w n m (h x) (h' x)) → Both w n m (λ s. h (pick s) s) (λ s. h' (pick' s) s)
picked {w = w} {m = m} {X = X} {h = h} {h' = h'} pick pick' seen go = record {
  one = λ s le. (go (pick s)).one s le;
  other = λ s le. (go (pick' s)).other s le;
  alike = λ names t ts le.
      let s = state names (t ∷ (ts ++ w.one)) in
      let s' = state names (t ∷ (ts ++ w.other)) in
      subst (λ (x : X). Alike w m (h (pick s) s) (h' x s')) (seen names t ts) ((go (pick s)).alike names t ts le);
}

number_at : (w : Sides) (a : List Token) (t : Token) (ts : List Token) → number_of (w.from + length a) (t ∷ (ts ++ a)) ≡ w.from - suc (length ts)
number_at w a t ts = let e = length-append ts a in omega (arith, e)

pub same_number : (w : Sides) (t : Token) (ts : List Token) → number_of (total_one w) (t ∷ (ts ++ w.one)) ≡ number_of (total_other w) (t ∷ (ts ++ w.other))
same_number w t ts = number_at w w.one t ts ∙ sym (number_at w w.other t ts)

pub number_past : (from : ℕ) (a ts : List Token) → length ts ≤ length a → from ≤ number_of (from + length a) ts
number_past from a ts le = omega (arith, le)

-- by the number of the next token
pub numbered : {w : Sides} {n m : ℕ} {A : Type 0} {f f' : ℕ → Reader A} → ((number : ℕ) → Both w n m (f number) (f' number))
    → Both w n m (λ s. f (here (total_one w) s) s) (λ s. f' (here (total_other w) s) s)
numbered {w = w} go = picked (here (total_one w)) (here (total_other w)) (λ names t ts. same_number w t ts) go

-- by the names in scope
pub scoped : {w : Sides} {n m : ℕ} {A : Type 0} {f f' : Names → Reader A} → ((names : Names) → Both w n m (f names) (f' names))
    → Both w n m (λ s. f s.names s) (λ s. f' s.names s)
scoped go = picked (λ s. s.names) (λ s. s.names) (λ names t ts. refl) go

-- by a fault at the next token
stopped : {w : Sides} {n m : ℕ} {A : Type 0} (fault : ℕ → Fault) → ((number : ℕ) → fault_at (fault number) ≡ number)
    → Both w n m {A = A} (λ s. Err (fault (here (total_one w) s))) (λ s. Err (fault (here (total_other w) s)))
stopped {w = w} {m = m} {A = A} fault there = record {
  one = λ s le. stops (fault (here (total_one w) s)) (let e = there (here (total_one w) s) in let le' = number_past w.from w.one s.rest le in rw e le');
  other = λ s le. stops (fault (here (total_other w) s)) (let e = there (here (total_other w) s) in let le' = number_past w.from w.other s.rest le in rw e le');
  alike = λ names t ts le. subst (λ n. Alike w m {A = A} (Err (fault (number_of (total_one w) (t ∷ (ts ++ w.one))))) (Err (fault n))) (same_number w t ts)
      (same (fault (number_of (total_one w) (t ∷ (ts ++ w.one)))));
}

pub unexpected : {w : Sides} {n m : ℕ} {A : Type 0} → Both w n m {A = A} (λ s. Err (Unexpected (here (total_one w) s))) (λ s. Err (Unexpected (here (total_other w) s)))
unexpected = stopped Unexpected (λ number. refl)

pub nested : {w : Sides} {n m : ℕ} {A : Type 0} → Both w n m {A = A} (λ s. Err (TooNested (here (total_one w) s))) (λ s. Err (TooNested (here (total_other w) s)))
nested = stopped TooNested (λ number. refl)

-- ---- behind a token

pub tail_within : (ts : List Token) (len : ℕ) → length ts ≤ len → length (tail ts) ≤ len
tail_within [] len le = le
tail_within (t ∷ ts) len le = omega (arith, le)

-- at the state behind the next token
pub taken : {w : Sides} {n m : ℕ} {A : Type 0} {f f' : Reader A} → Both w n m f f'
    → Both w (suc n) m (λ s. f (behind s)) (λ s. f' (behind s))
taken {w = w} {n = n} {m = m} {f = f} {f' = f'} b = record {
  one = λ s le. b.one (behind s) (tail_within s.rest (length w.one) le);
  other = λ s le. b.other (behind s) (tail_within s.rest (length w.other) le);
  alike = λ names t ts le. by_rest names ts le;
}
  where
    by_rest : (names : Names) (ts : List Token) → suc (length ts) ≤ suc n → Alike w m (f (state names (ts ++ w.one))) (f' (state names (ts ++ w.other)))
    by_rest names [] le = past (b.one (state names w.one) (omega arith)) (b.other (state names w.other) (omega arith))
    by_rest names (u ∷ us) le = b.alike names u us (omega (arith, le))

pub passed : {w : Sides} {n m : ℕ} {A : Type 0} {f f' : Reader A} → Both w n m f f' → Both w n m (λ s. f (behind s)) (λ s. f' (behind s))
passed b = wider (omega arith) (omega arith) (taken b)

pub falling : {w : Sides} {n m : ℕ} {A : Type 0} {f f' : Reader A} → Both w (suc (n - 1)) m f f' → Both w n m f f'
falling b = wider (omega arith) (omega arith) b

pub stepped : {w : Sides} {n m : ℕ} {A : Type 0} {f f' : Reader A} → Both w (n - 1) m f f' → Both w n m (λ s. f (behind s)) (λ s. f' (behind s))
stepped {n = n} b = falling {n = n} (taken b)

-- a reader that takes a token at least, where that doesn't matter
pub weak : {w : Sides} {n : ℕ} {A : Type 0} {f f' : Reader A} → Both w (suc n) n f f' → Both w n n f f'
weak b = wider (omega arith) (omega arith) b

-- with other names in scope
pub renamed : {w : Sides} {n m : ℕ} {A : Type 0} {f f' : Reader A} (names_of : Names → Names) → Both w n m f f'
    → Both w n m (λ s. f (state (names_of s.names) s.rest)) (λ s. f' (state (names_of s.names) s.rest))
renamed names_of b = record {
  one = λ s le. b.one (state (names_of s.names) s.rest) le;
  other = λ s le. b.other (state (names_of s.names) s.rest) le;
  alike = λ names t ts le. b.alike (names_of names) t ts le;
}

-- ---- tests

pub either : {w : Sides} {n m : ℕ} {A : Type 0} {f f' g g' : Reader A} → Both w n m f f' → Both w n m g g'
    → (b : Bool) → Both w n m (λ s. cond b (f s) (g s)) (λ s. cond b (f' s) (g' s))
either b c true = b
either b c false = c

-- by a test of the next token
pub judged : {w : Sides} {n m : ℕ} {A : Type 0} {f f' g g' : Reader A} (test : Names → List Token → Bool)
    → ((names : Names) (t : Token) (ts : List Token) → test names (t ∷ (ts ++ w.one)) ≡ test names (t ∷ (ts ++ w.other)))
    → Both w n m f f' → Both w n m g g'
    → Both w n m (λ s. cond (test s.names s.rest) (f s) (g s)) (λ s. cond (test s.names s.rest) (f' s) (g' s))
judged test seen b c = picked (λ s. test s.names s.rest) (λ s. test s.names s.rest) seen (either b c)

pub tested : {w : Sides} {n m : ℕ} {A : Type 0} {f f' g g' : Reader A} (mark : Mark) → Both w n m f f' → Both w n m g g'
    → Both w n m (λ s. cond (sees_mark mark s.rest) (f s) (g s)) (λ s. cond (sees_mark mark s.rest) (f' s) (g' s))
tested mark b c = judged (λ names ts. sees_mark mark ts) (λ names t ts. refl) b c

-- by what the next token says
maybe : {w : Sides} {n m : ℕ} {A X : Type 0} {f f' : Reader A} {g g' : X → Reader A} → Both w n m f f'
    → ((x : X) → Both w n m (g x) (g' x)) → (o : Option X) → Both w n m (λ s. choose o (f s) (λ x. g x s)) (λ s. choose o (f' s) (λ x. g' x s))
maybe b c None = b
maybe b c (Some x) = c x

pub chosen : {w : Sides} {n m : ℕ} {A X : Type 0} {f f' : Reader A} {g g' : X → Reader A} (found found' : State → Option X)
    → ((names : Names) (t : Token) (ts : List Token) → found (state names (t ∷ (ts ++ w.one))) ≡ found' (state names (t ∷ (ts ++ w.other))))
    → Both w n m f f' → ((x : X) → Both w n m (g x) (g' x))
    → Both w n m (λ s. choose (found s) (f s) (λ x. g x s)) (λ s. choose (found' s) (f' s) (λ x. g' x s))
chosen found found' seen b c = picked found found' seen (maybe b c)

-- ---- what has to come next

stop_or : {A : Type 0} (b : Bool) (s s' : State) (e : Fault) (f : Reader A) → cond b (f s') (Err e) ≡ ((cond b (Ok s') (Err e)) >>= f)
stop_or true s s' e f = refl
stop_or false s s' e f = refl

-- behind a punctuator, or a keyword
pub expected_first : {w : Sides} {n m : ℕ} {A : Type 0} {f f' : Reader A} (mark : Mark) → Both w n m f f'
    → Both w (suc n) m (λ s. expect_mark (total_one w) mark s >>= f) (λ s. expect_mark (total_other w) mark s >>= f')
unfolding expect_mark
expected_first {w = w} {f = f} {f' = f'} mark b =
    equal (λ s. stop_or (sees_mark mark s.rest) s (behind s) (Unexpected (here (total_one w) s)) f)
    (λ s. stop_or (sees_mark mark s.rest) s (behind s) (Unexpected (here (total_other w) s)) f') (tested mark (taken b) unexpected)

-- the punctuator stands there
pub found_there : (total : ℕ) (mark : Mark) (names : Names) (t : Token) (a : List Token) → is_mark mark t.kind ≡ true
    → expect_mark total mark (state names (t ∷ a)) ≡ Ok (state names a)
unfolding expect_mark
found_there total mark names t a is = ap (λ b. cond b (Ok (state names a)) (Err (Unexpected (number_of total (t ∷ a))))) is

pub expected : {w : Sides} {n m : ℕ} {A : Type 0} {f f' : Reader A} (mark : Mark) → Both w n m f f'
    → Both w n m (λ s. expect_mark (total_one w) mark s >>= f) (λ s. expect_mark (total_other w) mark s >>= f')
expected mark b = wider (omega arith) (omega arith) (expected_first mark b)

pub expected_word : {w : Sides} {n m : ℕ} {A : Type 0} {f f' : Reader A} (keyword : Keyword) → Both w n m f f'
    → Both w n m (λ s. expect_keyword (total_one w) keyword s >>= f) (λ s. expect_keyword (total_other w) keyword s >>= f')
unfolding expect_keyword
expected_word {w = w} {f = f} {f' = f'} keyword b =
    equal (λ s. stop_or (sees_keyword keyword s.rest) s (behind s) (Unexpected (here (total_one w) s)) f)
    (λ s. stop_or (sees_keyword keyword s.rest) s (behind s) (Unexpected (here (total_other w) s)) f')
    (judged (λ names ts. sees_keyword keyword ts) (λ names t ts. refl) (passed b) unexpected)

-- the name that comes next, if one does
pub same_name : (w : Sides) (t : Token) (ts : List Token) → name_at_front (total_one w) (t ∷ (ts ++ w.one)) ≡ name_at_front (total_other w) (t ∷ (ts ++ w.other))
same_name w t ts = ap (λ n. cond (is_name t.kind) (Some (record { token = n; text = t.text })) None) (same_number w t ts)

name_or : {w : Sides} {n : ℕ} (o : Option Name) → Both w (suc n) n (λ s. or_unexpected (total_one w) s o) (λ s. or_unexpected (total_other w) s o)
name_or None = unexpected
name_or (Some name) = taken (given name)

pub name_next : (w : Sides) (n : ℕ) → Both w (suc n) n (expect_name (total_one w)) (expect_name (total_other w))
unfolding expect_name
name_next w n =
    picked (λ s. name_at_front (total_one w) s.rest) (λ s. name_at_front (total_other w) s.rest) (λ names t ts. same_name w t ts) name_or

-- ---- tests of two tokens

-- At the last token in front: a reader with no room stops there, and one with room goes on behind it.
abbrev pub IsTaken : ℕ → ℕ → (a : List Token) → Token → {A : Type 0} → Outcome (A × State) → Type 0
IsTaken zero from a t o = o ≡ Err (TooNested (number_of (from + length a) (t ∷ a)))
IsTaken (suc room) from a t o = IsPast from (length a) o

pub taken_bind : (room from : ℕ) (a : List Token) (t : Token) {A B : Type 0} (o : Outcome (A × State)) {g : A → Reader B} → IsTaken room from a t o
    → ((x : A) (s : State) → length s.rest ≤ length a → IsPast from (length a) (g x s)) → IsTaken room from a t (o >>= λ x. g x.0 x.1)
taken_bind zero from a t o {g = g} is go = ap (λ o. o >>= λ x. g x.0 x.1) is
taken_bind (suc room) from a t o is go = past_bind is go

pub taken_alike : (w : Sides) (room m : ℕ) {A : Type 0} (t : Token) (o o' : Outcome (A × State)) → IsTaken room w.from w.one t o → IsTaken room w.from w.other t o'
    → Alike w m o o'
taken_alike w zero m {A = A} t o o' is is' =
    let number = number_of (total_one w) (t ∷ w.one) in
    let e : number ≡ number_of (total_other w) (t ∷ w.other) = same_number w t [] in
    let there : o' ≡ Err (TooNested number) = is' ∙ ap (λ n. Err (TooNested n)) (sym e) in
    subst (λ p. Alike w m p o') (sym is) (subst (λ p. Alike w m {A = A} (Err (TooNested number)) p) (sym there) (same (TooNested number)))
taken_alike w (suc room) m t o o' is is' = past is is'

-- By a test of the next token and of those behind it: where the next one is the last in front, the two sides may go different ways.
pub forked : {w : Sides} {n m : ℕ} {A : Type 0} {f f' g g' : Reader A} (room : ℕ) (first : List Token → Bool) (second : Names → List Token → Bool)
    → ((t : Token) (ts us : List Token) → first (t ∷ ts) ≡ first (t ∷ us))
    → ((names : Names) (t : Token) (ts us : List Token) → second names (t ∷ ts) ≡ second names (t ∷ us))
    → ((names : Names) (t : Token) → first (t ∷ w.one) ≡ true → 1 ≤ n → IsTaken room w.from w.one t (f (state names (t ∷ w.one))) × IsTaken room w.from w.one t (g (state names (t ∷ w.one))))
    → ((names : Names) (t : Token) → first (t ∷ w.other) ≡ true → 1 ≤ n → IsTaken room w.from w.other t (f' (state names (t ∷ w.other))) × IsTaken room w.from w.other t (g' (state names (t ∷ w.other))))
    → Both w n m f f' → Both w n m g g'
    → Both w n m (λ s. cond (first s.rest && second s.names (tail s.rest)) (f s) (g s)) (λ s. cond (first s.rest && second s.names (tail s.rest)) (f' s) (g' s))
forked {w = w} {n = n} {m = m} {f = f} {f' = f'} {g = g} {g' = g'} room first second first_same second_same taken_one taken_other b c = record {
  one = λ s le. (either b c (first s.rest && second s.names (tail s.rest))).one s le;
  other = λ s le. (either b c (first s.rest && second s.names (tail s.rest))).other s le;
  alike = λ names t ts le. by_first names t ts le (first (t ∷ (ts ++ w.one))) (first (t ∷ (ts ++ w.other))) refl refl (first_same t (ts ++ w.one) (ts ++ w.other));
}
  where
    Goal : Names → Token → List Token → Bool → Bool → Type 0
    Goal names t ts p p' =
        let s = state names (t ∷ (ts ++ w.one)) in
        let s' = state names (t ∷ (ts ++ w.other)) in
        Alike w m (cond p (f s) (g s)) (cond p' (f' s') (g' s'))

    by_both : (names : Names) (t : Token) (ts : List Token) → suc (length ts) ≤ n → (p p' : Bool) → p ≡ p' → Goal names t ts p p'
    by_both names t ts le true true e = b.alike names t ts le
    by_both names t ts le false false e = c.alike names t ts le
    by_both names t ts le true false e = absurd cc
    by_both names t ts le false true e = absurd cc

    at_last : (names : Names) (t : Token) → 1 ≤ n → first (t ∷ w.one) ≡ true → first (t ∷ w.other) ≡ true → (p p' : Bool) → Goal names t [] p p'
    at_last names t le e e' true true = b.alike names t [] le
    at_last names t le e e' false false = c.alike names t [] le
    at_last names t le e e' true false = taken_alike w room m t _ _ (taken_one names t e le).0 (taken_other names t e' le).1
    at_last names t le e e' false true = taken_alike w room m t _ _ (taken_one names t e le).1 (taken_other names t e' le).0

    by_first : (names : Names) (t : Token) (ts : List Token) → suc (length ts) ≤ n → (p p' : Bool) → first (t ∷ (ts ++ w.one)) ≡ p → first (t ∷ (ts ++ w.other)) ≡ p' → p ≡ p'
        → Goal names t ts (p && second names (ts ++ w.one)) (p' && second names (ts ++ w.other))
    by_first names t ts le false false e e' agree = c.alike names t ts le
    by_first names t ts le true false e e' agree = absurd cc
    by_first names t ts le false true e e' agree = absurd cc
    by_first names t [] le true true e e' agree = at_last names t le e e' (second names w.one) (second names w.other)
    by_first names t (u ∷ us) le true true e e' agree =
        by_both names t (u ∷ us) le (second names (u ∷ (us ++ w.one))) (second names (u ∷ (us ++ w.other))) (second_same names u (us ++ w.one) (us ++ w.other))

-- ---- readers that count down

-- A reader by a count that falls with each step, where a step takes a token at least: the counts may differ, if they are enough.
module _ {w : Sides} {A X : Type 0} (f f' : ℕ → X → Reader A)
    (ends : (n : ℕ) (x : X) → Both w n n (f zero x) (f' zero x))
    (steps : (n count count' : ℕ) → ((x : X) → Both w (n - 1) n (f count x) (f' count' x)) → (x : X) → Both w n n (f (suc count) x) (f' (suc count') x)) where
  alone : (n count : ℕ) (x : X) → Both w n n (f count x) (f' count x)
  alone n zero x = ends n x
  alone n (suc count) x = steps n count count (λ x. wider (omega arith) (omega arith) (alone (n - 1) count x)) x

  pub counted : (n count count' : ℕ) (x : X) → n ≤ count → n ≤ count' → Both w n n (f count x) (f' count' x)
  counted n zero zero x le le' = ends n x
  counted n zero (suc count') x le le' = mixed le (alone n zero x) (alone n (suc count') x)
  counted n (suc count) zero x le le' = mixed le' (alone n (suc count) x) (alone n zero x)
  counted n (suc count) (suc count') x le le' =
      steps n count count' (λ x. wider (omega arith) (omega arith) (counted (n - 1) count count' x (omega (arith, le)) (omega (arith, le')))) x

-- by the count of the tokens that are left
pub sized : {w : Sides} {n m : ℕ} {A : Type 0} {f f' : ℕ → Reader A}
    → ((l count count' : ℕ) → l ≤ n → l ≤ count → l ≤ count' → Both w l m (f count) (f' count'))
    → Both w n m (λ s. f (length s.rest) s) (λ s. f' (length s.rest) s)
sized {w = w} go = record {
  one = λ s le. (go 0 (length s.rest) (length s.rest) (omega arith) (omega arith) (omega arith)).one s le;
  other = λ s le. (go 0 (length s.rest) (length s.rest) (omega arith) (omega arith) (omega arith)).other s le;
  alike = λ names t ts le.
      let e = length-append ts w.one in
      let e' = length-append ts w.other in
      (go (suc (length ts)) (length (t ∷ (ts ++ w.one))) (length (t ∷ (ts ++ w.other))) le (omega (arith, e)) (omega (arith, e'))).alike names t ts (omega arith);
}
