-- From one token on, a header is included before each token.
use Rattle.std.proofs.Common.{◌≡◌, ℕ, zero, suc, ◌+◌, ◌≤◌, ◌<◌, ◌⊎◌, inl, inr, ◌&&◌, Bool, true, false, cond, Option, Some, None, List, [], ◌∷◌, ◌++◌, map, refl, sym, ap, subst, ◌∙◌, arith}
use Rattle.std.specs.Prelude.{slice_get, nat_le}
use Rattle.std.specs.List.{AllByRecursion, position_from}
use Rattle.std.proofs.lemmas.Bool.{le-leb}
use Rattle.std.proofs.lemmas.Bool.Decides.{leb_tells}
use Rattle.c_lex.specs.declared.token.Token.{Token as AToken}
use Rattle.c_lex.specs.declared.token.Header.{Header}
use Rattle.c_lex.specs.declared.token.Header.TheVariants as header
use Rattle.c_lex.specs.declared.token.Headers.{Headers}
use Rattle.c_lex.specs.declared.lexeme.Lexeme.{Lexeme}
use Rattle.c_lex.specs.Pieces.{Macro, Piece, Gap, LineEnd, Include, Define, Pragma, Token}
use Rattle.c_lex.specs.Tokens.{is_text, with_text, before_joined, joined, with_header, placed, no_headers, Give, AreTokens}
use Rattle.c_compile.specs.Known.{is_in, known_from, is_known_at, KnownWhereIncluded}

abbrev Has : Header → AToken → Type 0
Has h t = is_in h t.headers ≡ true

abbrev All : Header → List AToken → Type 0
All h ts = AllByRecursion (Has h) ts

-- where it is included before a token, it is before all behind it
abbrev Stays : Header → List AToken → Type 0
Stays h [] = Unit {0}
Stays h (t ∷ ts) = (Has h t → All h ts) × Stays h ts

-- ---- joining

all_before : (h : Header) (t : AToken) (us : List AToken) → Has h t → All h us → All h (before_joined t us)
all_before h t [] p q = (p, tt)
all_before h t (u ∷ us) p q = by (is_text t.kind && is_text u.kind)
  where
    by : (b : Bool) → All h (cond b (with_text t u.text ∷ us) (t ∷ u ∷ us))
    by true = (p, q.1)
    by false = (p, q)

all_joined : (h : Header) (ts : List AToken) → All h ts → All h (joined ts)
all_joined h [] q = tt
all_joined h (t ∷ ts) q = all_before h t (joined ts) q.0 (all_joined h ts q.1)

stays_before : (h : Header) (t : AToken) (us : List AToken) → Stays h (t ∷ us) → Stays h (before_joined t us)
stays_before h t [] s = s
stays_before h t (u ∷ us) s = by (is_text t.kind && is_text u.kind)
  where
    by : (b : Bool) → Stays h (cond b (with_text t u.text ∷ us) (t ∷ u ∷ us))
    by true = ((λ p. (s.0 p).1), s.1.1)
    by false = s

stays_joined : (h : Header) (ts : List AToken) → Stays h ts → Stays h (joined ts)
stays_joined h [] s = tt
stays_joined h (t ∷ ts) s = stays_before h t (joined ts) ((λ p. all_joined h ts (s.0 p)), stays_joined h ts s.1)

-- ---- pieces

all_placed : (h : Header) (line : ℕ) (headers : Headers) (ls : List Lexeme) (more : List AToken) → is_in h headers ≡ true → All h more
    → All h (map (placed line headers) ls ++ more)
all_placed h line headers [] more p q = q
all_placed h line headers (l ∷ ls) more p q = (p, all_placed h line headers ls more p q)

stays_placed : (h : Header) (line : ℕ) (headers : Headers) (ls : List Lexeme) (more : List AToken) → (is_in h headers ≡ true → All h more)
    → Stays h more → Stays h (map (placed line headers) ls ++ more)
stays_placed h line headers [] more p s = s
stays_placed h line headers (l ∷ ls) more p s =
    ((λ q. all_placed h line headers ls more q (p q)), stays_placed h line headers ls more p s)

one_more : (h other : Header) (headers : Headers) → is_in h headers ≡ true → is_in h (with_header other headers) ≡ true
one_more header.Mpi header.Mpi headers p = refl
one_more header.Mpi header.Stdio headers p = p
one_more header.Mpi header.Stdlib headers p = p
one_more header.Mpi header.Strings headers p = p
one_more header.Stdio header.Mpi headers p = p
one_more header.Stdio header.Stdio headers p = refl
one_more header.Stdio header.Stdlib headers p = p
one_more header.Stdio header.Strings headers p = p
one_more header.Stdlib header.Mpi headers p = p
one_more header.Stdlib header.Stdio headers p = p
one_more header.Stdlib header.Stdlib headers p = refl
one_more header.Stdlib header.Strings headers p = p
one_more header.Strings header.Mpi headers p = p
one_more header.Strings header.Stdio headers p = p
one_more header.Strings header.Stdlib headers p = p
one_more header.Strings header.Strings headers p = refl

abbrev Given : Header → Headers → List AToken → Type 0
Given h headers out = (is_in h headers ≡ true → All h out) × Stays h out

given : (h : Header) (macros : List Macro) (headers : Headers) (ps : List Piece) (out : List AToken) → Give macros headers ps out → Given h headers out
given h macros headers [] out g = subst (Given h headers) (sym g) ((λ p. tt), tt)
given h macros headers (Gap ∷ ps) out g = given h macros headers ps out g
given h macros headers (LineEnd ∷ ps) out g = given h macros headers ps out g
given h macros headers (Include other ∷ ps) out g =
    let rest : Given h (with_header other headers) out = given h macros (with_header other headers) ps out g in
    ((λ p. rest.0 (one_more h other headers p)), rest.1)
given h macros headers (Define m ∷ ps) out g = given h (m ∷ macros) headers ps out g.1
given h macros headers (Pragma ∷ ps) out g = given h macros headers ps out g
given h macros headers (Token line l ∷ ps) out (ls, more, become, same, g) =
    let rest : Given h headers more = given h macros headers ps more g in
    subst (Given h headers) (sym same)
    ((λ p. all_placed h line headers ls more p (rest.0 p)), stays_placed h line headers ls more rest.0 rest.1)

-- ---- the first token

abbrev test : Header → AToken → Bool
test h t = is_in h t.headers

all_at : (h : Header) (ts : List AToken) (k : ℕ) (t : AToken) → All h ts → slice_get ts k ≡ Some t → is_in h t.headers ≡ true
all_at h [] k t q e = absurd (cc (e))
all_at h (x ∷ xs) zero t q e = let same : x ≡ t = cc (e) in sym (ap (test h) same) ∙ q.0
all_at h (x ∷ xs) (suc k) t q e = all_at h xs k t q.1 e

not_before : (n i : ℕ) → i < n → nat_le n i ≡ false
not_before n i p = by (leb_tells n i)
  where
    by : ((nat_le n i ≡ true) × (n ≤ i)) ⊎ ((nat_le n i ≡ false) × (i < n)) → nat_le n i ≡ false
    by (inl q) = absurd (omega (arith, p, q.1))
    by (inr q) = q.0

behind : (h : Header) (ts : List AToken) (i n : ℕ) → i < n → is_known_at (position_from (test h) n ts) i ≡ false
behind h [] i n p = refl
behind h (t ∷ ts) i n p = by (test h t) (behind h ts i (n + 1) (omega (arith, p)))
  where
    by : (b : Bool) → is_known_at (position_from (test h) (n + 1) ts) i ≡ false
        → is_known_at (cond b (Some n) (position_from (test h) (n + 1) ts)) i ≡ false
    by true q = not_before n i p
    by false q = q

abbrev KnownAt : Header → List AToken → ℕ → ℕ → AToken → Type 0
KnownAt h ts i at t = (k : ℕ) → slice_get ts k ≡ Some t → at ≡ i + k → is_in h t.headers ≡ is_known_at (position_from (test h) i ts) at

known_by : (h : Header) (x : AToken) (xs : List AToken) (i at : ℕ) (t : AToken) → Stays h (x ∷ xs) → KnownAt h xs (i + 1) at t
    → (b : Bool) → test h x ≡ b → (k : ℕ) → slice_get (x ∷ xs) k ≡ Some t → at ≡ i + k
    → is_in h t.headers ≡ is_known_at (cond b (Some i) (position_from (test h) (i + 1) xs)) at
known_by h x xs i at t s rest true p k e same =
    all_at h (x ∷ xs) k t (p, s.0 p) e ∙ sym (le-leb i at (omega (arith, same)))
known_by h x xs i at t s rest false p zero e same =
    let is : x ≡ t = cc (e) in
    sym (ap (test h) is) ∙ p ∙ sym (behind h xs at (i + 1) (omega (arith, same)))
known_by h x xs i at t s rest false p (suc k) e same = rest k e (omega (arith, same))

known_at : (h : Header) (ts : List AToken) (i at : ℕ) (t : AToken) → Stays h ts → KnownAt h ts i at t
known_at h [] i at t s k e same = absurd (cc (e))
known_at h (x ∷ xs) i at t s k e same = known_by h x xs i at t s (known_at h xs (i + 1) at t s.1) (test h x) refl k e same

pub known-where-included : KnownWhereIncluded
known-where-included text tokens h at t (ps, out, right, joins) e =
    let s : Stays h out = (given h [] no_headers ps out right.give).1 in
    known_at h tokens 0 at t (subst (Stays h) (sym joins) (stays_joined h out s)) at e (omega (arith))
