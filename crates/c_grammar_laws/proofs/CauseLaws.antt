-- Why a token is told: it isn't expected, or it stands too deep.
use Rattle.std.proofs.Common.{◌≡◌, ℕ, zero, suc, ◌+◌, ◌<◌, ◌≤◌, ◌==◌, inl, inr, true, false, cond, Ok, Err, List, [], ◌∷◌, length, take, refl, sym, ap, subst, ◌∙◌, arith}
use Rattle.std.proofs.lemmas.Bool.Decides.{nat_tests}
use Rattle.std.proofs.lemmas.List.{length-append}
use Rattle.std.proofs.lemmas.List.Folds.{Any-from_list_any, list_any-from_Any}
use Rattle.c_lex.specs.declared.token.Token.{Token}
use Rattle.c_lex.specs.declared.token.TokenKind.{TokenKind}
use Rattle.c_ast.specs.declared.declaration.Unit.{Unit as AUnit}
use Rattle.c_grammar.specs.Nesting.{Begins}
use Rattle.c_grammar.specs.Refusals.{BeginsSome, GoesOn, GoesOnSomehow, IsUnexpected, IsTooNested}
use Rattle.c_grammar.specs.Brackets.{closes_innermost}
use Rattle.c_grammar.specs.Places.{kinds, plain, with_token, HasPlace}
use Rattle.c_grammar.specs.Reading.{Fault, Unexpected, TooNested, Outcome}
use Rattle.c_grammar.specs.ReadingStmt.{unit}
use Rattle.c_grammar.specs.Told.{takes_token, stands_at, has_place, placed, told_by, told}
use Rattle.c_grammar_laws.proofs.Agrees.{fault_at as number_at}
use Rattle.c_grammar.proofs.Late.{raised_is}
use Rattle.c_grammar_laws.proofs.Viable.{fault_at}
use Rattle.c_grammar_laws.proofs.LevelLaws.{readers_sound}
use Rattle.c_grammar_laws.proofs.UnitLaws.{unit_sound}
use Rattle.c_grammar_laws.proofs.RefusalLaws.{begins, no_further, goes_on, unexpected_there, order, taken_length}
use Rattle.c_grammar_laws.proofs.UnitRefused.{all_viable}
use Rattle.c_grammar_laws.proofs.Higher.{Rise}
use Rattle.c_grammar_laws.proofs.HigherLevels.{all_above, all_take, all_onward}
use Rattle.c_grammar_laws.proofs.HigherUnit.{UnitHigher, whole, further, missed_there, still_there, unit_higher}

-- ---- tokens that some unit goes on with

begins_some : {limit most : ℕ} {front : List Token} → Begins limit most front → BeginsSome front
begins_some {limit = limit} b = record { more = b.more; unit = b.unit; parses = (limit + b.spare, b.wide, (b.after, b.are)) }

somehow : {limit most : ℕ} {ts : List Token} {k : ℕ} → GoesOn limit most ts k → GoesOnSomehow ts k
somehow (inl p) = inl (p.0, begins_some p.1)
somehow {limit = limit} {most = most} (inr p) = inr (p.0, (p.1.0, (limit, most, p.1.1)))

read_on : (limit most : ℕ) (ts : List Token) (u : AUnit) → unit most limit ts ≡ Ok u → (k : ℕ) → k ≤ length ts → GoesOn limit most ts k
read_on limit most ts u h k there = goes_on limit most ts u (unit_sound most limit ts (λ room. readers_sound (length ts) most room) u h) k there

same_place : (e : Fault) → number_at e ≡ fault_at e
same_place (Unexpected n) = refl
same_place (TooNested n) = refl

stopped_on : (limit most : ℕ) (ts : List Token) (e : Fault) → unit most limit ts ≡ Err e → (k : ℕ) → k < number_at e → GoesOnSomehow ts k
stopped_on limit most ts e h k behind =
    let x = begins limit most (all_viable limit) ts e h in
    let same = same_place e in
    let there = x.0 in
    inl (omega (arith, behind, same, there), begins_some (x.1 (suc k) (omega (arith, behind, same))))

-- ---- places

all_taken : (ts : List Token) (n : ℕ) → length ts ≡ n → take n ts ≡ ts
all_taken [] zero same = refl
all_taken [] (suc n) same = refl
all_taken (t ∷ ts) zero same = absurd (omega (arith, same))
all_taken (t ∷ ts) (suc n) same = ap (λ us. t ∷ us) (all_taken ts n (omega (arith, same)))

trial_length : (ts : List Token) (k : ℕ) (of : TokenKind) → k ≤ length ts → length (with_token ts k of) ≡ suc k
trial_length ts k of there =
    let x = length-append (take k ts) (plain of ∷ []) in
    let y = taken_length k ts there in
    omega (arith, x, y)

-- a token of this kind stands there where the reading takes it
stands_is : (ts : List Token) (k : ℕ) → k ≤ length ts → (of : TokenKind) → stands_at ts k of ≡ true → Begins 64 512 (with_token ts k of)
stands_is ts k there of h =
    subst (λ us. Begins 64 512 us) (all_taken (with_token ts k of) (suc k) long) (by_reading (unit 512 64 (with_token ts k of)) refl h)
  where
    long : length (with_token ts k of) ≡ suc k
    long = trial_length ts k of there

    by_reading : (o : Outcome AUnit) → unit 512 64 (with_token ts k of) ≡ o → takes_token k o ≡ true → Begins 64 512 (take (suc k) (with_token ts k of))
    by_reading (Ok u) e h = elim (read_on 64 512 (with_token ts k of) u e k (omega (arith, long))) [
      | inl p ↦ p.1
      | inr p ↦ absurd (let same = p.0 in omega (arith, same, long))
    ]
    by_reading (Err (Unexpected j)) e h =
        let less : k < j = grind (h, nat_tests, arith) in
        (begins 64 512 (all_viable 64) (with_token ts k of) (Unexpected j) e).1 (suc k) (omega (arith, less))
    by_reading (Err (TooNested j)) e h =
        let less : k < j = grind (h, nat_tests, arith) in
        (begins 64 512 (all_viable 64) (with_token ts k of) (TooNested j) e).1 (suc k) (omega (arith, less))

stands_there : (ts : List Token) (k : ℕ) → k ≤ length ts → (of : TokenKind) → Begins 64 512 (with_token ts k of) → stands_at ts k of ≡ true
stands_there ts k there of b = by_reading (unit 512 64 (with_token ts k of)) refl
  where
    long : length (with_token ts k of) ≡ suc k
    long = trial_length ts k of there

    whole_begins : Begins 64 512 (take (suc k) (with_token ts k of))
    whole_begins = subst (λ us. Begins 64 512 us) (sym (all_taken (with_token ts k of) (suc k) long)) b

    by_place : (e : Fault) → unit 512 64 (with_token ts k of) ≡ Err e → k < fault_at e
    by_place e h = elim (order k (fault_at e)) [
      | inl less ↦ less
      | inr more ↦ absurd (no_further 64 512 (with_token ts k of) e h (suc k) (elim more [
        | inl same ↦ omega (arith, same)
        | inr less ↦ omega (arith, less)
      ]) (omega (arith, long)) whole_begins)
    ]

    by_reading : (o : Outcome AUnit) → unit 512 64 (with_token ts k of) ≡ o → takes_token k o ≡ true
    by_reading (Ok u) h = refl
    by_reading (Err (Unexpected j)) h = let less : k < j = by_place (Unexpected j) h in grind (less, nat_tests, arith)
    by_reading (Err (TooNested j)) h = let less : k < j = by_place (TooNested j) h in grind (less, nat_tests, arith)

place_is : (ts : List Token) (k : ℕ) → k ≤ length ts → has_place ts k ≡ true → HasPlace 64 512 ts k
unfolding has_place
place_is ts k there h =
    let (i, of, less, at, stands) = Any-from_list_any (stands_at ts k) kinds h in
    (i, of, less, at, stands_is ts k there of stands)

place_there : (ts : List Token) (k : ℕ) → k ≤ length ts → HasPlace 64 512 ts k → has_place ts k ≡ true
unfolding has_place
place_there ts k there (i, of, less, at, b) = list_any-from_Any (stands_at ts k) kinds (i, of, less, at, stands_there ts k there of b)

-- ---- what is told

-- it is told of that token, and for its cause
abbrev pub Caused : List Token → ℕ → Fault → Type 0
Caused ts k (Unexpected j) = (j ≡ k) × IsUnexpected 64 512 ts j
Caused ts k (TooNested j) = (j ≡ k) × IsTooNested 64 512 ts j

pub placed_caused : (ts : List Token) (k : ℕ) → k ≤ length ts → (GoesOnSomehow ts k → ⊥) → Caused ts k (placed ts k)
unfolding placed
placed_caused ts k there nowhere =
    elim (closes_innermost ts k) as (λ b. closes_innermost ts k ≡ b → Caused ts k (cond b (Unexpected k) (cond (has_place ts k) (Unexpected k) (TooNested k)))) [
      | true ↦ λ closes. (refl, (nowhere, inl closes))
      | false ↦ λ closes. elim (has_place ts k) as (λ b. has_place ts k ≡ b → Caused ts k (cond b (Unexpected k) (TooNested k))) [
        | true ↦ λ has. (refl, (nowhere, inr (place_is ts k there has)))
        | false ↦ λ has. (refl, inr (closes, λ place. let h = place_there ts k there place in absurd (let x = sym has ∙ h in cc)))
      ] refl
    ] refl

-- more room by four, or none; chains of one operator more, or none
more_room : ℕ → Rise
more_room total = record { total = total; extra = 4; most = 512; wide = 512; wider = omega arith; deeper = inr (omega arith) }

more_of_both : ℕ → Rise
more_of_both total = record { total = total; extra = 4; most = 512; wide = 513; wider = omega arith; deeper = inr (omega arith) }

longer_chains : ℕ → Rise
longer_chains total = record { total = total; extra = 0; most = 512; wide = 513; wider = omega arith; deeper = inl refl }

raised_unit : (w : Rise) (room : ℕ) (ts : List Token) → w.total ≡ length ts → (k : ℕ) → unit w.most room ts ≡ Err (TooNested k)
    → UnitHigher w k (unit w.wide (room + w.extra) ts)
raised_unit w room ts long k h =
    subst (λ n. UnitHigher w k (unit w.wide n ts)) (raised_is w.extra room)
    (unit_higher w (all_above w) (λ some. all_take w some) (all_onward w.total w.wide) room ts long k h)

-- where both limits stop there, one operator more goes on
two_stops : (ts : List Token) (k : ℕ) → k ≤ length ts → (o : Outcome AUnit) → unit 513 68 ts ≡ o → UnitHigher (more_of_both (length ts)) k o
    → UnitHigher (longer_chains (length ts)) k o → GoesOnSomehow ts k
unfolding more_of_both longer_chains
two_stops ts k there o h (whole u) b = somehow (read_on 68 513 ts u h k there)
two_stops ts k there o h (further e less) b = stopped_on 68 513 ts e h k less
two_stops ts k there o h (missed_there some) b = absurd (missed_no b refl)
  where
    missed_no : {o : Outcome AUnit} → UnitHigher (longer_chains (length ts)) k o → o ≡ Err (Unexpected k) → ⊥
    missed_no (whole u) e = cc
    missed_no (further (Unexpected j) less) e = let same : j ≡ k = cc in omega (arith, less, same)
    missed_no (further (TooNested j) less) e = cc
    missed_no (missed_there some) e = omega (arith, some)
    missed_no (still_there as_much) e = cc
two_stops ts k there o h (still_there as_much) b = elim as_much [
  | inl none ↦ absurd (omega (arith, none))
  | inr same ↦ absurd (omega (arith, same))
]

nested_on : (ts : List Token) (k : ℕ) → k ≤ length ts → unit 512 64 ts ≡ Err (TooNested k) → unit 512 68 ts ≡ Err (TooNested k) → GoesOnSomehow ts k
unfolding more_of_both longer_chains
nested_on ts k there h h' =
    two_stops ts k there (unit 513 68 ts) refl (raised_unit (more_of_both (length ts)) 64 ts refl k h) (raised_unit (longer_chains (length ts)) 68 ts refl k h')

-- by what is read with more room
by_more : (ts : List Token) (k : ℕ) → k ≤ length ts → unit 512 64 ts ≡ Err (TooNested k) → (o : Outcome AUnit) → unit 512 68 ts ≡ o
    → UnitHigher (more_room (length ts)) k o → Caused ts k (told_by ts k o)
by_more ts k there h o h' (whole u) = (refl, inl (somehow (read_on 68 512 ts u h' k there)))
by_more ts k there h o h' (further (TooNested j) less) = (refl, inl (stopped_on 68 512 ts (TooNested j) h' k less))
by_more ts k there h o h' (further (Unexpected j) less) =
    elim (j == k) as (λ b. (j == k) ≡ b → Caused ts k (cond b (placed ts k) (TooNested k))) [
      | true ↦ λ e. absurd (let same : j ≡ k = grind (e, nat_tests, arith) in omega (arith, same, less))
      | false ↦ λ e. (refl, inl (stopped_on 68 512 ts (Unexpected j) h' k less))
    ] refl
by_more ts k there h o h' (missed_there some) =
    let same : (k == k) ≡ true = grind (nat_tests, arith) in
    subst (λ b. Caused ts k (cond b (placed ts k) (TooNested k))) (sym same) (placed_caused ts k there (unexpected_there 68 512 ts k h'))
by_more ts k there h o h' (still_there as_much) = (refl, inl (nested_on ts k there h h'))

pub told_caused : (ts : List Token) (k : ℕ) → k ≤ length ts → unit 512 64 ts ≡ Err (TooNested k) → Caused ts k (told ts k)
unfolding told more_room
told_caused ts k there h = by_more ts k there h (unit 512 68 ts) refl (raised_unit (more_room (length ts)) 64 ts refl k h)

-- ---- one cause

pub one_caused : (limit most : ℕ) (ts : List Token) (k : ℕ) → IsUnexpected limit most ts k → IsTooNested limit most ts k → ⊥
one_caused limit most ts k a (inl goes) = a.0 goes
one_caused limit most ts k a (inr b) = elim a.1 [
  | inl closes ↦ let x = b.0 in let y = sym closes ∙ x in absurd cc
  | inr has ↦ b.1 has
]
