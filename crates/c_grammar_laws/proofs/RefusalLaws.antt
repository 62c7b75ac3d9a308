-- Where the reading stops is the first token that no unit goes on with.
use Rattle.std.proofs.Common.{◌≡◌, ℕ, zero, suc, ◌+◌, ◌<◌, ◌≤◌, ◌⊎◌, ◌++◌, inl, inr, Ok, Err, List, [], ◌∷◌, length, take, drop, refl, sym, ap, subst, ◌∙◌, append_assoc, arith}
use Rattle.std.proofs.lemmas.List.{length-append, take-append-le}
use Rattle.c_lex.specs.declared.token.Token.{Token}
use Rattle.c_ast.specs.declared.declaration.Unit.{Unit as AUnit}
use Rattle.c_grammar.specs.Names.{Names, nothing}
use Rattle.c_grammar.specs.Words.{number_of}
use Rattle.c_grammar.specs.Grammar.{AreExternals, ParsesWithin, Parses}
use Rattle.c_grammar.specs.Nesting.{Bounds, Begins, externals_stand}
use Rattle.c_grammar.specs.Refusals.{GoesOn, GoesOnSomehow, IsRefused}
use Rattle.c_grammar.specs.Reading.{Fault, Unexpected, TooNested, Outcome}
use Rattle.c_grammar.specs.ReadingStmt.{unit}
use Rattle.c_grammar.proofs.Late.{raised_is}
use Rattle.c_grammar_laws.proofs.Deep.{Deeper, bounds, Swapped, at_tail, more_swapped, ExternalsAt}
use Rattle.c_grammar_laws.proofs.Viable.{Viable, fault_at}
use Rattle.c_grammar_laws.proofs.LevelLaws.{readers_sound, readers_complete}
use Rattle.c_grammar_laws.proofs.UnitLaws.{unit_sound}
use Rattle.c_grammar_laws.proofs.Moves.{moved_externals}
use Rattle.c_grammar_laws.proofs.UnitComplete.{unit_meets, unit_complete, within_greater}
use Rattle.c_grammar_laws.proofs.AllLate.{externals_late}
use Rattle.c_grammar_laws.proofs.AllStand.{within}
use Rattle.c_grammar_laws.proofs.LocalUnit.{SameFirst, none_same, more_same, end_same, refuses_alike}

-- a reading that stops is viable
abbrev pub UnitViable : ℕ → Type 0
UnitViable limit = (to : Deeper) (ts : List Token) (e : Fault) → unit to.chain limit ts ≡ Err e → Viable (ExternalsAt to (suc limit) nothing) (length ts) ts e []

-- ---- lists

record Split (rest rest' ts ts' : List Token) : Type 0 where
  front : List Token
  one : ts ≡ front ++ rest
  other : ts' ≡ front ++ rest'

split : {rest rest' ts ts' : List Token} → Swapped rest rest' ts ts' → Split rest rest' ts ts'
split at_tail = record { front = []; one = refl; other = refl }
split (more_swapped {t = t} s) =
    let x = split s in
    record { front = t ∷ x.front; one = ap (λ us. t ∷ us) x.one; other = ap (λ us. t ∷ us) x.other }

take_drop : (n : ℕ) (ts : List Token) → take n ts ++ drop n ts ≡ ts
take_drop zero ts = refl
take_drop (suc n) [] = refl
take_drop (suc n) (t ∷ ts) = ap (λ us. t ∷ us) (take_drop n ts)

pub taken_length : (n : ℕ) (ts : List Token) → n ≤ length ts → length (take n ts) ≡ n
taken_length zero ts less = refl
taken_length (suc n) [] less = absurd (omega (arith, less))
taken_length (suc n) (t ∷ ts) less = let x = taken_length n ts (omega (arith, less)) in omega (arith, x)

same_first : (k n : ℕ) (ts more : List Token) → k ≤ n → n ≤ length ts → SameFirst k ts (take n ts ++ more)
same_first zero n ts more less there = none_same
same_first (suc k) zero ts more less there = absurd (omega (arith, less))
same_first (suc k) (suc n) [] more less there = absurd (omega (arith, there))
same_first (suc k) (suc n) (t ∷ ts) more less there = more_same (same_first k n ts more (omega (arith, less)) (omega (arith, there)))

same_all : (k : ℕ) (ts : List Token) → SameFirst k ts ts
same_all zero ts = none_same
same_all (suc k) [] = end_same
same_all (suc k) (t ∷ ts) = more_same (same_all k ts)

pub order : (a b : ℕ) → (a < b) ⊎ ((a ≡ b) ⊎ (b < a))
order zero zero = inr (inl refl)
order zero (suc b) = inl (omega arith)
order (suc a) zero = inr (inr (omega arith))
order (suc a) (suc b) = elim (order a b) [
  | inl less ↦ inl (omega (arith, less))
  | inr more ↦ elim more [
    | inl same ↦ inr (inl (ap suc same))
    | inr less ↦ inr (inr (omega (arith, less)))
  ]
]

-- ---- the tokens before the place

deeper : ℕ → Deeper
deeper most = record { spare = 4; wide = suc most; chain = most; wider = omega arith; deeper = omega arith }

-- a unit of the deeper grammar, as `Begins` has it
repacked : (to : Deeper) (limit total later : ℕ) (after : Names) (us vs : List Token) → us ≡ vs → (x : ExternalsAt to (suc limit) nothing total later us [] after)
    → (d : AreExternals total to.wide (suc (limit + to.spare)) nothing vs [] after x.0) × externals_stand (bounds to later) d
repacked to limit total later after us vs same x =
    subst (λ ws. (d : AreExternals total to.wide (suc (limit + to.spare)) nothing ws [] after x.0) × externals_stand (bounds to later) d) same
    (subst (λ n. (d : AreExternals total to.wide (suc n) nothing us [] after x.0) × externals_stand (bounds to later) d) (raised_is to.spare limit) (x.1, x.2))

-- all tokens before the place where the reading stops go on, and so does each of their fronts
pub begins : (limit most : ℕ) → UnitViable limit → (ts : List Token) (e : Fault) → unit most limit ts ≡ Err e
    → (fault_at e ≤ length ts) × ((n : ℕ) → n ≤ fault_at e → Begins limit most (take n ts))
unfolding deeper
begins limit most viable ts e h =
    let to : Deeper = deeper most in
    let v = viable to ts e h in
    let s = split v.swapped in
    let long : length ts ≡ length s.front + length v.from = ap length s.one ∙ length-append s.front v.from in
    let place : fault_at e ≡ length s.front = let at = v.stops in omega (arith, at, long) in (
      omega (arith, place, long),
      λ n less.
          let few : n ≤ length s.front = omega (arith, less, place) in
          let front_is : take n ts ≡ take n s.front = ap (take n) s.one ∙ take-append-le n s.front v.from few in
          let more : List Token = drop n s.front ++ v.put in
          let all_is : v.all ≡ take n ts ++ more =
          s.other ∙ ap (λ us. us ++ v.put) (sym (take_drop n s.front)) ∙ append_assoc (take n s.front) (drop n s.front) v.put ∙ ap (λ us. us ++ more) (sym front_is) in
          let late : length v.put ≤ length more = let x = length-append (drop n s.front) v.put in omega (arith, x) in
          let x = v.is (length (take n ts ++ more)) (length more) late in
          let packed = repacked to limit (length (take n ts ++ more)) (length more) v.after v.all (take n ts ++ more) all_is x in
          record {
            more = more;
            unit = record { externals = x.0 };
            spare = to.spare;
            wide = to.wide;
            after = v.after;
            are = packed.0;
            stand = packed.1;
          },
    )

-- ---- the token itself

-- no unit begins with more tokens than those before the place, and has them within the limits
pub no_further : (limit most : ℕ) (ts : List Token) (e : Fault) → unit most limit ts ≡ Err e → (n : ℕ) → fault_at e < n → n ≤ length ts
    → Begins limit most (take n ts) → ⊥
no_further limit most ts e h n before there b =
    let all : List Token = take n ts ++ b.more in
    let again : unit most limit all ≡ Err e = refuses_alike most limit ts all (fault_at e) e (same_first (suc (fault_at e)) n ts b.more (omega (arith, before)) there) refl h in
    let bound : Bounds = record { spare = b.spare; chain = most; later = length b.more } in
    let long = length-append (take n ts) b.more in
    let taken = taken_length n ts there in
    elim (unit_meets b.wide limit bound all (readers_complete (length all) b.wide bound) b.unit b.after b.are b.stand) [
      | inl same ↦ absurd (let x = sym again ∙ same in cc)
      | inr l ↦
          let told : e ≡ TooNested (number_of (length all) (l.token ∷ l.behind)) = let x = sym again ∙ l.stops in cc in
          let place : fault_at e ≡ number_of (length all) (l.token ∷ l.behind) = ap fault_at told in
          let late = l.late in
          absurd (omega (arith, place, late, long, taken, before))
    ]

-- what isn't expected stands in no unit there, whatever its nesting
no_unit : (limit most : ℕ) (ts all : List Token) (k : ℕ) → unit most limit ts ≡ Err (Unexpected k) → SameFirst (suc k) ts all → (u : AUnit) → Parses all u → ⊥
no_unit limit most ts all k h same u parses =
    let again : unit most limit all ≡ Err (Unexpected k) = refuses_alike most limit ts all k (Unexpected k) same refl h in
    let (narrow, wide, there) = parses in
    let wider : ParsesWithin (suc (limit + narrow)) wide all u = within_greater narrow wide limit wide all u (omega arith) there in
    let place : suc (limit + narrow) ≡ limit + suc narrow = omega arith in
    let moved : ParsesWithin (limit + suc narrow) wide all u = subst (λ n. ParsesWithin n wide all u) place wider in
    let bound : Bounds = record { spare = suc narrow; chain = most; later = length all } in
    elim (unit_meets wide limit bound all (readers_complete (length all) wide bound) u moved.0 moved.1 (externals_late bound moved.1 (omega arith))) [
      | inl found ↦ absurd (let x = sym again ∙ found in cc)
      | inr l ↦ absurd (let x = sym again ∙ l.stops in cc)
    ]

pub refused_there : (limit most : ℕ) → UnitViable limit → (ts : List Token) (e : Fault) → unit most limit ts ≡ Err e → IsRefused limit most ts (fault_at e)
refused_there limit most viable ts e h =
    let x = begins limit most viable ts e h in
    record {
      there = x.0;
      before = x.1 (fault_at e) (omega arith);
      stops = λ goes. elim goes [
        | inl p ↦ no_further limit most ts e h (suc (fault_at e)) (omega arith) (let less = p.0 in omega (arith, less)) p.1
        | inr p ↦ absurd (let found = unit_whole (p.1.0) (p.1.1) in let z = sym found ∙ h in cc)
      ];
    }
  where
    unit_whole : (u : AUnit) → ParsesWithin limit most ts u → unit most limit ts ≡ Ok u
    unit_whole u parses = unit_complete most limit ts (readers_complete (length ts) most (within most)) u parses

pub unexpected_there : (limit most : ℕ) (ts : List Token) (k : ℕ) → unit most limit ts ≡ Err (Unexpected k) → GoesOnSomehow ts k → ⊥
unexpected_there limit most ts k h (inl p) =
    no_unit limit most ts (take (suc k) ts ++ p.1.more) k h (same_first (suc k) (suc k) ts p.1.more (omega arith) (let less = p.0 in omega (arith, less))) p.1.unit p.1.parses
unexpected_there limit most ts k h (inr p) = no_unit limit most ts ts k h (same_all (suc k) ts) p.1.0 p.1.1

-- ---- fronts of units, and one refusal

pub goes_on : (limit most : ℕ) (ts : List Token) (u : AUnit) → ParsesWithin limit most ts u → (k : ℕ) → k ≤ length ts → GoesOn limit most ts k
unfolding deeper
goes_on limit most ts u parses k there = elim (order k (length ts)) [
  | inl less ↦
      let to : Deeper = deeper most in
      let m = moved_externals to parses.1 [] in
      let s = split m.swapped in
      let all_is : m.all ≡ take (suc k) ts ++ drop (suc k) ts = s.other ∙ sym s.one ∙ sym (take_drop (suc k) ts) in
      let total : ℕ = length (take (suc k) ts ++ drop (suc k) ts) in
      let later : ℕ = length (drop (suc k) ts) in
      let x = m.is total later in
      let packed = repacked to limit total later parses.0 m.all (take (suc k) ts ++ drop (suc k) ts) all_is x in
      inl (
        less,
        record {
          more = drop (suc k) ts;
          unit = record { externals = x.0 };
          spare = to.spare;
          wide = to.wide;
          after = parses.0;
          are = packed.0;
          stand = packed.1;
        },
      )
  | inr more ↦ elim more [
    | inl same ↦ inr (same, (u, parses))
    | inr less ↦ absurd (omega (arith, less, there))
  ]
]

-- it is the place where the reading stops
place_is : (limit most : ℕ) → UnitViable limit → (ts : List Token) (e : Fault) → unit most limit ts ≡ Err e → (k : ℕ) → IsRefused limit most ts k → k ≡ fault_at e
place_is limit most viable ts e h k r = elim (order k (fault_at e)) [
  | inl less ↦
      let x = begins limit most viable ts e h in
      let there = x.0 in
      absurd (r.stops (inl (omega (arith, less, there), x.1 (suc k) (omega (arith, less)))))
  | inr more ↦ elim more [
    | inl same ↦ same
    | inr less ↦ absurd (no_further limit most ts e h k less r.there r.before)
  ]
]

pub one_refused : (limit most : ℕ) → UnitViable limit → (ts : List Token) (a b : ℕ) → IsRefused limit most ts a → IsRefused limit most ts b → a ≡ b
one_refused limit most viable ts a b r s = by_reading (unit most limit ts) refl
  where
    by_reading : (o : Outcome AUnit) → unit most limit ts ≡ o → a ≡ b
    by_reading (Ok u) h =
        let parses = unit_sound most limit ts (λ room. readers_sound (length ts) most room) u h in
        absurd (r.stops (goes_on limit most ts u parses a r.there))
    by_reading (Err e) h = place_is limit most viable ts e h a r ∙ sym (place_is limit most viable ts e h b s)
