use Rattle.std.proofs.Common.{◌≡◌, ℕ, zero, suc, ◌+◌, ◌-◌, ◌<◌, ◌≤◌, List, length, get_or, take, subst, sym, ◌∙◌, ap, arith}
use Rattle.std.specs.Prelude.{All, AllPairs}
use Rattle.std.proofs.lemmas.List.{get_or-drop, get_or_read, length-drop}
use Rattle.std.proofs.lemmas.List.Elements.{All-more}
use Rattle.mpi_types.specs.declared.lists.MatchedPair.{MatchedPair}
use Rattle.matcher.specs.Search.{IsPlaceOf}
use Rattle.matcher.proofs.search.place_of.Goals as goal

more_lower : (request at : ℕ) (pairs : List MatchedPair) (pair : MatchedPair)
    → at < length pairs → pair ≡ get_or pairs at pair → pair.receive.request < request
    → All (λ p. p.receive.request < request) (take at pairs) → All (λ p. p.receive.request < request) (take (at + 1) pairs)
more_lower request at pairs pair within is low lower =
    All-more (λ p. p.receive.request < request) pairs at pair within lower
    (let P : MatchedPair → Type 0 = λ p. p.receive.request < request in subst P is low)

-- from this place on no pair has a lower request
none_lower : (request at : ℕ) (pairs : List MatchedPair) (pair : MatchedPair)
    → at < length pairs → pair ≡ get_or pairs at pair → request ≤ pair.receive.request
    → AllPairs (λ a b. a.receive.request < b.receive.request) pairs
    → (k : ℕ) (d : MatchedPair) → k < length pairs - at → request ≤ (get_or pairs (at + k) d).receive.request
none_lower request at pairs pair within is high ascend zero d short =
    let here : pair ≡ get_or pairs at d = get_or_read pairs at pair within is d in
    let place : at ≡ at + zero = omega arith in
    let P : MatchedPair → Type 0 = λ p. request ≤ p.receive.request in
    subst P (here ∙ ap (λ i. get_or pairs i d) place) high
none_lower request at pairs pair within is high ascend (suc k) d short =
    let here : pair ≡ get_or pairs at d = get_or_read pairs at pair within is d in
    let P : MatchedPair → Type 0 = λ p. request ≤ p.receive.request in
    let first : request ≤ (get_or pairs at d).receive.request = subst P here high in
    let later : (get_or pairs at d).receive.request < (get_or pairs (at + suc k) d).receive.request =
    ascend at (at + suc k) d (omega arith) (omega arith) in
    omega arith

place_here : (request at : ℕ) (pairs : List MatchedPair) (pair : MatchedPair)
    → at < length pairs → pair ≡ get_or pairs at pair → request ≤ pair.receive.request
    → AllPairs (λ a b. a.receive.request < b.receive.request) pairs
    → All (λ p. p.receive.request < request) (take at pairs) → IsPlaceOf request pairs at
place_here request at pairs pair within is high ascend lower = record {
  within = omega arith;
  lower = lower;
  others = λ k d short.
      let P : MatchedPair → Type 0 = λ p. request ≤ p.receive.request in
      subst P (sym (get_or-drop at pairs k d))
      (none_lower request at pairs pair within is high ascend k d (let e = length-drop at pairs in omega arith));
}

place_at_end : (request at : ℕ) (pairs : List MatchedPair) → at ≤ length pairs → length pairs ≤ at
    → All (λ p. p.receive.request < request) (take at pairs) → IsPlaceOf request pairs (length pairs)
place_at_end request at pairs within past lower = record {
  within = omega arith;
  lower = let e : at ≡ length pairs = omega arith in
      let P : ℕ → Type 0 = λ n. All (λ p. p.receive.request < request) (take n pairs) in subst P e lower;
  others = λ k d short. absurd (let e = length-drop (length pairs) pairs in omega arith);
}

pub returns-then-request-pair : goal.returns-then-request-pair
returns-then-request-pair c =
    place_here c.args.request c.loop-at.at c.args.matched.now c.index-matched-at.result (omega arith) c.index-matched-at.is
    c.if-request-pair.true c.requires c.loop-at.invariant

pub loop-at-preserved : goal.loop-at-preserved
loop-at-preserved c =
    more_lower c.args.request c.loop-at.at c.args.matched.now c.index-matched-at.result (omega arith) c.index-matched-at.is
    c.if-request-pair.false c.loop-at.invariant

pub returns : goal.returns
returns c = place_at_end c.args.request c.loop-at.at c.args.matched.now (omega arith) (omega arith) c.loop-at.invariant
