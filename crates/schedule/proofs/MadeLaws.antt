-- Turns make the events of a made schedule: each makes one at least, so a bounded number of them is enough.
use Rattle.std.proofs.Common.{◌≡◌, ℕ, zero, suc, ◌+◌, ◌-◌, ◌%◌, ◌<◌, ◌≤◌, ◌&&◌, Bool, true, false, cond, eqb, List, [], ◌∷◌, ◌++◌, length, take, refl, sym, ap, ◌∙◌, arith, inl, inr, append_assoc, length-append}
use Rattle.std.proofs.lemmas.Bool.{cases_Bool}
use Rattle.std.proofs.lemmas.List.{append-nil}
use mir.Val.{bool_byte}
use Rattle.rand_pcg.specs.Lcg.{Lcg}
use Rattle.schedule.specs.declared.event.Event.{Event}
use Rattle.schedule.specs.declared.made.Turn.{Turn}
use Rattle.schedule.specs.Made.{drawn, turns, loss, makes_loss, single_event, events_of_turn, losses_after, events_of, generator_of, made, TurnsSuffice}

turn-some : (ranks procs : ℕ) (is_loss : Bool) (turn : Turn) → 1 ≤ length (events_of_turn ranks procs is_loss turn)
unfolding events_of_turn
turn-some ranks procs is_loss turn =
    elim (cases_Bool (eqb (turn.choice % 100) 98 && eqb (turn.first % 8) 0)) [
      | inl y ↦ rw y (omega arith)
      | inr z ↦ rw z (other is_loss)
    ]
  where
    other : (b : Bool) → 1 ≤ length (cond b (loss (turn.first % procs) procs) (single_event ranks procs turn ∷ []))
    other true = omega arith
    other false = omega arith

take_append : (k : ℕ) (xs ys : List Event) → take k (xs ++ ys) ≡ take k xs ++ take (k - length xs) ys
take_append k [] ys = let e : k - 0 ≡ k = omega arith in rw e (nothing k ys)
  where
    nothing : (k : ℕ) (ys : List Event) → take k ys ≡ take {A = Event} k [] ++ take k ys
    nothing zero ys = refl
    nothing (suc k) ys = refl
take_append zero (x ∷ xs) ys = let e : 0 - length (x ∷ xs) ≡ 0 = omega arith in rw e refl
take_append (suc k) (x ∷ xs) ys =
    let e : suc k - length (x ∷ xs) ≡ k - length xs = omega arith in
    rw e (ap (λ (z : List Event). x ∷ z) (take_append k xs ys))

abbrev later : ℕ → ℕ → ℕ → ℕ → Lcg → List Event
later ranks procs losses n g = events_of ranks procs losses (turns n g)

later-step : (ranks procs losses n : ℕ) (g : Lcg) → later ranks procs losses (suc n) g
    ≡ events_of_turn ranks procs (makes_loss procs losses (drawn g).0) (drawn g).0 ++ later ranks procs (losses_after procs losses (drawn g).0) n (drawn g).1
unfolding turns events_of
later-step ranks procs losses n g = refl

later-none : (ranks procs losses : ℕ) (g : Lcg) → later ranks procs losses 0 g ≡ []
unfolding turns events_of
later-none ranks procs losses g = refl

-- with enough turns the first k events are the same
same_front : (ranks procs f k a b losses : ℕ) (g : Lcg) → k ≤ f → k ≤ a → k ≤ b → take k (later ranks procs losses a g) ≡ take k (later ranks procs losses b g)
same_front ranks procs f zero a b losses g within on_a on_b = refl
same_front ranks procs zero (suc k) a b losses g within on_a on_b = absurd (omega arith)
same_front ranks procs (suc f) (suc k) zero b losses g within on_a on_b = absurd (omega arith)
same_front ranks procs (suc f) (suc k) (suc a) zero losses g within on_a on_b = absurd (omega arith)
same_front ranks procs (suc f) (suc k) (suc a) (suc b) losses g within on_a on_b =
    let turn = (drawn g).0 in
    let h = (drawn g).1 in
    let now = events_of_turn ranks procs (makes_loss procs losses turn) turn in
    let after = losses_after procs losses turn in
    let some : 1 ≤ length now = turn-some ranks procs (makes_loss procs losses turn) turn in
    let rest = same_front ranks procs f (suc k - length now) a b after h (omega arith) (omega arith) (omega arith) in
    ap (take (suc k)) (later-step ranks procs losses a g)
    ∙ take_append (suc k) now (later ranks procs after a h)
    ∙ ap (λ (x : List Event). take (suc k) now ++ x) rest
    ∙ sym (take_append (suc k) now (later ranks procs after b h))
    ∙ sym (ap (take (suc k)) (later-step ranks procs losses b g))

pub suffice : TurnsSuffice
suffice seed count ranks procs turn_count enough =
    same_front ranks procs count count turn_count count 0 (generator_of seed) (omega arith) enough (omega arith)

next_turns : (n : ℕ) → 0 < n → (q : ℕ) × (n ≡ suc q)
next_turns zero some = absurd (omega arith)
next_turns (suc q) some = (q, refl)

-- one turn of the loop keeps what all turns make
pub one_turn : (count ranks procs losses : ℕ) (made more : List Event) (turn : Turn) (g h : Lcg) → length made < count → (turn, h) ≡ drawn g
    → more ≡ made ++ events_of_turn ranks procs (makes_loss procs losses turn) turn
    → take count (more ++ later ranks procs (losses_after procs losses turn) (count - length more) h)
    ≡ take count (made ++ later ranks procs losses (count - length made) g)
one_turn count ranks procs losses made more turn g h wanted drew is =
    let now = events_of_turn ranks procs (makes_loss procs losses turn) turn in
    let after = losses_after procs losses turn in
    let some : 1 ≤ length now = turn-some ranks procs (makes_loss procs losses turn) turn in
    let (q, left) = next_turns (count - length made) (omega arith) in
    let size : length more ≡ length made + length now = ap length is ∙ length-append made now in
    let step : later ranks procs losses (suc q) g ≡ now ++ later ranks procs after q h =
    later-step ranks procs losses q g
    ∙ ap (λ (x : Turn × Lcg). events_of_turn ranks procs (makes_loss procs losses x.0) x.0 ++ later ranks procs (losses_after procs losses x.0) q x.1) (sym drew) in
    let rest = same_front ranks procs count (count - length more) (count - length more) q after h (omega arith) (omega arith) (omega (arith, left, size)) in
    take_append count more (later ranks procs after (count - length more) h)
    ∙ ap (λ (x : List Event). take count more ++ x) rest
    ∙ sym (take_append count more (later ranks procs after q h))
    ∙ ap (λ (x : List Event). take count (x ++ later ranks procs after q h)) is
    ∙ ap (take count) (append_assoc made now (later ranks procs after q h))
    ∙ ap (λ (x : List Event). take count (made ++ x)) (sym step)
    ∙ ap (λ (n : ℕ). take count (made ++ later ranks procs losses n g)) (sym left)

pub longer : (ranks procs : ℕ) (is_loss : Bool) (made more : List Event) (turn : Turn)
    → more ≡ made ++ events_of_turn ranks procs is_loss turn → length made < length more
longer ranks procs is_loss made more turn is =
    let now = events_of_turn ranks procs is_loss turn in
    let some : 1 ≤ length now = turn-some ranks procs is_loss turn in
    omega (arith, ap length is, length-append made now)

-- nothing is wanted any more
pub all_made : (count ranks procs losses : ℕ) (made : List Event) (g : Lcg) → count ≤ length made
    → take count made ≡ take count (made ++ later ranks procs losses (count - length made) g)
all_made count ranks procs losses made g enough =
    let none : count - length made ≡ 0 = omega arith in
    sym (ap (λ (n : ℕ). take count (made ++ later ranks procs losses n g)) none
    ∙ ap (λ (x : List Event). take count (made ++ x)) (later-none ranks procs losses g)
    ∙ ap (take count) (append-nil made))

pub losses_more : (b test : Bool) (losses more : ℕ) → b ≡ test → more ≡ bool_byte b → losses + more ≡ cond test (losses + 1) losses
losses_more true true losses more e f = rw f refl
losses_more true false losses more e f = absurd cc
losses_more false true losses more e f = absurd cc
losses_more false false losses more e f = omega (arith, f)

pub losses_few : (b : Bool) (losses more size size2 : ℕ) → more ≡ bool_byte b → losses ≤ size → size < size2 → losses + more ≤ size2
losses_few true losses more size size2 e few grew = omega (arith, e)
losses_few false losses more size size2 e few grew = omega (arith, e)

-- the same where the test's value and the losses behind the turn have names
pub turn_kept : (count ranks procs losses losses2 : ℕ) (made more : List Event) (turn : Turn) (g h : Lcg) (is_loss : Bool) → length made < count
    → (turn, h) ≡ drawn g → is_loss ≡ makes_loss procs losses turn → more ≡ made ++ events_of_turn ranks procs is_loss turn
    → losses2 ≡ losses_after procs losses turn
    → take count (more ++ later ranks procs losses2 (count - length more) h) ≡ take count (made ++ later ranks procs losses (count - length made) g)
turn_kept count ranks procs losses losses2 made more turn g h is_loss wanted drew test is after =
    ap (λ (n : ℕ). take count (more ++ later ranks procs n (count - length more) h)) after
    ∙ one_turn count ranks procs losses made more turn g h wanted drew (is ∙ ap (λ (b : Bool). made ++ events_of_turn ranks procs b turn) test)

pub from_nothing : (seed count ranks procs : ℕ) (g : Lcg) → g ≡ generator_of seed
    → take count ([] ++ events_of ranks procs 0 (turns (count - length {A = Event} []) g)) ≡ made seed count ranks procs
from_nothing seed count ranks procs g e =
    let whole : count - length {A = Event} [] ≡ count = omega arith in
    ap (λ (n : ℕ). take count (later ranks procs 0 n g)) whole ∙ ap (λ (x : Lcg). take count (later ranks procs 0 count x)) e
