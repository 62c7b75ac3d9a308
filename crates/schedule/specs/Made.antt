-- The made schedule: turns of three random words each, and the events that each turn makes.
use Rattle.std.specs.Prelude.{◌≡◌, ℕ, zero, suc, ◌+◌, ◌/◌, ◌%◌, ◌≤◌, ◌==◌, ◌&&◌, nat_lt, if◌then◌else◌, Bool, List, [], ◌∷◌, ◌++◌, map, take}
use Rattle.std.specs.List.{range_with_len}
use Rattle.rand_pcg.specs.Lcg.{Lcg, started, increment_of}
use Rattle.rand_pcg.specs.Pcg.{multiplier_64, pcg32}
use Rattle.schedule.specs.declared.event.Event.{Event}
use Rattle.schedule.specs.declared.event.Event.TheVariants.{Run, Deliver, Settle, Move, Balance, Freeze, Save, Commit, Lose, Recover}
use Rattle.schedule.specs.declared.event.Strategy.{Strategy}
use Rattle.schedule.specs.declared.event.Strategy.TheVariants.{Rotate, Greedy, Refine}
use Rattle.schedule.specs.declared.made.Turn.{Turn}

-- the generator of a seed, on stream 1
abbrev pub generator_of : ℕ → Lcg
generator_of seed = started 64 multiplier_64 seed (increment_of 64 1)

-- A turn draws three words: the first decides the kind of event, the next two its numbers.
unfoldable pub drawn : Lcg → Turn × Lcg
drawn g =
    let choice = pcg32 g in
    let first = pcg32 choice.1 in
    let second = pcg32 first.1 in
    (record { choice = choice.0; first = first.0; second = second.0 }, second.1)

-- the first n turns
unfoldable pub turns : ℕ → Lcg → List Turn
turns zero g = []
turns (suc n) g = (drawn g).0 ∷ turns n (drawn g).1

-- every processor saves
abbrev pub saves : ℕ → List Event
saves procs = map Save (range_with_len 0 procs)

-- a checkpoint
abbrev pub block : ℕ → List Event
block procs = Freeze ∷ Settle ∷ saves procs ++ Settle ∷ Commit ∷ []

-- a loss, and a checkpoint behind it
abbrev pub loss : ℕ → ℕ → List Event
loss lost procs = Lose lost ∷ Recover ∷ Settle ∷ block procs

abbrev pub strategy_of : ℕ → Strategy
strategy_of word = if word % 3 == 0 then Rotate else (if word % 3 == 1 then Greedy else Refine)

-- a turn of a choice that ends in 99 loses a processor, where its last word says so and less than half are lost
abbrev pub makes_loss : ℕ → ℕ → Turn → Bool
makes_loss procs losses turn =
    turn.choice % 100 == 99 && (turn.second % 64 == 0 && nat_lt losses (procs / 2))

-- the event of a turn by its choice modulo 100, where it is neither a checkpoint nor a loss
abbrev pub single_event : ℕ → ℕ → Turn → Event
single_event ranks procs turn =
    let kind = turn.choice % 100 in
    if nat_lt kind 60 then Run (turn.first % ranks) (1 + turn.second % 200)
    else (if nat_lt kind 90 then Deliver (turn.first % 1024)
    else (if nat_lt kind 95 then Move (turn.first % ranks) (turn.second % procs)
    else (if kind == 95 then Balance (strategy_of turn.first)
    else Settle)))

-- the events of a turn: a checkpoint, a loss or one event
unfoldable pub events_of_turn : ℕ → ℕ → Bool → Turn → List Event
events_of_turn ranks procs is_loss turn =
    if turn.choice % 100 == 98 && turn.first % 8 == 0 then block procs
    else (if is_loss then loss (turn.first % procs) procs
    else single_event ranks procs turn ∷ [])

abbrev pub losses_after : ℕ → ℕ → Turn → ℕ
losses_after procs losses turn = if makes_loss procs losses turn then losses + 1 else losses

-- the events of turns, in order, where n losses were made before
unfoldable pub events_of : ℕ → ℕ → ℕ → List Turn → List Event
events_of ranks procs losses [] = []
events_of ranks procs losses (turn ∷ turns) =
    events_of_turn ranks procs (makes_loss procs losses turn) turn ++ events_of ranks procs (losses_after procs losses turn) turns

-- The first events of n turns. Each turn makes an event at least, so as many turns as events are enough.
abbrev pub first_events : ℕ → ℕ → ℕ → ℕ → ℕ → List Event
first_events seed turn_count count ranks procs = take count (events_of ranks procs 0 (turns turn_count (generator_of seed)))

abbrev pub made : ℕ → ℕ → ℕ → ℕ → List Event
made seed count ranks procs = first_events seed count count ranks procs

-- With more turns the first events are the same.
abbrev pub TurnsSuffice : Type 0
TurnsSuffice =
    (seed count ranks procs turn_count : ℕ) → count ≤ turn_count
    → first_events seed turn_count count ranks procs ≡ made seed count ranks procs
