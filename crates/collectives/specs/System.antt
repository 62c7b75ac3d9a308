-- Ranks of a run with the messages of trees that are under way, any of which may arrive next.
use Rattle.std.specs.Prelude.{ℕ, ◌≡◌, ◌≢◌, ◌<◌, ◌≤◌, ◌==◌, ◌&&◌, ◌||◌, not, if◌then◌else◌, Bool, true, false, List, [], ◌∷◌, map, filter}
use Rattle.std.specs.List.{list_all}
use Rattle.mpi_types.specs.declared.argument.TreeMsg.{TreeMsg}
use Rattle.mpi_types.specs.declared.context.Level.{Level}
use Rattle.mpi_types.specs.Accepts.{is_same_ctx}
use Rattle.collectives.specs.Tree.{parent_of, children}
use Rattle.collectives.specs.Held.{is_up, is_up_of}
use Rattle.collectives.specs.Slices.{Given, up_of, down_of}
use Rattle.collectives.specs.Stages.{Stage, is_apart, is_rising, is_held, is_falling, is_done, Fit}

-- a message under way, with the rank to which it goes
pub record Parcel : Type 0 where
  pub to : ℕ
  pub message : TreeMsg

-- the message goes down the tree of this collective
abbrev pub is_down_of : List Level → ℕ → TreeMsg → Bool
is_down_of ctx position m = is_same_ctx m.ctx ctx && m.position == position && not (is_up m.direction)

abbrev pub goes_up_from : List Level → ℕ → ℕ → Parcel → Bool
goes_up_from ctx position i p = is_up_of ctx position p.message && p.message.member == i

abbrev pub goes_down_to : List Level → ℕ → ℕ → Parcel → Bool
goes_down_to ctx position r p = is_down_of ctx position p.message && p.to == r

-- The stages of the n members fit together, and with who has joined.
pub record StagesFit (n : ℕ) (who : ℕ → Bool) (stage : ℕ → Stage) : Type 0 where
  pub fit : Fit n stage
  pub top : (is_apart (stage 0) || is_done (stage 0)) ≡ true
  pub joined : (i : ℕ) → i < n → is_apart (stage i) ≡ false → who i ≡ true

-- A member that has joined, and of which nothing went up, lacks the message of a child.
abbrev pub Waits : ℕ → (ℕ → Bool) → (ℕ → Stage) → ℕ → Type 0
Waits n who stage i = is_apart (stage i) ≡ true → who i ≡ true → list_all (λ c. is_held (stage c)) (children n i) ≡ false

-- What the members' ranks hold of a collective, and what of it is under way: just what the stages say.
pub record MessagesAre (ctx : List Level) (position n : ℕ) (rank : ℕ → ℕ) (given : Given) (stage : ℕ → Stage) (trees : ℕ → List TreeMsg) (bag : List Parcel) : Type 0 where
  pub held : (i : ℕ) → i < n → filter (is_up_of ctx position) (trees i) ≡ map (up_of ctx position n given) (filter (λ c. is_held (stage c)) (children n i))
  pub rising : (i : ℕ) → i < n → filter (goes_up_from ctx position i) bag
      ≡ (if is_rising (stage i) then record { to = rank (parent_of i); message = up_of ctx position n given i } ∷ [] else [])
  pub no_others : (i : ℕ) → n ≤ i → filter (goes_up_from ctx position i) bag ≡ []
  pub falling : (i : ℕ) → i < n → filter (goes_down_to ctx position (rank i)) bag
      ≡ (if is_falling (stage i) then record { to = rank i; message = down_of ctx position n given (parent_of i) } ∷ [] else [])
  pub no_strays : (r : ℕ) → ((i : ℕ) → i < n → rank i ≢ r) → filter (goes_down_to ctx position r) bag ≡ []
