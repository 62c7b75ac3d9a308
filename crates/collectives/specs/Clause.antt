-- What is so of a collective at each moment, by who has joined, who has gathered, and which messages there are.
use Rattle.std.specs.Prelude.{ℕ, ◌≡◌, ◌<◌, ◌≤◌, ◌||◌, Bool, true, false, Some, List, [], filter, length}
use Rattle.mpi_types.specs.declared.group.Group.{Group}
use Rattle.collectives.specs.Tree.{end_of, parent_of}
use Rattle.collectives.specs.Stages.{Stage, is_rising, is_held, is_falling, is_done}
use Rattle.collectives.specs.System.{Parcel, goes_down_to}
use Rattle.collectives.specs.Underway.{Groups, Gives, AreGroups, System, Underway}

-- there is a message up of the member, on its way or at its parent; the list is on its way to it
abbrev pub has_up : (ℕ → Stage) → ℕ → Bool
has_up stage i = is_rising (stage i) || is_held (stage i)

-- the member is the other or below it
pub record IsIn (n i k : ℕ) : Type 0 where
  pub from : i ≤ k
  pub upto : k < end_of n i

-- While member 0 hasn't gathered: no member has; each message up is of a wholly joined subtree; no argument is in two of
-- them; a member that has joined, and whose argument is in none, lacks a child's message; and no list is under way.
pub record BeforeTheList (n : ℕ) (who : ℕ → Bool) (stage : ℕ → Stage) (down : ℕ → List Parcel) : Type 0 where
  pub none_gathered : (i : ℕ) → i < n → is_done (stage i) ≡ false
  pub whole : (i k : ℕ) → i < n → has_up stage i ≡ true → IsIn n i k → who k ≡ true
  pub in_one : (i j k : ℕ) → i < n → j < n → has_up stage i ≡ true → has_up stage j ≡ true → IsIn n i k → IsIn n j k → i ≡ j
  pub lacks : (k : ℕ) → k < n → who k ≡ true → ((i : ℕ) → i < n → has_up stage i ≡ true → IsIn n i k → ⊥)
      → (c : ℕ) × ((c < n) × ((0 < c) × ((parent_of c ≡ k) × (is_held (stage c) ≡ false))))
  pub no_list : (r : ℕ) → down r ≡ []

-- Once it has: there is no message up; each member that hasn't gathered is, or is below, the addressee of exactly one
-- list; and no addressee, and none below one, has gathered.
pub record OnceTheList (n : ℕ) (stage : ℕ → Stage) : Type 0 where
  pub no_up : (i : ℕ) → i < n → has_up stage i ≡ false
  pub one : (k : ℕ) → k < n → is_done (stage k) ≡ false → (i : ℕ) × ((i < n) × ((is_falling (stage i) ≡ true) × IsIn n i k))
  pub only_one : (i j k : ℕ) → i < n → j < n → is_falling (stage i) ≡ true → is_falling (stage j) ≡ true → IsIn n i k → IsIn n j k → i ≡ j
  pub none_below : (i k : ℕ) → i < n → is_falling (stage i) ≡ true → IsIn n i k → is_done (stage k) ≡ false

-- Where all are under way, this is so of each collective. What a message up and a list bring, to whom they go, and that
-- each is there once, `MessagesAre` says.
pub record IsSoOf (n : ℕ) (who : ℕ → Bool) (stage : ℕ → Stage) (down : ℕ → List Parcel) : Type 0 where
  pub before : is_done (stage 0) ≡ false → BeforeTheList n who stage down
  pub once : is_done (stage 0) ≡ true → OnceTheList n stage

abbrev pub ClauseHolds : Type 0
ClauseHolds = (groups : Groups) (gives : Gives) (s : System) (g : Group) (position : ℕ) → AreGroups groups → (under : Underway groups gives s) → groups g.ctx ≡ Some g
    → IsSoOf (length g.members) (s.who g.ctx position) (under.stages g.ctx position) (λ r. filter (goes_down_to g.ctx position r) s.bag)
