-- How far the members of a communicator are with a collective.
use Rattle.std.specs.Prelude.{ℕ, ◌≡◌, ◌<◌, ◌==◌, ◌&&◌, ◌||◌, not, if◌then◌else◌, Bool, true, false}
use Rattle.collectives.specs.Tree.{parent_of}

-- Of a member: nothing went up from it; its message is under way to its parent; its parent holds it; its argument went on
-- with its parent's; the list is under way to it; it has gathered the list.
pub data Stage : Type 0 where
  Apart : Stage
  Rising : Stage
  Held : Stage
  Passed : Stage
  Falling : Stage
  Done : Stage

abbrev pub is_apart : Stage → Bool
is_apart Apart = true
is_apart Rising = false
is_apart Held = false
is_apart Passed = false
is_apart Falling = false
is_apart Done = false

abbrev pub is_rising : Stage → Bool
is_rising Apart = false
is_rising Rising = true
is_rising Held = false
is_rising Passed = false
is_rising Falling = false
is_rising Done = false

abbrev pub is_held : Stage → Bool
is_held Apart = false
is_held Rising = false
is_held Held = true
is_held Passed = false
is_held Falling = false
is_held Done = false

abbrev pub is_falling : Stage → Bool
is_falling Apart = false
is_falling Rising = false
is_falling Held = false
is_falling Passed = false
is_falling Falling = true
is_falling Done = false

abbrev pub is_done : Stage → Bool
is_done Apart = false
is_done Rising = false
is_done Held = false
is_done Passed = false
is_done Falling = false
is_done Done = true

abbrev pub is_passed : Stage → Bool
is_passed Apart = false
is_passed Rising = false
is_passed Held = false
is_passed Passed = true
is_passed Falling = false
is_passed Done = false

-- which stages a child may have, by its parent's
abbrev pub may_be_below : Stage → Stage → Bool
may_be_below Apart child = is_apart child || (is_rising child || is_held child)
may_be_below Rising child = is_passed child
may_be_below Held child = is_passed child
may_be_below Passed child = is_passed child
may_be_below Falling child = is_passed child
may_be_below Done child = is_falling child || is_done child

-- the member is a child of the other
abbrev pub is_child : ℕ → ℕ → Bool
is_child i k = not (k == 0) && parent_of k == i

-- a member goes on to a stage, and its children to another
abbrev pub moved : (ℕ → Stage) → ℕ → Stage → Stage → ℕ → Stage
moved stage i own below k = if k == i then own else (if is_child i k then below else stage k)

-- the message of a member has come to its parent
abbrev pub came_up : (ℕ → Stage) → ℕ → ℕ → Stage
came_up stage i k = if k == i then Held else stage k

-- the stages of n members fit together
abbrev pub Fit : ℕ → (ℕ → Stage) → Type 0
Fit n stage = (k : ℕ) → 0 < k → k < n → may_be_below (stage (parent_of k)) (stage k) ≡ true
