-- The output of one rank over a list of events, and the lines of its history.
use Rattle.std.specs.Prelude.{◌≡◌, ◌+◌, ℕ, List, [], ◌∷◌, ◌++◌, length}
use Rattle.am_base.specs.declared.lines.Line.{Line}
use Rattle.am_base.specs.Released.{released_lines}
use Rattle.output_commit.specs.Held.{AscendByOne, unreleased}

-- What may happen to a rank's output: the rank prints a line; a commit releases what isn't released; held lines that are
-- released are dropped; the rank goes back to the copy of the last commit. Dropping may come at any time, or never.
pub data OutputEvent : Type 0 where
  Prints : List ℕ → OutputEvent
  Commits : OutputEvent
  Drops : OutputEvent
  GoesBack : OutputEvent

-- the part of a rank's state, and of its copy, that is its output: the held lines, and the next line's number
pub record Held : Type 0 where
  pub lines : List Line
  pub next : ℕ

-- the rank, its copy of the last commit, the released count, and all lines that were released, one commit after another
pub record Output : Type 0 where
  pub rank : Held
  pub copy : Held
  pub count : ℕ
  pub released : List Line

-- what an event does to the output; a copy still holds the lines that its own commit releases
abbrev pub after_event : Output → OutputEvent → Output
after_event o (Prints text) =
    record o { rank = record { lines = o.rank.lines ++ record { number = o.rank.next; text = text } ∷ []; next = o.rank.next + 1 } }
after_event o Commits =
    record o { copy = o.rank; count = o.rank.next; released = o.released ++ unreleased o.count o.rank.lines }
after_event o Drops = record o { rank = record { lines = unreleased o.count o.rank.lines; next = o.rank.next } }
after_event o GoesBack = record o { rank = o.copy }

abbrev pub after_events : Output → List OutputEvent → Output
after_events o [] = o
after_events o (event ∷ events) = after_events (after_event o event) events

-- nothing is printed yet
abbrev pub at_start : Output
at_start =
    let none : Held = record { lines = []; next = 0 } in
    record { rank = none; copy = none; count = 0; released = [] }

-- the texts of the lines that stand in the rank's history up to its last commit, and since then
pub record Printed : Type 0 where
  pub committed : List (List ℕ)
  pub since : List (List ℕ)

-- what an event does to the history; going back takes away what was printed since the last commit
abbrev pub printed_by : Printed → OutputEvent → Printed
printed_by p (Prints text) = record p { since = p.since ++ text ∷ [] }
printed_by p Commits = record { committed = p.committed ++ p.since; since = [] }
printed_by p Drops = p
printed_by p GoesBack = record p { since = [] }

abbrev pub printed_by_all : Printed → List OutputEvent → Printed
printed_by_all p [] = p
printed_by_all p (event ∷ events) = printed_by_all (printed_by p event) events

-- the lines of the history after the events
abbrev pub history_of : List OutputEvent → Printed
history_of events = printed_by_all (record { committed = []; since = [] }) events

-- lines with these texts and the numbers from n on
abbrev pub numbered : ℕ → List (List ℕ) → List Line
numbered n [] = []
numbered n (text ∷ texts) = record { number = n; text = text } ∷ numbered (n + 1) texts

-- Over any list of events what was released is the lines of the history up to its last commit, each once and in order,
-- and the released count is how many they are.
abbrev pub IsReleasedOnce : Type 0
IsReleasedOnce =
    (events : List OutputEvent)
    → ((after_events at_start events).released ≡ numbered 0 (history_of events).committed)
    × ((after_events at_start events).count ≡ length (history_of events).committed)

-- Over any list of events the held lines from the released count on are the rest of the history's lines.
abbrev pub IsRestHeld : Type 0
IsRestHeld =
    (events : List OutputEvent)
    → unreleased (after_events at_start events).count (after_events at_start events).rank.lines
    ≡ numbered (after_events at_start events).count (history_of events).since

-- Over any list of events the numbers of the held lines ascend by 1.
abbrev pub HeldAscend : Type 0
HeldAscend = (events : List OutputEvent) → AscendByOne (after_events at_start events).rank.lines

-- The texts of two releases are the text of both.
abbrev pub TextsJoin : Type 0
TextsJoin = (rank : ℕ) (a b : List Line) → released_lines rank (a ++ b) ≡ released_lines rank a ++ released_lines rank b
