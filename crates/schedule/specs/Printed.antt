-- The text of a schedule as it is printed: single spaces, line feeds, no leading zeros.
use Rattle.std.specs.Prelude.{ℕ, ◌≤◌, List, [], ◌∷◌, ◌++◌, length, codes}
use Rattle.std.specs.List.{flat_map, AllByRecursion}
use Rattle.std.specs.Fmt.{decimal}
use Rattle.schedule.specs.declared.event.Event.{Event}
use Rattle.schedule.specs.Grammar.{Part, Word, Number, parts_of, One, first_parts, IsSchedule, most_events}

abbrev pub part_text : Part → List ℕ
part_text (Word bytes) = bytes
part_text (Number n) = decimal n

-- the parts with a space between two
abbrev pub spaced : List Part → List ℕ
spaced [] = []
spaced (part ∷ []) = part_text part
spaced (part ∷ more ∷ parts) = part_text part ++ codes " " ++ spaced (more ∷ parts)

abbrev pub line_text : List Part → List ℕ
line_text parts = spaced parts ++ codes "\n"

abbrev pub printed : List Event → List ℕ
printed events = line_text (first_parts One) ++ flat_map (λ event. line_text (parts_of event)) events

-- numbers that a line can spell
abbrev pub IsSmall : Part → Type 0
IsSmall (Word bytes) = Unit {0}
IsSmall (Number n) = n ≤ 4294967295

abbrev pub HasSmallNumbers : Event → Type 0
HasSmallNumbers event = AllByRecursion IsSmall (parts_of event)

-- What was printed is a schedule of the events.
abbrev pub PrintedIsRead : Type 0
PrintedIsRead =
    (events : List Event) → AllByRecursion HasSmallNumbers events → length events ≤ most_events
    → IsSchedule (printed events) events
