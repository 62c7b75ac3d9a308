-- How a schedule is read from its front. It agrees with the grammar; only private functions cite it.
use Rattle.std.specs.Prelude.{ℕ, ◌+◌, ◌-◌, ◌*◌, ◌^◌, ◌==◌, ◌&&◌, nat_lt, nat_le, if◌then◌else◌, Bool, false, Option, Some, None, option_and_then, option_map, List, [], ◌∷◌, ◌++◌, length, take, drop, codes}
use Rattle.std.specs.List.{prefix_len}
use Rattle.std.specs.Str.{bytes_eq}
use Rattle.schedule.specs.declared.event.Event.{Event}
use Rattle.schedule.specs.declared.event.Event.TheVariants.{Run, Deliver, Settle, Move, Balance, Freeze, Save, Commit, Lose, Recover, Drain}
use Rattle.schedule.specs.declared.event.Strategy.{Strategy}
use Rattle.schedule.specs.declared.event.Strategy.TheVariants.{Rotate, Greedy, Refine}
use Rattle.schedule.specs.Grammar.{is_in_line, without_cr, is_blank, is_solid, is_digit, is_skipped, Answer, Events, Bad, Many, most_events}

-- ---- lines

-- how many bytes stand before the first line feed, or in all where there is none
abbrev pub feed_at : List ℕ → ℕ
feed_at text = prefix_len is_in_line text

-- the first line of a text that isn't empty, and the text behind its end
unfoldable pub line_at : List ℕ → List ℕ × List ℕ
line_at text =
    if feed_at text == length text then (text, []) else (without_cr (take (feed_at text) text), drop (feed_at text + 1) text)

-- a byte before the first of these pieces
abbrev pub with_byte : ℕ → List (List ℕ) → List (List ℕ)
with_byte b [] = (b ∷ []) ∷ []
with_byte b (piece ∷ pieces) = (b ∷ piece) ∷ pieces

-- the lines of a text
unfoldable pub lines_of : List ℕ → List (List ℕ)
lines_of [] = []
lines_of (b ∷ []) = if b == 10 then [] ∷ [] else (b ∷ []) ∷ []
lines_of (b ∷ c ∷ bs) =
    if b == 10 then [] ∷ lines_of (c ∷ bs)
    else (if b == 13 && c == 10 then [] ∷ lines_of bs else with_byte b (lines_of (c ∷ bs)))

-- ---- words

-- the bytes behind the blanks that a line begins with
abbrev pub behind_blanks : List ℕ → List ℕ
behind_blanks line = drop (prefix_len is_blank line) line

-- the first word of a line, and what stands behind it
unfoldable pub word_at : List ℕ → Option (List ℕ × List ℕ)
word_at line =
    let start = behind_blanks line in
    let len = prefix_len is_solid start in
    if len == 0 then None else Some (take len start, drop len start)

-- ---- numbers and events

-- the number that these digits go on with, where it stays below 2 ^ 32
unfoldable pub number_from : ℕ → List ℕ → Option ℕ
number_from n [] = Some n
number_from n (d ∷ ds) =
    let next = 10 * n + (d - 48) in
    if is_digit d && nat_lt next (2 ^ 32) then number_from next ds else None

unfoldable pub number_in : List ℕ → Option ℕ
number_in word = if nat_le 1 (length word) && nat_le (length word) 10 then number_from 0 word else None

unfoldable pub strategy_in : List ℕ → Option Strategy
strategy_in word =
    if bytes_eq word (codes "rotate") then Some Rotate
    else (if bytes_eq word (codes "greedy") then Some Greedy
    else (if bytes_eq word (codes "refine") then Some Refine else None))

unfoldable pub lone_event : List ℕ → Option Event
lone_event name =
    if bytes_eq name (codes "settle") then Some Settle
    else (if bytes_eq name (codes "freeze") then Some Freeze
    else (if bytes_eq name (codes "commit") then Some Commit
    else (if bytes_eq name (codes "recover") then Some Recover
    else (if bytes_eq name (codes "drain") then Some Drain else None))))

abbrev pub numbered_event : List ℕ → ℕ → Option Event
numbered_event name n =
    if bytes_eq name (codes "deliver") then Some (Deliver n)
    else (if bytes_eq name (codes "save") then Some (Save n)
    else (if bytes_eq name (codes "lose") then Some (Lose n) else None))

unfoldable pub event_with_one : List ℕ → List ℕ → Option Event
event_with_one name argument =
    if bytes_eq name (codes "balance") then option_map Balance (strategy_in argument)
    else option_and_then (numbered_event name) (number_in argument)

abbrev pub twice_numbered_event : List ℕ → ℕ → ℕ → Option Event
twice_numbered_event name m n =
    if bytes_eq name (codes "run") then Some (Run m n)
    else (if bytes_eq name (codes "move") then Some (Move m n) else None)

unfoldable pub event_with_two : List ℕ → List ℕ → List ℕ → Option Event
event_with_two name first second =
    option_and_then (λ m. option_and_then (λ n. twice_numbered_event name m n) (number_in second)) (number_in first)

abbrev pub event_of_three : List ℕ → List ℕ → List ℕ → Option (List ℕ × List ℕ) → Option Event
event_of_three name first second None = event_with_two name first second
event_of_three name first second (Some more) = None

abbrev pub event_of_two : List ℕ → List ℕ → Option (List ℕ × List ℕ) → Option Event
event_of_two name first None = event_with_one name first
event_of_two name first (Some more) = event_of_three name first more.0 (word_at more.1)

abbrev pub event_of_one : List ℕ → Option (List ℕ × List ℕ) → Option Event
event_of_one name None = lone_event name
event_of_one name (Some more) = event_of_two name more.0 (word_at more.1)

abbrev pub event_of_words : Option (List ℕ × List ℕ) → Option Event
event_of_words None = None
event_of_words (Some more) = event_of_one more.0 (word_at more.1)

-- the event of a line
unfoldable pub event_in : List ℕ → Option Event
event_in line = event_of_words (word_at line)

abbrev pub is_first_of_three : List ℕ → List ℕ → Option (List ℕ × List ℕ) → Bool
is_first_of_three name version None = bytes_eq name (codes "ampi-schedule") && bytes_eq version (codes "1")
is_first_of_three name version (Some more) = false

abbrev pub is_first_of_two : List ℕ → Option (List ℕ × List ℕ) → Bool
is_first_of_two name None = false
is_first_of_two name (Some more) = is_first_of_three name more.0 (word_at more.1)

abbrev pub is_first_of_words : Option (List ℕ × List ℕ) → Bool
is_first_of_words None = false
is_first_of_words (Some more) = is_first_of_two more.0 (word_at more.1)

-- the line is the first of version 1
unfoldable pub is_first : List ℕ → Bool
is_first line = is_first_of_words (word_at line)

-- ---- the whole text

abbrev pub with_event : ℕ → Option Event → List Event → Answer → Answer
with_event n None events more = Bad n
with_event n (Some event) events more = if length events == most_events then Many n else more

abbrev pub with_told : List Event → Option Event → List Event
with_told events None = events
with_told events (Some event) = events ++ event ∷ []

-- what the text is, with these lines left, behind n lines and the events that they tell
unfoldable pub answer_behind : ℕ → List Event → List (List ℕ) → Answer
answer_behind n events [] = Events events
answer_behind n events (line ∷ lines) =
    if is_skipped line then answer_behind (n + 1) events lines
    else with_event (n + 1) (event_in line) events (answer_behind (n + 1) (with_told events (event_in line)) lines)

-- the same before the first line is told
unfoldable pub answer_from : ℕ → List (List ℕ) → Answer
answer_from n [] = Bad 1
answer_from n (line ∷ lines) =
    if is_skipped line then answer_from (n + 1) lines
    else (if is_first line then answer_behind (n + 1) [] lines else Bad 1)

unfoldable pub answer_of : List ℕ → Answer
answer_of text = answer_from 0 (lines_of text)

-- behind the first line: how many lines were passed, and the text that is left
unfoldable pub opened : ℕ → List (List ℕ) → Option (ℕ × List (List ℕ))
opened n [] = None
opened n (line ∷ lines) =
    if is_skipped line then opened (n + 1) lines
    else (if is_first line then Some (n + 1, lines) else None)
