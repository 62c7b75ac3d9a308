-- The grammar of a schedule: a text's lines, a line's words, the words of an event, and which text is a schedule of
-- which events. Nothing here says how a text is read or printed.
use Rattle.std.specs.Prelude.{◌≡◌, ℕ, ◌+◌, ◌-◌, ◌*◌, ◌≤◌, ◌<◌, ◌==◌, ◌||◌, ◌&&◌, not, nat_le, if◌then◌else◌, Bool, false, IsTrue, ◌⊎◌, List, [], ◌∷◌, ◌++◌, length, map, codes}
use Rattle.std.specs.List.{flat_map, filter, fold, list_all, AllByRecursion}
use Rattle.schedule.specs.declared.event.Event.{Event}
use Rattle.schedule.specs.declared.event.Event.TheVariants.{Run, Deliver, Settle, Move, Balance, Freeze, Save, Commit, Lose, Recover, Drain}
use Rattle.schedule.specs.declared.event.Strategy.{Strategy}
use Rattle.schedule.specs.declared.event.Strategy.TheVariants.{Rotate, Greedy, Refine}

-- ---- lines

-- A line feed is byte 10, a carriage return byte 13.
abbrev pub is_in_line : ℕ → Bool
is_in_line b = not (b == 10)

abbrev pub HasNoFeed : List ℕ → Type 0
HasNoFeed bytes = AllByRecursion (λ b. IsTrue (is_in_line b)) bytes

-- the line that stands before a line feed: a CR directly before it belongs to the line's end
abbrev pub without_cr : List ℕ → List ℕ
without_cr [] = []
without_cr (b ∷ []) = if b == 13 then [] else b ∷ []
without_cr (b ∷ c ∷ bs) = b ∷ without_cr (c ∷ bs)

-- what stands behind the last line feed is a line too, unless it is empty
abbrev pub last_line : List ℕ → List (List ℕ)
last_line [] = []
last_line (b ∷ bs) = (b ∷ bs) ∷ []

-- The lines of a text, each without its end, LF or CR LF. The last end may be missing.
pub record AreLines (text : List ℕ) (lines : List (List ℕ)) : Type 0 where
  -- what stands before each line feed, and behind the last one
  pub before_feeds : List (List ℕ)
  pub rest : List ℕ
  pub text_is : text ≡ flat_map (λ bytes. bytes ++ 10 ∷ []) before_feeds ++ rest
  pub no_feed : AllByRecursion HasNoFeed before_feeds
  pub no_feed_behind : HasNoFeed rest
  pub lines_are : lines ≡ map without_cr before_feeds ++ last_line rest

-- ---- words

-- a space or a tab
abbrev pub is_blank : ℕ → Bool
is_blank b = b == 32 || b == 9

abbrev pub is_solid : ℕ → Bool
is_solid b = not (is_blank b)

abbrev pub AreBlanks : List ℕ → Type 0
AreBlanks bytes = AllByRecursion (λ b. IsTrue (is_blank b)) bytes

abbrev pub IsWord : List ℕ → Type 0
IsWord bytes = (0 < length bytes) × AllByRecursion (λ b. IsTrue (is_solid b)) bytes

-- a word ends where the line does, or at a blank
abbrev pub EndsWord : List ℕ → Type 0
EndsWord [] = Unit {0}
EndsWord (b ∷ bs) = IsTrue (is_blank b)

-- The line begins with this word, blanks before it aside, and the rest follows.
pub record BeginsWith (line word rest : List ℕ) : Type 0 where
  pub gap : List ℕ
  pub line_is : line ≡ gap ++ (word ++ rest)
  pub blanks : AreBlanks gap
  pub is_word : IsWord word
  pub ends : EndsWord rest

-- The line has just these words, in this order.
abbrev pub HasWords : List ℕ → List (List ℕ) → Type 0
HasWords line [] = AreBlanks line
HasWords line (word ∷ words) = (rest : List ℕ) × BeginsWith line word rest × HasWords rest words

-- ---- what words spell

-- a word as it stands, or a number
pub data Part : Type 0 where
  Word : List ℕ → Part
  Number : ℕ → Part

abbrev pub is_digit : ℕ → Bool
is_digit b = nat_le 48 b && nat_le b 57

-- the number that decimal digits spell
abbrev pub number_of : List ℕ → ℕ
number_of digits = fold (λ n d. 10 * n + (d - 48)) 0 digits

-- 1 to 10 digits, with a value up to 4294967295; leading zeros are allowed
pub record IsNumber (word : List ℕ) (n : ℕ) : Type 0 where
  pub some : 1 ≤ length word
  pub few : length word ≤ 10
  pub digits : AllByRecursion (λ b. IsTrue (is_digit b)) word
  pub value : n ≡ number_of word
  pub small : n ≤ 4294967295

abbrev pub IsSpelled : List ℕ → Part → Type 0
IsSpelled word (Word bytes) = word ≡ bytes
IsSpelled word (Number n) = IsNumber word n

-- these words spell these parts, one each
abbrev pub AreSpelled : List (List ℕ) → List Part → Type 0
AreSpelled [] [] = Unit {0}
AreSpelled [] (part ∷ parts) = ⊥
AreSpelled (word ∷ words) [] = ⊥
AreSpelled (word ∷ words) (part ∷ parts) = IsSpelled word part × AreSpelled words parts

abbrev pub Spells : List ℕ → List Part → Type 0
Spells line parts = (words : List (List ℕ)) × HasWords line words × AreSpelled words parts

-- ---- events

abbrev pub strategy_name : Strategy → List ℕ
strategy_name Rotate = codes "rotate"
strategy_name Greedy = codes "greedy"
strategy_name Refine = codes "refine"

-- the parts of an event's line
abbrev pub parts_of : Event → List Part
parts_of (Run rank ticks) = Word (codes "run") ∷ Number rank ∷ Number ticks ∷ []
parts_of (Deliver place) = Word (codes "deliver") ∷ Number place ∷ []
parts_of Settle = Word (codes "settle") ∷ []
parts_of (Move rank processor) = Word (codes "move") ∷ Number rank ∷ Number processor ∷ []
parts_of (Balance strategy) = Word (codes "balance") ∷ Word (strategy_name strategy) ∷ []
parts_of Freeze = Word (codes "freeze") ∷ []
parts_of (Save processor) = Word (codes "save") ∷ Number processor ∷ []
parts_of Commit = Word (codes "commit") ∷ []
parts_of (Lose processor) = Word (codes "lose") ∷ Number processor ∷ []
parts_of Recover = Word (codes "recover") ∷ []
parts_of Drain = Word (codes "drain") ∷ []

-- The versions of the format. A later one has a first line of its own, and further events.
pub data Version : Type 0 where
  One : Version

-- the parts of a schedule's first line
abbrev pub first_parts : Version → List Part
first_parts One = Word (codes "ampi-schedule") ∷ Word (codes "1") ∷ []

-- the events that a version has
abbrev pub Includes : Version → Event → Type 0
Includes One event = Unit {0}

abbrev pub IsFirst : Version → List ℕ → Type 0
IsFirst version line = Spells line (first_parts version)

abbrev pub IsEvent : Version → List ℕ → Event → Type 0
IsEvent version line event = Includes version event × Spells line (parts_of event)

-- ---- schedules

abbrev pub begins_with_hash : List ℕ → Bool
begins_with_hash [] = false
begins_with_hash (b ∷ bs) = b == 35

-- blank lines are skipped, and lines whose first byte is `#`
abbrev pub is_skipped : List ℕ → Bool
is_skipped line = begins_with_hash line || list_all is_blank line

abbrev pub told : List (List ℕ) → List (List ℕ)
told lines = filter (λ line. not (is_skipped line)) lines

-- these lines tell these events, one each
abbrev pub Tell : Version → List (List ℕ) → List Event → Type 0
Tell version [] [] = Unit {0}
Tell version [] (event ∷ events) = ⊥
Tell version (line ∷ lines) [] = ⊥
Tell version (line ∷ lines) (event ∷ events) = IsEvent version line event × Tell version lines events

abbrev pub most_events : ℕ
most_events = 1000000

-- The lines are a schedule of these events: skipped lines aside, first the version's line, and then a line for each.
pub record AreSchedule (version : Version) (lines : List (List ℕ)) (events : List Event) : Type 0 where
  pub first : List ℕ
  pub others : List (List ℕ)
  pub told_are : told lines ≡ first ∷ others
  pub opens : IsFirst version first
  pub each : Tell version others events
  pub few : length events ≤ most_events

-- no version's line stands first
abbrev pub HasNoFirst : List (List ℕ) → Type 0
HasNoFirst lines = (version : Version) (first : List ℕ) (others : List (List ℕ)) → told lines ≡ first ∷ others → IsFirst version first → ⊥

-- Line n, counted from 1 over all lines, comes behind a schedule of these events, and isn't skipped.
pub record Follows (version : Version) (lines : List (List ℕ)) (events : List Event) (line : List ℕ) (n : ℕ) : Type 0 where
  pub before : List (List ℕ)
  pub behind : List (List ℕ)
  pub lines_are : lines ≡ before ++ line ∷ behind
  pub number : n ≡ length before + 1
  pub schedule : AreSchedule version before events
  pub kept : is_skipped line ≡ false

-- line n is the first that is neither skipped nor an event's
pub record IsBadLine (lines : List (List ℕ)) (n : ℕ) : Type 0 where
  pub version : Version
  pub events : List Event
  pub line : List ℕ
  pub follows : Follows version lines events line n
  pub no_event : (event : Event) → IsEvent version line event → ⊥

-- line n is that of an event too many
pub record IsEventTooMany (lines : List (List ℕ)) (n : ℕ) : Type 0 where
  pub version : Version
  pub events : List Event
  pub line : List ℕ
  pub follows : Follows version lines events line n
  pub full : length events ≡ most_events
  pub event : Event
  pub is_event : IsEvent version line event

-- What a text is: a schedule of these events, bad at a line, or one with too many events from a line on.
pub data Answer : Type 0 where
  Events : List Event → Answer
  Bad : ℕ → Answer
  Many : ℕ → Answer

abbrev pub IsAnswer : List (List ℕ) → Answer → Type 0
IsAnswer lines (Events events) = (version : Version) × AreSchedule version lines events
IsAnswer lines (Bad n) = (HasNoFirst lines × (n ≡ 1)) ⊎ IsBadLine lines n
IsAnswer lines (Many n) = IsEventTooMany lines n

-- The text's answer.
pub record IsAnswered (text : List ℕ) (answer : Answer) : Type 0 where
  pub lines : List (List ℕ)
  pub are_lines : AreLines text lines
  pub answer_is : IsAnswer lines answer

abbrev pub IsSchedule : List ℕ → List Event → Type 0
IsSchedule text events = IsAnswered text (Events events)
