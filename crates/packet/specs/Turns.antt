-- How messages of a pair of ranks come into their order. This profile's own.
use Rattle.std.specs.Prelude.{ℕ, ◌≡◌, ◌+◌, ◌<◌, ◌≤◌, ◌==◌, ◌&&◌, if◌then◌else◌, Bool, true, List, [], ◌∷◌, ◌++◌, length, map, set, slice_index, IsPermutation}
use Rattle.byte_formats.specs.Formats.{ascends}
use Rattle.mpi_types.specs.declared.message.Message.{Message}
use Rattle.mpi_types.specs.declared.state.HeldMessage.{HeldMessage}
use Rattle.mpi_types.specs.declared.state.Reorder.{Reorder}
use Rattle.mpi_types.specs.Order.{is_held_before}

-- one more message among those that are held
abbrev pub put_held : HeldMessage → List HeldMessage → List HeldMessage
put_held h [] = h ∷ []
put_held h (x ∷ xs) = if is_held_before h x then h ∷ x ∷ xs else x ∷ put_held h xs

-- where it stands then
abbrev pub place_of : HeldMessage → List HeldMessage → ℕ
place_of h [] = 0
place_of h (x ∷ xs) = if is_held_before h x then 0 else place_of h xs + 1

-- whether the message of that sender with that number is this
abbrev pub is_turn : ℕ → ℕ → HeldMessage → Bool
is_turn sender number h = (h.message.sender.0 == sender) && (h.number == number)

-- the messages of the sender whose turn comes, from a number on, one behind the other
abbrev pub turns_of : ℕ → ℕ → List HeldMessage → List HeldMessage
turns_of sender next [] = []
turns_of sender next (h ∷ hs) = if is_turn sender next h then h ∷ turns_of sender (next + 1) hs else turns_of sender next hs

-- the messages that are kept then
abbrev pub kept_of : ℕ → ℕ → List HeldMessage → List HeldMessage
kept_of sender next [] = []
kept_of sender next (h ∷ hs) = if is_turn sender next h then kept_of sender (next + 1) hs else h ∷ kept_of sender next hs

-- the number that is expected then
abbrev pub next_of : ℕ → ℕ → List HeldMessage → ℕ
next_of sender next [] = next
next_of sender next (h ∷ hs) = if is_turn sender next h then next_of sender (next + 1) hs else next_of sender next hs

abbrev pub messages_of : List HeldMessage → List Message
messages_of hs = map (λ h. h.message) hs

-- What a message's coming gives and leaves: the messages whose turn has come, and the others.
pub record ComesInOrder (old : Reorder) (sender : ℕ) (h : HeldMessage) (given : List Message) (new : Reorder) : Type 0 where
  pub given_are : given ≡ messages_of (turns_of sender (slice_index old.expected sender) (put_held h old.held))
  pub held_are : new.held ≡ kept_of sender (slice_index old.expected sender) (put_held h old.held)
  pub expected_are : new.expected ≡ set old.expected sender (next_of sender (slice_index old.expected sender) (put_held h old.held))

-- All messages of the sender have that number or a greater one.
abbrev pub AreFrom : ℕ → ℕ → List HeldMessage → Type 0
AreFrom sender next [] = Unit {0}
AreFrom sender next (h ∷ hs) = (h.message.sender.0 ≡ sender → next ≤ h.number) × AreFrom sender next hs

-- No message of the sender has that number.
abbrev pub NoneHas : ℕ → ℕ → List HeldMessage → Type 0
NoneHas sender number [] = Unit {0}
NoneHas sender number (h ∷ hs) = (is_turn sender number h ≡ true → ⊥) × NoneHas sender number hs

-- The messages are of the sender, and their numbers are those from one on, each once.
abbrev pub AreNumbered : ℕ → ℕ → List HeldMessage → Type 0
AreNumbered sender next [] = Unit {0}
AreNumbered sender next (h ∷ hs) = (h.message.sender.0 ≡ sender) × (h.number ≡ next) × AreNumbered sender (next + 1) hs

-- What is given is a run of the sender's messages with the numbers from the expected one on, each once, and the number that is
-- expected then stands behind it.
abbrev pub TurnsAreNumbered : Type 0
TurnsAreNumbered =
    (sender next : ℕ) (hs : List HeldMessage)
    → AreNumbered sender next (turns_of sender next hs) × (next_of sender next hs ≡ next + length (turns_of sender next hs))

-- It is the longest: where the messages ascend and none is below the expected number, none that is kept has the next one.
abbrev pub TurnsAreLongest : Type 0
TurnsAreLongest =
    (sender next : ℕ) (hs : List HeldMessage) → ascends is_held_before hs ≡ true → AreFrom sender next hs
    → NoneHas sender (next_of sender next hs) (kept_of sender next hs)

-- Each message is given or kept, once.
abbrev pub NoneIsLost : Type 0
NoneIsLost = (sender next : ℕ) (hs : List HeldMessage) → IsPermutation (turns_of sender next hs ++ kept_of sender next hs) hs
