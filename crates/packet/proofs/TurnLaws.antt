-- What is so of messages whose turn has come.
use Rattle.std.proofs.Common.{◌≡◌, ◌∙◌, ◌+◌, ◌<◌, ◌≤◌, ◌⊎◌, ℕ, zero, suc, Bool, true, false, ◌&&◌, ◌||◌, ◌==◌, nat_lt, cond, List, [], ◌∷◌, ◌++◌, length, refl, sym, ap, subst, inl, inr, arith, IsPermutation}
use Rattle.std.proofs.lemmas.Bool.{eqb-true, eq-eqb, ltb-true, cases_Bool, cases_lt}
use Rattle.std.proofs.lemmas.List.Sorted.{IsPermutation-refl, IsPermutation-cons, IsPermutation-middle, IsPermutation-trans}
use Rattle.byte_formats.specs.Formats.{ascends}
use Rattle.byte_formats.specs.FormatLaws.{both_true, and_is_true}
use Rattle.mpi_types.specs.declared.state.HeldMessage.{HeldMessage}
use Rattle.mpi_types.specs.Order.{is_held_before}
use Rattle.packet.specs.Turns.{is_turn, turns_of, kept_of, next_of, AreFrom, NoneHas, AreNumbered, TurnsAreNumbered, TurnsAreLongest, NoneIsLost}

-- a turn's message is of the sender and has the number
turn_told : (sender number : ℕ) (h : HeldMessage) → is_turn sender number h ≡ true → (h.message.sender.0 ≡ sender) × (h.number ≡ number)
turn_told sender number h e =
    let both = both_true (h.message.sender.0 == sender) (h.number == number) e in
    (eqb-true h.message.sender.0 sender both.0, eqb-true h.number number both.1)

turn_tells : (sender number : ℕ) (h : HeldMessage) → h.message.sender.0 ≡ sender → h.number ≡ number → is_turn sender number h ≡ true
turn_tells sender number h a b = and_is_true _ _ (eq-eqb h.message.sender.0 sender a) (eq-eqb h.number number b)

-- ---- numbers

numbered : (sender next : ℕ) (hs : List HeldMessage) → AreNumbered sender next (turns_of sender next hs)
numbered sender next [] = tt
numbered sender next (h ∷ hs) = elim (cases_Bool (is_turn sender next h)) [
  | inl e ↦
      let is = turn_told sender next h e in
      subst (λ (b : Bool). AreNumbered sender next (cond b (h ∷ turns_of sender (next + 1) hs) (turns_of sender next hs))) (sym e)
      (is.0, is.1, numbered sender (next + 1) hs)
  | inr e ↦
      subst (λ (b : Bool). AreNumbered sender next (cond b (h ∷ turns_of sender (next + 1) hs) (turns_of sender next hs))) (sym e)
      (numbered sender next hs)
]

next_is : (sender next : ℕ) (hs : List HeldMessage) → next_of sender next hs ≡ next + length (turns_of sender next hs)
next_is sender next [] = omega arith
next_is sender next (h ∷ hs) = elim (cases_Bool (is_turn sender next h)) [
  | inl e ↦ rw e (omega (arith, next_is sender (next + 1) hs))
  | inr e ↦ rw e (next_is sender next hs)
]

pub turns_are_numbered : TurnsAreNumbered
turns_are_numbered sender next hs = (numbered sender next hs, next_is sender next hs)

-- ---- the longest run

-- A message comes before another one: by sender, and then by number.
abbrev pub Before : HeldMessage → HeldMessage → Type 0
Before a b = (a.message.sender.0 < b.message.sender.0) ⊎ ((a.message.sender.0 ≡ b.message.sender.0) × (a.number < b.number))

or_is_true : (a b : Bool) → (a || b) ≡ true → (a ≡ true) ⊎ (b ≡ true)
or_is_true true b e = inl refl
or_is_true false b e = inr e

before_told : (a b : HeldMessage) → is_held_before a b ≡ true → Before a b
before_told a b e = elim (or_is_true (nat_lt a.message.sender.0 b.message.sender.0) ((a.message.sender.0 == b.message.sender.0) && nat_lt a.number b.number) e) [
  | inl less ↦ inl (ltb-true a.message.sender.0 b.message.sender.0 less)
  | inr same ↦
      let both = both_true (a.message.sender.0 == b.message.sender.0) (nat_lt a.number b.number) same in
      inr (eqb-true a.message.sender.0 b.message.sender.0 both.0, ltb-true a.number b.number both.1)
]

before_on : (a b c : HeldMessage) → Before a b → Before b c → Before a c
before_on a b c (inl x) (inl y) = inl (omega (arith, x, y))
before_on a b c (inl x) (inr y) = inl (omega (arith, x, y.0))
before_on a b c (inr x) (inl y) = inl (omega (arith, x.0, y))
before_on a b c (inr x) (inr y) = inr (omega (arith, x.0, y.0), omega (arith, x.1, y.1))

abbrev pub AllBehind : HeldMessage → List HeldMessage → Type 0
AllBehind h [] = Unit {0}
AllBehind h (x ∷ xs) = Before h x × AllBehind h xs

all_on : (a b : HeldMessage) (hs : List HeldMessage) → Before a b → AllBehind b hs → AllBehind a hs
all_on a b [] ab all = tt
all_on a b (x ∷ xs) ab all = (before_on a b x ab all.0, all_on a b xs ab all.1)

first_before : (h : HeldMessage) (hs : List HeldMessage) → ascends is_held_before (h ∷ hs) ≡ true → AllBehind h hs × (ascends is_held_before hs ≡ true)
first_before h [] e = (tt, refl)
first_before h (x ∷ xs) e =
    let both = both_true (is_held_before h x) (ascends is_held_before (x ∷ xs)) e in
    let less = before_told h x both.0 in
    let rest = first_before x xs both.1 in
    ((less, all_on h x xs less rest.0), both.1)

behind_more : (sender : ℕ) (h x : HeldMessage) → Before h x → h.message.sender.0 ≡ sender → x.message.sender.0 ≡ sender → h.number + 1 ≤ x.number
behind_more sender h x (inl less) a b = absurd (omega (arith, less, a, b))
behind_more sender h x (inr same) a b = omega (arith, same.1)

from_behind : (sender next : ℕ) (h : HeldMessage) (hs : List HeldMessage) → AllBehind h hs → h.message.sender.0 ≡ sender → next ≤ h.number + 1
    → AreFrom sender next hs
from_behind sender next h [] all is low = tt
from_behind sender next h (x ∷ xs) all is low =
    (λ own. (let more = behind_more sender h x all.0 is own in omega (arith, more, low)), from_behind sender next h xs all.1 is low)

-- no turn among greater numbers
next_stays : (sender next : ℕ) (hs : List HeldMessage) → AreFrom sender (next + 1) hs → next_of sender next hs ≡ next
next_stays sender next [] h = refl
next_stays sender next (x ∷ xs) h = elim (cases_Bool (is_turn sender next x)) [
  | inl e ↦ let is = turn_told sender next x e in let low = h.0 is.0 in absurd (omega (arith, low, is.1))
  | inr e ↦ rw e (next_stays sender next xs h.1)
]

-- one that isn't the next one's isn't that of the number that is expected then
not_next : (sender next : ℕ) (h : HeldMessage) (hs : List HeldMessage) → AllBehind h hs → (h.message.sender.0 ≡ sender → next ≤ h.number)
    → is_turn sender next h ≡ false → is_turn sender (next_of sender next hs) h ≡ true → ⊥
not_next sender next h hs all from other turn =
    let is = turn_told sender (next_of sender next hs) h turn in
    let low : next ≤ h.number = from is.0 in
    elim (cases_lt next h.number) [
      | inl less ↦
          let stays = next_stays sender next hs (from_behind sender (next + 1) h hs all is.0 (omega (arith, less))) in
          omega (arith, stays, is.1, less)
      | inr more ↦
          let here : is_turn sender next h ≡ true = turn_tells sender next h is.0 (omega (arith, low, more)) in
          (let never : true ≡ false = sym here ∙ other in absurd (cc))
    ]

longest : (sender next : ℕ) (hs : List HeldMessage) → ascends is_held_before hs ≡ true → AreFrom sender next hs
    → NoneHas sender (next_of sender next hs) (kept_of sender next hs)
longest sender next [] e from = tt
longest sender next (h ∷ hs) e from =
    let first = first_before h hs e in
    elim (cases_Bool (is_turn sender next h)) [
      | inl turn ↦
          let is = turn_told sender next h turn in
          let rest = longest sender (next + 1) hs first.1 (from_behind sender (next + 1) h hs first.0 is.0 (omega (arith, is.1))) in
          subst (λ (b : Bool). NoneHas sender (cond b (next_of sender (next + 1) hs) (next_of sender next hs))
          (cond b (kept_of sender (next + 1) hs) (h ∷ kept_of sender next hs))) (sym turn) rest
      | inr other ↦
          let rest = longest sender next hs first.1 from.1 in
          let not_here : is_turn sender (next_of sender next hs) h ≡ true → ⊥ =
          λ turn. not_next sender next h hs first.0 from.0 other turn in
          subst (λ (b : Bool). NoneHas sender (cond b (next_of sender (next + 1) hs) (next_of sender next hs))
          (cond b (kept_of sender (next + 1) hs) (h ∷ kept_of sender next hs))) (sym other) (not_here, rest)
    ]

pub turns_are_longest : TurnsAreLongest
turns_are_longest = longest

-- ---- none is lost

lost_if : (sender next : ℕ) (h : HeldMessage) (hs : List HeldMessage) (b : Bool)
    → IsPermutation (turns_of sender (next + 1) hs ++ kept_of sender (next + 1) hs) hs
    → IsPermutation (turns_of sender next hs ++ kept_of sender next hs) hs
    → IsPermutation (cond b (h ∷ turns_of sender (next + 1) hs) (turns_of sender next hs) ++ cond b (kept_of sender (next + 1) hs) (h ∷ kept_of sender next hs)) (h ∷ hs)
lost_if sender next h hs true one other = IsPermutation-cons h _ _ one
lost_if sender next h hs false one other =
    IsPermutation-trans _ _ _ (IsPermutation-middle (turns_of sender next hs) h (kept_of sender next hs)) (IsPermutation-cons h _ _ other)

pub none_is_lost : NoneIsLost
none_is_lost sender next [] = IsPermutation-refl []
none_is_lost sender next (h ∷ hs) =
    lost_if sender next h hs (is_turn sender next h) (none_is_lost sender (next + 1) hs) (none_is_lost sender next hs)
