-- In a list the objects come in order: what a position lies in begins no later, and what stands behind it begins later.
use Rattle.std.proofs.Common.{ℕ, zero, suc, ◌≡◌, refl, subst, ◌+◌, ◌-◌, ◌*◌, ◌/◌, ◌<◌, ◌≤◌, ◌^◌, nat_eq, nat_le, nat_lt, if◌then◌else◌, Bool, true, false, List, [], ◌∷◌, slice_get, Option, Some, None, arith}
use Rattle.std.specs.Prelude.{IfSome}
use Rattle.std.proofs.Math.Nat.{div-mul-le_self, lt-div-mul-add}
use Rattle.c_types.specs.declared.ctype.CType.{CType}
use Rattle.c_types.specs.declared.ctype.Base.{Base}
use Rattle.c_types.specs.declared.ctype.Base.TheVariants as base
use Rattle.c_types.specs.declared.ctype.Part.{Part}
use Rattle.c_types.specs.declared.ctype.Part.TheVariants as part
use Rattle.c_types.specs.declared.ctype.Member.{Member}
use Rattle.c_types.specs.declared.ctype.StructLayout.{StructLayout}
use Rattle.c_types.specs.Sizes.{Structs, size_limit, layout_of}
use Rattle.c_typing.specs.Types.{measured, last_part, without_last}
use Rattle.c_stores.specs.declared.spots.Spot.{Spot}
use Rattle.c_stores.specs.declared.spots.Want.{Want}
use Rattle.c_stores.specs.Spots.{count_of, element_behind, element_at, sized_element, holder, behind, member_behind, spot_of_member, held, layout_spot, base_member, part_by, part_in, is_for, then_in, spot_from, whole, level_limit, spot_for}
use Rattle.c_stores.specs.Laws.{IsAhead, ComesInOrder}

record InOrder (position : ℕ) (p : Spot) : Type 0 where
  begun : p.offset ≤ position
  ahead : IsAhead position p

abbrev AreInOrder : ℕ → Option Spot → Type 0
AreInOrder position o = IfSome o (InOrder position)

-- elements of arrays
element_ahead : (position number size : ℕ) (p : Spot) (b : Bool) → InOrder position p → position < p.offset + number * size
    → (next : ℕ) → (if b then Some (p.offset + number * size) else p.next) ≡ Some next → position < next
element_ahead position number size p true order more next is = subst (λ o. IfSome o (λ n. position < n)) is more
element_ahead position number size p false order more next is = order.ahead next is

element_at_order : (t : CType) (position number count size : ℕ) (p : Spot) (b : Bool) → InOrder position p
    → number * size ≤ position - p.offset → position - p.offset < number * size + size
    → AreInOrder position (if b then Some (record { of = t; offset = p.offset + number * size; next = element_behind (number + 1) count size p; is_whole = false }) else None)
element_at_order t position number count size p false order low high = tt
element_at_order t position number count size p true order low high =
    let begun = order.begun in
    let step : (number + 1) * size ≡ number * size + size = grind arith in
    record {
      begun = omega (arith, begun, low);
      ahead = element_ahead position (number + 1) size p (nat_lt (number + 1) count) order (omega (arith, begun, high, step));
    }

sized_order : (t : CType) (position : ℕ) (count : Option ℕ) (size : ℕ) (p : Spot) (b : Bool) → nat_eq size 0 ≡ b → InOrder position p
    → AreInOrder position (if b then None else element_at t ((position - p.offset) / size) (count_of count size) size p)
sized_order t position count size p true is order = tt
sized_order t position count size p false is order =
    let some : 0 < size = grind (arith, is) in
    element_at_order t position ((position - p.offset) / size) (count_of count size) size p _ order
    (div-mul-le_self (position - p.offset) size) (lt-div-mul-add {a = position - p.offset} some)

sized_element_order : (t : CType) (position : ℕ) (count size : Option ℕ) (p : Spot) → InOrder position p
    → AreInOrder position (sized_element t (position - p.offset) count size p)
sized_element_order t position count None p order = tt
sized_element_order t position count (Some size) p order = sized_order t position count size p (nat_eq size 0) refl order

-- members of structures
abbrev IsBelow : ℕ → Option (ℕ × ℕ) → Type 0
IsBelow at o = IfSome o (λ f. f.0 < at)

abbrev chosen : ℕ → ℕ → Option (ℕ × ℕ) → Member → Option (ℕ × ℕ)
chosen position at found m = if nat_le m.offset position then Some (at, m.offset) else found

chosen_below : (b : Bool) (at o : ℕ) (found : Option (ℕ × ℕ)) → IsBelow at found → IsBelow (at + 1) (if b then Some (at, o) else found)
chosen_below true at o found below = omega arith
chosen_below false at o None below = tt
chosen_below false at o (Some f) below = omega (arith, below)

not_before : (position at : ℕ) (found : ℕ × ℕ) (ms : List Member) (given : ℕ × ℕ) → found.0 ≤ at → holder position at (Some found) ms ≡ Some given → found.0 ≤ given.0
not_before position at found [] given few is = subst (λ o. IfSome o (λ g. found.0 ≤ g.0)) is (omega arith)
not_before position at found (m ∷ ms) given few is =
    by_test (nat_le m.offset position) (λ f less h. not_before position (at + 1) f ms given less h) is
  where
    by_test : (b : Bool) → ((f : ℕ × ℕ) → f.0 ≤ at + 1 → holder position (at + 1) (Some f) ms ≡ Some given → f.0 ≤ given.0)
        → holder position (at + 1) (if b then Some (at, m.offset) else Some found) ms ≡ Some given → found.0 ≤ given.0
    by_test true rest h = let more = rest (at, m.offset) (omega arith) h in omega (arith, more, few)
    by_test false rest h = rest found (omega (arith, few)) h

later : (position at : ℕ) (found : Option (ℕ × ℕ)) (ms : List Member) (given : ℕ × ℕ) (j : ℕ) (m : Member)
    → IsBelow at found → holder position at found ms ≡ Some given → given.0 + 1 ≡ at + j → slice_get ms j ≡ Some m → position < m.offset
later position at found [] given j m below is behind_it some = absurd (cc (some))
later position at found (x ∷ ms) given zero m below is behind_it some = by_test (nat_le x.offset position) refl is
  where
    by_test : (b : Bool) → nat_le x.offset position ≡ b → holder position (at + 1) (if b then Some (at, x.offset) else found) ms ≡ Some given → position < m.offset
    by_test true test h =
        let after = not_before position (at + 1) (at, x.offset) ms given (omega arith) h in
        absurd (omega (arith, after, behind_it))
    by_test false test h = subst (λ o. IfSome o (λ y. position < y.offset)) some (grind (arith, test))
later position at found (x ∷ ms) given (suc j) m below is behind_it some =
    later position (at + 1) _ ms given j m (chosen_below (nat_le x.offset position) at x.offset found below) is (omega (arith, behind_it)) some

last_begun : (position at : ℕ) (found : Option (ℕ × ℕ)) (ms : List Member) → IfSome found (λ f. f.1 ≤ position) → IfSome (holder position at found ms) (λ f. f.1 ≤ position)
last_begun position at found [] begun = begun
last_begun position at found (m ∷ ms) begun = last_begun position (at + 1) _ ms (by_test (nat_le m.offset position) refl)
  where
    by_test : (b : Bool) → nat_le m.offset position ≡ b → IfSome (if b then Some (at, m.offset) else found) (λ f. f.1 ≤ position)
    by_test true test = grind (arith, test)
    by_test false test = begun

behind_ahead : (o : Option Member) (position : ℕ) (p : Spot) → InOrder position p → ((m : Member) → o ≡ Some m → position - p.offset < m.offset)
    → (next : ℕ) → behind o p.offset p.next ≡ Some next → position < next
behind_ahead None position p order more next is = order.ahead next is
behind_ahead (Some m) position p order more next is = by_test (nat_lt (p.offset + m.offset) (2 ^ 64)) is
  where
    by_test : (b : Bool) → (if b then Some (p.offset + m.offset) else None) ≡ Some next → position < next
    by_test true h =
        let low = more m refl in
        let begun = order.begun in
        subst (λ o. IfSome o (λ n. position < n)) h (omega (arith, low, begun))
    by_test false h = absurd (cc (h))

spot_of_order : (o : Option Member) (position offset : ℕ) (next : Option ℕ) → offset ≤ position → ((n : ℕ) → next ≡ Some n → position < n)
    → AreInOrder position (spot_of_member o offset next)
spot_of_order None position offset next begun ahead = tt
spot_of_order (Some m) position offset next begun ahead = record { begun = begun; ahead = ahead }

held_order : (ms : List Member) (o : Option (ℕ × ℕ)) (position : ℕ) (p : Spot) → InOrder position p → holder (position - p.offset) 0 None ms ≡ o
    → IfSome o (λ f. f.1 ≤ position - p.offset) → AreInOrder position (held ms o p.offset p.next)
held_order ms None position p order is begun = tt
held_order ms (Some f) position p order is begun =
    let low = order.begun in
    spot_of_order (slice_get ms f.0) position (p.offset + f.1) (member_behind ms (f.0 + 1) p.offset p.next) (omega (arith, low, begun))
    (behind_ahead (slice_get ms (f.0 + 1)) position p order (λ m some. later (position - p.offset) 0 None ms f (f.0 + 1) m tt is (omega arith) some))

layout_order : (o : Option StructLayout) (position : ℕ) (p : Spot) → InOrder position p → AreInOrder position (layout_spot o (position - p.offset) p)
layout_order None position p order = tt
layout_order (Some l) position p order =
    held_order l.members _ position p order refl (last_begun (position - p.offset) 0 None l.members tt)

base_order : (structs : Structs) (b : Base) (position : ℕ) (p : Spot) → InOrder position p → AreInOrder position (base_member structs b (position - p.offset) p)
base_order structs base.Void position p order = tt
base_order structs (base.Whole k) position p order = tt
base_order structs (base.Struct n) position p order = layout_order (layout_of structs n) position p order

part_order : (structs : Structs) (o : Option Part) (position : ℕ) (p : Spot) → InOrder position p → AreInOrder position (part_by structs o (position - p.offset) p)
part_order structs None position p order = base_order structs p.of.base position p order
part_order structs (Some (part.Pointer is_const)) position p order = tt
part_order structs (Some (part.Array count)) position p order =
    sized_element_order (without_last p.of) position (Some count) (measured structs (without_last p.of)) p order
part_order structs (Some part.OpenArray) position p order =
    sized_element_order (without_last p.of) position None (measured structs (without_last p.of)) p order

-- from an object inwards
abbrev IsFound : ℕ → Option Spot → Type 0
IsFound position o = IfSome o (λ p. (p.offset ≡ position) × IsAhead position p)

from_order : (levels : ℕ) (structs : Structs) (position : ℕ) (w : Want) (p : Spot) → InOrder position p → IsFound position (spot_from levels structs position w p)
unfolding spot_from
from_order zero structs position w p order = tt
from_order (suc levels) structs position w p order =
    by_test (is_for structs position w p) refl (λ q each. from_order levels structs position w q each)
  where
    inner : (o : Option Spot) → ((q : Spot) → InOrder position q → IsFound position (spot_from levels structs position w q)) → AreInOrder position o
        → IsFound position (then_in o (spot_from levels structs position w))
    inner None rest each = tt
    inner (Some q) rest each = rest q each

    by_test : (b : Bool) → is_for structs position w p ≡ b
        → ((q : Spot) → InOrder position q → IsFound position (spot_from levels structs position w q))
        → IsFound position (if b then Some p else then_in (part_in structs position p) (spot_from levels structs position w))
    by_test true test rest = (grind (arith, test), order.ahead)
    by_test false test rest = inner (part_in structs position p) rest (part_order structs (last_part p.of) position p order)

found_order : (structs : Structs) (t : CType) (position : ℕ) (w : Want) → IsFound position (spot_for structs t position w)
unfolding spot_for
found_order structs t position w = by_test (nat_lt position size_limit)
  where
    by_test : (b : Bool) → IsFound position (if b then spot_from level_limit structs position w (whole t) else None)
    by_test true = from_order level_limit structs position w (whole t) (record { begun = omega arith; ahead = λ n is. absurd (cc (is)) })
    by_test false = tt

pub comes_in_order : ComesInOrder
comes_in_order structs t position w p is =
    subst (λ o. IfSome o (λ q. (q.offset ≡ position) × IsAhead position q)) is (found_order structs t position w)
