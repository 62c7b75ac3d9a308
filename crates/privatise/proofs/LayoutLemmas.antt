-- The segment, object by object.
use Rattle.std.proofs.Common.{ℕ, suc, ◌≡◌, ◌+◌, ◌-◌, ◌==◌, ◌<◌, ◌≤◌, Bool, true, false, cond, List, [], ◌∷◌, ◌++◌, length, get_or, take, drop, replicate, map, slice_index, refl, ap, sym, ◌∙◌, arith, fold, append_assoc, add-one, length-append, inl, inr}
use Rattle.std.proofs.Math.Seq.{take-suc, drop-cons}
use Rattle.std.proofs.lemmas.Bool.Decides.{nat_tests}
use Rattle.std.proofs.lemmas.Bool.{cases_lt}
use Rattle.std.proofs.lemmas.List.{take_all, get_or_past, length-take-le, length-replicate}
use Rattle.std.proofs.lemmas.List.FromFn.{get_or-map-range_with_len, length-map-range_with_len}
use Rattle.std.specs.List.{filter, range_with_len}
use Rattle.rank_range.specs.Layout.{globals_start}
use Rattle.rank_range.proofs.NumberLemmas.{length_stays}
use Rattle.c_types.specs.declared.program.Program.{Program}
use Rattle.c_types.specs.declared.program.StaticObject.{StaticObject}
use Rattle.c_types.specs.declared.program.Fix.{Fix}
use Rattle.c_types.specs.declared.rooms.Rooms.{Rooms}
use Rattle.c_types.specs.Rooms.{offset_behind}
use Rattle.rank_range.specs.Numbers.{with_number}
use Rattle.c_types.specs.Segment.{arguments, segment_limit, before_objects, with_object, rooms_of, offset_behind_all, offset_of, lies_within, filled, fixed, fixes_of, with_address, bytes_of_object, bytes_behind, fixes_behind, object_count, object_offsets, IsAccepted}
use Rattle.privatise.specs.Addresses.{addressed, bytes_by_offsets}
use Rattle.privatise.proofs.LargeLemmas.{offset_not_below, all_grow, fits}

-- what is left of the objects at a place of the list
pub dropped : (os : List StaticObject) (i : ℕ) (o none : StaticObject) → i < length os → o ≡ get_or os i none
    → drop i os ≡ o ∷ drop (i + 1) os
dropped os i o none lt is = rw add-one (drop-cons os i none lt ∙ ap (λ y. y ∷ drop (suc i) os) (sym is))

pub taken : (os : List StaticObject) (i : ℕ) (o none : StaticObject) → i < length os → o ≡ get_or os i none
    → take (i + 1) os ≡ take i os ++ o ∷ []
taken os i o none lt is = rw add-one (take-suc os i none lt ∙ ap (λ y. take i os ++ y ∷ []) (sym is))

-- The next object fits, too.
pub next_fits : (program : Program) (rooms : Rooms) (i : ℕ) (o none : StaticObject) → IsAccepted program
    → i < length program.objects → o ≡ get_or program.objects i none
    → fold with_object rooms (drop i program.objects) ≡ rooms_of program.objects
    → (with_object rooms o).end ≤ segment_limit
next_fits program rooms i o none accepted lt is known =
    let all : fold with_object (with_object rooms o) (drop (i + 1) program.objects) ≡ rooms_of program.objects =
    sym (ap (fold with_object rooms) (dropped program.objects i o none lt is)) ∙ known in
    let ends = ap (λ (r : Rooms). r.end) all in
    omega (arith, ends, fits program accepted, all_grow (drop (i + 1) program.objects) (with_object rooms o))

pub next_rooms : (program : Program) (rooms new : Rooms) (i : ℕ) (o none : StaticObject)
    → i < length program.objects → o ≡ get_or program.objects i none
    → fold with_object rooms (drop i program.objects) ≡ rooms_of program.objects → new ≡ with_object rooms o
    → fold with_object new (drop (i + 1) program.objects) ≡ rooms_of program.objects
next_rooms program rooms new i o none lt is known e =
    ap (λ r. fold with_object r (drop (i + 1) program.objects)) e
    ∙ sym (ap (fold with_object rooms) (dropped program.objects i o none lt is)) ∙ known

-- the bytes of an object are as many as its size
stay_by : (objects : List StaticObject) (o : StaticObject) (f : Fix) (rest : List Fix) (bytes : List ℕ) (b : Bool) → length bytes ≡ o.size
    → lies_within o f ≡ b
    → ((new : List ℕ) → length new ≡ o.size → length (fold (fixed objects) new rest) ≡ o.size)
    → length (fold (fixed objects) bytes (cond b (f ∷ rest) rest)) ≡ o.size
stay_by objects o f rest bytes false long is next = next bytes long
stay_by objects o f rest bytes true long is next =
    let within : f.offset + 8 ≤ length bytes = grind (arith, nat_tests) in
    next (fixed objects bytes f) (length_stays bytes f.offset 8 (globals_start + (offset_of objects f.object + f.addend)) within ∙ long)

stay : (objects : List StaticObject) (o : StaticObject) (fs : List Fix) (bytes : List ℕ) → length bytes ≡ o.size
    → length (fold (fixed objects) bytes (filter (lies_within o) fs)) ≡ o.size
stay objects o [] bytes long = long
stay objects o (f ∷ fs) bytes long =
    stay_by objects o f (filter (lies_within o) fs) bytes (lies_within o f) long refl (λ new h. stay objects o fs new h)

filled_long : (o : StaticObject) → length (filled o) ≡ o.size
filled_long o =
    length-take-le o.size (o.initial.bytes ++ replicate o.size 0)
    (omega (arith, length-append o.initial.bytes (replicate o.size 0), length-replicate {A = ℕ} o.size 0))

pub object_long : (objects : List StaticObject) (o : StaticObject) → length (bytes_of_object objects o) ≡ o.size
object_long objects o = stay objects o o.initial.fixes (filled o) (filled_long o)

other : (x y : ℕ) (b : Bool) → b ≡ false → y ≡ 0 → cond b x y ≡ 0
other x y false e h = h
other x y true e h = absurd (cc)

apart : (m n : ℕ) → m + 1 ≤ n → (m == n) ≡ false
apart m n h = grind (arith, nat_tests)

-- The offsets by their numbers are those of the definition.
zero_past : (os : List StaticObject) (rooms : Rooms) (n : ℕ) → object_count os ≤ n → offset_behind_all rooms os n ≡ 0
zero_past [] rooms n le = refl
zero_past (o ∷ os) rooms n le =
    other (offset_behind o.align rooms) (offset_behind_all (with_object rooms o) os n) (o.object == n)
    (apart o.object n (omega (arith, le))) (zero_past os (with_object rooms o) n (omega (arith, le)))

pub tells : (objects : List StaticObject) (n : ℕ) → slice_index (object_offsets objects) n ≡ offset_of objects n
unfolding object_offsets offset_of
tells objects n =
    let count = object_count objects in
    let all = map (offset_of objects) (range_with_len 0 count) in
    elim (cases_lt n count) [
      | inl less ↦ get_or-map-range_with_len (offset_of objects) 0 count n n 0 less (omega arith)
      | inr more ↦
          let long = length-map-range_with_len (offset_of objects) 0 count in
          get_or_past all n 0 (omega (arith, more, long)) ∙ sym (zero_past objects before_objects n more)
    ]

same_fixes : (objects : List StaticObject) (offsets : List ℕ) → ((n : ℕ) → slice_index offsets n ≡ offset_of objects n)
    → (fs : List Fix) (bytes : List ℕ) → fold (addressed offsets) bytes fs ≡ fold (fixed objects) bytes fs
same_fixes objects offsets tell [] bytes = refl
same_fixes objects offsets tell (f ∷ fs) bytes =
    let here : addressed offsets bytes f ≡ fixed objects bytes f =
    ap (λ k. with_address bytes f.offset (k + f.addend)) (tell f.object) in
    ap (λ b. fold (addressed offsets) b fs) here ∙ same_fixes objects offsets tell fs (fixed objects bytes f)

same_bytes : (objects : List StaticObject) (offsets : List ℕ) (o : StaticObject) → offsets ≡ object_offsets objects
    → bytes_by_offsets offsets o ≡ bytes_of_object objects o
same_bytes objects offsets o is =
    same_fixes objects offsets (λ n. ap (λ ys. slice_index ys n) is ∙ tells objects n) (fixes_of o) (filled o)

joined : (old zeros part rest new : List ℕ) → new ≡ (old ++ zeros) ++ part → new ++ rest ≡ old ++ ((zeros ++ part) ++ rest)
joined old zeros part rest new e =
    ap (λ ys. ys ++ rest) e ∙ append_assoc (old ++ zeros) part rest ∙ append_assoc old zeros (part ++ rest)
    ∙ ap (λ ys. old ++ ys) (sym (append_assoc zeros part rest))

-- One object more, in the loop over them.
pub laid : (objects : List StaticObject) (offsets : List ℕ) (rooms : Rooms) (o : StaticObject) (os : List StaticObject) (old wide new : List ℕ) (offset count : ℕ)
    → offsets ≡ object_offsets objects → length old ≡ rooms.end → count ≡ length old → offset ≡ offset_behind o.align rooms
    → wide ≡ take offset old ++ replicate (offset - count) 0 → new ≡ wide ++ bytes_by_offsets offsets o
    → new ++ bytes_behind objects (with_object rooms o) os ≡ old ++ bytes_behind objects rooms (o ∷ os)
laid objects offsets rooms o os old wide new offset count tell long counted at widened is =
    let below : length old ≤ offset = omega (arith, long, at, offset_not_below o.align rooms) in
    let gap : offset - count ≡ offset_behind o.align rooms - rooms.end = omega (arith, counted, long, at) in
    let zeros = replicate (offset_behind o.align rooms - rooms.end) 0 in
    let front : wide ≡ old ++ zeros =
    widened ∙ ap (λ ys. ys ++ replicate (offset - count) 0) (take_all offset old below) ∙ ap (λ k. old ++ replicate k 0) gap in
    let body : new ≡ (old ++ zeros) ++ bytes_of_object objects o =
    is ∙ ap (λ ys. ys ++ bytes_by_offsets offsets o) front ∙ ap (λ ys. (old ++ zeros) ++ ys) (same_bytes objects offsets o tell) in
    joined old zeros (bytes_of_object objects o) (bytes_behind objects (with_object rooms o) os) new body

pub laid_long : (objects : List StaticObject) (offsets : List ℕ) (rooms : Rooms) (o : StaticObject) (old wide new : List ℕ) (offset count : ℕ)
    → offsets ≡ object_offsets objects → length old ≡ rooms.end → count ≡ length old → offset ≡ offset_behind o.align rooms
    → wide ≡ take offset old ++ replicate (offset - count) 0 → new ≡ wide ++ bytes_by_offsets offsets o
    → length new ≡ (with_object rooms o).end
laid_long objects offsets rooms o old wide new offset count tell long counted at widened is =
    let below : length old ≤ offset = omega (arith, long, at, offset_not_below o.align rooms) in
    let all = ap (λ (ys : List ℕ). length ys) is in
    let part = ap (λ (ys : List ℕ). length ys) (same_bytes objects offsets o tell) in
    let front = ap (λ (ys : List ℕ). length ys) (widened ∙ ap (λ ys. ys ++ replicate (offset - count) 0) (take_all offset old below)) in
    omega (
      arith,
      all,
      part,
      front,
      at,
      counted,
      object_long objects o,
      length-append wide (bytes_by_offsets offsets o),
      length-append old (replicate (offset - count) 0),
      length-replicate {A = ℕ} (offset - count) 0,
    )

pub arguments_are : 16 ∷ 48 ∷ 3 ∷ 0 ∷ 0 ∷ 0 ∷ 0 ∷ 0 ∷ 0 ∷ 0 ∷ 0 ∷ 0 ∷ 0 ∷ 0 ∷ 0 ∷ 0 ∷ 97 ∷ 109 ∷ 112 ∷ 105 ∷ 0 ∷ 0 ∷ 0 ∷ 0 ∷ 0 ∷ 0 ∷ 0 ∷ 0 ∷ 0 ∷ 0 ∷ 0 ∷ 0 ∷ [] ≡ arguments
unfolding with_number
arguments_are = refl

pub fixes_step : (rooms : Rooms) (o : StaticObject) (os : List StaticObject) (old new : List ℕ) (start : ℕ) → start ≡ offset_behind o.align rooms
    → new ≡ old ++ map (λ (f : Fix). start + f.offset) (fixes_of o)
    → new ++ fixes_behind (with_object rooms o) os ≡ old ++ fixes_behind rooms (o ∷ os)
fixes_step rooms o os old new start at is =
    let rest = fixes_behind (with_object rooms o) os in
    ap (λ ys. ys ++ rest) is
    ∙ append_assoc old (map (λ (f : Fix). start + f.offset) (fixes_of o)) rest
    ∙ ap (λ k. old ++ (map (λ (f : Fix). k + f.offset) (fixes_of o) ++ rest)) at
