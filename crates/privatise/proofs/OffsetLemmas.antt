-- The offsets of the objects, one more in each turn.
use Rattle.std.proofs.Common.{ℕ, ◌≡◌, ◌+◌, ◌==◌, ◌<◌, ◌≤◌, ◌||◌, Bool, true, false, cond, List, [], ◌∷◌, ◌++◌, length, get_or, take, drop, max, slice_index, refl, ap, sym, subst, ◌∙◌, arith, fold, inr}
use Rattle.std.proofs.lemmas.Bool.Decides.{nat_tests}
use Rattle.std.proofs.lemmas.List.{take_all, take-append-drop}
use Rattle.std.proofs.lemmas.List.Sums.{fold-append}
use Rattle.std.proofs.lemmas.List.FromFn.{fill_by_all}
use Rattle.c_types.specs.declared.program.Program.{Program}
use Rattle.c_types.specs.declared.program.StaticObject.{StaticObject}
use Rattle.c_types.specs.declared.rooms.Rooms.{Rooms}
use Rattle.c_types.specs.Rooms.{offset_behind}
use Rattle.c_types.specs.Segment.{before_objects, with_object, rooms_of, offset_behind_all, offset_of, object_count, object_offsets, defines_object, IsAccepted, Twice}
use Rattle.privatise.proofs.LayoutLemmas.{dropped, taken}

-- What is known of the offsets of these objects.
pub record OffsetsAre (os : List StaticObject) (offsets : List ℕ) : Type 0 where
  pub long : length offsets ≡ object_count os
  pub each : (n : ℕ) → slice_index offsets n ≡ offset_behind_all before_objects os n

none_taken : (x y : ℕ) (b : Bool) → b ≡ false → cond b x y ≡ y
none_taken x y false e = refl
none_taken x y true e = absurd (cc)

one_taken : (x y : ℕ) (b : Bool) → b ≡ true → cond b x y ≡ x
one_taken x y true e = refl
one_taken x y false e = absurd (cc)

both_false : (a b : Bool) → (a || b) ≡ false → (a ≡ false) × (b ≡ false)
both_false true b e = absurd (cc)
both_false false b e = (refl, e)

same_number : (m n : ℕ) → (m == n) ≡ true → m ≡ n
same_number m n h = grind (arith, nat_tests)

count_more : (os : List StaticObject) (o : StaticObject) → object_count (os ++ o ∷ []) ≡ max (object_count os) (o.object + 1)
count_more [] o = omega arith
count_more (x ∷ xs) o = omega (arith, count_more xs o)

other_offset : (os : List StaticObject) (rooms : Rooms) (o : StaticObject) (n : ℕ) → (o.object == n) ≡ false
    → offset_behind_all rooms (os ++ o ∷ []) n ≡ offset_behind_all rooms os n
other_offset [] rooms o n e = none_taken (offset_behind o.align rooms) 0 (o.object == n) e
other_offset (x ∷ xs) rooms o n e =
    ap (λ k. cond (x.object == n) (offset_behind x.align rooms) k) (other_offset xs (with_object rooms x) o n e)

new_offset : (os : List StaticObject) (rooms : Rooms) (o : StaticObject) (n : ℕ) → (o.object == n) ≡ true → defines_object os n ≡ false
    → offset_behind_all rooms (os ++ o ∷ []) n ≡ offset_behind o.align (fold with_object rooms os)
new_offset [] rooms o n e none = one_taken (offset_behind o.align rooms) 0 (o.object == n) e
new_offset (x ∷ xs) rooms o n e none =
    let apart = both_false (x.object == n) (defines_object xs n) none in
    none_taken (offset_behind x.align rooms) (offset_behind_all (with_object rooms x) (xs ++ o ∷ []) n) (x.object == n) apart.0
    ∙ new_offset xs (with_object rooms x) o n e apart.1

each_by : (os : List StaticObject) (o : StaticObject) (offsets new : List ℕ) (offset n : ℕ) (b : Bool) → (o.object == n) ≡ b
    → defines_object os o.object ≡ false → slice_index offsets n ≡ offset_behind_all before_objects os n
    → offset ≡ offset_behind o.align (rooms_of os) → slice_index new n ≡ cond (o.object == n) offset (slice_index offsets n)
    → slice_index new n ≡ offset_behind_all before_objects (os ++ o ∷ []) n
each_by os o offsets new offset n true is none known at put =
    put ∙ one_taken offset (slice_index offsets n) (o.object == n) is ∙ at
    ∙ sym (new_offset os before_objects o n is (sym (ap (defines_object os) (same_number o.object n is)) ∙ none))
each_by os o offsets new offset n false is none known at put =
    put ∙ none_taken offset (slice_index offsets n) (o.object == n) is ∙ known ∙ sym (other_offset os before_objects o n is)

more : (os : List StaticObject) (o : StaticObject) (offsets new : List ℕ) (offset : ℕ) → defines_object os o.object ≡ false
    → OffsetsAre os offsets → offset ≡ offset_behind o.align (rooms_of os) → length new ≡ max (length offsets) (o.object + 1)
    → ((n : ℕ) → slice_index new n ≡ cond (o.object == n) offset (slice_index offsets n)) → OffsetsAre (os ++ o ∷ []) new
more os o offsets new offset none known at long put = record {
  long = omega (arith, long, known.long, count_more os o);
  each = λ n. each_by os o offsets new offset n (o.object == n) refl none (known.each n) at (put n);
}

once_by : (program : Program) (before : List StaticObject) (o : StaticObject) (behind : List StaticObject) (b : Bool) → IsAccepted program
    → program.objects ≡ before ++ o ∷ behind → defines_object before o.object ≡ b → b ≡ false
once_by program before o behind false accepted is e = refl
once_by program before o behind true accepted is e =
    absurd (accepted Twice o.at (inr (record { before = before; second = o; behind = behind; objects_are = is; is_second = e; at_is = refl })))

pub next_offsets : (program : Program) (i : ℕ) (o none : StaticObject) (rooms : Rooms) (offsets new : List ℕ) (offset : ℕ) → IsAccepted program
    → i < length program.objects → o ≡ get_or program.objects i none → rooms ≡ rooms_of (take i program.objects)
    → OffsetsAre (take i program.objects) offsets → offset ≡ offset_behind o.align rooms
    → length new ≡ max (length offsets) (o.object + 1)
    → ((n : ℕ) → slice_index new n ≡ cond (o.object == n) offset (slice_index offsets n))
    → OffsetsAre (take (i + 1) program.objects) new
next_offsets program i o none rooms offsets new offset accepted lt is rooms_are known at long put =
    let os = program.objects in
    let split : os ≡ take i os ++ o ∷ drop (i + 1) os =
    sym (take-append-drop i os) ∙ ap (λ ys. take i os ++ ys) (dropped os i o none lt is) in
    let once = once_by program (take i os) o (drop (i + 1) os) (defines_object (take i os) o.object) accepted split refl in
    subst (λ ys. OffsetsAre ys new) (sym (taken os i o none lt is))
    (more (take i os) o offsets new offset once known (at ∙ ap (offset_behind o.align) rooms_are) long put)

pub next_rooms_of : (os : List StaticObject) (i : ℕ) (o none : StaticObject) (rooms new : Rooms) → i < length os → o ≡ get_or os i none
    → rooms ≡ rooms_of (take i os) → new ≡ with_object rooms o → new ≡ rooms_of (take (i + 1) os)
next_rooms_of os i o none rooms new lt is known e =
    e ∙ ap (λ r. with_object r o) known ∙ sym (fold-append with_object before_objects (take i os) (o ∷ []))
    ∙ ap rooms_of (sym (taken os i o none lt is))

pub rest_of : (os : List StaticObject) (i : ℕ) (rooms : Rooms) → rooms ≡ rooms_of (take i os)
    → fold with_object rooms (drop i os) ≡ rooms_of os
rest_of os i rooms known =
    ap (λ r. fold with_object r (drop i os)) known ∙ sym (fold-append with_object before_objects (take i os) (drop i os))
    ∙ ap rooms_of (take-append-drop i os)

pub no_offsets : (offsets : List ℕ) → offsets ≡ [] → OffsetsAre [] offsets
no_offsets offsets e = record { long = ap (λ (ys : List ℕ). length ys) e; each = λ n. ap (λ ys. slice_index ys n) e }

pub all_offsets : (os : List StaticObject) (i : ℕ) (offsets : List ℕ) → length os ≤ i → OffsetsAre (take i os) offsets → offsets ≡ object_offsets os
unfolding object_offsets offset_of
all_offsets os i offsets past known =
    let all : take i os ≡ os = take_all i os past in
    fill_by_all (offset_of os) offsets (object_count os) 0 (known.long ∙ ap object_count all)
    (λ k lt. known.each k ∙ ap (λ ys. offset_behind_all before_objects ys k) all)
