-- The segment has as many bytes as its objects want, and each address lies in its object.
use Rattle.std.proofs.Common.{ℕ, ◌≡◌, ◌+◌, ◌-◌, ◌≤◌, Bool, true, false, List, [], ◌∷◌, ◌++◌, length, replicate, map, refl, sym, ap, ◌∙◌, subst, arith, fold, length-append, All, nat_le}
use Rattle.std.proofs.lemmas.List.{length-replicate}
use Rattle.std.proofs.lemmas.List.Elements.{All-nil, All-cons, All-append, All-weaker}
use Rattle.std.specs.List.{filter}
use Rattle.std.proofs.lemmas.Bool.Decides.{nat_tests}
use Rattle.rank_range.specs.declared.run.Segment.{Segment}
use Rattle.c_types.specs.declared.program.Program.{Program}
use Rattle.c_types.specs.declared.program.StaticObject.{StaticObject}
use Rattle.c_types.specs.declared.program.Fix.{Fix}
use Rattle.c_types.specs.declared.rooms.Rooms.{Rooms}
use Rattle.c_types.specs.Rooms.{offset_behind}
use Rattle.c_types.specs.Segment.{arguments, before_objects, with_object, rooms_of, lies_within, fixes_of, bytes_of_object, bytes_behind, fixes_behind, segment_bytes, segment_fixes, SegmentOf}
use Rattle.rank_range.specs.Numbers.{with_number}
use Rattle.privatise.specs.Fits.{Fits, SegmentsFit}
use Rattle.privatise.proofs.LargeLemmas.{offset_not_below, all_grow, fits}
use Rattle.privatise.proofs.LayoutLemmas.{object_long}

behind_long : (objects : List StaticObject) (rooms : Rooms) (os : List StaticObject)
    → rooms.end + length (bytes_behind objects rooms os) ≡ (fold with_object rooms os).end
behind_long objects rooms [] = omega arith
behind_long objects rooms (o ∷ os) =
    let rest = behind_long objects (with_object rooms o) os in
    let gap = offset_behind o.align rooms - rooms.end in
    let size : length (replicate gap 0 ++ bytes_of_object objects o ++ bytes_behind objects (with_object rooms o) os)
    ≡ gap + o.size + length (bytes_behind objects (with_object rooms o) os) =
    length-append (replicate gap 0 ++ bytes_of_object objects o) (bytes_behind objects (with_object rooms o) os)
    ∙ ap (λ k. k + length (bytes_behind objects (with_object rooms o) os))
    (length-append (replicate gap 0) (bytes_of_object objects o) ∙ ap (λ k. k + length (bytes_of_object objects o)) (length-replicate {A = ℕ} gap 0)
    ∙ ap (λ k. gap + k) (object_long objects o)) in
    omega (arith, rest, size, offset_not_below o.align rooms)

-- the fixes that lie within their object
within-at : (o : StaticObject) (f : Fix) (b : Bool) → lies_within o f ≡ b → b ≡ true → f.offset + 8 ≤ o.size
within-at o f b is held =
    let within : nat_le (f.offset + 8) o.size ≡ true = is ∙ held in
    grind (arith, nat_tests)

filtered : (end start : ℕ) (o : StaticObject) (fs : List Fix) → start + o.size ≤ end
    → All (λ at. at + 8 ≤ end) (map (λ (f : Fix). start + f.offset) (filter (lies_within o) fs))
filtered end start o [] room = All-nil (λ at. at + 8 ≤ end)
filtered end start o (f ∷ fs) room = by (lies_within o f) refl (filtered end start o fs room)
  where
    by : (b : Bool) → lies_within o f ≡ b → All (λ at. at + 8 ≤ end) (map (λ (f : Fix). start + f.offset) (filter (lies_within o) fs))
        → All (λ at. at + 8 ≤ end) (map (λ (f : Fix). start + f.offset) (filter (lies_within o) (f ∷ fs)))
    by true is rest = rw is (All-cons (λ at. at + 8 ≤ end) (start + f.offset) _ (omega (arith, within-at o f true is refl, room)) rest)
    by false is rest = rw is rest

fixes_inside : (end : ℕ) (rooms : Rooms) (os : List StaticObject) → (fold with_object rooms os).end ≤ end
    → All (λ at. at + 8 ≤ end) (fixes_behind rooms os)
fixes_inside end rooms [] room = All-nil (λ at. at + 8 ≤ end)
fixes_inside end rooms (o ∷ os) room =
    All-append (λ at. at + 8 ≤ end) (map (λ (f : Fix). offset_behind o.align rooms + f.offset) (fixes_of o)) (fixes_behind (with_object rooms o) os)
    (filtered end (offset_behind o.align rooms) o o.initial.fixes (omega (arith, room, all_grow os (with_object rooms o))))
    (fixes_inside end (with_object rooms o) os room)

bytes_long : (objects : List StaticObject) → length (segment_bytes objects) ≡ (rooms_of objects).end
unfolding segment_bytes with_number
bytes_long objects =
    length-append arguments (bytes_behind objects before_objects objects) ∙ behind_long objects before_objects objects

fixes_of_segment : (objects : List StaticObject) (end : ℕ) → end ≡ (rooms_of objects).end → All (λ at. at + 8 ≤ end) (segment_fixes objects)
unfolding segment_fixes
fixes_of_segment objects end end_is =
    All-cons (λ at. at + 8 ≤ end) 0 (fixes_behind before_objects objects) (omega (arith, end_is, all_grow objects before_objects))
    (fixes_inside end before_objects objects (omega (arith, end_is)))

pub segments_fit : SegmentsFit
segments_fit program segment of =
    let size : length segment.bytes ≡ (rooms_of program.objects).end = ap length of.bytes_are ∙ bytes_long program.objects in
    let P : List ℕ → Type 0 = λ xs. All (λ at. at + 8 ≤ length segment.bytes) xs in
    record {
      room = omega (arith, size, fits program of.accepted);
      inside = subst P (sym of.fixes_are) (fixes_of_segment program.objects (length segment.bytes) size);
    }
