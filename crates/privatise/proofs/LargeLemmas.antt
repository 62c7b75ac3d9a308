-- The object at which the segment passes its limit.
use Rattle.std.proofs.Common.{ℕ, ◌≡◌, ◌+◌, ◌<◌, ◌≤◌, Bool, true, false, cond, Option, Some, None, List, [], ◌∷◌, ◌++◌, length, get_or, drop, suc, refl, ap, sym, subst, ◌∙◌, arith, fold, nat_lt}
use Rattle.std.proofs.Math.Seq.{drop-cons}
use Rattle.std.proofs.lemmas.List.{drop_all}
use Rattle.std.proofs.lemmas.Bool.Decides.{nat_tests}
use Rattle.rank_range.specs.declared.width.Width.{Width}
use Rattle.rank_range.specs.declared.width.Width.TheVariants.{One, Two, Four, Eight}
use Rattle.c_types.specs.declared.program.Program.{Program}
use Rattle.c_types.specs.declared.program.StaticObject.{StaticObject}
use Rattle.c_types.specs.declared.program.TokenAt.{TokenAt}
use Rattle.c_types.specs.declared.rooms.Rooms.{Rooms}
use Rattle.c_types.specs.Places.{IsNotBehind}
use Rattle.c_types.specs.Rooms.{offset_behind}
use Rattle.c_types.specs.Segment.{segment_limit, before_objects, with_object, rooms_of, IsTooLarge, IsAccepted, TooLarge}
use Rattle.privatise.specs.First.{IsFirst}
use Rattle.privatise.proofs.FirstLemmas.{not_behind_itself}

pub offset_not_below : (align : Width) (rooms : Rooms) → rooms.end ≤ offset_behind align rooms
offset_not_below One rooms = omega arith
offset_not_below Two rooms = omega arith
offset_not_below Four rooms = omega arith
offset_not_below Eight rooms = omega arith

pub grows : (rooms : Rooms) (o : StaticObject) → rooms.end + o.size ≤ (with_object rooms o).end
grows rooms o = omega (arith, offset_not_below o.align rooms)

pub all_grow : (os : List StaticObject) (rooms : Rooms) → rooms.end ≤ (fold with_object rooms os).end
all_grow [] rooms = omega arith
all_grow (o ∷ os) rooms = omega (arith, grows rooms o, all_grow os (with_object rooms o))

-- the token of that object
abbrev pub passing : Rooms → List StaticObject → Option TokenAt
passing rooms [] = None
passing rooms (o ∷ os) = cond (nat_lt segment_limit (with_object rooms o).end) (Some o.at) (passing (with_object rooms o) os)

record Passes (rooms : Rooms) (os : List StaticObject) (t : TokenAt) : Type 0 where
  before : List StaticObject
  object : StaticObject
  behind : List StaticObject
  objects_are : os ≡ before ++ object ∷ behind
  fits_before : (fold with_object rooms before).end ≤ segment_limit
  passes : segment_limit < (with_object (fold with_object rooms before) object).end
  at_is : t ≡ object.at

found_by : (rooms : Rooms) (o : StaticObject) (os : List StaticObject) (t : TokenAt) (b : Bool) → rooms.end ≤ segment_limit
    → nat_lt segment_limit (with_object rooms o).end ≡ b
    → ((with_object rooms o).end ≤ segment_limit → passing (with_object rooms o) os ≡ Some t → Passes (with_object rooms o) os t)
    → cond b (Some o.at) (passing (with_object rooms o) os) ≡ Some t → Passes rooms (o ∷ os) t
found_by rooms o os t true fits is rest e = record {
  before = [];
  object = o;
  behind = os;
  objects_are = refl;
  fits_before = fits;
  passes = grind (arith, nat_tests);
  at_is = cc;
}
found_by rooms o os t false fits is rest e =
    let p = rest (grind (arith, nat_tests)) e in
    record {
      before = o ∷ p.before;
      object = p.object;
      behind = p.behind;
      objects_are = ap (λ ys. o ∷ ys) p.objects_are;
      fits_before = p.fits_before;
      passes = p.passes;
      at_is = p.at_is;
    }

found : (os : List StaticObject) (rooms : Rooms) (t : TokenAt) → rooms.end ≤ segment_limit → passing rooms os ≡ Some t → Passes rooms os t
found [] rooms t fits e = absurd (cc)
found (o ∷ os) rooms t fits e =
    found_by rooms o os t (nat_lt segment_limit (with_object rooms o).end) fits refl (found os (with_object rooms o) t) e

taken : (b : Bool) (x y : Option TokenAt) → b ≡ true → cond b x y ≡ x
taken true x y e = refl
taken false x y e = absurd (cc)

left_out : (b : Bool) (x y : Option TokenAt) → b ≡ false → cond b x y ≡ y
left_out false x y e = refl
left_out true x y e = absurd (cc)

is_above : (m n : ℕ) → m < n → nat_lt m n ≡ true
is_above m n h = grind (arith, nat_tests)

not_above : (m n : ℕ) → n ≤ m → nat_lt m n ≡ false
not_above m n h = grind (arith, nat_tests)

tells : (before : List StaticObject) (rooms : Rooms) (object : StaticObject) (behind : List StaticObject)
    → (fold with_object rooms before).end ≤ segment_limit
    → segment_limit < (with_object (fold with_object rooms before) object).end
    → passing rooms (before ++ object ∷ behind) ≡ Some object.at
tells [] rooms object behind fits passes =
    taken (nat_lt segment_limit (with_object rooms object).end) (Some object.at) (passing (with_object rooms object) behind)
    (is_above segment_limit (with_object rooms object).end passes)
tells (b ∷ bs) rooms object behind fits passes =
    left_out (nat_lt segment_limit (with_object rooms b).end) (Some b.at) (passing (with_object rooms b) (bs ++ object ∷ behind))
    (not_above segment_limit (with_object rooms b).end (omega (arith, fits, all_grow bs (with_object rooms b))))
    ∙ tells bs (with_object rooms b) object behind fits passes

start_fits : before_objects.end ≤ segment_limit
start_fits = omega arith

told : (program : Program) (t : TokenAt) → IsTooLarge program t → passing before_objects program.objects ≡ Some t
told program t h =
    ap (passing before_objects) h.objects_are
    ∙ tells h.before before_objects h.object h.behind h.fits_before h.passes ∙ ap Some (sym h.at_is)

first_by : (program : Program) (o : Option TokenAt) → passing before_objects program.objects ≡ o → IsFirst (IsTooLarge program) o
first_by program None is = λ t h. let e = told program t h in absurd (cc)
first_by program (Some at) is =
    let p = found program.objects before_objects at start_fits is in (
      record {
        before = p.before;
        object = p.object;
        behind = p.behind;
        objects_are = p.objects_are;
        fits_before = p.fits_before;
        passes = p.passes;
        at_is = p.at_is;
      },
      λ t h. let e : at ≡ t = (let f = told program t h in cc) in subst (λ u. IsNotBehind at u) e (not_behind_itself at),
    )

pub first_too_large : (program : Program) → IsFirst (IsTooLarge program) (passing before_objects program.objects)
first_too_large program = first_by program (passing before_objects program.objects) refl

fits_step : (rooms : Rooms) (o : StaticObject) (os : List StaticObject) (b : Bool) → nat_lt segment_limit (with_object rooms o).end ≡ b
    → ((with_object rooms o).end ≤ segment_limit → passing (with_object rooms o) os ≡ None → (fold with_object (with_object rooms o) os).end ≤ segment_limit)
    → cond b (Some o.at) (passing (with_object rooms o) os) ≡ None → (fold with_object (with_object rooms o) os).end ≤ segment_limit
fits_step rooms o os true is rest e = absurd (cc)
fits_step rooms o os false is rest e = rest (grind (arith, nat_tests)) e

fits_by : (os : List StaticObject) (rooms : Rooms) → rooms.end ≤ segment_limit → passing rooms os ≡ None
    → (fold with_object rooms os).end ≤ segment_limit
fits_by [] rooms fits e = fits
fits_by (o ∷ os) rooms fits e =
    fits_step rooms o os (nat_lt segment_limit (with_object rooms o).end) refl (fits_by os (with_object rooms o)) e

none_by : (program : Program) (o : Option TokenAt) → IsAccepted program → IsFirst (IsTooLarge program) o → o ≡ None
none_by program None accepted h = refl
none_by program (Some at) accepted h = absurd (accepted TooLarge at h.0)

-- The segment of a program that isn't refused fits.
pub fits : (program : Program) → IsAccepted program → (rooms_of program.objects).end ≤ segment_limit
fits program accepted =
    fits_by program.objects before_objects start_fits
    (none_by program (passing before_objects program.objects) accepted (first_too_large program))

-- The loop stands at that object, or behind the last one.
pub passed_here : (program : Program) (rooms : Rooms) (i : ℕ) (o : StaticObject) → i < length program.objects
    → o ≡ get_or program.objects i o → passing rooms (drop i program.objects) ≡ passing before_objects program.objects
    → segment_limit < (with_object rooms o).end → IsFirst (IsTooLarge program) (Some o.at)
passed_here program rooms i o lt is known passes =
    let dropped = drop-cons program.objects i o lt ∙ ap (λ y. y ∷ drop (suc i) program.objects) (sym is) in
    first_by program (Some o.at)
    (sym known ∙ ap (passing rooms) dropped
    ∙ taken (nat_lt segment_limit (with_object rooms o).end) (Some o.at) (passing (with_object rooms o) (drop (suc i) program.objects))
    (is_above segment_limit (with_object rooms o).end passes))

pub passed_nowhere : (program : Program) (rooms : Rooms) (i : ℕ) → length program.objects ≤ i
    → passing rooms (drop i program.objects) ≡ passing before_objects program.objects → IsFirst (IsTooLarge program) None
passed_nowhere program rooms i past known =
    first_by program None (sym known ∙ ap (passing rooms) (drop_all i program.objects past))
