-- Which refusal is told.
use Rattle.std.proofs.Common.{ℕ, ◌≡◌, ◌≤◌, ◌⊎◌, inl, inr, Option, Some, None, Result, Ok, Err, IfOk, IfErr, List, [], refl, ap, sym, subst, ◌∙◌, arith, fold}
use Rattle.std.proofs.lemmas.Bool.{cases_lt}
use Rattle.rank_range.specs.declared.run.Segment.{Segment}
use Rattle.c_types.specs.declared.program.Program.{Program}
use Rattle.c_types.specs.declared.program.TokenAt.{TokenAt}
use Rattle.c_types.specs.declared.program.Main.{Main}
use Rattle.c_types.specs.declared.program.DefinedFunction.{DefinedFunction}
use Rattle.c_types.specs.declared.program.StaticObject.{StaticObject}
use Rattle.c_types.specs.Places.{IsBefore, IsNotBehind}
use Rattle.c_types.specs.Segment.{Refusal, TooLarge, Undefined, Twice, order_of, Refuses, IsRefused, IsAccepted, IsUndefinedUse, IsSecondFunction, IsSecondObject, SegmentOf, segment_bytes, segment_fixes, object_offsets, before_objects}
use Rattle.privatise.specs.declared.error.SegError.{SegError}
use Rattle.privatise.specs.declared.error.SegError.TheVariants as error
use Rattle.privatise.specs.First.{IsFirst, earlier, first_of}
use Rattle.privatise.specs.Answers.{HasAnswer, IsWhy, IsTold, error_of}
use Rattle.privatise.proofs.FirstLemmas.{first_sum, same}
use Rattle.privatise.proofs.UseLemmas.{undefined_tokens, first_undefined}
use Rattle.privatise.proofs.SecondLemmas.{seconds, first_second, first_function, first_object}
use Rattle.privatise.proofs.LargeLemmas.{first_too_large, passing}

-- The program is refused at the token, in whichever way.
abbrev pub AnyRefusal : Program → TokenAt → Type 0
AnyRefusal program t = (Refuses program TooLarge t ⊎ Refuses program Undefined t) ⊎ Refuses program Twice t

pub all_first : (program : Program) (large undefined twice : Option TokenAt) → IsFirst (Refuses program TooLarge) large
    → IsFirst (Refuses program Undefined) undefined → IsFirst (Refuses program Twice) twice
    → IsFirst (AnyRefusal program) (first_of (first_of large undefined) twice)
all_first program large undefined twice l u t =
    first_sum (λ s. Refuses program TooLarge s ⊎ Refuses program Undefined s) (Refuses program Twice) (first_of large undefined) twice
    (first_sum (Refuses program TooLarge) (Refuses program Undefined) large undefined l u) t

any : (program : Program) (why : Refusal) (t : TokenAt) → Refuses program why t → AnyRefusal program t
any program TooLarge t h = inl (inl h)
any program Undefined t h = inl (inr h)
any program Twice t h = inr h

same_token : (a b : TokenAt) → a.unit ≡ b.unit → a.token ≡ b.token → a ≡ b
same_token a b units tokens =
    let with_unit : ℕ → TokenAt = λ u. record { unit = u; token = a.token } in
    let with_token : ℕ → TokenAt = λ t. record { unit = b.unit; token = t } in
    ap with_unit units ∙ ap with_token tokens

before_or_at : (a b : TokenAt) → IsNotBehind a b → IsBefore a b ⊎ (a ≡ b)
before_or_at a b (inl h) = inl (inl h)
before_or_at a b (inr h) =
    elim (cases_lt a.token b.token) [
      | inl less ↦ inl (inr (h.0, less))
      | inr more ↦ let t : a.token ≡ b.token = (let x = h.1 in omega (arith, more, x)) in inr (same_token a b h.0 t)
    ]

-- The first refusal is the first one at its token.
first_is : (program : Program) (why : Refusal) (at : TokenAt) → IsFirst (AnyRefusal program) (Some at) → Refuses program why at
    → ((other : Refusal) → Refuses program other at → order_of why ≤ order_of other) → IsRefused program why at
first_is program why at all holds least = record {
  holds = holds;
  first = λ other there h. elim (before_or_at at there (all.1 there (any program other there h))) [
    | inl before ↦ inl before
    | inr e ↦ inr (e, least other (subst (Refuses program other) (sym e) h))
  ];
}

pub large_is : (program : Program) (at : TokenAt) → IsFirst (AnyRefusal program) (Some at)
    → IsFirst (Refuses program TooLarge) (Some at) → IsRefused program TooLarge at
large_is program at all h = first_is program TooLarge at all h.0 (λ other o. omega arith)

both : (a b : TokenAt) → IsBefore a b → IsBefore b a → ⊥
both a b (inl less) (inl more) = omega (arith, less, more)
both a b (inl less) (inr more) = let e = more.0 in omega (arith, less, e)
both a b (inr less) (inl more) = let e = less.0 in omega (arith, e, more)
both a b (inr less) (inr more) = let x = less.1 in let y = more.1 in omega (arith, x, y)

-- a refusal that isn't told for the first token isn't there
not_there : (program : Program) (why : Refusal) (at : TokenAt) (first : Option TokenAt) → IsFirst (AnyRefusal program) (Some at)
    → IsFirst (Refuses program why) first → (first ≡ Some at → ⊥) → Refuses program why at → ⊥
not_there program why at None all h ne r = h at r
not_there program why at (Some x) all h ne r =
    elim (before_or_at x at (h.1 at r)) [
      | inl less ↦ elim (before_or_at at x (all.1 x (any program why x h.0))) [
        | inl more ↦ both x at less more
        | inr e ↦ ne (ap Some (sym e))
      ]
      | inr e ↦ ne (ap Some e)
    ]

at_undefined : (program : Program) (at : TokenAt) → (Refuses program TooLarge at → ⊥) → (other : Refusal) → Refuses program other at
    → order_of Undefined ≤ order_of other
at_undefined program at none TooLarge h = absurd (none h)
at_undefined program at none Undefined h = omega arith
at_undefined program at none Twice h = omega arith

at_twice : (program : Program) (at : TokenAt) → (Refuses program TooLarge at → ⊥) → (Refuses program Undefined at → ⊥)
    → (other : Refusal) → Refuses program other at → order_of Twice ≤ order_of other
at_twice program at none nor TooLarge h = absurd (none h)
at_twice program at none nor Undefined h = absurd (nor h)
at_twice program at none nor Twice h = omega arith

pub undefined_is : (program : Program) (at : TokenAt) (large : Option TokenAt) → IsFirst (AnyRefusal program) (Some at)
    → IsFirst (Refuses program TooLarge) large → (large ≡ Some at → ⊥) → IsFirst (Refuses program Undefined) (Some at)
    → IsRefused program Undefined at
undefined_is program at large all l ne h =
    first_is program Undefined at all h.0 (at_undefined program at (not_there program TooLarge at large all l ne))

only_twice : (program : Program) (at : TokenAt) → (Refuses program TooLarge at → ⊥) → (Refuses program Undefined at → ⊥)
    → AnyRefusal program at → Refuses program Twice at
only_twice program at none nor (inl (inl h)) = absurd (none h)
only_twice program at none nor (inl (inr h)) = absurd (nor h)
only_twice program at none nor (inr h) = h

pub twice_is : (program : Program) (at : TokenAt) (large undefined : Option TokenAt) → IsFirst (AnyRefusal program) (Some at)
    → IsFirst (Refuses program TooLarge) large → (large ≡ Some at → ⊥)
    → IsFirst (Refuses program Undefined) undefined → (undefined ≡ Some at → ⊥) → IsRefused program Twice at
twice_is program at large undefined all l ne u nu =
    let none = not_there program TooLarge at large all l ne in
    let nor = not_there program Undefined at undefined all u nu in
    first_is program Twice at all (only_twice program at none nor all.0) (at_twice program at none nor)

pub accepted : (program : Program) → IsFirst (AnyRefusal program) None → IsAccepted program
accepted program h = λ why at r. h at (any program why at r)

pub first_told : (program : Program) (large undefined twice : Option TokenAt) (at : TokenAt)
    → first_of (first_of large undefined) twice ≡ Some at → IsFirst (Refuses program TooLarge) large
    → IsFirst (Refuses program Undefined) undefined → IsFirst (Refuses program Twice) twice → IsFirst (AnyRefusal program) (Some at)
first_told program large undefined twice at e l u t =
    subst (IsFirst (AnyRefusal program)) e (all_first program large undefined twice l u t)

-- Each program has an answer.
decided : (program : Program) (why : Refusal) (at : TokenAt) (first : Option TokenAt) → IsFirst (AnyRefusal program) (Some at)
    → IsFirst (Refuses program why) first → Refuses program why at ⊎ (Refuses program why at → ⊥)
decided program why at None all h = inr (λ r. h at r)
decided program why at (Some x) all h =
    elim (before_or_at at x (all.1 x (any program why x h.0))) [
      | inl less ↦ inr (λ r. elim (before_or_at x at (h.1 at r)) [
        | inl more ↦ both at x less more
        | inr e ↦ both at x less (subst (λ y. IsBefore y at) (sym e) (subst (λ y. IsBefore at y) e less))
      ])
      | inr e ↦ inl (subst (Refuses program why) (sym e) h.0)
    ]

third : (program : Program) (at : TokenAt) → IsFirst (AnyRefusal program) (Some at) → (Refuses program TooLarge at → ⊥)
    → Refuses program Undefined at ⊎ (Refuses program Undefined at → ⊥) → HasAnswer program
third program at all none (inl h) = inr (Undefined, (at, first_is program Undefined at all h (at_undefined program at none)))
third program at all none (inr nor) =
    inr (Twice, (at, first_is program Twice at all (only_twice program at none nor all.0) (at_twice program at none nor)))

second : (program : Program) (at : TokenAt) → IsFirst (AnyRefusal program) (Some at)
    → Refuses program TooLarge at ⊎ (Refuses program TooLarge at → ⊥)
    → Refuses program Undefined at ⊎ (Refuses program Undefined at → ⊥) → HasAnswer program
second program at all (inl h) u = inr (TooLarge, (at, first_is program TooLarge at all h (λ other o. omega arith)))
second program at all (inr none) u = third program at all none u

answer_by : (program : Program) (large undefined twice first : Option TokenAt) → first_of (first_of large undefined) twice ≡ first
    → IsFirst (Refuses program TooLarge) large → IsFirst (Refuses program Undefined) undefined
    → IsFirst (Refuses program Twice) twice → HasAnswer program
answer_by program large undefined twice None e l u t =
    let segment : Segment = record {
      bytes = segment_bytes program.objects;
      fixes = segment_fixes program.objects;
      objects = object_offsets program.objects;
    } in
    inl (
      segment,
      record {
        accepted = accepted program (subst (IsFirst (AnyRefusal program)) e (all_first program large undefined twice l u t));
        bytes_are = refl;
        fixes_are = refl;
        objects_are = refl;
      },
    )
answer_by program large undefined twice (Some at) e l u t =
    let all = first_told program large undefined twice at e l u t in
    second program at all (decided program TooLarge at large all l) (decided program Undefined at undefined all u)

zero_first : (t : TokenAt) → IsNotBehind (record { unit = 0; token = 0 }) t
zero_first t =
    elim (cases_lt 0 t.unit) [
      | inl less ↦ inl less
      | inr more ↦ inr (omega (arith, more), omega arith)
    ]

missing : (program : Program) (main : Option Main) → program.main ≡ main
    → (undefined : Option TokenAt) × IsFirst (Refuses program Undefined) undefined
missing program None is = (Some (record { unit = 0; token = 0 }), (inr (is, refl), λ t h. zero_first t))
missing program (Some main) is =
    let first = fold earlier None (undefined_tokens program program.uses) in (
      first,
      same (IsUndefinedUse program) (Refuses program Undefined) first (λ t h. inl h)
          (λ t h. elim h [ inl used ↦ used | inr none ↦ let gone = none.0 in absurd (cc) ]) (first_undefined program),
    )

pub has_answer : (program : Program) → HasAnswer program
has_answer program =
    let functions = fold earlier None (seconds (λ (x : DefinedFunction). x.function) (λ (x : DefinedFunction). x.at) [] program.defined) in
    let objects = fold earlier None (seconds (λ (x : StaticObject). x.object) (λ (x : StaticObject). x.at) [] program.objects) in
    let undefined = missing program program.main refl in
    answer_by program (passing before_objects program.objects) undefined.0 (first_of functions objects)
    (first_of (first_of (passing before_objects program.objects) undefined.0) (first_of functions objects)) refl
    (first_too_large program) undefined.1
    (first_sum (IsSecondFunction program) (IsSecondObject program) functions objects
    (first_function program functions (first_second (λ (x : DefinedFunction). x.function) (λ (x : DefinedFunction). x.at) program.defined))
    (first_object program objects (first_second (λ (x : StaticObject). x.object) (λ (x : StaticObject). x.at) program.objects)))

-- What an exact answer leaves open.
not_itself : (a b : TokenAt) → b ≡ a → IsBefore a b → ⊥
not_itself a b e (inl less) = let u = ap (λ (t : TokenAt). t.unit) e in omega (arith, u, less)
not_itself a b e (inr less) = let u = ap (λ (t : TokenAt). t.token) e in let x = less.1 in omega (arith, u, x)

same_order : (why other : Refusal) → order_of why ≤ order_of other → order_of other ≤ order_of why → why ≡ other
same_order TooLarge TooLarge le ge = refl
same_order TooLarge Undefined le ge = absurd (omega (arith, ge))
same_order TooLarge Twice le ge = absurd (omega (arith, ge))
same_order Undefined TooLarge le ge = absurd (omega (arith, le))
same_order Undefined Undefined le ge = refl
same_order Undefined Twice le ge = absurd (omega (arith, ge))
same_order Twice TooLarge le ge = absurd (omega (arith, le))
same_order Twice Undefined le ge = absurd (omega (arith, le))
same_order Twice Twice le ge = refl

agree : (why other : Refusal) (at there : TokenAt) → IsBefore at there ⊎ ((at ≡ there) × (order_of why ≤ order_of other))
    → IsBefore there at ⊎ ((there ≡ at) × (order_of other ≤ order_of why)) → error_of why at ≡ error_of other there
agree why other at there (inl a) (inl b) = absurd (both at there a b)
agree why other at there (inl a) (inr b) = absurd (not_itself at there b.0 a)
agree why other at there (inr a) (inl b) = absurd (not_itself there at a.0 b)
agree why other at there (inr a) (inr b) =
    ap (λ w. error_of w at) (same_order why other a.1 b.1) ∙ ap (error_of other) a.0

one : (program : Program) (why other : Refusal) (at there : TokenAt) → IsRefused program why at → IsRefused program other there
    → error_of why at ≡ error_of other there
one program why other at there a b = agree why other at there (a.first other there b.holds) (b.first why at a.holds)

same_segment : (a b : Segment) → a.bytes ≡ b.bytes → a.fixes ≡ b.fixes → a.objects ≡ b.objects → a ≡ b
same_segment a b bytes fixes objects =
    let with_bytes : List ℕ → Segment = λ x. record { bytes = x; fixes = a.fixes; objects = a.objects } in
    let with_fixes : List ℕ → Segment = λ x. record { bytes = b.bytes; fixes = x; objects = a.objects } in
    let with_objects : List ℕ → Segment = λ x. record { bytes = b.bytes; fixes = b.fixes; objects = x } in
    ap with_bytes bytes ∙ ap with_fixes fixes ∙ ap with_objects objects

one_segment : (program : Program) (a b : Segment) → SegmentOf program a → SegmentOf program b → a ≡ b
one_segment program a b x y =
    same_segment a b (x.bytes_are ∙ sym y.bytes_are) (x.fixes_are ∙ sym y.fixes_are) (x.objects_are ∙ sym y.objects_are)

clash : (program : Program) (why : Refusal) (at : TokenAt) (segment : Segment) → IsRefused program why at → SegmentOf program segment → ⊥
clash program why at segment refused is = is.accepted why at refused.holds

pub error_told : (program : Program) (e : SegError) → IsWhy program e → IsTold program (Err e)
error_told program (error.TooLarge unit token) h = record {
  segment = λ s is. absurd (clash program TooLarge (record { unit = unit; token = token }) s h is);
  refused = λ why at r. inl (ap Err (one program TooLarge why (record { unit = unit; token = token }) at h r));
}
error_told program (error.Undefined unit token) h = record {
  segment = λ s is. absurd (clash program Undefined (record { unit = unit; token = token }) s h is);
  refused = λ why at r. inl (ap Err (one program Undefined why (record { unit = unit; token = token }) at h r));
}
error_told program (error.Twice unit token) h = record {
  segment = λ s is. absurd (clash program Twice (record { unit = unit; token = token }) s h is);
  refused = λ why at r. inl (ap Err (one program Twice why (record { unit = unit; token = token }) at h r));
}
error_told program error.Memory h = record { segment = λ s is. inr refl; refused = λ why at r. inr refl }

pub segment_told : (program : Program) (segment : Segment) → SegmentOf program segment → IsTold program (Ok segment)
segment_told program segment h = record {
  segment = λ s is. inl (ap Ok (one_segment program segment s h is));
  refused = λ why at r. absurd (clash program why at segment r h);
}

pub told : (program : Program) (answer : Result Segment SegError) → IfOk answer (SegmentOf program) → IfErr answer (IsWhy program)
    → IsTold program answer
told program (Ok segment) ok err = segment_told program segment ok
told program (Err e) ok err = error_told program e err
