-- Where the parts of a code stand.
use Rattle.std.proofs.Common.{◌≡◌, ℕ, zero, suc, ◌+◌, ◌<◌, Bool, true, List, [], ◌∷◌, ◌++◌, length, take, Some, add-one, refl, sym, ap, ◌∙◌, subst, arith, append_assoc, length-append}
use Rattle.std.specs.Prelude.{slice_get}
use Rattle.std.proofs.Math.Seq.{get_or-append_seam}
use Rattle.std.proofs.lemmas.Option.{slice_get-get_or}
use Rattle.vm_code.specs.declared.code.Code.{Code}
use Rattle.vm_code.specs.declared.instr.Instr.{Instr}
use Rattle.vm_code.specs.declared.instr.Instr.TheVariants as instr
use Rattle.vm_code.specs.declared.instr.Instr.TheVariants.{Push, Jump, JumpIfZero, Call, Tick}
use Rattle.vm_code.specs.Lines.{Place, told_by, told_behind as lines_behind, place_of}
use Rattle.c_model.specs.Outcome.{Here}
use Rattle.c_types.specs.declared.program.Function.{Function}
use Rattle.codegen.specs.Covered.{has_body}
use Rattle.codegen.specs.Layout.{Part, nothing, one, ◌then◌, over, negation, jump_where, word_of_truth, opposite, truths}
use Rattle.codegen.proofs.Running.{Told}

-- what is said of an instruction at a place
abbrev pub Saying : Type 1
Saying = ℕ → Instr → Type 0

-- it is said of each instruction of a list that stands at this place
abbrev pub HasAt : Saying → ℕ → List Instr → Type 0
HasAt says place [] = Unit {0}
HasAt says place (i ∷ is) = says place i × HasAt says (place + 1) is

-- it is said of a part from a place on, and another place is behind it
pub record Spans (says : Saying) (place : ℕ) (part : Part) (after : ℕ) : Type 0 where
  pub instrs : HasAt says place (part place)
  pub after_is : after ≡ place + length (part place)

-- the instruction stands in a list, or in the code
abbrev pub In : List Instr → Saying
In instrs place i = slice_get instrs place ≡ Some i

abbrev pub Stands : Code → Saying
Stands code = In code.instrs

-- it calls a function with a body, if it calls one, and tells no line
abbrev pub IsCalm : List Function → Instr → Type 0
IsCalm fs (Call function count) = has_body fs function ≡ true
IsCalm fs (Tick unit line) = ⊥
IsCalm fs _ = Unit {0}

-- it stands there, it is calm, and the line of its traps is this one
abbrev pub Lies : List Function → Code → Here → Saying
Lies fs code here place i = Stands code place i × Told code place here × IsCalm fs i

abbrev pub AreCalm : List Function → List Instr → Type 0
AreCalm fs [] = Unit {0}
AreCalm fs (i ∷ is) = IsCalm fs i × AreCalm fs is

module _ (says : Saying) where
  has_front : (place : ℕ) (a b : List Instr) → HasAt says place (a ++ b) → HasAt says place a
  has_front place [] b h = tt
  has_front place (i ∷ a) b h = (h.0, has_front (place + 1) a b h.1)

  has_back : (place : ℕ) (a b : List Instr) → HasAt says place (a ++ b) → HasAt says (place + length a) b
  has_back place [] b h = let e : place ≡ place + 0 = omega arith in subst (λ n. HasAt says n b) e h
  has_back place (i ∷ a) b h =
      let e : place + 1 + length a ≡ place + length (i ∷ a) = omega arith in
      subst (λ n. HasAt says n b) e (has_back (place + 1) a b h.1)

  pub spans_none : (place after : ℕ) → Spans says place nothing after → after ≡ place
  spans_none place after s = omega (arith, s.after_is)

  pub spans_one : (place after : ℕ) (i : Instr) → Spans says place (one i) after → says place i × (after ≡ place + 1)
  spans_one place after i s = (s.instrs.0, s.after_is)

  pub spans_then : (place after : ℕ) (a b : Part) → Spans says place (a then b) after
      → (middle : ℕ) × Spans says place a middle × Spans says middle b after × (middle ≡ place + length (a place))
  unfolding ◌then◌
  spans_then place after a b s =
      let ca = a place in
      let cb = b (place + length ca) in
      let first : Spans says place a (place + length ca) = record { instrs = has_front place ca cb s.instrs; after_is = refl } in
      let second : Spans says (place + length ca) b after = record {
        instrs = has_back place ca cb s.instrs;
        after_is = omega (arith, s.after_is, length-append ca cb);
      } in
      (place + length ca, first, second, refl)

  -- one instruction and a part
  pub spans_first : (place after : ℕ) (i : Instr) (b : Part) → Spans says place (one i then b) after → says place i × Spans says (place + 1) b after
  spans_first place after i b s =
      let parts = spans_then place after (one i) b s in
      (parts.1.instrs.0, subst (λ p. Spans says p b after) parts.3 parts.2)

  pub spans_over : (place after : ℕ) (jump : ℕ → Instr) (more : ℕ) (a : Part) → Spans says place (over jump more a) after
      → says place (jump (after + more)) × Spans says (place + 1) a after
  unfolding over
  spans_over place after jump more a s =
      let ca = a (place + 1) in
      let e : after ≡ place + 1 + length ca = omega (arith, s.after_is) in
      let inner : Spans says (place + 1) a after = record { instrs = s.instrs.1; after_is = e } in
      (subst (λ n. says place (jump (n + more))) (sym e) s.instrs.0, inner)

  -- the four instructions of a negation, and of the end of `&&` or `||`
  pub record AtFour (place after : ℕ) (a b c d : Instr) : Type 0 where
    pub first : says place a
    pub second : says (place + 1) b
    pub third : says (place + 2) c
    pub fourth : says (place + 3) d
    pub after_is : after ≡ place + 4

  at_four : (place after : ℕ) (a b c d : Instr) → HasAt says place (a ∷ b ∷ c ∷ d ∷ []) → after ≡ place + 4 → AtFour place after a b c d
  at_four place after a b c d h e =
      let two : place + 1 + 1 ≡ place + 2 = omega arith in
      let three : place + 1 + 1 + 1 ≡ place + 3 = omega arith in
      record {
        first = h.0;
        second = h.1.0;
        third = subst (λ p. says p c) two h.1.1.0;
        fourth = subst (λ p. says p d) three h.1.1.1.0;
        after_is = e;
      }

  pub spans_negation : (place after : ℕ) → Spans says place negation after
      → AtFour place after (JumpIfZero (place + 3)) (Push 0) (Jump (place + 4)) (Push 1)
  unfolding negation
  spans_negation place after s = at_four place after _ _ _ _ s.instrs s.after_is

  pub spans_truths : (place after : ℕ) (decisive : Bool) → Spans says place (truths decisive) after
      → AtFour place after (jump_where decisive (place + 3)) (Push (word_of_truth (opposite decisive))) (Jump (place + 4)) (Push (word_of_truth decisive))
  unfolding truths
  spans_truths place after decisive s = at_four place after _ _ _ _ s.instrs s.after_is

-- instructions that stand in a list
has_all : (is pre all : List Instr) → all ≡ pre ++ is → HasAt (In all) (length pre) is
has_all [] pre all e = tt
has_all (i ∷ is) pre all e =
    let within : length pre < length (pre ++ i ∷ is) = omega (arith, length-append pre (i ∷ is)) in
    let here = slice_get-get_or (pre ++ i ∷ is) (length pre) i within ∙ ap Some (get_or-append_seam pre i is i) in
    let n : length (pre ++ i ∷ []) ≡ length pre + 1 = omega (arith, length-append pre (i ∷ [])) in
    let rest = has_all is (pre ++ i ∷ []) all (e ∙ sym (append_assoc pre (i ∷ []) is)) in
    (ap (λ l. slice_get l (length pre)) e ∙ here, subst (λ m. HasAt (In all) m is) n rest)

-- the whole code
pub spans_all : (instrs : List Instr) (part : Part) → instrs ≡ part 0 → Spans (In instrs) 0 part (length instrs)
spans_all instrs part is = record {
  instrs = has_all (part 0) [] instrs is;
  after_is = let e : length (part 0) ≡ 0 + length (part 0) = omega arith in ap length is ∙ e;
}

-- the line behind an instruction is what it tells, or else as it was
next_line : (before : Place) (instrs : List Instr) (place : ℕ) (i : Instr) → slice_get instrs place ≡ Some i
    → lines_behind before (take (suc place) instrs) ≡ told_by (lines_behind before (take place instrs)) i
next_line before [] place i e = absurd (cc (e))
next_line before (j ∷ is) zero i e = ap (told_by before) (let same : j ≡ i = cc (e) in same)
next_line before (j ∷ is) (suc place) i e = next_line (told_by before j) is place i e

pub line_behind : (code : Code) (place : ℕ) (i : Instr) → slice_get code.instrs place ≡ Some i → place_of code (place + 1) ≡ told_by (place_of code place) i
unfolding place_of
line_behind code place i e =
    let start : Place = record { unit = code.unit; line = code.line } in
    ap (λ n. lines_behind start (take n code.instrs)) (add-one place) ∙ next_line start code.instrs place i e

-- a calm instruction leaves the line as it is
calm_tells : (fs : List Function) (before : Place) (i : Instr) → IsCalm fs i → told_by before i ≡ before
calm_tells fs before (instr.Push w) calm = refl
calm_tells fs before instr.Pop calm = refl
calm_tells fs before instr.Dup calm = refl
calm_tells fs before (instr.Local w) calm = refl
calm_tells fs before (instr.Global w) calm = refl
calm_tells fs before (instr.Load w) calm = refl
calm_tells fs before (instr.Store w) calm = refl
calm_tells fs before (instr.Copy w) calm = refl
calm_tells fs before (instr.Zero w) calm = refl
calm_tells fs before (instr.Binary o k) calm = refl
calm_tells fs before (instr.Unary o k) calm = refl
calm_tells fs before (instr.Extend k) calm = refl
calm_tells fs before (instr.Jump p) calm = refl
calm_tells fs before (instr.JumpIfZero p) calm = refl
calm_tells fs before (instr.JumpIfNot p) calm = refl
calm_tells fs before (instr.Tick u l) calm = absurd calm
calm_tells fs before (instr.Call f n) calm = refl
calm_tells fs before (instr.Library f n) calm = refl
calm_tells fs before (instr.Mpi f n second) calm = refl
calm_tells fs before instr.Return calm = refl

pub told_next : (fs : List Function) (code : Code) (place : ℕ) (i : Instr) (here : Here) → slice_get code.instrs place ≡ Some i → IsCalm fs i → Told code place here → Told code (place + 1) here
told_next fs code place i here is calm told = line_behind code place i is ∙ calm_tells fs (place_of code place) i calm ∙ told

has_lies : (fs : List Function) (code : Code) (here : Here) (place : ℕ) (is : List Instr) → HasAt (Stands code) place is → AreCalm fs is → Told code place here → HasAt (Lies fs code here) place is
has_lies fs code here place [] h calm told = tt
has_lies fs code here place (i ∷ is) h calm told =
    ((h.0, told, calm.0), has_lies fs code here (place + 1) is h.1 calm.1 (told_next fs code place i here h.0 calm.0 told))

pub told_behind : (fs : List Function) (code : Code) (here : Here) (place : ℕ) (is : List Instr) → HasAt (Stands code) place is → AreCalm fs is → Told code place here → Told code (place + length is) here
told_behind fs code here place [] h calm told = let e : place ≡ place + 0 = omega arith in subst (λ p. Told code p here) e told
told_behind fs code here place (i ∷ is) h calm told =
    let e : place + 1 + length is ≡ place + length (i ∷ is) = omega arith in
    subst (λ p. Told code p here) e (told_behind fs code here (place + 1) is h.1 calm.1 (told_next fs code place i here h.0 calm.0 told))

-- a calm part lies where it stands, behind a tick point of this line
pub lies : (fs : List Function) (code : Code) (here : Here) (place : ℕ) (part : Part) (after : ℕ) → AreCalm fs (part place) → Told code place here
    → Spans (Stands code) place part after → Spans (Lies fs code here) place part after
lies fs code here place part after calm told s = record {
  instrs = has_lies fs code here place (part place) s.instrs calm told;
  after_is = s.after_is;
}
