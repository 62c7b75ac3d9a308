-- Second definitions, of functions and of objects alike: `number` tells a definition's number, and `at` its token.
use Rattle.std.proofs.Common.{ℕ, ◌≡◌, ◌+◌, ◌==◌, ◌<◌, ◌≤◌, ◌||◌, inl, inr, Bool, true, false, cond, Option, None, List, [], ◌∷◌, ◌++◌, length, get_or, take, drop, refl, ap, sym, subst, ◌∙◌, fold, append_assoc, append-nil, add-one, suc}
use Rattle.std.proofs.Math.Seq.{take-suc, drop-cons}
use Rattle.std.proofs.lemmas.List.{drop_all, take_all}
use Rattle.std.proofs.lemmas.List.Folds.{list_any_more}
use Rattle.std.specs.List.{list_any}
use Rattle.c_types.specs.declared.program.Program.{Program}
use Rattle.c_types.specs.declared.program.DefinedFunction.{DefinedFunction}
use Rattle.c_types.specs.declared.program.StaticObject.{StaticObject}
use Rattle.c_types.specs.declared.program.TokenAt.{TokenAt}
use Rattle.c_types.specs.Segment.{IsSecondFunction, IsSecondObject}
use Rattle.privatise.specs.declared.definitions.Definitions.{Definitions}
use Rattle.privatise.specs.First.{IsFirst, earlier}
use Rattle.privatise.specs.Defined.{is_marked, KnowsFunctions, KnowsObjects}
use Rattle.privatise.proofs.FirstLemmas.{IsAmong, first_among, same}

-- whether a definition has the number
abbrev pub is_among : {A : Type 0} → (A → ℕ) → List A → ℕ → Bool
is_among number xs n = list_any (λ x. number x == n) xs

-- the tokens of the definitions in `rest` whose numbers are defined before, there or in `before`
abbrev pub seconds : {A : Type 0} → (A → ℕ) → (A → TokenAt) → List A → List A → List TokenAt
seconds number at before [] = []
seconds number at before (x ∷ xs) =
    cond (is_among number before (number x)) (at x ∷ seconds number at (before ++ x ∷ []) xs) (seconds number at (before ++ x ∷ []) xs)

pub record IsSecond {A : Type 0} (number : A → ℕ) (at : A → TokenAt) (before rest : List A) (t : TokenAt) : Type 0 where
  pub passed : List A
  pub second : A
  pub behind : List A
  pub rest_is : rest ≡ passed ++ second ∷ behind
  pub is_second : is_among number (before ++ passed) (number second) ≡ true
  pub at_is : t ≡ at second

passes : {A : Type 0} (number : A → ℕ) (at : A → TokenAt) (before : List A) (x : A) (xs : List A) (t : TokenAt)
    → IsSecond number at (before ++ x ∷ []) xs t → IsSecond number at before (x ∷ xs) t
passes number at before x xs t h = record {
  passed = x ∷ h.passed;
  second = h.second;
  behind = h.behind;
  rest_is = ap (λ ys. x ∷ ys) h.rest_is;
  is_second = ap (λ ys. is_among number ys (number h.second)) (sym (append_assoc before (x ∷ []) h.passed)) ∙ h.is_second;
  at_is = h.at_is;
}

told_by : {A : Type 0} (number : A → ℕ) (at : A → TokenAt) (before : List A) (x : A) (xs : List A) (t : TokenAt) (b : Bool)
    → is_among number before (number x) ≡ b
    → (IsAmong (seconds number at (before ++ x ∷ []) xs) t → IsSecond number at (before ++ x ∷ []) xs t)
    → IsAmong (cond b (at x ∷ seconds number at (before ++ x ∷ []) xs) (seconds number at (before ++ x ∷ []) xs)) t
    → IsSecond number at before (x ∷ xs) t
told_by number at before x xs t true is rest (inl e) = record {
  passed = [];
  second = x;
  behind = xs;
  rest_is = refl;
  is_second = ap (λ ys. is_among number ys (number x)) (append-nil before) ∙ is;
  at_is = e;
}
told_by number at before x xs t true is rest (inr h) = passes number at before x xs t (rest h)
told_by number at before x xs t false is rest h = passes number at before x xs t (rest h)

told : {A : Type 0} (number : A → ℕ) (at : A → TokenAt) (before rest : List A) (t : TokenAt)
    → IsAmong (seconds number at before rest) t → IsSecond number at before rest t
told number at before [] t h = absurd h
told number at before (x ∷ xs) t h =
    told_by number at before x xs t (is_among number before (number x)) refl (told number at (before ++ x ∷ []) xs t) h

here : (b : Bool) (t : TokenAt) (ts : List TokenAt) → b ≡ true → IsAmong (cond b (t ∷ ts) ts) t
here true t ts e = inl refl
here false t ts e = absurd (cc)

further : (b : Bool) (s t : TokenAt) (ts : List TokenAt) → IsAmong ts t → IsAmong (cond b (s ∷ ts) ts) t
further true s t ts h = inr h
further false s t ts h = h

among : {A : Type 0} (number : A → ℕ) (at : A → TokenAt) (before passed : List A) (second : A) (behind : List A)
    → is_among number (before ++ passed) (number second) ≡ true
    → IsAmong (seconds number at before (passed ++ second ∷ behind)) (at second)
among number at before [] second behind is =
    here (is_among number before (number second)) (at second) (seconds number at (before ++ second ∷ []) behind)
    (ap (λ ys. is_among number ys (number second)) (sym (append-nil before)) ∙ is)
among number at before (p ∷ ps) second behind is =
    further (is_among number before (number p)) (at p) (at second) (seconds number at (before ++ p ∷ []) (ps ++ second ∷ behind))
    (among number at (before ++ p ∷ []) ps second behind
    (ap (λ ys. is_among number ys (number second)) (append_assoc before (p ∷ []) ps) ∙ is))

-- the first token of a second definition
pub first_second : {A : Type 0} (number : A → ℕ) (at : A → TokenAt) (xs : List A)
    → IsFirst (IsSecond number at [] xs) (fold earlier None (seconds number at [] xs))
first_second number at xs =
    first_among (IsSecond number at [] xs) (seconds number at [] xs) (told number at [] xs)
    (λ t h. subst (IsAmong (seconds number at [] xs)) (sym h.at_is)
    (subst (λ ys. IsAmong (seconds number at [] ys) (at h.second)) (sym h.rest_is)
    (among number at [] h.passed h.second h.behind h.is_second)))

-- What is known behind the first i definitions.
pub record SoFar {A : Type 0} (number : A → ℕ) (at : A → TokenAt) (xs : List A) (i : ℕ) (d : Definitions) : Type 0 where
  pub marks : (n : ℕ) → is_marked d n ≡ is_among number (take i xs) n
  pub rest : fold earlier d.second (seconds number at (take i xs) (drop i xs)) ≡ fold earlier None (seconds number at [] xs)

pub begun : {A : Type 0} (number : A → ℕ) (at : A → TokenAt) (xs : List A) (d : Definitions)
    → ((n : ℕ) → is_marked d n ≡ false) → d.second ≡ None → SoFar number at xs 0 d
begun number at xs d marks second = record {
  marks = marks;
  rest = ap (λ (s : Option TokenAt). fold earlier s (seconds number at [] xs)) second;
}

folded : (c : Bool) (first : Option TokenAt) (t : TokenAt) (ts : List TokenAt)
    → fold earlier (cond c (earlier first t) first) ts ≡ fold earlier first (cond c (t ∷ ts) ts)
folded true first t ts = refl
folded false first t ts = refl

step : {A : Type 0} (number : A → ℕ) (at : A → TokenAt) (before after rest old : List A) (x : A) (c : Bool) (first second : Option TokenAt)
    → c ≡ is_among number before (number x) → second ≡ cond c (earlier first (at x)) first → after ≡ before ++ x ∷ []
    → old ≡ x ∷ rest → fold earlier second (seconds number at after rest) ≡ fold earlier first (seconds number at before old)
step number at before after rest old x c first second is chosen taken dropped =
    let ts = seconds number at (before ++ x ∷ []) rest in
    ap (λ s. fold earlier s (seconds number at after rest)) chosen
    ∙ ap (λ ys. fold earlier (cond c (earlier first (at x)) first) (seconds number at ys rest)) taken
    ∙ folded c first (at x) ts
    ∙ ap (λ b. fold earlier first (cond b (at x ∷ ts) ts)) is
    ∙ ap (λ ys. fold earlier first (seconds number at before ys)) (sym dropped)

pub more : {A : Type 0} (number : A → ℕ) (at : A → TokenAt) (xs : List A) (i : ℕ) (x none : A) (d e : Definitions)
    → i < length xs → x ≡ get_or xs i none → SoFar number at xs i d
    → ((n : ℕ) → is_marked e n ≡ (is_marked d n || number x == n))
    → e.second ≡ cond (is_marked d (number x)) (earlier d.second (at x)) d.second → SoFar number at xs (i + 1) e
more number at xs i x none d e lt is known marks second = record {
  marks = λ n. marks n
      ∙ ap (λ b. b || number x == n) (known.marks n)
      ∙ ap (λ y. is_among number (take i xs) n || number y == n) is
      ∙ sym (list_any_more (λ y. number y == n) xs i none lt);
  rest = step number at (take i xs) (take (i + 1) xs) (drop (i + 1) xs) (drop i xs) x (is_marked d (number x)) d.second e.second
      (known.marks (number x)) second
      (rw add-one (take-suc xs i none lt ∙ ap (λ y. take i xs ++ y ∷ []) (sym is)))
      (rw add-one (drop-cons xs i none lt ∙ ap (λ y. y ∷ drop (suc i) xs) (sym is)))
      ∙ known.rest;
}

all_marks : {A : Type 0} (number : A → ℕ) (at : A → TokenAt) (xs : List A) (i : ℕ) (d : Definitions) → length xs ≤ i
    → SoFar number at xs i d → (n : ℕ) → is_marked d n ≡ is_among number xs n
all_marks number at xs i d past known n = known.marks n ∙ ap (λ ys. is_among number ys n) (take_all i xs past)

all_seconds : {A : Type 0} (number : A → ℕ) (at : A → TokenAt) (xs : List A) (i : ℕ) (d : Definitions) → length xs ≤ i
    → SoFar number at xs i d → IsFirst (IsSecond number at [] xs) d.second
all_seconds number at xs i d past known =
    subst (IsFirst (IsSecond number at [] xs))
    (sym known.rest ∙ ap (λ ys. fold earlier d.second (seconds number at (take i xs) ys)) (drop_all i xs past))
    (first_second number at xs)

-- the same of functions and of objects
abbrev pub FunctionsSoFar : List DefinedFunction → ℕ → Definitions → Type 0
FunctionsSoFar xs i d = SoFar (λ (x : DefinedFunction). x.function) (λ (x : DefinedFunction). x.at) xs i d

abbrev pub ObjectsSoFar : List StaticObject → ℕ → Definitions → Type 0
ObjectsSoFar xs i d = SoFar (λ (x : StaticObject). x.object) (λ (x : StaticObject). x.at) xs i d

pub first_function : (program : Program) (second : Option TokenAt)
    → IsFirst (IsSecond (λ (x : DefinedFunction). x.function) (λ (x : DefinedFunction). x.at) [] program.defined) second
    → IsFirst (IsSecondFunction program) second
first_function program second h =
    same (IsSecond (λ (x : DefinedFunction). x.function) (λ (x : DefinedFunction). x.at) [] program.defined) (IsSecondFunction program) second
    (λ t s. record { before = s.passed; second = s.second; behind = s.behind; defined_are = s.rest_is; is_second = s.is_second; at_is = s.at_is })
    (λ t s. record { passed = s.before; second = s.second; behind = s.behind; rest_is = s.defined_are; is_second = s.is_second; at_is = s.at_is })
    h

pub first_object : (program : Program) (second : Option TokenAt)
    → IsFirst (IsSecond (λ (x : StaticObject). x.object) (λ (x : StaticObject). x.at) [] program.objects) second
    → IsFirst (IsSecondObject program) second
first_object program second h =
    same (IsSecond (λ (x : StaticObject). x.object) (λ (x : StaticObject). x.at) [] program.objects) (IsSecondObject program) second
    (λ t s. record { before = s.passed; second = s.second; behind = s.behind; objects_are = s.rest_is; is_second = s.is_second; at_is = s.at_is })
    (λ t s. record { passed = s.before; second = s.second; behind = s.behind; rest_is = s.objects_are; is_second = s.is_second; at_is = s.at_is })
    h

pub knows_functions : (program : Program) (i : ℕ) (d : Definitions) → length program.defined ≤ i
    → FunctionsSoFar program.defined i d → KnowsFunctions program d
knows_functions program i d past known = record {
  marks_are = all_marks (λ (x : DefinedFunction). x.function) (λ (x : DefinedFunction). x.at) program.defined i d past known;
  second_is = first_function program d.second
      (all_seconds (λ (x : DefinedFunction). x.function) (λ (x : DefinedFunction). x.at) program.defined i d past known);
}

pub knows_objects : (program : Program) (i : ℕ) (d : Definitions) → length program.objects ≤ i
    → ObjectsSoFar program.objects i d → KnowsObjects program d
knows_objects program i d past known = record {
  marks_are = all_marks (λ (x : StaticObject). x.object) (λ (x : StaticObject). x.at) program.objects i d past known;
  second_is = first_object program d.second
      (all_seconds (λ (x : StaticObject). x.object) (λ (x : StaticObject). x.at) program.objects i d past known);
}
