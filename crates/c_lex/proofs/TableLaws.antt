-- A name is looked up among those of a table.
use Rattle.std.proofs.Common.{◌≡◌, ℕ, suc, ◌<◌, ◌⊎◌, ◌||◌, Bool, true, false, List, [], ◌∷◌, ◌++◌, length, map, get_or, position, is_some, slice_get, IsTrue, ◌↔◌, Vec, Global, Option, Some, None, refl, sym, ap, subst, ◌∙◌, arith, inl, inr, append_assoc, zero}
use Rattle.std.specs.Prelude.{IfSome, IfNone, reverse, if◌then◌else◌}
use Rattle.std.specs.List.{list_any}
use Rattle.std.specs.Str.{bytes_eq}
use Rattle.std.specs.Bool.{Decides}
use Rattle.std.proofs.lemmas.Slice.Eq.{bytes_eq-Decides}
use Rattle.std.proofs.lemmas.List.Quantifiers.{position-Some}
use Rattle.std.specs.List.{AllByRecursion}
use Rattle.std.proofs.lemmas.List.{get_or-map, length-map, reverse-append, reverse-reverse, length-reverse, map-append}
use Rattle.std.proofs.lemmas.Grind.{reverse_onto}
use Rattle.std.proofs.lemmas.Bool.{eqb-true, eq-eqb}
use Rattle.c_lex.specs.declared.lexeme.Lexeme.{Lexeme}
use Rattle.c_lex.specs.Lexemes.{name_token}
use Rattle.c_lex.specs.Faults.{IsDefined}
use Rattle.c_lex.specs.declared.expand.Frame.{Frame}
use Rattle.c_lex.specs.declared.expand.Mark.{Mark}
use Rattle.c_lex.specs.declared.table.Table.{Table as ATable}
use Rattle.c_lex.specs.Pieces.{Macro}
use Rattle.c_lex.specs.Tokens.{HasMacro, Replaces}
use Rattle.c_lex.specs.Expanding.{is_name_token}
use Rattle.c_lex.specs.Table.{names_in, bodies_in, name_in, macro_in, macros_in, paired, IsTable}
use Rattle.c_lex.specs.Frames.{place_at, hidden_in, hidden_of, ArePlaced, has_number, is_begun}
use Rattle.c_lex.proofs.MacroLaws.{is_named, Has, has_first, has_later, has_none, has_split}

-- the test is passed by what has this text
abbrev pub Tells : {X : Type 0} → (X → Bool) → (X → List ℕ) → List ℕ → Type 0
Tells {X} test text word = (x : X) → Decides (test x) (word ≡ text x)

pub number_found : {X : Type 0} (test : X → Bool) (text : X → List ℕ) (xs : List X) (i : ℕ) (l : Lexeme) → Tells test text l.text
    → is_name_token l ≡ true → position test xs ≡ Some i
    → (i < length (map text xs)) × (l ≡ name_token (get_or (map text xs) i []))
number_found test text [] i l tells named e = absurd cc
number_found test text (x ∷ xs) i l tells named e =
    let r = position-Some test (x ∷ xs) i x e in
    let within : i < length (map text (x ∷ xs)) = omega (arith, length-map (x ∷ xs) text, r.0) in
    (within, is_named l (get_or (map text (x ∷ xs)) i []) named ((tells (get_or (x ∷ xs) i x)).0 r.1 ∙ sym (get_or-map text (x ∷ xs) i x [] r.0)))

no_clash : false ≡ true → ⊥
no_clash e = cc

pub any_defined : {X : Type 0} (test : X → Bool) (text : X → List ℕ) (word : List ℕ) (xs : List X) → Tells test text word
    → list_any test xs ≡ true → IsDefined (map text xs) word
any_defined test text word [] tells e = absurd (no_clash e)
any_defined {X} test text word (x ∷ xs) tells e = by (λ f. any_defined test text word xs tells f) (test x) refl e
  where
    by : (list_any test xs ≡ true → IsDefined (map text xs) word) → (b : Bool) → test x ≡ b → b || list_any test xs ≡ true
        → IsDefined (map text (x ∷ xs)) word
    by more true t f =
        let P : List ℕ → Type 0 = λ w. IsDefined (map text (x ∷ xs)) w in
        subst P (sym ((tells x).0 t)) (has_first (text x) (map text xs))
    by more false t f = has_later (text x) word (map text xs) (more f)

pub defined_any : {X : Type 0} (test : X → Bool) (text : X → List ℕ) (word : List ℕ) (xs : List X) → Tells test text word
    → IsDefined (map text xs) word → list_any test xs ≡ true
defined_any test text word [] tells h = absurd (has_none word h)
defined_any {X} test text word (x ∷ xs) tells h =
    by (λ f. defined_any test text word xs tells f) (test x) refl (has_split (text x) word (map text xs) h)
  where
    by : (IsDefined (map text xs) word → list_any test xs ≡ true) → (b : Bool) → test x ≡ b
        → (text x ≡ word) ⊎ IsDefined (map text xs) word → b || list_any test xs ≡ true
    by more true t s = refl
    by more false t (inl e) = absurd (no_clash (sym t ∙ (tells x).1 (sym e)))
    by more false t (inr later) = more later

some_number : {X : Type 0} (test : X → Bool) (text : X → List ℕ) (xs : List X) (l : Lexeme) (r : Option ℕ) → Tells test text l.text
    → is_name_token l ≡ true → r ≡ position test xs
    → IfSome r (λ i. (i < length (map text xs)) × (l ≡ name_token (get_or (map text xs) i [])))
some_number test text xs l None tells named e = tt
some_number test text xs l (Some i) tells named e = number_found test text xs i l tells named (sym e)

none_number : {X : Type 0} (test : X → Bool) (text : X → List ℕ) (xs : List X) (l : Lexeme) (r : Option ℕ) → Tells test text l.text
    → is_some r ≡ list_any test xs
    → IfNone r ((word : List ℕ) → l ≡ name_token word → IsDefined (map text xs) word → ⊥)
none_number test text xs l None tells e = λ word is d.
    let P : List ℕ → Type 0 = λ w. IsDefined (map text xs) w in
    no_clash (e ∙ defined_any test text l.text xs tells (subst P (ap (λ (x : Lexeme). x.text) (sym is)) d))
none_number test text xs l (Some i) tells e = tt

-- of vectors of bytes
abbrev tells_vec : (word : List ℕ) (keys : List (Vec ℕ Global)) → Tells (λ (k : Vec ℕ Global). bytes_eq word k.items) (λ (k : Vec ℕ Global). k.items) word
tells_vec word keys = λ k. bytes_eq-Decides word k.items

pub some_of_vecs : (keys : List (Vec ℕ Global)) (l : Lexeme) (r : Option ℕ) → is_name_token l ≡ true
    → r ≡ position (λ (k : Vec ℕ Global). bytes_eq l.text k.items) keys
    → IfSome r (λ i. (i < length (map (λ (k : Vec ℕ Global). k.items) keys)) × (l ≡ name_token (get_or (map (λ (k : Vec ℕ Global). k.items) keys) i [])))
some_of_vecs keys l r named e =
    some_number (λ (k : Vec ℕ Global). bytes_eq l.text k.items) (λ (k : Vec ℕ Global). k.items) keys l r (tells_vec l.text keys) named e

pub none_of_vecs : (keys : List (Vec ℕ Global)) (l : Lexeme) (r : Option ℕ)
    → is_some r ≡ list_any (λ (k : Vec ℕ Global). bytes_eq l.text k.items) keys
    → IfNone r ((word : List ℕ) → l ≡ name_token word → IsDefined (map (λ (k : Vec ℕ Global). k.items) keys) word → ⊥)
none_of_vecs keys l r e =
    none_number (λ (k : Vec ℕ Global). bytes_eq l.text k.items) (λ (k : Vec ℕ Global). k.items) keys l r (tells_vec l.text keys) e

pub defined_of_vecs : (keys : List (Vec ℕ Global)) (word : List ℕ) (r : Bool)
    → r ≡ list_any (λ (k : Vec ℕ Global). bytes_eq word k.items) keys
    → IsTrue r ↔ IsDefined (map (λ (k : Vec ℕ Global). k.items) keys) word
defined_of_vecs keys word r e = (
  (λ t. any_defined (λ (k : Vec ℕ Global). bytes_eq word k.items) (λ (k : Vec ℕ Global). k.items) word keys (tells_vec word keys) (sym e ∙ t)),
  (λ d. e ∙ defined_any (λ (k : Vec ℕ Global). bytes_eq word k.items) (λ (k : Vec ℕ Global). k.items) word keys (tells_vec word keys) d),
)

pub name_added : (keys keys' : List (Vec ℕ Global)) (name : Vec ℕ Global) → (IsDefined (map (λ (k : Vec ℕ Global). k.items) keys) name.items → ⊥)
    → keys' ≡ (if list_any (λ (k : Vec ℕ Global). bytes_eq name.items k.items) keys then keys else keys ++ name ∷ [])
    → map (λ (k : Vec ℕ Global). k.items) keys' ≡ map (λ (k : Vec ℕ Global). k.items) keys ++ name.items ∷ []
name_added keys keys' name out e = by (list_any (λ (k : Vec ℕ Global). bytes_eq name.items k.items) keys) refl e
  where
    text : Vec ℕ Global → List ℕ
    text k = k.items

    by : (b : Bool) → list_any (λ (k : Vec ℕ Global). bytes_eq name.items k.items) keys ≡ b
        → keys' ≡ (if b then keys else keys ++ name ∷ []) → map (λ (k : Vec ℕ Global). k.items) keys' ≡ map (λ (k : Vec ℕ Global). k.items) keys ++ name.items ∷ []
    by true t f =
        absurd (out (any_defined (λ (k : Vec ℕ Global). bytes_eq name.items k.items) (λ (k : Vec ℕ Global). k.items) name.items keys (tells_vec name.items keys) t))
    by false t f =
        ap (λ (ks : List (Vec ℕ Global)). map (λ (k : Vec ℕ Global). k.items) ks) f ∙ map-append (λ (k : Vec ℕ Global). k.items) keys (name ∷ [])

pub not_named : (l : Lexeme) (names : List (List ℕ)) → is_name_token l ≡ false → (word : List ℕ) → l ≡ name_token word
    → IsDefined names word → ⊥
not_named l names e word is d = no_clash (sym e ∙ ap is_name_token is)

-- ---- a macro by its number

reverse-cons : {X : Type 0} (x : X) (xs : List X) → reverse (x ∷ xs) ≡ reverse xs ++ x ∷ []
reverse-cons x xs = reverse_onto xs x []

pub has_reverse : {X : Type 0} (xs : List X) (x : X) → Has xs x → Has (reverse xs) x
has_reverse {X} xs x h = (
  reverse h.1,
  reverse h.0,
  ap (λ (ys : List X). reverse ys) h.2 ∙ reverse-append h.0 (x ∷ h.1) ∙ ap (λ (ys : List X). ys ++ reverse h.0) (reverse-cons x h.1)
      ∙ append_assoc (reverse h.1) (x ∷ []) (reverse h.0),
)

pub has_reversed : {X : Type 0} (xs : List X) (x : X) → Has (reverse xs) x → Has xs x
has_reversed {X} xs x h = let P : List X → Type 0 = λ ys. Has ys x in subst P (reverse-reverse xs) (has_reverse (reverse xs) x h)

pair_at : (names : List (List ℕ)) (bodies : List (List Lexeme)) (i : ℕ) → length bodies ≡ length names → i < length names
    → HasMacro (paired names bodies) (record { name = get_or names i []; body = get_or bodies i [] })
pair_at [] bodies i same h = absurd (omega (arith, h))
pair_at (n ∷ ns) [] i same h = absurd (omega (arith, same))
pair_at (n ∷ ns) (b ∷ bs) zero same h = has_first (record { name = n; body = b }) (paired ns bs)
pair_at (n ∷ ns) (b ∷ bs) (suc i) same h =
    has_later (record { name = n; body = b }) (record { name = get_or ns i []; body = get_or bs i [] }) (paired ns bs)
    (pair_at ns bs i (omega (arith, same)) (omega (arith, h)))

pair_named : (names : List (List ℕ)) (bodies : List (List Lexeme)) (m : Macro) → HasMacro (paired names bodies) m → IsDefined names m.name
pair_named [] bodies m h = absurd (has_none m h)
pair_named (n ∷ ns) [] m h = absurd (has_none m h)
pair_named (n ∷ ns) (b ∷ bs) m h = by (λ k. pair_named ns bs m k) (has_split (record { name = n; body = b }) m (paired ns bs) h)
  where
    by : (HasMacro (paired ns bs) m → IsDefined ns m.name) → (record { name = n; body = b } ≡ m) ⊎ HasMacro (paired ns bs) m
        → IsDefined (n ∷ ns) m.name
    by more (inl e) = let P : Macro → Type 0 = λ x. IsDefined (n ∷ ns) x.name in subst P e (has_first n ns)
    by more (inr k) = has_later n m.name ns (more k)

pub has_macro : (t : ATable) (i : ℕ) → IsTable t → i < length (names_in t) → HasMacro (macros_in t) (macro_in t i)
has_macro t i is h = has_reverse (paired (names_in t) (bodies_in t)) (macro_in t i) (pair_at (names_in t) (bodies_in t) i is.same h)

pub macro_named : (t : ATable) (m : Macro) → HasMacro (macros_in t) m → IsDefined (names_in t) m.name
macro_named t m h = pair_named (names_in t) (bodies_in t) m (has_reversed (paired (names_in t) (bodies_in t)) m h)

-- ---- whether a macro is being replaced

slice_has : {X : Type 0} (xs : List X) (i : ℕ) (x : X) → slice_get xs i ≡ Some x → Has xs x
slice_has [] i x e = absurd cc
slice_has {X} (y ∷ ys) zero x e =
    let same : y ≡ x = cc in let P : X → Type 0 = λ z. Has (y ∷ ys) z in subst P same (has_first y ys)
slice_has (y ∷ ys) (suc i) x e = has_later y x ys (slice_has ys i x e)

slice_get-seam : {X : Type 0} (xs ys : List X) (x : X) → slice_get (xs ++ x ∷ ys) (length xs) ≡ Some x
slice_get-seam [] ys x = refl
slice_get-seam (z ∷ zs) ys x = slice_get-seam zs ys x

hidden_has : (macros : List Macro) (macro_of : ℕ → Macro) (fs : List Frame) (f : Frame) → Has fs f
    → IsDefined (hidden_in macros macro_of fs) (macro_of f.number).name
hidden_has macros macro_of [] f h = absurd (has_none f h)
hidden_has macros macro_of (g ∷ gs) f h = by (λ k. hidden_has macros macro_of gs f k) (has_split g f gs h)
  where
    by : (Has gs f → IsDefined (hidden_in macros macro_of gs) (macro_of f.number).name) → (g ≡ f) ⊎ Has gs f
        → IsDefined (hidden_in macros macro_of (g ∷ gs)) (macro_of f.number).name
    by more (inl e) =
        let P : Frame → Type 0 = λ x. IsDefined (hidden_in macros macro_of (g ∷ gs)) (macro_of x.number).name in
        subst P e (has_first (macro_of g.number).name (hidden_in macros macro_of gs))
    by more (inr k) = has_later (macro_of g.number).name (macro_of f.number).name (hidden_in macros macro_of gs) (more k)

-- a frame of a macro with this name, and those under it
record Begun (macro_of : ℕ → Macro) (size : ℕ) (marks : List Mark) (fs : List Frame) (name : List ℕ) : Type 0 where
  f : Frame
  before : List Frame
  under : List Frame
  fs_is : fs ≡ before ++ f ∷ under
  named : (macro_of f.number).name ≡ name
  within : f.number < size
  placed : place_at marks f.number ≡ length under

begun_by : (macros : List Macro) (macro_of : ℕ → Macro) (size : ℕ) (marks : List Mark) (fs : List Frame) (name : List ℕ)
    → AllByRecursion (λ (f : Frame). f.number < size) fs → ArePlaced marks fs → IsDefined (hidden_in macros macro_of fs) name
    → Begun macro_of size marks fs name
begun_by macros macro_of size marks [] name within placed d = absurd (has_none name d)
begun_by macros macro_of size marks (f ∷ fs) name within placed d =
    by (λ k. begun_by macros macro_of size marks fs name within.1 placed.1 k)
    (has_split (macro_of f.number).name name (hidden_in macros macro_of fs) d)
  where
    by : (IsDefined (hidden_in macros macro_of fs) name → Begun macro_of size marks fs name)
        → ((macro_of f.number).name ≡ name) ⊎ IsDefined (hidden_in macros macro_of fs) name → Begun macro_of size marks (f ∷ fs) name
    by more (inl e) = record {
      f = f;
      before = [];
      under = fs;
      fs_is = refl;
      named = e;
      within = within.0;
      placed = placed.0;
    }
    by more (inr k) =
        let b = more k in
        record {
          f = b.f;
          before = f ∷ b.before;
          under = b.under;
          fs_is = ap (λ (gs : List Frame). f ∷ gs) b.fs_is;
          named = b.named;
          within = b.within;
          placed = b.placed;
        }

frame_there : (frames before under : List Frame) (f : Frame) → reverse frames ≡ before ++ f ∷ under
    → slice_get frames (length under) ≡ Some f
frame_there frames before under f e =
    let whole : frames ≡ (reverse under ++ f ∷ []) ++ reverse before =
    sym (reverse-reverse frames) ∙ ap (λ (fs : List Frame). reverse fs) e ∙ reverse-append before (f ∷ under)
    ∙ ap (λ (fs : List Frame). fs ++ reverse before) (reverse-cons f under) in
    let seam : slice_get (reverse under ++ f ∷ reverse before) (length (reverse under)) ≡ Some f =
    slice_get-seam (reverse under) (reverse before) f in
    let at : length (reverse under) ≡ length under = length-reverse under in
    ap (λ (fs : List Frame). slice_get fs (length under)) (whole ∙ append_assoc (reverse under) (f ∷ []) (reverse before))
    ∙ ap (λ (n : ℕ). slice_get (reverse under ++ f ∷ reverse before) n) (sym at) ∙ seam

pub begun-true : (t : ATable) (frames : List Frame) (marks : List Mark) (i : ℕ) → is_begun frames marks i ≡ true
    → IsDefined (hidden_of t frames) (macro_in t i).name
begun-true t frames marks i e = by (slice_get frames (place_at marks i)) refl e
  where
    by : (o : Option Frame) → slice_get frames (place_at marks i) ≡ o → has_number o i ≡ true
        → IsDefined (hidden_of t frames) (macro_in t i).name
    by None s h = absurd (no_clash h)
    by (Some f) s h =
        let P : ℕ → Type 0 = λ k. IsDefined (hidden_of t frames) (macro_in t k).name in
        subst P (eqb-true f.number i h)
        (hidden_has (macros_in t) (macro_in t) (reverse frames) f (has_reverse frames f (slice_has frames (place_at marks i) f s)))

pub begun-false : (t : ATable) (frames : List Frame) (marks : List Mark) (i : ℕ) → IsTable t → i < length (names_in t)
    → AllByRecursion (λ (f : Frame). f.number < length (names_in t)) (reverse frames) → ArePlaced marks (reverse frames)
    → is_begun frames marks i ≡ false → IsDefined (hidden_of t frames) (macro_in t i).name → ⊥
begun-false t frames marks i is inside within placed e d =
    let b = begun_by (macros_in t) (macro_in t) (length (names_in t)) marks (reverse frames) (macro_in t i).name within placed d in
    let same : b.f.number ≡ i = is.one_each b.f.number i b.within inside b.named in
    let there : slice_get frames (place_at marks b.f.number) ≡ Some b.f =
    ap (λ (n : ℕ). slice_get frames n) b.placed ∙ frame_there frames b.before b.under b.f b.fs_is in
    let P : ℕ → Type 0 = λ k. slice_get frames (place_at marks k) ≡ Some b.f in
    no_clash (sym e ∙ ap (λ (o : Option Frame). has_number o i) (subst P same there) ∙ eq-eqb b.f.number i same)

-- ---- what to do with a token

pub unnamed_kept : (t : ATable) (hidden : List (List ℕ)) (l : Lexeme)
    → ((word : List ℕ) → l ≡ name_token word → IsDefined (names_in t) word → ⊥) → (m : Macro) → Replaces (macros_in t) hidden m l → ⊥
unnamed_kept t hidden l out m r = out m.name r.named (macro_named t m r.has)

pub begun_kept : (t : ATable) (frames : List Frame) (marks : List Mark) (i : ℕ) (l : Lexeme) → is_begun frames marks i ≡ true
    → l ≡ name_token (name_in t i) → (m : Macro) → Replaces (macros_in t) (hidden_of t frames) m l → ⊥
begun_kept t frames marks i l begun named m r =
    let P : List ℕ → Type 0 = λ w. IsDefined (hidden_of t frames) w in
    r.not_hidden (subst P (ap (λ (x : Lexeme). x.text) (sym named ∙ r.named)) (begun-true t frames marks i begun))

pub is_replaced : (t : ATable) (frames : List Frame) (marks : List Mark) (i : ℕ) (l : Lexeme) → IsTable t → i < length (names_in t)
    → AllByRecursion (λ (f : Frame). f.number < length (names_in t)) (reverse frames) → ArePlaced marks (reverse frames)
    → is_begun frames marks i ≡ false → l ≡ name_token (name_in t i)
    → Replaces (macros_in t) (hidden_of t frames) (macro_in t i) l
is_replaced t frames marks i l is inside within placed begun named = record {
  has = has_macro t i is inside;
  named = named;
  not_hidden = begun-false t frames marks i is inside within placed begun;
}
