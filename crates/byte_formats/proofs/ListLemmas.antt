-- Lists that are read and written one value after another.
use Rattle.std.proofs.Common.{◌≡◌, ◌∙◌, ℕ, zero, suc, Bool, true, false, ◌&&◌, ◌==◌, List, [], ◌∷◌, ◌++◌, ◌+◌, ◌<◌, get_or, length, Option, Some, None, refl, sym, ap, arith, append_assoc, append-nil}
use Rattle.std.proofs.lemmas.Bool.{eqb-true}
use Rattle.byte_formats.specs.Formats.{ascends, Format, then_read, read_many}
use Rattle.byte_formats.specs.Lawful.{AreBytes, IsInFront, IsFormat, Spells}
use Rattle.std.specs.List.{IsAllAdjacentAnswer}
use Rattle.std.proofs.Math.Bool.{and-false}
use Rattle.byte_formats.specs.FormatLaws.{and_is_true, none_found}

-- behind some values so many more are to be read
abbrev pub more_behind : {X : Type 0} → Format X → List X → ℕ → List ℕ → Option (List X × List ℕ)
more_behind f items n bytes = then_read (read_many f n bytes) (λ xs rest. Some (items ++ xs, rest))

regroup : {X : Type 0} (o : Option (List X × List ℕ)) (items : List X) (x : X)
    → then_read {Y = List X × List ℕ} (then_read {Y = List X × List ℕ} o (λ xs behind. Some (x ∷ xs, behind))) (λ xs rest. Some (items ++ xs, rest))
    ≡ then_read {Y = List X × List ℕ} o (λ xs rest. Some ((items ++ x ∷ []) ++ xs, rest))
regroup None items x = refl
regroup (Some found) items x = ap (λ zs. Some (zs, found.1)) (sym (append_assoc items (x ∷ []) found.0))

one_read_of : {X : Type 0} (f : Format X) (items : List X) (n : ℕ) (bytes rest : List ℕ) (x : X)
    → f.read bytes ≡ Some (x, rest) → more_behind f items (suc n) bytes ≡ more_behind f (items ++ x ∷ []) n rest
one_read_of f items n bytes rest x read = rw read (regroup (read_many f n rest) items x)

-- one more value is read
pub one_read : {X : Type 0} (f : Format X) (items pushed : List X) (k n : ℕ) (bytes rest : List ℕ) (x : X)
    → k ≡ suc n → f.read bytes ≡ Some (x, rest) → pushed ≡ items ++ x ∷ []
    → more_behind f items k bytes ≡ more_behind f pushed n rest
one_read f items pushed k n bytes rest x is read push =
    ap (λ m. more_behind f items m bytes) is ∙ one_read_of f items n bytes rest x read
    ∙ ap (λ zs. more_behind f zs n rest) (sym push)

-- nothing is read where a value is missing
pub none_read : {X : Type 0} (f : Format X) (items : List X) (k n : ℕ) (bytes : List ℕ)
    → k ≡ suc n → f.read bytes ≡ None → more_behind f items k bytes ≡ None
none_read f items k n bytes is none = ap (λ m. more_behind f items m bytes) is ∙ rw none refl

-- bytes of which nothing is read spell nothing, and so do bytes of which a front is read
pub none_spelled : {X : Type 0} (f : Format X) (bytes : List ℕ) (x : X) → IsFormat f → f.read bytes ≡ None → Spells f bytes x → ⊥
none_spelled f bytes x hf none s =
    let read : f.read bytes ≡ Some (x, []) = ap f.read (s.bytes_are ∙ sym (append-nil (f.spell x))) ∙ hf.back x [] s.fits in
    none_found (x, []) (sym none ∙ read)

pub front_spells_none : {X : Type 0} (f : Format X) (bytes rest : List ℕ) (found x : X) → IsFormat f
    → f.read bytes ≡ Some (found, rest) → false ≡ (length rest == 0) → Spells f bytes x → ⊥
front_spells_none {X} f bytes rest found x hf front more s =
    let read : f.read bytes ≡ Some (x, []) = ap f.read (s.bytes_are ∙ sym (append-nil (f.spell x))) ∙ hf.back x [] s.fits in
    let same : ◌≡◌ {A = Option (X × List ℕ)} (Some (found, rest)) (Some (x, [])) = sym front ∙ read in
    let pairs : ◌≡◌ {A = X × List ℕ} (found, rest) (x, []) = cc in
    let empty : rest ≡ [] = ap (λ (p : X × List ℕ). p.1) pairs in
    let never : false ≡ true = more ∙ ap (λ bs. length bs == 0) empty in
    absurd (cc)

no_bytes : (rest : List ℕ) → length rest ≡ 0 → rest ≡ []
no_bytes [] e = refl
no_bytes (b ∷ rest) e = absurd (omega arith)

-- bytes that are read to their end are spelled
pub whole_spells : {X : Type 0} (f : Format X) (bytes rest : List ℕ) (x : X) → IsFormat f → AreBytes bytes
    → f.read bytes ≡ Some (x, rest) → true ≡ (length rest == 0) → Spells f bytes x
whole_spells f bytes rest x hf h read ends =
    let empty : rest ≡ [] = no_bytes rest (eqb-true (length rest) 0 (sym ends)) in
    let front : IsInFront f bytes (x, rest) = hf.nothing_else bytes (x, rest) h read in
    record { fits = front.fits; bytes_are = front.bytes_are ∙ ap (λ bs. f.spell x ++ bs) empty ∙ append-nil (f.spell x) }

-- each value comes before the next
all_ascend : {X : Type 0} (e : X → X → Bool) (xs : List X)
    → ((k : ℕ) (d : X) → k + 1 < length xs → true ≡ e (get_or xs k d) (get_or xs (k + 1) d)) → ascends e xs ≡ true
all_ascend e [] h = refl
all_ascend e (x ∷ []) h = refl
all_ascend e (x ∷ y ∷ xs) h =
    let first : true ≡ e x y = h 0 x (omega arith) in
    and_is_true (e x y) (ascends e (y ∷ xs)) (sym first)
    (all_ascend e (y ∷ xs) (λ k d inside.
    (let next : suc k + 1 ≡ suc (k + 1) = omega arith in
    h (suc k) d (omega (arith, inside)) ∙ ap (λ n. e (get_or (y ∷ xs) k d) (get_or (x ∷ y ∷ xs) n d)) next)))

-- some value doesn't
one_breaks : {X : Type 0} (e : X → X → Bool) (xs : List X) (k : ℕ) → k + 1 < length xs
    → ((d : X) → false ≡ e (get_or xs k d) (get_or xs (k + 1) d)) → ascends e xs ≡ false
one_breaks e [] k inside h = absurd (omega arith)
one_breaks e (x ∷ []) k inside h = absurd (omega arith)
one_breaks e (x ∷ y ∷ xs) zero inside h = let first : false ≡ e x y = h x in ap (λ b. b && ascends e (y ∷ xs)) (sym first)
one_breaks e (x ∷ y ∷ xs) (suc k) inside h =
    let next : suc k + 1 ≡ suc (k + 1) = omega arith in
    let rest : ascends e (y ∷ xs) ≡ false =
    one_breaks e (y ∷ xs) k (omega (arith, inside)) (λ d. h d ∙ ap (λ n. e (get_or (y ∷ xs) k d) (get_or (x ∷ y ∷ xs) n d)) next) in
    rw rest (and-false (e x y))

pub sorted_ascends : {X : Type 0} (e : X → X → Bool) (xs : List X) (r : Bool)
    → IsAllAdjacentAnswer (λ x y b. b ≡ e x y) xs r → r ≡ ascends e xs
sorted_ascends e xs true h = sym (all_ascend e xs h)
sorted_ascends e xs false h = sym (one_breaks e xs h.0 h.1 h.2)
