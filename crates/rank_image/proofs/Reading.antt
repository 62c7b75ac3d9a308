-- Lists that are read, and lists that ascend.
use Rattle.std.proofs.Common.{◌≡◌, ◌∙◌, ◌+◌, ◌-◌, ◌<◌, ◌≤◌, ℕ, zero, suc, Bool, true, false, ◌&&◌, ◌==◌, List, [], ◌∷◌, get_or, length, take, drop, nat_lt, inl, inr, length-take, Option, Some, None, refl, sym, ap, arith, length-drop}
use Rattle.std.specs.Prelude.{slice_get}
use Rattle.std.proofs.lemmas.List.{drop_more}
use Rattle.std.proofs.lemmas.Bool.Decides.{nat_tests}
use Rattle.byte_formats.specs.Formats.{Format, read_many, ascends, block, read_block}
use Rattle.byte_formats.specs.FormatLaws.{reads_before, none_found, chosen}
use Rattle.am_base.specs.declared.lines.Line.{Line}
use Rattle.rank_image.specs.Head.{ends_below}

-- so many values are read
pub read_length : {X : Type 0} (f : Format X) (n : ℕ) (bytes : List ℕ) (found : List X × List ℕ) → read_many f n bytes ≡ Some found → length found.0 ≡ n
read_length {X} f zero bytes found e =
    let is : ◌≡◌ {A = List X × List ℕ} ([], bytes) found = cc in
    ap (λ (p : List X × List ℕ). length p.0) (sym is)
read_length {X} f (suc n) bytes found e =
    let first = reads_before (f.read bytes) _ found e in
    let second = reads_before (read_many f n first.0.1) _ found first.2 in
    let is : ◌≡◌ {A = List X × List ℕ} (first.0.0 ∷ second.0.0, second.0.1) found = cc in
    ap (λ (p : List X × List ℕ). length p.0) (sym is) ∙ ap suc (read_length f n first.0.1 second.0 second.1)

-- whether a list ascends from a place on
pub ascends_from : {X : Type 0} (e : X → X → Bool) (xs : List X) (i j : ℕ) (x y : X) → j ≡ i + 1 → j < length xs
    → x ≡ get_or xs i x → y ≡ get_or xs j y → ascends e (drop i xs) ≡ (e x y && ascends e (drop j xs))
ascends_from e xs i j x y next inside at_x at_y =
    let here : drop i xs ≡ x ∷ drop j xs =
    drop_more xs i x (omega (arith, next, inside)) ∙ ap (λ z. z ∷ drop (i + 1) xs) (sym at_x) ∙ ap (λ n. x ∷ drop n xs) (sym next) in
    let there : drop j xs ≡ y ∷ drop (j + 1) xs = drop_more xs j y inside ∙ ap (λ z. z ∷ drop (j + 1) xs) (sym at_y) in
    ap (ascends e) here ∙ ap (λ zs. ascends e (x ∷ zs)) there ∙ ap (λ zs. e x y && ascends e zs) (sym there)

one_ascends : {X : Type 0} (e : X → X → Bool) (xs : List X) → length xs ≤ 1 → ascends e xs ≡ true
one_ascends e [] h = refl
one_ascends e (x ∷ []) h = refl
one_ascends e (x ∷ y ∷ xs) h = absurd (omega (arith, h))

short_behind : {X : Type 0} (xs : List X) (i : ℕ) → length xs - 1 ≤ i → length (drop i xs) ≤ 1
short_behind xs i h = omega (arith, length-drop i xs, h)

pub ends_ascending : {X : Type 0} (e : X → X → Bool) (xs : List X) (i : ℕ) → length xs - 1 ≤ i → ascends e (drop i xs) ≡ true
ends_ascending e xs i h = one_ascends e (drop i xs) (short_behind xs i h)

-- a step in a list, by the test's answer
pub steps_on : {X : Type 0} (e : X → X → Bool) (xs : List X) (i j : ℕ) (x y : X) (b : Bool) → j ≡ i + 1 → j < length xs
    → x ≡ get_or xs i x → y ≡ get_or xs j y → b ≡ e x y → ascends e (drop i xs) ≡ (b && ascends e (drop j xs))
steps_on e xs i j x y b next inside at_x at_y told =
    ascends_from e xs i j x y next inside at_x at_y ∙ ap (λ t. t && ascends e (drop j xs)) (sym told)

-- whether the last line stands below the next one's number
pub below_last : (next : ℕ) (xs : List Line) (l : Line) → slice_get xs (length xs - 1) ≡ Some l → ends_below next xs ≡ (next == l.number + 1)
below_last next [] l e = absurd (none_found l e)
below_last next (x ∷ []) l e = let is : x ≡ l = cc in ap (λ (z : Line). next == z.number + 1) is
below_last next (x ∷ y ∷ ys) l e =
    let back : length (x ∷ y ∷ ys) - 1 ≡ suc (length (y ∷ ys) - 1) = omega arith in
    below_last next (y ∷ ys) l (ap (slice_get (x ∷ y ∷ ys)) (sym back) ∙ e)

-- a block that is read has its size
pub block_length : (n : ℕ) (bytes : List ℕ) (found : List ℕ × List ℕ) → (block n).read bytes ≡ Some found → length found.0 ≡ n
unfolding read_block
block_length n bytes found e =
    elim (chosen (nat_lt (length bytes) n) None (Some (take n bytes, drop n bytes)) (Some found) e) [
      | inl short ↦ absurd (none_found found short.1)
      | inr enough ↦
          let inside : n ≤ length bytes = grind (arith, nat_tests, enough.0) in
          let is : ◌≡◌ {A = List ℕ × List ℕ} (take n bytes, drop n bytes) found = cc in
          ap (λ (p : List ℕ × List ℕ). length p.0) (sym is) ∙ omega (arith, length-take n bytes, inside)
    ]
