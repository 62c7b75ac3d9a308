-- The ends of lists that are seen turned round.
use Rattle.std.specs.Prelude.{slice_get, get_or}
use Rattle.std.proofs.lemmas.Option.{slice_get_past, slice_get-get_or}
use Rattle.std.proofs.Common.{◌≡◌, ℕ, ◌+◌, ◌-◌, ◌<◌, ◌≤◌, ◌∙◌, Some, None, List, length, reverse, take, drop, sym, ap, arith, length-drop}
use Rattle.std.proofs.lemmas.List.{take-append-drop, drop-take, take-take, take_at, drop_at, reverse-append, reverse-reverse, length-reverse, length-take-le}

-- the first and the last of a list that is turned round
tops : (k n : ℕ) (xs : List ℕ) → k + n ≡ length xs → reverse (take n (reverse xs)) ≡ drop k xs
tops k n xs whole =
    let back : length (drop k xs) ≡ n = length-drop k xs ∙ omega (arith, whole) in
    ap (λ (ys : List ℕ). reverse (take n (reverse ys))) (sym (take-append-drop k xs))
    ∙ ap (λ (ys : List ℕ). reverse (take n ys)) (reverse-append (take k xs) (drop k xs))
    ∙ ap reverse (take_at (reverse (drop k xs)) (reverse (take k xs)) n (length-reverse (drop k xs) ∙ back))
    ∙ reverse-reverse (drop k xs)

rests : (k n : ℕ) (xs : List ℕ) → k + n ≡ length xs → reverse (drop n (reverse xs)) ≡ take k xs
rests k n xs whole =
    let back : length (drop k xs) ≡ n = length-drop k xs ∙ omega (arith, whole) in
    ap (λ (ys : List ℕ). reverse (drop n (reverse ys))) (sym (take-append-drop k xs))
    ∙ ap (λ (ys : List ℕ). reverse (drop n ys)) (reverse-append (take k xs) (drop k xs))
    ∙ ap reverse (drop_at (reverse (drop k xs)) (reverse (take k xs)) n (length-reverse (drop k xs) ∙ back))
    ∙ reverse-reverse (take k xs)

size : (words : List ℕ) (count : ℕ) → count ≤ length words → length (take count words) ≡ count
size words count inside = length-take-le count words inside

view_size : (words view : List ℕ) (count : ℕ) → view ≡ reverse (take count words) → count ≤ length words → length view ≡ count
view_size words view count is inside = ap length is ∙ length-reverse (take count words) ∙ size words count inside

pub top_is : (words view : List ℕ) (count n : ℕ) → view ≡ reverse (take count words) → count ≤ length words → n ≤ length view
    → take (count - (count - n)) (drop (count - n) words) ≡ reverse (take n view)
top_is words view count n is inside few =
    let whole = view_size words view count is inside in
    let k = count - n in
    let parts : k + n ≡ count = omega (arith, whole, few) in
    let same : count - k ≡ n = omega (arith, whole, few) in
    ap (λ (m : ℕ). take m (drop k words)) same
    ∙ sym (drop-take k n words)
    ∙ ap (λ (m : ℕ). drop k (take m words)) parts
    ∙ sym (tops k n (take count words) (parts ∙ sym (size words count inside)))
    ∙ ap (λ (ys : List ℕ). reverse (take n ys)) (sym is)

pub below_is : (words view : List ℕ) (count n : ℕ) → view ≡ reverse (take count words) → count ≤ length words → n ≤ length view
    → take (count - n) words ≡ reverse (drop n view)
below_is words view count n is inside few =
    let whole = view_size words view count is inside in
    let k = count - n in
    let parts : k + n ≡ count = omega (arith, whole, few) in
    let short : k ≤ count = omega arith in
    sym (take-take k count words short)
    ∙ sym (rests k n (take count words) (parts ∙ sym (size words count inside)))
    ∙ ap (λ (ys : List ℕ). reverse (drop n ys)) (sym is)

-- an element that was looked up
pub got : {X : Type 0} (xs ys : List X) (i : ℕ) (x : X) → ys ≡ xs → i < length ys → x ≡ get_or ys i x → slice_get xs i ≡ Some x
got {X = X} xs ys i x same within is =
    ap (λ (zs : List X). slice_get zs i) (sym same) ∙ slice_get-get_or ys i x within ∙ ap Some (sym is)

pub got_none : {X : Type 0} (xs ys : List X) (i : ℕ) → ys ≡ xs → length ys ≤ i → slice_get xs i ≡ None
got_none {X = X} xs ys i same past = ap (λ (zs : List X). slice_get zs i) (sym same) ∙ slice_get_past ys i past

pub found_at : {X : Type 0} (xs ys : List X) (i : ℕ) (d : X) → ys ≡ xs → i < length xs → slice_get xs i ≡ Some (get_or ys i d)
found_at xs ys i d same within = slice_get-get_or xs i d within ∙ ap (λ zs. Some (get_or zs i d)) (sym same)
