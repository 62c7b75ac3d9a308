-- Lines whose numbers ascend by 1, and released lines one after another.
use Rattle.std.proofs.Common.{◌≡◌, ◌∙◌, ◌+◌, ◌-◌, ◌<◌, ◌≤◌, ℕ, suc, true, false, List, [], ◌∷◌, ◌++◌, length, take, drop, get_or, nat_le, refl, sym, ap, inl, inr, arith, append_assoc, append-nil, cond, min, slice_get, Some}
use Rattle.std.proofs.lemmas.List.{take_more}
use Rattle.std.proofs.lemmas.Bool.Decides.{leb_tells}
use Rattle.std.proofs.Math.Seq.{take-length}
use Rattle.std.proofs.lemmas.List.{drop_all, length-drop}
use Rattle.am_base.specs.declared.lines.Line.{Line}
use Rattle.am_base.specs.Released.{released_line, released_lines}
use Rattle.output_commit.specs.Held.{AscendByOne, unreleased}

pub released_lines-append : (rank : ℕ) (a b : List Line) → released_lines rank (a ++ b) ≡ released_lines rank a ++ released_lines rank b
released_lines-append rank [] b = refl
released_lines-append rank (x ∷ a) b =
    ap (λ t. released_line rank x.text ++ t) (released_lines-append rank a b)
    ∙ sym (append_assoc (released_line rank x.text) (released_lines rank a) (released_lines rank b))

-- one more line
pub released_more : (start : List ℕ) (rank : ℕ) (lines : List Line) (i : ℕ) (line : Line)
    → i < length lines → line ≡ get_or lines i line
    → (start ++ released_lines rank (take i lines)) ++ released_line rank line.text
    ≡ start ++ released_lines rank (take (i + 1) lines)
released_more start rank lines i line inside is =
    let end : released_lines rank (line ∷ []) ≡ released_line rank line.text = append-nil (released_line rank line.text) in
    ap (λ t. (start ++ released_lines rank (take i lines)) ++ t) (sym end)
    ∙ append_assoc start (released_lines rank (take i lines)) (released_lines rank (line ∷ []))
    ∙ ap (λ t. start ++ t)
    (sym (released_lines-append rank (take i lines) (line ∷ []))
    ∙ ap (λ (l : Line). released_lines rank (take i lines ++ l ∷ [])) is
    ∙ ap (released_lines rank) (sym (take_more lines i line inside)))

-- a line that isn't released stays, and one that is goes
pub stays : (r : ℕ) (l : Line) (ls : List Line) → nat_le r l.number ≡ true → unreleased r (l ∷ ls) ≡ l ∷ unreleased r ls
stays r l ls e = ap (λ b. cond b (l ∷ unreleased r ls) (unreleased r ls)) e

pub goes : (r : ℕ) (l : Line) (ls : List Line) → nat_le r l.number ≡ false → unreleased r (l ∷ ls) ≡ unreleased r ls
goes r l ls e = ap (λ b. cond b (l ∷ unreleased r ls) (unreleased r ls)) e

-- where the first line isn't released, none is
all_stay : (r : ℕ) (l : Line) (ls : List Line) → AscendByOne (l ∷ ls) → r ≤ l.number → unreleased r (l ∷ ls) ≡ l ∷ ls
all_stay r l [] h le = elim (leb_tells r l.number) [ inl t ↦ stays r l [] t.0 | inr f ↦ absurd (omega (arith, f.1)) ]
all_stay r l (m ∷ ls) h le =
    elim (leb_tells r l.number) [
      | inl t ↦ stays r l (m ∷ ls) t.0 ∙ ap (λ xs. l ∷ xs) (all_stay r m ls h.1 (omega (arith, h.0)))
      | inr f ↦ absurd (omega (arith, f.1))
    ]

pub unreleased_is_drop : (r : ℕ) (l : Line) (ls : List Line) → AscendByOne (l ∷ ls)
    → unreleased r (l ∷ ls) ≡ drop (r - l.number) (l ∷ ls)
unreleased_is_drop r l [] h =
    elim (leb_tells r l.number) [
      | inl t ↦ let none : r - l.number ≡ 0 = omega (arith, t.1) in stays r l [] t.0 ∙ ap (λ n. drop n (l ∷ [])) (sym none)
      | inr f ↦ goes r l [] f.0 ∙ sym (drop_all (r - l.number) (l ∷ []) (omega (arith, f.1)))
    ]
unreleased_is_drop r l (m ∷ ls) h =
    elim (leb_tells r l.number) [
      | inl t ↦
          let none : r - l.number ≡ 0 = omega (arith, t.1) in
          all_stay r l (m ∷ ls) h t.1 ∙ ap (λ n. drop n (l ∷ m ∷ ls)) (sym none)
      | inr f ↦
          let more : r - l.number ≡ suc (r - m.number) = omega (arith, f.1, h.0) in
          goes r l (m ∷ ls) f.0 ∙ unreleased_is_drop r m ls h.1 ∙ ap (λ n. drop n (l ∷ m ∷ ls)) (sym more)
    ]

-- the rest of a list from its least of a place and its length on
rest_of : (all : List Line) (a k : ℕ) → k ≡ min a (length all) → take (length all - k) (drop k all) ≡ drop a all
rest_of all a k least =
    let whole : take (length all - k) (drop k all) ≡ drop k all =
    ap (λ n. take n (drop k all)) (sym (length-drop k all)) ∙ take-length (drop k all) in
    whole ∙ elim (leb_tells a (length all)) [
      | inl t ↦ let same : k ≡ a = omega (arith, least, t.1) in ap (λ n. drop n all) same
      | inr f ↦ drop_all k all (omega (arith, least, f.1)) ∙ sym (drop_all a all (omega (arith, f.1)))
    ]

pub unreleased_is_slice : (r : ℕ) (all : List Line) (first : Line) (k : ℕ) → slice_get all 0 ≡ Some first → AscendByOne all
    → k ≡ min (r - first.number) (length all) → take (length all - k) (drop k all) ≡ unreleased r all
unreleased_is_slice r [] first k is h least = cc
unreleased_is_slice r (l ∷ ls) first k is h least =
    let same : l ≡ first = cc in
    rest_of (l ∷ ls) (r - first.number) k least
    ∙ ap (λ (x : Line). drop (r - x.number) (l ∷ ls)) (sym same)
    ∙ sym (unreleased_is_drop r l ls h)
