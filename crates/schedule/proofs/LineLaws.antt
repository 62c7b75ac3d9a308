-- A text is cut into its lines in one way, and `line_at` takes the first of them.
use Rattle.std.proofs.Common.{◌≡◌, ℕ, suc, ◌+◌, ◌<◌, ◌&&◌, Bool, true, false, cond, eqb, eq-eqb, List, [], ◌∷◌, ◌++◌, length, take, drop, map, refl, sym, ap, ◌∙◌, subst, arith, inl, inr, append_assoc}
use Rattle.std.proofs.lemmas.Bool.{cases_Bool, not-true, eqb-true, ne_eqb, and_parts}
use Rattle.std.specs.List.{flat_map, AllByRecursion}
use Rattle.std.specs.Prelude.{IsTrue}
use Rattle.schedule.specs.Grammar.{is_in_line, HasNoFeed, without_cr, last_line, AreLines}
use Rattle.schedule.specs.Reading.{feed_at, line_at, with_byte, lines_of}

-- ---- the carriage return before a line feed

cr : (front : List ℕ) → without_cr (front ++ 13 ∷ []) ≡ front
cr [] = refl
cr (x ∷ []) = refl
cr (x ∷ y ∷ ys) = ap (λ (z : List ℕ). x ∷ z) (cr (y ∷ ys))

other : (front : List ℕ) (b : ℕ) → eqb b 13 ≡ false → without_cr (front ++ b ∷ []) ≡ front ++ b ∷ []
other [] b e = rw e refl
other (x ∷ []) b e = ap (λ (z : List ℕ). x ∷ z) (other [] b e)
other (x ∷ y ∷ ys) b e = ap (λ (z : List ℕ). x ∷ z) (other (y ∷ ys) b e)

pub without_cr-cr : (line front : List ℕ) (b : ℕ) → line ≡ front ++ b ∷ [] → b ≡ 13 → front ≡ without_cr line
without_cr-cr line front b e f = sym (ap without_cr (e ∙ ap (λ (x : ℕ). front ++ x ∷ []) f) ∙ cr front)

pub without_cr-other : (line front : List ℕ) (b : ℕ) → line ≡ front ++ b ∷ [] → (b ≡ 13 → ⊥) → line ≡ without_cr line
without_cr-other line front b e f = e ∙ sym (ap without_cr e ∙ other front b (ne_eqb b 13 f))

-- ---- the first line

-- a byte before a line and what stands behind it
abbrev with_front : ℕ → List ℕ × List ℕ → List ℕ × List ℕ
with_front b found = (b ∷ found.0, found.1)

apart : (m n : ℕ) → eqb m n ≡ false → m ≡ n → ⊥
apart m n e f = let t = eq-eqb m n f in cc

-- the choice of `line_at`, with the place of the line feed and the length of the text as numbers
choice : (b : ℕ) (m n : ℕ) (whole line line2 rest rest2 : List ℕ) (found : List ℕ × List ℕ) → line2 ≡ b ∷ line → rest2 ≡ rest
    → cond (eqb m n) (whole, []) (line, rest) ≡ found
    → cond (eqb (1 + m) (1 + n)) (b ∷ whole, []) (line2, rest2) ≡ with_front b found
choice b m n whole line line2 rest rest2 found e f g =
    elim (cases_Bool (eqb m n)) [
      | inl y ↦
          let up : eqb (1 + m) (1 + n) ≡ true = eq-eqb (1 + m) (1 + n) (ap (λ (x : ℕ). 1 + x) (eqb-true m n y)) in
          let P : List ℕ × List ℕ → Type 0 = λ x. (b ∷ whole, []) ≡ with_front b x in
          rw up (subst P g (rw y refl))
      | inr z ↦
          let up : eqb (1 + m) (1 + n) ≡ false = ne_eqb (1 + m) (1 + n) (λ k. apart m n z (omega arith)) in
          let P : List ℕ × List ℕ → Type 0 = λ x. (line2, rest2) ≡ with_front b x in
          rw up (subst P g (rw (z, e, f) refl))
    ]

one_more : (n : ℕ) → 1 + n ≡ suc n
one_more n = omega arith

first_cr : (b c : ℕ) (bs : List ℕ) → eqb b 10 ≡ false → (eqb b 13 && eqb c 10) ≡ false
    → without_cr (b ∷ take (feed_at (c ∷ bs)) (c ∷ bs)) ≡ b ∷ without_cr (take (feed_at (c ∷ bs)) (c ∷ bs))
first_cr b c bs e f =
    elim (cases_Bool (eqb c 10)) [
      | inl y ↦
          let other : eqb b 13 ≡ false = no_cr b c y f in
          rw (y, other) refl
      | inr z ↦ rw (z, one_more) refl
    ]
  where
    no_cr : (b c : ℕ) → eqb c 10 ≡ true → (eqb b 13 && eqb c 10) ≡ false → eqb b 13 ≡ false
    no_cr b c y f = elim (cases_Bool (eqb b 13)) [
      | inl t ↦ absurd (let g : (true && true) ≡ false = rw (t, y) at f in cc)
      | inr t ↦ t
    ]

line_at-more : (b c : ℕ) (bs : List ℕ) → eqb b 10 ≡ false → (eqb b 13 && eqb c 10) ≡ false
    → line_at (b ∷ c ∷ bs) ≡ with_front b (line_at (c ∷ bs))
unfolding line_at
line_at-more b c bs e f =
    let m = feed_at (c ∷ bs) in
    let at : feed_at (b ∷ c ∷ bs) ≡ 1 + m = rw e refl in
    let line2 : without_cr (take (1 + m) (b ∷ c ∷ bs)) ≡ b ∷ without_cr (take m (c ∷ bs)) = rw one_more (first_cr b c bs e f) in
    let rest2 : drop (1 + m + 1) (b ∷ c ∷ bs) ≡ drop (m + 1) (c ∷ bs) = let k : 1 + m + 1 ≡ suc (m + 1) = omega arith in rw k refl in
    let size : length (b ∷ c ∷ bs) ≡ 1 + length (c ∷ bs) = omega arith in
    let chosen = choice b m (length (c ∷ bs)) (c ∷ bs) (without_cr (take m (c ∷ bs))) _ (drop (m + 1) (c ∷ bs)) _ _ line2 rest2 refl in
    rw (at, size) chosen

-- ---- lines and `line_at`

with_byte-step : (b : ℕ) (lines : List (List ℕ)) (found : List ℕ × List ℕ) → lines ≡ found.0 ∷ lines_of found.1
    → with_byte b lines ≡ (with_front b found).0 ∷ lines_of (with_front b found).1
with_byte-step b lines found e = rw e refl

unpicked : {A : Type 0} (t : Bool) (x y : A) → t ≡ false → cond t x y ≡ y
unpicked t x y e = rw e refl

line_at-feed : (bs : List ℕ) → line_at (10 ∷ bs) ≡ ([], bs)
unfolding line_at
line_at-feed bs =
    let e : eqb 0 (length (10 ∷ bs)) ≡ false = ne_eqb 0 (length (10 ∷ bs)) (λ k. absurd (omega (arith, k))) in
    unpicked (eqb 0 (length (10 ∷ bs))) (10 ∷ bs, []) ([], bs) e

line_at-cr : (bs : List ℕ) → line_at (13 ∷ 10 ∷ bs) ≡ ([], bs)
unfolding line_at
line_at-cr bs =
    let e : eqb 1 (length (13 ∷ 10 ∷ bs)) ≡ false = ne_eqb 1 (length (13 ∷ 10 ∷ bs)) (λ k. absurd (omega (arith, k))) in
    unpicked (eqb 1 (length (13 ∷ 10 ∷ bs))) (13 ∷ 10 ∷ bs, []) ([], bs) e

line_at-one : (b : ℕ) → eqb b 10 ≡ false → line_at (b ∷ []) ≡ (b ∷ [], [])
unfolding line_at
line_at-one b e = rw e refl

lines-feed : (bs : List ℕ) → lines_of (10 ∷ bs) ≡ [] ∷ lines_of bs
unfolding lines_of
lines-feed [] = refl
lines-feed (b ∷ bs) = refl

lines-cr : (bs : List ℕ) → lines_of (13 ∷ 10 ∷ bs) ≡ [] ∷ lines_of bs
unfolding lines_of
lines-cr bs = refl

lines-one : (b : ℕ) → eqb b 10 ≡ false → lines_of (b ∷ []) ≡ (b ∷ []) ∷ []
unfolding lines_of
lines-one b e = rw e refl

lines-more : (b c : ℕ) (bs : List ℕ) → eqb b 10 ≡ false → (eqb b 13 && eqb c 10) ≡ false → lines_of (b ∷ c ∷ bs) ≡ with_byte b (lines_of (c ∷ bs))
unfolding lines_of
lines-more b c bs e f = rw (e, f) refl

lines-none : lines_of [] ≡ []
unfolding lines_of
lines-none = refl

-- a byte that ends a line, a line end of two bytes, or a byte of a line
data Front : List ℕ → Type 0 where
  feed : (bs : List ℕ) → Front (10 ∷ bs)
  both : (bs : List ℕ) → Front (13 ∷ 10 ∷ bs)
  last : (b : ℕ) → eqb b 10 ≡ false → Front (b ∷ [])
  more : (b c : ℕ) (bs : List ℕ) → eqb b 10 ≡ false → (eqb b 13 && eqb c 10) ≡ false → Front (c ∷ bs) → Front (b ∷ c ∷ bs)

front_feed : (b : ℕ) (bs : List ℕ) → b ≡ 10 → Front (b ∷ bs)
front_feed b bs e = let P : ℕ → Type 0 = λ x. Front (x ∷ bs) in subst P (sym e) (feed bs)

front_both : (b c : ℕ) (bs : List ℕ) → b ≡ 13 → c ≡ 10 → Front (b ∷ c ∷ bs)
front_both b c bs e f =
    let P : ℕ → Type 0 = λ x. Front (x ∷ c ∷ bs) in
    let Q : ℕ → Type 0 = λ x. Front (13 ∷ x ∷ bs) in
    subst P (sym e) (subst Q (sym f) (both bs))

front_of : (b : ℕ) (bs : List ℕ) → Front (b ∷ bs)
front_of b [] =
    elim (cases_Bool (eqb b 10)) [ inl y ↦ front_feed b [] (eqb-true b 10 y) | inr z ↦ last b z ]
front_of b (c ∷ bs) =
    elim (cases_Bool (eqb b 10)) [
      | inl y ↦ front_feed b (c ∷ bs) (eqb-true b 10 y)
      | inr z ↦
          elim (cases_Bool (eqb b 13 && eqb c 10)) [
            | inl y ↦ let t = and_parts (eqb b 13) (eqb c 10) y in front_both b c bs (eqb-true b 13 t.0) (eqb-true c 10 t.1)
            | inr n ↦ more b c bs z n (front_of c bs)
          ]
    ]

step_front : (text : List ℕ) → Front text → (lines_of text ≡ (line_at text).0 ∷ lines_of (line_at text).1) × (length (line_at text).1 < length text)
step_front _ (feed bs) = rw (line_at-feed bs) (lines-feed bs, omega arith)
step_front _ (both bs) = rw (line_at-cr bs) (lines-cr bs, omega arith)
step_front _ (last b e) = rw (line_at-one b e) (rw lines-none (lines-one b e), omega arith)
step_front _ (more b c bs e f front) =
    let next = step_front (c ∷ bs) front in
    rw (line_at-more b c bs e f) (
      lines-more b c bs e f ∙ with_byte-step b (lines_of (c ∷ bs)) (line_at (c ∷ bs)) next.0,
      omega (arith, next.1),
    )

-- the lines of a text are its first line and those of the rest
pub lines_step : (text : List ℕ) → 0 < length text → lines_of text ≡ (line_at text).0 ∷ lines_of (line_at text).1
lines_step [] some = absurd (omega arith)
lines_step (b ∷ bs) some = (step_front (b ∷ bs) (front_of b bs)).0

pub line_at-shorter : (text : List ℕ) → 0 < length text → length (line_at text).1 < length text
line_at-shorter [] some = absurd (omega arith)
line_at-shorter (b ∷ bs) some = (step_front (b ∷ bs) (front_of b bs)).1

pub lines_end : (text : List ℕ) → length text ≡ 0 → lines_of text ≡ []
lines_end [] e = lines-none
lines_end (b ∷ bs) e = absurd (omega (arith, e))

-- ---- the one cut of a text

abbrev with_feed : List ℕ → List ℕ
with_feed bytes = bytes ++ 10 ∷ []

no_feed : (b : ℕ) → IsTrue (is_in_line b) → eqb b 10 ≡ false
no_feed b h = not-true (eqb b 10) h

apart_both : (b c : ℕ) → eqb c 10 ≡ false → (eqb b 13 && eqb c 10) ≡ false
apart_both b c e = elim (cases_Bool (eqb b 13)) [ inl y ↦ rw (y, e) refl | inr z ↦ rw z refl ]

-- a line that ends at a line feed
piece : (bytes t : List ℕ) → HasNoFeed bytes → lines_of (bytes ++ 10 ∷ t) ≡ without_cr bytes ∷ lines_of t
piece [] t none = lines-feed t
piece (b ∷ []) t (h, none) =
    elim (cases_Bool (eqb b 13)) [
      | inl y ↦
          let P : ℕ → Type 0 = λ x. lines_of (x ∷ 10 ∷ t) ≡ without_cr (x ∷ []) ∷ lines_of t in
          subst P (sym (eqb-true b 13 y)) (lines-cr t)
      | inr z ↦
          let f : (eqb b 13 && eqb 10 10) ≡ false = rw z refl in
          lines-more b 10 t (no_feed b h) f ∙ rw (lines-feed t, z) refl
    ]
piece (b ∷ c ∷ bs) t (h, (k, none)) =
    lines-more b c (bs ++ 10 ∷ t) (no_feed b h) (apart_both b c (no_feed c k)) ∙ rw (piece (c ∷ bs) t (k, none)) refl

rest_line : (rest : List ℕ) → HasNoFeed rest → lines_of rest ≡ last_line rest
rest_line [] none = lines-none
rest_line (b ∷ []) (h, none) = lines-one b (no_feed b h)
rest_line (b ∷ c ∷ bs) (h, (k, none)) =
    lines-more b c bs (no_feed b h) (apart_both b c (no_feed c k)) ∙ rw (rest_line (c ∷ bs) (k, none)) refl

cut : (pieces : List (List ℕ)) (rest : List ℕ) → AllByRecursion HasNoFeed pieces → HasNoFeed rest
    → lines_of (flat_map with_feed pieces ++ rest) ≡ map without_cr pieces ++ last_line rest
cut [] rest all none = rest_line rest none
cut (p ∷ ps) rest (h, all) none =
    let regroup : flat_map with_feed (p ∷ ps) ++ rest ≡ p ++ 10 ∷ (flat_map with_feed ps ++ rest) =
    append_assoc (p ++ 10 ∷ []) (flat_map with_feed ps) rest ∙ append_assoc p (10 ∷ []) (flat_map with_feed ps ++ rest) in
    ap lines_of regroup ∙ piece p (flat_map with_feed ps ++ rest) h ∙ ap (λ (x : List (List ℕ)). without_cr p ∷ x) (cut ps rest all none)

-- a text has one list of lines
pub lines_only : (text : List ℕ) (lines : List (List ℕ)) → AreLines text lines → lines ≡ lines_of text
lines_only text lines are = are.lines_are ∙ sym (cut are.before_feeds are.rest are.no_feed are.no_feed_behind) ∙ ap lines_of (sym are.text_is)

record Cut (text : List ℕ) : Type 0 where
  pieces : List (List ℕ)
  rest : List ℕ
  text_is : text ≡ flat_map with_feed pieces ++ rest
  no_feed : AllByRecursion HasNoFeed pieces
  no_feed_behind : HasNoFeed rest

byte_before : (b : ℕ) (bs : List ℕ) → IsTrue (is_in_line b) → Cut bs → Cut (b ∷ bs)
byte_before b bs h c = go c.pieces c.text_is c.no_feed
  where
    go : (pieces : List (List ℕ)) → bs ≡ flat_map with_feed pieces ++ c.rest → AllByRecursion HasNoFeed pieces → Cut (b ∷ bs)
    go [] e all = record { pieces = []; rest = b ∷ c.rest; text_is = ap (λ (x : List ℕ). b ∷ x) e; no_feed = tt; no_feed_behind = (h, c.no_feed_behind) }
    go (p ∷ ps) e (k, all) = record { pieces = (b ∷ p) ∷ ps; rest = c.rest; text_is = ap (λ (x : List ℕ). b ∷ x) e; no_feed = ((h, k), all); no_feed_behind = c.no_feed_behind }

cut_of : (text : List ℕ) → Cut text
cut_of [] = record { pieces = []; rest = []; text_is = refl; no_feed = tt; no_feed_behind = tt }
cut_of (b ∷ bs) =
    let c = cut_of bs in
    elim (cases_Bool (eqb b 10)) [
      | inl y ↦ record { pieces = [] ∷ c.pieces; rest = c.rest; text_is = feed_first b bs (flat_map with_feed c.pieces ++ c.rest) y c.text_is; no_feed = (tt, c.no_feed); no_feed_behind = c.no_feed_behind }
      | inr z ↦ byte_before b bs (solid b z) c
    ]
  where
    feed_first : (b : ℕ) (bs t : List ℕ) → eqb b 10 ≡ true → bs ≡ t → b ∷ bs ≡ 10 ∷ t
    feed_first b bs t e f = let k = eqb-true b 10 e in cc

    solid : (b : ℕ) → eqb b 10 ≡ false → IsTrue (is_in_line b)
    solid b e = rw e refl

-- every text has lines, and they are `lines_of` it
pub lines_are : (text : List ℕ) → AreLines text (lines_of text)
lines_are text =
    let c = cut_of text in
    record {
      before_feeds = c.pieces;
      rest = c.rest;
      text_is = c.text_is;
      no_feed = c.no_feed;
      no_feed_behind = c.no_feed_behind;
      lines_are = ap lines_of c.text_is ∙ cut c.pieces c.rest c.no_feed c.no_feed_behind;
    }
