-- A gap is read as one, and an open comment as none.
use Rattle.std.proofs.Common.{◌≡◌, ℕ, ◌&&◌, Bool, true, false, cond, eqb, List, [], ◌∷◌, ◌++◌, Option, Some, None, append_assoc, refl, sym, ap, ◌∙◌, IsTrue, inl, inr}
use Rattle.std.specs.Prelude.{codes}
use Rattle.c_lex.specs.Blanks.{is_blank, HasNoClose, IsGap, blank, joined, joined_cr, block, line, IsOpenComment}
use Rattle.c_lex.specs.Reading.{after_line_end, after_close, from_line_end, after_comment, after_gap}
use Rattle.c_lex.proofs.CloseLaws.{chosen, after_close-sound, after_close-complete}
use Rattle.c_lex.proofs.LineLaws.{EndsAt, from_line_end-sound}

-- ---- two fronts of one text

-- one of them begins with the other
pub data Overlap (a b r s : List ℕ) : Type 0 where
  longer : (e : List ℕ) → b ≡ a ++ e → r ≡ e ++ s → Overlap a b r s
  shorter : (e : List ℕ) → a ≡ b ++ e → s ≡ e ++ r → Overlap a b r s

overlap_more : (x y : ℕ) (a b r s : List ℕ) → x ≡ y → Overlap a b r s → Overlap (x ∷ a) (y ∷ b) r s
overlap_more x y a b r s same (longer e f g) = longer e (cc) g
overlap_more x y a b r s same (shorter e f g) = shorter e (cc) g

pub overlap : (a b r s : List ℕ) → a ++ r ≡ b ++ s → Overlap a b r s
overlap [] b r s e = longer b refl e
overlap (x ∷ a) [] r s e = shorter (x ∷ a) refl (sym e)
overlap (x ∷ a) (y ∷ b) r s e =
    let first : x ≡ y = cc in
    let more : a ++ r ≡ b ++ s = cc in
    overlap_more x y a b r s first (overlap a b r s more)

-- ---- the end of a line

-- a line that ends here doesn't end later
ends_once : (t r s e : List ℕ) (one two : EndsAt t r) (other : EndsAt t s) → other.body ≡ one.body ++ e → r ≡ e ++ s → r ≡ s
ends_once t r s [] one two other f g = g
ends_once t r s (x ∷ e) one two other f g =
    elim one.ends [
      | inl nothing ↦ absurd cc
      | inr found ↦
          let first : x ≡ 10 = let h : r ≡ 10 ∷ found.0 = found.1 in cc in
          let split : other.body ≡ one.body ++ 10 ∷ e = cc in
          absurd (one.unjoined (λ nothing. absurd cc) (other.one one.body e split))
    ]

pub line_ends_once : (t r s : List ℕ) → EndsAt t r → EndsAt t s → r ≡ s
line_ends_once t r s one two =
    elim (overlap one.body two.body r s (sym one.text_is ∙ two.text_is)) [
      | longer e f g ↦ ends_once t r s e one one two f g
      | shorter e f g ↦ sym (ends_once t s r e two two one f g)
    ]

pub from_line_end-complete : (t r : List ℕ) → EndsAt t r → from_line_end t ≡ r
from_line_end-complete t r s = line_ends_once t (from_line_end t) r (from_line_end-sound t) s

-- ---- gaps

line_feed : (rest : List ℕ) → after_line_end (10 ∷ rest) ≡ Some rest
unfolding after_line_end
line_feed [] = refl
line_feed (b ∷ bs) = refl

blank_first : (b : ℕ) (x : Bool) (rest : List ℕ) (other : Option (List ℕ)) → IsTrue x → cond x (Some rest) other ≡ Some rest
blank_first b true rest other is = refl
blank_first b false rest other is = absurd cc

pub reads_blank : (b : ℕ) (rest : List ℕ) → IsTrue (is_blank b) → after_gap (b ∷ rest) ≡ Some rest
unfolding after_gap
reads_blank b rest is = blank_first b (is_blank b) rest (cond (eqb b 92) (after_line_end rest) (cond (eqb b 47) (after_comment rest) None)) is

reads_joined : (rest : List ℕ) → after_gap (92 ∷ 10 ∷ rest) ≡ Some rest
unfolding after_gap
reads_joined rest = line_feed rest

reads_joined_cr : (rest : List ℕ) → after_gap (92 ∷ 13 ∷ 10 ∷ rest) ≡ Some rest
unfolding after_gap after_line_end
reads_joined_cr rest = refl

pub reads_block : (t : List ℕ) → after_gap (47 ∷ 42 ∷ t) ≡ after_close t
unfolding after_gap after_comment
reads_block t = refl

pub reads_line : (t : List ℕ) → after_gap (47 ∷ 47 ∷ t) ≡ Some (from_line_end t)
unfolding after_gap after_comment
reads_line t = refl

gap_at : (text text2 rest : List ℕ) → text ≡ text2 → after_gap text2 ≡ Some rest → after_gap text ≡ Some rest
gap_at text text2 rest same e = ap after_gap same ∙ e

block_at : (text body rest : List ℕ) → HasNoClose body → text ≡ codes "/*" ++ body ++ codes "*/" ++ rest → after_gap text ≡ Some rest
block_at text body rest none is =
    gap_at text (47 ∷ 42 ∷ body ++ 42 ∷ 47 ∷ rest) rest (is ∙ append_assoc (47 ∷ 42 ∷ body) (42 ∷ 47 ∷ []) rest)
    (reads_block (body ++ 42 ∷ 47 ∷ rest) ∙ after_close-complete body rest none)

line_at : (text body rest : List ℕ) → EndsAt (body ++ rest) rest → text ≡ codes "//" ++ body ++ rest → after_gap text ≡ Some rest
line_at text body rest s is =
    gap_at text (47 ∷ 47 ∷ body ++ rest) rest is
    (reads_line (body ++ rest) ∙ ap (λ (x : List ℕ). Some x) (from_line_end-complete (body ++ rest) rest s))

pub after_gap-complete : (text rest : List ℕ) → IsGap text rest → after_gap text ≡ Some rest
after_gap-complete text rest (blank b is e) = gap_at text (b ∷ rest) rest e (reads_blank b rest is)
after_gap-complete text rest (joined e) = gap_at text (92 ∷ 10 ∷ rest) rest e (reads_joined rest)
after_gap-complete text rest (joined_cr e) = gap_at text (92 ∷ 13 ∷ 10 ∷ rest) rest e (reads_joined_cr rest)
after_gap-complete text rest (block body none e) = block_at text body rest none e
after_gap-complete text rest (line body one ends unjoined e) =
    line_at text body rest (record { body = body; text_is = refl; one = one; ends = ends; unjoined = unjoined }) e

-- just one text is behind a gap
pub gap_once : (text r s : List ℕ) → IsGap text r → IsGap text s → r ≡ s
gap_once text r s one two =
    let same : Some r ≡ Some s = sym (after_gap-complete text r one) ∙ after_gap-complete text s two in cc

-- ---- comments that stay open

has_close : (back : List ℕ) → after_close (42 ∷ 47 ∷ back) ≡ Some back
unfolding after_close
has_close back = refl

goes_on : (a b : ℕ) (bs : List ℕ) → after_close (a ∷ b ∷ bs) ≡ None → after_close (b ∷ bs) ≡ None
unfolding after_close
goes_on a b bs e =
    elim (chosen (eqb a 42 && eqb b 47) (Some bs) (after_close (b ∷ bs)) None e) [
      | inl (y, s) ↦ absurd cc
      | inr (n, s) ↦ s
    ]

pub none_closes : (t : List ℕ) → after_close t ≡ None → HasNoClose t
none_closes t e [] back = λ f. let found : after_close t ≡ Some back = ap after_close f ∙ has_close back in absurd cc
none_closes [] e (x ∷ xs) back = λ f. absurd cc
none_closes (a ∷ []) e (x ∷ []) back = λ f. absurd cc
none_closes (a ∷ []) e (x ∷ y ∷ ys) back = λ f. absurd cc
none_closes (a ∷ b ∷ bs) e (x ∷ xs) back = λ f.
    let g : b ∷ bs ≡ xs ++ codes "*/" ++ back = cc in
    none_closes (b ∷ bs) (goes_on a b bs e) xs back g

-- an open comment is no gap
pub open_comment-no_gap : (text rest : List ℕ) → IsOpenComment text → IsGap text rest → ⊥
open_comment-no_gap text rest (body, none, e) g =
    let reads : after_close body ≡ Some rest = sym (ap after_gap e ∙ reads_block body) ∙ after_gap-complete text rest g in
    let closes = after_close-sound body rest reads in
    none closes.body rest (closes.text_is ∙ sym (append_assoc closes.body (42 ∷ 47 ∷ []) rest))

-- where no gap begins, `/*` opens a comment
pub open_comment : (text bs : List ℕ) → text ≡ 47 ∷ 42 ∷ bs → after_gap text ≡ None → IsOpenComment text
open_comment text bs is e = (bs, none_closes bs (sym (ap after_gap is ∙ reads_block bs) ∙ e), is)

pub no_gap : (text : List ℕ) → after_gap text ≡ None → (rest : List ℕ) → IsGap text rest → ⊥
no_gap text e rest g = let f : after_gap text ≡ Some rest = after_gap-complete text rest g in absurd cc
