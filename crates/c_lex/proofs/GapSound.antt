-- What is read as a gap is one.
use Rattle.std.proofs.Common.{◌≡◌, ℕ, ◌⊎◌, ◌&&◌, cond, eqb, List, [], ◌∷◌, ◌++◌, Some, None, append_assoc, sym, subst, ◌∙◌, inl, inr}
use Rattle.std.proofs.lemmas.Bool.{eqb-true, and_parts}
use Rattle.c_lex.specs.Blanks.{is_blank, IsGap, blank, joined, joined_cr, block, line}
use Rattle.c_lex.specs.Reading.{after_line_end, after_close, from_line_end, after_comment, after_gap}
use Rattle.c_lex.proofs.CloseLaws.{chosen, after_close-sound}
use Rattle.c_lex.proofs.LineLaws.{from_line_end-sound}

after_line_end-sound : (t r : List ℕ) → after_line_end t ≡ Some r → (t ≡ 10 ∷ r) ⊎ (t ≡ 13 ∷ 10 ∷ r)
unfolding after_line_end
after_line_end-sound [] r e = absurd cc
after_line_end-sound (b ∷ []) r e =
    elim (chosen (eqb b 10) (Some []) None (Some r) e) [
      | inl (y, s) ↦ let f = eqb-true b 10 y in inl cc
      | inr (n, s) ↦ absurd cc
    ]
after_line_end-sound (b ∷ c ∷ bs) r e =
    elim (chosen (eqb b 10) (Some (c ∷ bs)) (cond (eqb b 13 && eqb c 10) (Some bs) None) (Some r) e) [
      | inl (y, s) ↦ let f = eqb-true b 10 y in inl cc
      | inr (n, s) ↦
          elim (chosen (eqb b 13 && eqb c 10) (Some bs) None (Some r) s) [
            | inl (y, s2) ↦
                let both = and_parts (eqb b 13) (eqb c 10) y in
                let f = eqb-true b 13 both.0 in
                let g = eqb-true c 10 both.1 in
                inr cc
            | inr (m, s2) ↦ absurd cc
          ]
    ]

slashes : (b c : ℕ) (cs rest : List ℕ) → b ≡ 47 → c ≡ 47 → cs ≡ rest → b ∷ c ∷ cs ≡ 47 ∷ 47 ∷ rest
slashes b c cs rest e f g = cc

line_gap : (b c : ℕ) (cs r : List ℕ) → b ≡ 47 → c ≡ 47 → Some (from_line_end cs) ≡ Some r → IsGap (b ∷ c ∷ cs) r
line_gap b c cs r e f is =
    let s = from_line_end-sound cs in
    let same : from_line_end cs ≡ r = cc in
    let P : List ℕ → Type 0 = λ x. IsGap (b ∷ c ∷ cs) x in
    subst P same (line s.body s.one s.ends s.unjoined (slashes b c cs (s.body ++ from_line_end cs) e f s.text_is))

slash_star : (b c : ℕ) (cs rest : List ℕ) → b ≡ 47 → c ≡ 42 → cs ≡ rest → b ∷ c ∷ cs ≡ 47 ∷ 42 ∷ rest
slash_star b c cs rest e f g = cc

block_gap : (b c : ℕ) (cs r : List ℕ) → b ≡ 47 → c ≡ 42 → after_close cs ≡ Some r → IsGap (b ∷ c ∷ cs) r
block_gap b c cs r e f is =
    let s = after_close-sound cs r is in
    block s.body s.none
    (slash_star b c cs (s.body ++ 42 ∷ 47 ∷ r) e f s.text_is ∙ sym (append_assoc (47 ∷ 42 ∷ s.body) (42 ∷ 47 ∷ []) r))

comment_gap : (b : ℕ) (bs r : List ℕ) → b ≡ 47 → after_comment bs ≡ Some r → IsGap (b ∷ bs) r
unfolding after_comment
comment_gap b [] r e is = absurd cc
comment_gap b (c ∷ cs) r e is =
    elim (chosen (eqb c 42) (after_close cs) (cond (eqb c 47) (Some (from_line_end cs)) None) (Some r) is) [
      | inl (y, s) ↦ block_gap b c cs r e (eqb-true c 42 y) s
      | inr (n, s) ↦
          elim (chosen (eqb c 47) (Some (from_line_end cs)) None (Some r) s) [
            | inl (y, s2) ↦ line_gap b c cs r e (eqb-true c 47 y) s2
            | inr (m, s2) ↦ absurd cc
          ]
    ]

joined_gap : (b : ℕ) (bs r : List ℕ) → b ≡ 92 → after_line_end bs ≡ Some r → IsGap (b ∷ bs) r
joined_gap b bs r e is =
    elim (after_line_end-sound bs r is) [
      | inl f ↦ joined cc
      | inr f ↦ joined_cr cc
    ]

pub after_gap-sound : (t r : List ℕ) → after_gap t ≡ Some r → IsGap t r
unfolding after_gap
after_gap-sound [] r e = absurd cc
after_gap-sound (b ∷ bs) r e =
    elim (chosen (is_blank b) (Some bs) (cond (eqb b 92) (after_line_end bs) (cond (eqb b 47) (after_comment bs) None)) (Some r) e) [
      | inl (y, s) ↦ blank b y cc
      | inr (n, s) ↦
          elim (chosen (eqb b 92) (after_line_end bs) (cond (eqb b 47) (after_comment bs) None) (Some r) s) [
            | inl (y, s2) ↦ joined_gap b bs r (eqb-true b 92 y) s2
            | inr (m, s2) ↦
                elim (chosen (eqb b 47) (after_comment bs) None (Some r) s2) [
                  | inl (y, s3) ↦ comment_gap b bs r (eqb-true b 47 y) s3
                  | inr (k, s3) ↦ absurd cc
                ]
          ]
    ]
