-- The longest run of bytes of one class at the front of a text.
use Rattle.std.proofs.Common.{◌≡◌, ℕ, suc, ◌+◌, Bool, List, [], ◌∷◌, ◌++◌, length, take, drop, refl, sym, ap, ◌∙◌, arith, inl, inr}
use Rattle.std.specs.Prelude.{IsTrue}
use Rattle.std.specs.List.{prefix_len, AllByRecursion}
use Rattle.std.proofs.lemmas.Bool.{cases_Bool, not-true}
use Rattle.std.proofs.Math.Seq.{drop-append_seam, take-append_seam}
use Rattle.c_lex.specs.Blanks.{NotFirst}

pub one_more : (n : ℕ) → 1 + n ≡ suc n
one_more n = omega arith

pub run-length : (p : ℕ → Bool) (run rest : List ℕ) → AllByRecursion (λ b. IsTrue (p b)) run → NotFirst p rest
    → prefix_len p (run ++ rest) ≡ length run
run-length p [] [] all ends = refl
run-length p [] (b ∷ bs) all ends = rw (not-true (p b) ends) refl
run-length p (x ∷ xs) rest all ends = rw (all.0, one_more) (ap (λ (n : ℕ). suc n) (run-length p xs rest all.1 ends))

pub run-all : (p : ℕ → Bool) (text : List ℕ) → AllByRecursion (λ b. IsTrue (p b)) (take (prefix_len p text) text)
run-all p [] = tt
run-all p (b ∷ bs) =
    elim (cases_Bool (p b)) [
      | inl y ↦ rw (y, one_more) (y, run-all p bs)
      | inr n ↦ rw n tt
    ]

pub run-stops : (p : ℕ → Bool) (text : List ℕ) → NotFirst p (drop (prefix_len p text) text)
run-stops p [] = tt
run-stops p (b ∷ bs) =
    elim (cases_Bool (p b)) [
      | inl y ↦ rw (y, one_more) (run-stops p bs)
      | inr n ↦ rw (n, n) refl
    ]

-- a longest run, and what is behind it, are cut by its length
pub cut-run : (p : ℕ → Bool) (text run rest : List ℕ) → text ≡ run ++ rest → AllByRecursion (λ b. IsTrue (p b)) run → NotFirst p rest
    → (run ≡ take (prefix_len p text) text) × (rest ≡ drop (prefix_len p text) text)
cut-run p text run rest text_is all ends =
    let len : prefix_len p text ≡ length run = ap (prefix_len p) text_is ∙ run-length p run rest all ends in (
      sym (ap (λ n. take n text) len ∙ ap (take (length run)) text_is ∙ take-append_seam run rest),
      sym (ap (λ n. drop n text) len ∙ ap (drop (length run)) text_is ∙ drop-append_seam run rest),
    )
