-- What `parse` gives for the values of `--ranks` and `--ticks`.
use Rattle.std.proofs.Common.{◌≡◌, ℕ, ◌+◌, ◌-◌, ◌*◌, ◌^◌, ◌<◌, ◌&&◌, Bool, true, false, cond, leb, List, None, Some, Result, Ok, Err, refl, sym, ap, ◌∙◌, fold, arith, rules}
use Rattle.std.proofs.lemmas.Bool.{and_parts, and_right, leb-true, lt-leb, cond-false}
use Rattle.std.proofs.lemmas.Option.{none-some, same_Some}
use Rattle.std.proofs.lemmas.Str.Parse.{IsNumeralModel, numerals_by_fold, parse_digits}
use Rattle.std.specs.Bool.{then_some}
use Rattle.std.specs.List.{list_all}
use Rattle.std.specs.Result.{OkIff, result_ok}
use Rattle.std.specs.Str.Parse.{ParsesUnsigned}
use Rattle.run_words.specs.Words.{is_digit, number_of}
use Rattle.run_words.specs.steps.Reading.{is_number, is_ranks_value, ranks_said, is_ticks_value, ticks_said}

-- the number that digits spell behind those of another
abbrev number_after : ℕ → List ℕ → ℕ
number_after n word = fold (λ m b. 10 * m + (b - 48)) n word

own : IsNumeralModel (λ word. list_all is_digit word ≡ true) (number_after 0)
own = numerals_by_fold _ (search rules) number_after (search rules)

OkIff-like : {E : Type 0} (r : Result ℕ E) (P Q : Type 0) (v : ℕ) → (P → Q) → (Q → P) → OkIff r P v → OkIff r Q v
OkIff-like (Ok x) P Q v to from h = (to h.0, h.1)
OkIff-like (Err e) P Q v to from h = λ q. h (from q)

-- a number's digits are read, unless it is above the type's greatest
pub parsed : {E : Type 0} (bits : ℕ) (word : List ℕ) (r : Result ℕ E) → is_number word ≡ true → ParsesUnsigned bits 10 word r
    → OkIff r (number_of word < 2 ^ bits) (number_of word)
parsed bits word r e h =
    let digits = and_parts _ _ e in
    let long = leb-true _ _ (and_parts _ _ digits.0).0 in
    OkIff-like r _ _ _ (λ p. p.1) (λ q. (long, q)) (parse_digits own bits word r h digits.1)

above : (n : ℕ) → (n < 2 ^ 16 → ⊥) → 256 < n
above n h = omega arith

pub ranks_said-large : {E : Type 0} (word : List ℕ) (r : Result ℕ E) → OkIff r (number_of word < 2 ^ 16) (number_of word)
    → None ≡ result_ok r → None ≡ ranks_said word
ranks_said-large word (Ok x) h e = absurd (none-some x e)
ranks_said-large word (Err d) h e = sym (cond-false _ _ _ (and_right _ _ (lt-leb (number_of word) 256 (above (number_of word) h))))

then_some-cond : (b : Bool) (x : ℕ) → then_some b x ≡ cond b (Some x) None
then_some-cond true x = refl
then_some-cond false x = refl

pub ranks_said-read : {E : Type 0} (word : List ℕ) (r : Result ℕ E) (ranks : ℕ) (fits : Bool) → is_number word ≡ true
    → OkIff r (number_of word < 2 ^ 16) (number_of word)
    → Some ranks ≡ result_ok r → fits ≡ (leb 1 ranks && leb ranks 256) → then_some fits ranks ≡ ranks_said word
ranks_said-read word (Ok x) ranks fits number h e f =
    let same : ranks ≡ number_of word = same_Some ranks x e ∙ h.1 in
    let value : is_ranks_value word ≡ (leb 1 (number_of word) && leb (number_of word) 256) =
    ap (λ b. b && leb 1 (number_of word) && leb (number_of word) 256) number in
    let test : fits ≡ is_ranks_value word = f ∙ ap (λ n. leb 1 n && leb n 256) same ∙ sym value in
    then_some-cond fits ranks ∙ ap (λ b. cond b (Some ranks) None) test
    ∙ ap (λ n. cond (is_ranks_value word) (Some n) None) same
ranks_said-read word (Err d) ranks fits number h e f = absurd (none-some ranks (sym e))

beyond : (n : ℕ) → (n < 2 ^ 64 → ⊥) → 16000000 < n
beyond n h = omega arith

pub ticks_said-large : {E : Type 0} (word : List ℕ) (r : Result ℕ E) → OkIff r (number_of word < 2 ^ 64) (number_of word)
    → None ≡ result_ok r → None ≡ ticks_said word
ticks_said-large word (Ok x) h e = absurd (none-some x e)
ticks_said-large word (Err d) h e = sym (cond-false _ _ _ (and_right _ _ (lt-leb (number_of word) 16000000 (beyond (number_of word) h))))

pub ticks_said-read : {E : Type 0} (word : List ℕ) (r : Result ℕ E) (ticks : ℕ) (fits : Bool) → is_number word ≡ true
    → OkIff r (number_of word < 2 ^ 64) (number_of word)
    → Some ticks ≡ result_ok r → fits ≡ leb ticks 16000000 → then_some fits ticks ≡ ticks_said word
ticks_said-read word (Ok x) ticks fits number h e f =
    let same : ticks ≡ number_of word = same_Some ticks x e ∙ h.1 in
    let value : is_ticks_value word ≡ leb (number_of word) 16000000 =
    ap (λ b. b && leb (number_of word) 16000000) number in
    let test : fits ≡ is_ticks_value word = f ∙ ap (λ n. leb n 16000000) same ∙ sym value in
    then_some-cond fits ticks ∙ ap (λ b. cond b (Some ticks) None) test
    ∙ ap (λ n. cond (is_ticks_value word) (Some n) None) same
ticks_said-read word (Err d) ticks fits number h e f = absurd (none-some ticks (sym e))
