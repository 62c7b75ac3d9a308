-- The least rank whose keepers are both lost.
use Rattle.std.proofs.Common.{◌≡◌, ◌∙◌, ◌+◌, ◌<◌, ◌≤◌, ℕ, zero, suc, Bool, true, false, cond, List, [], ◌∷◌, length, get_or, Option, Some, None, refl, sym, ap, subst, inl, inr, arith}
use Rattle.std.proofs.lemmas.Bool.{cases_Bool}
use Rattle.buddy_ckpt.specs.declared.keepers.Pair.{Pair}
use Rattle.buddy_ckpt.specs.Keepers.{Lost, are_lost, lost_from, IsLeastLost, IsAnswer, LostIsLeast}

-- What is found from a rank's number on.
pub record IsFound (live r : ℕ) (ks : List Pair) (lost : Lost) : Type 0 where
  pub at : ℕ
  pub rank_is : lost.0.0 ≡ r + at
  pub inside : at < length ks
  pub saver : (d : Pair) → lost.1 ≡ (get_or ks at d).saver
  pub buddy : (d : Pair) → lost.2 ≡ (get_or ks at d).buddy
  pub both : are_lost live (record { saver = lost.1; buddy = lost.2 }) ≡ true
  pub least : (k : ℕ) (d : Pair) → k < at → are_lost live (get_or ks k d) ≡ false

abbrev pub Found : ℕ → ℕ → List Pair → Option Lost → Type 0
Found live r ks None = (k : ℕ) (d : Pair) → k < length ks → are_lost live (get_or ks k d) ≡ false
Found live r ks (Some lost) = IsFound live r ks lost

one_less : (live : ℕ) (x : Pair) (xs : List Pair) (n : ℕ) → are_lost live x ≡ false
    → ((k : ℕ) (d : Pair) → k < n → are_lost live (get_or xs k d) ≡ false) → (k : ℕ) (d : Pair) → k < suc n → are_lost live (get_or (x ∷ xs) k d) ≡ false
one_less live x xs n first rest zero d inside = first
one_less live x xs n first rest (suc k) d inside = rest k d (omega (arith, inside))

found_behind : (live r : ℕ) (x : Pair) (xs : List Pair) (o : Option Lost) → are_lost live x ≡ false → Found live (r + 1) xs o → Found live r (x ∷ xs) o
found_behind live r x xs None first rest = one_less live x xs (length xs) first rest
found_behind live r x xs (Some lost) first rest =
    record {
      at = suc rest.at;
      rank_is = rest.rank_is ∙ omega arith;
      inside = omega (arith, rest.inside);
      saver = rest.saver;
      buddy = rest.buddy;
      both = rest.both;
      least = one_less live x xs rest.at first rest.least;
    }

found : (live r : ℕ) (ks : List Pair) → Found live r ks (lost_from live r ks)
found live r [] = λ k d inside. absurd (omega (arith, inside))
found live r (x ∷ xs) = elim (cases_Bool (are_lost live x)) [
  | inl e ↦
      let here : IsFound live r (x ∷ xs) (record { 0 = r }, x.saver, x.buddy) =
      record {
        at = 0;
        rank_is = omega arith;
        inside = omega arith;
        saver = λ d. refl;
        buddy = λ d. refl;
        both = e;
        least = λ k d below. absurd (omega (arith, below));
      } in
      subst (λ (b : Bool). Found live r (x ∷ xs) (cond b (Some (record { 0 = r }, x.saver, x.buddy)) (lost_from live (r + 1) xs)))
      (sym e) here
  | inr e ↦
      subst (λ (b : Bool). Found live r (x ∷ xs) (cond b (Some (record { 0 = r }, x.saver, x.buddy)) (lost_from live (r + 1) xs)))
      (sym e) (found_behind live r x xs (lost_from live (r + 1) xs) e (found live (r + 1) xs))
]

answer : (live : ℕ) (ks : List Pair) (o : Option Lost) → Found live 0 ks o → IsAnswer live ks o
answer live ks None f = f
answer live ks (Some lost) f =
    let here : lost.0.0 ≡ f.at = f.rank_is ∙ omega arith in
    record {
      inside = subst (λ n. n < length ks) (sym here) f.inside;
      keepers_are = λ d. (
        subst (λ n. lost.1 ≡ (get_or ks n d).saver) (sym here) (f.saver d),
        subst (λ n. lost.2 ≡ (get_or ks n d).buddy) (sym here) (f.buddy d),
      );
      both = f.both;
      least = λ r d below. f.least r d (subst (λ n. r < n) here below);
    }

pub lost_is_least : LostIsLeast
lost_is_least live ks = answer live ks (lost_from live 0 ks) (found live 0 ks)
