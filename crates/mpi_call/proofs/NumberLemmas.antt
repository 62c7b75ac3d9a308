-- The number and the place of a new communicator.
use Rattle.std.proofs.Common.{◌≡◌, ℕ, zero, suc, ◌+◌, Bool, true, false, cond, List, [], ◌∷◌, refl, ap, sym, ◌∙◌, arith}
use Rattle.std.specs.Prelude.{nat_lt, insert}
use Rattle.mpi_types.specs.declared.group.Communicator.{Communicator}
use Rattle.mpi_rules.specs.Collectives.{free_from}
use Rattle.mpi_rules.specs.Data.{is_taken, with_communicator}
use Rattle.mpi_call.specs.Numbers.{place_for}

pub free_at : (m k n p : ℕ) (list : List Communicator) → m ≡ k → n ≡ p → free_from m n list ≡ free_from k p list
free_at m k n p list same also = ap (λ (x : ℕ). free_from x n list) same ∙ ap (λ (x : ℕ). free_from k x list) also

chosen_first : (b : Bool) (x y : ℕ) → b ≡ true → cond b x y ≡ x
chosen_first true x y h = refl
chosen_first false x y h = absurd cc

chosen_second : (b : Bool) (x y : ℕ) → b ≡ false → cond b x y ≡ y
chosen_second true x y h = absurd cc
chosen_second false x y h = refl

pub free_here : (m n : ℕ) (list : List Communicator) → is_taken n list ≡ false → free_from m n list ≡ n
free_here zero n list h = refl
free_here (suc m) n list h = chosen_second (is_taken n list) (free_from m (n + 1) list) n h

taken_next : (m n : ℕ) (list : List Communicator) → is_taken n list ≡ true → free_from (suc m) n list ≡ free_from m (n + 1) list
taken_next m n list h = chosen_first (is_taken n list) (free_from m (n + 1) list) n h

pub free_next : (m k n p : ℕ) (list : List Communicator) → m ≡ k + 1 → p ≡ n + 1 → is_taken n list ≡ true → free_from m n list ≡ free_from k p list
free_next m k n p list same also taken =
    let first : m ≡ suc k = omega arith in
    ap (λ (x : ℕ). free_from x n list) first ∙ (taken_next k n list taken ∙ ap (λ (x : ℕ). free_from k x list) (sym also))

-- a communicator put where it belongs
placed_by : (b : Bool) (c new : Communicator) (list : List Communicator) (p : ℕ) → insert list p new ≡ with_communicator new list
    → insert (c ∷ list) (cond b 0 (p + 1)) new ≡ cond b (new ∷ c ∷ list) (c ∷ with_communicator new list)
placed_by true c new list p h = refl
placed_by false c new list p h =
    let next : p + 1 ≡ suc p = omega arith in
    ap (λ (k : ℕ). insert (c ∷ list) k new) next ∙ ap (λ (all : List Communicator). c ∷ all) h

pub placed : (new : Communicator) (list : List Communicator) → insert list (place_for new.number list) new ≡ with_communicator new list
placed new [] = refl
placed new (c ∷ list) = placed_by (nat_lt new.number c.number) c new list (place_for new.number list) (placed new list)
