-- Sizes as they are computed, up to the greatest number of 32 bits.
use Rattle.std.proofs.Common.{◌≡◌, ℕ, ◌+◌, ◌<◌, ◌≤◌, min, List, [], ◌∷◌, ◌++◌, map, take, length, get_or, sym, ap, ◌∙◌, arith, rules}
use Rattle.std.proofs.lemmas.List.{map_more, take_all}
use Rattle.c_types.specs.declared.expression.Operand.{Operand}
use Rattle.c_types.specs.declared.expression.Step.{Step}
use Rattle.c_types.specs.declared.expression.Expr.{Expr}
use Rattle.c_types.specs.declared.expression.Given.{Given}
use Rattle.c_types.specs.declared.expression.Given.TheVariants.{New, Old}
use Rattle.c_types.specs.declared.expression.Operand.TheViews.{roll-Expr, out-Expr, the_lemmas}
use Rattle.codegen.specs.Layout.{◌then◌, in_order, operand_code, step_code, expr_part}
use Rattle.codegen.specs.Sizes.{total, count_size, operand_sized, step_sized, expr_size}
use Rattle.codegen.specs.Making.{at_most_word}
use Rattle.codegen.proofs.Valuing.{expr_code_roll}
use Rattle.codegen.proofs.Measuring.{expr_size_roll}

pub roll_out : (e : Expr) → roll-Expr (out-Expr e) ≡ e
roll_out e = search (rules, the_lemmas)

pub size_expr : (e : Expr) → expr_size e ≡ operand_sized e.first + total (map step_sized e.steps)
size_expr e = ap expr_size (sym (roll_out e)) ∙ expr_size_roll [] (out-Expr e)

pub code_expr : (object : ℕ → ℕ) (e : Expr) → expr_part object e ≡ (operand_code object e.first then in_order (map (step_code object) e.steps))
code_expr object e = ap (expr_part object) (sym (roll_out e)) ∙ expr_code_roll object (out-Expr e)

-- ---- sums

-- a sum that is cut off, of numbers that are
pub cut_sum : (x y z n m : ℕ) → x ≡ at_most_word n → y ≡ at_most_word m → z ≡ min (x + y) 4294967295 → z ≡ at_most_word (n + m)
cut_sum x y z n m x_is y_is z_is = omega (arith, x_is, y_is, z_is)

pub cut_more : (x z n k : ℕ) → x ≡ at_most_word n → z ≡ min (x + k) 4294967295 → z ≡ at_most_word (n + k)
cut_more x z n k x_is z_is = omega (arith, x_is, z_is)

pub cut_is : (x n m : ℕ) → x ≡ at_most_word n → n ≡ m → x ≡ at_most_word m
cut_is x n m x_is same = x_is ∙ ap at_most_word same

pub total_push : (ns : List ℕ) (n : ℕ) → total (ns ++ n ∷ []) ≡ total ns + n
total_push [] n = omega arith
total_push (m ∷ ns) n = let rest = total_push ns n in omega (arith, rest)

-- one more of a list
pub size_next : {A : Type 0} (f : A → ℕ) (xs : List A) (i : ℕ) (a : A) (x y z : ℕ) → i < length xs → a ≡ get_or xs i a
    → x ≡ at_most_word (total (map f (take i xs))) → y ≡ at_most_word (f a) → z ≡ min (x + y) 4294967295
    → z ≡ at_most_word (total (map f (take (i + 1) xs)))
size_next f xs i a x y z within a_is x_is y_is z_is =
    cut_sum x y z _ _ x_is y_is z_is
    ∙ ap at_most_word (ap (λ b. total (map f (take i xs)) + f b) a_is ∙ sym (ap total (map_more f xs i a within) ∙ total_push (map f (take i xs)) (f (get_or xs i a))))

-- all of a list
pub size_all : {A : Type 0} (f : A → ℕ) (xs : List A) (i : ℕ) (x : ℕ) → length xs ≤ i → x ≡ at_most_word (total (map f (take i xs))) → x ≡ at_most_word (total (map f xs))
size_all f xs i x past x_is = x_is ∙ ap (λ l. at_most_word (total (map f l))) (take_all i xs past)

-- ---- an arm of a match

pub operand_arm : (o same : Operand) (n m : ℕ) → o ≡ same → operand_sized same ≡ m → n ≡ at_most_word m → n ≡ at_most_word (operand_sized o)
operand_arm o same n m is size n_is = n_is ∙ ap at_most_word (sym size ∙ ap operand_sized (sym is))

pub step_arm : (s same : Step) (n m : ℕ) → s ≡ same → step_sized same ≡ m → n ≡ at_most_word m → n ≡ at_most_word (step_sized s)
step_arm s same n m is size n_is = n_is ∙ ap at_most_word (sym size ∙ ap step_sized (sym is))

-- of a call, by its arguments
pub call_arm : (o same : Operand) (args args' : List Expr) (x n k : ℕ) → o ≡ same → operand_sized same ≡ total (map expr_size args) + k → args' ≡ args
    → x ≡ at_most_word (total (map expr_size args')) → n ≡ min (x + k) 4294967295 → n ≡ at_most_word (operand_sized o)
call_arm o same args args' x n k is size args_is x_is n_is =
    operand_arm o same n (total (map expr_size args) + k) is size
    (cut_more x n (total (map expr_size args)) k (x_is ∙ ap (λ a. at_most_word (total (map expr_size a))) args_is) n_is)

-- of a step with an operand on the right
pub right_arm : (s same : Step) (b b' : Expr) (x n m k : ℕ) → s ≡ same → step_sized same ≡ m → m ≡ expr_size b + k → b' ≡ b
    → x ≡ at_most_word (expr_size b') → n ≡ min (x + k) 4294967295 → n ≡ at_most_word (step_sized s)
right_arm s same b b' x n m k is size m_is b_is x_is n_is =
    step_arm s same n m is size (cut_is n (expr_size b + k) m (cut_more x n (expr_size b) k (x_is ∙ ap (λ e. at_most_word (expr_size e)) b_is) n_is) (sym m_is))

pub two_arm : (s same : Step) (b b' c c' : Expr) (x y z n : ℕ) → s ≡ same → step_sized same ≡ 1 + expr_size b + 1 + expr_size c → b' ≡ b → c' ≡ c
    → x ≡ at_most_word (expr_size b') → y ≡ at_most_word (expr_size c') → z ≡ min (x + y) 4294967295 → n ≡ min (z + 2) 4294967295
    → n ≡ at_most_word (step_sized s)
two_arm s same b b' c c' x y z n is size b_is c_is x_is y_is z_is n_is =
    let x' : x ≡ at_most_word (expr_size b) = x_is ∙ ap (λ e. at_most_word (expr_size e)) b_is in
    let y' : y ≡ at_most_word (expr_size c) = y_is ∙ ap (λ e. at_most_word (expr_size e)) c_is in
    let all : n ≡ at_most_word (expr_size b + expr_size c + 2) = cut_more z n _ 2 (cut_sum x y z _ _ x' y' z_is) n_is in
    step_arm s same n _ is size (cut_is n _ _ all (omega arith))

pub count_word : (n : ℕ) (given : Given) → n ≡ count_size given → n ≡ at_most_word (count_size given)
count_word n New is = is
count_word n Old is = is
