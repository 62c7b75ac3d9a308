-- The need of each operand and of each step, and needs as they are computed, up to 255.
use Rattle.std.proofs.Common.{◌≡◌, ℕ, ◌+◌, ◌<◌, ◌≤◌, min, max, List, [], ◌∷◌, ◌++◌, map, take, length, get_or, refl, sym, ap, ◌∙◌, arith}
use Rattle.std.proofs.lemmas.List.{map_more, take_all, length-map, length-take-le}
use Rattle.am_base.specs.declared.calls.LibCall.{LibCall}
use Rattle.am_base.specs.declared.calls.MpiCall.{MpiCall}
use Rattle.rank_range.specs.declared.kinds.Kind.{Kind}
use Rattle.rank_range.specs.declared.operators.Unary.{Unary as UnaryOperator}
use Rattle.rank_range.specs.declared.operators.Binary.{Binary as Operator}
use Rattle.c_types.specs.declared.expression.Operand.{Operand, map-Operand}
use Rattle.c_types.specs.declared.expression.Operand.TheVariants as operand
use Rattle.c_types.specs.declared.expression.Step.{Step, map-Step}
use Rattle.c_types.specs.declared.expression.Step.TheVariants as step
use Rattle.c_types.specs.declared.expression.Expr.{Expr}
use Rattle.c_types.specs.declared.expression.Operand.TheOpen.{Operand-F, Step-F}
use Rattle.c_types.specs.declared.expression.Operand.TheViews.{roll-Operand, roll-Step, out-Expr}
use Rattle.c_types.specs.declared.expression.Operand.TheFolds.{fold-roll-Operand, fold-roll-Step, fold-roll-Expr}
use Rattle.c_types.specs.declared.expression.OffsetBy.{OffsetBy}
use Rattle.c_types.specs.declared.expression.Direction.{Direction}
use Rattle.c_types.specs.declared.expression.Counted.{Counted}
use Rattle.c_types.specs.declared.expression.Counted.TheVariants as counted
use Rattle.c_types.specs.declared.expression.Given.{Given}
use Rattle.c_types.specs.Need.{in_arguments, in_call, operand_step, step_step, expr_step, one_above, two_above, in_count, behind_all, need_first, need_behind, need_of}
use Rattle.codegen.proofs.Sizing.{roll_out}

first_rolls : (x : Operand-F Operand Step Expr)
    → need_first (roll-Operand x) ≡ operand_step (map-Operand Operand Step Expr ℕ (ℕ → ℕ) ℕ need_first need_behind need_of x)
unfolding need_first need_behind need_of
first_rolls x = fold-roll-Operand ℕ (ℕ → ℕ) ℕ operand_step step_step expr_step x

behind_rolls : (x : Step-F Operand Step Expr) (a : ℕ)
    → need_behind (roll-Step x) a ≡ step_step (map-Step Operand Step Expr ℕ (ℕ → ℕ) ℕ need_first need_behind need_of x) a
unfolding need_first need_behind need_of
behind_rolls x a = ap (λ (f : ℕ → ℕ). f a) (fold-roll-Step ℕ (ℕ → ℕ) ℕ operand_step step_step expr_step x)

pub need_expr : (e : Expr) → need_of e ≡ behind_all (need_first e.first) (map need_behind e.steps)
unfolding need_first need_behind need_of
need_expr e = ap need_of (sym (roll_out e)) ∙ fold-roll-Expr ℕ (ℕ → ℕ) ℕ operand_step step_step expr_step (out-Expr e)

pub need_number : (word : ℕ) → need_first (operand.Number word) ≡ 1
need_number word = ap need_first (sym (operand.rolls-Number word)) ∙ first_rolls (Operand-F.Number word)

pub need_local : (offset : ℕ) → need_first (operand.Local offset) ≡ 1
need_local offset = ap need_first (sym (operand.rolls-Local offset)) ∙ first_rolls (Operand-F.Local offset)

pub need_object : (number : ℕ) → need_first (operand.Object number) ≡ 1
need_object number = ap need_first (sym (operand.rolls-Object number)) ∙ first_rolls (Operand-F.Object number)

pub need_call : (function : ℕ) (args : List Expr) → need_first (operand.Call function args) ≡ in_call (map need_of args)
need_call function args = ap need_first (sym (operand.rolls-Call function args)) ∙ first_rolls (Operand-F.Call function args)

pub need_library : (call : LibCall) (args : List Expr) → need_first (operand.Library call args) ≡ in_call (map need_of args)
need_library call args = ap need_first (sym (operand.rolls-Library call args)) ∙ first_rolls (Operand-F.Library call args)

pub need_mpi : (call : MpiCall) (args : List Expr) → need_first (operand.Mpi call args) ≡ in_call (map need_of args)
need_mpi call args = ap need_first (sym (operand.rolls-Mpi call args)) ∙ first_rolls (Operand-F.Mpi call args)

pub behind_load : (k : Kind) (a : ℕ) → need_behind (step.Load k) a ≡ a
behind_load k a = ap (λ s. need_behind s a) (sym (step.rolls-Load k)) ∙ behind_rolls (Step-F.Load k) a

pub behind_convert : (from : Kind) (to : Kind) (a : ℕ) → need_behind (step.Convert from to) a ≡ a
behind_convert from to a = ap (λ s. need_behind s a) (sym (step.rolls-Convert from to)) ∙ behind_rolls (Step-F.Convert from to) a

pub behind_unary : (o : UnaryOperator) (k : Kind) (a : ℕ) → need_behind (step.Unary o k) a ≡ a
behind_unary o k a = ap (λ s. need_behind s a) (sym (step.rolls-Unary o k)) ∙ behind_rolls (Step-F.Unary o k) a

pub behind_not : (a : ℕ) → need_behind step.Not a ≡ a
behind_not a = ap (λ s. need_behind s a) (sym step.rolls-Not) ∙ behind_rolls Step-F.Not a

pub behind_member : (offset : ℕ) (a : ℕ) → need_behind (step.Member offset) a ≡ max 2 a
behind_member offset a = ap (λ s. need_behind s a) (sym (step.rolls-Member offset)) ∙ behind_rolls (Step-F.Member offset) a

pub behind_binary : (o : Operator) (k : Kind) (b : Expr) (a : ℕ) → need_behind (step.Binary o k b) a ≡ one_above a (need_of b)
behind_binary o k b a = ap (λ s. need_behind s a) (sym (step.rolls-Binary o k b)) ∙ behind_rolls (Step-F.Binary o k b) a

pub behind_greater : (k : Kind) (b : Expr) (a : ℕ) → need_behind (step.Greater k b) a ≡ one_above a (need_of b)
behind_greater k b a = ap (λ s. need_behind s a) (sym (step.rolls-Greater k b)) ∙ behind_rolls (Step-F.Greater k b) a

pub behind_at_least : (k : Kind) (b : Expr) (a : ℕ) → need_behind (step.AtLeast k b) a ≡ one_above a (need_of b)
behind_at_least k b a = ap (λ s. need_behind s a) (sym (step.rolls-AtLeast k b)) ∙ behind_rolls (Step-F.AtLeast k b) a

pub behind_offset : (by : OffsetBy) (scale : ℕ) (b : Expr) (a : ℕ) → need_behind (step.Offset by scale b) a ≡ max 3 (one_above a (need_of b))
behind_offset by scale b a = ap (λ s. need_behind s a) (sym (step.rolls-Offset by scale b)) ∙ behind_rolls (Step-F.Offset by scale b) a

pub behind_difference : (size : ℕ) (b : Expr) (a : ℕ) → need_behind (step.Difference size b) a ≡ max 3 (one_above a (need_of b))
behind_difference size b a = ap (λ s. need_behind s a) (sym (step.rolls-Difference size b)) ∙ behind_rolls (Step-F.Difference size b) a

pub behind_and : (b : Expr) (a : ℕ) → need_behind (step.And b) a ≡ max a (need_of b)
behind_and b a = ap (λ s. need_behind s a) (sym (step.rolls-And b)) ∙ behind_rolls (Step-F.And b) a

pub behind_or : (b : Expr) (a : ℕ) → need_behind (step.Or b) a ≡ max a (need_of b)
behind_or b a = ap (λ s. need_behind s a) (sym (step.rolls-Or b)) ∙ behind_rolls (Step-F.Or b) a

pub behind_conditional : (b : Expr) (c : Expr) (a : ℕ) → need_behind (step.Conditional b c) a ≡ max a (max (need_of b) (need_of c))
behind_conditional b c a = ap (λ s. need_behind s a) (sym (step.rolls-Conditional b c)) ∙ behind_rolls (Step-F.Conditional b c) a

pub behind_comma : (b : Expr) (a : ℕ) → need_behind (step.Comma b) a ≡ max a (need_of b)
behind_comma b a = ap (λ s. need_behind s a) (sym (step.rolls-Comma b)) ∙ behind_rolls (Step-F.Comma b) a

pub behind_assign : (k : Kind) (b : Expr) (a : ℕ) → need_behind (step.Assign k b) a ≡ one_above a (need_of b)
behind_assign k b a = ap (λ s. need_behind s a) (sym (step.rolls-Assign k b)) ∙ behind_rolls (Step-F.Assign k b) a

pub behind_copy : (size : ℕ) (b : Expr) (a : ℕ) → need_behind (step.Copy size b) a ≡ one_above a (need_of b)
behind_copy size b a = ap (λ s. need_behind s a) (sym (step.rolls-Copy size b)) ∙ behind_rolls (Step-F.Copy size b) a

pub behind_update : (o : Operator) (k : Kind) (at : Kind) (b : Expr) (a : ℕ) → need_behind (step.Update o k at b) a ≡ two_above a (need_of b)
behind_update o k at b a = ap (λ s. need_behind s a) (sym (step.rolls-Update o k at b)) ∙ behind_rolls (Step-F.Update o k at b) a

pub behind_advance : (direction : Direction) (scale : ℕ) (b : Expr) (a : ℕ) → need_behind (step.Advance direction scale b) a ≡ max 4 (two_above a (need_of b))
behind_advance direction scale b a = ap (λ s. need_behind s a) (sym (step.rolls-Advance direction scale b)) ∙ behind_rolls (Step-F.Advance direction scale b) a

pub behind_count : (counted : Counted) (direction : Direction) (given : Given) (a : ℕ) → need_behind (step.Count counted direction given) a ≡ in_count counted a
behind_count counted direction given a = ap (λ s. need_behind s a) (sym (step.rolls-Count counted direction given)) ∙ behind_rolls (Step-F.Count counted direction given) a

-- ---- arms

pub first_arm : (o same : Operand) (n m : ℕ) → o ≡ same → need_first same ≡ m → n ≡ min m 255 → n ≡ min (need_first o) 255
first_arm o same n m is need n_is = n_is ∙ ap (λ k. min k 255) (sym need ∙ ap need_first (sym is))

pub call_arm : (o same : Operand) (args args' : List Expr) (n : ℕ) → o ≡ same → need_first same ≡ in_call (map need_of args) → args' ≡ args
    → n ≡ min (in_call (map need_of args')) 255 → n ≡ min (need_first o) 255
call_arm o same args args' n is need args_are n_is = first_arm o same n _ is need (n_is ∙ ap (λ l. min (in_call (map need_of l)) 255) args_are)

pub behind_arm : (s same : Step) (a n m : ℕ) → s ≡ same → need_behind same a ≡ m → n ≡ min m 255 → n ≡ min (need_behind s a) 255
behind_arm s same a n m is need n_is = n_is ∙ ap (λ k. min k 255) (sym need ∙ ap (λ t. need_behind t a) (sym is))

at : (b b' : Expr) (x : ℕ) → b' ≡ b → x ≡ min (need_of b') 255 → x ≡ min (need_of b) 255
at b b' x is x_is = x_is ∙ ap (λ e. min (need_of e) 255) is

pub member_need : (a v n : ℕ) → v ≡ min a 255 → n ≡ max v 2 → n ≡ min (max 2 a) 255
member_need a v n v_is n_is = omega (arith, v_is, n_is)

pub above_arm : (s same : Step) (b b' : Expr) (a v x y n : ℕ) → s ≡ same → need_behind same a ≡ one_above a (need_of b) → b' ≡ b → v ≡ min a 255
    → x ≡ min (need_of b') 255 → y ≡ min (x + 1) 255 → n ≡ max v y → n ≡ min (need_behind s a) 255
above_arm s same b b' a v x y n is need b_is v_is x_is y_is n_is =
    let x' = at b b' x b_is x_is in
    behind_arm s same a n _ is need (omega (arith, v_is, x', y_is, n_is))

pub above_three_arm : (s same : Step) (b b' : Expr) (a v x y z n : ℕ) → s ≡ same → need_behind same a ≡ max 3 (one_above a (need_of b)) → b' ≡ b → v ≡ min a 255
    → x ≡ min (need_of b') 255 → y ≡ min (x + 1) 255 → z ≡ max v y → n ≡ max z 3 → n ≡ min (need_behind s a) 255
above_three_arm s same b b' a v x y z n is need b_is v_is x_is y_is z_is n_is =
    let x' = at b b' x b_is x_is in
    behind_arm s same a n _ is need (omega (arith, v_is, x', y_is, z_is, n_is))

pub beside_arm : (s same : Step) (b b' : Expr) (a v x n : ℕ) → s ≡ same → need_behind same a ≡ max a (need_of b) → b' ≡ b → v ≡ min a 255
    → x ≡ min (need_of b') 255 → n ≡ max v x → n ≡ min (need_behind s a) 255
beside_arm s same b b' a v x n is need b_is v_is x_is n_is =
    let x' = at b b' x b_is x_is in
    behind_arm s same a n _ is need (omega (arith, v_is, x', n_is))

pub choice_arm : (s : Step) (b b' c c' : Expr) (a v x y z n : ℕ) → s ≡ step.Conditional b c → b' ≡ b → c' ≡ c → v ≡ min a 255 → x ≡ min (need_of b') 255
    → y ≡ max v x → z ≡ min (need_of c') 255 → n ≡ max y z → n ≡ min (need_behind s a) 255
choice_arm s b b' c c' a v x y z n is b_is c_is v_is x_is y_is z_is n_is =
    let x' = at b b' x b_is x_is in
    let z' = at c c' z c_is z_is in
    behind_arm s _ a n _ is (behind_conditional b c a) (omega (arith, v_is, x', y_is, z', n_is))

pub twice_arm : (s same : Step) (b b' : Expr) (a v x y n : ℕ) → s ≡ same → need_behind same a ≡ two_above a (need_of b) → b' ≡ b → v ≡ min a 255
    → x ≡ min (need_of b') 255 → y ≡ min (x + 2) 255 → n ≡ max v y → n ≡ min (need_behind s a) 255
twice_arm s same b b' a v x y n is need b_is v_is x_is y_is n_is =
    let x' = at b b' x b_is x_is in
    behind_arm s same a n _ is need (omega (arith, v_is, x', y_is, n_is))

pub advance_arm : (s same : Step) (b b' : Expr) (a v x y z n : ℕ) → s ≡ same → need_behind same a ≡ max 4 (two_above a (need_of b)) → b' ≡ b → v ≡ min a 255
    → x ≡ min (need_of b') 255 → y ≡ min (x + 2) 255 → z ≡ max v y → n ≡ max z 4 → n ≡ min (need_behind s a) 255
advance_arm s same b b' a v x y z n is need b_is v_is x_is y_is z_is n_is =
    let x' = at b b' x b_is x_is in
    behind_arm s same a n _ is need (omega (arith, v_is, x', y_is, z_is, n_is))

pub number_count : (c : Counted) (k : Kind) (a v n : ℕ) → c ≡ counted.Number k → v ≡ min a 255 → n ≡ max v 3 → n ≡ min (in_count c a) 255
number_count c k a v n is v_is n_is = let e : n ≡ min (in_count (counted.Number k) a) 255 = omega (arith, v_is, n_is) in e ∙ ap (λ d. min (in_count d a) 255) (sym is)

pub pointer_count : (c : Counted) (scale a v n : ℕ) → c ≡ counted.Pointer scale → v ≡ min a 255 → n ≡ max v 4 → n ≡ min (in_count c a) 255
pointer_count c scale a v n is v_is n_is = let e : n ≡ min (in_count (counted.Pointer scale) a) 255 = omega (arith, v_is, n_is) in e ∙ ap (λ d. min (in_count d a) 255) (sym is)

-- ---- lists

behind_push : (a : ℕ) (fs : List (ℕ → ℕ)) (f : ℕ → ℕ) → behind_all a (fs ++ f ∷ []) ≡ f (behind_all a fs)
behind_push a [] f = refl
behind_push a (g ∷ fs) f = behind_push (g a) fs f

pub behind_next : (ss : List Step) (i : ℕ) (s : Step) (a n : ℕ) → i < length ss → s ≡ get_or ss i s → n ≡ min (need_behind s (behind_all a (map need_behind (take i ss)))) 255
    → n ≡ min (behind_all a (map need_behind (take (i + 1) ss))) 255
behind_next ss i s a n within s_is n_is =
    n_is ∙ ap (λ t. min (need_behind t (behind_all a (map need_behind (take i ss)))) 255) s_is
    ∙ sym (ap (λ fs. min (behind_all a fs) 255) (map_more need_behind ss i s within)
    ∙ ap (λ k. min k 255) (behind_push a (map need_behind (take i ss)) (need_behind (get_or ss i s))))

pub behind_whole : (ss : List Step) (i a n : ℕ) → length ss ≤ i → n ≡ min (behind_all a (map need_behind (take i ss))) 255 → n ≡ min (behind_all a (map need_behind ss)) 255
behind_whole ss i a n past n_is = n_is ∙ ap (λ l. min (behind_all a (map need_behind l)) 255) (take_all i ss past)

arguments_push : (before : ℕ) (ns : List ℕ) (n : ℕ) → in_arguments before (ns ++ n ∷ []) ≡ max (in_arguments before ns) (before + length ns + n)
arguments_push before [] n = omega arith
arguments_push before (m ∷ ns) n = let rest = arguments_push (before + 1) ns n in omega (arith, rest)

call_need : (i k n x y most most' before : ℕ) → most ≡ min (max 1 k) 255 → before ≡ min i 255 → x ≡ min n 255 → y ≡ min (x + before) 255 → most' ≡ max most y
    → most' ≡ min (max 1 (max k (0 + i + n))) 255
call_need i k n x y most most' before most_is before_is x_is y_is most'_is = omega (arith, most_is, before_is, x_is, y_is, most'_is)

pub call_next : (es : List Expr) (i : ℕ) (e : Expr) (x y most most' before : ℕ) → i < length es → e ≡ get_or es i e → most ≡ min (in_call (map need_of (take i es))) 255
    → before ≡ min i 255 → x ≡ min (need_of e) 255 → y ≡ min (x + before) 255 → most' ≡ max most y → most' ≡ min (in_call (map need_of (take (i + 1) es))) 255
call_next es i e x y most most' before within e_is most_is before_is x_is y_is most'_is =
    let ns = map need_of (take i es) in
    let count : length ns ≡ i = length-map (take i es) need_of ∙ length-take-le i es (omega (arith, within)) in
    let x' : x ≡ min (need_of (get_or es i e)) 255 = x_is ∙ ap (λ a. min (need_of a) 255) e_is in
    call_need i (in_arguments 0 ns) (need_of (get_or es i e)) x y most most' before most_is before_is x' y_is most'_is
    ∙ sym (ap (λ l. min (in_call l) 255) (map_more need_of es i e within)
    ∙ ap (λ k. min (max 1 k) 255) (arguments_push 0 ns (need_of (get_or es i e)))
    ∙ ap (λ k. min (max 1 (max (in_arguments 0 ns) (0 + k + need_of (get_or es i e)))) 255) count)

pub before_next : (i before before' : ℕ) → before ≡ min i 255 → before' ≡ min (before + 1) 255 → before' ≡ min (i + 1) 255
before_next i before before' is more = omega (arith, is, more)

pub call_whole : (es : List Expr) (i n : ℕ) → length es ≤ i → n ≡ min (in_call (map need_of (take i es))) 255 → n ≡ min (in_call (map need_of es)) 255
call_whole es i n past n_is = n_is ∙ ap (λ l. min (in_call (map need_of l)) 255) (take_all i es past)
