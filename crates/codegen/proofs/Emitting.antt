-- What the emitters of expressions add, from what their steps add.
use Rattle.std.proofs.Common.{◌≡◌, ℕ, Bool, ◌+◌, ◌<◌, ◌≤◌, min, true, false, List, [], ◌∷◌, ◌++◌, map, take, length, get_or, refl, sym, ap, ◌∙◌, subst, arith, append_assoc, length-append}
use Rattle.std.proofs.lemmas.List.{append-nil, map_more, take_all, length-map}
use Rattle.am_base.specs.declared.calls.MpiCall.{MpiCall}
use Rattle.vm_code.specs.declared.instr.Instr.{Instr}
use Rattle.vm_code.specs.declared.instr.Instr.TheVariants as instr
use Rattle.rank_range.specs.declared.kinds.Kind.{Kind}
use Rattle.rank_range.specs.declared.kinds.Kind.TheVariants as kind
use Rattle.rank_range.specs.declared.operators.Binary.{Binary as Operator}
use Rattle.c_types.specs.declared.expression.Direction.{Direction}
use Rattle.c_types.specs.declared.expression.Operand.{Operand}
use Rattle.c_types.specs.declared.expression.Operand.TheVariants as operand
use Rattle.c_types.specs.declared.expression.Step.{Step}
use Rattle.c_types.specs.declared.expression.Step.TheVariants as step
use Rattle.c_types.specs.declared.expression.Expr.{Expr}
use Rattle.c_types.specs.declared.expression.Operand.TheOpen.{Step-F}
use Rattle.c_types.specs.declared.expression.OffsetBy.{OffsetBy}
use Rattle.c_types.specs.declared.expression.OffsetBy.TheVariants.{PointerPlusNumber, NumberPlusPointer, PointerMinusNumber}
use Rattle.codegen.specs.declared.draft.Draft.{Draft}
use Rattle.codegen.specs.Layout.{Part, nothing, one, ◌then◌, over, truths, jump_where, in_order, converted, on_words, scaled, moving, offset_front, offset_back, offset_part, step_part, operand_code, step_code, expr_part}
use Rattle.codegen.specs.Sizes.{expr_size}
use Rattle.codegen.specs.Making.{Adds, at_most_word}
use Rattle.codegen.proofs.Measuring.{measured}
use Rattle.codegen.proofs.Shaping.{Sized}
use Rattle.codegen.proofs.Adding.{adds_then, adds_over, adds_over_last}
use Rattle.codegen.proofs.Parts.{code_operand_object, code_operand_mpi, code_step_conditional}
use Rattle.codegen.proofs.Sizing.{code_expr, cut_more}

-- ---- parts one behind the other

-- parts that are the same wherever they stand
same_part : (a b : Part) → ((place : ℕ) → a place ≡ b place) → a ≡ b
same_part a b same = λ i place. same place i

pub then_assoc : (a b c : Part) → ((a then b) then c) ≡ (a then (b then c))
unfolding ◌then◌
then_assoc a b c = same_part ((a then b) then c) (a then (b then c)) (λ p.
    let x = a p in
    let y = b (p + length x) in
    let e : p + length (x ++ y) ≡ p + length x + length y = omega (arith, length-append x y) in
    append_assoc x y (c (p + length (x ++ y))) ∙ ap (λ q. x ++ (y ++ c q)) e)

pub then_nothing : (a : Part) → (a then nothing) ≡ a
unfolding ◌then◌
then_nothing a = same_part (a then nothing) a (λ p. append-nil (a p))

pub nothing_then : (a : Part) → (nothing then a) ≡ a
unfolding ◌then◌
nothing_then a = same_part (nothing then a) a (λ p. let e : p + 0 ≡ p = omega arith in ap a e)

pub in_order_push : (ps : List Part) (p : Part) → in_order (ps ++ p ∷ []) ≡ (in_order ps then p)
in_order_push [] p = then_nothing p ∙ sym (nothing_then p)
in_order_push (a ∷ ps) p = ap (λ b. a then b) (in_order_push ps p) ∙ sym (then_assoc a (in_order ps) p)

-- one more of a list
pub adds_next : {A : Type 0} (d0 d1 d2 : Draft) (f : A → Part) (xs : List A) (i : ℕ) (a : A) → i < length xs → a ≡ get_or xs i a
    → Adds d0 d1 (in_order (map f (take i xs))) → Adds d1 d2 (f a) → Adds d0 d2 (in_order (map f (take (i + 1) xs)))
adds_next d0 d1 d2 f xs i a within a_is x y =
    let more : in_order (map f (take (i + 1) xs)) ≡ (in_order (map f (take i xs)) then f (get_or xs i a)) =
    ap in_order (map_more f xs i a within) ∙ in_order_push (map f (take i xs)) (f (get_or xs i a)) in
    subst (Adds d0 d2) (sym more) (adds_then d0 d1 d2 _ _ x (subst (λ b. Adds d1 d2 (f b)) a_is y))

-- all of a list
pub adds_all : {A : Type 0} (d0 d1 : Draft) (f : A → Part) (xs : List A) (i : ℕ) → length xs ≤ i → Adds d0 d1 (in_order (map f (take i xs)))
    → Adds d0 d1 (in_order (map f xs))
adds_all d0 d1 f xs i past x = subst (λ l. Adds d0 d1 (in_order (map f l))) (take_all i xs past) x

pub sized_expr : (object : ℕ → ℕ) (e : Expr) → Sized (expr_part object e) (expr_size e)
sized_expr object e = record { by = (measured [] object e).sized }

-- ---- expressions and operands

module _ (object : ℕ → ℕ) where
  pub expr_adds : (d0 d1 d2 : Draft) (e : Expr) (steps : List Step) → steps ≡ e.steps → Adds d0 d1 (operand_code object e.first)
      → Adds d1 d2 (in_order (map (step_code object) steps)) → Adds d0 d2 (expr_part object e)
  expr_adds d0 d1 d2 e steps steps_are x y =
      subst (Adds d0 d2) (sym (code_expr object e)) (adds_then d0 d1 d2 _ _ x (subst (λ l. Adds d1 d2 (in_order (map (step_code object) l))) steps_are y))

  pub operand_named : (d e : Draft) (o same : Operand) (p : Part) → o ≡ same → operand_code object same ≡ p → Adds d e p → Adds d e (operand_code object o)
  operand_named d e o same p is code x = subst (Adds d e) (sym (ap (operand_code object) is ∙ code)) x

  pub object_adds : (d e : Draft) (o : Operand) (number n : ℕ) → o ≡ operand.Object number → n ≡ object number → Adds d e (one (instr.Global n)) → Adds d e (operand_code object o)
  object_adds d e o number n is n_is x =
      operand_named d e o _ _ is (code_operand_object object number) (subst (λ k. Adds d e (one (instr.Global k))) n_is x)

  -- the number of arguments
  count_is : (args : List Expr) (n : ℕ) → n ≡ length args → n ≡ length (map (expr_part object) args)
  count_is args n n_is = n_is ∙ sym (length-map args (expr_part object))

  args_added : (d e : Draft) (args args' : List Expr) → args' ≡ args → Adds d e (in_order (map (expr_part object) args')) → Adds d e (in_order (map (expr_part object) args))
  args_added d e args args' is x = subst (λ l. Adds d e (in_order (map (expr_part object) l))) is x

  pub call_adds : (i : ℕ → Instr) (d0 d1 d2 : Draft) (o same : Operand) (args args' : List Expr) (n : ℕ) → o ≡ same
      → operand_code object same ≡ (in_order (map (expr_part object) args) then one (i (length (map (expr_part object) args))))
      → args' ≡ args → n ≡ length args → Adds d0 d1 (in_order (map (expr_part object) args')) → Adds d1 d2 (one (i n)) → Adds d0 d2 (operand_code object o)
  call_adds i d0 d1 d2 o same args args' n is code args_are n_is x y =
      operand_named d0 d2 o same _ is code
      (adds_then d0 d1 d2 _ _ (args_added d0 d1 args args' args_are x) (subst (λ k. Adds d1 d2 (one (i k))) (count_is args n n_is) y))

  pub mpi_adds : (d0 d1 d2 d3 : Draft) (o : Operand) (call : MpiCall) (args args' : List Expr) (n m : ℕ) → o ≡ operand.Mpi call args → args' ≡ args
      → n ≡ length args → m ≡ length args → Adds d0 d1 (in_order (map (expr_part object) args')) → Adds d1 d2 (one (instr.Mpi call n false))
      → Adds d2 d3 (one (instr.Mpi call m true)) → Adds d0 d3 (operand_code object o)
  mpi_adds d0 d1 d2 d3 o call args args' n m is args_are n_is m_is x y z =
      operand_named d0 d3 o _ _ is (code_operand_mpi object call args)
      (adds_then d0 d1 d3 _ _ (args_added d0 d1 args args' args_are x) (adds_then d1 d2 d3 _ _
      (subst (λ k. Adds d1 d2 (one (instr.Mpi call k false))) (count_is args n n_is) y)
      (subst (λ k. Adds d2 d3 (one (instr.Mpi call k true))) (count_is args m m_is) z)))

  -- ---- steps

  pub step_named : (d e : Draft) (s same : Step) (p : Part) → s ≡ same → step_code object same ≡ p → Adds d e p → Adds d e (step_code object s)
  step_named d e s same p is code x = subst (Adds d e) (sym (ap (step_code object) is ∙ code)) x

  right_added : (d e : Draft) (b b' : Expr) → b' ≡ b → Adds d e (expr_part object b') → Adds d e (expr_part object b)
  right_added d e b b' is x = subst (λ c. Adds d e (expr_part object c)) is x

  -- an operand on the right, with a part behind it, before it, or both
  pub behind_adds : (d0 d1 d2 : Draft) (b b' : Expr) (p : Part) → b' ≡ b → Adds d0 d1 (expr_part object b') → Adds d1 d2 p → Adds d0 d2 (expr_part object b then p)
  behind_adds d0 d1 d2 b b' p b_is x y = adds_then d0 d1 d2 _ p (right_added d0 d1 b b' b_is x) y

  pub before_adds : (d0 d1 d2 : Draft) (b b' : Expr) (p : Part) → b' ≡ b → Adds d0 d1 p → Adds d1 d2 (expr_part object b') → Adds d0 d2 (p then expr_part object b)
  before_adds d0 d1 d2 b b' p b_is x y = adds_then d0 d1 d2 p _ x (right_added d1 d2 b b' b_is y)

  between_adds : (d0 d1 d2 d3 : Draft) (b b' : Expr) (p q : Part) → b' ≡ b → Adds d0 d1 p → Adds d1 d2 (expr_part object b') → Adds d2 d3 q
      → Adds d0 d3 (p then expr_part object b then q)
  between_adds d0 d1 d2 d3 b b' p q b_is x y z = adds_then d0 d1 d3 p _ x (behind_adds d1 d2 d3 b b' q b_is y z)

  offset_cut : (by : OffsetBy) (scale : ℕ) (b : Part) → offset_part by scale b ≡ (offset_front by scale then b then offset_back by scale)
  offset_cut PointerPlusNumber scale b = sym (nothing_then _)
  offset_cut NumberPlusPointer scale b = refl
  offset_cut PointerMinusNumber scale b = sym (nothing_then _)

  pub offset_adds : (d0 d1 d2 d3 : Draft) (by : OffsetBy) (scale : ℕ) (b b' : Expr) → b' ≡ b → Adds d0 d1 (offset_front by scale) → Adds d1 d2 (expr_part object b')
      → Adds d2 d3 (offset_back by scale) → Adds d0 d3 (offset_part by scale (expr_part object b))
  offset_adds d0 d1 d2 d3 by scale b b' b_is x y z =
      subst (Adds d0 d3) (sym (offset_cut by scale (expr_part object b))) (between_adds d0 d1 d2 d3 b b' (offset_front by scale) (offset_back by scale) b_is x y z)

  pub update_adds : (d0 d1 d2 d3 : Draft) (o : Operator) (k at : Kind) (b b' : Expr) → b' ≡ b → Adds d0 d1 (one instr.Dup then one (instr.Load k) then converted k at)
      → Adds d1 d2 (expr_part object b') → Adds d2 d3 (one (instr.Binary o at) then converted at k then one (instr.Store k))
      → Adds d0 d3 (step_part (Step-F.Update o k at (expr_part object b)))
  update_adds d0 d1 d2 d3 o k at b b' b_is x y z =
      subst (Adds d0 d3) (then_assoc (one instr.Dup) (one (instr.Load k) then converted k at) _ ∙ ap (λ p. one instr.Dup then p) (then_assoc (one (instr.Load k)) (converted k at) _))
      (between_adds d0 d1 d2 d3 b b' (one instr.Dup then one (instr.Load k) then converted k at) (one (instr.Binary o at) then converted at k then one (instr.Store k)) b_is x y z)

  pub advance_adds : (d0 d1 d2 d3 : Draft) (direction : Direction) (scale : ℕ) (b b' : Expr) → b' ≡ b → Adds d0 d1 (one instr.Dup then one (instr.Load kind.UnsignedLong))
      → Adds d1 d2 (expr_part object b') → Adds d2 d3 (scaled scale then on_words (moving direction) then one (instr.Store kind.UnsignedLong))
      → Adds d0 d3 (step_part (Step-F.Advance direction scale (expr_part object b)))
  advance_adds d0 d1 d2 d3 direction scale b b' b_is x y z =
      subst (Adds d0 d3) (then_assoc (one instr.Dup) (one (instr.Load kind.UnsignedLong)) _)
      (between_adds d0 d1 d2 d3 b b' (one instr.Dup then one (instr.Load kind.UnsignedLong)) (scaled scale then on_words (moving direction) then one (instr.Store kind.UnsignedLong)) b_is x y z)

  -- ---- jumps over operands

  pub decided_adds : (d0 d1 d2 d3 : Draft) (decisive : Bool) (b b1 b2 : Expr) (x z to : ℕ) (i : Instr) → b1 ≡ b → b2 ≡ b → x ≡ at_most_word (expr_size b1)
      → z ≡ min (x + 4) 4294967295 → ((n : ℕ) → z ≡ at_most_word n → to ≡ at_most_word (length d0.instrs + n)) → i ≡ jump_where decisive to
      → Adds d0 d1 (one i) → Adds d1 d2 (expr_part object b2) → Adds d2 d3 (truths decisive) → Adds d0 d3 (over (jump_where decisive) 3 (expr_part object b) then truths decisive)
  unfolding truths
  decided_adds d0 d1 d2 d3 decisive b b1 b2 x z to i b1_is b2_is x_is z_is to_is i_is j a t =
      let four = t.count in
      let x' : x ≡ at_most_word (expr_size b) = x_is ∙ ap (λ e. at_most_word (expr_size e)) b1_is in
      adds_over d0 d1 d2 d3 (jump_where decisive) 3 (expr_size b) to (expr_part object b) (truths decisive) (sized_expr object b)
      (to_is (expr_size b + (1 + 3)) (cut_more x z (expr_size b) 4 x' z_is)) (omega (arith, four)) (subst (λ k. Adds d0 d1 (one k)) i_is j) (right_added d1 d2 b b2 b2_is a) t

  pub otherwise_adds : (d0 d1 d2 : Draft) (b b1 b2 : Expr) (x z to : ℕ) → b1 ≡ b → b2 ≡ b → x ≡ at_most_word (expr_size b1) → z ≡ min (x + 1) 4294967295
      → ((n : ℕ) → z ≡ at_most_word n → to ≡ at_most_word (length d0.instrs + n)) → Adds d0 d1 (one (instr.Jump to)) → Adds d1 d2 (expr_part object b2)
      → Adds d0 d2 (over instr.Jump 0 (expr_part object b))
  otherwise_adds d0 d1 d2 b b1 b2 x z to b1_is b2_is x_is z_is to_is j a =
      let x' : x ≡ at_most_word (expr_size b) = x_is ∙ ap (λ e. at_most_word (expr_size e)) b1_is in
      adds_over_last d0 d1 d2 instr.Jump (expr_size b) to (expr_part object b) (sized_expr object b)
      (to_is (expr_size b + 1) (cut_more x z (expr_size b) 1 x' z_is)) j (right_added d1 d2 b b2 b2_is a)

  pub conditional_adds : (d0 d1 d2 d3 : Draft) (s : Step) (b b1 b2 c : Expr) (x z to : ℕ) → s ≡ step.Conditional b c → b1 ≡ b → b2 ≡ b
      → x ≡ at_most_word (expr_size b1) → z ≡ min (x + 2) 4294967295 → ((n : ℕ) → z ≡ at_most_word n → to ≡ at_most_word (length d0.instrs + n))
      → Adds d0 d1 (one (instr.JumpIfZero to)) → Adds d1 d2 (expr_part object b2) → Adds d2 d3 (over instr.Jump 0 (expr_part object c)) → Adds d0 d3 (step_code object s)
  unfolding over
  conditional_adds d0 d1 d2 d3 s b b1 b2 c x z to is b1_is b2_is x_is z_is to_is j a e =
      let n : x ≡ at_most_word (expr_size b) = x_is ∙ ap (λ y. at_most_word (expr_size y)) b1_is in
      let last = e.count in
      step_named d0 d3 s _ _ is (code_step_conditional object b c)
      (adds_over d0 d1 d2 d3 instr.JumpIfZero 1 (expr_size b) to (expr_part object b) (over instr.Jump 0 (expr_part object c)) (sized_expr object b)
      (to_is (expr_size b + (1 + 1)) (cut_more x z (expr_size b) 2 n z_is)) (omega (arith, last)) j (right_added d1 d2 b b2 b2_is a) e)
