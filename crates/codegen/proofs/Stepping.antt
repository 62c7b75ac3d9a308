-- The code of each operand and of each step does what it means, where that of the expressions in it does.
use Rattle.std.proofs.Common.{◌≡◌, ℕ, ◌+◌, ◌*◌, ◌%◌, ◌^◌, ◌<◌, ◌≤◌, max, Bool, true, false, List, ◌∷◌, length, refl, sym, ap, ◌∙◌, subst, arith}
use Rattle.std.specs.Prelude.{if◌then◌else◌, nat_eq, Ok}
use Rattle.rank_range.specs.declared.kinds.Kind.{Kind}
use Rattle.rank_range.specs.declared.kinds.Kind.TheVariants as kind
use Rattle.rank_range.specs.declared.operators.Unary.{Unary as UnaryOperator}
use Rattle.rank_range.specs.declared.operators.Binary.{Binary as Operator}
use Rattle.rank_range.specs.declared.operators.Binary.TheVariants as op
use Rattle.rank_range.specs.Layout.{globals_start}
use Rattle.rank_range.specs.Kinds.{convert, extended, IsWordOf}
use Rattle.rank_range.specs.Operators.{operate, operate_one}
use Rattle.vm_code.specs.declared.code.Code.{Code}
use Rattle.vm_code.specs.declared.instr.Instr.TheVariants as instr
use Rattle.vm_code.specs.Memory.{address_of, copied}
use Rattle.vm_code.specs.Machine.{operand_limit}
use Rattle.c_types.specs.declared.expression.OffsetBy.{OffsetBy}
use Rattle.c_types.specs.declared.expression.OffsetBy.TheVariants.{PointerPlusNumber, NumberPlusPointer, PointerMinusNumber}
use Rattle.c_types.specs.declared.expression.Direction.{Direction}
use Rattle.c_types.specs.declared.expression.Counted.{Counted}
use Rattle.c_types.specs.declared.expression.Counted.TheVariants as counted
use Rattle.c_types.specs.declared.expression.Given.{Given}
use Rattle.c_types.specs.declared.expression.Given.TheVariants.{New, Old}
use Rattle.c_types.specs.Need.{one_above, two_above, in_count}
use Rattle.c_model.specs.Outcome.{Rest, Here, with_memory, writing, with_result, choose}
use Rattle.c_model.specs.Run.{word_plus, word_minus, moved, load, store, element, elements_between, truth_of, negated, counted_kind, next_of, given_of}
use Rattle.codegen.specs.Layout.{Part, one, ◌then◌, over, negation, truths, converted, on_words, scaled, offset_part, moving, against, amount, given_part}
use Rattle.codegen.proofs.Running.{Standing, Does, from_place, does_push, does_pop, does_dup, does_unary, does_extend, does_local, does_global, does_load, does_store, does_copy, does_binary, does_word, does_jump, does_if_zero, does_if_not}
use Rattle.c_types.specs.declared.program.Function.{Function}
use Rattle.codegen.proofs.Spanning.{Spans, Lies, spans_none, spans_one, spans_then, spans_first, spans_over, spans_negation, spans_truths}
use Rattle.codegen.proofs.Wording.{gives_sum, gives_product, gives_difference, gives_moved, gives_back, plus_low, low_plus, minus_low, moved_low, converts, counts, counts_back, back, at_most_word, less_word, gives_at_most, gives_less, greater, at_least}

-- Wherever the part lies in the code, the machine goes over it with the value on the operands, where so many may be there.
pub record Values (fs : List Function) (code : Code) (s : Standing) (here : Here) (part : Part) (need : ℕ) (v : (ℕ → Rest) → Rest) : Type 0 where
  pub some : 1 ≤ need
  pub by : (place after : ℕ) (stack : List ℕ) (most : ℕ) (next : ℕ → Rest) → length stack + need ≤ operand_limit
      → Spans (Lies fs code here) place part after
      → ((x : ℕ) → Does code s after (x ∷ stack) most (next x)) → Does code s place stack most (v next)

-- The same of a step, with the value so far and its need.
pub record Steps (fs : List Function) (code : Code) (s : Standing) (here : Here) (part : Part) (need : ℕ → ℕ) (v : ℕ → (ℕ → Rest) → Rest) : Type 0 where
  pub grows : (a : ℕ) → a ≤ need a
  pub by : (place after x a : ℕ) (stack : List ℕ) (most : ℕ) (next : ℕ → Rest) → 1 ≤ a → length stack + need a ≤ operand_limit
      → Spans (Lies fs code here) place part after
      → ((y : ℕ) → Does code s after (y ∷ stack) most (next y)) → Does code s place (x ∷ stack) most (v x next)

-- of two needs
left_fits : (l a b : ℕ) → l + max a b ≤ operand_limit → l + a ≤ operand_limit
left_fits l a b le = grind arith

right_fits : (l a b : ℕ) → l + max a b ≤ operand_limit → l + b ≤ operand_limit
right_fits l a b le = grind arith

left_grows : (a b : ℕ) → a ≤ max a b
left_grows a b = grind arith

right_grows : (a b : ℕ) → b ≤ max a b
right_grows a b = grind arith

-- one of two values is the value of the choice
chosen : (b : Bool) (x y : ℕ) (next : ℕ → Rest) → (if b then next x else next y) ≡ next (if b then x else y)
chosen true x y next = refl
chosen false x y next = refl

module _ (fs : List Function) (code : Code) (s : Standing) (here : Here) where
  over_scaled : (scale y place after : ℕ) (stack : List ℕ) (most : ℕ) (next : Rest) → length stack + 2 ≤ operand_limit
      → Spans (Lies fs code here) place (scaled scale) after → Does code s after (y * scale % 2 ^ 64 ∷ stack) most next → Does code s place (y ∷ stack) most next
  over_scaled scale y place after stack most next fits sp d =
      let first = spans_first (Lies fs code here) place after (instr.Push scale) (on_words op.Multiply) sp in
      let last = spans_one (Lies fs code here) (place + 1) after (instr.Binary op.Multiply kind.UnsignedLong) first.1 in
      does_push code s scale place (y ∷ stack) most next first.0.0 (omega (arith, fits))
      (does_word code s op.Multiply kind.UnsignedLong y scale (y * scale % 2 ^ 64) (place + 1) stack most next last.0.0 (omega (arith, fits)) (gives_product y scale)
      (from_place code s _ _ _ _ _ last.1 d))

  over_words : (o : Operator) (x y z place after : ℕ) (stack : List ℕ) (most : ℕ) (next : Rest) → length stack < operand_limit
      → operate o kind.UnsignedLong x y ≡ Ok z → Spans (Lies fs code here) place (on_words o) after
      → Does code s after (z ∷ stack) most next → Does code s place (y ∷ x ∷ stack) most next
  over_words o x y z place after stack most next fits gives sp d =
      let last = spans_one (Lies fs code here) place after (instr.Binary o kind.UnsignedLong) sp in
      does_word code s o kind.UnsignedLong x y z place stack most next last.0.0 fits gives (from_place code s _ _ _ _ _ last.1 d)

  over_converted : (from to : Kind) (x place after : ℕ) (stack : List ℕ) (most : ℕ) (next : Rest) → length stack < operand_limit
      → Spans (Lies fs code here) place (converted from to) after
      → Does code s after (convert x from to ∷ stack) most next → Does code s place (x ∷ stack) most next
  over_converted from to x place after stack most next fits sp d =
      let first = spans_first (Lies fs code here) place after (instr.Extend from) (one (instr.Extend to)) sp in
      let last = spans_one (Lies fs code here) (place + 1) after (instr.Extend to) first.1 in
      does_extend code s from x place stack most next first.0.0 fits
      (does_extend code s to (extended from x) (place + 1) stack most next last.0.0 fits
      (from_place code s _ _ _ _ _ last.1 (subst (λ w. Does code s after (w ∷ stack) most next) (sym (converts from to x)) d)))

  over_negation : (x place after : ℕ) (stack : List ℕ) (most : ℕ) (next : ℕ → Rest) → length stack < operand_limit
      → Spans (Lies fs code here) place negation after
      → ((y : ℕ) → Does code s after (y ∷ stack) most (next y)) → Does code s place (x ∷ stack) most (next (negated x))
  over_negation x place after stack most next fits sp d =
      let at = spans_negation (Lies fs code here) place after sp in
      let e : after ≡ place + 3 + 1 = omega (arith, at.after_is) in
      let f : place + 2 ≡ place + 1 + 1 = omega arith in
      let holds = does_push code s 1 (place + 3) stack most (next 1) at.fourth.0 fits (from_place code s _ _ _ _ _ e (d 1)) in
      let fails = does_push code s 0 (place + 1) stack most (next 0) at.second.0 fits (from_place code s _ _ _ _ _ f
      (does_jump code s (place + 4) (place + 2) (0 ∷ stack) most (next 0) at.third.0 (from_place code s _ _ _ _ _ at.after_is (d 0)))) in
      subst (Does code s place (x ∷ stack) most) (chosen (nat_eq x 0) 1 0 next)
      (does_if_zero code s (place + 3) x place stack most (next 0) (next 1) at.first.0 fails holds)

  -- ---- operands

  pub values_number : (word : ℕ) → Values fs code s here (one (instr.Push word)) 1 (λ next. next word)
  values_number word = record {
    some = omega arith;
    by = λ place after stack most next fits sp d.
        let at = spans_one (Lies fs code here) place after (instr.Push word) sp in
        does_push code s word place stack most (next word) at.0.0 (omega (arith, fits)) (from_place code s _ _ _ _ _ at.1 (d word));
  }

  pub values_local : (offset : ℕ) → Values fs code s here (one (instr.Local offset)) 1 (λ next. with_memory (λ m. next (address_of m (s.start + offset))))
  values_local offset = record {
    some = omega arith;
    by = λ place after stack most next fits sp d.
        let at = spans_one (Lies fs code here) place after (instr.Local offset) sp in
        does_local code s offset place stack most next at.0.0 (omega (arith, fits)) (λ x. from_place code s _ _ _ _ _ at.1 (d x));
  }

  pub values_object : (offset : ℕ) → Values fs code s here (one (instr.Global offset)) 1 (λ next. with_memory (λ m. next (address_of m (globals_start + offset))))
  values_object offset = record {
    some = omega arith;
    by = λ place after stack most next fits sp d.
        let at = spans_one (Lies fs code here) place after (instr.Global offset) sp in
        does_global code s offset place stack most next at.0.0 (omega (arith, fits)) (λ x. from_place code s _ _ _ _ _ at.1 (d x));
  }

  -- ---- steps

  pub steps_load : (k : Kind) → Steps fs code s here (one (instr.Load k)) (λ a. a) (λ x next. load k x here next)
  steps_load k = record {
    grows = λ a. omega arith;
    by = λ place after x a stack most next some fits sp d.
        let at = spans_one (Lies fs code here) place after (instr.Load k) sp in
        does_load code s k x place stack most here next at.0.0 at.0.1 (omega (arith, some, fits)) (λ y word. from_place code s _ _ _ _ _ at.1 (d y));
  }

  pub steps_convert : (from to : Kind) → Steps fs code s here (converted from to) (λ a. a) (λ x next. next (convert x from to))
  steps_convert from to = record {
    grows = λ a. omega arith;
    by = λ place after x a stack most next some fits sp d.
        over_converted from to x place after stack most (next (convert x from to)) (omega (arith, some, fits)) sp (d (convert x from to));
  }

  pub steps_unary : (o : UnaryOperator) (k : Kind) → Steps fs code s here (one (instr.Unary o k)) (λ a. a) (λ x next. next (operate_one o k x))
  steps_unary o k = record {
    grows = λ a. omega arith;
    by = λ place after x a stack most next some fits sp d.
        let at = spans_one (Lies fs code here) place after (instr.Unary o k) sp in
        does_unary code s o k x place stack most (next (operate_one o k x)) at.0.0 (omega (arith, some, fits))
        (from_place code s _ _ _ _ _ at.1 (d (operate_one o k x)));
  }

  pub steps_not : Steps fs code s here negation (λ a. a) (λ x next. next (negated x))
  steps_not = record {
    grows = λ a. omega arith;
    by = λ place after x a stack most next some fits sp d. over_negation x place after stack most next (omega (arith, some, fits)) sp d;
  }

  pub steps_member : (offset : ℕ) → Steps fs code s here (one (instr.Push offset) then on_words op.Add) (λ a. max 2 a) (λ x next. next (word_plus x offset))
  steps_member offset = record {
    grows = λ a. right_grows 2 a;
    by = λ place after x a stack most next some fits sp d.
        let two = left_fits (length stack) 2 a fits in
        let first = spans_first (Lies fs code here) place after (instr.Push offset) (on_words op.Add) sp in
        does_push code s offset place (x ∷ stack) most (next (word_plus x offset)) first.0.0 (omega (arith, two))
        (over_words op.Add x offset (word_plus x offset) (place + 1) after stack most (next (word_plus x offset)) (omega (arith, two)) (gives_sum x offset) first.1
        (d (word_plus x offset)));
  }

  pub steps_binary : (o : Operator) (k : Kind) (b : Part) (n : ℕ) (v : (ℕ → Rest) → Rest) → Values fs code s here b n v
      → Steps fs code s here (b then one (instr.Binary o k)) (λ a. one_above a n) (λ x next. v (λ y. with_result (operate o k x y) here next))
  steps_binary o k b n v vb = record {
    grows = λ a. left_grows a (1 + n);
    by = λ place after x a stack most next some fits sp d.
        let low = left_fits (length stack) a (1 + n) fits in
        let high = right_fits (length stack) a (1 + n) fits in
        let parts = spans_then (Lies fs code here) place after b _ sp in
        let last = spans_one (Lies fs code here) parts.0 after (instr.Binary o k) parts.2 in
        vb.by place parts.0 (x ∷ stack) most _ (omega (arith, high)) parts.1
        (λ y. does_binary code s o k x y parts.0 stack most here next last.0.0 last.0.1 (omega (arith, some, low)) (λ z. from_place code s _ _ _ _ _ last.1 (d z)));
  }

  -- `>` and `>=` are negations
  steps_turned : (o turned : Operator) (k : Kind) (word : ℕ → ℕ → ℕ) (b : Part) (n : ℕ) (v : (ℕ → Rest) → Rest)
      → ((x y : ℕ) → operate o k x y ≡ Ok (word x y)) → ((x y : ℕ) → operate turned k y x ≡ Ok (negated (word x y))) → Values fs code s here b n v
      → Steps fs code s here (b then one (instr.Binary o k) then negation) (λ a. one_above a n) (λ x next. v (λ y. with_result (operate turned k y x) here next))
  steps_turned o turned k word b n v gives is vb = record {
    grows = λ a. left_grows a (1 + n);
    by = λ place after x a stack most next some fits sp d.
        let low = left_fits (length stack) a (1 + n) fits in
        let high = right_fits (length stack) a (1 + n) fits in
        let parts = spans_then (Lies fs code here) place after b _ sp in
        let rest = spans_first (Lies fs code here) parts.0 after (instr.Binary o k) negation parts.2 in
        vb.by place parts.0 (x ∷ stack) most _ (omega (arith, high)) parts.1
        (λ y. subst (λ r. Does code s parts.0 (y ∷ x ∷ stack) most (with_result r here next)) (sym (is x y))
        (does_word code s o k x y (word x y) parts.0 stack most (next (negated (word x y))) rest.0.0 (omega (arith, some, low)) (gives x y)
        (over_negation (word x y) (parts.0 + 1) after stack most next (omega (arith, some, low)) rest.1 d)));
  }

  pub steps_greater : (k : Kind) (b : Part) (n : ℕ) (v : (ℕ → Rest) → Rest) → Values fs code s here b n v
      → Steps fs code s here (b then one (instr.Binary op.AtMost k) then negation) (λ a. one_above a n) (λ x next. v (λ y. with_result (operate op.Less k y x) here next))
  steps_greater k b n v vb = steps_turned op.AtMost op.Less k (at_most_word k) b n v (gives_at_most k) (greater k) vb

  pub steps_at_least : (k : Kind) (b : Part) (n : ℕ) (v : (ℕ → Rest) → Rest) → Values fs code s here b n v
      → Steps fs code s here (b then one (instr.Binary op.Less k) then negation) (λ a. one_above a n) (λ x next. v (λ y. with_result (operate op.AtMost k y x) here next))
  steps_at_least k b n v vb = steps_turned op.Less op.AtMost k (less_word k) b n v (gives_less k) (at_least k) vb

  -- the value on the right, its product with the scale, and then an operator on words that gives this word
  steps_scaled : (o : Operator) (scale : ℕ) (word : ℕ → ℕ → ℕ) (b : Part) (n : ℕ) (v : (ℕ → Rest) → Rest)
      → ((x y : ℕ) → operate o kind.UnsignedLong x (y * scale % 2 ^ 64) ≡ Ok (word x y)) → Values fs code s here b n v
      → Steps fs code s here (b then scaled scale then on_words o) (λ a. max 3 (one_above a n)) (λ x next. v (λ y. next (word x y)))
  steps_scaled o scale word b n v gives vb = record {
    grows = λ a. grind arith;
    by = λ place after x a stack most next some fits sp d.
        let three = left_fits (length stack) 3 (one_above a n) fits in
        let both = right_fits (length stack) 3 (one_above a n) fits in
        let high = right_fits (length stack) a (1 + n) both in
        let parts = spans_then (Lies fs code here) place after b _ sp in
        let rest = spans_then (Lies fs code here) parts.0 after (scaled scale) (on_words o) parts.2 in
        vb.by place parts.0 (x ∷ stack) most _ (omega (arith, high)) parts.1
        (λ y. over_scaled scale y parts.0 rest.0 (x ∷ stack) most _ (omega (arith, three)) rest.1
        (over_words o x (y * scale % 2 ^ 64) (word x y) rest.0 after stack most (next (word x y)) (omega (arith, three)) (gives x y) rest.2 (d (word x y))));
  }

  steps_number_first : (scale : ℕ) (b : Part) (n : ℕ) (v : (ℕ → Rest) → Rest) → Values fs code s here b n v
      → Steps fs code s here (scaled scale then b then on_words op.Add) (λ a. max 3 (one_above a n)) (λ x next. v (λ y. next (word_plus (x * scale) y)))
  steps_number_first scale b n v vb = record {
    grows = λ a. grind arith;
    by = λ place after x a stack most next some fits sp d.
        let three = left_fits (length stack) 3 (one_above a n) fits in
        let both = right_fits (length stack) 3 (one_above a n) fits in
        let high = right_fits (length stack) a (1 + n) both in
        let first = spans_then (Lies fs code here) place after (scaled scale) _ sp in
        let rest = spans_then (Lies fs code here) first.0 after b (on_words op.Add) first.2 in
        over_scaled scale x place first.0 stack most _ (omega (arith, three)) first.1
        (vb.by first.0 rest.0 (x * scale % 2 ^ 64 ∷ stack) most _ (omega (arith, high)) rest.1
        (λ y. over_words op.Add (x * scale % 2 ^ 64) y (word_plus (x * scale) y) rest.0 after stack most (next (word_plus (x * scale) y)) (omega (arith, three))
        (gives_sum (x * scale % 2 ^ 64) y ∙ ap Ok (low_plus (x * scale) y)) rest.2 (d (word_plus (x * scale) y))));
  }

  pub steps_offset : (by : OffsetBy) (scale : ℕ) (b : Part) (n : ℕ) (v : (ℕ → Rest) → Rest) → Values fs code s here b n v
      → Steps fs code s here (offset_part by scale b) (λ a. max 3 (one_above a n)) (λ x next. v (λ y. next (element by scale x y)))
  steps_offset PointerPlusNumber scale b n v vb =
      steps_scaled op.Add scale (λ x y. word_plus x (y * scale)) b n v (λ x y. gives_sum x (y * scale % 2 ^ 64) ∙ ap Ok (plus_low x (y * scale))) vb
  steps_offset NumberPlusPointer scale b n v vb = steps_number_first scale b n v vb
  steps_offset PointerMinusNumber scale b n v vb =
      steps_scaled op.Subtract scale (λ x y. word_minus x (y * scale)) b n v (λ x y. gives_difference x (y * scale % 2 ^ 64) ∙ ap Ok (minus_low x (y * scale))) vb

  pub steps_difference : (size : ℕ) (b : Part) (n : ℕ) (v : (ℕ → Rest) → Rest) → Values fs code s here b n v
      → Steps fs code s here (b then on_words op.Subtract then one (instr.Push size) then one (instr.Binary op.Divide kind.Long)) (λ a. max 3 (one_above a n))
      (λ x next. v (λ y. elements_between size x y here next))
  steps_difference size b n v vb = record {
    grows = λ a. grind arith;
    by = λ place after x a stack most next some fits sp d.
        let three = left_fits (length stack) 3 (one_above a n) fits in
        let both = right_fits (length stack) 3 (one_above a n) fits in
        let high = right_fits (length stack) a (1 + n) both in
        let first = spans_then (Lies fs code here) place after b _ sp in
        let rest = spans_then (Lies fs code here) first.0 after (on_words op.Subtract) _ first.2 in
        let push = spans_first (Lies fs code here) rest.0 after (instr.Push size) _ rest.2 in
        let last = spans_one (Lies fs code here) (rest.0 + 1) after (instr.Binary op.Divide kind.Long) push.1 in
        vb.by place first.0 (x ∷ stack) most _ (omega (arith, high)) first.1
        (λ y. over_words op.Subtract x y (word_minus x y) first.0 rest.0 stack most _ (omega (arith, three)) (gives_difference x y) rest.1
        (does_push code s size rest.0 (word_minus x y ∷ stack) most _ push.0.0 (omega (arith, three))
        (does_binary code s op.Divide kind.Long (word_minus x y) size (rest.0 + 1) stack most here next last.0.0 last.0.1 (omega (arith, three))
        (λ z. from_place code s _ _ _ _ _ last.1 (d z)))));
  }

  -- ---- choices

  pub steps_and : (b : Part) (n : ℕ) (v : (ℕ → Rest) → Rest) → Values fs code s here b n v
      → Steps fs code s here (over instr.JumpIfZero 3 b then truths false) (λ a. max a n) (λ x next. choose x (v (λ y. next (truth_of y))) (next 0))
  steps_and b n v vb = record {
    grows = λ a. left_grows a n;
    by = λ place after x a stack most next some fits sp d.
        let low = left_fits (length stack) a n fits in
        let high = right_fits (length stack) a n fits in
        let parts = spans_then (Lies fs code here) place after _ _ sp in
        let passed = spans_over (Lies fs code here) place parts.0 instr.JumpIfZero 3 b parts.1 in
        let at = spans_truths (Lies fs code here) parts.0 after false parts.2 in
        let e : after ≡ parts.0 + 3 + 1 = omega (arith, at.after_is) in
        let f : parts.0 + 2 ≡ parts.0 + 1 + 1 = omega arith in
        let no = does_push code s 0 (parts.0 + 3) stack most (next 0) at.fourth.0 (omega (arith, some, low)) (from_place code s _ _ _ _ _ e (d 0)) in
        let yes = does_push code s 1 (parts.0 + 1) stack most (next 1) at.second.0 (omega (arith, some, low)) (from_place code s _ _ _ _ _ f
        (does_jump code s (parts.0 + 4) (parts.0 + 2) (1 ∷ stack) most (next 1) at.third.0 (from_place code s _ _ _ _ _ at.after_is (d 1)))) in
        does_if_zero code s (parts.0 + 3) x place stack most _ _ passed.0.0
        (vb.by (place + 1) parts.0 stack most _ high passed.1
        (λ y. subst (Does code s parts.0 (y ∷ stack) most) (chosen (nat_eq y 0) 0 1 next)
        (does_if_zero code s (parts.0 + 3) y parts.0 stack most _ _ at.first.0 yes no)))
        no;
  }

  pub steps_or : (b : Part) (n : ℕ) (v : (ℕ → Rest) → Rest) → Values fs code s here b n v
      → Steps fs code s here (over instr.JumpIfNot 3 b then truths true) (λ a. max a n) (λ x next. choose x (next 1) (v (λ y. next (truth_of y))))
  steps_or b n v vb = record {
    grows = λ a. left_grows a n;
    by = λ place after x a stack most next some fits sp d.
        let low = left_fits (length stack) a n fits in
        let high = right_fits (length stack) a n fits in
        let parts = spans_then (Lies fs code here) place after _ _ sp in
        let passed = spans_over (Lies fs code here) place parts.0 instr.JumpIfNot 3 b parts.1 in
        let at = spans_truths (Lies fs code here) parts.0 after true parts.2 in
        let e : after ≡ parts.0 + 3 + 1 = omega (arith, at.after_is) in
        let f : parts.0 + 2 ≡ parts.0 + 1 + 1 = omega arith in
        let yes = does_push code s 1 (parts.0 + 3) stack most (next 1) at.fourth.0 (omega (arith, some, low)) (from_place code s _ _ _ _ _ e (d 1)) in
        let no = does_push code s 0 (parts.0 + 1) stack most (next 0) at.second.0 (omega (arith, some, low)) (from_place code s _ _ _ _ _ f
        (does_jump code s (parts.0 + 4) (parts.0 + 2) (0 ∷ stack) most (next 0) at.third.0 (from_place code s _ _ _ _ _ at.after_is (d 0)))) in
        does_if_not code s (parts.0 + 3) x place stack most _ _ passed.0.0 yes
        (vb.by (place + 1) parts.0 stack most _ high passed.1
        (λ y. subst (Does code s parts.0 (y ∷ stack) most) (chosen (nat_eq y 0) 0 1 next)
        (does_if_not code s (parts.0 + 3) y parts.0 stack most _ _ at.first.0 yes no)));
  }

  pub steps_conditional : (b c : Part) (n m : ℕ) (v w : (ℕ → Rest) → Rest) → Values fs code s here b n v → Values fs code s here c m w
      → Steps fs code s here (over instr.JumpIfZero 1 b then over instr.Jump 0 c) (λ a. max a (max n m)) (λ x next. choose x (v next) (w next))
  steps_conditional b c n m v w vb vc = record {
    grows = λ a. left_grows a (max n m);
    by = λ place after x a stack most next some fits sp d.
        let both = right_fits (length stack) a (max n m) fits in
        let parts = spans_then (Lies fs code here) place after _ _ sp in
        let passed = spans_over (Lies fs code here) place parts.0 instr.JumpIfZero 1 b parts.1 in
        let second = spans_over (Lies fs code here) parts.0 after instr.Jump 0 c parts.2 in
        let e : after ≡ after + 0 = omega arith in
        does_if_zero code s (parts.0 + 1) x place stack most _ _ passed.0.0
        (vb.by (place + 1) parts.0 stack most next (left_fits (length stack) n m both) passed.1
        (λ y. does_jump code s (after + 0) parts.0 (y ∷ stack) most (next y) second.0.0 (from_place code s _ _ _ _ _ e (d y))))
        (vc.by (parts.0 + 1) after stack most next (right_fits (length stack) n m both) second.1 d);
  }

  pub steps_comma : (b : Part) (n : ℕ) (v : (ℕ → Rest) → Rest) → Values fs code s here b n v
      → Steps fs code s here (one instr.Pop then b) (λ a. max a n) (λ x next. v next)
  steps_comma b n v vb = record {
    grows = λ a. left_grows a n;
    by = λ place after x a stack most next some fits sp d.
        let low = left_fits (length stack) a n fits in
        let first = spans_first (Lies fs code here) place after instr.Pop b sp in
        does_pop code s x place stack most _ first.0.0 (omega (arith, some, low))
        (vb.by (place + 1) after stack most next (right_fits (length stack) a n fits) first.1 d);
  }

  -- ---- stores

  pub steps_assign : (k : Kind) (b : Part) (n : ℕ) (v : (ℕ → Rest) → Rest) → Values fs code s here b n v
      → Steps fs code s here (b then one (instr.Store k)) (λ a. one_above a n) (λ x next. v (λ y. store k x y here (next y)))
  steps_assign k b n v vb = record {
    grows = λ a. left_grows a (1 + n);
    by = λ place after x a stack most next some fits sp d.
        let low = left_fits (length stack) a (1 + n) fits in
        let high = right_fits (length stack) a (1 + n) fits in
        let parts = spans_then (Lies fs code here) place after b _ sp in
        let last = spans_one (Lies fs code here) parts.0 after (instr.Store k) parts.2 in
        vb.by place parts.0 (x ∷ stack) most _ (omega (arith, high)) parts.1
        (λ y. does_store code s k x y parts.0 stack most here (next y) last.0.0 last.0.1 (omega (arith, some, low)) (from_place code s _ _ _ _ _ last.1 (d y)));
  }

  pub steps_copy : (size : ℕ) (b : Part) (n : ℕ) (v : (ℕ → Rest) → Rest) → Values fs code s here b n v
      → Steps fs code s here (b then one (instr.Copy size)) (λ a. one_above a n)
      (λ x next. v (λ y. with_memory (λ m. writing (copied m x y size) here (next x))))
  steps_copy size b n v vb = record {
    grows = λ a. left_grows a (1 + n);
    by = λ place after x a stack most next some fits sp d.
        let low = left_fits (length stack) a (1 + n) fits in
        let high = right_fits (length stack) a (1 + n) fits in
        let parts = spans_then (Lies fs code here) place after b _ sp in
        let last = spans_one (Lies fs code here) parts.0 after (instr.Copy size) parts.2 in
        vb.by place parts.0 (x ∷ stack) most _ (omega (arith, high)) parts.1
        (λ y. does_copy code s size x y parts.0 stack most here (next x) last.0.0 last.0.1 (omega (arith, some, low)) (from_place code s _ _ _ _ _ last.1 (d x)));
  }

  pub steps_update : (o : Operator) (k at : Kind) (b : Part) (n : ℕ) (v : (ℕ → Rest) → Rest) → Values fs code s here b n v
      → Steps fs code s here (one instr.Dup then one (instr.Load k) then converted k at then b then one (instr.Binary o at) then converted at k then one (instr.Store k))
      (λ a. two_above a n) (λ x next. load k x here (λ old. v (λ y. with_result (operate o at (convert old k at) y) here (λ new.
      store k x (convert new at k) here (next (convert new at k))))))
  steps_update o k at b n v vb = record {
    grows = λ a. left_grows a (2 + n);
    by = λ place after x a stack most next some fits sp d.
        let l = length stack in
        let high = right_fits l a (2 + n) fits in
        let has = vb.some in
        let i0 = spans_first (Lies fs code here) place after instr.Dup _ sp in
        let i1 = spans_first (Lies fs code here) (place + 1) after (instr.Load k) _ i0.1 in
        let p2 = spans_then (Lies fs code here) (place + 1 + 1) after (converted k at) _ i1.1 in
        let p3 = spans_then (Lies fs code here) p2.0 after b _ p2.2 in
        let i4 = spans_first (Lies fs code here) p3.0 after (instr.Binary o at) _ p3.2 in
        let p5 = spans_then (Lies fs code here) (p3.0 + 1) after (converted at k) _ i4.1 in
        let i6 = spans_one (Lies fs code here) p5.0 after (instr.Store k) p5.2 in
        does_dup code s x place stack most _ i0.0.0 (omega (arith, high, has))
        (does_load code s k x (place + 1) (x ∷ stack) most here _ i1.0.0 i1.0.1 (omega (arith, high, has)) (λ old word.
        over_converted k at old (place + 1 + 1) p2.0 (x ∷ stack) most _ (omega (arith, high, has)) p2.1
        (vb.by p2.0 p3.0 (convert old k at ∷ x ∷ stack) most _ (omega (arith, high)) p3.1
        (λ y. does_binary code s o at (convert old k at) y p3.0 (x ∷ stack) most here _ i4.0.0 i4.0.1 (omega (arith, high, has)) (λ new.
        over_converted at k new (p3.0 + 1) p5.0 (x ∷ stack) most _ (omega (arith, high, has)) p5.1
        (does_store code s k x (convert new at k) p5.0 stack most here (next (convert new at k)) i6.0.0 i6.0.1 (omega (arith, high, has))
        (from_place code s _ _ _ _ _ i6.1 (d (convert new at k)))))))));
  }

  pub steps_advance : (direction : Direction) (scale : ℕ) (b : Part) (n : ℕ) (v : (ℕ → Rest) → Rest) → Values fs code s here b n v
      → Steps fs code s here
      (one instr.Dup then one (instr.Load kind.UnsignedLong) then b then scaled scale then on_words (moving direction) then one (instr.Store kind.UnsignedLong))
      (λ a. max 4 (two_above a n)) (λ x next. load kind.UnsignedLong x here (λ old. v (λ y.
      store kind.UnsignedLong x (moved direction old (y * scale)) here (next (moved direction old (y * scale))))))
  steps_advance direction scale b n v vb = record {
    grows = λ a. grind arith;
    by = λ place after x a stack most next some fits sp d.
        let l = length stack in
        let four = left_fits l 4 (two_above a n) fits in
        let both = right_fits l 4 (two_above a n) fits in
        let high = right_fits l a (2 + n) both in
        let i0 = spans_first (Lies fs code here) place after instr.Dup _ sp in
        let i1 = spans_first (Lies fs code here) (place + 1) after (instr.Load kind.UnsignedLong) _ i0.1 in
        let p2 = spans_then (Lies fs code here) (place + 1 + 1) after b _ i1.1 in
        let p3 = spans_then (Lies fs code here) p2.0 after (scaled scale) _ p2.2 in
        let p4 = spans_then (Lies fs code here) p3.0 after (on_words (moving direction)) _ p3.2 in
        let i5 = spans_one (Lies fs code here) p4.0 after (instr.Store kind.UnsignedLong) p4.2 in
        does_dup code s x place stack most _ i0.0.0 (omega (arith, four))
        (does_load code s kind.UnsignedLong x (place + 1) (x ∷ stack) most here _ i1.0.0 i1.0.1 (omega (arith, four)) (λ old word.
        vb.by (place + 1 + 1) p2.0 (old ∷ x ∷ stack) most _ (omega (arith, high)) p2.1
        (λ y. over_scaled scale y p2.0 p3.0 (old ∷ x ∷ stack) most _ (omega (arith, four)) p3.1
        (over_words (moving direction) old (y * scale % 2 ^ 64) (moved direction old (y * scale)) p3.0 p4.0 (x ∷ stack) most _ (omega (arith, four))
        (gives_moved direction old (y * scale % 2 ^ 64) ∙ ap Ok (moved_low direction old (y * scale))) p4.1
        (does_store code s kind.UnsignedLong x (moved direction old (y * scale)) p4.0 stack most here _ i5.0.0 i5.0.1 (omega (arith, four))
        (from_place code s _ _ _ _ _ i5.1 (d (moved direction old (y * scale)))))))));
  }

  -- what is given behind a count
  over_given : (given : Given) (c : Counted) (direction : Direction) (old place after : ℕ) (stack : List ℕ) (most : ℕ) (next : ℕ → Rest)
      → length stack + 2 ≤ operand_limit → IsWordOf (counted_kind c) old → Spans (Lies fs code here) place (given_part given c direction) after
      → ((y : ℕ) → Does code s after (y ∷ stack) most (next y))
      → Does code s place (next_of c direction old ∷ stack) most (next (given_of given old (next_of c direction old)))
  over_given New c direction old place after stack most next fits is sp d =
      from_place code s _ _ _ _ _ (spans_none (Lies fs code here) place after sp) (d (next_of c direction old))
  over_given Old c direction old place after stack most next fits is sp d =
      let new : ℕ = next_of c direction old in
      let i0 = spans_first (Lies fs code here) place after (instr.Push (amount c)) _ sp in
      let p1 = spans_then (Lies fs code here) (place + 1) after (on_words (against direction)) _ i0.1 in
      let i2 = spans_one (Lies fs code here) p1.0 after (instr.Extend (counted_kind c)) p1.2 in
      does_push code s (amount c) place (new ∷ stack) most _ i0.0.0 (omega (arith, fits))
      (over_words (against direction) new (amount c) (back direction new (amount c)) (place + 1) p1.0 stack most _ (omega (arith, fits)) (gives_back direction new (amount c)) p1.1
      (does_extend code s (counted_kind c) (back direction new (amount c)) p1.0 stack most _ i2.0.0 (omega (arith, fits))
      (from_place code s _ _ _ _ _ i2.1 (subst (λ w. Does code s after (w ∷ stack) most (next old)) (sym (counts_back c direction old is)) (d old)))))

  in_count_fits : (l a : ℕ) (c : Counted) → l + in_count c a ≤ operand_limit → l + 3 ≤ operand_limit
  in_count_fits l a (counted.Number k) le = grind arith
  in_count_fits l a (counted.Pointer scale) le = grind arith

  in_count_grows : (a : ℕ) (c : Counted) → a ≤ in_count c a
  in_count_grows a (counted.Number k) = grind arith
  in_count_grows a (counted.Pointer scale) = grind arith

  pub steps_count : (c : Counted) (direction : Direction) (given : Given)
      → Steps fs code s here
      (one instr.Dup then one (instr.Load (counted_kind c)) then one (instr.Push (amount c)) then on_words (moving direction) then one (instr.Extend (counted_kind c))
      then one (instr.Store (counted_kind c)) then given_part given c direction)
      (λ a. in_count c a) (λ x next. load (counted_kind c) x here (λ old.
      store (counted_kind c) x (next_of c direction old) here (next (given_of given old (next_of c direction old)))))
  steps_count c direction given = record {
    grows = λ a. in_count_grows a c;
    by = λ place after x a stack most next some fits sp d.
        let three = in_count_fits (length stack) a c fits in
        let i0 = spans_first (Lies fs code here) place after instr.Dup _ sp in
        let i1 = spans_first (Lies fs code here) (place + 1) after (instr.Load (counted_kind c)) _ i0.1 in
        let i2 = spans_first (Lies fs code here) (place + 1 + 1) after (instr.Push (amount c)) _ i1.1 in
        let p3 = spans_then (Lies fs code here) (place + 1 + 1 + 1) after (on_words (moving direction)) _ i2.1 in
        let i4 = spans_first (Lies fs code here) p3.0 after (instr.Extend (counted_kind c)) _ p3.2 in
        let i5 = spans_first (Lies fs code here) (p3.0 + 1) after (instr.Store (counted_kind c)) _ i4.1 in
        does_dup code s x place stack most _ i0.0.0 (omega (arith, three))
        (does_load code s (counted_kind c) x (place + 1) (x ∷ stack) most here _ i1.0.0 i1.0.1 (omega (arith, three)) (λ old word.
        does_push code s (amount c) (place + 1 + 1) (old ∷ x ∷ stack) most _ i2.0.0 (omega (arith, three))
        (over_words (moving direction) old (amount c) (moved direction old (amount c)) (place + 1 + 1 + 1) p3.0 (x ∷ stack) most _ (omega (arith, three))
        (gives_moved direction old (amount c)) p3.1
        (does_extend code s (counted_kind c) (moved direction old (amount c)) p3.0 (x ∷ stack) most _ i4.0.0 (omega (arith, three))
        (subst (λ w. Does code s (p3.0 + 1) (w ∷ x ∷ stack) most
        (store (counted_kind c) x (next_of c direction old) here (next (given_of given old (next_of c direction old))))) (sym (counts c direction old))
        (does_store code s (counted_kind c) x (next_of c direction old) (p3.0 + 1) stack most here _ i5.0.0 i5.0.1 (omega (arith, three))
        (over_given given c direction old (p3.0 + 1 + 1) after stack most next (omega (arith, three)) word i5.1 d)))))));
  }
