-- What steps in the making of code add together.
use Rattle.std.proofs.Common.{◌≡◌, ℕ, ◌+◌, ◌<◌, ◌≤◌, ◌^◌, Bool, true, false, not, [], ◌∷◌, ◌++◌, length, refl, sym, ap, ◌∙◌, subst, arith, append_assoc, length-append}
use Rattle.std.proofs.lemmas.List.{append-nil}
use Rattle.vm_code.specs.declared.instr.Instr.{Instr}
use Rattle.vm_code.specs.declared.instr.Instr.TheVariants as instr
use Rattle.rank_range.specs.declared.kinds.Kind.{Kind}
use Rattle.rank_range.specs.declared.operators.Binary.{Binary as Operator}
use Rattle.c_types.specs.declared.expression.Operand.TheOpen.{Step-F}
use Rattle.c_types.specs.declared.expression.OffsetBy.{OffsetBy}
use Rattle.c_types.specs.declared.expression.Direction.{Direction}
use Rattle.c_types.specs.declared.expression.Counted.{Counted}
use Rattle.c_types.specs.declared.expression.Given.{Given}
use Rattle.c_types.specs.declared.expression.Given.TheVariants.{Old}
use Rattle.c_model.specs.Run.{counted_kind}
use Rattle.codegen.specs.declared.draft.Draft.{Draft}
use Rattle.codegen.specs.Layout.{Part, nothing, one, ◌then◌, over, negation, truths, jump_where, word_of_truth, opposite, on_words, scaled, offset_back, moving, against, amount, given_part, step_part}
use Rattle.codegen.specs.Making.{Adds, at_most_word}
use Rattle.codegen.proofs.Shaping.{Sized}

-- one instruction was pushed
pub pushed : (d0 d1 : Draft) (i : Instr) → d1.instrs ≡ d0.instrs ++ i ∷ [] → Adds d0 d1 (one i)
pushed d0 d1 i is = record { count = ap length is ∙ length-append d0.instrs (i ∷ []); instrs = λ short. is }

pub adds_none : (d : Draft) → Adds d d nothing
adds_none d = record { count = omega arith; instrs = λ short. sym (append-nil d.instrs) }

-- The same part in other words: it has as many instructions, and where all places are numbers of 32 bits it is the same.
pub adds_same : (d e : Draft) (a b : Part) → Adds d e a → length (a (length d.instrs)) ≡ length (b (length d.instrs))
    → (length e.instrs < 2 ^ 32 → a (length d.instrs) ≡ b (length d.instrs)) → Adds d e b
adds_same d e a b x same is = record {
  count = x.count ∙ ap (λ n. length d.instrs + n) same;
  instrs = λ short. x.instrs short ∙ ap (λ l. d.instrs ++ l) (is short);
}

pub adds_is : (d e : Draft) (a b : Part) → Adds d e a → a (length d.instrs) ≡ b (length d.instrs) → Adds d e b
adds_is d e a b x is = adds_same d e a b x (ap length is) (λ short. is)

pub adds_then : (d0 d1 d2 : Draft) (a b : Part) → Adds d0 d1 a → Adds d1 d2 b → Adds d0 d2 (a then b)
unfolding ◌then◌
adds_then d0 d1 d2 a b x y =
    let l = length d0.instrs in
    let first = x.count in
    let second = y.count in
    let moved : length (b (length d1.instrs)) ≡ length (b (l + length (a l))) = ap (λ p. length (b p)) x.count in
    record {
      count = omega (arith, first, second, moved, length-append (a l) (b (l + length (a l))));
      instrs = λ short. y.instrs short ∙ ap (λ place. d1.instrs ++ b place) x.count
          ∙ ap (λ is. is ++ b (l + length (a l))) (x.instrs (omega (arith, short, second))) ∙ append_assoc d0.instrs (a l) (b (l + length (a l)));
    }

-- a place that isn't cut off
pub place_is : (n m : ℕ) → n ≡ at_most_word m → m < 2 ^ 32 → n ≡ m
place_is n m is small = omega (arith, is)

-- ---- jumps

pub adds_negation : (d0 d1 d2 d3 d4 : Draft) (to end : ℕ) → to ≡ at_most_word (length d0.instrs + 3) → end ≡ at_most_word (length d2.instrs + 2)
    → Adds d0 d1 (one (instr.JumpIfZero to)) → Adds d1 d2 (one (instr.Push 0)) → Adds d2 d3 (one (instr.Jump end)) → Adds d3 d4 (one (instr.Push 1))
    → Adds d0 d4 negation
unfolding ◌then◌ negation
adds_negation d0 d1 d2 d3 d4 to end to_is end_is x y z w =
    let l = length d0.instrs in
    let c0 = x.count in
    let c1 = y.count in
    let c2 = z.count in
    let c3 = w.count in
    let all = adds_then d0 d1 d4 (one (instr.JumpIfZero to)) _ x (adds_then d1 d2 d4 (one (instr.Push 0)) _ y (adds_then d2 d3 d4 (one (instr.Jump end)) (one (instr.Push 1)) z w)) in
    adds_same d0 d4 _ negation all refl (λ short.
    let e1 : to ≡ l + 3 = place_is to (l + 3) to_is (omega (arith, c0, c1, c2, c3, short)) in
    let e2 : end ≡ l + 4 = omega (arith, end_is, c0, c1, c2, c3, short) in
    ap (λ n. instr.JumpIfZero n ∷ instr.Push 0 ∷ instr.Jump end ∷ instr.Push 1 ∷ []) e1
    ∙ ap (λ n. instr.JumpIfZero (l + 3) ∷ instr.Push 0 ∷ instr.Jump n ∷ instr.Push 1 ∷ []) e2)

opposite_is : (b : Bool) → word_of_truth (not b) ≡ word_of_truth (opposite b)
opposite_is true = refl
opposite_is false = refl

pub adds_truths : (d0 d1 d2 d3 d4 : Draft) (decisive : Bool) (to end x y : ℕ) (test : Instr) → to ≡ at_most_word (length d0.instrs + 3)
    → end ≡ at_most_word (length d2.instrs + 2) → test ≡ jump_where decisive to → x ≡ word_of_truth (not decisive) → y ≡ word_of_truth decisive
    → Adds d0 d1 (one test) → Adds d1 d2 (one (instr.Push x)) → Adds d2 d3 (one (instr.Jump end)) → Adds d3 d4 (one (instr.Push y))
    → Adds d0 d4 (truths decisive)
unfolding ◌then◌ truths
adds_truths d0 d1 d2 d3 d4 decisive to end x y test to_is end_is test_is x_is y_is a b c d =
    let l = length d0.instrs in
    let c0 = a.count in
    let c1 = b.count in
    let c2 = c.count in
    let c3 = d.count in
    let all = adds_then d0 d1 d4 (one test) _ a (adds_then d1 d2 d4 (one (instr.Push x)) _ b (adds_then d2 d3 d4 (one (instr.Jump end)) (one (instr.Push y)) c d)) in
    adds_same d0 d4 _ (truths decisive) all refl (λ short.
    let e1 : to ≡ l + 3 = place_is to (l + 3) to_is (omega (arith, c0, c1, c2, c3, short)) in
    let e2 : end ≡ l + 4 = omega (arith, end_is, c0, c1, c2, c3, short) in
    ap (λ i. i ∷ instr.Push x ∷ instr.Jump end ∷ instr.Push y ∷ []) (test_is ∙ ap (jump_where decisive) e1)
    ∙ ap (λ n. jump_where decisive (l + 3) ∷ instr.Push n ∷ instr.Jump end ∷ instr.Push y ∷ []) (x_is ∙ opposite_is decisive)
    ∙ ap (λ n. jump_where decisive (l + 3) ∷ instr.Push (word_of_truth (opposite decisive)) ∷ instr.Jump n ∷ instr.Push y ∷ []) e2
    ∙ ap (λ n. jump_where decisive (l + 3) ∷ instr.Push (word_of_truth (opposite decisive)) ∷ instr.Jump (l + 4) ∷ instr.Push n ∷ []) y_is)

-- a jump over a part of so many instructions and over the first ones of what follows
pub adds_over : (d0 d1 d2 d3 : Draft) (jump : ℕ → Instr) (more n to : ℕ) (a c : Part) → Sized a n → to ≡ at_most_word (length d0.instrs + (n + (1 + more)))
    → length d2.instrs + more ≤ length d3.instrs → Adds d0 d1 (one (jump to)) → Adds d1 d2 a → Adds d2 d3 c → Adds d0 d3 (over jump more a then c)
unfolding ◌then◌ over
adds_over d0 d1 d2 d3 jump more n to a c sized to_is within x y z =
    let l = length d0.instrs in
    let k = length (a (l + 1)) in
    let c0 : length d1.instrs ≡ l + 1 = x.count in
    let c1 : length d2.instrs ≡ l + 1 + length (a (length d1.instrs)) = y.count ∙ ap (λ p. p + length (a (length d1.instrs))) c0 in
    let k_is : k ≡ n = sized.by (l + 1) in
    let m_is : length (a (length d1.instrs)) ≡ n = sized.by (length d1.instrs) in
    let all = adds_then d0 d1 d3 (one (jump to)) _ x (adds_then d1 d2 d3 a c y z) in
    let behind : l + 1 + k ≡ l + length (jump to ∷ a (l + 1)) = omega arith in
    adds_same d0 d3 _ (over jump more a then c) all (ap (λ p. length (jump to ∷ (a (l + 1) ++ c p))) behind) (λ short.
    let e : to ≡ l + 1 + k + more = omega (arith, to_is, c1, k_is, m_is, within, short) in
    ap (λ t. jump t ∷ (a (l + 1) ++ c (l + 1 + k))) e ∙ ap (λ p. jump (l + 1 + k + more) ∷ (a (l + 1) ++ c p)) behind)

-- a jump over a part, with nothing behind it
pub adds_over_last : (d0 d1 d2 : Draft) (jump : ℕ → Instr) (n to : ℕ) (a : Part) → Sized a n → to ≡ at_most_word (length d0.instrs + (n + 1))
    → Adds d0 d1 (one (jump to)) → Adds d1 d2 a → Adds d0 d2 (over jump 0 a)
unfolding ◌then◌ over
adds_over_last d0 d1 d2 jump n to a sized to_is x y =
    let l = length d0.instrs in
    let k = length (a (l + 1)) in
    let c0 : length d1.instrs ≡ l + 1 = x.count in
    let c1 : length d2.instrs ≡ l + 1 + length (a (length d1.instrs)) = y.count ∙ ap (λ p. p + length (a (length d1.instrs))) c0 in
    let k_is : k ≡ n = sized.by (l + 1) in
    let m_is : length (a (length d1.instrs)) ≡ n = sized.by (length d1.instrs) in
    let all = adds_then d0 d1 d2 (one (jump to)) a x y in
    adds_same d0 d2 _ (over jump 0 a) all refl (λ short.
    let e : to ≡ l + 1 + k + 0 = omega (arith, to_is, c1, k_is, m_is, short) in
    ap (λ t. jump t ∷ a (l + 1)) e)

-- ---- the steps of expressions

pub adds_back : (d0 d1 : Draft) (by same : OffsetBy) (scale : ℕ) → by ≡ same → Adds d0 d1 (offset_back same scale) → Adds d0 d1 (offset_back by scale)
adds_back d0 d1 by same scale is a = subst (λ b. Adds d0 d1 (offset_back b scale)) (sym is) a

pub adds_advance : (d0 d1 d2 d3 : Draft) (direction : Direction) (o : Operator) (scale : ℕ) (i : Instr) → o ≡ moving direction → Adds d0 d1 (scaled scale)
    → Adds d1 d2 (on_words o) → Adds d2 d3 (one i) → Adds d0 d3 (scaled scale then on_words (moving direction) then one i)
adds_advance d0 d1 d2 d3 direction o scale i is a b c =
    adds_then d0 d1 d3 (scaled scale) _ a (adds_then d1 d2 d3 (on_words (moving direction)) (one i) (subst (λ p. Adds d1 d2 (on_words p)) is b) c)

pub adds_given : (d0 d1 d2 d3 : Draft) (given : Given) (counted : Counted) (direction : Direction) (n : ℕ) (o : Operator) (k : Kind) → given ≡ Old
    → n ≡ amount counted → o ≡ against direction → k ≡ counted_kind counted
    → Adds d0 d1 (one (instr.Push n)) → Adds d1 d2 (on_words o) → Adds d2 d3 (one (instr.Extend k)) → Adds d0 d3 (given_part given counted direction)
adds_given d0 d1 d2 d3 given counted direction n o k given_is n_is o_is k_is a b c =
    subst (λ g. Adds d0 d3 (given_part g counted direction)) (sym given_is)
    (adds_then d0 d1 d3 (one (instr.Push (amount counted))) _ (subst (λ m. Adds d0 d1 (one (instr.Push m))) n_is a)
    (adds_then d1 d2 d3 (on_words (against direction)) (one (instr.Extend (counted_kind counted))) (subst (λ p. Adds d1 d2 (on_words p)) o_is b)
    (subst (λ j. Adds d2 d3 (one (instr.Extend j))) k_is c)))

pub adds_count : (d0 d1 d2 d3 d4 d5 d6 d7 : Draft) (given : Given) (counted : Counted) (direction : Direction) (n : ℕ) (o : Operator) (k : Kind)
    → n ≡ amount counted → o ≡ moving direction → k ≡ counted_kind counted
    → Adds d0 d1 (one instr.Dup) → Adds d1 d2 (one (instr.Load k)) → Adds d2 d3 (one (instr.Push n)) → Adds d3 d4 (on_words o)
    → Adds d4 d5 (one (instr.Extend k)) → Adds d5 d6 (one (instr.Store k)) → Adds d6 d7 (given_part given counted direction)
    → Adds d0 d7 (step_part (Step-F.Count counted direction given))
adds_count d0 d1 d2 d3 d4 d5 d6 d7 given counted direction n o k n_is o_is k_is a b c d e f g =
    let k' = counted_kind counted in
    let g1 = adds_then d5 d6 d7 (one (instr.Store k')) (given_part given counted direction) (subst (λ j. Adds d5 d6 (one (instr.Store j))) k_is f) g in
    let g2 = adds_then d4 d5 d7 (one (instr.Extend k')) _ (subst (λ j. Adds d4 d5 (one (instr.Extend j))) k_is e) g1 in
    let g3 = adds_then d3 d4 d7 (on_words (moving direction)) _ (subst (λ p. Adds d3 d4 (on_words p)) o_is d) g2 in
    let g4 = adds_then d2 d3 d7 (one (instr.Push (amount counted))) _ (subst (λ m. Adds d2 d3 (one (instr.Push m))) n_is c) g3 in
    let g5 = adds_then d1 d2 d7 (one (instr.Load k')) _ (subst (λ j. Adds d1 d2 (one (instr.Load j))) k_is b) g4 in
    adds_then d0 d1 d7 (one instr.Dup) _ a g5
