-- What the emitters of a `switch` add, from what their steps add.
use Rattle.std.proofs.Common.{◌≡◌, ℕ, ◌+◌, ◌<◌, ◌≤◌, ◌^◌, min, List, [], ◌∷◌, ◌++◌, map, take, length, get_or, refl, sym, ap, ◌∙◌, subst, arith}
use Rattle.std.proofs.lemmas.List.{get_or_default}
use Rattle.std.specs.Prelude.{Option, None, Some}
use Rattle.rank_range.specs.declared.kinds.Kind.TheVariants.{UnsignedLong}
use Rattle.rank_range.specs.declared.operators.Binary.TheVariants.{Equal}
use Rattle.vm_code.specs.declared.instr.Instr.{Instr}
use Rattle.vm_code.specs.declared.instr.Instr.TheVariants as instr
use Rattle.c_types.specs.declared.expression.FullExpr.{FullExpr}
use Rattle.c_types.specs.declared.statement.Stmt.{Stmt}
use Rattle.c_types.specs.declared.statement.Stmt.TheVariants as stmt
use Rattle.c_types.specs.declared.statement.Case.{Case}
use Rattle.codegen.specs.declared.draft.Draft.{Draft}
use Rattle.codegen.specs.Layout.{Part, one, ◌then◌, in_order, on_words}
use Rattle.codegen.specs.Sizes.{expr_size, cases_size}
use Rattle.codegen.specs.Statements.{Within, Targets, Piece, ticked, full_part, case_part, cases_part, led_to, default_to, choice_part, stmt_piece, switch_piece}
use Rattle.codegen.specs.Making.{Adds, at_most_word, cut, cut_to, label_to, switch_to, switch_front, switch_part}
use Rattle.codegen.proofs.Shaping.{Sized, SizedPiece, sized_then, sized_piece, sized_case, sized_choice, sized_full, has_size}
use Rattle.codegen.proofs.Labelling.{Below, labels_within}
use Rattle.codegen.proofs.Adding.{adds_then, adds_same, adds_is, place_is}
use Rattle.codegen.proofs.Emitting.{then_assoc, adds_next, adds_all}
use Rattle.codegen.proofs.Sizing.{cut_sum, cut_more, cut_is}
use Rattle.codegen.proofs.Pieces.{piece_switch}
use Rattle.codegen.proofs.Stating.{then_at, part_of, stmt_named}

-- ---- the choice

pub case_adds : (d0 d1 d2 d3 d4 d5 d6 : Draft) (c : Case) (to next : ℕ) → next ≡ at_most_word (length d0.instrs + 6)
    → Adds d0 d1 (one instr.Dup) → Adds d1 d2 (one (instr.Push c.value)) → Adds d2 d3 (on_words Equal) → Adds d3 d4 (one (instr.JumpIfZero next))
    → Adds d4 d5 (one instr.Pop) → Adds d5 d6 (one (instr.Jump to)) → Adds d0 d6 (case_part to c)
unfolding ◌then◌ case_part
case_adds d0 d1 d2 d3 d4 d5 d6 c to next next_is x0 x1 x2 x3 x4 x5 =
    let l = length d0.instrs in
    let c0 = x0.count in
    let c1 = x1.count in
    let c2 = x2.count in
    let c3 = x3.count in
    let c4 = x4.count in
    let c5 = x5.count in
    let all = adds_then d0 d1 d6 _ _ x0 (adds_then d1 d2 d6 _ _ x1 (adds_then d2 d3 d6 _ _ x2 (adds_then d3 d4 d6 _ _ x3 (adds_then d4 d5 d6 _ _ x4 x5)))) in
    adds_same d0 d6 _ (case_part to c) all refl (λ short.
    let e : next ≡ l + 6 = omega (arith, next_is, c0, c1, c2, c3, c4, c5, short) in
    ap (λ n. instr.Dup ∷ instr.Push c.value ∷ instr.Binary Equal UnsignedLong ∷ instr.JumpIfZero n ∷ instr.Pop ∷ instr.Jump to ∷ []) e)

-- a case of a `switch` whose labels lead there
abbrev pub case_of : (ℕ → ℕ) → Case → Part
case_of to c = case_part (to c.label) c

cases_in_order : (to : ℕ → ℕ) (cs : List Case) → cases_part to cs ≡ in_order (map (case_of to) cs)
cases_in_order to [] = refl
cases_in_order to (c ∷ cs) = ap (λ r. case_of to c then r) (cases_in_order to cs)

pub cases_add : (d e : Draft) (to : ℕ → ℕ) (cs : List Case) (i : ℕ) → length cs ≤ i → Adds d e (in_order (map (case_of to) (take i cs))) → Adds d e (cases_part to cs)
cases_add d e to cs i past x = subst (Adds d e) (sym (cases_in_order to cs)) (adds_all d e (case_of to) cs i past x)

-- ---- the same part in other words

both_same : (a a' b b' : Part) (place : ℕ) → a place ≡ a' place → ((q : ℕ) → b q ≡ b' q) → (a then b) place ≡ (a' then b') place
unfolding ◌then◌
both_same a a' b b' place first second = ap (λ x. x ++ b (place + length x)) first ∙ ap (λ r. a' place ++ r) (second (place + length (a' place)))

cases_same : (f g : ℕ → ℕ) → ((label : ℕ) → f label ≡ g label) → (cs : List Case) (place : ℕ) → cases_part f cs place ≡ cases_part g cs place
cases_same f g same [] place = refl
cases_same f g same (c ∷ cs) place =
    both_same (case_of f c) (case_of g c) (cases_part f cs) (cases_part g cs) place (ap (λ n. case_part n c place) (same c.label)) (cases_same f g same cs)

default_same : (f g : ℕ → ℕ) (end end' : ℕ) (o : Option ℕ) → ((label : ℕ) → f label ≡ g label) → end ≡ end' → default_to f end o ≡ default_to g end' o
default_same f g end end' None same e = e
default_same f g end end' (Some label) same e = same label

switch_same : (f g : ℕ → ℕ) (end end' to_continue : ℕ) (cases : List Case) (default : Option ℕ) (p : Piece) (place : ℕ) → ((label : ℕ) → f label ≡ g label) → end ≡ end'
    → switch_to f end to_continue cases default p place ≡ switch_to g end' to_continue cases default p place
switch_same f g end end' to_continue cases default p place same e =
    both_same (choice_part f end cases default) (choice_part g end' cases default) (p.part (record { to_break = end; to_continue = to_continue }))
    (p.part (record { to_break = end'; to_continue = to_continue })) place
    (both_same (cases_part f cases) (cases_part g cases) (one instr.Pop then one (instr.Jump (default_to f end default))) (one instr.Pop then one (instr.Jump (default_to g end' default))) place
    (cases_same f g same cases place) (λ q. ap (λ n. (one instr.Pop then one (instr.Jump n)) q) (default_same f g end end' default same e)))
    (λ q. ap (λ n. p.part (record { to_break = n; to_continue = to_continue }) q) e)

-- ---- labels

-- a place that isn't cut off
led_same : (o : Option ℕ) (start end body end' size : ℕ) → Below size o → body + size < 2 ^ 32 → start ≡ at_most_word body → end ≡ at_most_word end' → end' ≡ body + size
    → cut_to start end (cut o) ≡ led_to body end' o
led_same None start end body end' size below small start_is end_is same = omega (arith, small, end_is, same)
led_same (Some n) start end body end' size below small start_is end_is same = omega (arith, below, small, start_is)

pub led_none : (start end : ℕ) (o : Option ℕ) → o ≡ None → end ≡ cut_to start end o
led_none start end o is = ap (cut_to start end) (sym is)

pub led_some : (start end n r : ℕ) (o : Option ℕ) → o ≡ Some n → r ≡ min (start + n) 4294967295 → r ≡ cut_to start end o
led_some start end n r o is r_is = r_is ∙ ap (cut_to start end) (sym is)

module _ (w : Within) where
  pub label_led : (s : Stmt) (start end label r : ℕ) (found : Option ℕ) → found ≡ cut ((stmt_piece w s).label label) → r ≡ cut_to start end found
      → r ≡ label_to start end (stmt_piece w s) label
  label_led s start end label r found found_is r_is = r_is ∙ ap (cut_to start end) found_is

  pub case_leads : (d1 d2 : Draft) (s : Stmt) (start end : ℕ) (c : Case) (r : ℕ) (found : Option ℕ) → found ≡ cut ((stmt_piece w s).label c.label) → r ≡ cut_to start end found
      → Adds d1 d2 (case_part r c) → Adds d1 d2 (case_of (label_to start end (stmt_piece w s)) c)
  case_leads d1 d2 s start end c r found found_is r_is y = subst (λ n. Adds d1 d2 (case_part n c)) (label_led s start end c.label r found found_is r_is) y

  pub case_next : (d0 d1 d2 : Draft) (s : Stmt) (start end : ℕ) (cs : List Case) (i : ℕ) (e : Case) → i < length cs
      → Adds d0 d1 (in_order (map (case_of (label_to start end (stmt_piece w s))) (take i cs))) → Adds d1 d2 (case_of (label_to start end (stmt_piece w s)) (get_or cs i e))
      → Adds d0 d2 (in_order (map (case_of (label_to start end (stmt_piece w s))) (take (i + 1) cs)))
  case_next d0 d1 d2 s start end cs i e within x y =
      adds_next d0 d1 d2 (case_of (label_to start end (stmt_piece w s))) cs i (get_or cs i e) within (get_or_default cs i e (get_or cs i e) within) x y

  pub default_none : (s : Stmt) (start end : ℕ) (default : Option ℕ) → default ≡ None → end ≡ default_to (label_to start end (stmt_piece w s)) end default
  default_none s start end default is = ap (default_to (label_to start end (stmt_piece w s)) end) (sym is)

  pub default_some : (s : Stmt) (start end label r : ℕ) (default found : Option ℕ) → default ≡ Some label → found ≡ cut ((stmt_piece w s).label label)
      → r ≡ cut_to start end found → r ≡ default_to (label_to start end (stmt_piece w s)) end default
  default_some s start end label r default found is found_is r_is =
      label_led s start end label r found found_is r_is ∙ ap (default_to (label_to start end (stmt_piece w s)) end) (sym is)

  -- ---- the body

  sized_switch : (to : ℕ → ℕ) (end to_continue : ℕ) (cases : List Case) (default : Option ℕ) (p : Piece) → SizedPiece p
      → Sized (switch_to to end to_continue cases default p) (cases_size cases + 2 + p.size)
  sized_switch to end to_continue cases default p sized =
      sized_then (choice_part to end cases default) _ (cases_size cases + 2) p.size (sized_choice to end cases default)
      (sized_piece p (record { to_break = end; to_continue = to_continue }) sized)

  pub switch_emits : (d0 d1 d2 d3 d4 : Draft) (cases : List Case) (default : Option ℕ) (s : Stmt) (t : Targets) (x front y far start end goal : ℕ) → x ≡ at_most_word (cases_size cases)
      → front ≡ min (x + 2) 4294967295 → ((n : ℕ) → front ≡ at_most_word n → start ≡ at_most_word (length d0.instrs + n)) → y ≡ at_most_word ((stmt_piece w s).size)
      → far ≡ min (front + y) 4294967295 → ((n : ℕ) → far ≡ at_most_word n → end ≡ at_most_word (length d0.instrs + n))
      → goal ≡ default_to (label_to start end (stmt_piece w s)) end default → Adds d0 d1 (cases_part (label_to start end (stmt_piece w s)) cases) → Adds d1 d2 (one instr.Pop)
      → Adds d2 d3 (one (instr.Jump goal)) → Adds d3 d4 (part_of w (record { to_break = end; to_continue = t.to_continue }) s)
      → Adds d0 d4 (switch_part t cases default (stmt_piece w s))
  switch_emits d0 d1 d2 d3 d4 cases default s t x front y far start end goal x_is front_is start_is y_is far_is end_is goal_is a b c f =
      let p = stmt_piece w s in
      let l = length d0.instrs in
      let k = cases_size cases in
      let body = l + (k + 2) in
      let end' = body + p.size in
      let from : ℕ → ℕ = label_to start end p in
      let to : ℕ → ℕ = λ label. led_to body end' (p.label label) in
      let all : Adds d0 d4 (switch_to from end t.to_continue cases default p) =
      adds_then d0 d3 d4 _ _ (adds_then d0 d1 d3 _ _ a (adds_then d1 d2 d3 _ _ b (subst (λ n. Adds d2 d3 (one (instr.Jump n))) goal_is c))) f in
      let sized = (sized_switch from end t.to_continue cases default p (has_size w s)).by l in
      let same = (sized_switch to end' t.to_continue cases default p (has_size w s)).by l in
      let count = all.count in
      let front' : front ≡ at_most_word (k + 2) = cut_more x front k 2 x_is front_is in
      let start' : start ≡ at_most_word body = start_is (k + 2) front' in
      let end_at : end ≡ at_most_word (l + (k + 2 + p.size)) = end_is (k + 2 + p.size) (cut_sum front y far _ _ front' y_is far_is) in
      let end'' : end ≡ at_most_word end' = omega (arith, end_at) in
      adds_same d0 d4 (switch_to from end t.to_continue cases default p) (switch_part t cases default p) all (sized ∙ sym same) (λ short.
      let small : body + p.size < 2 ^ 32 = omega (arith, count, sized, short) in
      let e1 : end ≡ end' = omega (arith, end'', small) in
      switch_same from to end end' t.to_continue cases default p l
      (λ label. led_same (p.label label) start end body end' p.size ((labels_within w s).by label) small start' end'' refl) e1)

  switch_is : (line : ℕ) (e : FullExpr) (cases : List Case) (default : Option ℕ) (p : Piece) (t : Targets) (l : ℕ)
      → (ticked w line then full_part w e then switch_part t cases default p) l ≡ (switch_piece w line e cases default p).part t l
  switch_is line e cases default p t l =
      let n = (sized_full w e).by (l + 1) in
      let q = l + 1 + length (full_part w e (l + 1)) in
      let k = cases_size cases in
      let front = 1 + expr_size e.expr + k + 2 in
      let end = q + (k + 2) + p.size in
      let e1 : q + (k + 2) ≡ l + front = omega (arith, n) in
      let e2 : end ≡ l + (front + p.size) = omega (arith, n) in
      then_at (ticked w line) _ _ l (then_at (full_part w e) _ _ (l + 1)
      (switch_same (λ label. led_to (q + (k + 2)) end (p.label label)) (λ label. led_to (l + front) (l + (front + p.size)) (p.label label)) end (l + (front + p.size)) t.to_continue cases default p q
      (λ label. ap (λ b. led_to b end (p.label label)) e1 ∙ ap (λ b. led_to (l + front) b (p.label label)) e2) e2))

  pub switch_adds : (d0 d1 d2 : Draft) (s b b' : Stmt) (line : ℕ) (e : FullExpr) (cases cases' : List Case) (default : Option ℕ) (t : Targets) → s ≡ stmt.Switch line e cases default b
      → cases' ≡ cases → b' ≡ b → Adds d0 d1 (ticked w line then full_part w e) → Adds d1 d2 (switch_part t cases' default (stmt_piece w b')) → Adds d0 d2 (part_of w t s)
  switch_adds d0 d1 d2 s b b' line e cases cases' default t is cases_are same x y =
      let y1 = subst (λ l. Adds d1 d2 (switch_part t l default (stmt_piece w b'))) cases_are y in
      let y2 = subst (λ a. Adds d1 d2 (switch_part t cases default (stmt_piece w a))) same y1 in
      let all = subst (Adds d0 d2) (then_assoc (ticked w line) (full_part w e) _) (adds_then d0 d1 d2 _ _ x y2) in
      stmt_named w d0 d2 s _ _ t is (piece_switch w line e cases default b) (adds_is d0 d2 _ _ all (switch_is line e cases default (stmt_piece w b) t (length d0.instrs)))
