-- What the emitters of loops add, from what their steps add.
use Rattle.std.proofs.Common.{◌≡◌, ℕ, ◌+◌, ◌≤◌, min, List, ◌∷◌, length, sym, ap, ◌∙◌, subst, arith}
use Rattle.std.specs.Prelude.{Option, None, Some}
use Rattle.vm_code.specs.declared.instr.Instr.TheVariants as instr
use Rattle.c_types.specs.declared.expression.FullExpr.{FullExpr}
use Rattle.c_types.specs.declared.statement.Stmt.{Stmt}
use Rattle.c_types.specs.declared.statement.Stmt.TheVariants as stmt
use Rattle.c_types.specs.declared.statement.Declared.{Declared}
use Rattle.codegen.specs.declared.draft.Draft.{Draft}
use Rattle.codegen.specs.Layout.{one, ◌then◌}
use Rattle.codegen.specs.Sizes.{expr_size, dropped_size, test_size, again_size, all_declared_size}
use Rattle.codegen.specs.Statements.{Within, Targets, Piece, ticked, full_part, dropped_part, all_declared_part, test_part, again_part, continue_place, stmt_piece, while_piece, do_piece, for_piece}
use Rattle.codegen.specs.Making.{Adds, at_most_word, turns_to, turns_size, turns_part, for_turns_to, for_turns_size, for_turns_part}
use Rattle.codegen.proofs.Shaping.{Sized, SizedPiece, sized_one, sized_then, sized_piece, sized_ticked, sized_full, sized_dropped, sized_test, sized_again, sized_all_declared, has_size}
use Rattle.codegen.proofs.Adding.{adds_then, adds_same, adds_is}
use Rattle.codegen.proofs.Emitting.{then_assoc}
use Rattle.codegen.proofs.Sizing.{cut_sum, cut_more}
use Rattle.codegen.proofs.Pieces.{piece_while, piece_do, piece_for}
use Rattle.codegen.proofs.StatementSizing.{test_is_dropped}
use Rattle.codegen.proofs.Stating.{then_at, part_of, stmt_named}

module _ (w : Within) where
  sized_turns : (line : ℕ) (e : FullExpr) (s : Piece) (end start : ℕ) → SizedPiece s → Sized (turns_to w line e s end start) (turns_size e s)
  sized_turns line e s end start sized = record {
    by = λ place.
        let t : Targets = record { to_break = end; to_continue = start } in
        let last = sized_then (s.part t) (one (instr.Jump start)) s.size 1 (sized_piece s t sized) (sized_one _) in
        let rest = sized_then (one (instr.JumpIfZero end)) _ 1 _ (sized_one _) last in
        let value = sized_then (full_part w e) _ (expr_size e.expr) _ (sized_full w e) rest in
        let all = (sized_then (ticked w line) _ 1 _ (sized_ticked w line) value).by place in
        omega (arith, all);
  }

  pub turns_add : (d0 d1 d2 d3 d4 : Draft) (line : ℕ) (e : FullExpr) (s : Stmt) (x y z a start end : ℕ)
      → x ≡ at_most_word (expr_size e.expr) → y ≡ at_most_word ((stmt_piece w s).size) → z ≡ min (x + y) 4294967295 → a ≡ min (z + 3) 4294967295
      → start ≡ at_most_word (length d0.instrs) → ((n : ℕ) → a ≡ at_most_word n → end ≡ at_most_word (length d0.instrs + n))
      → Adds d0 d1 (ticked w line then full_part w e) → Adds d1 d2 (one (instr.JumpIfZero end))
      → Adds d2 d3 ((stmt_piece w s).part (record { to_break = end; to_continue = start })) → Adds d3 d4 (one (instr.Jump start))
      → Adds d0 d4 (turns_part w line e (stmt_piece w s))
  turns_add d0 d1 d2 d3 d4 line e s x y z a start end x_is y_is z_is a_is start_is end_is test jump body back =
      let p = stmt_piece w s in
      let l = length d0.instrs in
      let n = turns_size e p in
      let all : Adds d0 d4 (turns_to w line e p end start) =
      subst (Adds d0 d4) (then_assoc (ticked w line) (full_part w e) _) (adds_then d0 d1 d4 _ _ test (adds_then d1 d2 d4 _ _ jump (adds_then d2 d3 d4 _ _ body back))) in
      let sized = (sized_turns line e p end start (has_size w s)).by l in
      let same = (sized_turns line e p (l + n) l (has_size w s)).by l in
      let count = all.count in
      let end' : end ≡ at_most_word (l + (expr_size e.expr + p.size + 3)) = end_is (expr_size e.expr + p.size + 3) (cut_more z a _ 3 (cut_sum x y z _ _ x_is y_is z_is) a_is) in
      adds_same d0 d4 (turns_to w line e p end start) (turns_part w line e p) all (sized ∙ sym same) (λ short.
      let e1 : end ≡ l + n = omega (arith, end', count, sized, short) in
      let e2 : start ≡ l = omega (arith, start_is, count, short) in
      ap (λ m. turns_to w line e p m start l) e1 ∙ ap (λ m. turns_to w line e p (l + n) m l) e2)

  sized_for_turns : (line : ℕ) (test step : Option FullExpr) (s : Piece) (end start again : ℕ) → SizedPiece s
      → Sized (for_turns_to w line test step s end start again) (for_turns_size test step s)
  sized_for_turns line test step s end start again sized = record {
    by = λ place.
        let t : Targets = record { to_break = end; to_continue = again } in
        let last = sized_then (again_part w line step) (one (instr.Jump start)) (again_size step) 1 (sized_again w line step) (sized_one _) in
        let body = sized_then (s.part t) _ s.size _ (sized_piece s t sized) last in
        let tests = sized_then (test_part w test end) _ (test_size test) _ (sized_test w test end) body in
        let all = (sized_then (ticked w line) _ 1 _ (sized_ticked w line) tests).by place in
        omega (arith, all);
  }

  continue_is : (step : Option FullExpr) (x x' y y' : ℕ) → x ≡ x' → (3 ≤ again_size step → y ≡ y') → continue_place step x y ≡ continue_place step x' y'
  continue_is None x x' y y' e f = e
  continue_is (Some s) x x' y y' e f = f (omega arith)

  pub for_turns_add : (d0 d1 d2 d3 d4 d5 : Draft) (line : ℕ) (test step : Option FullExpr) (s : Stmt) (x y z a b c f start end again to : ℕ)
      → x ≡ at_most_word (dropped_size test) → y ≡ at_most_word ((stmt_piece w s).size) → z ≡ min (x + y) 4294967295
      → a ≡ min (z + 3) 4294967295 → b ≡ at_most_word (again_size step) → c ≡ min (z + b) 4294967295 → f ≡ min (c + 2) 4294967295
      → start ≡ at_most_word (length d0.instrs) → ((n : ℕ) → a ≡ at_most_word n → again ≡ at_most_word (length d0.instrs + n))
      → ((n : ℕ) → f ≡ at_most_word n → end ≡ at_most_word (length d0.instrs + n)) → to ≡ continue_place step start again
      → Adds d0 d1 (ticked w line) → Adds d1 d2 (test_part w test end) → Adds d2 d3 ((stmt_piece w s).part (record { to_break = end; to_continue = to }))
      → Adds d3 d4 (again_part w line step) → Adds d4 d5 (one (instr.Jump start)) → Adds d0 d5 (for_turns_part w line test step (stmt_piece w s))
  for_turns_add d0 d1 d2 d3 d4 d5 line test step s x y z a b c f start end again to x_is y_is z_is a_is b_is c_is f_is start_is again_is end_is to_is tick tests body steps back =
      let p = stmt_piece w s in
      let l = length d0.instrs in
      let n = for_turns_size test step p in
      let m = l + 1 + test_size test + p.size + 2 in
      let all : Adds d0 d5 (for_turns_to w line test step p end start to) =
      adds_then d0 d1 d5 _ _ tick (adds_then d1 d2 d5 _ _ tests (adds_then d2 d3 d5 _ _ body (adds_then d3 d4 d5 _ _ steps back))) in
      let sized = (sized_for_turns line test step p end start to (has_size w s)).by l in
      let same = (sized_for_turns line test step p (l + n) l (continue_place step l m) (has_size w s)).by l in
      let count = all.count in
      let test_is = test_is_dropped test in
      let z' : z ≡ at_most_word (dropped_size test + p.size) = cut_sum x y z _ _ x_is y_is z_is in
      let again' : again ≡ at_most_word (l + (dropped_size test + p.size + 3)) = again_is _ (cut_more z a _ 3 z' a_is) in
      let end' : end ≡ at_most_word (l + (dropped_size test + p.size + again_size step + 2)) = end_is _ (cut_more c f _ 2 (cut_sum z b c _ _ z' b_is c_is) f_is) in
      adds_same d0 d5 (for_turns_to w line test step p end start to) (for_turns_part w line test step p) all (sized ∙ sym same) (λ short.
      let e1 : end ≡ l + n = omega (arith, end', test_is, count, sized, short) in
      let e2 : start ≡ l = omega (arith, start_is, count, short) in
      let e3 : to ≡ continue_place step l m = to_is ∙ continue_is step start l again m e2 (λ three. omega (arith, again', test_is, count, sized, short, three)) in
      ap (λ k. for_turns_to w line test step p k start to l) e1 ∙ ap (λ k. for_turns_to w line test step p (l + n) k to l) e2
      ∙ ap (λ k. for_turns_to w line test step p (l + n) l k l) e3)

  -- ---- loops

  while_is : (line : ℕ) (e : FullExpr) (p : Piece) (t : Targets) (l : ℕ) → (ticked w line then turns_part w line e p) l ≡ (while_piece w line e p).part t l
  unfolding ◌then◌
  while_is line e p t l =
      let n : l + 1 + turns_size e p ≡ l + (2 + expr_size e.expr + 1 + p.size + 1) = omega arith in
      ap (λ k. instr.Tick w.unit line ∷ turns_to w line e p k (l + 1) (l + 1)) n

  pub while_adds : (d0 d1 d2 : Draft) (s b b' : Stmt) (line : ℕ) (e : FullExpr) (t : Targets) → s ≡ stmt.While line e b → b' ≡ b → Adds d0 d1 (ticked w line)
      → Adds d1 d2 (turns_part w line e (stmt_piece w b')) → Adds d0 d2 (part_of w t s)
  while_adds d0 d1 d2 s b b' line e t is same x y =
      let y' = subst (λ a. Adds d1 d2 (turns_part w line e (stmt_piece w a))) same y in
      stmt_named w d0 d2 s _ _ t is (piece_while w line e b)
      (adds_is d0 d2 _ _ (adds_then d0 d1 d2 _ _ x y') (while_is line e (stmt_piece w b) t (length d0.instrs)))

  do_tail : (line : ℕ) (e : FullExpr) (p : Piece) (l : ℕ)
      → turns_part w line e p (l + 1 + 1) ≡ turns_to w line e p (l + (3 + expr_size e.expr + 1 + p.size + 1)) (l + 2) (l + 1 + 1)
  do_tail line e p l =
      let n : l + 1 + 1 + turns_size e p ≡ l + (3 + expr_size e.expr + 1 + p.size + 1) = omega arith in
      let m : l + 1 + 1 ≡ l + 2 = omega arith in
      ap (λ k. turns_to w line e p k (l + 1 + 1) (l + 1 + 1)) n ∙ ap (λ k. turns_to w line e p (l + (3 + expr_size e.expr + 1 + p.size + 1)) k (l + 1 + 1)) m

  do_part : (d0 d1 d2 d3 : Draft) (line : ℕ) (e : FullExpr) (p : Piece) (t : Targets) (x z into : ℕ) → SizedPiece p → x ≡ at_most_word (expr_size e.expr) → z ≡ min (x + 4) 4294967295
      → ((n : ℕ) → z ≡ at_most_word n → into ≡ at_most_word (length d0.instrs + n)) → Adds d0 d1 (ticked w line) → Adds d1 d2 (one (instr.Jump into))
      → Adds d2 d3 (turns_part w line e p) → Adds d0 d3 ((do_piece w line p e).part t)
  unfolding ◌then◌
  do_part d0 d1 d2 d3 line e p t x z into sized x_is z_is into_is a b c =
      let l = length d0.instrs in
      let n = expr_size e.expr in
      let first = a.count in
      let second = b.count in
      let third = c.count in
      let q = length d2.instrs in
      let size = (sized_turns line e p (q + turns_size e p) q sized).by q in
      let into' : into ≡ at_most_word (l + (n + 4)) = into_is (n + 4) (cut_more x z n 4 x_is z_is) in
      let tail = do_tail line e p l in
      let told = instr.Tick w.unit line in
      adds_same d0 d3 (ticked w line then one (instr.Jump into) then turns_part w line e p) _ (adds_then d0 d1 d3 _ _ a (adds_then d1 d2 d3 _ _ b c))
      (ap (λ r. length (told ∷ instr.Jump into ∷ r)) tail) (λ short.
      let e1 : into ≡ l + 3 + n + 1 = omega (arith, into', first, second, third, size, short) in
      ap (λ r. told ∷ instr.Jump into ∷ r) tail
      ∙ ap (λ k. told ∷ instr.Jump k ∷ turns_to w line e p (l + (3 + n + 1 + p.size + 1)) (l + 2) (l + 1 + 1)) e1)

  pub do_adds : (d0 d1 d2 d3 : Draft) (s b b' : Stmt) (line : ℕ) (e : FullExpr) (t : Targets) (x z into : ℕ) → s ≡ stmt.Do line b e → b' ≡ b → x ≡ at_most_word (expr_size e.expr)
      → z ≡ min (x + 4) 4294967295 → ((n : ℕ) → z ≡ at_most_word n → into ≡ at_most_word (length d0.instrs + n)) → Adds d0 d1 (ticked w line)
      → Adds d1 d2 (one (instr.Jump into)) → Adds d2 d3 (turns_part w line e (stmt_piece w b')) → Adds d0 d3 (part_of w t s)
  do_adds d0 d1 d2 d3 s b b' line e t x z into is same x_is z_is into_is a c f =
      let f' = subst (λ y. Adds d2 d3 (turns_part w line e (stmt_piece w y))) same f in
      stmt_named w d0 d3 s _ _ t is (piece_do w line b e) (do_part d0 d1 d2 d3 line e (stmt_piece w b) t x z into (has_size w b) x_is z_is into_is a c f')

  abbrev before_turns : List Declared → Option FullExpr → ℕ
  before_turns ds start = 1 + all_declared_size ds + dropped_size start

  for_tail : (line : ℕ) (ds : List Declared) (start test step : Option FullExpr) (p : Piece) (l q : ℕ) → q ≡ l + before_turns ds start
      → for_turns_part w line test step p q
      ≡ for_turns_to w line test step p (l + (before_turns ds start + 1 + test_size test + p.size + again_size step + 1)) (l + before_turns ds start)
      (continue_place step (l + before_turns ds start) (l + (before_turns ds start + 1 + test_size test + p.size) + 2)) q
  for_tail line ds start test step p l q q_is =
      let k = before_turns ds start in
      let end = l + (k + 1 + test_size test + p.size + again_size step + 1) in
      let m = q + 1 + test_size test + p.size + 2 in
      let e1 : q + for_turns_size test step p ≡ end = omega (arith, q_is) in
      let e2 : m ≡ l + (k + 1 + test_size test + p.size) + 2 = omega (arith, q_is) in
      let e3 = continue_is step q (l + k) m (l + (k + 1 + test_size test + p.size) + 2) q_is (λ three. e2) in
      ap (λ j. for_turns_to w line test step p j q (continue_place step q m) q) e1 ∙ ap (λ j. for_turns_to w line test step p end j (continue_place step q m) q) q_is
      ∙ ap (λ j. for_turns_to w line test step p end (l + k) j q) e3

  for_is : (line : ℕ) (ds : List Declared) (start test step : Option FullExpr) (p : Piece) (t : Targets) (l : ℕ)
      → (ticked w line then all_declared_part w ds then dropped_part w start then for_turns_part w line test step p) l ≡ (for_piece w line ds start test step p).part t l
  for_is line ds start test step p t l =
      let n = (sized_all_declared w ds).by (l + 1) in
      let q = l + 1 + length (all_declared_part w ds (l + 1)) in
      let m = (sized_dropped w start).by q in
      then_at (ticked w line) _ _ l (then_at (all_declared_part w ds) _ _ (l + 1) (then_at (dropped_part w start) _ _ q
      (for_tail line ds start test step p l (q + length (dropped_part w start q)) (omega (arith, n, m)))))

  pub for_adds : (d0 d1 d2 d3 d4 : Draft) (s b b' : Stmt) (line : ℕ) (ds ds' : List Declared) (start test step : Option FullExpr) (t : Targets) → s ≡ stmt.For line ds start test step b
      → ds' ≡ ds → b' ≡ b → Adds d0 d1 (ticked w line) → Adds d1 d2 (all_declared_part w ds') → Adds d2 d3 (dropped_part w start)
      → Adds d3 d4 (for_turns_part w line test step (stmt_piece w b')) → Adds d0 d4 (part_of w t s)
  for_adds d0 d1 d2 d3 d4 s b b' line ds ds' start test step t is ds_are same a c f g =
      let c' = subst (λ l. Adds d1 d2 (all_declared_part w l)) ds_are c in
      let g' = subst (λ y. Adds d3 d4 (for_turns_part w line test step (stmt_piece w y))) same g in
      stmt_named w d0 d4 s _ _ t is (piece_for w line ds start test step b)
      (adds_is d0 d4 _ _ (adds_then d0 d1 d4 _ _ a (adds_then d1 d2 d4 _ _ c' (adds_then d2 d3 d4 _ _ f g')))
      (for_is line ds start test step (stmt_piece w b) t (length d0.instrs)))
