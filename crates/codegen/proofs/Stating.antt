-- What the emitters of statements add, from what their steps add.
use Rattle.std.proofs.Common.{◌≡◌, ℕ, suc, ◌+◌, ◌≤◌, min, List, [], ◌∷◌, ◌++◌, map, take, length, refl, sym, ap, ◌∙◌, subst, arith}
use Rattle.std.specs.Prelude.{Option, None, Some}
use Rattle.vm_code.specs.declared.instr.Instr.{Instr}
use Rattle.vm_code.specs.declared.instr.Instr.TheVariants as instr
use Rattle.c_types.specs.declared.expression.FullExpr.{FullExpr}
use Rattle.c_types.specs.declared.statement.Stmt.{Stmt}
use Rattle.c_types.specs.declared.statement.Stmt.TheVariants as stmt
use Rattle.c_types.specs.declared.statement.Declared.{Declared}
use Rattle.c_types.specs.declared.statement.Store.{Store}
use Rattle.codegen.specs.declared.draft.Draft.{Draft}
use Rattle.codegen.specs.Layout.{Part, one, ◌then◌, over, in_order}
use Rattle.codegen.specs.Sizes.{expr_size}
use Rattle.codegen.specs.Statements.{Within, Targets, Piece, ticked, full_part, put_part, zeros_part, stores_part, declared_part, all_declared_part, again_part, in_order_part, stmt_piece, if_piece}
use Rattle.codegen.specs.Making.{Adds, at_most_word, store_part}
use Rattle.codegen.proofs.Shaping.{Sized, SizedPiece, sized_piece, sized_full, has_size}
use Rattle.codegen.proofs.Adding.{adds_then, adds_same, adds_is, adds_over, adds_over_last, place_is}
use Rattle.codegen.proofs.Emitting.{then_assoc, adds_all}
use Rattle.codegen.proofs.Sizing.{cut_more}
use Rattle.codegen.proofs.Pieces.{piece_if, piece_if_else, piece_block, piece_labelled}

-- the same part at an equal value
pub adds_at : {A : Type 0} (d e : Draft) (f : A → Part) (x y : A) → x ≡ y → Adds d e (f y) → Adds d e (f x)
adds_at d e f x y is a = subst (λ z. Adds d e (f z)) (sym is) a

-- a part behind another one, in other words
pub then_at : (a b c : Part) (p : ℕ) → b (p + length (a p)) ≡ c (p + length (a p)) → (a then b) p ≡ (a then c) p
unfolding ◌then◌
then_at a b c p same = ap (λ r. a p ++ r) same

-- behind one instruction
pub one_then : (i : Instr) (b : Part) (p : ℕ) → (one i then b) p ≡ i ∷ b (p + 1)
unfolding ◌then◌
one_then i b p = refl

-- a jump whose place isn't cut off
pub adds_jump : (d e : Draft) (jump : ℕ → Instr) (to m : ℕ) (p : Part) → to ≡ at_most_word m → m ≤ length e.instrs → Adds d e (one (jump to) then p) → Adds d e (one (jump m) then p)
unfolding ◌then◌
adds_jump d e jump to m p to_is within a =
    let l = length d.instrs in
    adds_same d e (one (jump to) then p) (one (jump m) then p) a refl (λ short. ap (λ n. jump n ∷ p (l + 1)) (place_is to m to_is (omega (arith, within, short))))

-- ---- initialisers

module _ (w : Within) where
  pub store_adds : (d0 d1 d2 d3 d4 : Draft) (s : Store) (i : Instr) → i ≡ put_part s.stored → Adds d0 d1 (one (instr.Local s.offset)) → Adds d1 d2 (full_part w s.value)
      → Adds d2 d3 (one i) → Adds d3 d4 (one instr.Pop) → Adds d0 d4 (store_part w s)
  store_adds d0 d1 d2 d3 d4 s i is a b c e =
      adds_then d0 d1 d4 _ _ a (adds_then d1 d2 d4 _ _ b (adds_then d2 d3 d4 _ _ (subst (λ j. Adds d2 d3 (one j)) is c) e))

  pub stores_in_order : (ss : List Store) → stores_part w ss ≡ in_order (map (store_part w) ss)
  stores_in_order [] = refl
  stores_in_order (s ∷ ss) =
      let a = one (instr.Local s.offset) in
      let b = full_part w s.value in
      let c = one (put_part s.stored) in
      let e = one instr.Pop in
      ap (λ r. a then b then c then e then r) (stores_in_order ss)
      ∙ sym (then_assoc a (b then c then e) _ ∙ ap (λ r. a then r) (then_assoc b (c then e) _ ∙ ap (λ r. b then r) (then_assoc c e _)))

  pub stores_add : (d e : Draft) (ss : List Store) (i : ℕ) → length ss ≤ i → Adds d e (in_order (map (store_part w) (take i ss))) → Adds d e (stores_part w ss)
  stores_add d e ss i past x = subst (Adds d e) (sym (stores_in_order ss)) (adds_all d e (store_part w) ss i past x)

  pub declared_adds : (d0 d1 d2 d3 : Draft) (d : Declared) (ss : List Store) → ss ≡ d.stores → Adds d0 d1 (ticked w d.line) → Adds d1 d2 (zeros_part d.zeros)
      → Adds d2 d3 (stores_part w ss) → Adds d0 d3 (declared_part w d)
  declared_adds d0 d1 d2 d3 d ss is a b c = adds_then d0 d1 d3 _ _ a (adds_then d1 d2 d3 _ _ b (subst (λ l. Adds d2 d3 (stores_part w l)) is c))

  all_in_order : (ds : List Declared) → all_declared_part w ds ≡ in_order (map (declared_part w) ds)
  all_in_order [] = refl
  all_in_order (d ∷ ds) = ap (λ r. declared_part w d then r) (all_in_order ds)

  pub all_add : (d e : Draft) (ds : List Declared) (i : ℕ) → length ds ≤ i → Adds d e (in_order (map (declared_part w) (take i ds))) → Adds d e (all_declared_part w ds)
  all_add d e ds i past x = subst (Adds d e) (sym (all_in_order ds)) (adds_all d e (declared_part w) ds i past x)

  -- ---- the parts of a `for`

  pub again_adds : (d0 d1 d2 d3 : Draft) (line : ℕ) (e : FullExpr) (into : ℕ) → into ≡ at_most_word (length d0.instrs + 2) → Adds d0 d1 (one (instr.Jump into))
      → Adds d1 d2 (ticked w line then full_part w e) → Adds d2 d3 (one instr.Pop) → Adds d0 d3 (again_part w line (Some e))
  again_adds d0 d1 d2 d3 line e into into_is a b c =
      let l = length d0.instrs in
      let first = a.count in
      let second = b.count in
      let third = c.count in
      let rest : Adds d1 d3 (ticked w line then full_part w e then one instr.Pop) =
      subst (Adds d1 d3) (then_assoc (ticked w line) (full_part w e) (one instr.Pop)) (adds_then d1 d2 d3 _ _ b c) in
      adds_is d0 d3 (one (instr.Jump (l + 2)) then ticked w line then full_part w e then one instr.Pop) _
      (adds_jump d0 d3 instr.Jump into (l + 2) _ into_is (omega (arith, first, second, third)) (adds_then d0 d1 d3 _ _ a rest)) refl

  -- ---- statements

  -- the code of a statement from which `break` and `continue` lead there
  abbrev pub part_of : Targets → Stmt → Part
  part_of t s = (stmt_piece w s).part t

  stmts_in_order : (t : Targets) (ss : List Stmt) → in_order_part (map (stmt_piece w) ss) t ≡ in_order (map (part_of t) ss)
  stmts_in_order t [] = refl
  stmts_in_order t (s ∷ ss) = ap (λ r. part_of t s then r) (stmts_in_order t ss)

  pub stmts_add : (d e : Draft) (t : Targets) (ss : List Stmt) (i : ℕ) → length ss ≤ i → Adds d e (in_order (map (part_of t) (take i ss)))
      → Adds d e (in_order_part (map (stmt_piece w) ss) t)
  stmts_add d e t ss i past x = subst (Adds d e) (sym (stmts_in_order t ss)) (adds_all d e (part_of t) ss i past x)

  pub stmt_named : (d e : Draft) (s same : Stmt) (p : Piece) (t : Targets) → s ≡ same → stmt_piece w same ≡ p → Adds d e (p.part t) → Adds d e (part_of t s)
  stmt_named d e s same p t is piece x = subst (λ q. Adds d e (q.part t)) (sym (ap (stmt_piece w) is ∙ piece)) x

  pub part_at : (d e : Draft) (b b' : Stmt) (t : Targets) → b' ≡ b → Adds d e (part_of t b') → Adds d e (part_of t b)
  part_at d e b b' t same x = subst (λ s. Adds d e (part_of t s)) same x

  pub express_adds : (d0 d1 d2 : Draft) (line : ℕ) (e : FullExpr) → Adds d0 d1 (ticked w line then full_part w e) → Adds d1 d2 (one instr.Pop)
      → Adds d0 d2 (ticked w line then full_part w e then one instr.Pop)
  express_adds d0 d1 d2 line e x y = subst (Adds d0 d2) (then_assoc (ticked w line) (full_part w e) (one instr.Pop)) (adds_then d0 d1 d2 _ _ x y)

  pub block_adds : (d e : Draft) (s : Stmt) (ss ss' : List Stmt) (t : Targets) → s ≡ stmt.Block ss → ss' ≡ ss → Adds d e (in_order_part (map (stmt_piece w) ss') t)
      → Adds d e (part_of t s)
  block_adds d e s ss ss' t is same x =
      stmt_named d e s _ _ t is (piece_block w ss) (subst (λ l. Adds d e (in_order_part (map (stmt_piece w) l) t)) same x)

  pub labelled_adds : (d e : Draft) (s b b' : Stmt) (label : ℕ) (t : Targets) → s ≡ stmt.Labelled label b → b' ≡ b → Adds d e (part_of t b') → Adds d e (part_of t s)
  labelled_adds d e s b b' label t is same x = stmt_named d e s _ _ t is (piece_labelled w label b) (part_at d e b b' t same x)

  -- ---- `if`

  pub sized_part : (t : Targets) (s : Stmt) → Sized (part_of t s) ((stmt_piece w s).size)
  sized_part t s = sized_piece (stmt_piece w s) t (has_size w s)

  pub over_last : (d0 d1 d2 : Draft) (jump : ℕ → Instr) (s : Stmt) (t : Targets) (x z to : ℕ) → x ≡ at_most_word ((stmt_piece w s).size) → z ≡ min (x + 1) 4294967295
      → ((n : ℕ) → z ≡ at_most_word n → to ≡ at_most_word (length d0.instrs + n)) → Adds d0 d1 (one (jump to)) → Adds d1 d2 (part_of t s)
      → Adds d0 d2 (over jump 0 (part_of t s))
  over_last d0 d1 d2 jump s t x z to x_is z_is to_is a b =
      adds_over_last d0 d1 d2 jump ((stmt_piece w s).size) to (part_of t s) (sized_part t s) (to_is _ (cut_more x z _ 1 x_is z_is)) a b

  branches_add : (d0 d1 d2 d3 : Draft) (s o : Stmt) (t : Targets) (x z to : ℕ) → x ≡ at_most_word ((stmt_piece w s).size) → z ≡ min (x + 2) 4294967295
      → ((n : ℕ) → z ≡ at_most_word n → to ≡ at_most_word (length d0.instrs + n)) → Adds d0 d1 (one (instr.JumpIfZero to)) → Adds d1 d2 (part_of t s)
      → Adds d2 d3 (over instr.Jump 0 (part_of t o)) → Adds d0 d3 (over instr.JumpIfZero 1 (part_of t s) then over instr.Jump 0 (part_of t o))
  unfolding over
  branches_add d0 d1 d2 d3 s o t x z to x_is z_is to_is a b c =
      let last = c.count in
      adds_over d0 d1 d2 d3 instr.JumpIfZero 1 ((stmt_piece w s).size) to (part_of t s) (over instr.Jump 0 (part_of t o)) (sized_part t s)
      (to_is ((stmt_piece w s).size + (1 + 1)) (cut_more x z _ 2 x_is z_is)) (omega (arith, last)) a b c

  -- a jump over a part, in other words
  over_is : (jump : ℕ → Instr) (more m : ℕ) (a : Part) (q : ℕ) → m ≡ q + 1 + length (a (q + 1)) + more → over jump more a q ≡ (one (jump m) then a) q
  unfolding over ◌then◌
  over_is jump more m a q m_is = ap (λ k. jump k ∷ a (q + 1)) (sym m_is)

  two_over_is : (m k : ℕ) (a b : Part) (q : ℕ) → m ≡ q + 1 + length (a (q + 1)) + 1
      → k ≡ q + 1 + length (a (q + 1)) + 1 + length (b (q + 1 + length (a (q + 1)) + 1)) + 0
      → (over instr.JumpIfZero 1 a then over instr.Jump 0 b) q ≡ (one (instr.JumpIfZero m) then a then one (instr.Jump k) then b) q
  unfolding over ◌then◌
  two_over_is m k a b q m_is k_is =
      let n = length (a (q + 1)) in
      let shift : q + suc n ≡ q + 1 + n = omega arith in
      ap (λ j. instr.JumpIfZero j ∷ (a (q + 1) ++ over instr.Jump 0 b (q + suc n))) (sym m_is)
      ∙ ap (λ r. instr.JumpIfZero m ∷ (a (q + 1) ++ over instr.Jump 0 b r)) shift
      ∙ ap (λ r. instr.JumpIfZero m ∷ (a (q + 1) ++ r)) (over_is instr.Jump 0 k b (q + 1 + n) k_is)

  if_is : (line : ℕ) (e : FullExpr) (p : Piece) (t : Targets) (l : ℕ) → SizedPiece p
      → (ticked w line then full_part w e then over instr.JumpIfZero 0 (p.part t)) l ≡ (if_piece w line e p None).part t l
  if_is line e p t l sized =
      let n = (sized_full w e).by (l + 1) in
      let q = l + 1 + length (full_part w e (l + 1)) in
      let m = sized.by t (q + 1) in
      then_at (ticked w line) _ _ l (then_at (full_part w e) _ _ (l + 1)
      (over_is instr.JumpIfZero 0 (l + 1 + expr_size e.expr + 1 + p.size) (p.part t) q (omega (arith, n, m))))

  if_else_is : (line : ℕ) (e : FullExpr) (p o : Piece) (t : Targets) (l : ℕ) → SizedPiece p → SizedPiece o
      → (ticked w line then full_part w e then over instr.JumpIfZero 1 (p.part t) then over instr.Jump 0 (o.part t)) l ≡ (if_piece w line e p (Some o)).part t l
  if_else_is line e p o t l sized sized' =
      let n = (sized_full w e).by (l + 1) in
      let q = l + 1 + length (full_part w e (l + 1)) in
      let m = sized.by t (q + 1) in
      let k = sized'.by t (q + 1 + length (p.part t (q + 1)) + 1) in
      then_at (ticked w line) _ _ l (then_at (full_part w e) _ _ (l + 1)
      (two_over_is (l + 1 + expr_size e.expr + 1 + p.size + 1) (l + 1 + expr_size e.expr + 1 + p.size + 1 + o.size) (p.part t) (o.part t) q
      (omega (arith, n, m)) (omega (arith, n, m, k))))

  pub if_adds : (d0 d1 d2 : Draft) (s b b' : Stmt) (o : Option Stmt) (line : ℕ) (e : FullExpr) (t : Targets) → s ≡ stmt.If line e b o → o ≡ None → b' ≡ b
      → Adds d0 d1 (ticked w line then full_part w e) → Adds d1 d2 (over instr.JumpIfZero 0 (part_of t b')) → Adds d0 d2 (part_of t s)
  if_adds d0 d1 d2 s b b' o line e t is none same x y =
      let y' = subst (λ a. Adds d1 d2 (over instr.JumpIfZero 0 (part_of t a))) same y in
      let all = subst (Adds d0 d2) (then_assoc (ticked w line) (full_part w e) _) (adds_then d0 d1 d2 _ _ x y') in
      stmt_named d0 d2 s _ _ t (is ∙ ap (stmt.If line e b) none) (piece_if w line e b)
      (adds_is d0 d2 _ _ all (if_is line e (stmt_piece w b) t (length d0.instrs) (has_size w b)))

  pub if_else_adds : (d0 d1 d2 d3 d4 : Draft) (s b b1 b2 a a' : Stmt) (o : Option Stmt) (line : ℕ) (e : FullExpr) (t : Targets) (x z to : ℕ) → s ≡ stmt.If line e b o → o ≡ Some a
      → b1 ≡ b → b2 ≡ b → a' ≡ a → x ≡ at_most_word ((stmt_piece w b1).size) → z ≡ min (x + 2) 4294967295
      → ((n : ℕ) → z ≡ at_most_word n → to ≡ at_most_word (length d1.instrs + n)) → Adds d0 d1 (ticked w line then full_part w e)
      → Adds d1 d2 (one (instr.JumpIfZero to)) → Adds d2 d3 (part_of t b2) → Adds d3 d4 (over instr.Jump 0 (part_of t a')) → Adds d0 d4 (part_of t s)
  if_else_adds d0 d1 d2 d3 d4 s b b1 b2 a a' o line e t x z to is some b1_is b2_is a_is x_is z_is to_is test jump first second =
      let x' : x ≡ at_most_word ((stmt_piece w b).size) = x_is ∙ ap (λ c. at_most_word ((stmt_piece w c).size)) b1_is in
      let second' = subst (λ c. Adds d3 d4 (over instr.Jump 0 (part_of t c))) a_is second in
      let both = branches_add d1 d2 d3 d4 b a t x z to x' z_is to_is jump (part_at d2 d3 b b2 t b2_is first) second' in
      let all = subst (Adds d0 d4) (then_assoc (ticked w line) (full_part w e) _) (adds_then d0 d1 d4 _ _ test both) in
      stmt_named d0 d4 s _ _ t (is ∙ ap (stmt.If line e b) some) (piece_if_else w line e b a)
      (adds_is d0 d4 _ _ all (if_else_is line e (stmt_piece w b) (stmt_piece w a) t (length d0.instrs) (has_size w b) (has_size w a)))
