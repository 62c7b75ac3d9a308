-- Sizes of statements as they are computed, up to the greatest number of 32 bits.
use Rattle.std.proofs.Common.{◌≡◌, ℕ, zero, suc, ◌+◌, ◌<◌, ◌≤◌, min, add-one, List, [], ◌∷◌, map, take, length, refl, sym, ap, ◌∙◌, arith}
use Rattle.std.specs.Prelude.{Option, None, Some}
use Rattle.c_types.specs.declared.expression.FullExpr.{FullExpr}
use Rattle.c_types.specs.declared.statement.Stmt.{Stmt}
use Rattle.c_types.specs.declared.statement.Stmt.TheVariants as stmt
use Rattle.c_types.specs.declared.statement.Declared.{Declared}
use Rattle.c_types.specs.declared.statement.Store.{Store}
use Rattle.c_types.specs.declared.statement.Case.{Case}
use Rattle.codegen.specs.Sizes.{total, expr_size, dropped_size, test_size, again_size, return_size, zeros_size, stores_size, declared_size, all_declared_size, cases_size}
use Rattle.codegen.specs.Statements.{Within, Piece, stmt_piece, sizes_of}
use Rattle.codegen.specs.Making.{at_most_word}
use Rattle.codegen.proofs.Sizing.{cut_sum, cut_more, cut_is, size_all}
use Rattle.codegen.proofs.Pieces.{piece_if, piece_if_else, piece_while, piece_do, piece_for, piece_switch, piece_labelled, piece_return, piece_express, piece_block}

-- the same at an equal value
pub size_at : {A : Type 0} (f : A → ℕ) (x y : A) (n : ℕ) → x ≡ y → n ≡ at_most_word (f y) → n ≡ at_most_word (f x)
size_at f x y n is n_is = n_is ∙ ap (λ z. at_most_word (f z)) (sym is)

-- ---- initialisers

abbrev pub store_size : Store → ℕ
store_size s = expr_size s.value.expr + 3

stores_total : (ss : List Store) → total (map store_size ss) ≡ stores_size ss
stores_total [] = refl
stores_total (s ∷ ss) = let rest = stores_total ss in omega (arith, rest)

pub stores_all : (ss : List Store) (i x : ℕ) → length ss ≤ i → x ≡ at_most_word (total (map store_size (take i ss))) → x ≡ at_most_word (stores_size ss)
stores_all ss i x past x_is = cut_is x _ _ (size_all store_size ss i x past x_is) (stores_total ss)

pub declared_is : (d : Declared) (ss : List Store) (x y z n : ℕ) → ss ≡ d.stores → x ≡ at_most_word (stores_size ss) → y ≡ zeros_size d.zeros → z ≡ min (x + y) 4294967295
    → n ≡ min (z + 1) 4294967295 → n ≡ at_most_word (declared_size d)
declared_is d ss x y z n is x_is y_is z_is n_is =
    let x' : x ≡ at_most_word (stores_size d.stores) = x_is ∙ ap (λ l. at_most_word (stores_size l)) is in
    let all : n ≡ at_most_word (stores_size d.stores + y + 1) = cut_more z n _ 1 (cut_more x z _ y x' z_is) n_is in
    cut_is n _ _ all (omega (arith, y_is))

declared_total : (ds : List Declared) → total (map declared_size ds) ≡ all_declared_size ds
declared_total [] = refl
declared_total (d ∷ ds) = ap (λ n. declared_size d + n) (declared_total ds)

pub declared_all : (ds : List Declared) (i x : ℕ) → length ds ≤ i → x ≡ at_most_word (total (map declared_size (take i ds))) → x ≡ at_most_word (all_declared_size ds)
declared_all ds i x past x_is = cut_is x _ _ (size_all declared_size ds i x past x_is) (declared_total ds)

-- ---- cases

abbrev pub case_size : Case → ℕ
case_size c = 6

cases_total : (cs : List Case) → total (map case_size cs) ≡ cases_size cs
cases_total [] = refl
cases_total (c ∷ cs) = ap (λ n. 6 + n) (cases_total cs)

cases_push : (cs : List Case) (i : ℕ) → i < length cs → total (map case_size (take (suc i) cs)) ≡ total (map case_size (take i cs)) + 6
cases_push [] i lt = absurd (omega (arith, lt))
cases_push (c ∷ cs) zero lt = omega arith
cases_push (c ∷ cs) (suc i) lt = let rest = cases_push cs i (omega (arith, lt)) in omega (arith, rest)

pub cases_next : (cs : List Case) (i x z : ℕ) → i < length cs → x ≡ at_most_word (total (map case_size (take i cs))) → z ≡ min (x + 6) 4294967295
    → z ≡ at_most_word (total (map case_size (take (i + 1) cs)))
cases_next cs i x z within x_is z_is =
    cut_more x z _ 6 x_is z_is ∙ ap at_most_word (sym (ap (λ n. total (map case_size (take n cs))) (add-one i) ∙ cases_push cs i within))

pub cases_all : (cs : List Case) (i x : ℕ) → length cs ≤ i → x ≡ at_most_word (total (map case_size (take i cs))) → x ≡ at_most_word (cases_size cs)
cases_all cs i x past x_is = cut_is x _ _ (size_all case_size cs i x past x_is) (cases_total cs)

-- a `for` before its body
pub for_front_is : (ds : List Declared) (start test : Option FullExpr) (a b c x y n : ℕ) → a ≡ at_most_word (all_declared_size ds) → b ≡ at_most_word (dropped_size start)
    → c ≡ at_most_word (dropped_size test) → x ≡ min (a + b) 4294967295 → y ≡ min (x + c) 4294967295 → n ≡ min (y + 2) 4294967295
    → n ≡ at_most_word (all_declared_size ds + dropped_size start + dropped_size test + 2)
for_front_is ds start test a b c x y n a_is b_is c_is x_is y_is n_is = cut_more y n _ 2 (cut_sum x c y _ _ (cut_sum a b x _ _ a_is b_is x_is) c_is y_is) n_is

-- a `for` without its body
pub for_is : (ds : List Declared) (start test step : Option FullExpr) (a b c d x y z n : ℕ) → a ≡ at_most_word (all_declared_size ds) → b ≡ at_most_word (dropped_size start)
    → c ≡ at_most_word (dropped_size test) → d ≡ at_most_word (again_size step) → x ≡ min (a + b) 4294967295 → y ≡ min (x + c) 4294967295 → z ≡ min (y + d) 4294967295
    → n ≡ min (z + 3) 4294967295 → n ≡ at_most_word (all_declared_size ds + dropped_size start + dropped_size test + again_size step + 3)
for_is ds start test step a b c d x y z n a_is b_is c_is d_is x_is y_is z_is n_is =
    cut_more z n _ 3 (cut_sum y d z _ _ (cut_sum x c y _ _ (cut_sum a b x _ _ a_is b_is x_is) c_is y_is) d_is z_is) n_is

pub test_is_dropped : (test : Option FullExpr) → dropped_size test ≡ test_size test
test_is_dropped None = refl
test_is_dropped (Some e) = refl

-- ---- statements

module _ (w : Within) where
  abbrev pub stmt_sized : Stmt → ℕ
  stmt_sized s = (stmt_piece w s).size

  stmts_total : (ss : List Stmt) → total (map stmt_sized ss) ≡ sizes_of (map (stmt_piece w) ss)
  stmts_total [] = refl
  stmts_total (s ∷ ss) = ap (λ n. stmt_sized s + n) (stmts_total ss)

  pub stmts_all : (ss : List Stmt) (i x : ℕ) → length ss ≤ i → x ≡ at_most_word (total (map stmt_sized (take i ss))) → x ≡ at_most_word (sizes_of (map (stmt_piece w) ss))
  stmts_all ss i x past x_is = cut_is x _ _ (size_all stmt_sized ss i x past x_is) (stmts_total ss)

  pub piece_arm : (s same : Stmt) (p : Piece) (n : ℕ) → s ≡ same → stmt_piece w same ≡ p → n ≡ at_most_word p.size → n ≡ at_most_word (stmt_sized s)
  piece_arm s same p n is piece n_is = n_is ∙ ap (λ q. at_most_word q.size) (sym (ap (stmt_piece w) is ∙ piece))

  body_is : (b b' : Stmt) (y : ℕ) → b' ≡ b → y ≡ at_most_word (stmt_sized b') → y ≡ at_most_word (stmt_sized b)
  body_is b b' y is y_is = y_is ∙ ap (λ s. at_most_word (stmt_sized s)) is

  pub express_arm : (s : Stmt) (line : ℕ) (e : FullExpr) (x n : ℕ) → s ≡ stmt.Express line e → x ≡ at_most_word (expr_size e.expr) → n ≡ min (x + 2) 4294967295
      → n ≡ at_most_word (stmt_sized s)
  express_arm s line e x n is x_is n_is = piece_arm s _ _ n is (piece_express w line e) (cut_is n _ _ (cut_more x n _ 2 x_is n_is) (omega arith))

  pub block_arm : (s : Stmt) (ss ss' : List Stmt) (n : ℕ) → s ≡ stmt.Block ss → ss' ≡ ss → n ≡ at_most_word (sizes_of (map (stmt_piece w) ss')) → n ≡ at_most_word (stmt_sized s)
  block_arm s ss ss' n is same n_is = piece_arm s _ _ n is (piece_block w ss) (n_is ∙ ap (λ l. at_most_word (sizes_of (map (stmt_piece w) l))) same)

  pub if_arm : (s b b' : Stmt) (o : Option Stmt) (line : ℕ) (e : FullExpr) (x y z n : ℕ) → s ≡ stmt.If line e b o → o ≡ None → b' ≡ b → x ≡ at_most_word (expr_size e.expr) → y ≡ at_most_word (stmt_sized b')
      → z ≡ min (x + y) 4294967295 → n ≡ min (z + 2) 4294967295 → n ≡ at_most_word (stmt_sized s)
  if_arm s b b' o line e x y z n is none same x_is y_is z_is n_is =
      let all : n ≡ at_most_word (expr_size e.expr + stmt_sized b + 2) = cut_more z n _ 2 (cut_sum x y z _ _ x_is (body_is b b' y same y_is) z_is) n_is in
      piece_arm s _ _ n (is ∙ ap (stmt.If line e b) none) (piece_if w line e b) (cut_is n _ _ all (omega arith))

  pub if_else_arm : (s b b' a a' : Stmt) (o : Option Stmt) (line : ℕ) (e : FullExpr) (x y z u v n : ℕ) → s ≡ stmt.If line e b o → o ≡ Some a → b' ≡ b → a' ≡ a → x ≡ at_most_word (expr_size e.expr)
      → y ≡ at_most_word (stmt_sized b') → z ≡ min (x + y) 4294967295 → u ≡ at_most_word (stmt_sized a') → v ≡ min (z + u) 4294967295 → n ≡ min (v + 3) 4294967295
      → n ≡ at_most_word (stmt_sized s)
  if_else_arm s b b' a a' o line e x y z u v n is some same same' x_is y_is z_is u_is v_is n_is =
      let both : z ≡ at_most_word (expr_size e.expr + stmt_sized b) = cut_sum x y z _ _ x_is (body_is b b' y same y_is) z_is in
      let all : n ≡ at_most_word (expr_size e.expr + stmt_sized b + stmt_sized a + 3) = cut_more v n _ 3 (cut_sum z u v _ _ both (body_is a a' u same' u_is) v_is) n_is in
      piece_arm s _ _ n (is ∙ ap (stmt.If line e b) some) (piece_if_else w line e b a) (cut_is n _ _ all (omega arith))

  pub while_arm : (s b b' : Stmt) (line : ℕ) (e : FullExpr) (x y z n : ℕ) → s ≡ stmt.While line e b → b' ≡ b → x ≡ at_most_word (expr_size e.expr) → y ≡ at_most_word (stmt_sized b')
      → z ≡ min (x + y) 4294967295 → n ≡ min (z + 4) 4294967295 → n ≡ at_most_word (stmt_sized s)
  while_arm s b b' line e x y z n is same x_is y_is z_is n_is =
      let all : n ≡ at_most_word (expr_size e.expr + stmt_sized b + 4) = cut_more z n _ 4 (cut_sum x y z _ _ x_is (body_is b b' y same y_is) z_is) n_is in
      piece_arm s _ _ n is (piece_while w line e b) (cut_is n _ _ all (omega arith))

  pub do_arm : (s b b' : Stmt) (line : ℕ) (e : FullExpr) (x y z n : ℕ) → s ≡ stmt.Do line b e → b' ≡ b → x ≡ at_most_word (expr_size e.expr) → y ≡ at_most_word (stmt_sized b')
      → z ≡ min (x + y) 4294967295 → n ≡ min (z + 5) 4294967295 → n ≡ at_most_word (stmt_sized s)
  do_arm s b b' line e x y z n is same x_is y_is z_is n_is =
      let all : n ≡ at_most_word (expr_size e.expr + stmt_sized b + 5) = cut_more z n _ 5 (cut_sum x y z _ _ x_is (body_is b b' y same y_is) z_is) n_is in
      piece_arm s _ _ n is (piece_do w line b e) (cut_is n _ _ all (omega arith))

  pub for_arm : (s b b' : Stmt) (line : ℕ) (ds ds' : List Declared) (start test step : Option FullExpr) (x y n : ℕ) → s ≡ stmt.For line ds start test step b → ds' ≡ ds → b' ≡ b
      → x ≡ at_most_word (all_declared_size ds' + dropped_size start + dropped_size test + again_size step + 3) → y ≡ at_most_word (stmt_sized b') → n ≡ min (x + y) 4294967295
      → n ≡ at_most_word (stmt_sized s)
  for_arm s b b' line ds ds' start test step x y n is ds_are same x_is y_is n_is =
      let front : x ≡ at_most_word (all_declared_size ds + dropped_size start + dropped_size test + again_size step + 3) =
      x_is ∙ ap (λ l. at_most_word (all_declared_size l + dropped_size start + dropped_size test + again_size step + 3)) ds_are in
      let all : n ≡ at_most_word (all_declared_size ds + dropped_size start + dropped_size test + again_size step + 3 + stmt_sized b) =
      cut_sum x y n _ _ front (body_is b b' y same y_is) n_is in
      let t = test_is_dropped test in
      piece_arm s _ _ n is (piece_for w line ds start test step b) (cut_is n _ _ all (omega (arith, t)))

  pub switch_arm : (s b b' : Stmt) (line : ℕ) (e : FullExpr) (cases cases' : List Case) (default : Option ℕ) (x y z u v n : ℕ) → s ≡ stmt.Switch line e cases default b → cases' ≡ cases
      → b' ≡ b → x ≡ at_most_word (expr_size e.expr) → y ≡ at_most_word (cases_size cases') → z ≡ min (x + y) 4294967295 → u ≡ at_most_word (stmt_sized b')
      → v ≡ min (z + u) 4294967295 → n ≡ min (v + 3) 4294967295 → n ≡ at_most_word (stmt_sized s)
  switch_arm s b b' line e cases cases' default x y z u v n is cases_are same x_is y_is z_is u_is v_is n_is =
      let y' : y ≡ at_most_word (cases_size cases) = y_is ∙ ap (λ l. at_most_word (cases_size l)) cases_are in
      let all : n ≡ at_most_word (expr_size e.expr + cases_size cases + stmt_sized b + 3) =
      cut_more v n _ 3 (cut_sum z u v _ _ (cut_sum x y z _ _ x_is y' z_is) (body_is b b' u same u_is) v_is) n_is in
      piece_arm s _ _ n is (piece_switch w line e cases default b) (cut_is n _ _ all (omega arith))

  pub labelled_arm : (s b b' : Stmt) (label n : ℕ) → s ≡ stmt.Labelled label b → b' ≡ b → n ≡ at_most_word (stmt_sized b') → n ≡ at_most_word (stmt_sized s)
  labelled_arm s b b' label n is same n_is = piece_arm s _ _ n is (piece_labelled w label b) (body_is b b' n same n_is)

  pub return_arm : (s : Stmt) (line : ℕ) (e : Option FullExpr) (x n : ℕ) → s ≡ stmt.Return line e → x ≡ at_most_word (return_size e) → n ≡ min (x + 2) 4294967295
      → n ≡ at_most_word (stmt_sized s)
  return_arm s line e x n is x_is n_is = piece_arm s _ _ n is (piece_return w line e) (cut_is n _ _ (cut_more x n _ 2 x_is n_is) (omega arith))
