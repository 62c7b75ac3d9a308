-- Where labels stand, as it is computed, up to the greatest number of 32 bits.
use Rattle.std.proofs.Common.{◌≡◌, ℕ, ◌+◌, ◌<◌, ◌≤◌, min, Bool, true, false, List, [], ◌∷◌, ◌++◌, map, take, length, get_or, refl, sym, ap, ◌∙◌, arith}
use Rattle.std.proofs.lemmas.Bool.{eq-eqb, ne_eqb}
use Rattle.std.proofs.lemmas.List.{map_more, take_all}
use Rattle.std.specs.Prelude.{nat_eq, if◌then◌else◌, Option, None, Some}
use Rattle.c_types.specs.declared.expression.FullExpr.{FullExpr}
use Rattle.c_types.specs.declared.statement.Stmt.{Stmt}
use Rattle.c_types.specs.declared.statement.Stmt.TheVariants as stmt
use Rattle.c_types.specs.declared.statement.Declared.{Declared}
use Rattle.codegen.specs.Sizes.{expr_size, dropped_size, test_size, all_declared_size}
use Rattle.codegen.specs.Statements.{Within, Piece, further, first_of, label_in_order, sizes_of, stmt_piece}
use Rattle.codegen.specs.Making.{at_most_word, cut}
use Rattle.codegen.proofs.Sizing.{cut_sum, cut_more, cut_is}
use Rattle.codegen.proofs.StatementSizing.{test_is_dropped}
use Rattle.codegen.proofs.Pieces.{piece_if, piece_if_else, piece_while, piece_do, piece_for, piece_labelled, piece_block}

-- ---- places that may be missing

pub further_none : (count : ℕ) (o : Option ℕ) → o ≡ None → None ≡ cut (further count o)
further_none count o is = ap (λ x. cut (further count x)) (sym is)

pub further_some : (count n m : ℕ) (o : Option ℕ) → o ≡ Some n → m ≡ min (count + n) 4294967295 → Some m ≡ cut (further count o)
further_some count n m o is m_is = ap Some m_is ∙ ap (λ x. cut (further count x)) (sym is)

pub first_none : (o p : Option ℕ) → o ≡ None → p ≡ first_of o p
first_none o p is = ap (λ x. first_of x p) (sym is)

pub first_some : (o p : Option ℕ) (n : ℕ) → o ≡ Some n → Some n ≡ first_of o p
first_some o p n is = ap (λ x. first_of x p) (sym is)

cut_further : (k : ℕ) (o : Option ℕ) → cut (further (at_most_word k) (cut o)) ≡ cut (further k o)
cut_further k None = refl
cut_further k (Some n) = let e : at_most_word (at_most_word k + at_most_word n) ≡ at_most_word (k + n) = omega arith in ap Some e

pub further_is : (front k : ℕ) (y r o : Option ℕ) → front ≡ at_most_word k → y ≡ cut o → r ≡ cut (further front y) → r ≡ cut (further k o)
further_is front k y r o front_is y_is r_is =
    r_is ∙ ap (λ n. cut (further n y)) front_is ∙ ap (λ x. cut (further (at_most_word k) x)) y_is ∙ cut_further k o

cut_first : (o p : Option ℕ) → first_of (cut o) (cut p) ≡ cut (first_of o p)
cut_first None p = refl
cut_first (Some n) p = refl

first_is : (x y r o p : Option ℕ) → x ≡ cut o → y ≡ cut p → r ≡ first_of x y → r ≡ cut (first_of o p)
first_is x y r o p x_is y_is r_is = r_is ∙ ap (λ z. first_of z y) x_is ∙ ap (first_of (cut o)) y_is ∙ cut_first o p

-- ---- statements in order

further_zero : (o : Option ℕ) (k : ℕ) → first_of o (further k None) ≡ first_of None (further 0 o)
further_zero None k = refl
further_zero (Some n) k = let e : n ≡ 0 + n = omega arith in ap Some e

further_first : (q a b : Option ℕ) (k j : ℕ) → first_of q (further k (first_of a (further j b))) ≡ first_of (first_of q (further k a)) (further (k + j) b)
further_first (Some n) a b k j = refl
further_first None (Some n) b k j = refl
further_first None None None k j = refl
further_first None None (Some n) k j = let e : k + (j + n) ≡ k + j + n = omega arith in ap Some e

order_push : (ps : List Piece) (p : Piece) (label : ℕ) → label_in_order (ps ++ p ∷ []) label ≡ first_of (label_in_order ps label) (further (sizes_of ps) (p.label label))
order_push [] p label = further_zero (p.label label) p.size
order_push (q ∷ ps) p label =
    ap (λ o. first_of (q.label label) (further q.size o)) (order_push ps p label)
    ∙ further_first (q.label label) (label_in_order ps label) (p.label label) q.size (sizes_of ps)

sizes_push : (ps : List Piece) (p : Piece) → sizes_of (ps ++ p ∷ []) ≡ sizes_of ps + p.size
sizes_push [] p = omega arith
sizes_push (q ∷ ps) p = let rest = sizes_push ps p in omega (arith, rest)

module _ (w : Within) where
  abbrev pub label_at : ℕ → Stmt → Option ℕ
  label_at label s = (stmt_piece w s).label label

  abbrev pub pieces : ℕ → List Stmt → List Piece
  pieces i ss = map (stmt_piece w) (take i ss)

  pieces_more : (ss : List Stmt) (i : ℕ) (a : Stmt) → i < length ss → a ≡ get_or ss i a → pieces (i + 1) ss ≡ pieces i ss ++ stmt_piece w a ∷ []
  pieces_more ss i a within a_is = map_more (stmt_piece w) ss i a within ∙ ap (λ b. pieces i ss ++ stmt_piece w b ∷ []) (sym a_is)

  pub sizes_next : (ss : List Stmt) (i : ℕ) (a : Stmt) (x y z : ℕ) → i < length ss → a ≡ get_or ss i a → x ≡ at_most_word (sizes_of (pieces i ss))
      → y ≡ at_most_word ((stmt_piece w a).size) → z ≡ min (x + y) 4294967295 → z ≡ at_most_word (sizes_of (pieces (i + 1) ss))
  sizes_next ss i a x y z within a_is x_is y_is z_is =
      cut_sum x y z _ _ x_is y_is z_is ∙ ap at_most_word (sym (ap sizes_of (pieces_more ss i a within a_is) ∙ sizes_push (pieces i ss) (stmt_piece w a)))

  pub labels_next : (ss : List Stmt) (i label : ℕ) (a : Stmt) (before : ℕ) (found y r found' : Option ℕ) → i < length ss → a ≡ get_or ss i a
      → found ≡ cut (label_in_order (pieces i ss) label) → before ≡ at_most_word (sizes_of (pieces i ss)) → y ≡ cut (label_at label a)
      → r ≡ cut (further before y) → found' ≡ first_of found r → found' ≡ cut (label_in_order (pieces (i + 1) ss) label)
  labels_next ss i label a before found y r found' within a_is found_is before_is y_is r_is next_is =
      first_is found r found' _ _ found_is (further_is before _ y r _ before_is y_is r_is) next_is
      ∙ ap cut (sym (ap (λ ps. label_in_order ps label) (pieces_more ss i a within a_is) ∙ order_push (pieces i ss) (stmt_piece w a) label))

  pub labels_all : (ss : List Stmt) (i label : ℕ) (found : Option ℕ) → length ss ≤ i → found ≡ cut (label_in_order (pieces i ss) label)
      → found ≡ cut (label_in_order (map (stmt_piece w) ss) label)
  labels_all ss i label found past found_is = found_is ∙ ap (λ l. cut (label_in_order (map (stmt_piece w) l) label)) (take_all i ss past)

  -- ---- statements

  pub label_arm : (s same : Stmt) (p : Piece) (label : ℕ) (r : Option ℕ) → s ≡ same → stmt_piece w same ≡ p → r ≡ cut (p.label label) → r ≡ cut (label_at label s)
  label_arm s same p label r is piece r_is = r_is ∙ ap (λ q. cut (q.label label)) (sym (ap (stmt_piece w) is ∙ piece))

  body_at : (b b' : Stmt) (label : ℕ) (y : Option ℕ) → b' ≡ b → y ≡ cut (label_at label b') → y ≡ cut (label_at label b)
  body_at b b' label y is y_is = y_is ∙ ap (λ s. cut (label_at label s)) is

  pub label_block : (s : Stmt) (ss ss' : List Stmt) (label : ℕ) (r : Option ℕ) → s ≡ stmt.Block ss → ss' ≡ ss → r ≡ cut (label_in_order (map (stmt_piece w) ss') label)
      → r ≡ cut (label_at label s)
  label_block s ss ss' label r is same r_is =
      label_arm s _ _ label r is (piece_block w ss) (r_is ∙ ap (λ l. cut (label_in_order (map (stmt_piece w) l) label)) same)

  -- the first branch of an `if`
  first_branch : (b b' : Stmt) (e : FullExpr) (label x front : ℕ) (y r : Option ℕ) → b' ≡ b → x ≡ at_most_word (expr_size e.expr) → front ≡ min (x + 2) 4294967295
      → y ≡ cut (label_at label b') → r ≡ cut (further front y) → r ≡ cut (further (1 + expr_size e.expr + 1) (label_at label b))
  first_branch b b' e label x front y r same x_is front_is y_is r_is =
      further_is front _ y r _ (cut_is front _ _ (cut_more x front _ 2 x_is front_is) (omega arith)) (body_at b b' label y same y_is) r_is

  pub label_if : (s b b' : Stmt) (o : Option Stmt) (line : ℕ) (e : FullExpr) (label x front : ℕ) (y r : Option ℕ) → s ≡ stmt.If line e b o → o ≡ None → b' ≡ b
      → x ≡ at_most_word (expr_size e.expr) → front ≡ min (x + 2) 4294967295 → y ≡ cut (label_at label b') → r ≡ cut (further front y) → r ≡ cut (label_at label s)
  label_if s b b' o line e label x front y r is none same x_is front_is y_is r_is =
      label_arm s _ _ label r (is ∙ ap (stmt.If line e b) none) (piece_if w line e b) (first_branch b b' e label x front y r same x_is front_is y_is r_is)

  pub label_if_else : (s b b' b'' a a' : Stmt) (o : Option Stmt) (line : ℕ) (e : FullExpr) (label x front n m past : ℕ) (y first z second r : Option ℕ) → s ≡ stmt.If line e b o → o ≡ Some a
      → b' ≡ b → b'' ≡ b → a' ≡ a → x ≡ at_most_word (expr_size e.expr) → front ≡ min (x + 2) 4294967295 → y ≡ cut (label_at label b') → first ≡ cut (further front y)
      → n ≡ at_most_word ((stmt_piece w b'').size) → m ≡ min (front + n) 4294967295 → past ≡ min (m + 1) 4294967295 → z ≡ cut (label_at label a')
      → second ≡ cut (further past z) → r ≡ first_of first second → r ≡ cut (label_at label s)
  label_if_else s b b' b'' a a' o line e label x front n m past y first z second r is some same same' same'' x_is front_is y_is first_at n_is m_is past_is z_is second_at r_is =
      let front' : front ≡ at_most_word (expr_size e.expr + 2) = cut_more x front _ 2 x_is front_is in
      let n' : n ≡ at_most_word ((stmt_piece w b).size) = n_is ∙ ap (λ s. at_most_word ((stmt_piece w s).size)) same' in
      let past' : past ≡ at_most_word (1 + expr_size e.expr + 1 + (stmt_piece w b).size + 1) =
      cut_is past _ _ (cut_more m past _ 1 (cut_sum front n m _ _ front' n' m_is) past_is) (omega arith) in
      label_arm s _ _ label r (is ∙ ap (stmt.If line e b) some) (piece_if_else w line e b a)
      (first_is first second r _ _ (first_branch b b' e label x front y first same x_is front_is y_is first_at)
      (further_is past _ z second _ past' (body_at a a' label z same'' z_is) second_at) r_is)

  pub label_while : (s b b' : Stmt) (line : ℕ) (e : FullExpr) (label x front : ℕ) (y r : Option ℕ) → s ≡ stmt.While line e b → b' ≡ b
      → x ≡ at_most_word (expr_size e.expr) → front ≡ min (x + 3) 4294967295 → y ≡ cut (label_at label b') → r ≡ cut (further front y) → r ≡ cut (label_at label s)
  label_while s b b' line e label x front y r is same x_is front_is y_is r_is =
      label_arm s _ _ label r is (piece_while w line e b)
      (further_is front _ y r _ (cut_is front _ _ (cut_more x front _ 3 x_is front_is) (omega arith)) (body_at b b' label y same y_is) r_is)

  pub label_do : (s b b' : Stmt) (line : ℕ) (e : FullExpr) (label x front : ℕ) (y r : Option ℕ) → s ≡ stmt.Do line b e → b' ≡ b
      → x ≡ at_most_word (expr_size e.expr) → front ≡ min (x + 4) 4294967295 → y ≡ cut (label_at label b') → r ≡ cut (further front y) → r ≡ cut (label_at label s)
  label_do s b b' line e label x front y r is same x_is front_is y_is r_is =
      label_arm s _ _ label r is (piece_do w line b e)
      (further_is front _ y r _ (cut_is front _ _ (cut_more x front _ 4 x_is front_is) (omega arith)) (body_at b b' label y same y_is) r_is)

  pub label_for : (s b b' : Stmt) (line : ℕ) (ds ds' : List Declared) (start test step : Option FullExpr) (label front : ℕ) (y r : Option ℕ) → s ≡ stmt.For line ds start test step b → ds' ≡ ds
      → b' ≡ b → front ≡ at_most_word (all_declared_size ds' + dropped_size start + dropped_size test + 2) → y ≡ cut (label_at label b') → r ≡ cut (further front y)
      → r ≡ cut (label_at label s)
  label_for s b b' line ds ds' start test step label front y r is ds_are same front_is y_is r_is =
      let t = test_is_dropped test in
      let front' : front ≡ at_most_word (all_declared_size ds + dropped_size start + dropped_size test + 2) =
      front_is ∙ ap (λ l. at_most_word (all_declared_size l + dropped_size start + dropped_size test + 2)) ds_are in
      label_arm s _ _ label r is (piece_for w line ds start test step b)
      (further_is front _ y r _ (cut_is front _ _ front' (omega (arith, t))) (body_at b b' label y same y_is) r_is)

  here_or : (b : Bool) (o : Option ℕ) (label : ℕ) → b ≡ true → Some 0 ≡ cut (if b then Some 0 else o)
  here_or b o label is = ap (λ c. cut (if c then Some 0 else o)) (sym is)

  pub label_here : (s b : Stmt) (number label : ℕ) → s ≡ stmt.Labelled number b → label ≡ number → Some 0 ≡ cut (label_at label s)
  label_here s b number label is same = label_arm s _ _ label _ is (piece_labelled w number b) (here_or (nat_eq label number) (label_at label b) label (eq-eqb label number same))

  pub label_there : (s b b' : Stmt) (number label : ℕ) (r : Option ℕ) → s ≡ stmt.Labelled number b → b' ≡ b → (label ≡ number → ⊥) → r ≡ cut (label_at label b')
      → r ≡ cut (label_at label s)
  label_there s b b' number label r is same other r_is =
      label_arm s _ _ label r is (piece_labelled w number b) (body_at b b' label r same r_is ∙ ap (λ c. cut (if c then Some 0 else label_at label b)) (sym (ne_eqb label number other)))
