-- A label of a statement stands within its code.
use Rattle.std.proofs.Common.{◌≡◌, ℕ, ◌+◌, ◌≤◌, Bool, true, false, List, [], ◌∷◌, map, sym, subst, arith}
use Rattle.std.specs.Prelude.{nat_eq, if◌then◌else◌, Option, None, Some}
use Rattle.c_types.specs.declared.statement.Stmt.{Stmt, map-Stmt}
use Rattle.c_types.specs.declared.statement.Stmt.TheOpen.{Stmt-F}
use Rattle.c_types.specs.declared.statement.Stmt.TheViews.{roll-Stmt}
use Rattle.c_types.specs.declared.statement.Stmt.TheFolds.{ind-Stmt}
use Rattle.codegen.specs.Sizes.{expr_size, dropped_size, test_size, all_declared_size}
use Rattle.codegen.specs.Statements.{Within, Piece, further, first_of, label_in_order, sizes_of, stmt_step, stmt_piece}
use Rattle.codegen.proofs.Shaping.{piece_roll}

-- it isn't there, or at most so great
abbrev pub Below : ℕ → Option ℕ → Type 0
Below size None = Unit {0}
Below size (Some n) = n ≤ size

pub record LabelsWithin (p : Piece) : Type 0 where
  pub by : (label : ℕ) → Below p.size (p.label label)

below_further : (k size all : ℕ) (o : Option ℕ) → k + size ≤ all → Below size o → Below all (further k o)
below_further k size all None le h = tt
below_further k size all (Some n) le h = omega (arith, le, h)

below_first : (all : ℕ) (o p : Option ℕ) → Below all o → Below all p → Below all (first_of o p)
below_first all None p h g = g
below_first all (Some n) p h g = h

below_more : (size all : ℕ) (o : Option ℕ) → size ≤ all → Below size o → Below all o
below_more size all None le h = tt
below_more size all (Some n) le h = omega (arith, le, h)

below_if : (size : ℕ) (b : Bool) (o : Option ℕ) → Below size o → Below size (if b then Some 0 else o)
below_if size true o h = omega arith
below_if size false o h = h

module _ (w : Within) where
  abbrev HasLabels : Stmt → Type 0
  HasLabels s = LabelsWithin (stmt_piece w s)

  abbrev Known : Type 0
  Known = (s : Stmt) × HasLabels s

  abbrev closed : Stmt-F Known → Stmt-F Stmt
  closed y = map-Stmt Known Stmt (λ p. p.0) y

  in_order_within : (ss : List Known) (label : ℕ)
      → Below (sizes_of (map (stmt_piece w) (map (λ p. p.0) ss))) (label_in_order (map (stmt_piece w) (map (λ p. p.0) ss)) label)
  in_order_within [] label = tt
  in_order_within (a ∷ ss) label =
      let p = stmt_piece w a.0 in
      let ps = map (stmt_piece w) (map (λ p. p.0) ss) in
      below_first (p.size + sizes_of ps) (p.label label) (further p.size (label_in_order ps label))
      (below_more p.size (p.size + sizes_of ps) (p.label label) (omega arith) (a.1.by label))
      (below_further p.size (sizes_of ps) (p.size + sizes_of ps) (label_in_order ps label) (omega arith) (in_order_within ss label))

  layer : (y : Stmt-F Known) → LabelsWithin (stmt_step w (map-Stmt Stmt Piece (stmt_piece w) (closed y)))
  layer (Stmt-F.Empty line) = record { by = λ label. tt }
  layer (Stmt-F.Express line e) = record { by = λ label. tt }
  layer (Stmt-F.Declare d) = record { by = λ label. tt }
  layer (Stmt-F.Block ss) = record { by = in_order_within ss }
  layer (Stmt-F.If line e a None) = record {
    by = λ label. below_further (1 + expr_size e.expr + 1) (stmt_piece w a.0).size _ ((stmt_piece w a.0).label label) (omega arith) (a.1.by label);
  }
  layer (Stmt-F.If line e a (Some b)) = record {
    by = λ label.
        let p = stmt_piece w a.0 in
        let q = stmt_piece w b.0 in
        let n = expr_size e.expr in
        below_first _ (further (1 + n + 1) (p.label label)) (further (1 + n + 1 + p.size + 1) (q.label label))
        (below_further (1 + n + 1) p.size (1 + n + 1 + p.size + 1 + q.size) (p.label label) (omega arith) (a.1.by label))
        (below_further (1 + n + 1 + p.size + 1) q.size (1 + n + 1 + p.size + 1 + q.size) (q.label label) (omega arith) (b.1.by label));
  }
  layer (Stmt-F.While line e a) = record {
    by = λ label. below_further (2 + expr_size e.expr + 1) (stmt_piece w a.0).size _ ((stmt_piece w a.0).label label) (omega arith) (a.1.by label);
  }
  layer (Stmt-F.Do line a e) = record {
    by = λ label. below_further (3 + expr_size e.expr + 1) (stmt_piece w a.0).size _ ((stmt_piece w a.0).label label) (omega arith) (a.1.by label);
  }
  layer (Stmt-F.For line ds start test step a) = record {
    by = λ label.
        below_further (1 + all_declared_size ds + dropped_size start + 1 + test_size test) (stmt_piece w a.0).size _ ((stmt_piece w a.0).label label) (omega arith) (a.1.by label);
  }
  layer (Stmt-F.Switch line e cases default a) = record { by = λ label. tt }
  layer (Stmt-F.Labelled number a) = record {
    by = λ label. below_if (stmt_piece w a.0).size (nat_eq label number) ((stmt_piece w a.0).label label) (a.1.by label);
  }
  layer (Stmt-F.Break line) = record { by = λ label. tt }
  layer (Stmt-F.Continue line) = record { by = λ label. tt }
  layer (Stmt-F.Return line e) = record { by = λ label. tt }

  layers : (y : Stmt-F Known) → HasLabels (roll-Stmt (closed y))
  layers y = subst LabelsWithin (sym (piece_roll w (closed y))) (layer y)

  pub labels_within : (s : Stmt) → HasLabels s
  labels_within = ind-Stmt HasLabels (λ x y is. subst (λ z. HasLabels (roll-Stmt z)) is (layers y))
