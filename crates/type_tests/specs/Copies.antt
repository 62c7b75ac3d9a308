-- struct P { char tag; int x; long y; };
-- struct P origin = { 'o', 1, 2 };
-- struct P *where = &origin;
-- int main(void) {
--   struct P p, a[2];
--   struct P q = { 'q' }, *w = &a[1];
--   p = *where;
--   *w = p;
--   w->x += 3;
--   return a[1].x + (int)w->y;
-- }
use Rattle.std.specs.Prelude.{ℕ, ◌≡◌, List, [], ◌∷◌, ◌++◌, Some, None, codes, replicate}
use Rattle.std.specs.List.{flat_map}
use Rattle.rank_range.specs.declared.kinds.Kind.TheVariants as kind
use Rattle.rank_range.specs.declared.operators.Binary.TheVariants as op
use Rattle.rank_range.specs.declared.width.Width.TheVariants as width
use Rattle.type_tests.specs.Operands as operand
use Rattle.type_tests.specs.Steps as step
use Rattle.c_types.specs.declared.expression.OffsetBy.TheVariants as by
use Rattle.c_types.specs.declared.expression.Expr.{Expr}
use Rattle.c_types.specs.declared.statement.Stmt.{Stmt}
use Rattle.c_types.specs.declared.statement.Stmt.TheOpen.{Stmt-F}
use Rattle.c_types.specs.declared.statement.Stmt.TheViews.{roll-Stmt}
use Rattle.c_types.specs.declared.statement.Stored.TheVariants as stored
use Rattle.c_types.specs.declared.program.StaticObject.{StaticObject}
use Rattle.c_types.specs.Segment.{segment_bytes, segment_fixes, offset_of}
use Rattle.type_tests.specs.Making.{expr, number, address, local, full}
use Rattle.type_tests.specs.Reading.{needs, lines_of}

-- A P has its tag at 0, x at 4 and y at 8. The frame has p at 0, a at 16, q at 48 and w at 64.
abbrev pub origin : StaticObject
origin = record {
  at = record { unit = 0; token = 16 };
  object = 0;
  size = 16;
  align = width.Eight;
  initial = record { bytes = 111 ∷ 0 ∷ 0 ∷ 0 ∷ 1 ∷ 0 ∷ 0 ∷ 0 ∷ 2 ∷ []; fixes = [] };
}

abbrev pub where_origin : StaticObject
where_origin = record {
  at = record { unit = 0; token = 29 };
  object = 1;
  size = 8;
  align = width.Eight;
  initial = record { bytes = []; fixes = record { offset = 0; object = 0; addend = 0 } ∷ [] };
}

abbrev pub objects : List StaticObject
objects = origin ∷ where_origin ∷ []

abbrev pub q_is : Stmt
q_is = roll-Stmt (Stmt-F.Declare (record {
  line = 6;
  zeros = Some (record { offset = 48; size = 16 });
  stores = record { offset = 48; stored = stored.Number kind.Char; value = full 54 (number 113) } ∷ [];
}))

-- a[1], as *(a + 1)
abbrev pub second : Expr
second = expr (operand.Local 16) (step.Offset by.PointerPlusNumber 16 (number 1) ∷ [])

abbrev pub w_is : Stmt
w_is = roll-Stmt (Stmt-F.Declare (record {
  line = 6;
  zeros = None;
  stores = record { offset = 64; stored = stored.Number kind.UnsignedLong; value = full 60 second } ∷ [];
}))

abbrev pub pointer : ℕ → Expr
pointer offset = local kind.UnsignedLong offset

-- p = *where;
abbrev pub from_where : Stmt
from_where = roll-Stmt (Stmt-F.Express 7 (full 66
    (expr (operand.Local 0) (step.Copy 16 (expr (operand.Object 1) (step.Load kind.UnsignedLong ∷ [])) ∷ []))))

-- *w = p;
abbrev pub to_w : Stmt
to_w = roll-Stmt (Stmt-F.Express 8 (full 71
    (expr (operand.Local 64) (step.Load kind.UnsignedLong ∷ step.Copy 16 (address 0) ∷ []))))

-- w->x += 3;
abbrev pub more : Stmt
more = roll-Stmt (Stmt-F.Express 9 (full 76
    (expr (operand.Local 64)
    (step.Load kind.UnsignedLong ∷ step.Member 4 ∷ step.Update op.Add kind.Int kind.Int (number 3) ∷ []))))

abbrev pub y_of_w : Expr
y_of_w = expr (operand.Local 64)
    (step.Load kind.UnsignedLong ∷ step.Member 8 ∷ step.Load kind.Long ∷ step.Convert kind.Long kind.Int ∷ [])

-- return a[1].x + (int)w->y;
abbrev pub sum : Stmt
sum = roll-Stmt (Stmt-F.Return 10 (Some (full 83
    (expr (operand.Local 16)
    (step.Offset by.PointerPlusNumber 16 (number 1) ∷ step.Member 4 ∷ step.Load kind.Int
    ∷ step.Binary op.Add kind.Int y_of_w ∷ [])))))

abbrev pub stmts : List Stmt
stmts = q_is ∷ w_is ∷ from_where ∷ to_w ∷ more ∷ sum ∷ []

pub record CopiesRead : Type 0 where
  pub needs_are : needs stmts ≡ 2 ∷ 4 ∷ 2 ∷ 2 ∷ 3 ∷ 3 ∷ []
  pub lines_are : flat_map lines_of stmts ≡ 6 ∷ 6 ∷ 7 ∷ 8 ∷ 9 ∷ 10 ∷ []
  pub bytes_are : segment_bytes objects
      ≡ 16 ∷ 48 ∷ 3 ∷ 0 ∷ 0 ∷ 0 ∷ 0 ∷ 0 ∷ 0 ∷ 0 ∷ 0 ∷ 0 ∷ 0 ∷ 0 ∷ 0 ∷ 0 ∷ (codes "ampi" ++ replicate 12 0)
      ++ (111 ∷ 0 ∷ 0 ∷ 0 ∷ 1 ∷ 0 ∷ 0 ∷ 0 ∷ 2 ∷ 0 ∷ 0 ∷ 0 ∷ 0 ∷ 0 ∷ 0 ∷ 0 ∷ 32 ∷ 48 ∷ 3 ∷ 0 ∷ 0 ∷ 0 ∷ 0 ∷ 0 ∷ [])
  pub fixes_are : segment_fixes objects ≡ 0 ∷ 48 ∷ []
  pub offset_is : offset_of objects 1 ≡ 48
