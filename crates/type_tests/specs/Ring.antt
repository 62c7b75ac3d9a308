-- #include <mpi.h>
-- #include <stdio.h>
-- int main(int argc, char **argv) {
--   int r, v = 1;
--   MPI_Init(&argc, &argv);
--   MPI_Comm_rank(MPI_COMM_WORLD, &r);
--   if (r == 0) MPI_Send(&v, 1, MPI_INT, 1, 0, MPI_COMM_WORLD);
--   else { MPI_Recv(&v, 1, MPI_INT, r - 1, 0, MPI_COMM_WORLD, MPI_STATUS_IGNORE); printf("got %d\n", v); }
--   MPI_Finalize();
--   return 0;
-- }
use Rattle.std.specs.Prelude.{◌≡◌, List, [], ◌∷◌, ◌++◌, Some, None, codes}
use Rattle.std.specs.List.{flat_map}
use Rattle.rank_range.specs.declared.kinds.Kind.TheVariants as kind
use Rattle.rank_range.specs.declared.operators.Binary.TheVariants as op
use Rattle.am_base.specs.declared.calls.MpiCall.TheVariants as mpi
use Rattle.am_base.specs.declared.calls.LibCall.TheVariants as lib
use Rattle.rank_range.specs.declared.width.Width.TheVariants as width
use Rattle.type_tests.specs.Operands as operand
use Rattle.type_tests.specs.Steps as step
use Rattle.c_types.specs.declared.expression.Expr.{Expr}
use Rattle.c_types.specs.declared.statement.Stmt.{Stmt}
use Rattle.c_types.specs.declared.statement.Stmt.TheOpen.{Stmt-F}
use Rattle.c_types.specs.declared.statement.Stmt.TheViews.{roll-Stmt}
use Rattle.c_types.specs.declared.statement.Stored.TheVariants as stored
use Rattle.c_types.specs.declared.program.Body.{Body}
use Rattle.c_types.specs.declared.program.StaticObject.{StaticObject}
use Rattle.c_types.specs.declared.program.Program.{Program}
use Rattle.c_types.specs.Segment.{segment_bytes, segment_fixes, offset_of}
use Rattle.type_tests.specs.Reading.{Lib, Mpi, needs, calls_of, lines_of}
use Rattle.type_tests.specs.Making.{expr, number, address, local, object, full}

-- line 4: the frame has argc at 0, argv at 8, r at 16 and v at 20
abbrev pub v_is_1 : Stmt
v_is_1 = roll-Stmt (Stmt-F.Declare (record {
  line = 4;
  zeros = None;
  stores = record { offset = 20; stored = stored.Number kind.Int; value = full 14 (number 1) } ∷ [];
}))

abbrev pub started : Expr
started = expr (operand.Mpi mpi.Init (address 0 ∷ address 8 ∷ [])) []

abbrev pub init : Stmt
init = roll-Stmt (Stmt-F.Express 5 (full 16 started))

abbrev pub rank : Stmt
rank = roll-Stmt (Stmt-F.Express 6 (full 25 (expr (operand.Mpi mpi.CommRank (number 1 ∷ address 16 ∷ [])) [])))

abbrev pub sent : Expr
sent = expr (operand.Mpi mpi.Send (address 20 ∷ number 1 ∷ number 7 ∷ number 1 ∷ number 0 ∷ number 1 ∷ [])) []

abbrev pub send : Stmt
send = roll-Stmt (Stmt-F.Express 7 (full 38 sent))

abbrev pub before_r : Expr
before_r = expr (operand.Local 16) (step.Load kind.Int ∷ step.Binary op.Subtract kind.Int (number 1) ∷ [])

abbrev pub received : Expr
received =
    expr (operand.Mpi mpi.Recv (address 20 ∷ number 1 ∷ number 7 ∷ before_r ∷ number 0 ∷ number 1 ∷ number 0 ∷ [])) []

abbrev pub receive : Stmt
receive = roll-Stmt (Stmt-F.Express 8 (full 56 received))

abbrev pub printed : Expr
printed = expr (operand.Library lib.Printf (object 0 ∷ local kind.Int 20 ∷ [])) []

abbrev pub print : Stmt
print = roll-Stmt (Stmt-F.Express 8 (full 76 printed))

abbrev pub choice : Stmt
choice = roll-Stmt (Stmt-F.If 7
    (full 34 (expr (operand.Local 16) (step.Load kind.Int ∷ step.Binary op.Equal kind.Int (number 0) ∷ [])))
    send (Some (roll-Stmt (Stmt-F.Block (receive ∷ print ∷ [])))))

abbrev pub finalize : Stmt
finalize = roll-Stmt (Stmt-F.Express 9 (full 84 (expr (operand.Mpi mpi.Finalize []) [])))

abbrev pub return_0 : Stmt
return_0 = roll-Stmt (Stmt-F.Return 10 (Some (full 89 (number 0))))

abbrev pub stmts : List Stmt
stmts = v_is_1 ∷ init ∷ rank ∷ choice ∷ finalize ∷ return_0 ∷ []

abbrev pub body : Body
body = record {
  unit = 0;
  parameters = record { offset = 0; kind = kind.Int } ∷ record { offset = 8; kind = kind.UnsignedLong } ∷ [];
  frame = 32;
  stmts = stmts;
}

-- the string, with its zero at the end left out
abbrev pub got : StaticObject
got = record {
  at = record { unit = 0; token = 78 };
  object = 0;
  size = 8;
  align = width.One;
  initial = record { bytes = codes "got %d" ++ 10 ∷ []; fixes = [] };
}

abbrev pub ring : Program
ring = record {
  functions = record { name = codes "main"; body = Some body } ∷ [];
  defined = record { at = record { unit = 0; token = 1 }; function = 0 } ∷ [];
  objects = got ∷ [];
  uses = [];
  main = Some (record { function = 0; unit = 0; line = 3 });
}

pub record RingReads : Type 0 where
  pub needs_are : needs stmts ≡ 2 ∷ 2 ∷ 2 ∷ 2 ∷ 6 ∷ 7 ∷ 2 ∷ 1 ∷ 1 ∷ []
  pub lines_are : flat_map lines_of stmts ≡ 4 ∷ 5 ∷ 6 ∷ 7 ∷ 7 ∷ 8 ∷ 8 ∷ 9 ∷ 10 ∷ []
  pub calls_are : flat_map calls_of (started ∷ sent ∷ received ∷ printed ∷ []) ≡ Mpi mpi.Init ∷ Mpi mpi.Send ∷ Mpi mpi.Recv ∷ Lib lib.Printf ∷ []
  pub bytes_are : segment_bytes ring.objects
      ≡ 16 ∷ 48 ∷ 3 ∷ 0 ∷ 0 ∷ 0 ∷ 0 ∷ 0 ∷ 0 ∷ 0 ∷ 0 ∷ 0 ∷ 0 ∷ 0 ∷ 0 ∷ 0 ∷ (codes "ampi" ++ 0 ∷ 0 ∷ 0 ∷ 0 ∷ 0 ∷ 0 ∷ 0 ∷ 0 ∷ 0 ∷ 0 ∷ 0 ∷ 0 ∷ (codes "got %d" ++ 10 ∷ 0 ∷ []))
  pub fixes_are : segment_fixes ring.objects ≡ 0 ∷ []
  pub offset_is : offset_of ring.objects 0 ≡ 32
