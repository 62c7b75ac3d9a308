-- The code of statements, functions and programs.
use Rattle.std.specs.Prelude.{ℕ, ◌≡◌, ◌+◌, nat_eq, if◌then◌else◌, List, [], ◌∷◌, map, Option, None, Some, get_or}
use Rattle.rank_range.specs.declared.run.Segment.{Segment}
use Rattle.rank_range.specs.declared.kinds.Kind.TheVariants.{UnsignedLong}
use Rattle.rank_range.specs.declared.operators.Binary.TheVariants.{Equal}
use Rattle.c_types.specs.declared.expression.FullExpr.{FullExpr}
use Rattle.c_types.specs.declared.statement.Stmt.{Stmt, fold-Stmt}
use Rattle.c_types.specs.declared.statement.Stmt.TheOpen.{Stmt-F}
use Rattle.c_types.specs.declared.statement.Declared.{Declared}
use Rattle.c_types.specs.declared.statement.Case.{Case}
use Rattle.c_types.specs.declared.statement.Span.{Span}
use Rattle.c_types.specs.declared.statement.Store.{Store}
use Rattle.c_types.specs.declared.statement.Stored.{Stored}
use Rattle.c_types.specs.declared.statement.Stored.TheVariants.{Number, Structure}
use Rattle.c_types.specs.declared.program.Program.{Program}
use Rattle.c_types.specs.declared.program.Body.{Body}
use Rattle.c_types.specs.declared.program.Function.{Function}
use Rattle.c_types.specs.declared.program.Main.{Main}
use Rattle.vm_code.specs.declared.code.Function.{Function as CodeFunction}
use Rattle.vm_code.specs.declared.code.Code.{Code}
use Rattle.vm_code.specs.declared.instr.Instr.{Instr}
use Rattle.vm_code.specs.declared.instr.Instr.TheVariants.{Push, Pop, Dup, Local, Store as StoreAt, Copy, Zero, Binary, Jump, JumpIfZero, Tick, Return, Call}
use Rattle.c_model.specs.Statements.{parameters_of, parameter_count}
use Rattle.codegen.specs.Layout.{Part, nothing, one, ◌then◌, expr_part}
use Rattle.codegen.specs.Sizes.{expr_size, dropped_size, test_size, again_size, declared_size, all_declared_size, return_size, cases_size}

-- What is around a statement: the unit of its lines, and where static objects stand among the globals.
pub record Within : Type 0 where
  pub unit : ℕ
  pub object : ℕ → ℕ

-- where `break` and `continue` lead
pub record Targets : Type 0 where
  pub to_break : ℕ
  pub to_continue : ℕ

-- The code of a statement, how many instructions it has, and how many of them stand before a label of the `switch` around it,
-- where it has that label.
pub record Piece : Type 0 where
  pub size : ℕ
  pub part : Targets → Part
  pub label : ℕ → Option ℕ

-- it has no label
abbrev pub unlabelled : ℕ → Option ℕ
unlabelled label = None

-- so many instructions further on
abbrev pub further : ℕ → Option ℕ → Option ℕ
further n None = None
further n (Some m) = Some (n + m)

-- the first that there is
abbrev pub first_of : Option ℕ → Option ℕ → Option ℕ
first_of None n = n
first_of (Some m) n = Some m

abbrev pub ticked : Within → ℕ → Part
ticked w line = one (Tick w.unit line)

abbrev pub full_part : Within → FullExpr → Part
full_part w e = expr_part w.object e.expr

abbrev pub dropped_part : Within → Option FullExpr → Part
dropped_part w None = nothing
dropped_part w (Some e) = full_part w e then one Pop

-- a test, and a jump to the end where it fails; one that is missing holds
abbrev pub test_part : Within → Option FullExpr → ℕ → Part
test_part w None end = nothing
test_part w (Some e) end = full_part w e then one (JumpIfZero end)

abbrev pub zeros_part : Option Span → Part
zeros_part None = nothing
zeros_part (Some span) = one (Local span.offset) then one (Zero span.size)

abbrev pub put_part : Stored → Instr
put_part (Number k) = StoreAt k
put_part (Structure size) = Copy size

abbrev pub stores_part : Within → List Store → Part
stores_part w [] = nothing
stores_part w (s ∷ ss) = one (Local s.offset) then full_part w s.value then one (put_part s.stored) then one Pop then stores_part w ss

abbrev pub declared_part : Within → Declared → Part
declared_part w d = ticked w d.line then zeros_part d.zeros then stores_part w d.stores

abbrev pub all_declared_part : Within → List Declared → Part
all_declared_part w [] = nothing
all_declared_part w (d ∷ ds) = declared_part w d then all_declared_part w ds

-- The step of a `for` stands behind its body, behind a tick point that is jumped over: it only tells the line.
abbrev pub again_part : Within → ℕ → Option FullExpr → Part
again_part w line None = nothing
again_part w line (Some e) = λ place. (one (Jump (place + 2)) then ticked w line then full_part w e then one Pop) place

-- where `continue` leads in a `for`: to its step, else to its test
abbrev pub continue_place : Option FullExpr → ℕ → ℕ → ℕ
continue_place None test step = test
continue_place (Some e) test step = step

abbrev pub returned_part : Within → Option FullExpr → Part
returned_part w None = one (Push 0)
returned_part w (Some e) = full_part w e

abbrev pub in_order_part : List Piece → Targets → Part
in_order_part [] t = nothing
in_order_part (p ∷ ps) t = p.part t then in_order_part ps t

abbrev pub sizes_of : List Piece → ℕ
sizes_of [] = 0
sizes_of (p ∷ ps) = p.size + sizes_of ps

abbrev pub label_in_order : List Piece → ℕ → Option ℕ
label_in_order [] label = None
label_in_order (p ∷ ps) label = first_of (p.label label) (further p.size (label_in_order ps label))

abbrev pub if_piece : Within → ℕ → FullExpr → Piece → Option Piece → Piece
if_piece w line e s None = record {
  size = 1 + expr_size e.expr + 1 + s.size;
  part = λ t place. (ticked w line then full_part w e then one (JumpIfZero (place + 1 + expr_size e.expr + 1 + s.size)) then s.part t) place;
  label = λ label. further (1 + expr_size e.expr + 1) (s.label label);
}
if_piece w line e s (Some otherwise) = record {
  size = 1 + expr_size e.expr + 1 + s.size + 1 + otherwise.size;
  part = λ t place.
      (ticked w line then full_part w e then one (JumpIfZero (place + 1 + expr_size e.expr + 1 + s.size + 1)) then s.part t
      then one (Jump (place + 1 + expr_size e.expr + 1 + s.size + 1 + otherwise.size)) then otherwise.part t) place;
  label = λ label. first_of (further (1 + expr_size e.expr + 1) (s.label label)) (further (1 + expr_size e.expr + 1 + s.size + 1) (otherwise.label label));
}

abbrev pub while_piece : Within → ℕ → FullExpr → Piece → Piece
while_piece w line e s =
    let size : ℕ = 2 + expr_size e.expr + 1 + s.size + 1 in
    record {
      size = size;
      part = λ t place.
          (ticked w line then ticked w line then full_part w e then one (JumpIfZero (place + size))
          then s.part (record { to_break = place + size; to_continue = place + 1 }) then one (Jump (place + 1))) place;
      label = λ label. further (2 + expr_size e.expr + 1) (s.label label);
    }

-- The test of a `do` stands before its body, and is jumped over at first: so the one jump back leads to a tick point.
abbrev pub do_piece : Within → ℕ → Piece → FullExpr → Piece
do_piece w line s e =
    let size : ℕ = 3 + expr_size e.expr + 1 + s.size + 1 in
    record {
      size = size;
      part = λ t place.
          (ticked w line then one (Jump (place + 3 + expr_size e.expr + 1)) then ticked w line then full_part w e then one (JumpIfZero (place + size))
          then s.part (record { to_break = place + size; to_continue = place + 2 }) then one (Jump (place + 2))) place;
      label = λ label. further (3 + expr_size e.expr + 1) (s.label label);
    }

abbrev pub for_piece : Within → ℕ → List Declared → Option FullExpr → Option FullExpr → Option FullExpr → Piece → Piece
for_piece w line ds start test step s =
    let before : ℕ = 1 + all_declared_size ds + dropped_size start in
    let behind : ℕ = before + 1 + test_size test + s.size in
    let size : ℕ = behind + again_size step + 1 in
    record {
      size = size;
      part = λ t place.
          (ticked w line then all_declared_part w ds then dropped_part w start then ticked w line then test_part w test (place + size)
          then s.part (record { to_break = place + size; to_continue = continue_place step (place + before) (place + behind + 2) })
          then again_part w line step then one (Jump (place + before))) place;
      label = λ label. further (before + 1 + test_size test) (s.label label);
    }

-- The choice of a `switch` compares its value with those of its cases in their order; the value stays below until one is equal.
unfoldable pub case_part : ℕ → Case → Part
case_part to c place = Dup ∷ Push c.value ∷ Binary Equal UnsignedLong ∷ JumpIfZero (place + 6) ∷ Pop ∷ Jump to ∷ []

abbrev pub cases_part : (ℕ → ℕ) → List Case → Part
cases_part to [] = nothing
cases_part to (c ∷ cs) = case_part (to c.label) c then cases_part to cs

-- where a body begins and ends, and a label in it leads to: to its end, where it isn't there
abbrev pub led_to : ℕ → ℕ → Option ℕ → ℕ
led_to body end None = end
led_to body end (Some n) = body + n

abbrev pub default_to : (ℕ → ℕ) → ℕ → Option ℕ → ℕ
default_to to end None = end
default_to to end (Some label) = to label

abbrev pub choice_part : (ℕ → ℕ) → ℕ → List Case → Option ℕ → Part
choice_part to end cases default = cases_part to cases then one Pop then one (Jump (default_to to end default))

-- The body of a `switch` stands behind the choice.
abbrev pub switch_piece : Within → ℕ → FullExpr → List Case → Option ℕ → Piece → Piece
switch_piece w line e cases default s =
    let front : ℕ = 1 + expr_size e.expr + cases_size cases + 2 in
    let size : ℕ = front + s.size in
    record {
      size = size;
      part = λ t place.
          (ticked w line then full_part w e
          then choice_part (λ label. led_to (place + front) (place + size) (s.label label)) (place + size) cases default
          then s.part (record { to_break = place + size; to_continue = t.to_continue })) place;
      label = unlabelled;
    }

abbrev pub stmt_step : Within → Stmt-F Piece → Piece
stmt_step w (Stmt-F.Empty line) = record { size = 1; part = λ t. ticked w line; label = unlabelled }
stmt_step w (Stmt-F.Express line e) =
    record { size = 1 + expr_size e.expr + 1; part = λ t. ticked w line then full_part w e then one Pop; label = unlabelled }
stmt_step w (Stmt-F.Declare d) = record { size = declared_size d; part = λ t. declared_part w d; label = unlabelled }
stmt_step w (Stmt-F.Block ps) = record { size = sizes_of ps; part = in_order_part ps; label = label_in_order ps }
stmt_step w (Stmt-F.If line e s otherwise) = if_piece w line e s otherwise
stmt_step w (Stmt-F.While line e s) = while_piece w line e s
stmt_step w (Stmt-F.Do line s e) = do_piece w line s e
stmt_step w (Stmt-F.For line ds start test step s) = for_piece w line ds start test step s
stmt_step w (Stmt-F.Switch line e cases default s) = switch_piece w line e cases default s
stmt_step w (Stmt-F.Labelled number s) =
    record { size = s.size; part = s.part; label = λ label. if nat_eq label number then Some 0 else s.label label }
stmt_step w (Stmt-F.Break line) = record { size = 2; part = λ t. ticked w line then one (Jump t.to_break); label = unlabelled }
stmt_step w (Stmt-F.Continue line) = record { size = 2; part = λ t. ticked w line then one (Jump t.to_continue); label = unlabelled }
stmt_step w (Stmt-F.Return line e) =
    record { size = 1 + return_size e + 1; part = λ t. ticked w line then returned_part w e then one Return; label = unlabelled }

unfoldable pub stmt_piece : Within → Stmt → Piece
stmt_piece w = fold-Stmt Piece (stmt_step w)

-- the pieces of a function's statements
abbrev pub pieces_of : (ℕ → ℕ) → Body → List Piece
pieces_of object body = map (stmt_piece (record { unit = body.unit; object = object })) body.stmts

-- The statements of a function, behind which it returns 0. A `break` or `continue` that nothing holds leads there.
abbrev pub end_targets : ℕ → Targets
end_targets end = record { to_break = end; to_continue = end }

abbrev pub body_part : (ℕ → ℕ) → Body → Part
body_part object body = λ place.
    (in_order_part (pieces_of object body) (end_targets (place + sizes_of (pieces_of object body))) then one (Push 0) then one Return) place

abbrev pub body_size : (ℕ → ℕ) → Body → ℕ
body_size object body = sizes_of (pieces_of object body) + 2

abbrev pub function_part : (ℕ → ℕ) → Function → Part
function_part object function = elim function.body [ None ↦ nothing | Some body ↦ body_part object body ]

abbrev pub function_size : (ℕ → ℕ) → Function → ℕ
function_size object function = elim function.body [ None ↦ 0 | Some body ↦ body_size object body ]

abbrev pub functions_part : (ℕ → ℕ) → List Function → Part
functions_part object [] = nothing
functions_part object (f ∷ fs) = function_part object f then functions_part object fs

-- the functions as the code has them, where the first one begins at this place
abbrev pub entry_at : ℕ → Option Body → CodeFunction
entry_at place None = record { place = place; frame = 0; parameters = [] }
entry_at place (Some body) = record { place = place; frame = body.frame; parameters = parameters_of body.parameters }

abbrev pub entries_from : (ℕ → ℕ) → ℕ → List Function → List CodeFunction
entries_from object place [] = []
entries_from object place (f ∷ fs) = entry_at place f.body ∷ entries_from object (place + function_size object f) fs

-- where static objects stand among the globals: one without an offset stands where they begin
abbrev pub offset_in : Segment → ℕ → ℕ
offset_in segment number = get_or segment.objects number 0

-- The code of a program: the call of `main`, and then the functions in their order.
unfoldable pub program_part : Program → Segment → Main → Part
program_part program segment main =
    one (Call main.function (parameter_count program main.function)) then functions_part (offset_in segment) program.functions

-- The code is laid out as the program's.
pub record IsCodeOf (code : Code) (program : Program) (segment : Segment) (main : Main) : Type 0 where
  pub instrs : code.instrs ≡ program_part program segment main 0
  pub functions : code.functions ≡ entries_from (offset_in segment) 1 program.functions
  pub unit_is : code.unit ≡ main.unit
  pub line_is : code.line ≡ main.line
