use Rattle.std.proofs.Common.{◌≡◌, ◌<◌, ◌^◌, take, map, length}
use Rattle.codegen.specs.Layout.{in_order}
use Rattle.codegen.specs.Statements.{function_part, entries_from, offset_in}
use Rattle.codegen.specs.Making.{Adds}
use Rattle.codegen.proofs.functions.emit_functions.Given as goal

abbrev pub invariant-loop-function : goal.invariant-loop-function
invariant-loop-function l = record {
  adds : Adds l.initial.draft l.draft (in_order (map (function_part (offset_in l.segment)) (take l.function-index l.functions)));
  entries : length l.draft.instrs < 2 ^ 32 → l.entries ≡ entries_from (offset_in l.segment) (length l.initial.draft.instrs) (take l.function-index l.functions);
}
