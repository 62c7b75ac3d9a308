use Rattle.codegen.specs.Statements.{function_part, offset_in}
use Rattle.codegen.proofs.Adding.{adds_none}
use Rattle.codegen.proofs.Emitting.{adds_next}
use Rattle.codegen.proofs.Founding.{functions_add, entries_next, entries_all}
use Rattle.codegen.proofs.functions.emit_functions.Goals as goal

pub loop-function-init : goal.loop-function-init
loop-function-init c = record { adds = adds_none _; entries = λ short. c.new-entries.ensures }

pub loop-function-preserved : goal.loop-function-preserved
loop-function-preserved c = record {
  adds = adds_next _ _ _ (function_part (offset_in c.args.segment.now)) _ _ _ c.loop-function-test.true c.function-item.is c.loop-function.invariant.adds
      c.in_ok-emit_function.ensures;
  entries = entries_next (offset_in c.args.segment.now) _ _ _ _ _ _ _ _ _ _ c.loop-function-test.true c.function-item.is c.loop-function.invariant.adds
      c.in_ok-emit_function.ensures c.loop-function.invariant.entries c.end.ensures c.in_ok-entry.ensures c.in_ok-push.ensures.ok;
}

pub returns-clause-code : goal.returns-clause-code
returns-clause-code c = functions_add (offset_in c.args.segment.now) _ _ _ _ c.loop-function-test.false c.loop-function.invariant.adds

pub returns-clause-entries : goal.returns-clause-entries
returns-clause-entries c = entries_all (offset_in c.args.segment.now) _ _ _ _ _ c.loop-function-test.false c.loop-function.invariant.entries
