use Rattle.std.proofs.lemmas.Result.{on_ok_weaker, IfOk-weaker}
use Rattle.codegen.specs.Statements.{offset_in}
use Rattle.codegen.proofs.Founding.{program_adds, program_entries}
use Rattle.codegen.proofs.functions.emit_program.Goals as goal

pub returns-clause-code : goal.returns-clause-code
returns-clause-code c =
    on_ok_weaker c.emit_functions.result (λ h. program_adds _ _ _ c.args.program.now c.args.segment.now c.args.main _ _ c.as_slice.ensures c.parameter_count.ensures
    c.in_ok-put.ensures h) c.emit_functions.ensures.code

pub returns-clause-entries : goal.returns-clause-entries
returns-clause-entries c =
    IfOk-weaker c.emit_functions.result _ _ (λ es h. program_entries (offset_in c.args.segment.now) _ _ _ 1 _ _ es c.as_slice.ensures c.in_ok-put.ensures.count h)
    c.emit_functions.ensures.entries
