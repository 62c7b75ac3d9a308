use Rattle.std.proofs.Common.{rules, IfOk, IfErr}
use Rattle.c_types.specs.Segment.{SegmentOf}
use Rattle.privatise.specs.Answers.{IsWhy}
use Rattle.privatise.proofs.AnswerLemmas.{segment_told, told}
use Rattle.privatise.proofs.privatise.Goals as goal

pub returns-clause-only : goal.returns-clause-only
returns-clause-only c = segment_told c.args.program.now c.in_ok-laid_out.field-0 c.in_ok-laid_out.ensures

pub returns-in_err-check-clause-only : goal.returns-in_err-check-clause-only
returns-in_err-check-clause-only c =
    let program = c.args.program.now in
    let answer = c.from_residual.result in
    let ok : IfOk answer (SegmentOf program) = search rules in
    let err : IfErr answer (IsWhy program) = search rules in
    told program answer ok err
