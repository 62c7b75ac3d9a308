use Rattle.std.proofs.Common.{arith}
use Rattle.codegen.proofs.Generating.{is_bounded}
use Rattle.codegen.proofs.make.Goals as goal

pub invariant_of-result : goal.invariant_of-result
invariant_of-result c = record {
  bounded = is_bounded c.new-draft.result c.emit_program.new.draft c.args.program.now c.args.segment.now c.args.main c.new-draft.ensures c.in_ok-functions.ensures.code
      (omega arith);
  short = omega arith;
}
