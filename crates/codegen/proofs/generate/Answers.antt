use Rattle.codegen.proofs.Generating.{refused, answered}
use Rattle.codegen.proofs.generate.Goals as goal

pub returns-in-Err : goal.returns-in-Err
returns-in-Err c = refused c.args.program.now c.args.segment.now c.in-Err.error c.in-Err.ensures

pub returns-in-Ok : goal.returns-in-Ok
returns-in-Ok c = answered c.args.program.now c.args.segment.now c.in-Ok.main c.make.result c.in-Ok.ensures c.make.ensures
