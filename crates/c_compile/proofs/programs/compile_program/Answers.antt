use Rattle.std.proofs.Common.{subst, sym}
use Rattle.c_compile.specs.declared.error.CompileError.{CompileError}
use Rattle.c_compile.specs.Programs.{IsWhyOfProgram}
use Rattle.c_compile.proofs.ProgramLaws.{segment-tells}
use Rattle.c_compile.proofs.programs.compile_program.Goals as goal

pub returns-in-Err-clause-err : goal.returns-in-Err-clause-err
returns-in-Err-clause-err c =
    subst (λ (e : CompileError). IsWhyOfProgram c.args.sources.now c.args.program e) (sym c.told_of_segment.ensures)
    (segment-tells c.args.sources.now c.args.program c.in-Err.error c.in-Err.ensures.err)
