use Rattle.std.proofs.Common.{subst, sym}
use Rattle.c_compile.specs.declared.error.CompileError.{CompileError}
use Rattle.c_compile.specs.Programs.{IsWhyOfProgram}
use Rattle.c_compile.proofs.ProgramLaws.{code-tells}
use Rattle.c_compile.proofs.programs.compile_with_segment.Goals as goal

pub returns-in-Err-clause-err : goal.returns-in-Err-clause-err
returns-in-Err-clause-err c =
    subst (λ (e : CompileError). IsWhyOfProgram c.args.sources.now c.args.program e) (sym c.told_of_code.ensures)
    (code-tells c.args.sources.now c.args.program c.args.segment c.in-Err.error c.requires c.in-Err.ensures)
