use Rattle.std.proofs.Common.{subst, sym}
use Rattle.c_compile.specs.declared.error.CompileError.{CompileError}
use Rattle.c_compile.specs.Programs.{IsWhyOfSources}
use Rattle.c_compile.proofs.ProgramLaws.{check-tells}
use Rattle.c_compile.proofs.programs.compile_sources.Goals as goal

pub returns-in-Err-clause-err : goal.returns-in-Err-clause-err
returns-in-Err-clause-err c =
    subst (λ (e : CompileError). IsWhyOfSources c.args.sources.now e) (sym c.told_by_check.ensures)
    (check-tells c.args.sources.now c.in-Err.error c.in-Err.ensures)
