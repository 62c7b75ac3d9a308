use Rattle.std.proofs.Common.{◌+◌, List, take, subst, sym, refl}
use Rattle.c_check.specs.declared.units.Source.{Source}
use Rattle.c_compile.specs.declared.error.CompileError.{CompileError}
use Rattle.c_compile.specs.Programs.{AreSources, IsWhyOfFiles}
use Rattle.c_compile.proofs.ProgramLaws.{file-at-tells, one-more-source, read-as}
use Rattle.c_compile.proofs.files.sources_of.Goals as goal

pub returns-in-Err-clause-err : goal.returns-in-Err-clause-err
returns-in-Err-clause-err c =
    subst (λ (e : CompileError). IsWhyOfFiles c.args.files.now e) (sym c.told_of_file.ensures)
    (file-at-tells c.args.files.now c.loop-unit.unit c.as_slice.result.now c.loop-unit.sources c.loop-unit.unit c.in-Err.error
    c.loop-unit-test.true
    (read-as c.args.files.now c.loop-unit.unit c.as_slice.result.now c.index-files-unit.result c.as_slice.ensures c.index-files-unit.is)
    c.loop-unit.invariant refl c.in-Err.ensures.err)

pub loop-unit-preserved : goal.loop-unit-preserved
loop-unit-preserved c =
    subst (λ (sources : List Source). AreSources (take (c.loop-unit.unit + 1) c.args.files.now) sources) (sym c.in_default.ensures.ok)
    (one-more-source c.args.files.now c.loop-unit.unit c.as_slice.result.now c.loop-unit.sources c.in-Ok.source c.loop-unit-test.true
    (read-as c.args.files.now c.loop-unit.unit c.as_slice.result.now c.index-files-unit.result c.as_slice.ensures c.index-files-unit.is)
    c.loop-unit.invariant c.in-Ok.ensures.ok)
