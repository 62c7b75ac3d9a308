use Rattle.std.proofs.Common.{take}
use Rattle.c_compile.specs.Programs.{AreSources}
use Rattle.c_compile.proofs.files.sources_of.Given as goal

abbrev pub invariant-loop-unit : goal.invariant-loop-unit
invariant-loop-unit l = AreSources (take l.unit l.files) l.sources
