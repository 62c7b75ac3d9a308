use Rattle.std.proofs.Common.{◌≡◌, take, map}
use Rattle.c_judge.specs.Headers.{header_type}
use Rattle.c_judge.proofs.headers.header_types.Given as goal

abbrev pub invariant-loop-of : goal.invariant-loop-of
invariant-loop-of l = l.made ≡ map header_type (take l.of-index l.types)
