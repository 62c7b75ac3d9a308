use Rattle.std.proofs.Common.{◌≡◌, ◌++◌, drop}
use Rattle.c_check.specs.Functions as functions
use Rattle.c_check.proofs.functions.parameters_in.Given as goal

abbrev pub invariant-loop-of : goal.invariant-loop-of
invariant-loop-of l =
    l.all ++ functions.parameters_in l.structs l.rooms (drop l.of-index l.types) ≡ functions.parameters_in l.structs functions.no_rooms l.types
