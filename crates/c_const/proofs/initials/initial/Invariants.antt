use Rattle.std.proofs.Common.{◌≡◌, drop}
use Rattle.c_const.specs.Initials.{initial_from, initial_of, so_far}
use Rattle.c_const.proofs.initials.initial.Given as goal

abbrev pub invariant-loop-store : goal.invariant-loop-store
invariant-loop-store l = initial_of l.stores ≡ initial_from (so_far l.bytes.items l.fixes) (drop l.store-index l.stores)
