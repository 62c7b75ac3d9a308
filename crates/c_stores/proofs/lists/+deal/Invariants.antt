use Rattle.std.proofs.Common.{◌≡◌, map, drop}
use Rattle.c_stores.specs.Lists.{deal_all, initialising}
use Rattle.c_stores.proofs.lists.+deal.Given as goal

abbrev pub invariant-deal_all-loop-one : goal.invariant-deal_all-loop-one
invariant-deal_all-loop-one l =
    deal_all (map initialising (drop l.one-index l.items)) l.target l.of l.dealt l.checker
    ≡ deal_all (map initialising l.items) l.target l.of l.initial.dealt l.initial.checker
