-- Steps behind steps.
use Rattle.std.proofs.Common.{List, [], ◌∷◌, subst}
use Rattle.vm_code.specs.declared.code.Code.{Code}
use Rattle.rank_steps.specs.Steps.{RankStep, Standing, Did, StepsJoin}

pub steps_join : StepsJoin
steps_join code [] second old mid new first more = subst (λ (s : Standing). Did code second s new) first more
steps_join code (step ∷ steps) second old mid new first more =
    (first.0, first.1, steps_join code steps second first.0 mid new first.2 more)
