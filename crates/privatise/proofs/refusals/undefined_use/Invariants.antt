use Rattle.std.proofs.Common.{◌≡◌, drop, fold, None}
use Rattle.privatise.specs.First.{earlier}
use Rattle.privatise.proofs.UseLemmas.{undefined_tokens}
use Rattle.privatise.proofs.refusals.undefined_use.Given as goal

abbrev pub invariant-loop-name : goal.invariant-loop-name
invariant-loop-name l =
    fold earlier l.first (undefined_tokens l.program (drop l.name-index l.program.uses))
    ≡ fold earlier None (undefined_tokens l.program l.program.uses)
