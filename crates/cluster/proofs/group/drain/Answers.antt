use Rattle.cluster.proofs.GroupLemmas.{drain-start, drain-next, drain-end, drain-falls}
use Rattle.cluster.proofs.group.drain.Goals as goal

pub rounds-init : goal.rounds-init
rounds-init c = drain-start _ _ _ _ c.requires.stand

pub rounds-preserved : goal.rounds-preserved
rounds-preserved c =
    drain-next _ _ _ c.rounds.ranks c.rounds.history _ _ c.in_ok-run_round.field-0 c.if-not-branch.false c.rounds.invariant c.in_ok-run_round.ensures

pub returns-then-not-branch : goal.returns-then-not-branch
returns-then-not-branch c =
    drain-end _ _ _ c.rounds.ranks c.rounds.history _ _ c.in_ok-run_round.field-0 c.if-not-branch.true c.rounds.invariant c.in_ok-run_round.ensures

pub rounds-smaller : goal.rounds-smaller
rounds-smaller c =
    drain-falls _ _ c.rounds.ranks _ _ _ c.in_ok-run_round.field-0 c.if-not-branch.false c.in_ok-run_round.ensures
