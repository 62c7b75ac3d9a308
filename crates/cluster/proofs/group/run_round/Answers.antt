use Rattle.std.proofs.Common.{arith}
use Rattle.cluster.proofs.GroupLemmas.{round-start, round-next, round-end}
use Rattle.cluster.proofs.group.run_round.Goals as goal
use Rattle.cluster.proofs.group.run_round.Goals.{then-branch-gt0, else-branch-gt0}

pub loop-at-init : goal.loop-at-init
loop-at-init c = round-start _ _ _ _ c.requires.stand

pub loop-at-preserved : goal.loop-at-preserved
loop-at-preserved c =
    round-next _ _ _ _ c.loop-at.ranks c.loop-at.history c.loop-at.some c.run_rank.new.ranks c.run_rank.new.history
    c.in_ok-run_rank.field-0 c.if-branch-gt0.some (omega arith) c.loop-at.invariant c.in_ok-run_rank.ensures
    (elim c.if-branch-gt0.branch [
      | then-branch-gt0 w ↦ λ some. w.some-is
      | else-branch-gt0 w ↦ λ some. absurd (omega (arith, w.if-branch-gt0.false))
    ])
    (elim c.if-branch-gt0.branch [
      | then-branch-gt0 w ↦ λ none. absurd (omega (arith, w.if-branch-gt0.true))
      | else-branch-gt0 w ↦ λ none. w.some-is
    ])

pub returns : goal.returns
returns c = round-end _ _ _ c.loop-at.at _ _ _ (omega arith) c.loop-at.invariant
