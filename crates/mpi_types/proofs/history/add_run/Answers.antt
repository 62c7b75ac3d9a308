use Rattle.std.proofs.Common.{arith, sym, ◌∙◌}
use Rattle.mpi_types.proofs.RunLemmas.{grows_in_place, pushes_behind, pushes_first}
use Rattle.mpi_types.proofs.history.add_run.Goals as goal
use Rattle.mpi_types.proofs.history.add_run.Goals.{else-count-gt0-via-then-count-gt0+else-is_one_run, else-count-gt0-via-else-count-gt0}

pub returns-then-is_one_run-clause-ok : goal.returns-then-is_one_run-clause-ok
returns-then-is_one_run-clause-ok c =
    grows_in_place _ c.args.run c.index.result.now c.index_mut.result.now c.len-count.result (omega arith) c.if-count-gt0.true
    c.index.ensures c.index_mut.ensures.value (sym c.is_one_run.ensures ∙ c.if-is_one_run.true)

pub returns-clause-ok : goal.returns-clause-ok
returns-clause-ok c = c.in_ok-push.ensures.items ∙ elim c.else-count-gt0.branch [
  | else-count-gt0-via-then-count-gt0+else-is_one_run w ↦
      pushes_behind _ c.args.run w.index.result.now c.len-count.result (omega arith) w.if-count-gt0.true
      w.index.ensures (sym w.is_one_run.ensures ∙ w.if-is_one_run.false)
  | else-count-gt0-via-else-count-gt0 w ↦ pushes_first _ c.args.run (omega arith)
]
