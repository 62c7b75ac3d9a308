use Rattle.std.proofs.Common.{◌+◌, ◌-◌, ◌∙◌, sym, length, arith}
use Rattle.mpi_rules.specs.Collectives.{new_number}
use Rattle.mpi_call.proofs.NumberLemmas.{free_at, free_here, free_next}
use Rattle.mpi_call.proofs.gathering.new_number.Goals as goal

pub loop-i-init : goal.loop-i-init
loop-i-init c =
    let xs = c.args.list.now in
    free_at (length xs) (length xs - 0) 2 (0 + 2) xs (omega arith) (omega arith)

pub loop-i-preserved : goal.loop-i-preserved
loop-i-preserved c =
    let xs = c.args.list.now in
    c.loop-i.invariant ∙ free_next (length xs - c.loop-i.i) (length xs - (c.loop-i.i + 1)) (c.loop-i.i + 2) (c.loop-i.i + 1 + 2) xs
    (omega arith) (omega arith) (sym c.is_taken.ensures ∙ c.if-not-is_taken.false)

pub returns-then-not-is_taken : goal.returns-then-not-is_taken
unfolding new_number
returns-then-not-is_taken c =
    let xs = c.args.list.now in
    sym (c.loop-i.invariant ∙ free_here (length xs - c.loop-i.i) (c.loop-i.i + 2) xs (sym c.is_taken.ensures ∙ c.if-not-is_taken.true))

pub returns : goal.returns
unfolding new_number
returns c =
    let xs = c.args.list.now in
    sym (c.loop-i.invariant ∙ free_at (length xs - c.loop-i.i) 0 (c.loop-i.i + 2) (length xs + 2) xs (omega arith) (omega arith))
