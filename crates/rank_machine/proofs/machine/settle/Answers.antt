use Rattle.std.proofs.Common.{◌+◌, ◌%◌, ℕ, ◌∙◌, sym, ap, arith}
use Rattle.rank_machine.specs.View.{config_at}
use Rattle.rank_machine.proofs.RestLemmas.{rank_with, at_rest, stands_again}
use Rattle.rank_machine.proofs.machine.settle.Goals as goal

pub returns-clause-config : goal.returns-clause-config
returns-clause-config g c goes small tally =
    let rank = g.M.Mem.rank_of c.args.m.now in
    let top = g.M.Mem.top_of c.args.m.now in
    let new = g.M.Mem.bytes_of c.put_back.new.memory in
    let place : ℕ = c.args.work.now.place % 4294967296 in
    ap (λ (t : ℕ). config_at c.args.code.now (rank_with place (c.args.work.now.number + 1) c.args.at.now.ticks rank t new) tally) c.put_back.ensures.stack
    ∙ at_rest c.args.code.now c.args.work.now rank top c.args.at.now.ticks place (g.M.Mem.bytes_of c.args.m.now) new tally (omega (arith, small))
    c.top-top.ensures.range.above (c.put_back.ensures.frame top) c.put_back.ensures.beside (c.put_back.ensures.memory rank top)

pub returns-clause-stands : goal.returns-clause-stands
returns-clause-stands g c goes =
    stands_again c.args.code.now _ c.args.work.now.number _ _ _ _ c.requires.number (c.put_back.ensures.finish ∙ sym c.put_back.ensures.stack)
