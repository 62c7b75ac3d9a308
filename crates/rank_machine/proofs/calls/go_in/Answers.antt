use Rattle.std.proofs.Common.{◌≤◌, ◌+◌, ℕ, ◌∙◌, ap, sym, arith, drop}
use Rattle.rank_range.specs.Layout.{stack_start}
use Rattle.rank_machine.specs.View.{in_stack}
use Rattle.rank_machine.proofs.FrameLemmas.{frame_with}
use Rattle.rank_machine.proofs.CallLemmas.{callers_are}
use Rattle.rank_machine.proofs.calls.go_in.Goals as goal

pub returns-clause-callers : goal.returns-clause-callers
returns-clause-callers g c =
    let range = c.top-here.ensures.range in
    let limit = c.args.start + c.args.callee.now.frame in
    let above : stack_start ≤ c.args.start = (let low = range.above in omega (arith, low, c.requires.here)) in
    c.enter.ensures.frames limit (c.args.work.now.number + 1) (omega (arith, c.requires.number))
    ∙ callers_are _ _ limit c.args.start c.args.work.now.number c.args.work.now.back c.args.work.now.start (drop c.args.count c.args.work.now.operands)
    (c.put_back.ensures.frame limit ∙ ap (λ (t : ℕ). frame_with c.args.work.now.back c.args.work.now.start (in_stack limit t) (drop c.args.count c.args.work.now.operands)) (sym c.requires.here))
    c.put_back.ensures.beside above (omega arith)
