use Rattle.std.proofs.Common.{◌∙◌, ap, arith}
use Rattle.std.specs.Prelude.{not}
use Rattle.rank_machine.proofs.ListLemmas.{got, got_none}
use Rattle.rank_machine.proofs.CallLemmas.{call_lost_count, call_lost_function, call_too_deep, call_too_large, call_goes_in}
use Rattle.rank_machine.proofs.calls.call.Goals as goal

pub returns-then-count-len-clause-step : goal.returns-then-count-len-clause-step
returns-then-count-len-clause-step g c tally = call_lost_count _ c.args.work.now _ _ c.args.function c.args.count _ tally (omega (arith, c.if-count-len.true, c.len.ensures.value))

pub returns-in_default-clause-step : goal.returns-in_default-clause-step
returns-in_default-clause-step g c tally =
    call_lost_function _ c.args.work.now _ _ c.args.function c.args.count _ tally (omega (arith, c.if-count-len.false, c.len.ensures.value))
    (got_none _ _ _ c.as_slice.ensures c.in_default.ensures.lookup.3)

pub returns-then-work-ge-CALL_LIMIT-clause-step : goal.returns-then-work-ge-CALL_LIMIT-clause-step
returns-then-work-ge-CALL_LIMIT-clause-step g c tally =
    call_too_deep _ c.args.work.now _ _ c.args.function c.args.count _ tally c.in-Some.callee.now (omega (arith, c.if-count-len.false, c.len.ensures.value))
    (got _ _ _ _ c.as_slice.ensures c.in-Some.ensures.lookup.3.0 c.in-Some.ensures.lookup.1) (let deep = c.if-work-ge-CALL_LIMIT.true in omega (arith, deep))

pub returns-then-not-fits-clause-step : goal.returns-then-not-fits-clause-step
returns-then-not-fits-clause-step g c tally =
    call_too_large _ c.args.work.now _ _ c.top-start.result c.args.function c.args.count _ tally c.in-Some.callee.now (omega (arith, c.if-count-len.false, c.len.ensures.value))
    (got _ _ _ _ c.as_slice.ensures c.in-Some.ensures.lookup.3.0 c.in-Some.ensures.lookup.1) (let deep = c.if-work-ge-CALL_LIMIT.false in omega (arith, deep)) c.top-start.ensures.range c.top-start.ensures.value (c.fits.ensures ∙ ap not c.if-not-fits.true)

pub returns-clause-step : goal.returns-clause-step
returns-clause-step g c tally =
    call_goes_in _ c.args.work.now c.go_in.new.work _ _ c.top-start.result _ c.args.function c.args.count _ _ tally c.in-Some.callee.now (omega (arith, c.if-count-len.false, c.len.ensures.value))
    (got _ _ _ _ c.as_slice.ensures c.in-Some.ensures.lookup.3.0 c.in-Some.ensures.lookup.1) (let deep = c.if-work-ge-CALL_LIMIT.false in omega (arith, deep)) c.top-start.ensures.range c.top-start.ensures.value (c.fits.ensures ∙ ap not c.if-not-fits.false)
    c.go_in.ensures.work c.go_in.ensures.memory c.go_in.ensures.callers c.go_in.ensures.stack
