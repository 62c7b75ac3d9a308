use Rattle.std.proofs.Common.{◌≡◌, ◌<◌, ◌∙◌, refl, ap, arith, length}
use Rattle.std.specs.Prelude.{not}
use Rattle.std.proofs.lemmas.Option.{slice_get_within}
use Rattle.rank_machine.proofs.ListLemmas.{got}
use Rattle.rank_machine.proofs.BeginLemmas.{first_few, callee_there, main_too_large, main_goes_in, given_words, new_work}
use Rattle.rank_machine.proofs.begin.begin.Goals as goal

pub returns-then-not-fits-clause-trapped : goal.returns-then-not-fits-clause-trapped
returns-then-not-fits-clause-trapped g c answer tally =
    let found = c.first_call-first.ensures.found in
    let inside : c.first_call-first.result.function < length c.args.code.now.functions =
    slice_get_within c.args.code.now.functions c.first_call-first.result.function c.requires.calls.callee (callee_there c.args.code.now _ _ c.requires.calls found) in
    let size : length c.as_slice.result.now ≡ length c.args.code.now.functions = ap length c.as_slice.ensures in
    main_too_large c.args.code.now _ _ c.top-start.result c.first_call-first.result.function c.first_call-first.result.count _ tally c.index-as_slice-first.result
    (first_few c.args.code.now _ _ c.requires.calls found) found
    (got _ _ _ _ c.as_slice.ensures (omega (arith, inside, size)) c.index-as_slice-first.is) c.top-start.ensures.range c.top-start.ensures.value (c.fits.ensures ∙ ap not c.if-not-fits.true)

pub returns-clause-went : goal.returns-clause-went
returns-clause-went g c answer tally =
    let found = c.first_call-first.ensures.found in
    let inside : c.first_call-first.result.function < length c.args.code.now.functions =
    slice_get_within c.args.code.now.functions c.first_call-first.result.function c.requires.calls.callee (callee_there c.args.code.now _ _ c.requires.calls found) in
    let size : length c.as_slice.result.now ≡ length c.args.code.now.functions = ap length c.as_slice.ensures in
    main_goes_in c.args.code.now _ (g.M.Mem.rank_of c.args.m.now) _ c.top-start.result _ c.first_call-first.result.function c.first_call-first.result.count _ _ _ tally c.index-as_slice-first.result
    (first_few c.args.code.now _ _ c.requires.calls found) found
    (got _ _ _ _ c.as_slice.ensures (omega (arith, inside, size)) c.index-as_slice-first.is) c.top-start.ensures.range c.top-start.ensures.value (c.fits.ensures ∙ ap not c.if-not-fits.false)
    (given_words (g.M.Mem.rank_of c.args.m.now) c.segment_start.result c.first_call-first.result.count _ c.segment_start.ensures refl)
    (new_work _ _ _ _ _ c.from-work.ensures c.clear.ensures c.requires.number)
    c.enter.ensures.value c.enter.ensures.stack
