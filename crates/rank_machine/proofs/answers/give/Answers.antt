use Rattle.std.proofs.Common.{rules, ◌≡◌, ◌+◌, ◌<◌, ap, ◌∙◌, length}
use Rattle.std.proofs.lemmas.Option.{slice_get_within}
use Rattle.std.specs.Int.{w32}
use Rattle.std.specs.Int.RustNames.{FitsSigned}
use Rattle.std.proofs.lemmas.Int.{to_z-of_z}
use Rattle.rank_range.specs.Kinds.{word_of as word_of_number}
use Rattle.vm_code.specs.Machine.{behind_call}
use Rattle.rank_machine.proofs.ListLemmas.{found_at}
use Rattle.rank_machine.proofs.AnswerLemmas.{takes_here, kept_for_second, was_second, has_value, value_near, one_on, two_on}
use Rattle.rank_machine.proofs.answers.give.Goals as goal
use Rattle.rank_machine.proofs.answers.give.Goals.{then-second, else-second}

pub returns-then-not-second-clause-answered : goal.returns-then-not-second-clause-answered
unfolding takes_here
returns-then-not-second-clause-answered c =
    let within : c.args.work.now.place < length c.args.code.now.instrs = slice_get_within _ _ _ c.requires.call.found in
    let t = takes_here c.args.code.now _ _ _ _ _ _ _ c.requires.call (found_at _ _ _ _ c.as_slice.ensures within) c.in-Mpi.is in
    kept_for_second c.args.code.now c.args.work.now c.args.value t c.in-None.is c.if-not-second.true

pub returns-else-not-second-clause-answered : goal.returns-else-not-second-clause-answered
unfolding takes_here
returns-else-not-second-clause-answered c =
    let within : c.args.work.now.place < length c.args.code.now.instrs = slice_get_within _ _ _ c.requires.call.found in
    let t = takes_here c.args.code.now _ _ _ _ _ _ _ c.requires.call (found_at _ _ _ _ c.as_slice.ensures within) c.in-Mpi.is in
    was_second c.args.code.now c.args.work.now c.args.value t c.in-None.is c.if-not-second.false

pub returns-after-second-clause-answered : goal.returns-after-second-clause-answered
unfolding takes_here
returns-after-second-clause-answered c =
    let within : c.args.work.now.place < length c.args.code.now.instrs = slice_get_within _ _ _ c.requires.call.found in
    let t = takes_here c.args.code.now _ _ _ _ _ _ _ c.requires.call (found_at _ _ _ _ c.as_slice.ensures within) c.in-Mpi.is in
    let behind : c.args.work.now.place + c.if-second.work ≡ behind_call c.in-Mpi.second c.args.work.now.place =
    elim c.if-second.branch [
      | then-second w ↦ one_on c.in-Mpi.second _ _ w.if-second.true w.work-is
      | else-second w ↦ two_on c.in-Mpi.second _ _ w.if-second.false w.work-is
    ] in
    let fits : FitsSigned w32 c.in-Some.result = search rules in
    has_value c.args.code.now c.args.work.now c.args.value c.in-Some.result t c.in-Some.is _ _ _ _ _ c.cut.ensures.after (c.word_of.ensures ∙ ap word_of_number (to_z-of_z w32 c.in-Some.result fits)) c.push-fits.ensures.room c.push-fits.ensures.after
    behind

pub returns-after-second-clause-near : goal.returns-after-second-clause-near
unfolding takes_here
returns-after-second-clause-near c =
    let within : c.args.work.now.place < length c.args.code.now.instrs = slice_get_within _ _ _ c.requires.call.found in
    let t = takes_here c.args.code.now _ _ _ _ _ _ _ c.requires.call (found_at _ _ _ _ c.as_slice.ensures within) c.in-Mpi.is in
    let behind : c.args.work.now.place + c.if-second.work ≡ behind_call c.in-Mpi.second c.args.work.now.place =
    elim c.if-second.branch [
      | then-second w ↦ one_on c.in-Mpi.second _ _ w.if-second.true w.work-is
      | else-second w ↦ two_on c.in-Mpi.second _ _ w.if-second.false w.work-is
    ] in
    value_near c.args.code.now c.args.work.now c.args.value c.in-Some.result t c.in-Some.is _
    behind
