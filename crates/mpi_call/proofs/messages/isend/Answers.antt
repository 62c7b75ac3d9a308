use Rattle.std.proofs.Common.{◌∙◌, pos, ap, sym, refl, [], ◌∷◌, Some, None, Ok, Err}
use Rattle.am_base.specs.declared.traps.TrapCause.TheVariants.{BadAddress}
use Rattle.rank_range.specs.Areas.{areas_of}
use Rattle.mpi_types.specs.declared.state.CompleteKind.TheVariants.{Send}
use Rattle.mpi_types.specs.declared.state.OwnData.{OwnData}
use Rattle.mpi_rules.specs.Messages.{isend_reply, isend_faults, request_write, own_with_complete, send_of}
use Rattle.mpi_rules.specs.Reply.{Given, quiet, with_own, answered}
use Rattle.mpi_call.specs.declared.done.CallStop.TheVariants.{Trap}
use Rattle.mpi_call.specs.declared.done.Done.{Done}
use Rattle.mpi_call.specs.Answers.{kept, data_in}
use Rattle.mpi_call.proofs.DoesLemmas.{checked_does, answered_traps, answered_does, one_open, plain_given}
use Rattle.mpi_call.proofs.messages.isend.Goals as goal

pub returns-then-not-is_open : goal.returns-then-not-is_open
unfolding isend_reply
returns-then-not-is_open g c =
    let areas = areas_of (g.M.Mem.rank_of c.args.m.now) (g.M.Mem.top_of c.args.m.now) (g.M.Mem.bytes_of c.args.m.now) in
    let k = kept c.args.st.now.own c.args.st.now.sweep (g.B.MatchBook.held c.args.st.now.book) in
    let w = request_write c.args.to c.args.st.now.own.next in
    let own : OwnData = own_with_complete Send c.args.st.now.own in
    let given : Given =
    record (quiet (with_own own (data_in k))) {
      writes = w ∷ [];
      send = send_of areas (data_in k) c.args.args.now;
    } in
    checked_does c.isend_faults.result (isend_faults areas (data_in k) c.args.args.now) (answered areas given) k (Err (Trap BadAddress)) k
    (sym c.in_default.is ∙ c.cause.ensures) c.isend_faults.ensures
    (answered_traps areas given k (one_open areas w 4 c.is_open.result refl c.is_open.ensures.value ∙ c.if-not-is_open.true))

pub returns : goal.returns
unfolding isend_reply
returns g c =
    let areas = areas_of (g.M.Mem.rank_of c.args.m.now) (g.M.Mem.top_of c.args.m.now) (g.M.Mem.bytes_of c.args.m.now) in
    let k = kept c.args.st.now.own c.args.st.now.sweep (g.B.MatchBook.held c.args.st.now.book) in
    let w = request_write c.args.to c.args.st.now.own.next in
    let own : OwnData = own_with_complete Send c.args.st.now.own in
    let given : Given =
    record (quiet (with_own own (data_in k))) {
      writes = w ∷ [];
      send = send_of areas (data_in k) c.args.args.now;
    } in
    let done : Done = record { answer = Some (pos 0); writes = c.in_ok-writes.writes; send = c.in_ok-send.send; hit = None; sweep = None } in
    let new = kept c.take_complete.new.own c.args.st.now.sweep (g.B.MatchBook.held c.args.st.now.book) in
    checked_does c.isend_faults.result (isend_faults areas (data_in k) c.args.args.now) (answered areas given) k (Ok done) new
    (sym c.in_default.is ∙ c.cause.ensures) c.isend_faults.ensures
    (answered_does areas given done k new
    (one_open areas w 4 c.is_open.result refl c.is_open.ensures.value ∙ c.if-not-is_open.false)
    (plain_given k new own (Some (pos 0)) c.in_ok-writes.writes (w ∷ []) c.in_ok-send.send (send_of areas (data_in k) c.args.args.now)
    c.in_ok-writes.ensures c.in_ok-send.ensures
    (ap (λ (o : OwnData). kept o c.args.st.now.sweep (g.B.MatchBook.held c.args.st.now.book)) c.in_ok-take_complete.ensures)))
