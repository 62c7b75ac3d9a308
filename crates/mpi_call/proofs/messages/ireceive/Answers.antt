use Rattle.std.proofs.Common.{◌∙◌, pos, sym, refl, arith, [], ◌∷◌, Some, None, Ok, Err}
use Rattle.am_base.specs.declared.traps.TrapCause.TheVariants.{BadAddress}
use Rattle.rank_range.specs.Areas.{areas_of}
use Rattle.mpi_rules.specs.Messages.{ireceive_reply, receive_faults, request_write, receiving}
use Rattle.mpi_rules.specs.Reply.{Given, answered}
use Rattle.mpi_call.specs.declared.done.CallStop.TheVariants.{Trap}
use Rattle.mpi_call.specs.declared.done.Done.{Done}
use Rattle.mpi_call.specs.Answers.{kept, data_in}
use Rattle.mpi_call.proofs.DoesLemmas.{checked_does, answered_traps, answered_does, one_open, received_given, no_buffer}
use Rattle.mpi_call.proofs.messages.ireceive.Goals as goal

pub returns-then-not-is_open : goal.returns-then-not-is_open
unfolding ireceive_reply
returns-then-not-is_open g c =
    let areas = areas_of (g.M.Mem.rank_of c.args.m.now) (g.M.Mem.top_of c.args.m.now) (g.M.Mem.bytes_of c.args.m.now) in
    let k = kept c.args.st.now.own c.args.st.now.sweep (g.B.MatchBook.held c.args.st.now.book) in
    let w = request_write c.args.to c.args.st.now.own.next in
    let given : Given = record (receiving (data_in k) c.args.args.now) { writes = w ∷ [] } in
    checked_does c.receive_faults.result (receive_faults areas (data_in k) c.args.args.now) (answered areas given) k (Err (Trap BadAddress)) k
    (sym c.in_default.is ∙ c.cause.ensures) c.receive_faults.ensures.value
    (answered_traps areas given k (one_open areas w 4 c.is_open.result refl c.is_open.ensures.value ∙ c.if-not-is_open.true))

pub receiving-requires-clause-room : goal.receiving-requires-clause-room
receiving-requires-clause-room g c =
    omega (arith, c.receive_faults.ensures.small (no_buffer c.receive_faults.result (sym c.in_default.is ∙ c.cause.ensures)))

pub returns : goal.returns
unfolding ireceive_reply
returns g c =
    let areas = areas_of (g.M.Mem.rank_of c.args.m.now) (g.M.Mem.top_of c.args.m.now) (g.M.Mem.bytes_of c.args.m.now) in
    let k = kept c.args.st.now.own c.args.st.now.sweep (g.B.MatchBook.held c.args.st.now.book) in
    let w = request_write c.args.to c.args.st.now.own.next in
    let given : Given = record (receiving (data_in k) c.args.args.now) { writes = w ∷ [] } in
    let done : Done = record { answer = Some (pos 0); writes = c.in_ok-writes.writes; send = None; hit = c.in_ok-hit.hit; sweep = None } in
    let new = kept c.receiving.new.st.own c.receiving.new.st.sweep (g.B.MatchBook.held c.receiving.new.st.book) in
    checked_does c.receive_faults.result (receive_faults areas (data_in k) c.args.args.now) (answered areas given) k (Ok done) new
    (sym c.in_default.is ∙ c.cause.ensures) c.receive_faults.ensures.value
    (answered_does areas given done k new
    (one_open areas w 4 c.is_open.result refl c.is_open.ensures.value ∙ c.if-not-is_open.false)
    (received_given k new c.args.args.now c.in_ok-writes.writes (w ∷ []) c.in_ok-hit.hit c.in_ok-writes.ensures c.in_ok-hit.ensures))
