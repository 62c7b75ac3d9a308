use Rattle.std.proofs.lemmas.Int.{to_z-of_z}
use Rattle.std.proofs.Common.{rules, w32, to_z, of_z, ◌≡◌, ◌∙◌, ℤ, ap, sym, refl, [], ◌∷◌, Ok, Err}
use Rattle.am_base.specs.declared.traps.TrapCause.TheVariants.{BadAddress}
use Rattle.rank_range.specs.Areas.{areas_of}
use Rattle.mpi_types.specs.declared.constants.TheConstants.{COMM_NULL}
use Rattle.mpi_types.specs.declared.state.OwnData.{OwnData}
use Rattle.mpi_rules.specs.Own.{free_reply, free_faults, own_without_communicator}
use Rattle.mpi_rules.specs.Places.{int_of, variable_at, int_write}
use Rattle.mpi_rules.specs.Reply.{writing, with_own, answered}
use Rattle.mpi_call.specs.declared.done.CallStop.TheVariants.{Trap}
use Rattle.mpi_call.specs.Answers.{kept, data_in}
use Rattle.mpi_call.proofs.DoesLemmas.{checked_traps, checked_does, answered_traps, answered_does, one_open, own_given}
use Rattle.mpi_call.proofs.own.comm_free.Goals as goal

pub returns-in-Some : goal.returns-in-Some
unfolding free_reply
returns-in-Some g c =
    let areas = areas_of (g.M.Mem.rank_of c.args.m.now) (g.M.Mem.top_of c.args.m.now) (g.M.Mem.bytes_of c.args.m.now) in
    let k = kept c.args.st.now.own c.args.st.now.sweep (g.B.MatchBook.held c.args.st.now.book) in
    let n = int_of (variable_at areas c.args.to) in
    let is : to_z w32 (of_z w32 c.int_of-comm.result) ≡ n =
    to_z-of_z w32 c.int_of-comm.result (search rules) ∙ (c.int_of-comm.ensures ∙ ap int_of c.variable.ensures) in
    let given = writing (with_own (own_without_communicator n c.args.st.now.own) (data_in k)) (int_write c.args.to COMM_NULL ∷ []) in
    checked_traps c.free_faults.result (free_faults areas (data_in k) c.args.to n) (answered areas given) c.in-Some.cause k
    (sym c.in-Some.is ∙ c.cause.ensures)
    (c.free_faults.ensures k refl ∙ ap (λ (z : ℤ). free_faults areas (data_in k) c.args.to z) is)

pub returns-then-not-is_open : goal.returns-then-not-is_open
unfolding free_reply
returns-then-not-is_open g c =
    let areas = areas_of (g.M.Mem.rank_of c.args.m.now) (g.M.Mem.top_of c.args.m.now) (g.M.Mem.bytes_of c.args.m.now) in
    let k = kept c.args.st.now.own c.args.st.now.sweep (g.B.MatchBook.held c.args.st.now.book) in
    let n = int_of (variable_at areas c.args.to) in
    let is : to_z w32 (of_z w32 c.int_of-comm.result) ≡ n =
    to_z-of_z w32 c.int_of-comm.result (search rules) ∙ (c.int_of-comm.ensures ∙ ap int_of c.variable.ensures) in
    let w = int_write c.args.to COMM_NULL in
    let given = writing (with_own (own_without_communicator n c.args.st.now.own) (data_in k)) (w ∷ []) in
    checked_does c.free_faults.result (free_faults areas (data_in k) c.args.to n) (answered areas given) k (Err (Trap BadAddress)) k
    (sym c.in_default.is ∙ c.cause.ensures)
    (c.free_faults.ensures k refl ∙ ap (λ (z : ℤ). free_faults areas (data_in k) c.args.to z) is)
    (answered_traps areas given k (one_open areas w 4 c.is_open.result refl c.is_open.ensures.value ∙ c.if-not-is_open.true))

pub returns : goal.returns
unfolding free_reply
returns g c =
    let areas = areas_of (g.M.Mem.rank_of c.args.m.now) (g.M.Mem.top_of c.args.m.now) (g.M.Mem.bytes_of c.args.m.now) in
    let lists = g.B.MatchBook.held c.args.st.now.book in
    let k = kept c.args.st.now.own c.args.st.now.sweep lists in
    let n = int_of (variable_at areas c.args.to) in
    let is : to_z w32 (of_z w32 c.int_of-comm.result) ≡ n =
    to_z-of_z w32 c.int_of-comm.result (search rules) ∙ (c.int_of-comm.ensures ∙ ap int_of c.variable.ensures) in
    let w = int_write c.args.to COMM_NULL in
    let own : OwnData = own_without_communicator n c.args.st.now.own in
    let given = writing (with_own own (data_in k)) (w ∷ []) in
    let new = kept c.remove_communicator.new.own c.args.st.now.sweep lists in
    checked_does c.free_faults.result (free_faults areas (data_in k) c.args.to n) (answered areas given) k (Ok c.writing.result) new
    (sym c.in_default.is ∙ c.cause.ensures)
    (c.free_faults.ensures k refl ∙ ap (λ (z : ℤ). free_faults areas (data_in k) c.args.to z) is)
    (answered_does areas given c.writing.result k new
    (one_open areas w 4 c.is_open.result refl c.is_open.ensures.value ∙ c.if-not-is_open.false)
    (own_given k new own c.writing.result c.in_ok-writes.writes (w ∷ []) c.writing.ensures c.in_ok-writes.ensures
    (ap (λ (o : OwnData). kept o c.args.st.now.sweep lists) (c.remove_communicator.ensures ∙ ap (λ (z : ℤ). own_without_communicator z c.args.st.now.own) is))))
