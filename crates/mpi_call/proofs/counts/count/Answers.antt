use Rattle.std.proofs.Common.{◌≡◌, ◌<◌, ℕ, ℤ, ◌∙◌, Bool, not, ◌||◌, List, [], ◌∷◌, drop, ap, sym, subst, Ok, Err}
use Rattle.std.specs.Prelude.{is_some}
use Rattle.std.specs.Int.{w32, cast_unsigned}
use Rattle.byteorder.specs.Endian.{little_number}
use Rattle.am_base.specs.declared.traps.TrapCause.TheVariants.{BadAddress}
use Rattle.rank_range.specs.Areas.{areas_of}
use Rattle.mpi_types.specs.declared.call.Write.{Write}
use Rattle.mpi_types.specs.Collected.{size_of}
use Rattle.mpi_rules.specs.declared.faults.Faults.{Faults}
use Rattle.mpi_rules.specs.Data.{is_running}
use Rattle.mpi_rules.specs.Faults.{cause_of}
use Rattle.mpi_rules.specs.Messages.{request_write}
use Rattle.mpi_rules.specs.Places.{int_of, datatype_named, is_open, are_open, read_at, int_write}
use Rattle.mpi_rules.specs.Reply.{Given, ended, late_address, writing, no_faults}
use Rattle.mpi_rules.specs.Requests.{count_reply, count_value}
use Rattle.mpi_call.specs.declared.done.CallStop.TheVariants.{Trap}
use Rattle.mpi_call.specs.Answers.{kept, data_in}
use Rattle.mpi_call.proofs.DoesLemmas.{checked_does, writing_given, no_datatype}
use Rattle.mpi_call.proofs.CountLemmas.{size_positive, count_closed, closed_traps, open_does}
use Rattle.mpi_call.proofs.counts.count.Goals as goal

pub returns-then-is_closed : goal.returns-then-is_closed
unfolding count_reply
returns-then-is_closed g c =
    let areas = areas_of (g.M.Mem.rank_of c.args.m.now) (g.M.Mem.top_of c.args.m.now) (g.M.Mem.bytes_of c.args.m.now) in
    let k = kept c.args.st.now.own c.args.st.now.sweep (g.B.MatchBook.held c.args.st.now.book) in
    let bits = little_number 4 (drop 12 (read_at areas c.args.status 16)) in
    let v : ℤ = count_value (int_of bits) (size_of (datatype_named c.args.datatype.now)) in
    let writes : List Write = int_write c.args.to v ∷ [] in
    let given : Given = writing (data_in k) writes in
    let closed : Bool = not (is_open areas c.args.status 16) || not (are_open areas writes) in
    let faults : Faults = record no_faults { other = not (is_running c.args.st.now.own.phase); datatype = not (is_some (datatype_named c.args.datatype.now)) } in
    checked_does c.count_faults.result faults (ended (late_address closed) given) k (Err (Trap BadAddress)) k
    (sym c.in_default.is ∙ c.cause.ensures) c.count_faults.ensures
    (closed_traps closed given k (count_closed areas c.args.status c.args.to v c.is_closed.result c.is_closed.ensures ∙ c.if-is_closed.true))

pub count_bits-bits-requires : goal.count_bits-bits-requires
count_bits-bits-requires g c =
    let faults : Faults = record no_faults { other = not (is_running c.args.st.now.own.phase); datatype = not (is_some (datatype_named c.args.datatype.now)) } in
    record {
      some = subst (λ (n : ℕ). 0 < n) (sym (c.size_of.ensures.value ∙ ap size_of c.datatype_named.ensures))
          (size_positive (datatype_named c.args.datatype.now)
          (no_datatype faults (sym c.in_default.is ∙ (c.cause.ensures ∙ ap (λ (f : Faults). cause_of f) c.count_faults.ensures))));
    }

pub returns : goal.returns
unfolding count_reply
returns g c =
    let areas = areas_of (g.M.Mem.rank_of c.args.m.now) (g.M.Mem.top_of c.args.m.now) (g.M.Mem.bytes_of c.args.m.now) in
    let k = kept c.args.st.now.own c.args.st.now.sweep (g.B.MatchBook.held c.args.st.now.book) in
    let bits = little_number 4 (drop 12 (read_at areas c.args.status 16)) in
    let v : ℤ = count_value (int_of bits) (size_of (datatype_named c.args.datatype.now)) in
    let writes : List Write = int_write c.args.to v ∷ [] in
    let given : Given = writing (data_in k) writes in
    let closed : Bool = not (is_open areas c.args.status 16) || not (are_open areas writes) in
    let faults : Faults = record no_faults { other = not (is_running c.args.st.now.own.phase); datatype = not (is_some (datatype_named c.args.datatype.now)) } in
    let told : c.count_bits-bits.result ≡ cast_unsigned w32 v =
    c.count_bits-bits.ensures ∙ ap (λ (b : ℕ). cast_unsigned w32 (count_value (int_of b) c.size_of.result)) c.status_bits.ensures
    ∙ ap (λ (n : ℕ). cast_unsigned w32 (count_value (int_of bits) n)) (c.size_of.ensures.value ∙ ap size_of c.datatype_named.ensures) in
    checked_does c.count_faults.result faults (ended (late_address closed) given) k (Ok c.writing.result) k
    (sym c.in_default.is ∙ c.cause.ensures) c.count_faults.ensures
    (open_does closed given c.writing.result k k (count_closed areas c.args.status c.args.to v c.is_closed.result c.is_closed.ensures ∙ c.if-is_closed.false)
    (writing_given k c.writing.result c.in_ok-writes.writes writes c.writing.ensures
    (c.in_ok-writes.ensures ∙ ap (λ (b : ℕ). request_write c.args.to b ∷ []) told)))
