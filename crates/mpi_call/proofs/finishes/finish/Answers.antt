use Rattle.std.proofs.Common.{◌≡◌, ◌∙◌, ℕ, Bool, List, ap, sym, subst}
use Rattle.rank_range.specs.Areas.{areas_of}
use Rattle.mpi_rules.specs.Calls.{reply, reply_to}
use Rattle.mpi_rules.specs.Places.{written}
use Rattle.mpi_rules.specs.Reply.{Reply}
use Rattle.mpi_call.specs.Answers.{kept, data_in, DoesGive}
use Rattle.mpi_call.specs.Lawful.{MayFinish}
use Rattle.mpi_call.specs.Served.{is_second}
use Rattle.mpi_call.proofs.DoesLemmas.{ended_by, given_some, quiet_some}
use Rattle.mpi_call.proofs.finishes.finish.Goals as goal

pub returns-in-Ok-Some-clause-finishes : goal.returns-in-Ok-Some-clause-finishes
unfolding reply
returns-in-Ok-Some-clause-finishes g c =
    let areas = areas_of (g.M.Mem.rank_of c.args.m.now) (g.M.Mem.top_of c.args.m.now) (g.M.Mem.bytes_of c.args.m.now) in
    let after = areas_of (g.M.Mem.rank_of c.write_all.new.m) (g.M.Mem.top_of c.write_all.new.m) (g.M.Mem.bytes_of c.write_all.new.m) in
    let k = kept c.args.st.now.own c.args.st.now.sweep (g.B.MatchBook.held c.args.st.now.book) in
    let new = kept c.finished.new.st.own c.finished.new.st.sweep (g.B.MatchBook.held c.finished.new.st.book) in
    let call = c.args.c.call in
    let done = c.in-Ok-Some.done in
    let same : reply_to call (is_second call) c.as_slice.result.now areas (data_in k) ≡ reply_to call c.args.c.second c.args.c.arguments areas (data_in k) =
    ap (λ (xs : List ℕ). reply_to call (is_second call) xs areas (data_in k)) c.as_slice.ensures
    ∙ ap (λ (b : Bool). reply_to call b c.args.c.arguments areas (data_in k)) (sym c.requires.tick) in
    ended_by (reply_to call c.args.c.second c.args.c.arguments areas (data_in k)) done k new areas after
    (subst (λ (r : Reply). DoesGive r done k new) same
    (given_some (reply_to call (is_second call) c.as_slice.result.now areas (data_in k)) c.in-Ok-Some.field-0 done k new c.in-Ok-Some.field-0-is c.in-Ok-Some.ensures.does))
    (quiet_some c.in-Ok-Some.field-0 done c.in-Ok-Some.field-0-is c.in-Ok-Some.ensures.quiet) (c.write_all.ensures.areas ∙ ap (written areas) c.as_slice-in-Ok-Some.ensures)

pub finished-requires-clause-may : goal.finished-requires-clause-may
finished-requires-clause-may g c =
    subst (λ (xs : List ℕ). MayFinish c.args.c.call xs c.args.st.now.own c.args.st.now.sweep (g.B.MatchBook.held c.args.st.now.book)) (sym c.as_slice.ensures)
    c.requires.may
