use Rattle.std.proofs.Common.{◌||◌, ap}
use Rattle.std.specs.Prelude.{is_some}
use Rattle.mpi_types.specs.declared.lists.BookLists.{BookLists}
use Rattle.mpi_types.specs.declared.state.OwnData.{OwnData}
use Rattle.mpi_rules.specs.Data.{is_live, complete_of, is_waiting, pair_of}
use Rattle.mpi_call.specs.Answers.{kept}
use Rattle.mpi_call.proofs.LiveLemmas.{tested_live, live_in_book}
use Rattle.mpi_call.proofs.TakeLemmas.{kind_some, kind_none, took_complete, took_matched, pair_there}
use Rattle.mpi_call.proofs.requests.take_body.Goals as goal

pub end_matched-requires-clause-live : goal.end_matched-requires-clause-live
unfolding is_live
end_matched-requires-clause-live g c =
    let l = g.B.MatchBook.held c.args.st.now.book in
    tested_live l c.args.number
    (live_in_book (λ r. r.kind) c.complete_kind.result (complete_of c.args.number c.args.st.now.own.complete)
    (is_waiting c.args.number l.posted || is_some (pair_of c.args.number l.matched)) c.complete_kind.ensures c.in-None.is c.requires.live)

pub end_matched-requires-clause-found : goal.end_matched-requires-clause-found
end_matched-requires-clause-found g c =
    let k = kept c.args.st.now.own c.args.st.now.sweep (g.B.MatchBook.held c.args.st.now.book) in
    pair_there k c.args.number
    (kind_none (λ r. r.kind) c.complete_kind.result (complete_of c.args.number c.args.st.now.own.complete) c.complete_kind.ensures c.in-None.is)
    c.requires.done

pub returns-in-Some : goal.returns-in-Some
returns-in-Some g c =
    let lists = g.B.MatchBook.held c.args.st.now.book in
    let k = kept c.args.st.now.own c.args.st.now.sweep lists in
    took_complete k (kept c.end_complete.new.own c.args.st.now.sweep lists) c.args.number c.new.result
    (kind_some (λ r. r.kind) c.complete_kind.result (complete_of c.args.number c.args.st.now.own.complete) c.in-Some.field-0 c.complete_kind.ensures c.in-Some.is)
    c.requires.apart c.new.ensures (ap (λ (o : OwnData). kept o c.args.st.now.sweep lists) c.end_complete.ensures)

pub returns-in-None : goal.returns-in-None
returns-in-None g c =
    let lists = g.B.MatchBook.held c.args.st.now.book in
    let k = kept c.args.st.now.own c.args.st.now.sweep lists in
    took_matched k (kept c.args.st.now.own c.args.st.now.sweep (g.B.MatchBook.held c.end_matched.new.book)) c.args.number c.end_matched.result
    (kind_none (λ r. r.kind) c.complete_kind.result (complete_of c.args.number c.args.st.now.own.complete) c.complete_kind.ensures c.in-None.is)
    c.end_matched.ensures.body (ap (λ (l : BookLists). kept c.args.st.now.own c.args.st.now.sweep l) c.end_matched.ensures.lists)
