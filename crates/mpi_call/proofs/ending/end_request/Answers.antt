use Rattle.std.proofs.Common.{◌≡◌, ◌∙◌, sym}
use Rattle.rank_range.specs.Areas.{areas_of}
use Rattle.mpi_rules.specs.Reply.{writing}
use Rattle.mpi_rules.specs.Requests.{came_of, came_writes, came_faults, ending}
use Rattle.mpi_call.specs.Answers.{kept, data_in, Took}
use Rattle.mpi_call.specs.Parts.{variable_part, flag_part}
use Rattle.mpi_call.specs.Sizes.{sizes_of}
use Rattle.mpi_call.proofs.EndLemmas.{late_traps, late_does, took_given, writes_are, sizes_same, some_there, when_some}
use Rattle.mpi_call.proofs.ending.end_request.Goals as goal

pub take-body-requires-clause-done : goal.take-body-requires-clause-done
take-body-requires-clause-done g c =
    let k = kept c.args.st.now.own c.args.st.now.sweep (g.B.MatchBook.held c.args.st.now.book) in
    some_there (came_of (data_in k) c.args.number) c.args.s.now c.requires.came

pub returns-in-Some-clause-does : goal.returns-in-Some-clause-does
returns-in-Some-clause-does g c x is =
    let areas = areas_of (g.M.Mem.rank_of c.args.m.now) (g.M.Mem.top_of c.args.m.now) (g.M.Mem.bytes_of c.args.m.now) in
    let k = kept c.args.st.now.own c.args.st.now.sweep (g.B.MatchBook.held c.args.st.now.book) in
    let variable = variable_part c.args.variable c.args.number in
    let flag = flag_part c.args.flag in
    let same : c.args.s.now ≡ sizes_of x = sizes_same (came_of (data_in k) c.args.number) c.args.s.now x c.requires.came is in
    let writes = came_writes x variable flag c.args.status in
    late_traps c.came_faults.result (came_faults areas x writes) (writing (ending c.args.number (data_in k)) writes) c.in-Some.cause k
    (sym c.in-Some.is ∙ c.cause.ensures)
    (c.came_faults.ensures x variable flag same c.requires.variable_open c.has_flag.ensures)

pub returns-clause-does : goal.returns-clause-does
returns-clause-does g c x is =
    let areas = areas_of (g.M.Mem.rank_of c.args.m.now) (g.M.Mem.top_of c.args.m.now) (g.M.Mem.bytes_of c.args.m.now) in
    let k = kept c.args.st.now.own c.args.st.now.sweep (g.B.MatchBook.held c.args.st.now.book) in
    let new = kept c.take-body.new.st.own c.take-body.new.st.sweep (g.B.MatchBook.held c.take-body.new.st.book) in
    let variable = variable_part c.args.variable c.args.number in
    let flag = flag_part c.args.flag in
    let same : c.args.s.now ≡ sizes_of x = sizes_same (came_of (data_in k) c.args.number) c.args.s.now x c.requires.came is in
    let writes = came_writes x variable flag c.args.status in
    let took : Took x (ending c.args.number (data_in k)) k c.take-body.result new =
    when_some (λ y. Took y (ending c.args.number (data_in k)) k c.take-body.result new) (came_of (data_in k) c.args.number) x is c.take-body.ensures in
    late_does c.came_faults.result (came_faults areas x writes) (writing (ending c.args.number (data_in k)) writes) c.writing.result k new
    (sym c.in_default.is ∙ c.cause.ensures)
    (c.came_faults.ensures x variable flag same c.requires.variable_open c.has_flag.ensures)
    (took_given k new c.args.number x c.take-body.result c.writing.result c.in_ok-writes.writes writes took c.writing.ensures
    (writes_are c.args.s.now x c.take-body.result variable flag c.in_ok-writes.writes c.args.status same took.body_is c.in_ok-writes.ensures))
