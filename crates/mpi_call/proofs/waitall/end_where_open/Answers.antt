use Rattle.std.proofs.Common.{rules, ◌<◌, ◌^◌, ◌∙◌, sym, subst, ℕ, arith}
use Rattle.rank_range.specs.Areas.{areas_of}
use Rattle.mpi_rules.specs.Requests.{all_came}
use Rattle.mpi_call.specs.Answers.{kept, data_in}
use Rattle.mpi_call.proofs.ArrayLemmas.{there_came, came_length}
use Rattle.mpi_call.proofs.WaitLemmas.{faults_same, all_trap, all_do, statuses_fit, variables_fit}
use Rattle.mpi_call.proofs.waitall.end_where_open.Goals as goal

pub all_faults-requires : goal.all_faults-requires
all_faults-requires g c =
    let few = c.requires.few in
    let same = c.requires.sizes in
    omega (arith, few, same)

pub returns-in-Some-clause-does : goal.returns-in-Some-clause-does
returns-in-Some-clause-does g c =
    let k = (kept c.args.st.now.own c.args.st.now.sweep (g.B.MatchBook.held c.args.st.now.book)) in
    let there = there_came (all_came (data_in k) c.args.numbers.now) c.args.all.now c.requires.came in
    all_trap (areas_of (g.M.Mem.rank_of c.args.m.now) (g.M.Mem.top_of c.args.m.now) (g.M.Mem.bytes_of c.args.m.now)) c.all_faults.result c.args.all.now there.0 c.args.numbers.now c.args.requests c.args.status c.in-Some.cause k there.1
    (sym c.in-Some.is ∙ c.cause.ensures)
    (c.all_faults.ensures
    ∙ faults_same (g.M.Mem.rank_of c.args.m.now) (g.M.Mem.top_of c.args.m.now) (g.M.Mem.bytes_of c.args.m.now) c.args.all.now there.0 c.args.numbers.now
    c.args.requests c.args.status c.rank-rank.ensures.range there.2 (came_length (data_in k) c.args.numbers.now there.0 there.1) c.requires.reached)

pub end_all-requires-clause-variables : goal.end_all-requires-clause-variables
end_all-requires-clause-variables g c =
    let small : c.rank-rank.result.0 < 2 ^ 16 = search rules in
    let word : c.args.requests < 2 ^ 64 = search rules in
    variables_fit (g.M.Mem.rank_of c.args.m.now) (g.M.Mem.top_of c.args.m.now) c.args.requests _ (g.M.Mem.bytes_of c.args.m.now)
    (subst (λ (n : ℕ). n < 2 ^ 16) c.rank-rank.ensures.value small) c.rank-rank.ensures.range word c.requires.reached

pub end_all-requires-clause-statuses : goal.end_all-requires-clause-statuses
end_all-requires-clause-statuses g c some =
    let small : c.rank-rank.result.0 < 2 ^ 16 = search rules in
    let word : c.args.status < 2 ^ 64 = search rules in
    statuses_fit (g.M.Mem.rank_of c.args.m.now) (g.M.Mem.top_of c.args.m.now) c.args.status _ (g.M.Mem.bytes_of c.args.m.now) c.args.all.now c.all_faults.result
    (subst (λ (n : ℕ). n < 2 ^ 16) c.rank-rank.ensures.value small) c.rank-rank.ensures.range word (sym c.in_default.is ∙ c.cause.ensures) c.all_faults.ensures
    c.requires.sizes some

pub returns-clause-does : goal.returns-clause-does
returns-clause-does g c =
    let k = (kept c.args.st.now.own c.args.st.now.sweep (g.B.MatchBook.held c.args.st.now.book)) in
    let new = kept c.end_all.new.st.own c.end_all.new.st.sweep (g.B.MatchBook.held c.end_all.new.st.book) in
    let there = there_came (all_came (data_in k) c.args.numbers.now) c.args.all.now c.requires.came in
    all_do (areas_of (g.M.Mem.rank_of c.args.m.now) (g.M.Mem.top_of c.args.m.now) (g.M.Mem.bytes_of c.args.m.now)) c.all_faults.result there.0 c.args.numbers.now c.args.requests c.args.status c.writing.result k new c.in-Ok.writes there.1
    (sym c.in_default.is ∙ c.cause.ensures)
    (c.all_faults.ensures
    ∙ faults_same (g.M.Mem.rank_of c.args.m.now) (g.M.Mem.top_of c.args.m.now) (g.M.Mem.bytes_of c.args.m.now) c.args.all.now there.0 c.args.numbers.now
    c.args.requests c.args.status c.rank-rank.ensures.range there.2 (came_length (data_in k) c.args.numbers.now there.0 there.1) c.requires.reached)
    (c.in-Ok.ensures there.0 there.1) c.writing.ensures
