use Rattle.std.proofs.Common.{◌≡◌, ◌+◌, ◌*◌, ◌<◌, ap, refl, arith, drop, length}
use Rattle.std.specs.Prelude.{is_some}
use Rattle.std.proofs.lemmas.List.{drop_more, drop_all}
use Rattle.mpi_rules.specs.Requests.{all_came}
use Rattle.mpi_call.specs.Answers.{kept, data_in}
use Rattle.mpi_call.specs.Arrays.{status_at}
use Rattle.mpi_call.proofs.ArrayLemmas.{there_came, sizes_all, next_at, ended_none, ended_at, ended_all, any_sizes, status_next, status_start}
use Rattle.mpi_call.proofs.EndLemmas.{request_live}
use Rattle.mpi_call.proofs.waitall.end_all.Goals as goal

pub loop-i-init : goal.loop-i-init
loop-i-init g c came is =
    let k = (kept c.args.st.now.own c.args.st.now.sweep (g.B.MatchBook.held c.args.st.now.book)) in
    let same : c.args.requests + 0 ≡ c.args.requests = omega arith in
    ended_none k c.args.numbers.now came c.args.all.now c.args.requests c.args.status (c.args.requests + 0) (status_at c.args.status 0) c.requires.apart
    c.requires.live c.requires.once is (sizes_all (all_came (data_in k) c.args.numbers.now) c.args.all.now came c.requires.came is) same
    (status_start c.args.status) c.new-writes.result c.new-writes.ensures

pub end_one-requires-clause-live : goal.end_one-requires-clause-live
end_one-requires-clause-live g c some =
    let k = (kept c.args.st.now.own c.args.st.now.sweep (g.B.MatchBook.held c.args.st.now.book)) in
    let there = there_came (all_came (data_in k) c.args.numbers.now) c.args.all.now c.requires.came in
    let e = c.loop-i.invariant there.0 there.1 in
    request_live (data_in (kept c.loop-i.st.own c.loop-i.st.sweep (g.B.MatchBook.held c.loop-i.st.book))) _ _ refl some
    (next_at k (kept c.loop-i.st.own c.loop-i.st.sweep (g.B.MatchBook.held c.loop-i.st.book)) c.args.numbers.now c.args.all.now there.0 c.loop-i.i _ any_sizes c.args.requests c.args.status (c.args.requests + 4 * c.loop-i.i) (status_at c.args.status c.loop-i.i) c.loop-i.writes c.loop-i-test.true c.requires.sizes e).live

pub end_one-requires-clause-apart : goal.end_one-requires-clause-apart
end_one-requires-clause-apart g c =
    let k = (kept c.args.st.now.own c.args.st.now.sweep (g.B.MatchBook.held c.args.st.now.book)) in
    let there = there_came (all_came (data_in k) c.args.numbers.now) c.args.all.now c.requires.came in
    let e = c.loop-i.invariant there.0 there.1 in
    e.apart

pub end_one-requires-clause-done : goal.end_one-requires-clause-done
end_one-requires-clause-done g c =
    let k = (kept c.args.st.now.own c.args.st.now.sweep (g.B.MatchBook.held c.args.st.now.book)) in
    let there = there_came (all_came (data_in k) c.args.numbers.now) c.args.all.now c.requires.came in
    let e = c.loop-i.invariant there.0 there.1 in
    ap is_some (next_at k (kept c.loop-i.st.own c.loop-i.st.sweep (g.B.MatchBook.held c.loop-i.st.book)) c.args.numbers.now c.args.all.now there.0 c.loop-i.i _ any_sizes c.args.requests c.args.status (c.args.requests + 4 * c.loop-i.i) (status_at c.args.status c.loop-i.i) c.loop-i.writes c.loop-i-test.true c.requires.sizes e).came_is

pub loop-i-preserved : goal.loop-i-preserved
loop-i-preserved g c came is =
    let k = (kept c.args.st.now.own c.args.st.now.sweep (g.B.MatchBook.held c.args.st.now.book)) in
    let mid = (kept c.loop-i.st.own c.loop-i.st.sweep (g.B.MatchBook.held c.loop-i.st.book)) in
    let new = kept c.end_one.new.st.own c.end_one.new.st.sweep (g.B.MatchBook.held c.end_one.new.st.book) in
    let i = c.loop-i.i in
    let inside : i < length c.args.all.now = (let below = c.loop-i-test.true in let same = c.requires.sizes in omega (arith, below, same)) in
    let step : c.args.requests + 4 * (i + 1) ≡ c.args.requests + 4 * i + 4 = omega arith in
    ended_at k mid new c.args.numbers.now (drop i c.args.numbers.now) (drop (i + 1) c.args.numbers.now) _ came (drop i c.args.all.now) (drop (i + 1) c.args.all.now) _
    c.args.requests c.args.status (c.args.requests + 4 * i) (status_at c.args.status i) c.status_place.result (c.args.requests + 4 * (i + 1)) (status_at c.args.status (i + 1))
    c.loop-i.writes c.end_one.new.writes (drop_more _ _ _ c.loop-i-test.true)
    (drop_more _ _ _ inside) step (status_next c.args.status i) c.status_place.ensures
    (c.loop-i.invariant came is) c.in_ok-end_one.ensures

pub returns : goal.returns
returns g c came is =
    ended_all _ _ c.args.numbers.now (drop c.loop-i.i c.args.numbers.now) came _ _ _ _ _ _ (drop_all c.loop-i.i c.args.numbers.now c.loop-i-test.false) (c.loop-i.invariant came is)
