use Rattle.std.proofs.Common.{◌≡◌, ◌∙◌, ap, sym, Some}
use Rattle.rank_range.specs.Areas.{areas_of}
use Rattle.mpi_call.specs.Answers.{kept}
use Rattle.mpi_call.proofs.GatherLemmas.{gathered_does, room_made, may_gather}
use Rattle.mpi_call.proofs.shares.gathered.Goals as goal

pub settle-requires : goal.settle-requires
settle-requires g c some =
    let list = c.as_slice.result.now in
    let all : c.in-Some.joined.gathered ≡ Some list = c.in-Some-gathered.is ∙ ap Some (sym c.as_slice.ensures) in
    let may = may_gather c.args.args.now.kind c.args.st.now.own c.args.args.now.comm c.args.st.now.sweep.joined c.in-Some.joined list c.in-Some.is all c.requires in
    room_made (areas_of (g.M.Mem.rank_of c.args.m.now) (g.M.Mem.top_of c.args.m.now) (g.M.Mem.bytes_of c.args.m.now)) c.args.args.now c.in-Ok.taken.bytes c.args.st.now.own c.in-Some.joined list c.in-Ok.taken.made may c.in-Ok.ensures.ok c.in-Ok.ensures.made some

pub returns-in-Ok-settle-clause-does : goal.returns-in-Ok-settle-clause-does
returns-in-Ok-settle-clause-does g c =
    let list = c.as_slice.result.now in
    let all : c.in-Some.joined.gathered ≡ Some list = c.in-Some-gathered.is ∙ ap Some (sym c.as_slice.ensures) in
    let k = kept c.args.st.now.own c.args.st.now.sweep (g.B.MatchBook.held c.args.st.now.book) in
    let new = kept c.settle.new.st.own c.settle.new.st.sweep (g.B.MatchBook.held c.settle.new.st.book) in
    gathered_does (areas_of (g.M.Mem.rank_of c.args.m.now) (g.M.Mem.top_of c.args.m.now) (g.M.Mem.bytes_of c.args.m.now)) c.args.args.now c.in-Ok.taken.bytes c.in-Some.joined list c.in-Ok.taken.made k new c.in-Ok-settle.done c.in-Some.is all
    c.in-Ok.ensures.ok c.in-Ok.ensures.made c.in-Ok-settle.ensures
