use Rattle.std.proofs.Common.{◌∙◌, ℕ, ap, sym}
use Rattle.rank_range.specs.Areas.{areas_of}
use Rattle.mpi_rules.specs.Places.{is_open}
use Rattle.mpi_call.proofs.GatherLemmas.{lacks_fit, lacks_room, lacks_place}
use Rattle.mpi_call.proofs.shares.open_share.Goals as goal

pub returns-in_default-clause-err : goal.returns-in_default-clause-err
returns-in_default-clause-err g c =
    lacks_fit (areas_of (g.M.Mem.rank_of c.args.m.now) (g.M.Mem.top_of c.args.m.now) (g.M.Mem.bytes_of c.args.m.now)) c.args.args.now c.args.own.now c.args.list.now c.in-Ok.share c.in-Ok.ensures c.in_default.is

pub returns-then-not-is_open-clause-err : goal.returns-then-not-is_open-clause-err
returns-then-not-is_open-clause-err g c =
    lacks_room (areas_of (g.M.Mem.rank_of c.args.m.now) (g.M.Mem.top_of c.args.m.now) (g.M.Mem.bytes_of c.args.m.now)) c.args.args.now c.args.own.now c.args.list.now c.in-Ok.share c.in-Some.bytes c.in-Ok.ensures c.in-Some.is
    (ap (λ (n : ℕ). is_open (areas_of (g.M.Mem.rank_of c.args.m.now) (g.M.Mem.top_of c.args.m.now) (g.M.Mem.bytes_of c.args.m.now)) c.args.args.now.received.address n) (sym c.len.ensures) ∙ sym c.is_open.ensures.value ∙ c.if-not-is_open.true)

pub returns-then-not-has_place-clause-err : goal.returns-then-not-has_place-clause-err
returns-then-not-has_place-clause-err g c =
    lacks_place (areas_of (g.M.Mem.rank_of c.args.m.now) (g.M.Mem.top_of c.args.m.now) (g.M.Mem.bytes_of c.args.m.now)) c.args.args.now c.args.own.now c.args.list.now c.in-Ok.share c.in-Some.bytes c.in-Ok.ensures c.in-Some.is
    (sym c.has_place.ensures ∙ c.if-not-has_place.true)
