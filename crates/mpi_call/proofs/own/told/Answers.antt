use Rattle.std.proofs.Common.{◌∙◌, pos, refl, [], ◌∷◌}
use Rattle.rank_range.specs.Areas.{areas_of}
use Rattle.mpi_rules.specs.Places.{int_write}
use Rattle.mpi_rules.specs.Reply.{writing}
use Rattle.mpi_call.specs.Answers.{data_in}
use Rattle.mpi_call.proofs.DoesLemmas.{answered_traps, answered_does, one_open, writing_given}
use Rattle.mpi_call.proofs.own.told.Goals as goal

pub returns-then-not-is_open-clause-does : goal.returns-then-not-is_open-clause-does
returns-then-not-is_open-clause-does g c k =
    let areas = areas_of (g.M.Mem.rank_of c.args.m.now) (g.M.Mem.top_of c.args.m.now) (g.M.Mem.bytes_of c.args.m.now) in
    let w = int_write c.args.to (pos c.args.number) in
    answered_traps areas (writing (data_in k) (w ∷ [])) k
    (one_open areas w 4 c.is_open.result refl c.is_open.ensures.value ∙ c.if-not-is_open.true)

pub returns-clause-does : goal.returns-clause-does
returns-clause-does g c k =
    let areas = areas_of (g.M.Mem.rank_of c.args.m.now) (g.M.Mem.top_of c.args.m.now) (g.M.Mem.bytes_of c.args.m.now) in
    let w = int_write c.args.to (pos c.args.number) in
    answered_does areas (writing (data_in k) (w ∷ [])) c.writing.result k k
    (one_open areas w 4 c.is_open.result refl c.is_open.ensures.value ∙ c.if-not-is_open.false)
    (writing_given k c.writing.result c.in_ok-number_write.field-0 (w ∷ []) c.writing.ensures c.in_ok-number_write.ensures)
