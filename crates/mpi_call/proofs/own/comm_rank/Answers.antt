use Rattle.std.proofs.Common.{◌∙◌, pos, ap, sym, refl, [], ◌∷◌}
use Rattle.rank_range.specs.Areas.{areas_of}
use Rattle.mpi_rules.specs.declared.arguments.CommFacts.{CommFacts}
use Rattle.mpi_rules.specs.Data.{comm_facts}
use Rattle.mpi_rules.specs.Own.{rank_reply, comm_faults}
use Rattle.mpi_rules.specs.Places.{int_write}
use Rattle.mpi_rules.specs.Reply.{answered, writing}
use Rattle.mpi_call.specs.Answers.{kept, data_in}
use Rattle.mpi_call.proofs.DoesLemmas.{told_is, checked_traps, checked_does}
use Rattle.mpi_call.proofs.own.comm_rank.Goals as goal

pub returns-in-Some : goal.returns-in-Some
unfolding rank_reply
returns-in-Some g c =
    let areas = areas_of (g.M.Mem.rank_of c.args.m.now) (g.M.Mem.top_of c.args.m.now) (g.M.Mem.bytes_of c.args.m.now) in
    let k = kept c.args.st.now.own c.args.st.now.sweep (g.B.MatchBook.held c.args.st.now.book) in
    checked_traps c.comm_faults.result (comm_faults (data_in k) (comm_facts areas.rank c.args.st.now.own c.args.comm.now)) (answered areas (writing (data_in k) (int_write c.args.to (pos (comm_facts areas.rank c.args.st.now.own c.args.comm.now).member) ∷ []))) c.in-Some.cause k
    (sym c.in-Some.is ∙ c.cause.ensures)
    (c.comm_faults.ensures k refl ∙ ap (λ (f : CommFacts). comm_faults (data_in k) f) c.facts_at-facts.ensures.value)

pub returns-in-None : goal.returns-in-None
unfolding rank_reply
returns-in-None g c =
    let areas = areas_of (g.M.Mem.rank_of c.args.m.now) (g.M.Mem.top_of c.args.m.now) (g.M.Mem.bytes_of c.args.m.now) in
    let k = kept c.args.st.now.own c.args.st.now.sweep (g.B.MatchBook.held c.args.st.now.book) in
    checked_does c.comm_faults.result (comm_faults (data_in k) (comm_facts areas.rank c.args.st.now.own c.args.comm.now)) (answered areas (writing (data_in k) (int_write c.args.to (pos (comm_facts areas.rank c.args.st.now.own c.args.comm.now).member) ∷ []))) k c.told.result k
    (sym c.in-None.is ∙ c.cause.ensures)
    (c.comm_faults.ensures k refl ∙ ap (λ (f : CommFacts). comm_faults (data_in k) f) c.facts_at-facts.ensures.value)
    (told_is areas k c.args.to (pos c.facts_at-facts.result.member) (pos (comm_facts areas.rank c.args.st.now.own c.args.comm.now).member) c.told.result
    (ap (λ (f : CommFacts). pos f.member) c.facts_at-facts.ensures.value) (c.told.ensures.does k))
