use Rattle.std.proofs.Common.{◌≡◌, ◌<◌, ◌∙◌, true, length, ap, sym, arith, None}
use Rattle.rank_range.specs.Areas.{areas_of}
use Rattle.mpi_types.specs.declared.argument.Arg.{Arg}
use Rattle.mpi_types.specs.declared.group.Group.{Group}
use Rattle.mpi_rules.specs.declared.arguments.CommFacts.{CommFacts}
use Rattle.mpi_rules.specs.Collectives.{join_faults}
use Rattle.mpi_rules.specs.Data.{comm_facts}
use Rattle.mpi_rules.specs.Faults.{cause_of}
use Rattle.mpi_rules.specs.Messages.{group_of}
use Rattle.mpi_call.specs.Answers.{kept, data_in}
use Rattle.mpi_call.proofs.DoesLemmas.{no_comm, not_false}
use Rattle.mpi_call.proofs.JoinLemmas.{group_sized, member_of}
use Rattle.mpi_call.proofs.joins.join.Goals as goal

pub begin-requires-clause-room : goal.begin-requires-clause-room
begin-requires-clause-room g c =
    omega (arith, group_sized c.args.st.now.own c.args.args.now.comm c.requires.sized, ap (λ (x : Group). length x.members) c.in-Ok.ensures)

pub begin-requires-clause-member : goal.begin-requires-clause-member
unfolding areas_of
begin-requires-clause-member g c =
    let rank = g.M.Mem.rank_of c.args.m.now in
    let own = c.args.st.now.own in
    let comm = c.args.args.now.comm in
    let areas = areas_of rank (g.M.Mem.top_of c.args.m.now) (g.M.Mem.bytes_of c.args.m.now) in
    let k = kept own c.args.st.now.sweep (g.B.MatchBook.held c.args.st.now.book) in
    let facts : c.facts_at-facts.result ≡ comm_facts rank own comm = c.facts_at-facts.ensures.value in
    let none : None ≡ cause_of (join_faults areas (data_in k) c.facts_at-facts.result c.args.args.now) =
    sym c.in_default.is ∙ (c.cause.ensures ∙ ap cause_of c.join_faults.ensures) in
    let known : c.facts_at-facts.result.known ≡ true =
    not_false c.facts_at-facts.result.known (no_comm (join_faults areas (data_in k) c.facts_at-facts.result c.args.args.now) none) in
    let below : (comm_facts rank own comm).member < length (group_of own comm).members =
    member_of rank own comm c.requires.may (sym (ap (λ (f : CommFacts). f.known) facts) ∙ known) in
    omega (arith, below, ap (λ (f : CommFacts). f.member) facts, ap (λ (a : Arg). a.member) c.in_ok-arg.ensures, ap (λ (x : Group). length x.members) c.in-Ok.ensures)
