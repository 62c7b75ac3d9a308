use Rattle.std.proofs.Common.{◌≤◌, subst, sym}
use Rattle.mpi_rules.specs.declared.arguments.CommFacts.{CommFacts}
use Rattle.mpi_call.specs.Lawful.{most_ranks}
use Rattle.mpi_call.proofs.SizeLemmas.{facts_sized}
use Rattle.mpi_call.proofs.state.facts_at.Goals as goal

pub returns-clause-members : goal.returns-clause-members
returns-clause-members g c =
    subst (λ (f : CommFacts). f.members ≤ most_ranks) (sym c.comm_facts.ensures) (facts_sized c.rank.result.0 c.args.own.now c.args.number.now c.requires).0

pub returns-clause-member : goal.returns-clause-member
returns-clause-member g c =
    subst (λ (f : CommFacts). f.member ≤ most_ranks) (sym c.comm_facts.ensures) (facts_sized c.rank.result.0 c.args.own.now c.args.number.now c.requires).1
