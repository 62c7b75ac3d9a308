use Rattle.std.proofs.Common.{◌∙◌, sym, refl}
use Rattle.mpi_rules.specs.Messages.{group_of}
use Rattle.mpi_call.proofs.GatherLemmas.{none_made}
use Rattle.mpi_call.proofs.shares.made_by.Goals as goal

pub returns-then-not-makes : goal.returns-then-not-makes
returns-then-not-makes c =
    sym (none_made c.args.kind c.args.joined.now.arg.colour (group_of c.args.own.now c.args.comm.now) c.args.joined.now.position c.args.joined.now.arg
    c.args.list.now (sym c.makes.ensures ∙ c.if-not-makes.true) refl c.requires.own_there c.requires.may.member)
