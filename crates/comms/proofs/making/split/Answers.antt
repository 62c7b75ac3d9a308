use Rattle.std.proofs.Common.{rules, ◌<◌, All, length, pos, sym, subst, ap, ◌∙◌, List, arith}
use Rattle.std.specs.Prelude.{get_or}
use Rattle.std.proofs.Common.{to_z, of_z}
use Rattle.std.specs.Int.{w32}
use Rattle.std.specs.Int.RustNames.{FitsSigned}
use Rattle.std.proofs.lemmas.Int.{to_z-of_z}
use Rattle.mpi_types.specs.declared.group.SplitArg.{SplitArg}
use Rattle.comms.proofs.OrderLemmas.{members_within, split_result}
use Rattle.comms.proofs.making.split.Goals as goal

pub ranks_of-requires : goal.ranks_of-requires
ranks_of-requires c =
    let P : List SplitArg → Type 0 = λ xs. All (λ a. a.member < length c.args.g.now.members) xs in
    subst P (sym (c.deref.ensures.value ∙ c.in_ok-chosen.ensures)) (members_within c.args.g.now c.args.list.now _ c.requires.each_member)

pub returns-clause-made : goal.returns-clause-made
returns-clause-made c =
    let d : SplitArg = record { member = 0; colour = pos 0; key = pos 0 } in
    let own : SplitArg = get_or c.args.list.now c.from.result d in
    let fits : FitsSigned w32 own.colour = search rules in
    split_result c.args.g.now c.args.position c.args.list.now c.args.me c.from.result d (to_z w32 (of_z w32 own.colour))
    c.in_ok-ctx.ctx c.from_vec.result c.deref.result.now (omega (arith, c.requires.each_member.one_each)) c.from.ensures
    (to_z-of_z w32 own.colour fits) (λ e. c.if-colour.false (ap (of_z w32) (sym (to_z-of_z w32 own.colour fits) ∙ e)))
    c.in_ok-ctx.ensures (c.from_vec.ensures ∙ c.in_ok-members.ensures) (c.deref.ensures.value ∙ c.in_ok-chosen.ensures)
