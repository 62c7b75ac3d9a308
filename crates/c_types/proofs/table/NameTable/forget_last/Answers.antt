use Rattle.c_types.proofs.TableLaws.{table_less, names_less}
use Rattle.c_types.proofs.table.NameTable.forget_last.Goals as goal

pub invariant_of-self : goal.invariant_of-self
invariant_of-self c =
    table_less _ _ c.in-Some.last c.self.inside.places.entries _ c.in-Some.ensures.items c.self.invariant c.restore.ensures

pub returns-in-Some : goal.returns-in-Some
returns-in-Some c = names_less _ _ c.in-Some.last _ c.in-Some.ensures.items c.self.view_is
