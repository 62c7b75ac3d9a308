use Rattle.c_types.proofs.TableLaws.{table_none}
use Rattle.c_types.proofs.table.NameTable.new.Goals as goal

pub invariant_of-result : goal.invariant_of-result
invariant_of-result c = table_none _ _ c.new.ensures.items c.new-2.ensures.empty
