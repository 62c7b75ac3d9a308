use Rattle.c_lex.proofs.TableLaws.{defined_of_vecs}
use Rattle.c_lex.proofs.table.Table.is_defined.Goals as goal

pub returns : goal.returns
returns c = defined_of_vecs c.args.self.now.names.keys c.args.name.now c.contains.result c.contains.ensures
