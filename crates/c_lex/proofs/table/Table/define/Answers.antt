use Rattle.c_lex.proofs.TableLaws.{name_added}
use Rattle.c_lex.proofs.table.Table.define.Goals as goal

pub returns-in_default-clause-names : goal.returns-in_default-clause-names
returns-in_default-clause-names c =
    name_added c.args.self.now.names.keys c.insert.new.self.keys c.args.name c.requires c.in_default.ensures.keys
