use Rattle.c_typing.proofs.TableLaws.{tables_ascend, first_is_least}
use Rattle.c_typing.proofs.laws.tables_give_the_least_rule.Goals as goal

pub returns : goal.returns
returns c = record { ascend = tables_ascend; least = first_is_least }
