use Rattle.std.proofs.Common.{sym, ◌∙◌}
use Rattle.c_grammar.specs.Nests.{most, state_of}
use Rattle.c_phrases.proofs.StmtSteps.{items_on}
use Rattle.c_parser.proofs.statements.Statements.items.Goals as goal

pub items-preserved : goal.items-preserved
items-preserved g c =
    items_on c.items.cursor.total c.item.new.cursor.total c.args.cursor.now.total most c.args.self.now.room
    c.items.count c.items.all c.push.new.self (state_of c.items.cursor) (state_of c.item.new.cursor)
    c.in_ok-one.one _ c.items-test.true (sym c.sees_mark.ensures ∙ c.if-sees_mark.false) c.in_ok-one.ensures.reads c.in_ok-one.ensures.total
    c.in_ok-push.ensures.ok c.items.invariant
