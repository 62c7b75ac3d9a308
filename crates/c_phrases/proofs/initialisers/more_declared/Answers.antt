use Rattle.c_grammar.specs.Nests.{most, state_of}
use Rattle.c_phrases.proofs.StmtSteps.{declared_on}
use Rattle.c_phrases.proofs.initialisers.more_declared.Goals as goal

pub declared-preserved : goal.declared-preserved
declared-preserved c =
    declared_on c.declared.cursor.total c.skip.new.self.total c.init_declarator.new.cursor.total c.args.cursor.now.total most c.args.room c.args.is_typedef
    c.declared.count c.declared.declared c.push.new.self (state_of c.declared.cursor) (state_of c.skip.new.self) (state_of c.init_declarator.new.cursor)
    _ _ c.declared-test.true (let e = c.if-not-sees_mark.ensures in cc) c.skip.ensures.total c.skip.ensures.behind c.in_ok-one.ensures.reads c.in_ok-one.ensures.total c.in_ok-push.ensures.ok c.declared.invariant
