use Rattle.std.proofs.lemmas.List.{drop_more}
use Rattle.rank_machine.proofs.CallLemmas.{stored_none, stored_more, stored_words}
use Rattle.rank_machine.proofs.calls.put_arguments.Goals as goal

pub loop-i-init : goal.loop-i-init
loop-i-init g c = stored_none _ _ _ _ _ _ _

pub loop-i-preserved : goal.loop-i-preserved
loop-i-preserved g c =
    stored_more _ _ _ _ _ _ _ _ _ _ _ _ c.args.parameters.now c.args.words.now c.args.start c.loop-i.i _ _
    (drop_more _ _ _ c.loop-i-test.true) (drop_more _ _ _ c.if-i-words.true) c.loop-i.invariant
    c.put_argument.ensures.value c.put_argument.ensures.frames c.put_argument.ensures.kept c.put_argument.ensures.stack

pub returns-else-i-words-clause-value : goal.returns-else-i-words-clause-value
returns-else-i-words-clause-value g c = stored_words _ _ _ _ _ _ _ _ _ _ _ _ c.if-i-words.false c.loop-i.invariant
