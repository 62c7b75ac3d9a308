use Rattle.std.proofs.Common.{◌∙◌, ◌+◌, ◌-◌, arith}
use Rattle.byte_formats.proofs.ListLemmas.{one_read, none_read}
use Rattle.byte_formats.proofs.spelling.take_many.Goals as goal

pub returns-in-Err-clause-bad : goal.returns-in-Err-clause-bad
returns-in-Err-clause-bad g c =
    λ bad. c.loop-i.invariant ∙ none_read g.S.Spelling.format c.loop-i.items.items (c.args.count - c.loop-i.i) (c.args.count - (c.loop-i.i + 1))
    c.loop-i.cursor.rest.now (omega arith) (c.in-Err.ensures.bad (cc bad))

pub loop-i-preserved : goal.loop-i-preserved
loop-i-preserved g c =
    c.loop-i.invariant ∙ one_read g.S.Spelling.format c.loop-i.items.items c.push.new.self.items (c.args.count - c.loop-i.i)
    (c.args.count - (c.loop-i.i + 1)) c.loop-i.cursor.rest.now c.take.new.cursor.rest.now c.in-Ok.item (omega arith) c.in-Ok.ensures.ok
    c.in_ok-push-in-Ok.ensures.items
