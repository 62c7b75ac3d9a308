use Rattle.std.proofs.Common.{rules}
use Rattle.byte_formats.proofs.ListLemmas.{none_spelled, front_spells_none, whole_spells}
use Rattle.byte_formats.proofs.spelling.unspell.Goals as goal

pub returns-in-Err-clause-none : goal.returns-in-Err-clause-none
returns-in-Err-clause-none g c =
    λ bad x s. none_spelled g.S.Spelling.format c.args.bytes.now x g.met.S.Spelling.is_format (c.in-Err.ensures.bad (cc bad)) s

pub returns-then-is_empty-clause-spelled : goal.returns-then-is_empty-clause-spelled
returns-then-is_empty-clause-spelled g c =
    whole_spells g.S.Spelling.format c.args.bytes.now c.take.new.cursor.rest.now _ g.met.S.Spelling.is_format
    (λ i. (let h = c.type_inv.bytes i in search rules)) c.in-Ok.ensures.ok c.if-is_empty.ensures

pub returns-clause-none : goal.returns-clause-none
returns-clause-none g c =
    λ bad x s. front_spells_none g.S.Spelling.format c.args.bytes.now c.take.new.cursor.rest.now _ x g.met.S.Spelling.is_format
    c.in-Ok.ensures.ok c.if-is_empty.ensures s
