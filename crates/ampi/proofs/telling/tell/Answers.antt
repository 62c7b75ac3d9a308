use Rattle.std.proofs.Common.{[], ap, Err, inl}
use Rattle.ampi.proofs.AnswerLemmas.{told-whole, part-of-told}
use Rattle.ampi.proofs.PutLemmas.{appends-none, appends-one, kept-none, part-out}
use Rattle.ampi.proofs.telling.tell.Goals as goal

pub returns-in-Ok-clause-told : goal.returns-in-Ok-clause-told
returns-in-Ok-clause-told g c = λ words r journal explains.
    told-whole words r _ c.args.status _ explains
    (record { out_got = appends-one _ _ c.args.text.now c.in-Ok.ensures.ok; journal_got = appends-none journal })

pub returns-in-Err-Failed-clause-told : goal.returns-in-Err-Failed-clause-told
returns-in-Err-Failed-clause-told g c = λ words r journal explains.
    part-of-told words r _ c.args.status _ explains
    (part-out [] c.args.text.now [] _ _ _ journal journal (appends-none _) (appends-none journal) (c.in-Err-Failed.ensures.failed (ap Err c.in-Err-Failed.field-0-is)).0)

pub returns-in-Err-Memory-clause-told : goal.returns-in-Err-Memory-clause-told
returns-in-Err-Memory-clause-told g c = λ words r journal explains.
    inl (record { out_got = kept-none _ _ (c.in-Err-Memory.ensures.memory (ap Err c.in-Err-Memory.field-0-is)).0; journal_got = appends-none journal })
