use Rattle.std.proofs.Common.{inl}
use Rattle.ampi.proofs.AnswerLemmas.{only-memory}
use Rattle.ampi.proofs.PutLemmas.{appends-none}
use Rattle.ampi.proofs.loading.load_next.Goals as goal

pub returns-in-Ok-clause-told : goal.returns-in-Ok-clause-told
returns-in-Ok-clause-told g c =
    only-memory c.append.result _ c.append.ensures.memory (λ words journal names asks reached.
    rw c.in-Ok.ensures.quiet (inl (record { out_got = appends-none _; journal_got = appends-none journal })))
