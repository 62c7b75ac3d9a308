use Rattle.std.proofs.Common.{inl, inr}
use Rattle.ampi.proofs.AnswerLemmas.{told-source, told-listing}
use Rattle.ampi.proofs.top.show_named.Goals as goal

pub returns-in-Ok-clause-answers : goal.returns-in-Ok-clause-answers
returns-in-Ok-clause-answers g c = λ words r journal asks loaded.
    c.show_listing.ensures.told words r journal
    (inr (told-listing words r.held c.args.names.now c.args.texts.now c.in-Ok.compiled asks loaded c.in-Ok.ensures.compiled))

pub returns-in-Err-Refused-clause-answers : goal.returns-in-Err-Refused-clause-answers
returns-in-Err-Refused-clause-answers g c = λ words r journal asks loaded.
    c.refuse_source.ensures.told words r journal
    (told-source words r.held c.args.names.now c.args.texts.now c.in-Err-Refused.refusal (inr asks) loaded
    (inl (rw c.in-Err-Refused.field-0-is at c.in-Err-Refused.ensures.refused)))
