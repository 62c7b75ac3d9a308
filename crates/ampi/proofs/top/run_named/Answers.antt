use Rattle.std.proofs.Common.{inl}
use Rattle.ampi.proofs.AnswerLemmas.{asks-files, told-source}
use Rattle.ampi.proofs.top.run_named.Goals as goal

pub returns-in-Ok-clause-answers : goal.returns-in-Ok-clause-answers
returns-in-Ok-clause-answers g c = λ words r asked loaded.
    c.run_compiled.ensures.answers words r c.args.texts.now asked loaded c.in-Ok.ensures.compiled

pub returns-in-Err-Refused-clause-answers : goal.returns-in-Err-Refused-clause-answers
returns-in-Err-Refused-clause-answers g c = λ words r asked loaded.
    c.refuse_source.ensures.told words r _
    (told-source words r.held c.args.names.now c.args.texts.now c.in-Err-Refused.refusal
    (asks-files words c.args.command.now c.args.names.now asked c.requires.named) loaded
    (inl (rw c.in-Err-Refused.field-0-is at c.in-Err-Refused.ensures.refused)))
