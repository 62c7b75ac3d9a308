use Rattle.std.proofs.Common.{inr}
use Rattle.ampi.proofs.AnswerLemmas.{answers-run, part-told}
use Rattle.ampi.proofs.top.run_job.Goals as goal

pub returns-in-Ok-clause-answers : goal.returns-in-Ok-clause-answers
returns-in-Ok-clause-answers g c = λ words r texts asked loaded is.
    answers-run words r c.args.command.now c.args.names.now texts c.args.compiled.now _ c.in-Ok.end c.status_of.result c.status_of.ensures asked
    c.requires.named loaded is c.in-Ok.ensures.run

pub returns-in-Err-Failed-clause-answers : goal.returns-in-Err-Failed-clause-answers
returns-in-Err-Failed-clause-answers g c = λ words r texts asked loaded is.
    part-told words r c.args.command.now c.args.names.now texts c.args.compiled.now _ asked c.requires.named loaded is c.in-Err-Failed.ensures.part

pub returns-in-Err-Memory-clause-answers : goal.returns-in-Err-Memory-clause-answers
returns-in-Err-Memory-clause-answers g c = λ words r texts asked loaded is.
    inr (part-told words r c.args.command.now c.args.names.now texts c.args.compiled.now _ asked c.requires.named loaded is c.in-Err-Memory.ensures.part)
