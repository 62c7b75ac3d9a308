use Rattle.std.proofs.Common.{ap, ◌∙◌, Err}
use Rattle.ampi.proofs.AnswerLemmas.{few-files, few-asked, bounded-asked, told-usage, usage-comes, comes, nothing-comes}
use Rattle.ampi.proofs.top.ampi.Goals as goal

pub run_files-requires-clause-some : goal.run_files-requires-clause-some
run_files-requires-clause-some g c = few-files _ _ (c.files_are_few.ensures.run _) c.in-Ok.ensures.accepted

pub run_files-requires-clause-few : goal.run_files-requires-clause-few
run_files-requires-clause-few g c = few-asked _ _ c.in-Ok.ensures.accepted

pub run_files-requires-clause-bounded : goal.run_files-requires-clause-bounded
run_files-requires-clause-bounded g c = bounded-asked _ _ c.in-Ok.ensures.accepted

pub returns-in-Some-clause-answers : goal.returns-in-Some-clause-answers
returns-in-Some-clause-answers g c = c.show_code.ensures.answers _ _ c.in-Some.ensures.some

pub returns-in-Some-clause-complete : goal.returns-in-Some-clause-complete
returns-in-Some-clause-complete g c = λ no_rise.
    comes (record { apart = c.one_command.ensures.apart; one = c.one_command.ensures.one; answers = c.answers_are_one.ensures }) _ _ _ c.show_code.result
    (c.show_code.ensures.answers _ (g.J.Sink.written c.args.journal.now) c.in-Some.ensures.some) (λ file is. no_rise (c.show_code.ensures.read_fault file is))

pub returns-in-Ok-clause-usage : goal.returns-in-Ok-clause-usage
returns-in-Ok-clause-usage g c = λ usage.
    usage-comes _ _ _ c.run_files.result (c.run_files.ensures.answers _ c.in-Ok.ensures.accepted) usage

pub returns-in-Ok-clause-complete : goal.returns-in-Ok-clause-complete
returns-in-Ok-clause-complete g c = λ no_rise.
    comes (record { apart = c.one_command.ensures.apart; one = c.one_command.ensures.one; answers = c.answers_are_one.ensures }) _ _ _ c.run_files.result
    (c.run_files.ensures.answers _ c.in-Ok.ensures.accepted) (λ file is. no_rise (c.run_files.ensures.read_fault file is))

pub returns-in-Err-Bad-clause-answers : goal.returns-in-Err-Bad-clause-answers
returns-in-Err-Bad-clause-answers g c =
    c.tell.ensures.told _ _ _ (told-usage _ (record {
      no_run = c.read_words.ensures.bad (c.in-Err-Bad.is ∙ ap Err c.in-Err-Bad.field-0-is);
      no_code = c.in-None.ensures.none;
    }))

pub returns-in-Err-Bad-clause-complete : goal.returns-in-Err-Bad-clause-complete
returns-in-Err-Bad-clause-complete g c = λ no_rise.
    nothing-comes _ _ c.tell.result (record {
      no_run = c.read_words.ensures.bad (c.in-Err-Bad.is ∙ ap Err c.in-Err-Bad.field-0-is);
      no_code = c.in-None.ensures.none;
    })
