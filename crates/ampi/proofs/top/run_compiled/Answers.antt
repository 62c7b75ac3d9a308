use Rattle.std.proofs.Common.{sym, ◌∙◌, inr, refl}
use Rattle.ampi.proofs.AnswerLemmas.{asks-files, told-source, calls, calls-none}
use Rattle.ampi.proofs.top.run_compiled.Goals as goal

pub run_job-requires-clause-job : goal.run_job-requires-clause-job
run_job-requires-clause-job g c = record {
  is_segment = c.requires.segment;
  is_made = c.requires.made;
  no_mpi = calls-none c.args.compiled.now.code (sym c.calls_mpi.ensures ∙ c.if-calls_mpi.false);
}

pub returns-then-calls_mpi-clause-answers : goal.returns-then-calls_mpi-clause-answers
returns-then-calls_mpi-clause-answers g c = λ words r texts asked loaded is.
    c.refuse_source.ensures.told words r _
    (told-source words r.held c.args.names.now texts _ (asks-files words c.args.command.now c.args.names.now asked c.requires.named) loaded
    (inr (record {
      asks = (asked.asked, asked.asks, sym (c.requires.named ∙ asked.files));
      calls = record { compiled = c.args.compiled.now; is_compiled = is; calls = calls c.args.compiled.now.code (sym c.calls_mpi.ensures ∙ c.if-calls_mpi.true) };
      refusal_is = refl;
    })))

pub returns-clause-answers : goal.returns-clause-answers
returns-clause-answers g c = λ words r texts asked loaded is.
    c.run_job.ensures.answers words r texts asked loaded
    (record { is_compiled = is; without_mpi = calls-none c.args.compiled.now.code (sym c.calls_mpi.ensures ∙ c.if-calls_mpi.false) })
