use Rattle.std.proofs.Common.{arith, refl}
use Rattle.ampi.proofs.AnswerLemmas.{surely-ends}
use Rattle.ampi.proofs.sure.ampi_surely.Goals as goal

pub returns-clause-complete : goal.returns-clause-complete
returns-clause-complete c = λ asked program accepted.
    surely-ends c.ampi.result ((c.ampi.ensures.complete (λ rose. absurd (omega arith))).run _ asked program refl accepted)
    c.ampi.ensures.write_fault
