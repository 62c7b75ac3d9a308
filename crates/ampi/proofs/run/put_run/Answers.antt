use Rattle.ampi.proofs.PutLemmas.{on-err, said-part}
use Rattle.ampi.proofs.RunLemmas.{put-all, put-header, put-header-whole, put-journal, put-lines, put-report}
use Rattle.ampi.proofs.run.put_run.Goals as goal

pub returns-in_err-say-clause-part : goal.returns-in_err-say-clause-part
returns-in_err-say-clause-part g c =
    let part = said-part c.say.result _ _ _ _ c.in_err-say.was c.say.ensures.failed c.say.ensures.memory in
    let header = rw (c.as_slice.ensures, c.in_ok-header.ensures) at part in
    on-err _ _ (put-header _ _ _ _ _ header)

pub returns-in_err-told-clause-part : goal.returns-in_err-told-clause-part
returns-in_err-told-clause-part g c =
    let header = rw (c.as_slice.ensures, c.in_ok-header.ensures) at c.in_ok-say.ensures.ok in
    on-err _ _ (put-header-whole _ _ _ _ _ header)

pub returns-in_err-say-2-clause-part : goal.returns-in_err-say-2-clause-part
returns-in_err-say-2-clause-part g c =
    let header = rw (c.as_slice.ensures, c.in_ok-header.ensures) at c.in_ok-say.ensures.ok in
    let part = said-part c.say-2.result _ _ _ _ c.in_err-say-2.was c.say-2.ensures.failed c.say-2.ensures.memory in
    let journal = rw c.as_slice-2.ensures at part in
    on-err _ _ (put-journal _ _ c.in_ok-told.told _ _ _ _ c.in_ok-told.ensures header journal)

pub returns-in_err-say-3-clause-part : goal.returns-in_err-say-3-clause-part
returns-in_err-say-3-clause-part g c =
    let header = rw (c.as_slice.ensures, c.in_ok-header.ensures) at c.in_ok-say.ensures.ok in
    let journal = rw c.as_slice-2.ensures at c.in_ok-say-2.ensures.ok in
    let part = said-part c.say-3.result _ _ _ _ c.in_err-say-3.was c.say-3.ensures.failed c.say-3.ensures.memory in
    let lines = rw c.as_slice-3.ensures at part in
    on-err _ _ (put-lines _ _ c.in_ok-told.told _ _ _ _ _ c.in_ok-told.ensures header journal lines)

pub returns-in_err-say-4-clause-part : goal.returns-in_err-say-4-clause-part
returns-in_err-say-4-clause-part g c =
    let header = rw (c.as_slice.ensures, c.in_ok-header.ensures) at c.in_ok-say.ensures.ok in
    let journal = rw c.as_slice-2.ensures at c.in_ok-say-2.ensures.ok in
    let lines = rw c.as_slice-3.ensures at c.in_ok-say-3.ensures.ok in
    let part = said-part c.say-4.result _ _ _ _ c.in_err-say-4.was c.say-4.ensures.failed c.say-4.ensures.memory in
    let report = rw c.as_slice-4.ensures at part in
    on-err _ _ (put-report _ _ c.in_ok-told.told _ _ _ _ _ _ c.in_ok-told.ensures header journal lines report)

pub returns-clause-run : goal.returns-clause-run
returns-clause-run g c =
    let header = rw (c.as_slice.ensures, c.in_ok-header.ensures) at c.in_ok-say.ensures.ok in
    let journal = rw c.as_slice-2.ensures at c.in_ok-say-2.ensures.ok in
    let lines = rw c.as_slice-3.ensures at c.in_ok-say-3.ensures.ok in
    let report = rw c.as_slice-4.ensures at c.in_ok-say-4.ensures.ok in
    put-all _ _ c.in_ok-told.told _ _ _ _ _ _ c.in_ok-told.ensures header journal lines report
