use Rattle.std.proofs.Common.{arith, ◌<◌, length, ap, ◌∙◌, Err}
use Rattle.ampi.specs.Sources.{source_limit}
use Rattle.ampi.proofs.AnswerLemmas.{told-too-long, told-cannot-read}
use Rattle.ampi.proofs.loading.load_file.Goals as goal

pub returns-in-Ok-clause-told : goal.returns-in-Ok-clause-told
returns-in-Ok-clause-told g c = λ words journal names asks reached.
    let past : source_limit < length c.in-Ok.text.items = omega arith in
    c.refuse_file.ensures.told words _ journal
    (told-too-long words _ names c.args.file c.args.name.now c.in-Ok.text.items asks reached c.in-Ok.ensures.bytes c.in-Ok.ensures.within past)

pub returns-in-Err-Failed-clause-told : goal.returns-in-Err-Failed-clause-told
returns-in-Err-Failed-clause-told g c = λ words journal names asks reached.
    c.refuse_file-in-Err-Failed.ensures.told words _ journal
    (told-cannot-read words _ _ _ names c.args.file c.args.name.now asks reached
    (c.load.ensures.failed (c.in-Err-Failed.is ∙ ap Err c.in-Err-Failed.field-0-is)))
