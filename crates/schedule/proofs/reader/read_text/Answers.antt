use Rattle.std.proofs.Common.{◌≡◌, ◌∙◌, ap, sym, subst, []}
use Rattle.schedule.specs.Reading.{lines_of, answer_of, answer_behind}
use Rattle.schedule.specs.Results.{Gives}
use Rattle.schedule.proofs.AnswerLaws.{answer_opened, from-opened}
use Rattle.schedule.proofs.reader.read_text.Goals as goal

pub returns-in_default : goal.returns-in_default
unfolding answer_of
returns-in_default c = from-opened 0 (lines_of c.args.text.now) ∙ ap answer_opened (sym c.in_default.ensures.value)

pub returns : goal.returns
unfolding answer_of
returns c =
    let same : answer_of c.args.text.now ≡ answer_behind c.in-Some.passed [] (lines_of c.in-Some.rest.now) =
    from-opened 0 (lines_of c.args.text.now) ∙ ap answer_opened (sym c.in-Some.ensures.value) in
    subst (Gives c.read_events.result) (sym same) c.read_events.ensures
