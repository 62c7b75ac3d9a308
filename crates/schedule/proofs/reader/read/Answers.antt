use Rattle.schedule.proofs.AnswerLaws.{gives-schedule, gives-bad, gives-many, gives-only}
use Rattle.schedule.proofs.reader.read.Goals as goal

pub returns-clause-schedule : goal.returns-clause-schedule
returns-clause-schedule c = gives-schedule c.read_text.result c.args.text.now c.read_text.ensures

pub returns-clause-bad_line : goal.returns-clause-bad_line
returns-clause-bad_line c = λ n. gives-bad c.read_text.result c.args.text.now n c.read_text.ensures

pub returns-clause-too_many : goal.returns-clause-too_many
returns-clause-too_many c = λ n. gives-many c.read_text.result c.args.text.now n c.read_text.ensures

pub returns-clause-only : goal.returns-clause-only
returns-clause-only c = λ a. gives-only c.read_text.result c.args.text.now a c.read_text.ensures
