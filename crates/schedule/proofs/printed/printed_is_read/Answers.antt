use Rattle.schedule.proofs.PrintedLaws.{printed_is_read}
use Rattle.schedule.proofs.printed.printed_is_read.Goals as goal

pub returns : goal.returns
returns c = printed_is_read
