use Rattle.am_base.specs.Traps.{trap_number}
use Rattle.rank_image.specs.Codes.{cause_of}
use Rattle.rank_image.specs.CodeLaws.{is_found, cause_there, cause_here}
use Rattle.rank_image.proofs.codes.cause_of.Goals as goal

pub returns : goal.returns
returns c = is_found cause_of trap_number cause_there cause_here c.args.number c.of_number.result c.of_number.ensures
