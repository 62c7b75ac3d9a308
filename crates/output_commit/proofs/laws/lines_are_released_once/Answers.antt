use Rattle.output_commit.proofs.HeldLemmas.{released_lines-append}
use Rattle.output_commit.proofs.OnceLemmas.{released_once, rest_held, held_ascend}
use Rattle.output_commit.proofs.laws.lines_are_released_once.Goals as goal

pub returns-clause-once : goal.returns-clause-once
returns-clause-once c = released_once

pub returns-clause-rest : goal.returns-clause-rest
returns-clause-rest c = rest_held

pub returns-clause-ascend : goal.returns-clause-ascend
returns-clause-ascend c = held_ascend

pub returns-clause-texts : goal.returns-clause-texts
returns-clause-texts c = released_lines-append
