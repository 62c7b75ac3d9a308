use Rattle.byte_formats.specs.ChoiceLaws.{kind_is, or_kinds_are, tagged_is, one_of_two_is, one_of_three_is}
use Rattle.byte_formats.proofs.laws.choices_are_formats.Goals as goal

pub returns-clause-kind : goal.returns-clause-kind
returns-clause-kind g c = kind_is

pub returns-clause-or_kinds : goal.returns-clause-or_kinds
returns-clause-or_kinds g c = or_kinds_are

pub returns-clause-tagged : goal.returns-clause-tagged
returns-clause-tagged g c = tagged_is

pub returns-clause-two : goal.returns-clause-two
returns-clause-two g c = one_of_two_is

pub returns-clause-three : goal.returns-clause-three
returns-clause-three g c = one_of_three_is
