use Rattle.byte_formats.specs.FormatLaws.{both_is, made_is, coded_is, restricted_is, optional_is}
use Rattle.byte_formats.proofs.laws.made_formats_are_formats.Goals as goal

pub returns-clause-both : goal.returns-clause-both
returns-clause-both g c = both_is

pub returns-clause-made : goal.returns-clause-made
returns-clause-made g c = made_is

pub returns-clause-coded : goal.returns-clause-coded
returns-clause-coded g c = coded_is

pub returns-clause-restricted : goal.returns-clause-restricted
returns-clause-restricted g c = restricted_is

pub returns-clause-optional : goal.returns-clause-optional
returns-clause-optional g c = optional_is
