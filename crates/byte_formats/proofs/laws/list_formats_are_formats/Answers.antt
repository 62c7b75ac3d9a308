use Rattle.byte_formats.specs.FormatLaws.{many_is, counted_is, listed_is, ascending_is}
use Rattle.byte_formats.proofs.laws.list_formats_are_formats.Goals as goal

pub returns-clause-many : goal.returns-clause-many
returns-clause-many g c = many_is

pub returns-clause-counted : goal.returns-clause-counted
returns-clause-counted g c = counted_is

pub returns-clause-listed : goal.returns-clause-listed
returns-clause-listed g c = listed_is

pub returns-clause-ascending : goal.returns-clause-ascending
returns-clause-ascending g c = ascending_is
