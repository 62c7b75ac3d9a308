use Rattle.byte_formats.specs.FormatLaws.{number8_is, number16_is, number32_is, number64_is, signed32_is, nothing_is, block_is, text_is}
use Rattle.byte_formats.proofs.laws.fields_are_formats.Goals as goal

pub returns-clause-number8 : goal.returns-clause-number8
returns-clause-number8 c = number8_is

pub returns-clause-number16 : goal.returns-clause-number16
returns-clause-number16 c = number16_is

pub returns-clause-number32 : goal.returns-clause-number32
returns-clause-number32 c = number32_is

pub returns-clause-number64 : goal.returns-clause-number64
returns-clause-number64 c = number64_is

pub returns-clause-signed32 : goal.returns-clause-signed32
returns-clause-signed32 c = signed32_is

pub returns-clause-nothing : goal.returns-clause-nothing
returns-clause-nothing c = nothing_is

pub returns-clause-block : goal.returns-clause-block
returns-clause-block c = block_is

pub returns-clause-text : goal.returns-clause-text
returns-clause-text c = text_is
