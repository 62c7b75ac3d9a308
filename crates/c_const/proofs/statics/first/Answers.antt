use Rattle.std.proofs.Common.{sym}
use Rattle.c_const.proofs.StaticLemmas.{number_first, object_first, first_has_nothing}
use Rattle.c_const.proofs.statics.first.Goals as goal

pub returns-in-Number : goal.returns-in-Number
returns-in-Number c = sym (number_first _ _ c.in-Number.is)

pub returns-in-Object : goal.returns-in-Object
returns-in-Object c = sym (object_first _ _ c.in-Object.is)

pub returns-in-Local : goal.returns-in-Local
returns-in-Local c = first_has_nothing _ c.in-Local.is

pub returns-in-Local-2 : goal.returns-in-Local-2
returns-in-Local-2 c = first_has_nothing _ c.in-Local.is

pub returns-in-Local-3 : goal.returns-in-Local-3
returns-in-Local-3 c = first_has_nothing _ c.in-Local.is

pub returns-in-Local-4 : goal.returns-in-Local-4
returns-in-Local-4 c = first_has_nothing _ c.in-Local.is
