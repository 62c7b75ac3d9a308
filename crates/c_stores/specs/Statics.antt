-- The bytes with which static objects begin (C11, 6.7.9p4): an initialiser has constants alone.
use Rattle.std.specs.Prelude.{List, Option, Some, None, Result, Ok, Err}
use Rattle.c_types.specs.declared.program.Initial.{Initial}
use Rattle.c_types.specs.declared.statement.Store.{Store}
use Rattle.c_const.specs.declared.error.ConstError.{ConstError}
use Rattle.c_const.specs.declared.error.ConstError.TheVariants.{NotConstant, Memory}
use Rattle.c_const.specs.Initials.{initial_of}
use Rattle.c_typing.specs.declared.rules.Rule.TheVariants as rule
use Rattle.c_judge.specs.State.{Doing, with_broken}

-- No definition tells `Memory`.
abbrev pub initial_by : Result Initial ConstError → Doing (Option Initial)
initial_by (Ok i) s = (Some i, s)
initial_by (Err (NotConstant token)) s = (None, with_broken token rule.NotConstant s)
initial_by (Err Memory) s = (None, s)

abbrev pub static_initial : List Store → Doing (Option Initial)
static_initial stores s = initial_by (initial_of stores) s
