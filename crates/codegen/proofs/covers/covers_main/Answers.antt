use Rattle.std.proofs.Common.{sym}
use Rattle.codegen.proofs.Covering.{main_covered}
use Rattle.codegen.proofs.covers.covers_main.Goals as goal

pub returns-in-Some : goal.returns-in-Some
returns-in-Some c =
    main_covered c.args.program.now c.args.main _ c.is_main_body.result c.covers_functions.result _ (sym c.in-Some.ensures.value) c.is_main_body.ensures
    (rw (← c.as_slice.ensures) c.covers_functions.ensures) c.both.ensures
