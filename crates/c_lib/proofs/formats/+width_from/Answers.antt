use Rattle.std.proofs.Common.{◌<◌, sym, ◌∙◌, arith}
use Rattle.std.proofs.lemmas.List.{take_rest}
use Rattle.c_lib.specs.Pieces.{side_of}
use Rattle.c_lib.proofs.FormatLemmas.{width_more, width_stops}
use Rattle.c_lib.proofs.formats.+width_from.Goals as goal

pub returns-in-len1-up : goal.returns-in-len1-up
returns-in-len1-up t c =
    let some : 0 < c.args.n = omega arith in
    let more = rw (take_rest c.args.bytes.now 1) at c.width_from.ensures in
    rw (width_more c.args.n (side_of c.args.side) c.args.width c.args.bytes.now some c.in-len1-up.len_at_least (sym c.is_digit.ensures ∙ c.if-is_digit.true)) more

pub returns-in_default : goal.returns-in_default
returns-in_default t c =
    let some : 0 < c.args.n = omega arith in
    rw (width_stops c.args.n (side_of c.args.side) c.args.width c.args.bytes.now some c.in-len1-up.len_at_least (sym c.is_digit.ensures ∙ c.if-is_digit.false)) c.behind_width-in_default.ensures
