use Rattle.std.proofs.Common.{◌≡◌, ◌-◌}
use Rattle.byte_formats.specs.Formats.{read_many}
use Rattle.byte_formats.proofs.ListLemmas.{more_behind}
use Rattle.byte_formats.proofs.spelling.take_many.Given as goal

abbrev pub invariant-loop-i : goal.invariant-loop-i
invariant-loop-i g l =
    read_many g.S.Spelling.format l.count l.fn.cursor.rest.now
    ≡ more_behind g.S.Spelling.format l.items.items (l.count - l.i) l.cursor.rest.now
