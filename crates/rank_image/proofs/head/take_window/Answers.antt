use Rattle.std.proofs.Common.{arith}
use Rattle.byte_formats.specs.Formats.{number64}
use Rattle.rank_image.proofs.Reading.{read_length}
use Rattle.rank_image.proofs.head.take_window.Goals as goal

pub of-window-requires : goal.of-window-requires
of-window-requires c =
    omega (arith, read_length number64 c.in_ok-count.count c.take_u8.new.cursor.rest.now _ c.in_ok-intervals.ensures.ok, c.if-count-gt8.false, c.as_slice.ensures.len)
