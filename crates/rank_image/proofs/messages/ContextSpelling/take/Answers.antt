use Rattle.std.proofs.Common.{arith}
use Rattle.rank_image.specs.Messages.{level}
use Rattle.rank_image.proofs.Reading.{read_length}
use Rattle.rank_image.proofs.messages.ContextSpelling.take.Goals as goal

pub context_of-ctx-requires : goal.context_of-ctx-requires
context_of-ctx-requires c =
    omega (arith, read_length level c.in_ok-count.count c.take_u8.new.cursor.rest.now _ c.in_ok-levels.ensures.ok, c.if-count-gt16.false, c.as_slice.ensures.len)
