use Rattle.rank_image.proofs.Reading.{block_length}
use Rattle.rank_image.proofs.image.take_image.Goals as goal

pub are_sound-requires-clause-whole : goal.are_sound-requires-clause-whole
are_sound-requires-clause-whole c = block_length _ c.take_u16.new.cursor.rest.now _ c.in_ok-bytes.ensures.ok
