use Rattle.c_types.proofs.RoomLemmas.{next_is_least}
use Rattle.c_types.proofs.rooms.next_is_least.Goals as goal

pub returns : goal.returns
returns c = next_is_least
