-- What writing into a rank's memory leaves.
use Rattle.std.specs.Prelude.{ℕ, ◌≡◌, Bool, List}
use Rattle.rank_range.specs.Layout.{globals_start}
use Rattle.rank_range.specs.Nodes.{blocks_of}
use Rattle.rank_range.specs.Parts.{StayBeside, Keeps}

-- Whose memory it is, its top, how many bytes there are, and that a page which changed has its mark (`Keeps`); each byte that lies
-- before the globals or not below the top; and the live blocks of the heap, whose nodes lie before the globals.
pub record Leaves (old_rank new_rank old_top new_top : ℕ) (old new : List ℕ) (old_marks new_marks : ℕ → Bool) : Type 0 where
  pub keeps : Keeps old_rank new_rank old_top new_top old new old_marks new_marks
  pub beside : StayBeside old new globals_start old_top
  pub blocks : blocks_of old_rank new ≡ blocks_of old_rank old
