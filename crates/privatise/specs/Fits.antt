-- A segment fits into the globals of a rank, and so does each address in it.
use Rattle.std.specs.Prelude.{ℕ, ◌+◌, ◌≤◌, All, length}
use Rattle.rank_range.specs.declared.run.Segment.{Segment}
use Rattle.c_types.specs.declared.program.Program.{Program}
use Rattle.c_types.specs.Segment.{segment_limit, SegmentOf}

-- The globals have room for it, and each address to which a rank's base is added lies in it.
pub record Fits (segment : Segment) : Type 0 where
  pub room : length segment.bytes ≤ segment_limit
  pub inside : All (λ at. at + 8 ≤ length segment.bytes) segment.fixes

abbrev pub SegmentsFit : Type 0
SegmentsFit = (program : Program) (segment : Segment) → SegmentOf program segment → Fits segment
