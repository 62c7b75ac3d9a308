-- How a text is cut into lines, byte by byte.
use Rattle.std.specs.Prelude.{ℕ, ◌≡◌, ◌+◌, ◌≤◌, List, ◌++◌, length}
use Rattle.rank_range.specs.Output.{lines_behind, part_behind, numbered}
use Rattle.rank_machine.specs.declared.printer.Cut.{Cut}

-- These bytes were cut: whatever bytes follow, the lines, the next number and the part behind them are the same.
pub record IsCut (old new : Cut) (bytes : List ℕ) : Type 0 where
  pub lines : (more : List ℕ) → new.lines.items ++ numbered new.next (lines_behind new.part more)
      ≡ old.lines.items ++ numbered old.next (lines_behind old.part (bytes ++ more))
  pub next : (more : List ℕ) → new.next + length (lines_behind new.part more) ≡ old.next + length (lines_behind old.part (bytes ++ more))
  pub part : (more : List ℕ) → part_behind new.part more ≡ part_behind old.part (bytes ++ more)
  pub few : new.next + length new.part ≤ old.next + length old.part + length bytes
