-- What contracts see of the host's sinks.
use Rattle.std.specs.Prelude.{ℕ, List, Option}

-- The name of a file, where it is a text, and how many puts to it have failed.
pub record FileSinkState : Type 0 where
  pub name : Option (List ℕ)
  pub faults : ℕ
