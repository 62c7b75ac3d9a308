-- What contracts see of the stand-ins in memory.
use Rattle.std.specs.Prelude.{ℕ, Bool, ◌||◌, ◌==◌, List, ◌++◌, take, is_none, if◌then◌else◌}
use Rattle.std.specs.List.{list_any}
use Rattle.am_io.specs.Contents.{file_of}
use Rattle.am_io.specs.Faults.{one_more}

-- The number is in the list.
abbrev pub is_among : List ℕ → ℕ → Bool
is_among numbers k = list_any (λ n. n == k) numbers

-- The bytes that were put, and how many more may be put.
pub record SinkState : Type 0 where
  pub bytes : List ℕ
  pub spare : ℕ

-- Files in memory: how many loads have failed, how many were asked for, and which of them are to fail, counted from 0.
pub record MemFilesState : Type 0 where
  pub files : List (List ℕ × List ℕ)
  pub faults : ℕ
  pub calls : ℕ
  pub failing : List ℕ

-- A load fails if its number is among those that are to fail, and if the name isn't held.
abbrev pub is_refused : MemFilesState → List ℕ → Bool
is_refused s name = is_among s.failing s.calls || is_none (file_of s.files name)

-- The state after a load of that name.
abbrev pub after_load : MemFilesState → List ℕ → MemFilesState
after_load s name =
    record s { calls = one_more s.calls; faults = if is_refused s name then one_more s.faults else s.faults }

-- A sink in memory: how many puts have failed, how many there were, which of them are to fail, counted from 0, and
-- how many bytes of its piece a put that fails still writes.
pub record MemSinkState : Type 0 where
  pub bytes : List ℕ
  pub spare : ℕ
  pub faults : ℕ
  pub puts : ℕ
  pub failing : List ℕ
  pub taken : ℕ

-- The next put fails.
abbrev pub is_failing : MemSinkState → Bool
is_failing s = is_among s.failing s.puts

-- The state after a put of that piece, but for the room that is left.
abbrev pub after_put : MemSinkState → List ℕ → ℕ → MemSinkState
after_put s piece spare = record s {
  bytes = s.bytes ++ (if is_failing s then take s.taken piece else piece);
  spare = spare;
  faults = if is_failing s then one_more s.faults else s.faults;
  puts = one_more s.puts;
}
