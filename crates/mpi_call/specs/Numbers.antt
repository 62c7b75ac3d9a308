-- Where a communicator stands among those of a rank.
use Rattle.std.specs.Prelude.{ℕ, ◌+◌, nat_lt, if◌then◌else◌, List, [], ◌∷◌}
use Rattle.mpi_types.specs.declared.group.Communicator.{Communicator}

-- how many come before the first one of a greater number
abbrev pub place_for : ℕ → List Communicator → ℕ
place_for number [] = 0
place_for number (c ∷ list) = if nat_lt number c.number then 0 else place_for number list + 1
