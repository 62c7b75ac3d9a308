-- What sorting messages out gives, and one step of it.
use Rattle.std.specs.Prelude.{ℕ, ◌+◌, if◌then◌else◌, List, [], ◌∷◌, ◌++◌}
use Rattle.mpi_types.specs.declared.state.HeldMessage.{HeldMessage}
use Rattle.packet.specs.declared.turns.Turns.{Turns}
use Rattle.packet.specs.Turns.{is_turn, turns_of, kept_of, next_of, messages_of}

abbrev pub turns_from : ℕ → ℕ → List HeldMessage → Turns
turns_from sender first hs =
    record { given = messages_of (turns_of sender first hs); kept = kept_of sender first hs; next = next_of sender first hs }

abbrev pub with_held : ℕ → Turns → HeldMessage → Turns
with_held sender t h =
    if is_turn sender t.next h
    then record { given = t.given ++ h.message ∷ []; kept = t.kept; next = t.next + 1 }
    else record { given = t.given; kept = t.kept ++ h ∷ []; next = t.next }
