-- How a rank's communicators and the collective that it joined are spelled, and what it keeps of other ranks. This
-- profile's own.
use Rattle.std.specs.Prelude.{ℕ, ◌⊎◌, ◌&&◌, nat_le, nat_lt, Bool, List, length, Option, Some, None}
use Rattle.std.proofs.Common.{inl, inr}
use Rattle.am_base.specs.declared.numbers.RankId.{RankId}
use Rattle.byte_formats.specs.Formats.{Format, number8, number16, number32, number64, nothing, both, made, restricted, ascending, many, counted, listed}
use Rattle.byte_formats.specs.Choices.{one_of_three}
use Rattle.mpi_types.specs.declared.argument.Arg.{Arg}
use Rattle.mpi_types.specs.declared.argument.Joined.{Joined}
use Rattle.mpi_types.specs.declared.argument.TreeMsg.{TreeMsg}
use Rattle.mpi_types.specs.declared.context.Level.{Level}
use Rattle.mpi_types.specs.declared.group.Communicator.{Communicator}
use Rattle.mpi_types.specs.declared.message.Message.{Message}
use Rattle.mpi_types.specs.declared.state.HeldMessage.{HeldMessage}
use Rattle.mpi_types.specs.Order.{is_held_before, is_tree_before}
use Rattle.rank_image.specs.declared.middle.Middle.{Middle}
use Rattle.rank_image.specs.declared.tail.Tail.{Tail}
use Rattle.rank_image.specs.Messages.{at_most, context, message, argument, arguments, tree_message}
use Rattle.rank_image.specs.Requests.{requests}

-- a rank's number
unfoldable pub rank : Format RankId
rank = made number16 (λ n. record { 0 = n }) (λ r. r.0)

-- the members of a communicator: how many, and their ranks
unfoldable pub members : Format (List RankId)
members = listed number16 rank

-- a communicator: its number, its context, the position of its next collective, and its members
unfoldable pub communicator : Format Communicator
communicator =
    made (both number8 (both context (both number32 members)))
    (λ p. record { number = p.0; group = record { ctx = p.1.0; members = p.1.1.1 }; position = p.1.1.0 })
    (λ c. (c.number, (c.group.ctx, (c.position, c.group.members))))

abbrev pub is_communicator_before : Communicator → Communicator → Bool
is_communicator_before a b = nat_lt a.number b.number

-- communicators that ascend by number: how many, at most 64, and those
unfoldable pub communicators : Format (List Communicator)
communicators = ascending is_communicator_before (listed (at_most 64 number8) communicator)

-- What was joined: the context, the position, and what the rank gave.
abbrev pub Own : Type 0
Own = List Level × (ℕ × Arg)

unfoldable pub own : Format Own
own = both context (both number32 argument)

abbrev pub joined_with : Own → Option (List Arg) → Joined
joined_with p gathered = record { ctx = p.0; position = p.1.0; arg = p.1.1; gathered = gathered }

abbrev pub own_of : Joined → Own
own_of j = (j.ctx, (j.position, j.arg))

abbrev pub joined_of : Unit {0} ⊎ (Own ⊎ (Own × List Arg)) → Option Joined
joined_of (inl u) = None
joined_of (inr (inl p)) = Some (joined_with p None)
joined_of (inr (inr q)) = Some (joined_with q.0 (Some q.1))

abbrev pub choice_with : Own → Option (List Arg) → Unit {0} ⊎ (Own ⊎ (Own × List Arg))
choice_with p None = inr (inl p)
choice_with p (Some args) = inr (inr (p, args))

abbrev pub joined_choice : Option Joined → Unit {0} ⊎ (Own ⊎ (Own × List Arg))
joined_choice None = inl tt
joined_choice (Some j) = choice_with (own_of j) j.gathered

-- the collective that the rank joined: 0; or 1 and what was joined; or 2, that and the arguments that were gathered
unfoldable pub joined : Format (Option Joined)
joined = made (one_of_three 0 nothing 1 own 2 (both own arguments)) joined_of joined_choice

-- the requests, the communicators, and the collective
unfoldable pub middle : Format Middle
middle =
    made (both requests (both communicators joined))
    (λ p. record { requests = p.0; communicators = p.1.0; joined = p.1.1 }) (λ m. (m.requests, (m.communicators, m.joined)))

-- how many ranks the run has, at least 1 and at most 256
unfoldable pub ranks_number : Format ℕ
ranks_number = restricted number16 (λ n. nat_le 1 n && nat_le n 256)

-- The number of ranks, the next number to each, and the next one that is expected from each.
abbrev pub both_many : ℕ → Format (List ℕ × List ℕ)
both_many n = both (many number64 n) (many number64 n)

unfoldable pub pairs : Format (List ℕ × List ℕ)
pairs = counted ranks_number both_many (λ p. length p.0)

-- a message that came before its turn: its number, and the message
unfoldable pub held_message : Format HeldMessage
held_message = made (both number64 message) (λ p. record { number = p.0; message = p.1 }) (λ h. (h.number, h.message))

-- those, ascending by sender and number
unfoldable pub held : Format (List HeldMessage)
held = ascending is_held_before (listed number32 held_message)

-- the messages that have arrived and that no receive has taken, in order of arrival
unfoldable pub arrived : Format (List Message)
arrived = listed number32 message

-- the messages of trees that the rank holds, in their order
unfoldable pub tree : Format (List TreeMsg)
tree = ascending is_tree_before (listed number32 tree_message)

-- the pairs, the messages that came before their turn, those that have arrived, and those of trees
unfoldable pub tail : Format Tail
tail =
    made (both pairs (both held (both arrived tree)))
    (λ p. record { sent = p.0.0; expected = p.0.1; held = p.1.0; arrived = p.1.1.0; tree = p.1.1.1 })
    (λ t. ((t.sent, t.expected), (t.held, (t.arrived, t.tree))))
