-- How contexts, messages and arguments of collectives are spelled, in images and in packets. This profile's own.
use Rattle.std.specs.Prelude.{ℕ, ℤ, nat_le, List}
use Rattle.am_base.specs.declared.numbers.RankId.{RankId}
use Rattle.byte_formats.specs.Formats.{Format, number8, number16, number32, signed32, text, both, made, coded, restricted, listed}
use Rattle.mpi_types.specs.declared.argument.Arg.{Arg}
use Rattle.mpi_types.specs.declared.argument.Direction.{Direction}
use Rattle.mpi_types.specs.declared.argument.TreeMsg.{TreeMsg}
use Rattle.mpi_types.specs.declared.collective.Collective.{Collective}
use Rattle.mpi_types.specs.declared.context.Level.{Level}
use Rattle.mpi_types.specs.declared.message.Message.{Message}
use Rattle.mpi_types.specs.Tables.{collective_number}
use Rattle.mpi_types.specs.Order.{direction_number}
use Rattle.rank_image.specs.Codes.{collective_of, direction_of}

-- numbers of a field that are at most so great
abbrev pub at_most : ℕ → Format ℕ → Format ℕ
at_most n f = restricted f (λ x. nat_le x n)

-- a level of a context: its position and its colour
unfoldable pub level : Format Level
level = made (both number32 signed32) (λ p. record { position = p.0; colour = p.1 }) (λ l. (l.position, l.colour))

-- a context: how many levels it has, at most 16, and those
unfoldable pub context : Format (List Level)
context = listed (at_most 16 number8) level

-- what stands behind a message's context: the sender's member number, the tag and the body
unfoldable pub sent : Format (ℕ × (ℤ × List ℕ))
sent = both number16 (both signed32 text)

abbrev pub sent_of : Message → ℕ × (ℤ × List ℕ)
sent_of m = (m.member, (m.tag, m.body))

-- a message: its sender, its context, and that
unfoldable pub message : Format Message
message =
    made (both number16 (both context sent))
    (λ p. record { sender = record { 0 = p.0 }; ctx = p.1.0; member = p.1.1.0; tag = p.1.1.1.0; body = p.1.1.1.1 })
    (λ m. (m.sender.0, (m.ctx, sent_of m)))

-- the number of a collective
unfoldable pub kind_of : Format Collective
kind_of = coded number8 collective_of collective_number

-- The argument of a member: first its number, the collective, the root, the operation and the datatype.
abbrev pub ArgHead : Type 0
ArgHead = ℕ × (Collective × (ℤ × (ℕ × ℕ)))

unfoldable pub argument_head : Format ArgHead
argument_head = both number16 (both kind_of (both signed32 (both number8 number8)))

-- behind them the count, the colour, the key and the body
abbrev pub ArgRest : Type 0
ArgRest = ℕ × (ℤ × (ℤ × List ℕ))

unfoldable pub argument_rest : Format ArgRest
argument_rest = both number32 (both signed32 (both signed32 text))

abbrev pub head_of : Arg → ArgHead
head_of a = (a.member, (a.kind, (a.root, (a.operation, a.datatype))))

abbrev pub rest_of : Arg → ArgRest
rest_of a = (a.count, (a.colour, (a.key, a.body)))

unfoldable pub argument : Format Arg
argument =
    made (both argument_head argument_rest)
    (λ p. record {
      member = p.0.0;
      kind = p.0.1.0;
      root = p.0.1.1.0;
      operation = p.0.1.1.1.0;
      datatype = p.0.1.1.1.1;
      count = p.1.0;
      colour = p.1.1.0;
      key = p.1.1.1.0;
      body = p.1.1.1.1;
    })
    (λ a. (head_of a, rest_of a))

-- arguments behind how many they are
unfoldable pub arguments : Format (List Arg)
arguments = listed number16 argument

-- the number of a direction
unfoldable pub direction : Format Direction
direction = coded number8 direction_of direction_number

-- what stands behind the context of a message of a collective's tree: the position, the direction, the sender's member
-- number, and the arguments
unfoldable pub gift : Format (ℕ × (Direction × (ℕ × List Arg)))
gift = both number32 (both direction (both number16 arguments))

abbrev pub gift_of : TreeMsg → ℕ × (Direction × (ℕ × List Arg))
gift_of t = (t.position, (t.direction, (t.member, t.args)))

-- a message of a collective's tree: its context, and that
unfoldable pub tree_message : Format TreeMsg
tree_message =
    made (both context gift)
    (λ p. record { ctx = p.0; position = p.1.0; direction = p.1.1.0; member = p.1.1.1.0; args = p.1.1.1.1 })
    (λ t. (t.ctx, gift_of t))
