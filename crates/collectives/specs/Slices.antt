-- The arguments of the members of a subtree, and the messages that bring them.
use Rattle.std.specs.Prelude.{ℕ, zero, suc, ◌≡◌, ◌+◌, ◌-◌, ◌<◌, ◌≤◌, true, Option, Some, is_some, List, [], ◌++◌}
use Rattle.std.specs.Option.{option_to_list}
use Rattle.mpi_types.specs.declared.argument.Arg.{Arg}
use Rattle.mpi_types.specs.declared.argument.Direction.TheVariants.{Up, Down}
use Rattle.mpi_types.specs.declared.argument.TreeMsg.{TreeMsg}
use Rattle.mpi_types.specs.declared.context.Level.{Level}
use Rattle.collectives.specs.Tree.{end_of}

-- what each member has given, if it has joined
abbrev pub Given : Type 0
Given = ℕ → Option Arg

-- the arguments of k members from i on
abbrev pub slice : Given → ℕ → ℕ → List Arg
slice given i zero = []
slice given i (suc k) = option_to_list (given i) ++ slice given (i + 1) k

-- those of the subtree of a member, and those of all
abbrev pub subtree_of : ℕ → Given → ℕ → List Arg
subtree_of n given i = slice given i (end_of n i - i)

abbrev pub all_of : ℕ → Given → List Arg
all_of n given = slice given 0 n

-- the members from i on, up to e, have joined
abbrev pub HaveJoined : Given → ℕ → ℕ → Type 0
HaveJoined given i e = (k : ℕ) → i ≤ k → k < e → is_some (given k) ≡ true

-- each gives its own number
abbrev pub AreNumbered : Given → Type 0
AreNumbered given = (i : ℕ) (a : Arg) → given i ≡ Some a → a.member ≡ i

-- the message that goes up from a member of n, and the one that goes down from a member
abbrev pub up_of : List Level → ℕ → ℕ → Given → ℕ → TreeMsg
up_of ctx position n given i = record { ctx = ctx; position = position; direction = Up; member = i; args = subtree_of n given i }

abbrev pub down_of : List Level → ℕ → ℕ → Given → ℕ → TreeMsg
down_of ctx position n given i = record { ctx = ctx; position = position; direction = Down; member = i; args = all_of n given }
