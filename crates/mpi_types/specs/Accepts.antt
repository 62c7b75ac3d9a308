-- Which messages a receive accepts (MPI 3.1, sections 3.2.4 and 3.5).
use Rattle.std.specs.Prelude.{◌≡◌, ◌⊎◌, ◌↔◌, ◌==◌, ◌&&◌, ◌||◌, Bool, true, false, IsTrue, ℤ, pos, List, [], ◌∷◌}
use Rattle.std.specs.Ordering.{int_eq}
use Rattle.mpi_types.specs.declared.context.Level.{Level}
use Rattle.mpi_types.specs.declared.message.Message.{Message}
use Rattle.mpi_types.specs.declared.message.Posted.{Posted}
use Rattle.mpi_types.specs.declared.constants.TheConstants.{ANY_SOURCE, ANY_TAG}

-- A receive with this context, source and tag accepts the message: the contexts are equal, the source is any or the
-- sender's number in the communicator, and the tag is any or equal.
pub record Accepts (ctx : List Level) (source tag : ℤ) (message : Message) : Type 0 where
  pub context : ctx ≡ message.ctx
  pub sender : (source ≡ ANY_SOURCE) ⊎ (source ≡ pos message.member)
  pub same_tag : (tag ≡ ANY_TAG) ⊎ (tag ≡ message.tag)

-- the posted receive accepts the message
abbrev pub IsAcceptedBy : Posted → Message → Type 0
IsAcceptedBy receive message = Accepts receive.ctx receive.source receive.tag message

-- The same as tests, for definitions that branch on it.
abbrev pub is_same_level : Level → Level → Bool
is_same_level a b = a.position == b.position && int_eq a.colour b.colour

abbrev pub is_same_ctx : List Level → List Level → Bool
is_same_ctx [] [] = true
is_same_ctx [] (y ∷ b) = false
is_same_ctx (x ∷ a) [] = false
is_same_ctx (x ∷ a) (y ∷ b) = is_same_level x y && is_same_ctx a b

abbrev pub is_accepted : List Level → ℤ → ℤ → Message → Bool
is_accepted ctx source tag message =
    is_same_ctx ctx message.ctx && (int_eq source ANY_SOURCE || int_eq source (pos message.member))
    && (int_eq tag ANY_TAG || int_eq tag message.tag)

abbrev pub accepts : Posted → Message → Bool
accepts receive message = is_accepted receive.ctx receive.source receive.tag message

-- the test agrees with the relation
abbrev pub AcceptanceIsTested : Type 0
AcceptanceIsTested =
    (ctx : List Level) (source tag : ℤ) (message : Message)
    → IsTrue (is_accepted ctx source tag message) ↔ Accepts ctx source tag message
