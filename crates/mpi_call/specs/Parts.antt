-- The parts of what a call writes that ends a request.
use Rattle.std.specs.Prelude.{ℕ, pos, Option, Some, None, List, [], ◌∷◌}
use Rattle.mpi_types.specs.declared.call.Write.{Write}
use Rattle.mpi_rules.specs.Places.{int_write}
use Rattle.mpi_rules.specs.Requests.{variable_writes}

-- the variable that holds the request's number, where there is one
abbrev pub variable_part : Option ℕ → ℕ → List Write
variable_part None n = []
variable_part (Some variable) n = variable_writes variable n

-- the flag of a test that went well
abbrev pub flag_part : Option ℕ → List Write
flag_part None = []
flag_part (Some flag) = int_write flag (pos 1) ∷ []
