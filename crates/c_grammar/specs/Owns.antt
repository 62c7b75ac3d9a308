-- What the parameters of a declared function bring.
use Rattle.std.specs.Prelude.{Option, Some, None, []}
use Rattle.c_grammar.specs.Names.{Names}

-- The names that the parameters of a declared function bring, once it is known which they are: those of the list that is the
-- first to be applied to the name.
pub data Own : Type 0 where
  Open : Own
  Closed : Names → Own

abbrev pub settled : Own → Names → Own
settled Open names = Closed names
settled (Closed own) names = Closed own

abbrev pub own_names : Own → Names
own_names Open = []
own_names (Closed names) = names

abbrev pub own_of : Option Names → Own
own_of None = Open
own_of (Some names) = Closed names
