use Rattle.c_compile.proofs.KnownLaws.{known-where-included}
use Rattle.c_compile.proofs.known.known_where_included.Goals as goal

pub returns : goal.returns
returns c = known-where-included
