use Rattle.std.proofs.Common.{length}
use Rattle.c_lex.specs.Literals.{AreCharacters}
use Rattle.c_lex.proofs.strings.string_at.Given as goal

abbrev pub invariant-characters : goal.invariant-characters
invariant-characters l = AreCharacters 34 l.body l.bytes l.rest

abbrev pub decreases-characters : goal.decreases-characters
decreases-characters l = length l.rest
