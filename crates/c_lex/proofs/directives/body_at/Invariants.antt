use Rattle.std.proofs.Common.{length}
use Rattle.c_lex.specs.Pieces.{AreLexemes}
use Rattle.c_lex.proofs.directives.body_at.Given as goal

abbrev pub invariant-lexemes : goal.invariant-lexemes
invariant-lexemes l = AreLexemes l.text l.body.items l.rest

abbrev pub decreases-lexemes : goal.decreases-lexemes
decreases-lexemes l = length l.rest
