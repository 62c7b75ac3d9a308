use Rattle.std.proofs.Common.{List, IsTrue, ◌↔◌, subst}
use Rattle.c_lex.specs.Pieces.{Macro}
use Rattle.c_lex.specs.Faults.{IsDefined}
use Rattle.c_lex.specs.Tokens.{names_of}
use Rattle.c_lex.proofs.KeptLaws.{same_names}
use Rattle.c_lex.proofs.macros.Macros.is_defined.Goals as goal

pub returns : goal.returns
returns c =
    let P : List Macro → Type 0 = λ ms. IsTrue c.is_defined.result ↔ IsDefined (names_of ms) c.args.name.now in
    subst P c.self.view_is
    (same_names c.self.inside.table c.args.name.now c.is_defined.result c.self.invariant.table c.is_defined.ensures)
