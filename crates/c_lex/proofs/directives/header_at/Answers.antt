use Rattle.std.proofs.Common.{ℕ, List}
use Rattle.c_lex.specs.declared.token.Header.{Header}
use Rattle.c_lex.specs.declared.token.Header.TheVariants as header
use Rattle.c_lex.specs.Progress.{NamesHeader}
use Rattle.c_lex.proofs.directives.header_at.Goals as goal

abbrev NamesNone : List ℕ → Header → Type 0
NamesNone text h = (rest : List ℕ) → NamesHeader text h rest → ⊥

names_none : (text : List ℕ) → NamesNone text header.Mpi → NamesNone text header.Stdio → NamesNone text header.Stdlib → NamesNone text header.Strings
    → (h : Header) → NamesNone text h
names_none text a b c d header.Mpi = a
names_none text a b c d header.Stdio = b
names_none text a b c d header.Stdlib = c
names_none text a b c d header.Strings = d

pub returns-in_err-rest-clause-none : goal.returns-in_err-rest-clause-none
returns-in_err-rest-clause-none c =
    rw c.from_residual.ensures
    (names_none c.args.text.now c.in_default.ensures.none c.in_default-after_header.ensures.none c.in_default-after_header-2.ensures.none c.in_err-rest.ensures.none)
