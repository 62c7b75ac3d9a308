use Rattle.std.proofs.Common.{ℕ, List, Option, Some, None, Bor}
use Rattle.std.specs.Prelude.{MatchOption, IfSome, IfNone}
use Rattle.std.proofs.lemmas.Bool.Decides.{Decides-eqb}
use Rattle.std.proofs.lemmas.Slice.Eq.{strip_prefix_is}
use Rattle.c_lex.proofs.directives.after_bytes.Goals as goal

at_some : (r : Option (Bor (List ℕ))) (N : Type 0) (P : Bor (List ℕ) → Type 0) → MatchOption r N P → IfSome r P
at_some None N P m = tt
at_some (Some x) N P m = m

at_none : (r : Option (Bor (List ℕ))) (N : Type 0) (P : Bor (List ℕ) → Type 0) → MatchOption r N P → IfNone r N
at_none None N P m = m
at_none (Some x) N P m = tt

pub returns-clause-some : goal.returns-clause-some
returns-clause-some c =
    at_some c.strip_prefix.result _ _ (strip_prefix_is Decides-eqb c.args.text.now c.args.bytes.now c.strip_prefix.result c.strip_prefix.ensures.cases)

pub returns-clause-none : goal.returns-clause-none
returns-clause-none c =
    at_none c.strip_prefix.result _ _ (strip_prefix_is Decides-eqb c.args.text.now c.args.bytes.now c.strip_prefix.result c.strip_prefix.ensures.cases)
