-- What is answered, by what was read.
use Rattle.std.proofs.Common.{◌≡◌, ℕ, Result, Ok, Err, List, sym, subst}
use Rattle.std.specs.Prelude.{IfErr, IfSome, IfOk}
use Rattle.c_lex.specs.declared.token.Token.{Token}
use Rattle.c_ast.specs.declared.declaration.Unit.{Unit as AUnit}
use Rattle.c_grammar.specs.declared.error.ParseError.{ParseError}
use Rattle.c_grammar.specs.declared.error.ParseError.TheVariants as error
use Rattle.c_grammar.specs.Grammar.{ParsesWithin}
use Rattle.c_grammar.specs.Refusals.{IsRefused, IsUnexpected, IsTooNested, token_of, unexpected_of, nested_of}
use Rattle.c_grammar.specs.Reading.{Fault, Unexpected, TooNested, Gives, IsFault}
use Rattle.c_grammar.specs.ReadingStmt.{unit}
use Rattle.c_grammar.specs.Told.{placed, told, Settles}
use Rattle.c_grammar_laws.proofs.LevelLaws.{readers_sound}
use Rattle.c_grammar_laws.proofs.UnitLaws.{unit_sound}
use Rattle.c_grammar_laws.proofs.RefusalLaws.{begins, refused_there, unexpected_there}
use Rattle.c_grammar_laws.proofs.UnitRefused.{all_viable}
use Rattle.c_grammar_laws.proofs.CauseLaws.{Caused, placed_caused, told_caused}

-- ---- the clauses

no_ok : {P : Type 0} {u : AUnit} {e : ParseError} → ◌≡◌ {A = Result AUnit ParseError} (Ok u) (Err e) → P
no_ok h = absurd cc

err_same : {d e : ParseError} → ◌≡◌ {A = Result AUnit ParseError} (Err d) (Err e) → d ≡ e
err_same h = cc

pub parses_settled : (ts : List Token) (read result : Result AUnit ParseError) → Gives (λ (u : AUnit). u) read (unit 512 64 ts) → Settles ts read result
    → IfOk result (λ u. ParsesWithin 64 512 ts u)
parses_settled ts read (Err e) h settles = tt
parses_settled ts (Ok u) (Ok v) h settles =
    let same : v ≡ u = ok_same settles in
    subst (λ w. ParsesWithin 64 512 ts w) (sym same) (unit_sound 512 64 ts (λ room. readers_sound _ 512 room) u h)
  where
    ok_same : {a b : AUnit} → ◌≡◌ {A = Result AUnit ParseError} (Ok a) (Ok b) → a ≡ b
    ok_same h = cc
parses_settled ts (Err (error.TooNested k)) (Ok v) h settles = absurd settles
parses_settled ts (Err (error.Unexpected k)) (Ok v) h settles = absurd settles
parses_settled ts (Err error.Memory) (Ok v) h settles = no_ok settles

-- ---- refusals

-- what the clauses say of an error
abbrev Told : List Token → ParseError → Type 0
Told ts e =
    IfSome (token_of e) (λ k. IsRefused 64 512 ts k) × IfSome (unexpected_of e) (λ k. IsUnexpected 64 512 ts k)
    × IfSome (nested_of e) (λ k. IsTooNested 64 512 ts k)

-- the token is refused, and this is why
by_cause : (ts : List Token) (k : ℕ) (fault : Fault) → IsRefused 64 512 ts k → Caused ts k fault → (e : ParseError) → IsFault e fault → Told ts e
by_cause ts k fault refused caused (error.Unexpected j) is =
    let cause = subst (λ f. Caused ts k f) is caused in
    (subst (λ n. IsRefused 64 512 ts n) (sym cause.0) refused, cause.1, tt)
by_cause ts k fault refused caused (error.TooNested j) is =
    let cause = subst (λ f. Caused ts k f) is caused in
    (subst (λ n. IsRefused 64 512 ts n) (sym cause.0) refused, tt, cause.1)
by_cause ts k fault refused caused error.Memory is = (tt, tt, tt)

err_told : (ts : List Token) (read : Result AUnit ParseError) (e : ParseError) → Gives (λ (u : AUnit). u) read (unit 512 64 ts) → Settles ts read (Err e) → Told ts e
err_told ts (Ok u) e h settles = no_ok (sym settles)
err_told ts (Err (error.TooNested k)) e h settles =
    let there = (begins 64 512 (all_viable 64) ts (TooNested k) h).0 in
    by_cause ts k (told ts k) (refused_there 64 512 (all_viable 64) ts (TooNested k) h) (told_caused ts k there h) e settles
err_told ts (Err (error.Unexpected k)) e h settles =
    let there = (begins 64 512 (all_viable 64) ts (Unexpected k) h).0 in
    by_cause ts k (placed ts k) (refused_there 64 512 (all_viable 64) ts (Unexpected k) h) (placed_caused ts k there (unexpected_there 64 512 ts k h)) e settles
err_told ts (Err error.Memory) e h settles = subst (λ d. Told ts d) (sym (err_same settles)) (tt, tt, tt)

pub refused_settled : (ts : List Token) (read result : Result AUnit ParseError) → Gives (λ (u : AUnit). u) read (unit 512 64 ts) → Settles ts read result
    → IfErr result (λ e. IfSome (token_of e) (λ k. IsRefused 64 512 ts k))
refused_settled ts read (Ok v) h settles = tt
refused_settled ts read (Err e) h settles = (err_told ts read e h settles).0

pub unexpected_settled : (ts : List Token) (read result : Result AUnit ParseError) → Gives (λ (u : AUnit). u) read (unit 512 64 ts) → Settles ts read result
    → IfErr result (λ e. IfSome (unexpected_of e) (λ k. IsUnexpected 64 512 ts k))
unexpected_settled ts read (Ok v) h settles = tt
unexpected_settled ts read (Err e) h settles = (err_told ts read e h settles).1

pub nested_settled : (ts : List Token) (read result : Result AUnit ParseError) → Gives (λ (u : AUnit). u) read (unit 512 64 ts) → Settles ts read result
    → IfErr result (λ e. IfSome (nested_of e) (λ k. IsTooNested 64 512 ts k))
nested_settled ts read (Ok v) h settles = tt
nested_settled ts read (Err e) h settles = (err_told ts read e h settles).2
