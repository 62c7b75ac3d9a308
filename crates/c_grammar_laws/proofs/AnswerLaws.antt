-- Each list of tokens has one answer, and what is told of it is that one.
use Rattle.std.proofs.Common.{◌≡◌, ℕ, Result, Ok, Err, List, refl, sym, ap, subst}
use Rattle.std.specs.Prelude.{IfErr, IfSome, IfOk}
use Rattle.c_lex.specs.declared.token.Token.{Token}
use Rattle.c_ast.specs.declared.declaration.Unit.{Unit as AUnit}
use Rattle.c_grammar.specs.declared.error.ParseError.{ParseError}
use Rattle.c_grammar.specs.declared.error.ParseError.TheVariants as error
use Rattle.c_grammar.specs.Grammar.{ParsesWithin}
use Rattle.c_grammar.specs.Refusals.{IsRefused, IsUnexpected, IsTooNested, token_of, unexpected_of, nested_of}
use Rattle.c_grammar.specs.Reading.{Fault, Outcome}
use Rattle.c_grammar.specs.Reading as reading
use Rattle.c_grammar.specs.ReadingStmt.{unit}
use Rattle.c_grammar.specs.Told.{placed, told}
use Rattle.c_grammar_laws.specs.Answers.{Answer, Whole, Unexpected, TooNested, IsAnswer, Gives}
use Rattle.c_grammar_laws.proofs.LevelLaws.{readers_sound, readers_complete}
use Rattle.c_grammar_laws.proofs.UnitLaws.{unit_sound}
use Rattle.c_grammar_laws.proofs.UnitComplete.{one_parse}
use Rattle.c_grammar_laws.proofs.RefusalLaws.{begins, refused_there, unexpected_there, goes_on, one_refused}
use Rattle.c_grammar_laws.proofs.UnitRefused.{all_viable}
use Rattle.c_grammar_laws.proofs.CauseLaws.{Caused, placed_caused, told_caused, one_caused}

-- ---- some answer

by_cause : (ts : List Token) (k : ℕ) → IsRefused 64 512 ts k → (fault : Fault) → Caused ts k fault → (answer : Answer) × IsAnswer 64 512 ts answer
by_cause ts k refused (reading.Unexpected j) caused = (Unexpected j, (subst (λ n. IsRefused 64 512 ts n) (sym caused.0) refused, caused.1))
by_cause ts k refused (reading.TooNested j) caused = (TooNested j, (subst (λ n. IsRefused 64 512 ts n) (sym caused.0) refused, caused.1))

pub some_answer : (ts : List Token) → (answer : Answer) × IsAnswer 64 512 ts answer
some_answer ts = by_reading (unit 512 64 ts) refl
  where
    by_reading : (o : Outcome AUnit) → unit 512 64 ts ≡ o → (answer : Answer) × IsAnswer 64 512 ts answer
    by_reading (Ok u) h = (Whole u, unit_sound 512 64 ts (λ room. readers_sound _ 512 room) u h)
    by_reading (Err (reading.Unexpected k)) h =
        let there = (begins 64 512 (all_viable 64) ts (reading.Unexpected k) h).0 in
        by_cause ts k (refused_there 64 512 (all_viable 64) ts (reading.Unexpected k) h) (placed ts k)
        (placed_caused ts k there (unexpected_there 64 512 ts k h))
    by_reading (Err (reading.TooNested k)) h =
        let there = (begins 64 512 (all_viable 64) ts (reading.TooNested k) h).0 in
        by_cause ts k (refused_there 64 512 (all_viable 64) ts (reading.TooNested k) h) (told ts k) (told_caused ts k there h)

-- ---- one answer

not_refused : (limit most : ℕ) (ts : List Token) (u : AUnit) (k : ℕ) → ParsesWithin limit most ts u → IsRefused limit most ts k → ⊥
not_refused limit most ts u k parses refused = refused.stops (goes_on limit most ts u parses k refused.there)

same_token : (limit most : ℕ) (ts : List Token) (j k : ℕ) → IsRefused limit most ts j → IsRefused limit most ts k → j ≡ k
same_token limit most ts j k = one_refused limit most (all_viable limit) ts j k

one_cause : (limit most : ℕ) (ts : List Token) (j k : ℕ) → IsRefused limit most ts j → IsRefused limit most ts k → IsUnexpected limit most ts j
    → IsTooNested limit most ts k → ⊥
one_cause limit most ts j k r s unexpected nested =
    one_caused limit most ts k (subst (λ n. IsUnexpected limit most ts n) (same_token limit most ts j k r s) unexpected) nested

pub one_answer : (limit most : ℕ) (ts : List Token) (a b : Answer) → IsAnswer limit most ts a → IsAnswer limit most ts b → a ≡ b
one_answer limit most ts (Whole u) (Whole v) p q = ap Whole (one_parse readers_complete ts u v (limit, most, p) (limit, most, q))
one_answer limit most ts (Whole u) (Unexpected k) p q = absurd (not_refused limit most ts u k p q.0)
one_answer limit most ts (Whole u) (TooNested k) p q = absurd (not_refused limit most ts u k p q.0)
one_answer limit most ts (Unexpected j) (Whole v) p q = absurd (not_refused limit most ts v j q p.0)
one_answer limit most ts (Unexpected j) (Unexpected k) p q = ap Unexpected (same_token limit most ts j k p.0 q.0)
one_answer limit most ts (Unexpected j) (TooNested k) p q = absurd (one_cause limit most ts j k p.0 q.0 p.1 q.1)
one_answer limit most ts (TooNested j) (Whole v) p q = absurd (not_refused limit most ts v j q p.0)
one_answer limit most ts (TooNested j) (Unexpected k) p q = absurd (one_cause limit most ts k j q.0 p.0 q.1 p.1)
one_answer limit most ts (TooNested j) (TooNested k) p q = ap TooNested (same_token limit most ts j k p.0 q.0)

-- ---- what is told

-- a true result tells each answer
pub only_told : (ts : List Token) (result : Result AUnit ParseError) → IfOk result (λ u. ParsesWithin 64 512 ts u)
    → IfErr result (λ e. IfSome (token_of e) (λ k. IsRefused 64 512 ts k)) → IfErr result (λ e. IfSome (unexpected_of e) (λ k. IsUnexpected 64 512 ts k))
    → IfErr result (λ e. IfSome (nested_of e) (λ k. IsTooNested 64 512 ts k)) → (answer : Answer) → IsAnswer 64 512 ts answer → Gives result answer
only_told ts (Ok u) parses refused unexpected nested answer is = one_answer 64 512 ts answer (Whole u) is parses
only_told ts (Err (error.Unexpected k)) parses refused unexpected nested answer is =
    one_answer 64 512 ts answer (Unexpected k) is (refused, unexpected)
only_told ts (Err (error.TooNested k)) parses refused unexpected nested answer is =
    one_answer 64 512 ts answer (TooNested k) is (refused, nested)
only_told ts (Err error.Memory) parses refused unexpected nested answer is = tt
