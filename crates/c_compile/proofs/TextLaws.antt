-- What lexer and parser tell of a text.
use Rattle.std.proofs.Common.{◌≡◌, ℕ, suc, ◌+◌, ◌≤◌, ◌<◌, ◌^◌, ◌⊎◌, ◌&&◌, Bool, true, false, cond, List, [], ◌∷◌, length, refl, sym, ap, ◌∙◌, arith, inl, inr}
use Rattle.std.specs.Prelude.{IfSome}
use Rattle.c_lex.specs.declared.token.Token.{Token as AToken}
use Rattle.c_lex.specs.declared.error.LexError.{LexError}
use Rattle.c_lex.specs.declared.error.LexError.TheVariants as lex_error
use Rattle.c_lex.specs.Faults.{Cause as Fault}
use Rattle.c_lex.specs.Faults as fault
use Rattle.c_lex.specs.Tokens.{is_text, with_text, before_joined, joined, most_tokens, AreTokens, IsFault, IsAnswer, fault_of}
use Rattle.c_grammar.specs.declared.error.ParseError.{ParseError}
use Rattle.c_grammar.specs.declared.error.ParseError.TheVariants as parse_error
use Rattle.c_grammar.specs.Refusals.{IsRefused, IsUnexpected, IsTooNested, token_of, unexpected_of, nested_of}
use Rattle.c_compile.specs.declared.cause.Cause.TheVariants as cause
use Rattle.c_compile.specs.Lines.{line_of_byte, lines_of, line_in}
use Rattle.c_compile.specs.Texts.{cause_of, HasNoTokens, HasNoTree, IsWhyNot, told_by_lexer, told_by_parser}

-- ---- joining makes no tokens

one_more : (t : AToken) (us : List AToken) → length (before_joined t us) ≤ suc (length us)
one_more t [] = omega (arith)
one_more t (u ∷ us) = by (is_text t.kind && is_text u.kind)
  where
    by : (b : Bool) → length (cond b (with_text t u.text ∷ us) (t ∷ u ∷ us)) ≤ suc (suc (length us))
    by true = omega (arith)
    by false = omega (arith)

joined-few : (ts : List AToken) → length (joined ts) ≤ length ts
joined-few [] = omega (arith)
joined-few (t ∷ ts) = omega (arith, one_more t (joined ts), joined-few ts)

pub tokens-few : (text : List ℕ) (tokens : List AToken) → AreTokens text tokens → length tokens < 2 ^ 32
tokens-few text tokens (ps, out, right, same) = omega (arith, ap (λ (ts : List AToken). length ts) same, joined-few out, right.few)

-- ---- what the lexer tells

no_tokens : (text : List ℕ) (f : Fault) (at : ℕ) → IsFault text f at → HasNoTokens text (cause_of f) (line_of_byte text at)
no_tokens text f at h = record { fault_is = f; at = at; is_fault = h; why_is = refl; line_is = refl }

pub lexer-tells : (text : List ℕ) (e : LexError) → IfSome (fault_of e) (λ answer. IsAnswer text answer) → IsWhyNot text (told_by_lexer text e)
lexer-tells text (lex_error.BadByte at) h = inl (no_tokens text fault.BadByte at h)
lexer-tells text (lex_error.FloatLiteral at) h = inl (no_tokens text fault.FloatLiteral at h)
lexer-tells text (lex_error.OutWord at) h = inl (no_tokens text fault.OutWord at h)
lexer-tells text (lex_error.TooWide at) h = inl (no_tokens text fault.TooWide at h)
lexer-tells text (lex_error.Unclosed at) h = inl (no_tokens text fault.Unclosed at h)
lexer-tells text (lex_error.Directive at) h = inl (no_tokens text fault.Directive at h)
lexer-tells text (lex_error.TooMany at) h = inl (no_tokens text fault.TooMany at h)
lexer-tells text lex_error.Memory h = tt

-- ---- what the parser tells

pub parser-tells : (text : List ℕ) (tokens : List AToken) → AreTokens text tokens → (lines : List ℕ) → lines ≡ lines_of text tokens
    → (e : ParseError) → IfSome (token_of e) (λ k. IsRefused 64 512 tokens k) → IfSome (unexpected_of e) (λ k. IsUnexpected 64 512 tokens k)
    → IfSome (nested_of e) (λ k. IsTooNested 64 512 tokens k) → IsWhyNot text (told_by_parser lines e)
parser-tells text tokens are lines same (parse_error.Unexpected k) refused unexpected nested = inr (record {
  tokens = tokens;
  are_tokens = are;
  token = k;
  refused = refused;
  why_is = inl (refl, unexpected);
  line_is = ap (λ (ls : List ℕ). line_in ls k) same;
})
parser-tells text tokens are lines same (parse_error.TooNested k) refused unexpected nested = inr (record {
  tokens = tokens;
  are_tokens = are;
  token = k;
  refused = refused;
  why_is = inr (refl, nested);
  line_is = ap (λ (ls : List ℕ). line_in ls k) same;
})
parser-tells text tokens are lines same parse_error.Memory refused unexpected nested = tt
