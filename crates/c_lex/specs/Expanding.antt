-- How macros are replaced, step by step. Only private functions cite it.
use Rattle.std.specs.Prelude.{ℕ, zero, suc, ◌+◌, ◌==◌, ◌&&◌, cond, not, Bool, true, false, List, [], ◌∷◌, ◌++◌, length, Option, Some, None, find}
use Rattle.std.specs.List.{list_any}
use Rattle.std.specs.Str.{bytes_eq}
use Rattle.c_lex.specs.declared.token.TokenKind.{TokenKind}
use Rattle.c_lex.specs.declared.token.TokenKind.TheVariants as kind
use Rattle.c_lex.specs.declared.lexeme.Lexeme.{Lexeme}
use Rattle.c_lex.specs.Pieces.{Macro}

-- ---- the macro of a token

abbrev pub is_name : TokenKind → Bool
is_name (kind.Keyword k) = false
is_name kind.Name = true
is_name (kind.Number t) = false
is_name kind.Character = false
is_name kind.Text = false
is_name (kind.Mark m) = false

-- whether the token is a name and nothing else
abbrev pub is_name_token : Lexeme → Bool
is_name_token l = is_name l.kind && l.value == 0

abbrev pub is_in : List (List ℕ) → List ℕ → Bool
is_in names word = list_any (λ name. bytes_eq name word) names

-- the macro that replaces the token
abbrev pub replacer : List Macro → List (List ℕ) → Lexeme → Option Macro
replacer macros hidden l =
    cond (is_name_token l && not (is_in hidden l.text)) (find (λ (m : Macro). bytes_eq m.name l.text) macros) None

-- how many macros aren't being replaced
abbrev pub free : List Macro → List (List ℕ) → ℕ
free [] hidden = 0
free (m ∷ ms) hidden = cond (is_in hidden m.name) 0 1 + free ms hidden

-- ---- what tokens become

abbrev pub one_becomes : (Macro → List Lexeme) → Option Macro → Lexeme → List Lexeme
one_becomes inner None l = l ∷ []
one_becomes inner (Some m) l = inner m

abbrev pub each : (Lexeme → List Lexeme) → List Lexeme → List Lexeme
each f [] = []
each f (l ∷ ls) = f l ++ each f ls

-- what the tokens become, where at most n names are replaced in one another
unfoldable pub becomes : ℕ → List Macro → List (List ℕ) → List Lexeme → List Lexeme
becomes zero macros hidden ls = ls
becomes (suc n) macros hidden ls =
    each (λ l. one_becomes (λ (m : Macro). becomes n macros (m.name ∷ hidden) m.body) (replacer macros hidden l) l) ls

-- what the tokens become
unfoldable pub expanded : List Macro → List (List ℕ) → List Lexeme → List Lexeme
expanded macros hidden ls = becomes (length macros) macros hidden ls

-- ---- how long it takes

abbrev pub steps_of : (Macro → ℕ) → Option Macro → ℕ
steps_of inner None = 1
steps_of inner (Some m) = suc (inner m)

-- one step for the end of the tokens
abbrev pub all_steps : (Lexeme → ℕ) → List Lexeme → ℕ
all_steps f [] = 1
all_steps f (l ∷ ls) = f l + all_steps f ls

unfoldable pub steps : ℕ → List Macro → List (List ℕ) → List Lexeme → ℕ
steps zero macros hidden ls = all_steps (λ l. 1) ls
steps (suc n) macros hidden ls =
    all_steps (λ l. steps_of (λ (m : Macro). steps n macros (m.name ∷ hidden) m.body) (replacer macros hidden l)) ls

-- how many steps the tokens take, one for each token and one for each end
unfoldable pub work : List Macro → List (List ℕ) → List Lexeme → ℕ
work macros hidden ls = steps (length macros) macros hidden ls
