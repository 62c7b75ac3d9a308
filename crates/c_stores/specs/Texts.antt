-- Strings that initialise arrays of characters (C11, 6.7.9p14).
use Rattle.std.specs.Prelude.{ℕ, ◌+◌, ◌-◌, nat_lt, if◌then◌else◌, List, [], ◌∷◌, ◌++◌, Option, Some, None}
use Rattle.rank_range.specs.declared.kinds.Kind.{Kind}
use Rattle.rank_range.specs.declared.kinds.Kind.TheVariants as kind
use Rattle.rank_range.specs.Kinds.{extended}
use Rattle.c_ast.specs.declared.declaration.DirectSuffix.TheOpen.{Expr-F}
use Rattle.c_ast.specs.declared.expression.Expr.{Expr, fold-Expr}
use Rattle.c_types.specs.declared.ctype.CType.{CType}
use Rattle.c_types.specs.declared.ctype.Base.{Base}
use Rattle.c_types.specs.declared.ctype.Base.TheVariants as base
use Rattle.c_types.specs.declared.ctype.Part.{Part}
use Rattle.c_types.specs.declared.ctype.Part.TheVariants as part
use Rattle.c_types.specs.declared.expression.Operand.TheVariants as operand
use Rattle.c_types.specs.declared.statement.Store.{Store}
use Rattle.c_types.specs.declared.statement.Stored.TheVariants as put
use Rattle.c_types.specs.Sizes.{size_limit}
use Rattle.c_typing.specs.declared.rules.Rule.{Rule}
use Rattle.c_typing.specs.declared.rules.Rule.TheVariants as rule
use Rattle.c_typing.specs.Types.{last_part}

-- The characters of a string. In parentheses it is none.
abbrev pub Skipped : Type 0
Skipped = Unit {0}

abbrev pub text_step : Expr-F Skipped Skipped Skipped (Option (List ℕ)) Skipped Skipped Skipped → Option (List ℕ)
text_step (Expr-F.Name name) = None
text_step (Expr-F.Number token value t) = None
text_step (Expr-F.Character token value) = None
text_step (Expr-F.Text token bytes) = Some bytes
text_step (Expr-F.Paren token v) = None
text_step (Expr-F.Postfix token v os) = None
text_step (Expr-F.Prefix token o v) = None
text_step (Expr-F.SizeofExpr token v) = None
text_step (Expr-F.SizeofType token t) = None
text_step (Expr-F.Cast token t v) = None
text_step (Expr-F.Binary token v ls) = None
text_step (Expr-F.Conditional token v at a b) = None
text_step (Expr-F.Assign token v at o w) = None
text_step (Expr-F.Comma token v vs) = None

unfoldable pub text_of : Expr → Option (List ℕ)
text_of =
    fold-Expr Skipped Skipped Skipped (Option (List ℕ)) Skipped Skipped Skipped (λ _. tt) (λ _. tt) (λ _. tt) text_step (λ _. tt) (λ _. tt) (λ _. tt)

-- An array takes as many characters as it has elements; one of open size takes a string and its zero, if it isn't too large then. No object has
-- more bytes than it may have.
abbrev pub text_room : Option Part → ℕ
text_room (Some (part.Array count)) = count
text_room (Some (part.Pointer is_const)) = size_limit - 1
text_room (Some part.OpenArray) = size_limit - 1
text_room None = size_limit - 1

abbrev pub text_misfit : Option Part → Rule
text_misfit (Some (part.Array count)) = rule.InitialiserUnfit
text_misfit (Some (part.Pointer is_const)) = rule.TooLarge
text_misfit (Some part.OpenArray) = rule.TooLarge
text_misfit None = rule.TooLarge

abbrev pub text_rule : CType → ℕ → ℕ → Option Rule
text_rule t offset count =
    if nat_lt (text_room (last_part t)) count then Some (text_misfit (last_part t))
    else if nat_lt (size_limit - offset) count then Some rule.TooLarge
    else None

abbrev pub kind_by : Base → Kind
kind_by base.Void = kind.Char
kind_by (base.Whole k) = k
kind_by (base.Struct n) = kind.Char

abbrev pub text_kind : CType → Kind
text_kind t = kind_by t.base

-- Each character is stored as a number, at the string's token.
abbrev pub character_store : ℕ → Kind → ℕ → ℕ → Store
character_store token k offset byte = record {
  offset = offset;
  stored = put.Number k;
  value = record { token = token; expr = record { first = operand.Number (extended k byte); steps = [] } };
}

abbrev pub with_text : ℕ → Kind → ℕ → List Store → List ℕ → List Store
with_text token k offset stores [] = stores
with_text token k offset stores (b ∷ bs) = with_text token k (offset + 1) (stores ++ character_store token k offset b ∷ []) bs
