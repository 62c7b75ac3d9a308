-- The values of constant expressions (C11, 6.6). They have numbers, characters, enumerators and constants of headers, sizes of
-- types and expressions, casts to whole types, and operators without assignment, call or comma. What traps where it is evaluated
-- has no value.
use Rattle.std.specs.Prelude.{ℕ, ◌==◌, nat_eq, not, if◌then◌else◌, List, [], ◌∷◌, map, Option, Some, None, Result, Ok, Err}
use Rattle.std.specs.Map.{lookup}
use Rattle.am_base.specs.declared.traps.TrapCause.{TrapCause}
use Rattle.rank_range.specs.declared.kinds.Kind.{Kind}
use Rattle.rank_range.specs.declared.kinds.Kind.TheVariants as kind
use Rattle.rank_range.specs.declared.operators.Unary.{Unary}
use Rattle.rank_range.specs.declared.operators.Unary.TheVariants as unary
use Rattle.rank_range.specs.declared.operators.Binary.{Binary}
use Rattle.rank_range.specs.declared.operators.Binary.TheVariants as machine
use Rattle.rank_range.specs.Kinds.{promoted, usual, extended, convert}
use Rattle.rank_range.specs.Operators.{truth, operate_one, operate}
use Rattle.c_ast.specs.declared.words.NumberType.{NumberType}
use Rattle.c_ast.specs.declared.words.NumberType.TheVariants as literal
use Rattle.c_ast.specs.declared.words.PrefixOp.{PrefixOp}
use Rattle.c_ast.specs.declared.words.PrefixOp.TheVariants as prefix
use Rattle.c_ast.specs.declared.words.BinaryOp.{BinaryOp}
use Rattle.c_ast.specs.declared.words.BinaryOp.TheVariants as op
use Rattle.c_ast.specs.declared.declaration.DirectSuffix.TheOpen.{Expr-F}
use Rattle.c_ast.specs.declared.expression.Link.{Link}
use Rattle.c_ast.specs.declared.expression.Expr.{Expr, fold-Expr}
use Rattle.c_types.specs.declared.names.Names.{Names}
use Rattle.c_types.specs.declared.names.Named.{Named}
use Rattle.c_types.specs.declared.names.Named.TheVariants as named
use Rattle.c_types.specs.Names.{meant}
use Rattle.c_const.specs.declared.evaluated.Evaluated.{Evaluated}
use Rattle.c_const.specs.declared.told.Told.{Told}
use Rattle.c_const.specs.declared.told.Told.TheVariants as told
use Rattle.c_const.specs.declared.expressions.Number.{Number}
use Rattle.c_const.specs.declared.error.ConstError.{ConstError}
use Rattle.c_const.specs.declared.error.ConstError.TheVariants.{NotConstant}

-- the value of the kind that a word stands for
abbrev pub of_kind : Kind → ℕ → Evaluated
of_kind k word = record { kind = k; word = Some (extended k word) }

-- a word as one of another kind, where there is one
abbrev pub converted_word : Kind → Kind → Option ℕ → Option ℕ
converted_word from to (Some word) = Some (convert word from to)
converted_word from to None = None

-- a value as one of another kind
abbrev pub as_kind : Kind → Evaluated → Evaluated
as_kind to v = record { kind = to; word = converted_word v.kind to v.word }

-- the type of a number (C11, 6.4.4.1)
abbrev pub number_kind : NumberType → Kind
number_kind literal.Int = kind.Int
number_kind literal.UnsignedInt = kind.Unsigned
number_kind literal.Long = kind.Long
number_kind literal.UnsignedLong = kind.UnsignedLong

-- 1 where a word isn't that of 0, and else 0
abbrev pub truth_word : Option ℕ → Option ℕ
truth_word (Some x) = Some (truth (not (x == 0)))
truth_word None = None

abbrev pub falsity_word : Option ℕ → Option ℕ
falsity_word (Some x) = Some (truth (x == 0))
falsity_word None = None

-- the value of a test
abbrev pub test_of : Option ℕ → Evaluated
test_of word = record { kind = kind.Int; word = word }

-- `-x` and `~x`
abbrev pub changed_word : Unary → Kind → Option ℕ → Option ℕ
changed_word u k (Some x) = Some (operate_one u k x)
changed_word u k None = None

abbrev pub changed : Unary → Evaluated → Evaluated
changed u v = record { kind = v.kind; word = changed_word u v.kind v.word }

-- The operators before their operand (C11, 6.5.3.3): the operand of `+`, `-` and `~` is promoted.
abbrev pub prefixed : PrefixOp → Evaluated → Option Evaluated
prefixed prefix.Increment v = None
prefixed prefix.Decrement v = None
prefixed prefix.Address v = None
prefixed prefix.Deref v = None
prefixed prefix.Plus v = Some (as_kind (promoted v.kind) v)
prefixed prefix.Minus v = Some (changed unary.Negate (as_kind (promoted v.kind) v))
prefixed prefix.Complement v = Some (changed unary.Complement (as_kind (promoted v.kind) v))
prefixed prefix.Not v = Some (test_of (falsity_word v.word))

-- what an operator gives, where both operands have a value and it doesn't trap
abbrev pub untrapped : Result ℕ TrapCause → Option ℕ
untrapped (Ok word) = Some word
untrapped (Err cause) = None

abbrev pub operated : Binary → Kind → Option ℕ → Option ℕ → Option ℕ
operated o k (Some x) (Some y) = untrapped (operate o k x y)
operated o k (Some x) None = None
operated o k None y = None

-- An operator works on operands of the kind of the usual conversions (C11, 6.3.1.8),
abbrev pub common_word : Binary → Evaluated → Evaluated → Option ℕ
common_word o a b =
    operated o (usual a.kind b.kind) (converted_word a.kind (usual a.kind b.kind) a.word) (converted_word b.kind (usual a.kind b.kind) b.word)

-- and what it gives has that kind,
abbrev pub arithmetic : Binary → Evaluated → Evaluated → Evaluated
arithmetic o a b = record { kind = usual a.kind b.kind; word = common_word o a b }

-- but a comparison gives an `int` (C11, 6.5.8 and 6.5.9),
abbrev pub compared : Binary → Evaluated → Evaluated → Evaluated
compared o a b = test_of (common_word o a b)

-- and a shift promotes each operand by itself, and has the kind of the left one (C11, 6.5.7).
abbrev pub shifted : Binary → Evaluated → Evaluated → Evaluated
shifted o a b = record {
  kind = promoted a.kind;
  word = operated o (promoted a.kind) (converted_word a.kind (promoted a.kind) a.word) (converted_word b.kind (promoted b.kind) b.word);
}

-- `&&` and `||` evaluate the right operand only where the left one doesn't decide (C11, 6.5.13 and 6.5.14).
abbrev pub and_word : Option ℕ → Option ℕ → Option ℕ
and_word (Some x) b = if x == 0 then Some 0 else truth_word b
and_word None b = None

abbrev pub or_word : Option ℕ → Option ℕ → Option ℕ
or_word (Some x) b = if x == 0 then truth_word b else Some 1
or_word None b = None

abbrev pub joined : BinaryOp → Evaluated → Evaluated → Evaluated
joined op.Or a b = test_of (or_word a.word b.word)
joined op.And a b = test_of (and_word a.word b.word)
joined op.BitOr a b = arithmetic machine.Or a b
joined op.BitXor a b = arithmetic machine.Xor a b
joined op.BitAnd a b = arithmetic machine.And a b
joined op.Equal a b = compared machine.Equal a b
joined op.NotEqual a b = compared machine.NotEqual a b
joined op.Less a b = compared machine.Less a b
joined op.Greater a b = compared machine.Less b a
joined op.AtMost a b = compared machine.AtMost a b
joined op.AtLeast a b = compared machine.AtMost b a
joined op.ShiftLeft a b = shifted machine.ShiftLeft a b
joined op.ShiftRight a b = shifted machine.ShiftRight a b
joined op.Add a b = arithmetic machine.Add a b
joined op.Subtract a b = arithmetic machine.Subtract a b
joined op.Multiply a b = arithmetic machine.Multiply a b
joined op.Divide a b = arithmetic machine.Divide a b
joined op.Remainder a b = arithmetic machine.Remainder a b

-- Both operands have the form of a constant expression, also the one that isn't evaluated.
abbrev pub binary : BinaryOp → Option Evaluated → Option Evaluated → Option Evaluated
binary o (Some a) (Some b) = Some (joined o a b)
binary o (Some a) None = None
binary o None b = None

-- of two words the one that a test chooses, where it has a value
abbrev pub chosen_word : Option ℕ → Option ℕ → Option ℕ → Option ℕ
chosen_word (Some x) a b = if x == 0 then b else a
chosen_word None a b = None

-- `?:` has the kind of the usual conversions of its branches, and evaluates one of them (C11, 6.5.15).
abbrev pub chosen : Evaluated → Evaluated → Evaluated → Evaluated
chosen t a b = record {
  kind = usual a.kind b.kind;
  word = chosen_word t.word (converted_word a.kind (usual a.kind b.kind) a.word) (converted_word b.kind (usual a.kind b.kind) b.word);
}

abbrev pub conditional : Option Evaluated → Option Evaluated → Option Evaluated → Option Evaluated
conditional (Some t) (Some a) (Some b) = Some (chosen t a b)
conditional (Some t) (Some a) None = None
conditional (Some t) None b = None
conditional None a b = None

-- operators of one level, from left to right
abbrev pub chain : Option Evaluated → List (Link (Option Evaluated)) → Option Evaluated
chain a [] = a
chain a (l ∷ ls) = chain (binary l.op a l.right) ls

-- a name that means a constant
abbrev pub constant_named : Option Named → Option Evaluated
constant_named (Some (named.Constant k value)) = Some (of_kind k value)
constant_named (Some (named.Type t)) = None
constant_named (Some (named.FunctionType t)) = None
constant_named (Some (named.NullPointer t)) = None
constant_named (Some (named.Local offset t)) = None
constant_named (Some (named.Object n t)) = None
constant_named (Some (named.Function n t)) = None
constant_named (Some (named.Library call t)) = None
constant_named (Some (named.Mpi call t)) = None
constant_named None = None

-- a size, which is an `unsigned long` (C11, 6.5.3.4), and a cast to a whole type (C11, 6.5.4), by what is told of them
abbrev pub size_told : Option Told → Option Evaluated
size_told (Some (told.Size bytes)) = Some (of_kind kind.UnsignedLong bytes)
size_told (Some (told.Whole k)) = None
size_told None = None

abbrev pub cast_to : Kind → Option Evaluated → Option Evaluated
cast_to k (Some v) = Some (as_kind k v)
cast_to k None = None

abbrev pub cast_told : Option Told → Option Evaluated → Option Evaluated
cast_told (Some (told.Whole k)) v = cast_to k v
cast_told (Some (told.Size bytes)) v = None
cast_told None v = None

abbrev pub prefixed_part : PrefixOp → Option Evaluated → Option Evaluated
prefixed_part o (Some v) = prefixed o v
prefixed_part o None = None

-- What an expression with these parts has: the kind of its value, and its word where its evaluation doesn't trap; nothing where
-- it hasn't the form of a constant expression.
module _ (names : List ℕ → Option Named) (types : ℕ → Option Told) where
  abbrev pub expr_step : Expr-F (Unit {0}) (Unit {0}) (Unit {0}) (Option Evaluated) (Unit {0}) (Unit {0}) (Unit {0}) → Option Evaluated
  expr_step (Expr-F.Name name) = constant_named (names name.text)
  expr_step (Expr-F.Number token value t) = Some (of_kind (number_kind t) value)
  expr_step (Expr-F.Character token value) = Some (of_kind kind.Int value)
  expr_step (Expr-F.Text token bytes) = None
  expr_step (Expr-F.Paren token v) = v
  expr_step (Expr-F.Postfix token v os) = None
  expr_step (Expr-F.Prefix token o v) = prefixed_part o v
  expr_step (Expr-F.SizeofExpr token v) = size_told (types token)
  expr_step (Expr-F.SizeofType token t) = size_told (types token)
  expr_step (Expr-F.Cast token t v) = cast_told (types token) v
  expr_step (Expr-F.Binary token v ls) = chain v ls
  expr_step (Expr-F.Conditional token v at a b) = conditional v a b
  expr_step (Expr-F.Assign token v at o w) = None
  expr_step (Expr-F.Comma token v vs) = None

  unfoldable pub evaluated : Expr → Option Evaluated
  evaluated =
      fold-Expr (Unit {0}) (Unit {0}) (Unit {0}) (Option Evaluated) (Unit {0}) (Unit {0}) (Unit {0}) (λ _. tt) (λ _. tt) (λ _. tt) expr_step (λ _. tt) (λ _. tt) (λ _. tt)

  -- operators of one level with what their right operands have
  abbrev pub evaluated_link : Link Expr → Link (Option Evaluated)
  evaluated_link l = record { at = l.at; op = l.op; right = evaluated l.right }

  abbrev pub evaluated_links : List (Link Expr) → List (Link (Option Evaluated))
  evaluated_links ls = map evaluated_link ls

-- the first token of an expression
abbrev pub token_step : Expr-F (Unit {0}) (Unit {0}) (Unit {0}) ℕ (Unit {0}) (Unit {0}) (Unit {0}) → ℕ
token_step (Expr-F.Name name) = name.token
token_step (Expr-F.Number token value t) = token
token_step (Expr-F.Character token value) = token
token_step (Expr-F.Text token bytes) = token
token_step (Expr-F.Paren token v) = token
token_step (Expr-F.Postfix token v os) = token
token_step (Expr-F.Prefix token o v) = token
token_step (Expr-F.SizeofExpr token v) = token
token_step (Expr-F.SizeofType token t) = token
token_step (Expr-F.Cast token t v) = token
token_step (Expr-F.Binary token v ls) = token
token_step (Expr-F.Conditional token v at a b) = token
token_step (Expr-F.Assign token v at o w) = token
token_step (Expr-F.Comma token v vs) = token

unfoldable pub first_token : Expr → ℕ
first_token =
    fold-Expr (Unit {0}) (Unit {0}) (Unit {0}) ℕ (Unit {0}) (Unit {0}) (Unit {0}) (λ _. tt) (λ _. tt) (λ _. tt) token_step (λ _. tt) (λ _. tt) (λ _. tt)

-- what a name in scope means
abbrev pub names_in : Names → List ℕ → Option Named
names_in env name = meant env.ordinary.names env.ordinary.meanings name

-- what is told of a token
abbrev pub told_in : List (ℕ × Told) → ℕ → Option Told
told_in entries token = lookup (nat_eq token) entries

-- The answer: the value of a constant expression, or that an expression is none, at its first token.
abbrev pub with_word : ℕ → Kind → Option ℕ → Result Number ConstError
with_word token k (Some word) = Ok (record { kind = k; word = word })
with_word token k None = Err (NotConstant token)

abbrev pub settled : ℕ → Option Evaluated → Result Number ConstError
settled token (Some v) = with_word token v.kind v.word
settled token None = Err (NotConstant token)

-- the value of an expression in these scopes, where this is told of its type names
abbrev pub constant_of : Names → List (ℕ × Told) → Expr → Result Number ConstError
constant_of env types e = settled (first_token e) (evaluated (names_in env) (told_in types) e)
