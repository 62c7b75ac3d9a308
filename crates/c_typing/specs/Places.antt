-- Elements and members (C11, 6.5.2.1 and 6.5.2.3).
use Rattle.std.specs.Prelude.{ℕ, ◌≡◌, ◌&&◌, ◌||◌, if◌then◌else◌, not, Bool, true, false, List, [], ◌∷◌, Option, Some, None, Result, Ok, Err}
use Rattle.std.specs.Str.{bytes_eq}
use denote.Ref.{Bor}
use Rattle.c_types.specs.declared.ctype.CType.{CType}
use Rattle.c_types.specs.declared.ctype.Base.{Base}
use Rattle.c_types.specs.declared.ctype.Base.TheVariants as base
use Rattle.c_types.specs.declared.ctype.Part.{Part}
use Rattle.c_types.specs.declared.ctype.Member.{Member}
use Rattle.c_types.specs.declared.ctype.StructLayout.{StructLayout}
use Rattle.c_types.specs.declared.expression.Expr.{Expr}
use Rattle.c_types.specs.declared.expression.Step.TheVariants as step
use Rattle.c_types.specs.Sizes.{Structs, layout_of}
use Rattle.c_typing.specs.declared.judged.Judged.{Judged}
use Rattle.c_typing.specs.declared.judged.Judged.TheVariants as judged
use Rattle.c_typing.specs.declared.judged.Value.{Value}
use Rattle.c_typing.specs.declared.judged.Sort.{Sort}
use Rattle.c_typing.specs.declared.judged.Sort.TheVariants as sort
use Rattle.c_typing.specs.declared.classes.Class.{Class}
use Rattle.c_typing.specs.declared.pairs.Pair.{Pair}
use Rattle.c_typing.specs.declared.rules.Rule.{Rule}
use Rattle.c_typing.specs.declared.rules.Rule.TheVariants as rule
use Rattle.c_typing.specs.Rules.{Row, row, first_of, unless}
use Rattle.c_typing.specs.Types.{without_last, is_const, with_const}
use Rattle.c_typing.specs.Classes.{class_of, is_whole, is_pointer, is_unmoved, is_function, kind_in}
use Rattle.c_typing.specs.Values.{used}
use Rattle.c_typing.specs.Trees.{behind, operation}
use Rattle.c_typing.specs.Pairs.{pair_of}
use Rattle.c_typing.specs.Operators.{sum_plan}

-- The index of `a[b]` is the operand that isn't the pointer. Where both are, or none is, it is the right one.
abbrev pub is_number_beside : Pair → Bool
is_number_beside p = if is_pointer p.right then is_whole p.left else is_whole p.right

abbrev pub index_rows : Pair → List Row
index_rows p =
    row rule.Incomplete ((is_unmoved p.left && is_whole p.right) || (is_whole p.left && is_unmoved p.right))
    ∷ row rule.NotWhole ((is_pointer p.left && not (is_whole p.right)) || (not (is_pointer p.left) && not (is_number_beside p)))
    ∷ row rule.NotScalar (is_function p.left || is_function p.right)
    ∷ row rule.NotPointer (not (is_pointer p.left || is_pointer p.right))
    ∷ []

abbrev pub pointed_to : Class → CType → CType → CType
pointed_to left s t = if is_pointer left then without_last s else without_last t

-- `a[b]` is `*(a + b)`.
abbrev pub element : Pair → Value → Value → Judged
element p a b = judged.Place (pointed_to p.left a.of b.of)
    (operation
    (record { tree = a.tree; from = kind_in p.left; to = (sum_plan p).left })
    (sum_plan p).step
    (record { tree = b.tree; from = kind_in p.right; to = (sum_plan p).right }))

abbrev pub indexed : Structs → Value → Value → Result Judged Rule
indexed structs a b = unless (first_of (index_rows (pair_of structs a b))) (element (pair_of structs a b) a b)

unfoldable pub index : Structs → Judged → Judged → Result Judged Rule
index structs a b = indexed structs (used a) (used b)

-- a member that is lent, or a rule
abbrev pub lent : Result (Bor Member) Rule → Result Member Rule
lent (Ok m) = Ok m.now
lent (Err r) = Err r

-- the member with a name
abbrev pub found_member : List Member → List ℕ → Option Member
found_member [] name = None
found_member (m ∷ ms) name = if bytes_eq m.name name then Some m else found_member ms name

abbrev pub member_or : Option Member → Result Member Rule
member_or (Some m) = Ok m
member_or None = Err rule.NoSuchMember

-- A structure whose members aren't known is incomplete.
abbrev pub member_in : List ℕ → Option StructLayout → Result Member Rule
member_in name (Some l) = member_or (found_member l.members name)
member_in name None = Err rule.Incomplete

abbrev pub member_by : Structs → List ℕ → List Part → Base → Result Member Rule
member_by structs name [] (base.Struct n) = member_in name (layout_of structs n)
member_by structs name [] base.Void = Err rule.NoSuchMember
member_by structs name [] (base.Whole k) = Err rule.NoSuchMember
member_by structs name (p ∷ ps) b = Err rule.NoSuchMember

-- The member of a structure's type, or the rule that is broken: only a structure has members.
abbrev pub member_of : Structs → List ℕ → CType → Result Member Rule
member_of structs name t = member_by structs name t.parts t.base

-- A member of a `const` structure is `const`.
abbrev pub member_type : Bool → CType → CType
member_type true t = with_const t
member_type false t = t

abbrev pub member_place : Member → Bool → Expr → Judged
member_place m is_const e = judged.Place (member_type is_const m.of) (behind e (step.Member m.offset))

abbrev pub member_at : Result Member Rule → Bool → Expr → Result Judged Rule
member_at (Ok m) is_const e = Ok (member_place m is_const e)
member_at (Err r) is_const e = Err r

-- A structure that is no place has no members that could be used.
abbrev pub used_member : Result Member Rule → Rule
used_member (Ok m) = rule.StructUsed
used_member (Err r) = r

abbrev pub value_member_by : Result Member Rule → Sort → Rule
value_member_by found sort.Plain = used_member found
value_member_by found sort.NullPointer = used_member found
value_member_by found sort.Function = rule.NoSuchMember

abbrev pub value_member_rule : Structs → List ℕ → Value → Rule
value_member_rule structs name v = value_member_by (member_of structs name v.of) v.sort

unfoldable pub member : Structs → List ℕ → Judged → Result Judged Rule
member structs name (judged.Place t e) = member_at (member_of structs name t) (is_const t) e
member structs name (judged.Value v) = Err (value_member_rule structs name v)
member structs name (judged.Function t callee) = Err rule.NoSuchMember

-- `a->name` is `(*a).name`.
abbrev pub through : Structs → List ℕ → Value → Result Judged Rule
through structs name v =
    if not (is_pointer (class_of structs v)) then Err rule.NotPointer
    else member_at (member_of structs name (without_last v.of)) (is_const (without_last v.of)) v.tree

unfoldable pub arrow : Structs → List ℕ → Judged → Result Judged Rule
arrow structs name j = through structs name (used j)
