-- Structures (C11, 6.7.2.1 and 6.7.2.3): their tags, members and layouts.
use Rattle.std.specs.Prelude.{ℕ, ◌%◌, ◌^◌, ◌||◌, nat_le, nat_lt, not, is_none, if◌then◌else◌, Bool, true, false, List, [], ◌∷◌, ◌++◌, length, slice_get, slice_set, Option, Some, None}
use Rattle.std.specs.Str.{bytes_eq}
use Rattle.rank_range.specs.declared.width.Width.{Width}
use Rattle.c_ast.specs.declared.words.Name.{Name}
use Rattle.c_types.specs.declared.ctype.CType.{CType}
use Rattle.c_types.specs.declared.ctype.Base.{Base}
use Rattle.c_types.specs.declared.ctype.Base.TheVariants as base
use Rattle.c_types.specs.declared.ctype.Part.{Part}
use Rattle.c_types.specs.declared.ctype.Part.TheVariants as part
use Rattle.c_types.specs.declared.ctype.Member.{Member}
use Rattle.c_types.specs.declared.ctype.StructType.{StructType}
use Rattle.c_types.specs.declared.ctype.StructLayout.{StructLayout}
use Rattle.c_types.specs.declared.structs.StructDraft.{StructDraft}
use Rattle.c_types.specs.declared.rooms.Rooms.{Rooms}
use Rattle.c_types.specs.declared.names.Tagged.{Tagged}
use Rattle.c_types.specs.declared.names.Tagged.TheVariants as tagged
use Rattle.c_types.specs.Sizes.{Structs, size_limit, alignment_of}
use Rattle.c_types.specs.Layouts.{no_members as no_draft, finished}
use Rattle.c_types.specs.Rooms.{offset_behind, with_room, padded}
use Rattle.c_typing.specs.declared.rules.Rule.{Rule}
use Rattle.c_typing.specs.declared.rules.Rule.TheVariants as rule
use Rattle.c_typing.specs.Rules.{lesser}
use Rattle.c_typing.specs.Types.{measured, is_const}
use Rattle.c_judge.specs.declared.checker.Checker.{Checker}
use Rattle.c_judge.specs.declared.sight.Sight.{Sight}
use Rattle.c_judge.specs.declared.structures.Members.{Members}
use Rattle.c_judge.specs.declared.gathered.Specified.{Specified}
use Rattle.c_judge.specs.declared.gathered.Specified.TheVariants as specified
use Rattle.c_judge.specs.declared.shapes.Built.{Built}
use Rattle.c_judge.specs.declared.shapes.Built.TheVariants as built
use Rattle.c_judge.specs.declared.shapes.Made.{Made}
use Rattle.c_judge.specs.Sight.{tag_in, tag_here, with_tag}
use Rattle.c_judge.specs.State.{Doing, then_with, with_broken}

abbrev pub struct_type : ℕ → CType
struct_type n = record { base = base.Struct n; is_const = false; parts = [] }

abbrev pub known_struct : ℕ → Specified
known_struct n = specified.Known (built.Object (struct_type n))

-- A new structure is incomplete, and its members haven't begun.
abbrev pub number_in : Checker → ℕ
number_in s = length s.sight.structs % 2 ^ 32

abbrev pub with_struct : Option (List ℕ) → Sight → Sight
with_struct tag s = record s {
  structs = s.structs ++ record { tag = tag; layout = None } ∷ [];
  begun = s.begun ++ false ∷ [];
  fixed = s.fixed ++ false ∷ [];
}

abbrev pub fresh : Option (List ℕ) → Doing ℕ
fresh tag s = (number_in s, record s { sight = with_struct tag s.sight })

abbrev pub declared_struct : List ℕ → Doing ℕ
declared_struct name s =
    (number_in s, record s { sight = with_tag name (tagged.Struct (number_in s)) (with_struct (Some name) s.sight) })

-- `struct name` names the structure of the tag's innermost declaration, and declares one where there is none. Where it is all of a
-- declaration, only the innermost scope counts.
abbrev pub tag_of_reference : Bool → List ℕ → Sight → Option Tagged
tag_of_reference true name s = tag_here s name
tag_of_reference false name s = tag_in s name

abbrev pub new_struct : List ℕ → Doing Specified
new_struct name s = (known_struct (declared_struct name s).0, (declared_struct name s).1)

abbrev pub referred_by : Option Tagged → Name → Doing Specified
referred_by (Some (tagged.Struct n)) name s = (known_struct n, s)
referred_by (Some tagged.Enum) name s = (specified.Unknown, with_broken name.token rule.DeclaredDifferently s)
referred_by None name s = new_struct name.text s

abbrev pub referred_struct : Bool → Name → Doing Specified
referred_struct is_alone name s = referred_by (tag_of_reference is_alone name.text s.sight) name s

-- Members are those of the structure that the tag names in the innermost scope, if its members haven't begun yet, and else of a new
-- one.
abbrev pub flag_in : Option Bool → Bool
flag_in (Some b) = b
flag_in None = false

abbrev pub has_begun : Checker → ℕ → Bool
has_begun s n = flag_in (slice_get s.sight.begun n)

abbrev pub tagged_by : Option Tagged → Name → Doing ℕ
tagged_by (Some (tagged.Struct n)) name s =
    if not (has_begun s n) then (n, s) else fresh None (with_broken name.token rule.DeclaredTwice s)
tagged_by (Some tagged.Enum) name s = fresh None (with_broken name.token rule.DeclaredDifferently s)
tagged_by None name s = declared_struct name.text s

abbrev pub tagged_struct : Name → Doing ℕ
tagged_struct name s = tagged_by (tag_here s.sight name.text) name s

abbrev pub with_begun : ℕ → Checker → Checker
with_begun n s = if nat_lt n (length s.sight.begun) then record s { sight = record (s.sight) { begun = slice_set s.sight.begun n true } } else s

abbrev pub numbered : Option Name → Doing ℕ
numbered (Some name) s = tagged_struct name s
numbered None s = fresh None s

abbrev pub begun_struct : Option Name → Doing ℕ
begun_struct name s = ((numbered name s).0, with_begun (numbered name s).0 (numbered name s).1)

-- A member is an object of a complete type, and has a name of its own.
abbrev pub no_members : Members
no_members = record { draft = Some no_draft; is_fixed = false }

abbrev pub member_rule : Structs → Option Built → Option Rule
member_rule structs (Some (built.Object t)) = if is_none (measured structs t) then Some rule.Incomplete else None
member_rule structs (Some (built.Function t)) = Some rule.Incomplete
member_rule structs None = None

abbrev pub has_member : List Member → List ℕ → Bool
has_member [] name = false
has_member (m ∷ ms) name = if bytes_eq m.name name then true else has_member ms name

abbrev pub twice_rule : Option StructDraft → List ℕ → Option Rule
twice_rule (Some d) name = if has_member d.members name then Some rule.DeclaredTwice else None
twice_rule None name = None

-- A place isn't assigned where it is `const`, or a structure with a member that isn't. An array is as its elements.
abbrev pub is_fixed_by : Checker → Base → Bool
is_fixed_by s (base.Struct n) = flag_in (slice_get s.sight.fixed n)
is_fixed_by s base.Void = false
is_fixed_by s (base.Whole k) = false

abbrev pub fixed_part : Bool → Part → Bool
fixed_part inner (part.Pointer is_const) = false
fixed_part inner (part.Array count) = inner
fixed_part inner part.OpenArray = inner

abbrev pub fixed_by : Bool → List Part → Bool
fixed_by inner [] = inner
fixed_by inner (p ∷ ps) = fixed_by (fixed_part inner p) ps

abbrev pub is_fixed_base : Checker → CType → Bool
is_fixed_base s t = fixed_by (is_fixed_by s t.base) t.parts

abbrev pub is_fixed_type : Checker → CType → Bool
is_fixed_type s t = is_const t || is_fixed_base s t

-- One more member behind the others. Behind more bytes than an object may have, the structure is too large whatever follows.
abbrev pub size_or_none : Option ℕ → ℕ
size_or_none (Some n) = n
size_or_none None = 0

abbrev pub roomy_member : Structs → List ℕ → CType → StructDraft → StructDraft
roomy_member structs name t d = record {
  members = d.members ++ record { name = name; of = t; offset = offset_behind (alignment_of structs t) d.rooms } ∷ [];
  rooms = with_room (size_or_none (measured structs t)) (alignment_of structs t) d.rooms;
}

abbrev pub with_member : Structs → List ℕ → CType → StructDraft → StructDraft
with_member structs name t d = if nat_lt size_limit d.rooms.end then d else roomy_member structs name t d

abbrev pub pushed_member : Checker → List ℕ → Option Built → Option StructDraft → Bool → Members
pushed_member s name (Some (built.Object t)) (Some d) is_fixed =
    record { draft = Some (with_member s.sight.structs name t d); is_fixed = is_fixed || is_fixed_type s t }
pushed_member s name (Some (built.Object t)) None is_fixed = record { draft = None; is_fixed = is_fixed }
pushed_member s name (Some (built.Function t)) d is_fixed = record { draft = None; is_fixed = is_fixed }
pushed_member s name None d is_fixed = record { draft = None; is_fixed = is_fixed }

abbrev pub member_by : Option Rule → Name → Made → Members → Doing Members
member_by (Some r) name made members s = (record { draft = None; is_fixed = members.is_fixed }, with_broken name.token r s)
member_by None name made members s = (pushed_member s name.text made.of members.draft members.is_fixed, s)

abbrev pub added_member : Name → Made → Members → Doing Members
added_member name made members s =
    member_by (lesser (twice_rule members.draft name.text) (lesser made.rule (member_rule s.sight.structs made.of))) name made members s

-- The structure has its layout when its members end.
abbrev pub tag_in_type : Option StructType → Option (List ℕ)
tag_in_type (Some t) = t.tag
tag_in_type None = None

abbrev pub tag_of : Structs → ℕ → Option (List ℕ)
tag_of structs n = tag_in_type (slice_get structs n)

abbrev pub set_at : {A : Type 0} → List A → ℕ → A → List A
set_at xs n x = if nat_lt n (length xs) then slice_set xs n x else xs

abbrev pub laid_out : ℕ → StructLayout → Bool → Checker → Checker
laid_out n layout is_fixed s = record s {
  sight = record (s.sight) {
    structs = set_at s.sight.structs n (record { tag = tag_of s.sight.structs n; layout = Some layout });
    fixed = set_at s.sight.fixed n is_fixed;
  };
}

abbrev pub is_large : Rooms → Bool
is_large rooms = nat_lt size_limit rooms.end || nat_lt size_limit (padded rooms)

abbrev pub finished_draft : Option StructDraft → ℕ → ℕ → Bool → Doing Specified
finished_draft None n place is_fixed s = (specified.Unknown, s)
finished_draft (Some d) n place is_fixed s =
    if is_large d.rooms then (specified.Unknown, with_broken place rule.TooLarge s)
    else (known_struct n, laid_out n (finished d) is_fixed s)

abbrev pub finished_struct : ℕ → ℕ → Members → Doing Specified
finished_struct n place members s = finished_draft members.draft n place members.is_fixed s
