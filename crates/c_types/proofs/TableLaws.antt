-- The names in scope, and a table that tells of each name where its innermost declaration is.
use Rattle.std.proofs.Common.{◌≡◌, ℕ, suc, ◌+◌, ◌-◌, Bool, true, false, cond, List, [], ◌∷◌, ◌++◌, length, take, Option, Some, None, refl, sym, ap, subst, ◌∙◌, length-append, true≢false, arith}
use Rattle.std.specs.Prelude.{Vec, if◌then◌else◌}
use Rattle.std.specs.Global.{Global}
use Rattle.std.specs.Bool.{one_answer}
use Rattle.std.specs.Map.{lookup, set_value}
use Rattle.std.specs.Option.{unwrap_or}
use Rattle.std.proofs.lemmas.Slice.Eq.{bytes_eq-Decides}
use Rattle.std.specs.Str.{bytes_eq}
use Rattle.indexmap.specs.IndexMap.{insert_entry}
use Rattle.c_types.specs.declared.table.DeclaredName.{DeclaredName}
use Rattle.c_types.specs.Names.{innermost, last_from}
use Rattle.c_types.specs.Tables.{Entries, meaning_of, names_of, Agrees, Hide, IsTable, Restores}
use Rattle.std.proofs.lemmas.List.{append-nil, map-append, length-map}
use Rattle.std.proofs.Math.Seq.{append_snoc, take-append_seam}

same_way : (a b : List ℕ) → bytes_eq a b ≡ bytes_eq b a
same_way a b =
    let h = bytes_eq-Decides a b in
    let g = bytes_eq-Decides b a in
    one_answer (bytes_eq a b) (bytes_eq b a) h ((λ t. sym (g.0 t)), (λ e. g.1 (sym e)))

clash : {X : Type 0} → true ≡ false → X
clash e = absurd (true≢false e)

abbrev pub vec_eq : Vec ℕ Global → Vec ℕ Global → Bool
vec_eq a b = bytes_eq a.items b.items

-- an entry is written
here : (q r : Bool) (v w : Option ℕ) (rest : Option (Option ℕ)) → q ≡ r
    → unwrap_or (cond q (Some v) rest) None ≡ (if r then v else unwrap_or (cond q (Some w) rest) None)
here true true v w rest e = refl
here true false v w rest e = clash e
here false true v w rest e = clash (sym e)
here false false v w rest e = refl

-- or one behind it
behind : (q r : Bool) (v w : Option ℕ) (more rest : Option (Option ℕ)) → (q ≡ true → r ≡ false)
    → unwrap_or more None ≡ (if r then v else unwrap_or rest None)
    → unwrap_or (cond q (Some w) more) None ≡ (if r then v else unwrap_or (cond q (Some w) rest) None)
behind true true v w more rest out e = clash (out refl)
behind true false v w more rest out e = refl
behind false r v w more rest out e = e

-- the name of an entry is another one than this
apart : (key other name : List ℕ) → bytes_eq key other ≡ false → bytes_eq name other ≡ true → bytes_eq name key ≡ false
apart key other name out here = by (bytes_eq name key) refl
  where
    by : (r : Bool) → bytes_eq name key ≡ r → r ≡ false
    by true e =
        let same : key ≡ other = sym ((bytes_eq-Decides name key).0 e) ∙ (bytes_eq-Decides name other).0 here in
        clash (sym ((bytes_eq-Decides key other).1 same) ∙ out)
    by false e = refl

alike : (key other name : List ℕ) → bytes_eq key other ≡ true → bytes_eq name other ≡ bytes_eq name key
alike key other name same = ap (bytes_eq name) (sym ((bytes_eq-Decides key other).0 same))

pub inserted : (es : Entries) (key : Vec ℕ Global) (v : Option ℕ) (name : List ℕ)
    → meaning_of (insert_entry vec_eq es key v) name ≡ (if bytes_eq name key.items then v else meaning_of es name)
inserted [] key v name = by (bytes_eq name key.items)
  where
    by : (b : Bool) → unwrap_or (cond b (Some v) None) None ≡ (if b then v else None)
    by true = refl
    by false = refl
inserted (e ∷ es) key v name = by (bytes_eq key.items e.0.items) refl (inserted es key v name)
  where
    by : (p : Bool) → bytes_eq key.items e.0.items ≡ p
        → meaning_of (insert_entry vec_eq es key v) name ≡ (if bytes_eq name key.items then v else meaning_of es name)
        → meaning_of (if p then (e.0, v) ∷ es else e ∷ insert_entry vec_eq es key v) name
        ≡ (if bytes_eq name key.items then v else meaning_of (e ∷ es) name)
    by true t rest =
        here (bytes_eq name e.0.items) (bytes_eq name key.items) v e.1 (lookup (λ k. bytes_eq name k.items) es) (alike key.items e.0.items name t)
    by false f rest =
        behind (bytes_eq name e.0.items) (bytes_eq name key.items) v e.1 (lookup (λ k. bytes_eq name k.items) (insert_entry vec_eq es key v))
        (lookup (λ k. bytes_eq name k.items) es) (λ t. apart key.items e.0.items name f t) rest

pub written : (es : Entries) (key : List ℕ) (v found : Option ℕ) (name : List ℕ)
    → lookup (λ (k : Vec ℕ Global). bytes_eq key k.items) es ≡ Some found
    → meaning_of (set_value (λ (k : Vec ℕ Global). bytes_eq key k.items) es v) name ≡ (if bytes_eq name key then v else meaning_of es name)
written [] key v found name there = absurd cc
written (e ∷ es) key v found name there = by (bytes_eq key e.0.items) refl there (λ t. written es key v found name t)
  where
    by : (p : Bool) → bytes_eq key e.0.items ≡ p → cond p (Some e.1) (lookup (λ (k : Vec ℕ Global). bytes_eq key k.items) es) ≡ Some found
        → (lookup (λ (k : Vec ℕ Global). bytes_eq key k.items) es ≡ Some found
        → meaning_of (set_value (λ (k : Vec ℕ Global). bytes_eq key k.items) es v) name ≡ (if bytes_eq name key then v else meaning_of es name))
        → meaning_of (cond p ((e.0, v) ∷ es) (e ∷ set_value (λ (k : Vec ℕ Global). bytes_eq key k.items) es v)) name
        ≡ (if bytes_eq name key then v else meaning_of (e ∷ es) name)
    by true t there rest =
        here (bytes_eq name e.0.items) (bytes_eq name key) v e.1 (lookup (λ k. bytes_eq name k.items) es) (alike key e.0.items name t)
    by false f there rest =
        behind (bytes_eq name e.0.items) (bytes_eq name key) v e.1
        (lookup (λ k. bytes_eq name k.items) (set_value (λ (k : Vec ℕ Global). bytes_eq key k.items) es v))
        (lookup (λ k. bytes_eq name k.items) es) (λ t. apart key e.0.items name f t) (rest there)

-- the name stands for something else, and each other one for what it did
abbrev pub Writes : List ℕ → Option ℕ → Entries → Entries → Type 0
Writes key v old new = (name : List ℕ) → meaning_of new name ≡ (if bytes_eq name key then v else meaning_of old name)

-- ---- the innermost declaration

last_more : (place : ℕ) (before : Option ℕ) (ns : List (List ℕ)) (n name : List ℕ)
    → last_from place before (ns ++ n ∷ []) name ≡ (if bytes_eq n name then Some (place + length ns) else last_from place before ns name)
last_more place before [] n name = ap (λ k. if bytes_eq n name then Some k else before) (none place)
  where
    none : (place : ℕ) → place ≡ place + 0
    none place = omega arith
last_more place before (m ∷ ns) n name =
    let next = if bytes_eq m name then Some place else before in
    last_more (place + 1) next ns n name
    ∙ ap (λ k. if bytes_eq n name then Some k else last_from (place + 1) next ns name) (one_more place (length ns))
  where
    one_more : (place rest : ℕ) → place + 1 + rest ≡ place + suc rest
    one_more place rest = omega arith

pub innermost_more : (ns : List (List ℕ)) (n name : List ℕ)
    → innermost (ns ++ n ∷ []) name ≡ (if bytes_eq n name then Some (length ns) else innermost ns name)
unfolding innermost
innermost_more ns n name = last_more 0 None ns n name ∙ ap (λ k. if bytes_eq n name then Some k else last_from 0 None ns name) (from_none (length ns))
  where
    from_none : (n : ℕ) → 0 + n ≡ n
    from_none n = omega arith

pub agrees_declared : (ns : List (List ℕ)) (n : List ℕ) (old new : Entries) → Agrees old ns → Writes n (Some (length ns)) old new
    → Agrees new (ns ++ n ∷ [])
agrees_declared ns n old new agrees writes name =
    writes name
    ∙ ap (λ (b : Bool). if b then Some (length ns) else meaning_of old name) (same_way name n)
    ∙ ap (λ (m : Option ℕ). if bytes_eq n name then Some (length ns) else m) (agrees name)
    ∙ sym (innermost_more ns n name)

pub agrees_restored : (k : DeclaredName) (before : List (List ℕ)) (old new : Entries) → Agrees old (before ++ k.name ∷ [])
    → k.hidden ≡ innermost before k.name → Writes k.name k.hidden old new → Agrees new before
agrees_restored k before old new agrees hides writes name = writes name ∙ by (bytes_eq name k.name) refl
  where
    by : (b : Bool) → bytes_eq name k.name ≡ b → (if b then k.hidden else meaning_of old name) ≡ innermost before name
    by true t = hides ∙ ap (innermost before) (sym ((bytes_eq-Decides name k.name).0 t))
    by false f =
        agrees name ∙ innermost_more before k.name name
        ∙ ap (λ (b : Bool). if b then Some (length before) else innermost before name) (same_way k.name name ∙ f)

-- ---- what the declarations hide

across : (before : List (List ℕ)) (x : DeclaredName) (xs : List DeclaredName)
    → before ++ x.name ∷ [] ++ names_of xs ≡ before ++ names_of (x ∷ xs)
across before x xs = append_snoc before x.name (names_of xs)

hide_more : (before : List (List ℕ)) (xs : List DeclaredName) (y : DeclaredName) → Hide before xs
    → y.hidden ≡ innermost (before ++ names_of xs) y.name → Hide before (xs ++ y ∷ [])
hide_more before [] y h is = (is ∙ ap (λ (ns : List (List ℕ)). innermost ns y.name) (append-nil before), tt)
hide_more before (x ∷ xs) y h is = (
  h.0,
  hide_more (before ++ x.name ∷ []) xs y h.1 (is ∙ ap (λ (ns : List (List ℕ)). innermost ns y.name) (sym (across before x xs))),
)

hide_less : (before : List (List ℕ)) (xs : List DeclaredName) (y : DeclaredName) → Hide before (xs ++ y ∷ [])
    → Hide before xs × (y.hidden ≡ innermost (before ++ names_of xs) y.name)
hide_less before [] y h = (tt, h.0 ∙ ap (λ (ns : List (List ℕ)). innermost ns y.name) (sym (append-nil before)))
hide_less before (x ∷ xs) y h =
    let rest = hide_less (before ++ x.name ∷ []) xs y h.1 in
    ((h.0, rest.0), rest.1 ∙ ap (λ (ns : List (List ℕ)). innermost ns y.name) (across before x xs))

names_more : (ks : List DeclaredName) (k : DeclaredName) → names_of (ks ++ k ∷ []) ≡ names_of ks ++ k.name ∷ []
names_more ks k = map-append (λ (d : DeclaredName). d.name) ks (k ∷ [])

pub table_none : (ks : List DeclaredName) (entries : Entries) → ks ≡ [] → entries ≡ [] → IsTable ks entries
unfolding innermost
table_none ks entries no_names no_entries =
    let none : IsTable [] [] = record { agrees = λ name. refl; hide = tt } in
    let some : IsTable ks [] = subst (λ (xs : List DeclaredName). IsTable xs []) (sym no_names) none in
    subst (λ (es : Entries). IsTable ks es) (sym no_entries) some

pub table_more : (ks all : List DeclaredName) (k : DeclaredName) (place : ℕ) (old new : Entries) → all ≡ ks ++ k ∷ [] → place ≡ length ks
    → IsTable ks old → k.hidden ≡ innermost (names_of ks) k.name → Writes k.name (Some place) old new → IsTable all new
table_more ks all k place old new all_are place_is is hides writes =
    let names : length ks ≡ length (names_of ks) = sym (length-map ks (λ (d : DeclaredName). d.name)) in
    let written = subst (λ (n : ℕ). Writes k.name (Some n) old new) (place_is ∙ names) writes in
    let more = agrees_declared (names_of ks) k.name old new is.agrees written in
    subst (λ (xs : List DeclaredName). IsTable xs new) (sym all_are) (record {
      agrees = subst (λ (ns : List (List ℕ)). Agrees new ns) (sym (names_more ks k)) more;
      hide = hide_more [] ks k is.hide hides;
    })

pub table_less : (all ks : List DeclaredName) (k : DeclaredName) (old new : Entries) → all ≡ ks ++ k ∷ [] → IsTable all old
    → Restores k old new → IsTable ks new
table_less all ks k old new all_are is restores =
    let whole = subst (λ (xs : List DeclaredName). IsTable xs old) all_are is in
    let less = hide_less [] ks k whole.hide in record {
      agrees = restores (names_of ks) (subst (λ (ns : List (List ℕ)). Agrees old ns) (names_more ks k) whole.agrees) less.1;
      hide = less.0;
    }

pub names_less : (all ks : List DeclaredName) (k : DeclaredName) (names : List (List ℕ)) → all ≡ ks ++ k ∷ [] → names_of all ≡ names
    → names_of ks ≡ take (length names - 1) names
names_less all ks k names all_are names_are =
    let whole : names ≡ names_of ks ++ k.name ∷ [] = sym names_are ∙ ap names_of all_are ∙ names_more ks k in
    let size : length names ≡ length (names_of ks) + 1 = ap length whole ∙ length-append (names_of ks) (k.name ∷ []) in
    let last : length (names_of ks) ≡ length names - 1 = omega (arith, size) in
    sym (take-append_seam (names_of ks) (k.name ∷ []))
    ∙ ap (λ (ns : List (List ℕ)). take (length (names_of ks)) ns) (sym whole)
    ∙ ap (λ n. take n names) last

-- a name that was declared stands in the table
pub declared_there : (key name : List ℕ) (before : List (List ℕ)) (es : Entries) → key ≡ name → Agrees es (before ++ name ∷ [])
    → lookup (λ (k : Vec ℕ Global). bytes_eq key k.items) es ≡ None → ⊥
declared_there key name before es same agrees none =
    let known = subst (λ (n : List ℕ). Agrees es (before ++ n ∷ [])) (sym same) agrees in
    let nothing : meaning_of es key ≡ None = ap (λ (found : Option (Option ℕ)). unwrap_or found None) none in
    let itself : bytes_eq key key ≡ true = (bytes_eq-Decides key key).1 refl in
    let something : innermost (before ++ key ∷ []) key ≡ Some (length before) =
    innermost_more before key key ∙ ap (λ (b : Bool). if b then Some (length before) else innermost before key) itself in
    not_some (length before) (sym nothing ∙ known key ∙ something)
  where
    not_some : (n : ℕ) → None ≡ Some n → ⊥
    not_some n e = cc
