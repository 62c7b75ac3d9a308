-- The names in scope, as a list that is kept from the first to the last.
use Rattle.std.proofs.Common.{◌≡◌, ℕ, zero, suc, ◌+◌, ◌-◌, ◌≤◌, Bool, true, false, cond, List, [], ◌∷◌, ◌++◌, length, take, drop, get_or, ◌<◌, Option, Some, None, refl, sym, ap, subst, ◌∙◌, append_assoc, length-append, true≢false, arith}
use Rattle.std.specs.Prelude.{Vec, if◌then◌else◌}
use Rattle.std.specs.Global.{Global}
use Rattle.std.specs.Bool.{one_answer}
use Rattle.std.specs.Map.{lookup, set_value}
use Rattle.std.specs.Option.{unwrap_or}
use Rattle.std.proofs.lemmas.List.{append-nil, take-append-drop, length-take, take_more}
use Rattle.std.proofs.lemmas.Slice.Eq.{bytes_eq-Decides}
use Rattle.std.specs.Str.{bytes_eq}
use Rattle.std.proofs.Math.Seq.{drop-append_seam, take-append_seam}
use Rattle.indexmap.specs.IndexMap.{insert_entry}
use Rattle.c_lex.specs.declared.token.Headers.{Headers}
use Rattle.c_grammar.specs.declared.scope.KnownName.{KnownName}
use Rattle.c_grammar.specs.Names.{Names, of_known, is_type_in, is_type_of}
use Rattle.c_grammar.specs.Meanings.{Entries, meaning_of, meaning_in, Agrees, Hide, known_of, IsScope, RestoresAll}

pub known_append : (xs ys : List KnownName) → of_known (xs ++ ys) ≡ of_known ys ++ of_known xs
known_append [] ys = sym (append-nil (of_known ys))
known_append (x ∷ xs) ys =
    ap (λ (z : Names). z ++ known_of x ∷ []) (known_append xs ys) ∙ append_assoc (of_known ys) (of_known xs) (known_of x ∷ [])

pub known_length : (ks : List KnownName) → length (of_known ks) ≡ length ks
known_length [] = refl
known_length (k ∷ ks) =
    let a : length (of_known ks ++ known_of k ∷ []) ≡ length (of_known ks) + 1 = length-append (of_known ks) (known_of k ∷ []) in
    let b = known_length ks in
    omega (arith, a, b)

cut : (n : ℕ) (ks : List KnownName) → of_known ks ≡ of_known (drop n ks) ++ of_known (take n ks)
cut n ks = ap of_known (sym (take-append-drop n ks)) ∙ known_append (take n ks) (drop n ks)

rest_length : (n : ℕ) (ks : List KnownName) → n ≤ length ks → length (of_known ks) - n ≡ length (of_known (drop n ks))
rest_length n ks le =
    let a = ap length (cut n ks) ∙ length-append (of_known (drop n ks)) (of_known (take n ks)) in
    let b = known_length (take n ks) in
    let c : length (take n ks) ≡ n = taken n ks le in
    omega (arith, a, b, c)
  where
    taken : (n : ℕ) (ks : List KnownName) → n ≤ length ks → length (take n ks) ≡ n
    taken n ks le = omega (arith, length-take n ks, le)

pub known_left : (n : ℕ) (ks : List KnownName) → n ≤ length ks → of_known (take n ks) ≡ drop (length (of_known ks) - n) (of_known ks)
known_left n ks le =
    sym (ap (λ k. drop k (of_known ks)) (rest_length n ks le) ∙ ap (drop (length (of_known (drop n ks)))) (cut n ks)
    ∙ drop-append_seam (of_known (drop n ks)) (of_known (take n ks)))

pub known_inner : (n : ℕ) (ks : List KnownName) → n ≤ length ks → of_known (drop n ks) ≡ take (length (of_known ks) - n) (of_known ks)
known_inner n ks le =
    sym (ap (λ k. take k (of_known ks)) (rest_length n ks le) ∙ ap (take (length (of_known (drop n ks)))) (cut n ks)
    ∙ take-append_seam (of_known (drop n ks)) (of_known (take n ks)))

-- ---- the innermost declaration decides

-- the names up to the one of this number, and that name
pub up_to : (n : ℕ) (ks : List KnownName) (d : KnownName) → n < length ks
    → of_known (take (n + 1) ks) ≡ known_of (get_or ks n d) ∷ of_known (take n ks)
up_to n ks d less = ap of_known (take_more ks n d less) ∙ known_append (take n ks) (get_or ks n d ∷ [])

pub type_by_meaning : (names : Names) (headers : Headers) (name : List ℕ)
    → is_type_in names headers name ≡ unwrap_or (meaning_in names name) (is_type_of headers name)
type_by_meaning [] headers name = refl
type_by_meaning (k ∷ ks) headers name = by (bytes_eq k.name name) (type_by_meaning ks headers name)
  where
    by : (b : Bool) → is_type_in ks headers name ≡ unwrap_or (meaning_in ks name) (is_type_of headers name)
        → (if b then k.is_type else is_type_in ks headers name) ≡ unwrap_or (if b then Some k.is_type else meaning_in ks name) (is_type_of headers name)
    by true rest = refl
    by false rest = rest

-- ---- what the declarations hide

around : (xs : List KnownName) (x : KnownName) (under : Names) → of_known xs ++ known_of x ∷ under ≡ of_known (x ∷ xs) ++ under
around xs x under = sym (append_assoc (of_known xs) (known_of x ∷ []) under)

pub hide_first : (under : Names) (xs ys : List KnownName) → Hide under (xs ++ ys) → Hide under xs
hide_first under [] ys h = tt
hide_first under (x ∷ xs) ys h = (h.0, hide_first (known_of x ∷ under) xs ys h.1)

pub hide_rest : (under : Names) (xs ys : List KnownName) → Hide under (xs ++ ys) → Hide (of_known xs ++ under) ys
hide_rest under [] ys h = h
hide_rest under (x ∷ xs) ys h =
    subst (λ (names : Names). Hide names ys) (around xs x under) (hide_rest (known_of x ∷ under) xs ys h.1)

pub hide_more : (under : Names) (xs : List KnownName) (y : KnownName) → Hide under xs → y.hidden ≡ meaning_in (of_known xs ++ under) y.name
    → Hide under (xs ++ y ∷ [])
hide_more under [] y h is = (is, tt)
hide_more under (x ∷ xs) y h is = (
  h.0,
  hide_more (known_of x ∷ under) xs y h.1 (is ∙ ap (λ (names : Names). meaning_in names y.name) (sym (around xs x under))),
)

pub hide_at : (under : Names) (ks : List KnownName) (n : ℕ) (d : KnownName) → n < length ks → Hide under ks
    → (get_or ks n d).hidden ≡ meaning_in (of_known (take n ks) ++ under) (get_or ks n d).name
hide_at under [] n d less h = absurd (omega (arith, less))
hide_at under (k ∷ ks) zero d less h = h.0
hide_at under (k ∷ ks) (suc n) d less h =
    hide_at (known_of k ∷ under) ks n d (omega (arith, less)) h.1
    ∙ ap (λ (names : Names). meaning_in names (get_or ks n d).name) (around (take n ks) k under)

-- ---- the table of what names stand for

same_way : (a b : List ℕ) → bytes_eq a b ≡ bytes_eq b a
same_way a b =
    let h = bytes_eq-Decides a b in
    let g = bytes_eq-Decides b a in
    one_answer (bytes_eq a b) (bytes_eq b a) h ((λ t. sym (g.0 t)), (λ e. g.1 (sym e)))

clash : {X : Type 0} → true ≡ false → X
clash e = absurd (true≢false e)

abbrev pub vec_eq : Vec ℕ Global → Vec ℕ Global → Bool
vec_eq a b = bytes_eq a.items b.items

-- an entry is written
here : (q r : Bool) (v w : Option Bool) (rest : Option (Option Bool)) → q ≡ r
    → unwrap_or (cond q (Some v) rest) None ≡ (if r then v else unwrap_or (cond q (Some w) rest) None)
here true true v w rest e = refl
here true false v w rest e = clash e
here false true v w rest e = clash (sym e)
here false false v w rest e = refl

-- or one behind it
behind : (q r : Bool) (v w : Option Bool) (more rest : Option (Option Bool)) → (q ≡ true → r ≡ false)
    → unwrap_or more None ≡ (if r then v else unwrap_or rest None)
    → unwrap_or (cond q (Some w) more) None ≡ (if r then v else unwrap_or (cond q (Some w) rest) None)
behind true true v w more rest out e = clash (out refl)
behind true false v w more rest out e = refl
behind false r v w more rest out e = e

-- the name of an entry is another one than this
apart : (key other name : List ℕ) → bytes_eq key other ≡ false → bytes_eq name other ≡ true → bytes_eq name key ≡ false
apart key other name out here = by (bytes_eq name key) refl
  where
    by : (r : Bool) → bytes_eq name key ≡ r → r ≡ false
    by true e =
        let same : key ≡ other = sym ((bytes_eq-Decides name key).0 e) ∙ (bytes_eq-Decides name other).0 here in
        clash (sym ((bytes_eq-Decides key other).1 same) ∙ out)
    by false e = refl

alike : (key other name : List ℕ) → bytes_eq key other ≡ true → bytes_eq name other ≡ bytes_eq name key
alike key other name same = ap (bytes_eq name) (sym ((bytes_eq-Decides key other).0 same))

pub inserted : (es : Entries) (key : Vec ℕ Global) (v : Option Bool) (name : List ℕ)
    → meaning_of (insert_entry vec_eq es key v) name ≡ (if bytes_eq name key.items then v else meaning_of es name)
inserted [] key v name = by (bytes_eq name key.items)
  where
    by : (b : Bool) → unwrap_or (cond b (Some v) None) None ≡ (if b then v else None)
    by true = refl
    by false = refl
inserted (e ∷ es) key v name = by (bytes_eq key.items e.0.items) refl (inserted es key v name)
  where
    by : (p : Bool) → bytes_eq key.items e.0.items ≡ p
        → meaning_of (insert_entry vec_eq es key v) name ≡ (if bytes_eq name key.items then v else meaning_of es name)
        → meaning_of (if p then (e.0, v) ∷ es else e ∷ insert_entry vec_eq es key v) name
        ≡ (if bytes_eq name key.items then v else meaning_of (e ∷ es) name)
    by true t rest =
        here (bytes_eq name e.0.items) (bytes_eq name key.items) v e.1 (lookup (λ k. bytes_eq name k.items) es) (alike key.items e.0.items name t)
    by false f rest =
        behind (bytes_eq name e.0.items) (bytes_eq name key.items) v e.1 (lookup (λ k. bytes_eq name k.items) (insert_entry vec_eq es key v))
        (lookup (λ k. bytes_eq name k.items) es) (λ t. apart key.items e.0.items name f t) rest

pub written : (es : Entries) (key : List ℕ) (v found : Option Bool) (name : List ℕ)
    → lookup (λ (k : Vec ℕ Global). bytes_eq key k.items) es ≡ Some found
    → meaning_of (set_value (λ (k : Vec ℕ Global). bytes_eq key k.items) es v) name ≡ (if bytes_eq name key then v else meaning_of es name)
written [] key v found name there = absurd cc
written (e ∷ es) key v found name there = by (bytes_eq key e.0.items) refl there (λ t. written es key v found name t)
  where
    by : (p : Bool) → bytes_eq key e.0.items ≡ p → cond p (Some e.1) (lookup (λ (k : Vec ℕ Global). bytes_eq key k.items) es) ≡ Some found
        → (lookup (λ (k : Vec ℕ Global). bytes_eq key k.items) es ≡ Some found
        → meaning_of (set_value (λ (k : Vec ℕ Global). bytes_eq key k.items) es v) name ≡ (if bytes_eq name key then v else meaning_of es name))
        → meaning_of (cond p ((e.0, v) ∷ es) (e ∷ set_value (λ (k : Vec ℕ Global). bytes_eq key k.items) es v)) name
        ≡ (if bytes_eq name key then v else meaning_of (e ∷ es) name)
    by true t there rest =
        here (bytes_eq name e.0.items) (bytes_eq name key) v e.1 (lookup (λ k. bytes_eq name k.items) es) (alike key e.0.items name t)
    by false f there rest =
        behind (bytes_eq name e.0.items) (bytes_eq name key) v e.1
        (lookup (λ k. bytes_eq name k.items) (set_value (λ (k : Vec ℕ Global). bytes_eq key k.items) es v))
        (lookup (λ k. bytes_eq name k.items) es) (λ t. apart key e.0.items name f t) (rest there)

-- the name stands for something else, and each other one for what it did
abbrev pub Writes : List ℕ → Option Bool → Entries → Entries → Type 0
Writes key v old new = (name : List ℕ) → meaning_of new name ≡ (if bytes_eq name key then v else meaning_of old name)

pub agrees_declared : (k : KnownName) (names : Names) (old new : Entries) → Agrees old names → Writes k.name (Some k.is_type) old new
    → Agrees new (known_of k ∷ names)
agrees_declared k names old new agrees writes name =
    writes name
    ∙ ap (λ (b : Bool). if b then Some k.is_type else meaning_of old name) (same_way name k.name)
    ∙ ap (λ (m : Option Bool). if bytes_eq k.name name then Some k.is_type else m) (agrees name)

pub agrees_restored : (k : KnownName) (under : Names) (old new : Entries) → Agrees old (known_of k ∷ under)
    → k.hidden ≡ meaning_in under k.name → Writes k.name k.hidden old new → Agrees new under
agrees_restored k under old new agrees hides writes name = writes name ∙ by (bytes_eq name k.name) refl
  where
    by : (b : Bool) → bytes_eq name k.name ≡ b → (if b then k.hidden else meaning_of old name) ≡ meaning_in under name
    by true t = hides ∙ ap (meaning_in under) (sym ((bytes_eq-Decides name k.name).0 t))
    by false f =
        agrees name ∙ ap (λ (b : Bool). if b then Some k.is_type else meaning_in under name) (same_way k.name name ∙ f)

-- ---- taking declarations out

one_back : (n : ℕ) → 0 < n → (n - 1) + 1 ≡ n
one_back n some = omega (arith, some)

pub last_known : (n : ℕ) (ks : List KnownName) (d k : KnownName) → 0 < n → n ≤ length ks → k ≡ get_or ks (n - 1) d
    → of_known (take n ks) ≡ known_of k ∷ of_known (take (n - 1) ks)
last_known n ks d k some few k_is =
    ap (λ m. of_known (take m ks)) (sym (one_back n some)) ∙ up_to (n - 1) ks d (omega (arith, some, few))
    ∙ ap (λ (x : KnownName). known_of x ∷ of_known (take (n - 1) ks)) (sym k_is)

pub hidden_by : (under : Names) (n : ℕ) (ks : List KnownName) (d k : KnownName) → 0 < n → n ≤ length ks → k ≡ get_or ks (n - 1) d
    → Hide under ks → k.hidden ≡ meaning_in (of_known (take (n - 1) ks) ++ under) k.name
hidden_by under n ks d k some few k_is hide =
    subst (λ (x : KnownName). x.hidden ≡ meaning_in (of_known (take (n - 1) ks) ++ under) x.name) (sym k_is)
    (hide_at under ks (n - 1) d (omega (arith, some, few)) hide)

pub none_left : (n : ℕ) (ks : List KnownName) (under : Names) (entries : Entries) → n ≤ 0
    → Agrees entries (of_known (take n ks) ++ under) → Agrees entries under
none_left zero ks under entries none agrees = agrees
none_left (suc n) ks under entries none agrees = absurd (omega (arith, none))

-- what is left once the table is restored behind the first ones
pub left_behind : (n : ℕ) (ks names taken : List KnownName) (old new : Entries) → IsScope ks old → names ≡ take n ks → taken ≡ drop n ks
    → RestoresAll taken old new → IsScope names new
left_behind n ks names taken old new is names_are taken_are restores =
    subst (λ (xs : List KnownName). IsScope xs new) (sym names_are)
    (front (subst (λ (xs : List KnownName). RestoresAll xs old new) taken_are restores)
    (subst (λ (xs : List KnownName). Hide [] xs) (sym (take-append-drop n ks)) is.hide))
  where
    front : RestoresAll (drop n ks) old new → Hide [] (take n ks ++ drop n ks) → IsScope (take n ks) new
    front restores whole = record {
      agrees =
          restores (of_known (take n ks)) (subst (λ (xs : Names). Agrees old xs) (cut n ks) is.agrees)
          (subst (λ (xs : Names). Hide xs (drop n ks)) (append-nil (of_known (take n ks))) (hide_rest [] (take n ks) (drop n ks) whole));
      hide = hide_first [] (take n ks) (drop n ks) whole;
    }
