-- A list of tokens becomes just one other.
use Rattle.std.proofs.Common.{◌≡◌, ◌⊎◌, ℕ, zero, suc, ◌+◌, ◌<◌, ◌≤◌, ◌==◌, ◌||◌, ◌&&◌, Bool, true, false, cond, List, [], ◌∷◌, ◌++◌, length, Option, Some, None, refl, sym, ap, subst, ◌∙◌, arith, inl, inr}
use Rattle.std.specs.Prelude.{find, not}
use Rattle.std.specs.Str.{bytes_eq}
use Rattle.std.proofs.lemmas.Slice.Eq.{bytes_eq-Decides}
use Rattle.std.proofs.lemmas.Bool.{eqb-true, and_parts}
use Rattle.c_lex.specs.declared.token.TokenKind.{TokenKind}
use Rattle.c_lex.specs.declared.token.TokenKind.TheVariants as kind
use Rattle.c_lex.specs.declared.lexeme.Lexeme.{Lexeme}
use Rattle.c_lex.specs.Lexemes.{name_token}
use Rattle.c_lex.specs.Pieces.{Macro}
use Rattle.c_lex.specs.Faults.{IsDefined}
use Rattle.c_lex.specs.Tokens.{names_of, HasMacro, AreDistinct, Replaces, Become, none, kept, replaced, BecomesSome, BecomesOne}
use Rattle.c_lex.specs.Expanding.{is_name, is_name_token, is_in, replacer, free, one_becomes, each, becomes, expanded}

-- ---- a list has an element

-- the element stands somewhere in the list
abbrev pub Has : {A : Type 0} → List A → A → Type 0
Has {A} xs x = (before behind : List A) × (xs ≡ before ++ x ∷ behind)

pub has_first : {A : Type 0} (x : A) (xs : List A) → Has (x ∷ xs) x
has_first x xs = ([], xs, refl)

pub has_later : {A : Type 0} (y x : A) (xs : List A) → Has xs x → Has (y ∷ xs) x
has_later {A} y x xs h = (y ∷ h.0, h.1, ap (λ (zs : List A). y ∷ zs) h.2)

pub has_none : {A : Type 0} (x : A) → Has [] x → ⊥
has_none x ([], behind, e) = cc
has_none x (b ∷ bs, behind, e) = cc

pub has_split : {A : Type 0} (y x : A) (xs : List A) → Has (y ∷ xs) x → (y ≡ x) ⊎ Has xs x
has_split y x xs ([], behind, e) = inl cc
has_split y x xs (b ∷ bs, behind, e) = inr (bs, behind, cc)

-- a macro's name is among the names
pub name_of_has : (macros : List Macro) (m : Macro) → HasMacro macros m → IsDefined (names_of macros) m.name
name_of_has [] m h = absurd (has_none m h)
name_of_has (x ∷ xs) m h = by (λ later. name_of_has xs m later) (has_split x m xs h)
  where
    by : (HasMacro xs m → IsDefined (names_of xs) m.name) → (x ≡ m) ⊎ HasMacro xs m → IsDefined (names_of (x ∷ xs)) m.name
    by more (inl e) =
        let P : Macro → Type 0 = λ y. IsDefined (names_of (x ∷ xs)) y.name in subst P e (has_first x.name (names_of xs))
    by more (inr later) = has_later x.name m.name (names_of xs) (more later)

-- where names are distinct, macros of one name are one
pub one_macro : (macros : List Macro) (a b : Macro) → AreDistinct macros → HasMacro macros a → HasMacro macros b → a.name ≡ b.name → a ≡ b
one_macro [] a b distinct ha hb e = absurd (has_none a ha)
one_macro (x ∷ xs) a b distinct ha hb e =
    by (λ p q. one_macro xs a b distinct.1 p q e) (has_split x a xs ha) (has_split x b xs hb)
  where
    clash : (y z : Macro) → x ≡ y → HasMacro xs z → z.name ≡ y.name → ⊥
    clash y z same later names =
        let P : List ℕ → Type 0 = λ n. IsDefined (names_of xs) n in
        distinct.0 (subst P (names ∙ ap (λ (w : Macro). w.name) (sym same)) (name_of_has xs z later))

    by : (HasMacro xs a → HasMacro xs b → a ≡ b) → (x ≡ a) ⊎ HasMacro xs a → (x ≡ b) ⊎ HasMacro xs b → a ≡ b
    by more (inl p) (inl q) = sym p ∙ q
    by more (inl p) (inr q) = absurd (clash a b p q (sym e))
    by more (inr p) (inl q) = absurd (clash b a q p e)
    by more (inr p) (inr q) = more p q

-- ---- the macro of a token

no_clash : false ≡ true → ⊥
no_clash e = cc

pub is_in-sound : (names : List (List ℕ)) (word : List ℕ) → is_in names word ≡ true → IsDefined names word
is_in-sound [] word e = absurd (no_clash e)
is_in-sound (n ∷ ns) word e = by (λ f. is_in-sound ns word f) (bytes_eq n word) refl e
  where
    by : (is_in ns word ≡ true → IsDefined ns word) → (b : Bool) → bytes_eq n word ≡ b → b || is_in ns word ≡ true
        → IsDefined (n ∷ ns) word
    by more true t f =
        let P : List ℕ → Type 0 = λ w. IsDefined (n ∷ ns) w in
        subst P ((bytes_eq-Decides n word).0 t) (has_first n ns)
    by more false t f = has_later n word ns (more f)

pub is_in-complete : (names : List (List ℕ)) (word : List ℕ) → IsDefined names word → is_in names word ≡ true
is_in-complete [] word h = absurd (has_none word h)
is_in-complete (n ∷ ns) word h = by (λ f. is_in-complete ns word f) (bytes_eq n word) refl (has_split n word ns h)
  where
    by : (IsDefined ns word → is_in ns word ≡ true) → (b : Bool) → bytes_eq n word ≡ b → (n ≡ word) ⊎ IsDefined ns word
        → b || is_in ns word ≡ true
    by more true t s = refl
    by more false t (inl e) = absurd (no_clash (sym t ∙ (bytes_eq-Decides n word).1 e))
    by more false t (inr later) = more later

found_has : (p : Macro → Bool) (macros : List Macro) (m : Macro) → find p macros ≡ Some m → HasMacro macros m × (p m ≡ true)
found_has p [] m e = absurd cc
found_has p (x ∷ xs) m e = by (λ f. found_has p xs m f) (p x) refl e
  where
    by : (find p xs ≡ Some m → HasMacro xs m × (p m ≡ true)) → (b : Bool) → p x ≡ b → cond b (Some x) (find p xs) ≡ Some m → HasMacro (x ∷ xs) m × (p m ≡ true)
    by more true t f =
        let same : x ≡ m = cc in
        let P : Macro → Type 0 = λ y. HasMacro (x ∷ xs) y × (p y ≡ true) in
        subst P same (has_first x xs, t)
    by more false t f = let r = more f in (has_later x m xs r.0, r.1)

none_found : (p : Macro → Bool) (macros : List Macro) (m : Macro) → find p macros ≡ None → HasMacro macros m → p m ≡ true → ⊥
none_found p [] m e h t = absurd (has_none m h)
none_found p (x ∷ xs) m e h t = by (λ f later. none_found p xs m f later t) (p x) refl e (has_split x m xs h)
  where
    by : (find p xs ≡ None → HasMacro xs m → ⊥) → (b : Bool) → p x ≡ b → cond b (Some x) (find p xs) ≡ None
        → (x ≡ m) ⊎ HasMacro xs m → ⊥
    by more true s f either = cc
    by more false s f (inl same) = no_clash (sym s ∙ ap p same ∙ t)
    by more false s f (inr later) = more f later

name_kind : (k : TokenKind) → is_name k ≡ true → k ≡ kind.Name
name_kind (kind.Keyword k) e = absurd (no_clash e)
name_kind kind.Name e = refl
name_kind (kind.Number t) e = absurd (no_clash e)
name_kind kind.Character e = absurd (no_clash e)
name_kind kind.Text e = absurd (no_clash e)
name_kind (kind.Mark m) e = absurd (no_clash e)

pub is_named : (l : Lexeme) (word : List ℕ) → is_name_token l ≡ true → l.text ≡ word → l ≡ name_token word
is_named l word e t =
    let parts = and_parts (is_name l.kind) (l.value == 0) e in
    let k : l.kind ≡ kind.Name = name_kind l.kind parts.0 in
    let v : l.value ≡ 0 = eqb-true l.value 0 parts.1 in
    λ i. record { kind = k i; value = v i; text = t i }

pub replacer-sound : (macros : List Macro) (hidden : List (List ℕ)) (l : Lexeme) (m : Macro) → replacer macros hidden l ≡ Some m
    → Replaces macros hidden m l
replacer-sound macros hidden l m e = by (is_name_token l) (is_in hidden l.text) refl refl e
  where
    by : (b h : Bool) → is_name_token l ≡ b → is_in hidden l.text ≡ h → cond (b && not h) (find (λ (x : Macro). bytes_eq x.name l.text) macros) None ≡ Some m
        → Replaces macros hidden m l
    by true true t s f = absurd cc
    by false h t s f = absurd cc
    by true false t s f =
        let r = found_has (λ (x : Macro). bytes_eq x.name l.text) macros m f in
        let same : m.name ≡ l.text = (bytes_eq-Decides m.name l.text).0 r.1 in
        record {
          has = r.0;
          named = is_named l m.name t (sym same);
          not_hidden = λ d. no_clash (sym s ∙ is_in-complete hidden l.text (let P : List ℕ → Type 0 = λ w. IsDefined hidden w in subst P same d));
        }

pub replacer-complete : (macros : List Macro) (hidden : List (List ℕ)) (l : Lexeme) (m : Macro) → replacer macros hidden l ≡ None
    → Replaces macros hidden m l → ⊥
replacer-complete macros hidden l m e r = by (is_in hidden (name_token m.name).text) refl e2
  where
    e2 : replacer macros hidden (name_token m.name) ≡ None
    e2 = ap (λ (x : Lexeme). replacer macros hidden x) (sym r.named) ∙ e

    by : (h : Bool) → is_in hidden m.name ≡ h → cond (not h) (find (λ (x : Macro). bytes_eq x.name m.name) macros) None ≡ None → ⊥
    by true s f = r.not_hidden (is_in-sound hidden m.name s)
    by false s f = none_found (λ (x : Macro). bytes_eq x.name m.name) macros m f r.has ((bytes_eq-Decides m.name m.name).1 refl)

-- ---- some list

one_of : Bool → ℕ
one_of hides = cond hides 0 1

few_more : (a b c d : ℕ) → a ≤ b → c < d → a + c < b + d
few_more a b c d p q = omega arith

hides_more : (w name : List ℕ) (hidden : List (List ℕ)) → cond (is_in (w ∷ hidden) name) 0 1 ≤ cond (is_in hidden name) 0 1
hides_more w name hidden = by (bytes_eq w name) (is_in hidden name)
  where
    by : (b h : Bool) → cond (b || h) 0 1 ≤ cond h 0 1
    by true true = omega arith
    by true false = omega arith
    by false true = omega arith
    by false false = omega arith

never_more : (macros : List Macro) (hidden : List (List ℕ)) (w : List ℕ) → free macros (w ∷ hidden) ≤ free macros hidden
never_more [] hidden w = omega arith
never_more (m ∷ ms) hidden w = omega (arith, never_more ms hidden w, hides_more w m.name hidden)

hides_one : (name : List ℕ) (hidden : List (List ℕ)) → (IsDefined hidden name → ⊥)
    → cond (is_in (name ∷ hidden) name) 0 1 < cond (is_in hidden name) 0 1
hides_one name hidden apart =
    by (bytes_eq name name) (is_in hidden name) ((bytes_eq-Decides name name).1 refl) refl
  where
    by : (b h : Bool) → b ≡ true → is_in hidden name ≡ h → cond (b || h) 0 1 < cond h 0 1
    by true true t s = absurd (apart (is_in-sound hidden name s))
    by true false t s = omega arith
    by false h t s = absurd (no_clash t)

-- to hide one more macro leaves fewer
pub fewer : (macros : List Macro) (hidden : List (List ℕ)) (m : Macro) → HasMacro macros m → (IsDefined hidden m.name → ⊥)
    → free macros (m.name ∷ hidden) < free macros hidden
fewer [] hidden m h apart = absurd (has_none m h)
fewer (x ∷ xs) hidden m h apart = by (λ later. fewer xs hidden m later apart) (has_split x m xs h)
  where
    by : (HasMacro xs m → free xs (m.name ∷ hidden) < free xs hidden) → (x ≡ m) ⊎ HasMacro xs m
        → free (x ∷ xs) (m.name ∷ hidden) < free (x ∷ xs) hidden
    by more (inl e) =
        let P : Macro → Type 0 = λ y. free (y ∷ xs) (m.name ∷ hidden) < free (y ∷ xs) hidden in
        subst P (sym e) (omega (arith, hides_one m.name hidden apart, never_more xs hidden m.name))
    by more (inr later) = omega (arith, more later, hides_more m.name x.name hidden)

all_kept : (macros : List Macro) (hidden : List (List ℕ)) (ls : List Lexeme) → ((l : Lexeme) (m : Macro) → Replaces macros hidden m l → ⊥)
    → Become macros hidden ls ls
all_kept macros hidden [] apart = none hidden
all_kept macros hidden (l ∷ ls) apart = kept hidden l ls ls (apart l) (all_kept macros hidden ls apart)

one_step : (macros : List Macro) (hidden : List (List ℕ)) (inner : Macro → List Lexeme) (l : Lexeme) (ls out : List Lexeme)
    → ((m : Macro) → Replaces macros hidden m l → Become macros (m.name ∷ hidden) m.body (inner m))
    → Become macros hidden ls out
    → Become macros hidden (l ∷ ls) (one_becomes inner (replacer macros hidden l) l ++ out)
one_step macros hidden inner l ls out f rest = by (replacer macros hidden l) refl
  where
    by : (o : Option Macro) → replacer macros hidden l ≡ o → Become macros hidden (l ∷ ls) (one_becomes inner o l ++ out)
    by None e = kept hidden l ls out (λ m. replacer-complete macros hidden l m e) rest
    by (Some m) e =
        let r = replacer-sound macros hidden l m e in replaced hidden l m ls (inner m) out r (f m r) rest

each_step : (macros : List Macro) (hidden : List (List ℕ)) (inner : Macro → List Lexeme) (ls : List Lexeme)
    → ((l : Lexeme) (m : Macro) → Replaces macros hidden m l → Become macros (m.name ∷ hidden) m.body (inner m))
    → Become macros hidden ls (each (λ l. one_becomes inner (replacer macros hidden l) l) ls)
each_step macros hidden inner [] f = none hidden
each_step macros hidden inner (l ∷ ls) f =
    one_step macros hidden inner l ls (each (λ x. one_becomes inner (replacer macros hidden x) x) ls) (f l)
    (each_step macros hidden inner ls f)

become_by : (n : ℕ) (macros : List Macro) (hidden : List (List ℕ)) (ls : List Lexeme) → free macros hidden ≤ n
    → Become macros hidden ls (becomes n macros hidden ls)
unfolding becomes
become_by zero macros hidden ls few =
    all_kept macros hidden ls (λ l m r. absurd (omega (arith, fewer macros hidden m r.has r.not_hidden)))
become_by (suc n) macros hidden ls few =
    each_step macros hidden (λ (m : Macro). becomes n macros (m.name ∷ hidden) m.body) ls
    (λ l m r. become_by n macros (m.name ∷ hidden) m.body (omega (arith, fewer macros hidden m r.has r.not_hidden)))

pub few_free : (macros : List Macro) (hidden : List (List ℕ)) → free macros hidden ≤ length macros
few_free [] hidden = omega arith
few_free (m ∷ ms) hidden = omega (arith, few_free ms hidden, at_most_one (is_in hidden m.name))
  where
    at_most_one : (b : Bool) → cond b 0 1 ≤ 1
    at_most_one true = omega arith
    at_most_one false = omega arith

pub become_expanded : (macros : List Macro) (hidden : List (List ℕ)) (ls : List Lexeme) → Become macros hidden ls (expanded macros hidden ls)
unfolding expanded
become_expanded macros hidden ls = become_by (length macros) macros hidden ls (few_free macros hidden)

pub becomes_some : BecomesSome
becomes_some macros hidden ls = (expanded macros hidden ls, become_expanded macros hidden ls)

-- ---- and just one

-- how a token and those behind it become others
abbrev Behind : (macros : List Macro) → List (List ℕ) → List Lexeme → List Lexeme → Type 0
Behind macros hidden [] out = out ≡ []
Behind macros hidden (l ∷ ls) out =
    (((m : Macro) → Replaces macros hidden m l → ⊥) × ((more : List Lexeme) × (out ≡ l ∷ more) × Become macros hidden ls more))
    ⊎ ((m : Macro) × (inner : List Lexeme) × (more : List Lexeme) × Replaces macros hidden m l × Become macros (m.name ∷ hidden) m.body inner
    × Become macros hidden ls more × (out ≡ inner ++ more))

behind : (macros : List Macro) (hidden : List (List ℕ)) (ls out : List Lexeme) → Become macros hidden ls out → Behind macros hidden ls out
behind macros hidden ls out (none h) = refl
behind macros hidden ls out (kept h l more rest apart b) = inl (apart, (rest, refl, b))
behind macros hidden ls out (replaced h l m more inner rest r b c) = inr (m, inner, rest, r, b, c, refl)

pub becomes_one : BecomesOne
becomes_one macros hidden ls a b distinct (none h) q = sym (behind macros h [] b q)
becomes_one macros hidden ls a b distinct (kept h l more rest apart p) q =
    by (λ x c. becomes_one macros h more rest x distinct p c) (behind macros h (l ∷ more) b q)
  where
    by : ((x : List Lexeme) → Become macros h more x → rest ≡ x) → Behind macros h (l ∷ more) b → l ∷ rest ≡ b
    by same (inl c) = ap (λ (x : List Lexeme). l ∷ x) (same c.1.0 c.1.2) ∙ sym c.1.1
    by same (inr c) = absurd (apart c.0 c.3)
becomes_one macros hidden ls a b distinct (replaced h l m more inner rest r p q) s =
    by (λ x c. becomes_one macros (m.name ∷ h) m.body inner x distinct p c) (λ x c. becomes_one macros h more rest x distinct q c)
    (behind macros h (l ∷ more) b s)
  where
    by : ((x : List Lexeme) → Become macros (m.name ∷ h) m.body x → inner ≡ x) → ((x : List Lexeme) → Become macros h more x → rest ≡ x)
        → Behind macros h (l ∷ more) b → inner ++ rest ≡ b
    by first then (inl c) = absurd (c.0 m r)
    by first then (inr c) =
        let same : c.0 ≡ m = one_macro macros c.0 m distinct c.3.has r.has (ap (λ (x : Lexeme). x.text) (sym c.3.named ∙ r.named)) in
        let P : Macro → Type 0 = λ x. Become macros (x.name ∷ h) x.body c.1 in
        let e : inner ≡ c.1 = first c.1 (subst P same c.4) in
        let f : rest ≡ c.2 = then c.2 c.5 in
        ap (λ (x : List Lexeme). x ++ rest) e ∙ ap (λ (x : List Lexeme). c.1 ++ x) f ∙ sym c.6
