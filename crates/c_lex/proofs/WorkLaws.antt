-- What tokens become and how long it takes, a token at a time.
use Rattle.std.proofs.Common.{◌≡◌, ◌⊎◌, ℕ, zero, suc, ◌+◌, ◌<◌, ◌≤◌, List, [], ◌∷◌, ◌++◌, length, Option, Some, None, refl, sym, ap, subst, ◌∙◌, arith, inl, inr}
use Rattle.c_lex.specs.declared.lexeme.Lexeme.{Lexeme}
use Rattle.c_lex.specs.Lexemes.{name_token}
use Rattle.c_lex.specs.Pieces.{Macro}
use Rattle.c_lex.specs.Faults.{IsDefined}
use Rattle.c_lex.specs.Tokens.{names_of, HasMacro, AreDistinct, Replaces, Become, none, kept, replaced}
use Rattle.c_lex.specs.Expanding.{replacer, free, expanded, steps_of, all_steps, steps, work}
use Rattle.c_lex.specs.Frames.{AreNames, AreEmpty}
use Rattle.c_lex.proofs.MacroLaws.{has_split, has_none, name_of_has, one_macro, replacer-sound, replacer-complete, fewer, few_free, become_expanded, becomes_one}

module _ (macros : List Macro) (distinct : AreDistinct macros) where
  pub expanded-nil : (hidden : List (List ℕ)) → expanded macros hidden [] ≡ []
  expanded-nil hidden =
      becomes_one macros hidden [] (expanded macros hidden []) [] distinct (become_expanded macros hidden []) (none hidden)

  pub expanded-kept : (hidden : List (List ℕ)) (l : Lexeme) (ls : List Lexeme) → ((m : Macro) → Replaces macros hidden m l → ⊥)
      → expanded macros hidden (l ∷ ls) ≡ l ∷ expanded macros hidden ls
  expanded-kept hidden l ls apart =
      becomes_one macros hidden (l ∷ ls) (expanded macros hidden (l ∷ ls)) (l ∷ expanded macros hidden ls) distinct
      (become_expanded macros hidden (l ∷ ls)) (kept hidden l ls (expanded macros hidden ls) apart (become_expanded macros hidden ls))

  pub expanded-replaced : (hidden : List (List ℕ)) (l : Lexeme) (m : Macro) (ls : List Lexeme) → Replaces macros hidden m l
      → expanded macros hidden (l ∷ ls) ≡ expanded macros (m.name ∷ hidden) m.body ++ expanded macros hidden ls
  expanded-replaced hidden l m ls r =
      becomes_one macros hidden (l ∷ ls) (expanded macros hidden (l ∷ ls))
      (expanded macros (m.name ∷ hidden) m.body ++ expanded macros hidden ls) distinct (become_expanded macros hidden (l ∷ ls))
      (replaced hidden l m ls (expanded macros (m.name ∷ hidden) m.body) (expanded macros hidden ls) r
      (become_expanded macros (m.name ∷ hidden) m.body) (become_expanded macros hidden ls))

  -- ---- empty macros

  all_names : (hidden : List (List ℕ)) (empty : List Macro) (ls : List Lexeme) → AreNames empty ls
      → ((m : Macro) → HasMacro empty m → Replaces macros hidden m (name_token m.name))
      → ((m : Macro) → HasMacro empty m → Become macros (m.name ∷ hidden) m.body [])
      → Become macros hidden ls []
  all_names hidden empty [] names r f = none hidden
  all_names hidden empty (l ∷ ls) names r f =
      let h = names.0 in
      let P : Lexeme → Type 0 = λ x. Replaces macros hidden h.0 x in
      replaced hidden l h.0 ls [] [] (subst P (sym h.2) (r h.0 h.1)) (f h.0 h.1) (all_names hidden empty ls names.1 r f)

  pub empty_are : (empty : List Macro) (m : Macro) → AreEmpty macros empty → HasMacro empty m → HasMacro macros m
  empty_are [] m are h = absurd (has_none m h)
  empty_are (e ∷ es) m are h = by (λ later. empty_are es m are.3 later) (has_split e m es h)
    where
      by : (HasMacro es m → HasMacro macros m) → (e ≡ m) ⊎ HasMacro es m → HasMacro macros m
      by more (inl same) = let P : Macro → Type 0 = λ x. HasMacro macros x in subst P same are.0
      by more (inr later) = more later

  -- none of the names is one of an empty macro
  abbrev HidesNone : List Macro → List (List ℕ) → Type 0
  HidesNone empty hidden = (m : Macro) → HasMacro empty m → IsDefined hidden m.name → ⊥

  hides_one_more : (e : Macro) (es : List Macro) (hidden : List (List ℕ)) → (IsDefined (names_of es) e.name → ⊥)
      → HidesNone es hidden → HidesNone es (e.name ∷ hidden)
  hides_one_more e es hidden apart nothing m h d = by (has_split e.name m.name hidden d)
    where
      by : (e.name ≡ m.name) ⊎ IsDefined hidden m.name → ⊥
      by (inl same) =
          let P : List ℕ → Type 0 = λ n. IsDefined (names_of es) n in apart (subst P (sym same) (name_of_has es m h))
      by (inr later) = nothing m h later

  become_nothing : (empty : List Macro) (hidden : List (List ℕ)) (m : Macro) → AreEmpty macros empty → HidesNone empty hidden
      → HasMacro empty m → Become macros (m.name ∷ hidden) m.body []
  become_nothing [] hidden m are nothing h = absurd (has_none m h)
  become_nothing (e ∷ es) hidden m are nothing h =
      by (λ g x k. become_nothing es g x are.3 k) (has_split e m es h)
    where
      rest : HidesNone es hidden
      rest x k d = nothing x (e ∷ k.0, k.1, ap (λ (ms : List Macro). e ∷ ms) k.2) d

      by : ((g : List (List ℕ)) (x : Macro) → HidesNone es g → HasMacro es x → Become macros (x.name ∷ g) x.body [])
          → (e ≡ m) ⊎ HasMacro es m → Become macros (m.name ∷ hidden) m.body []
      by more (inl same) =
          let now : HidesNone es (e.name ∷ hidden) = hides_one_more e es hidden are.1 rest in
          let P : Macro → Type 0 = λ x. Become macros (x.name ∷ hidden) x.body [] in
          subst P same
          (all_names (e.name ∷ hidden) es e.body are.2
          (λ x k. record { has = empty_are es x are.3 k; named = refl; not_hidden = now x k })
          (λ x k. more (e.name ∷ hidden) x now k))
      by more (inr later) = more hidden m rest later

  pub expanded-empty : (empty : List Macro) (hidden : List (List ℕ)) (m : Macro) → AreEmpty macros empty
      → ((x : Macro) → HasMacro empty x → IsDefined hidden x.name → ⊥) → HasMacro empty m
      → expanded macros (m.name ∷ hidden) m.body ≡ []
  expanded-empty empty hidden m are nothing h =
      becomes_one macros (m.name ∷ hidden) m.body (expanded macros (m.name ∷ hidden) m.body) [] distinct
      (become_expanded macros (m.name ∷ hidden) m.body) (become_nothing empty hidden m are nothing h)

  -- ---- work

  replacer_is : (hidden : List (List ℕ)) (l : Lexeme) (m : Macro) → Replaces macros hidden m l → replacer macros hidden l ≡ Some m
  replacer_is hidden l m r = by (replacer macros hidden l) refl
    where
      by : (o : Option Macro) → replacer macros hidden l ≡ o → o ≡ Some m
      by None e = absurd (replacer-complete macros hidden l m e r)
      by (Some x) e =
          let s = replacer-sound macros hidden l x e in
          ap Some (one_macro macros x m distinct s.has r.has (ap (λ (y : Lexeme). y.text) (sym s.named ∙ r.named)))

  none_is : (hidden : List (List ℕ)) (l : Lexeme) → free macros hidden ≤ 0 → replacer macros hidden l ≡ None
  none_is hidden l few = by (replacer macros hidden l) refl
    where
      by : (o : Option Macro) → replacer macros hidden l ≡ o → o ≡ None
      by None e = refl
      by (Some x) e =
          let s = replacer-sound macros hidden l x e in absurd (omega (arith, few, fewer macros hidden x s.has s.not_hidden))

  all_steps_same : (f g : Lexeme → ℕ) (ls : List Lexeme) → ((l : Lexeme) → f l ≡ g l) → all_steps f ls ≡ all_steps g ls
  all_steps_same f g [] same = refl
  all_steps_same f g (l ∷ ls) same = omega (arith, same l, all_steps_same f g ls same)

  steps_more : (k : ℕ) (hidden : List (List ℕ)) (ls : List Lexeme) → free macros hidden ≤ k
      → steps k macros hidden ls ≡ steps (suc k) macros hidden ls
  unfolding steps
  steps_more zero hidden ls few =
      all_steps_same (λ l. 1) (λ l. steps_of (λ (m : Macro). all_steps (λ x. 1) m.body) (replacer macros hidden l)) ls
      (λ l. ap (λ (o : Option Macro). steps_of (λ (m : Macro). all_steps (λ x. 1) m.body) o) (sym (none_is hidden l few)))
  steps_more (suc k) hidden ls few =
      all_steps_same (λ l. steps_of (λ (m : Macro). steps k macros (m.name ∷ hidden) m.body) (replacer macros hidden l))
      (λ l. steps_of (λ (m : Macro). steps (suc k) macros (m.name ∷ hidden) m.body) (replacer macros hidden l)) ls
      (λ l. by l (λ m h. steps_more k (m.name ∷ hidden) m.body h) (replacer macros hidden l) refl)
    where
      by : (l : Lexeme) → ((m : Macro) → free macros (m.name ∷ hidden) ≤ k → steps k macros (m.name ∷ hidden) m.body ≡ steps (suc k) macros (m.name ∷ hidden) m.body)
          → (o : Option Macro) → replacer macros hidden l ≡ o
          → steps_of (λ (m : Macro). steps k macros (m.name ∷ hidden) m.body) o
          ≡ steps_of (λ (m : Macro). steps (suc k) macros (m.name ∷ hidden) m.body) o
      by l more None e = refl
      by l more (Some m) e =
          let s = replacer-sound macros hidden l m e in
          ap suc (more m (omega (arith, few, fewer macros hidden m s.has s.not_hidden)))

  some_steps : (f : Lexeme → ℕ) (ls : List Lexeme) → 0 < all_steps f ls
  some_steps f [] = omega arith
  some_steps f (l ∷ ls) = omega (arith, some_steps f ls)

  pub work-some : (hidden : List (List ℕ)) (ls : List Lexeme) → 0 < work macros hidden ls
  unfolding work steps
  work-some hidden ls = by (length macros)
    where
      by : (n : ℕ) → 0 < steps n macros hidden ls
      by zero = some_steps (λ l. 1) ls
      by (suc n) = some_steps (λ l. steps_of (λ (m : Macro). steps n macros (m.name ∷ hidden) m.body) (replacer macros hidden l)) ls

  steps_of_some : (f : Macro → ℕ) (o : Option Macro) → 0 < steps_of f o
  steps_of_some f None = omega arith
  steps_of_some f (Some m) = omega arith

  pub work-falls : (hidden : List (List ℕ)) (l : Lexeme) (ls : List Lexeme) → work macros hidden ls < work macros hidden (l ∷ ls)
  unfolding work steps
  work-falls hidden l ls = by (length macros)
    where
      by : (n : ℕ) → steps n macros hidden ls < steps n macros hidden (l ∷ ls)
      by zero = omega arith
      by (suc n) = omega (arith, steps_of_some (λ (m : Macro). steps n macros (m.name ∷ hidden) m.body) (replacer macros hidden l))

  pub work-begins : (hidden : List (List ℕ)) (l : Lexeme) (m : Macro) (ls : List Lexeme) → Replaces macros hidden m l
      → work macros (m.name ∷ hidden) m.body + work macros hidden ls < work macros hidden (l ∷ ls)
  unfolding work steps
  work-begins hidden l m ls r = by (length macros) (few_free macros hidden)
    where
      by : (n : ℕ) → free macros hidden ≤ n
          → steps n macros (m.name ∷ hidden) m.body + steps n macros hidden ls < steps n macros hidden (l ∷ ls)
      by zero few = absurd (omega (arith, few, fewer macros hidden m r.has r.not_hidden))
      by (suc n) few =
          let e : steps_of (λ (x : Macro). steps n macros (x.name ∷ hidden) x.body) (replacer macros hidden l)
          ≡ suc (steps n macros (m.name ∷ hidden) m.body) =
          ap (λ (o : Option Macro). steps_of (λ (x : Macro). steps n macros (x.name ∷ hidden) x.body) o) (replacer_is hidden l m r) in
          let f : steps n macros (m.name ∷ hidden) m.body ≡ steps (suc n) macros (m.name ∷ hidden) m.body =
          steps_more n (m.name ∷ hidden) m.body (omega (arith, few, fewer macros hidden m r.has r.not_hidden)) in
          omega (arith, e, f)
