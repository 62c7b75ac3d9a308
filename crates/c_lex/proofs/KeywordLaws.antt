-- A word is looked up among all keywords.
use Rattle.std.proofs.Common.{◌≡◌, ◌≢◌, ℕ, Bool, true, false, cond, List, [], ◌∷◌, Option, Some, None, refl, sym, ap, ◌∙◌}
use Rattle.std.specs.Prelude.{find, IfSome, IfNone}
use Rattle.std.specs.Str.{bytes_eq}
use Rattle.std.specs.List.{AllByRecursion}
use Rattle.std.proofs.lemmas.Slice.Eq.{bytes_eq-Decides}
use Rattle.c_lex.specs.declared.token.Keyword.{Keyword}
use Rattle.c_lex.specs.declared.token.Keyword.TheVariants as keyword
use Rattle.c_lex.specs.Words.{keyword_text}
use Rattle.c_lex.specs.WordVerdicts.{keywords}

passes_first : {X : Type 0} (p : X → Bool) (y x : X) (more : Option X) (b : Bool) → p y ≡ b → (Some x ≡ more → p x ≡ true)
    → Some x ≡ cond b (Some y) more → p x ≡ true
passes_first p y x more true t later f = let same : x ≡ y = cc in ap p same ∙ t
passes_first p y x more false t later f = later f

pub passes : {X : Type 0} (p : X → Bool) (xs : List X) (x : X) → Some x ≡ find p xs → p x ≡ true
passes p [] x e = absurd cc
passes p (y ∷ ys) x e = passes_first p y x (find p ys) (p y) refl (λ f. passes p ys x f) e

none_first : {X : Type 0} (P : Type 0) (p : X → Bool) (y : X) (more : Option X) (b : Bool) → p y ≡ b → (None ≡ more → P)
    → None ≡ cond b (Some y) more → (p y ≡ false) × P
none_first P p y more true t later f = absurd cc
none_first P p y more false t later f = (t, later f)

pub none_passes : {X : Type 0} (p : X → Bool) (xs : List X) → None ≡ find p xs → AllByRecursion (λ x. p x ≡ false) xs
none_passes p [] e = tt
none_passes p (y ∷ ys) e =
    none_first (AllByRecursion (λ x. p x ≡ false) ys) p y (find p ys) (p y) refl (λ f. none_passes p ys f) e

abbrev spells : List ℕ → Keyword → Bool
spells word k = bytes_eq (keyword_text k) word

pub keyword_found : (word : List ℕ) (r : Option Keyword) → r ≡ find (λ k. bytes_eq (keyword_text k) word) keywords
    → IfSome r (λ k. word ≡ keyword_text k)
keyword_found word None e = tt
keyword_found word (Some k) e = sym ((bytes_eq-Decides (keyword_text k) word).0 (passes (spells word) keywords k e))

not_spelled : (word : List ℕ) (k : Keyword) → spells word k ≡ false → word ≢ keyword_text k
not_spelled word k e = λ same. clash (sym e ∙ (bytes_eq-Decides (keyword_text k) word).1 (sym same))
  where
    clash : false ≡ true → ⊥
    clash e = cc

every : (P : Keyword → Type 0) → AllByRecursion P keywords → (k : Keyword) → P k
every P all keyword.Auto = all.0
every P all keyword.Break = all.1.0
every P all keyword.Case = all.1.1.0
every P all keyword.Char = all.1.1.1.0
every P all keyword.Const = all.1.1.1.1.0
every P all keyword.Continue = all.1.1.1.1.1.0
every P all keyword.Default = all.1.1.1.1.1.1.0
every P all keyword.Do = all.1.1.1.1.1.1.1.0
every P all keyword.Else = all.1.1.1.1.1.1.1.1.0
every P all keyword.Enum = all.1.1.1.1.1.1.1.1.1.0
every P all keyword.Extern = all.1.1.1.1.1.1.1.1.1.1.0
every P all keyword.For = all.1.1.1.1.1.1.1.1.1.1.1.0
every P all keyword.If = all.1.1.1.1.1.1.1.1.1.1.1.1.0
every P all keyword.Inline = all.1.1.1.1.1.1.1.1.1.1.1.1.1.0
every P all keyword.Int = all.1.1.1.1.1.1.1.1.1.1.1.1.1.1.0
every P all keyword.Long = all.1.1.1.1.1.1.1.1.1.1.1.1.1.1.1.0
every P all keyword.Register = all.1.1.1.1.1.1.1.1.1.1.1.1.1.1.1.1.0
every P all keyword.Restrict = all.1.1.1.1.1.1.1.1.1.1.1.1.1.1.1.1.1.0
every P all keyword.Return = all.1.1.1.1.1.1.1.1.1.1.1.1.1.1.1.1.1.1.0
every P all keyword.Short = all.1.1.1.1.1.1.1.1.1.1.1.1.1.1.1.1.1.1.1.0
every P all keyword.Signed = all.1.1.1.1.1.1.1.1.1.1.1.1.1.1.1.1.1.1.1.1.0
every P all keyword.Sizeof = all.1.1.1.1.1.1.1.1.1.1.1.1.1.1.1.1.1.1.1.1.1.0
every P all keyword.Static = all.1.1.1.1.1.1.1.1.1.1.1.1.1.1.1.1.1.1.1.1.1.1.0
every P all keyword.Struct = all.1.1.1.1.1.1.1.1.1.1.1.1.1.1.1.1.1.1.1.1.1.1.1.0
every P all keyword.Switch = all.1.1.1.1.1.1.1.1.1.1.1.1.1.1.1.1.1.1.1.1.1.1.1.1.0
every P all keyword.Typedef = all.1.1.1.1.1.1.1.1.1.1.1.1.1.1.1.1.1.1.1.1.1.1.1.1.1.0
every P all keyword.Unsigned = all.1.1.1.1.1.1.1.1.1.1.1.1.1.1.1.1.1.1.1.1.1.1.1.1.1.1.0
every P all keyword.Void = all.1.1.1.1.1.1.1.1.1.1.1.1.1.1.1.1.1.1.1.1.1.1.1.1.1.1.1.0
every P all keyword.Volatile = all.1.1.1.1.1.1.1.1.1.1.1.1.1.1.1.1.1.1.1.1.1.1.1.1.1.1.1.1.0
every P all keyword.While = all.1.1.1.1.1.1.1.1.1.1.1.1.1.1.1.1.1.1.1.1.1.1.1.1.1.1.1.1.1.0

pub keyword_missing : (word : List ℕ) (r : Option Keyword) → r ≡ find (λ k. bytes_eq (keyword_text k) word) keywords
    → IfNone r ((k : Keyword) → word ≢ keyword_text k)
keyword_missing word None e = λ k.
    not_spelled word k (every (λ k. spells word k ≡ false) (none_passes (spells word) keywords e) k)
keyword_missing word (Some k) e = tt
