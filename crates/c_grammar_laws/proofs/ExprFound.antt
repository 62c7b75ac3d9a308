-- What a step of reading an expression found, and the tokens that stood there.
use Rattle.std.proofs.Common.{◌≡◌, ℕ, Bool, true, false, cond, Option, Some, None, Ok, Err, List, [], ◌∷◌, refl, ap, subst, ◌⊎◌, inl, inr}
use denote.Enum.Bare.{same_true}
use Rattle.c_lex.specs.declared.token.Token.{Token}
use Rattle.c_lex.specs.declared.token.TokenKind.{TokenKind}
use Rattle.c_lex.specs.declared.token.TokenKind.TheVariants as kind
use Rattle.c_lex.specs.declared.token.Keyword.{Keyword}
use Rattle.c_lex.specs.declared.token.Mark.{Mark}
use Rattle.c_lex.specs.contracts.token.Mark as mark_contract
use Rattle.c_lex.specs.contracts.token.Keyword as keyword_contract
use Rattle.c_ast.specs.declared.words.Name.{Name}
use Rattle.c_grammar.specs.Names.{Names, name_at}
use Rattle.c_grammar.specs.Words.{IsMark, IsKeyword, number_of}
use Rattle.c_grammar.specs.Reading.{State, Unexpected, Outcome, ◌>>=◌, is_mark, is_keyword, is_name, sees_mark, sees_keyword, tail, behind, here, expect_mark, expect_name, name_at_front, or_unexpected}
use Rattle.c_grammar.specs.ReadingExpr.{choose}

abbrev pub found : {A : Type 0} → A → Outcome A
found x = Ok x

pub ok_same : {A : Type 0} {x y : A} → found x ≡ found y → x ≡ y
ok_same h = cc

pub some_same : {A : Type 0} {x y : A} → Some x ≡ Some y → x ≡ y
some_same h = cc

-- what holds of a value holds of what was found
pub moved : {A : Type 0} (P : A → Type 0) {x y : A} → P x → found x ≡ found y → P y
moved P p h = subst P (ok_same h) p

pub bind_ok : {A B : Type 0} (o : Outcome A) (f : A → Outcome B) (y : B) → (o >>= f) ≡ Ok y → (x : A) × (o ≡ Ok x) × (f x ≡ Ok y)
bind_ok (Err e) f y h = absurd cc
bind_ok (Ok x) f y h = (x, refl, h)

pub choose_is : {A B : Type 0} (o : Option A) (b : B) (f : A → B) (y : B) → choose o b f ≡ y
    → ((o ≡ None) × (b ≡ y)) ⊎ ((x : A) × (o ≡ Some x) × (f x ≡ y))
choose_is None b f y h = inl (refl, h)
choose_is (Some x) b f y h = inr (x, refl, h)

pub cond_is : {B : Type 0} (t : Bool) (p q y : B) → cond t p q ≡ y → ((t ≡ true) × (p ≡ y)) ⊎ ((t ≡ false) × (q ≡ y))
cond_is true p q y h = inl (refl, h)
cond_is false p q y h = inr (refl, h)

-- ---- tokens

pub mark_is : (m : Mark) (k : TokenKind) → is_mark m k ≡ true → k ≡ kind.Mark m
mark_is m (kind.Mark n) h = ap kind.Mark (same_true mark_contract.the_type tt n m h)
mark_is m (kind.Keyword k) h = absurd cc
mark_is m kind.Name h = absurd cc
mark_is m (kind.Number t) h = absurd cc
mark_is m kind.Character h = absurd cc
mark_is m kind.Text h = absurd cc

pub keyword_is : (w : Keyword) (k : TokenKind) → is_keyword w k ≡ true → k ≡ kind.Keyword w
keyword_is w (kind.Keyword k) h = ap kind.Keyword (same_true keyword_contract.the_type tt k w h)
keyword_is w (kind.Mark k) h = absurd cc
keyword_is w kind.Name h = absurd cc
keyword_is w (kind.Number t) h = absurd cc
keyword_is w kind.Character h = absurd cc
keyword_is w kind.Text h = absurd cc

pub name_is : (k : TokenKind) → is_name k ≡ true → k ≡ kind.Name
name_is kind.Name h = refl
name_is (kind.Keyword k) h = absurd cc
name_is (kind.Mark k) h = absurd cc
name_is (kind.Number t) h = absurd cc
name_is kind.Character h = absurd cc
name_is kind.Text h = absurd cc

-- this punctuator comes first, and then these tokens
pub record Stands (m : Mark) (ts rest : List Token) : Type 0 where
  pub token : Token
  pub is : IsMark m token
  pub ts_are : ts ≡ token ∷ rest

pub sees_mark_is : (m : Mark) (ts : List Token) → sees_mark m ts ≡ true → Stands m ts (tail ts)
sees_mark_is m [] h = absurd cc
sees_mark_is m (t ∷ ts) h = record { token = t; is = mark_is m t.kind h; ts_are = refl }

-- this keyword comes first
pub record StandsWord (w : Keyword) (ts rest : List Token) : Type 0 where
  pub token : Token
  pub is : IsKeyword w token
  pub ts_are : ts ≡ token ∷ rest

pub sees_keyword_is : (w : Keyword) (ts : List Token) → sees_keyword w ts ≡ true → StandsWord w ts (tail ts)
sees_keyword_is w [] h = absurd cc
sees_keyword_is w (t ∷ ts) h = record { token = t; is = keyword_is w t.kind h; ts_are = refl }

-- a punctuator that had to come next
pub record Expected (m : Mark) (s s' : State) : Type 0 where
  pub stands : Stands m s.rest s'.rest
  pub names_are : s'.names ≡ s.names

pub expect_mark_is : (total : ℕ) (m : Mark) (s s' : State) → expect_mark total m s ≡ Ok s' → Expected m s s'
unfolding expect_mark
expect_mark_is total m s s' h =
    elim (cond_is (sees_mark m s.rest) (Ok (behind s)) (Err (Unexpected (here total s))) (Ok s') h) [
      | inl p ↦ moved (λ (z : State). Expected m s z) (record { stands = sees_mark_is m s.rest p.0; names_are = refl }) p.1
      | inr p ↦ absurd (let e = p.1 in cc)
    ]

-- a name that had to come next
pub record Named (total : ℕ) (s : State) (x : Name × State) : Type 0 where
  pub token : Token
  pub is : token.kind ≡ kind.Name
  pub rest_is : s.rest ≡ token ∷ x.1.rest
  pub name_is : x.0 ≡ name_at (number_of total (token ∷ x.1.rest)) token
  pub names_are : x.1.names ≡ s.names

name_front : (total : ℕ) (names : Names) (ts : List Token) (x : Name × State)
    → or_unexpected total (record { names = names; rest = ts }) (name_at_front total ts) ≡ Ok x → Named total (record { names = names; rest = ts }) x
name_front total names [] x h = absurd cc
name_front total names (t ∷ ts) x h =
    elim (is_name t.kind) as (λ b. is_name t.kind ≡ b → or_unexpected total (record { names = names; rest = t ∷ ts }) (cond b (Some (name_at (number_of total (t ∷ ts)) t)) None) ≡ Ok x
    → Named total (record { names = names; rest = t ∷ ts }) x) [
      | true ↦ λ e k. moved (λ (z : Name × State). Named total (record { names = names; rest = t ∷ ts }) z)
          (record { token = t; is = name_is t.kind e; rest_is = refl; name_is = refl; names_are = refl }) k
      | false ↦ λ e k. absurd cc
    ] refl h

pub expect_name_is : (total : ℕ) (s : State) (x : Name × State) → expect_name total s ≡ Ok x → Named total s x
unfolding expect_name
expect_name_is total s x h = name_front total s.names s.rest x h
