-- What a step of reading found, and the tokens that stood there.
use Rattle.std.proofs.Common.{◌≡◌, ℕ, Bool, true, false, cond, Option, Some, None, Ok, Err, List, [], ◌∷◌, refl, ap, subst, ◌⊎◌, inl, inr}
use denote.Enum.Bare.{same_true}
use Rattle.c_lex.specs.declared.token.Token.{Token}
use Rattle.c_lex.specs.declared.token.TokenKind.{TokenKind}
use Rattle.c_lex.specs.declared.token.TokenKind.TheVariants as kind
use Rattle.c_lex.specs.declared.token.Keyword.{Keyword}
use Rattle.c_lex.specs.declared.token.Mark.{Mark}
use Rattle.c_lex.specs.contracts.token.Mark as mark_contract
use Rattle.c_lex.specs.contracts.token.Keyword as keyword_contract
use Rattle.c_ast.specs.declared.words.Name.{Name}
use Rattle.c_grammar.specs.Names.{Names, name_at}
use Rattle.c_grammar.specs.Words.{IsMark, number_of}
use Rattle.c_grammar.specs.Reading.{State, Unexpected, Outcome, ◌>>=◌, is_mark, is_keyword, is_name, same_mark, same_keyword, sees_mark, tail, behind, here, expect_mark, expect_name, name_at_front, or_unexpected}
use Rattle.c_grammar.specs.ReadingExpr.{choose}

pub ok_same : {A : Type 0} {x y : A} → ◌≡◌ {A = Outcome A} (Ok x) (Ok y) → x ≡ y
ok_same h = cc

-- what holds of a value holds of what was found
pub moved_ok : {A : Type 0} (P : A → Type 0) {x y : A} → P x → ◌≡◌ {A = Outcome A} (Ok x) (Ok y) → P y
moved_ok P p h = subst P (ok_same h) p

pub bind_ok : {A B : Type 0} (o : Outcome A) (f : A → Outcome B) (y : B) → (o >>= f) ≡ Ok y → (x : A) × (o ≡ Ok x) × (f x ≡ Ok y)
bind_ok (Ok x) f y h = (x, refl, h)
bind_ok (Err e) f y h = absurd cc

pub choose_is : {A B : Type 0} (o : Option A) (b : B) (f : A → B) (y : B) → choose o b f ≡ y
    → ((o ≡ None) × (b ≡ y)) ⊎ ((x : A) × (o ≡ Some x) × (f x ≡ y))
choose_is None b f y h = inl (refl, h)
choose_is (Some x) b f y h = inr (x, refl, h)

pub cond_is : {B : Type 0} (t : Bool) (p q y : B) → cond t p q ≡ y → ((t ≡ true) × (p ≡ y)) ⊎ ((t ≡ false) × (q ≡ y))
cond_is true p q y h = inl (refl, h)
cond_is false p q y h = inr (refl, h)

-- two parts of what holds, moved at once
pub moved_both : (P : List Token → Names → Type 0) {ts us : List Token} {n k : Names} → ts ≡ us → n ≡ k → P ts n → P us k
moved_both P {ts} {us} {n} {k} e f p = subst (λ vs. P vs k) e (subst (P ts) f p)

pub mark_is : (m n : Mark) → same_mark m n ≡ true → m ≡ n
mark_is m n h = same_true mark_contract.the_type tt m n h

pub keyword_is : (m n : Keyword) → same_keyword m n ≡ true → m ≡ n
keyword_is m n h = same_true keyword_contract.the_type tt m n h

pub is_mark_kind : (m : Mark) (k : TokenKind) → is_mark m k ≡ true → k ≡ kind.Mark m
is_mark_kind m (kind.Mark n) h = ap kind.Mark (mark_is n m h)
is_mark_kind m (kind.Keyword k) h = absurd cc
is_mark_kind m kind.Name h = absurd cc
is_mark_kind m (kind.Number t) h = absurd cc
is_mark_kind m kind.Character h = absurd cc
is_mark_kind m kind.Text h = absurd cc

pub is_keyword_kind : (k : Keyword) (l : TokenKind) → is_keyword k l ≡ true → l ≡ kind.Keyword k
is_keyword_kind k (kind.Keyword l) h = ap kind.Keyword (keyword_is l k h)
is_keyword_kind k (kind.Mark n) h = absurd cc
is_keyword_kind k kind.Name h = absurd cc
is_keyword_kind k (kind.Number t) h = absurd cc
is_keyword_kind k kind.Character h = absurd cc
is_keyword_kind k kind.Text h = absurd cc

pub is_name_kind : (k : TokenKind) → is_name k ≡ true → k ≡ kind.Name
is_name_kind kind.Name h = refl
is_name_kind (kind.Mark n) h = absurd cc
is_name_kind (kind.Keyword l) h = absurd cc
is_name_kind (kind.Number t) h = absurd cc
is_name_kind kind.Character h = absurd cc
is_name_kind kind.Text h = absurd cc

-- this punctuator stands at the front
pub record Stands (m : Mark) (ts rest : List Token) : Type 0 where
  pub token : Token
  pub are : ts ≡ token ∷ rest
  pub is : IsMark m token

pub sees_mark_is : (m : Mark) (ts : List Token) → sees_mark m ts ≡ true → Stands m ts (tail ts)
sees_mark_is m [] h = absurd cc
sees_mark_is m (t ∷ ts) h = record { token = t; are = refl; is = is_mark_kind m t.kind h }

-- this punctuator was taken
pub record Taken (m : Mark) (s s' : State) : Type 0 where
  pub token : Token
  pub are : s.rest ≡ token ∷ s'.rest
  pub is : IsMark m token
  pub names : s.names ≡ s'.names

pub taken_behind : (m : Mark) (s : State) → sees_mark m s.rest ≡ true → Taken m s (behind s)
taken_behind m s h = let t = sees_mark_is m s.rest h in record { token = t.token; are = t.are; is = t.is; names = refl }

pub behind_taken : (m : Mark) (s s' : State) → sees_mark m s.rest ≡ true → behind s ≡ s' → Taken m s s'
behind_taken m s s' h e = subst (Taken m s) e (taken_behind m s h)

pub expect_mark_is : (total : ℕ) (m : Mark) (s s' : State) → expect_mark total m s ≡ Ok s' → Taken m s s'
unfolding expect_mark
expect_mark_is total m s s' h =
    elim (cond_is (sees_mark m s.rest) (Ok (behind s)) (Err (Unexpected (here total s))) (Ok s') h) [
      | inl p ↦ behind_taken m s s' p.0 (ok_same p.1)
      | inr p ↦ absurd (let e = p.1 in cc)
    ]

-- a name was taken
pub record NameTaken (total : ℕ) (s : State) (name : Name) (s' : State) : Type 0 where
  pub token : Token
  pub are : s.rest ≡ token ∷ s'.rest
  pub is : token.kind ≡ kind.Name
  pub made : name_at (number_of total s.rest) token ≡ name
  pub names : s.names ≡ s'.names

pub record NameStands (total : ℕ) (ts : List Token) (name : Name) : Type 0 where
  pub token : Token
  pub are : ts ≡ token ∷ tail ts
  pub is : token.kind ≡ kind.Name
  pub made : name_at (number_of total ts) token ≡ name

pub name_at_front_is : (total : ℕ) (ts : List Token) (name : Name) → name_at_front total ts ≡ Some name → NameStands total ts name
name_at_front_is total [] name h = absurd cc
name_at_front_is total (t ∷ ts) name h =
    elim (cond_is (is_name t.kind) (Some (name_at (number_of total (t ∷ ts)) t)) None (Some name) h) [
      | inl p ↦ record { token = t; are = refl; is = is_name_kind t.kind p.0; made = let e = p.1 in cc }
      | inr p ↦ absurd (let e = p.1 in cc)
    ]

pub expect_name_is : (total : ℕ) (s : State) (x : Name × State) → expect_name total s ≡ Ok x → NameTaken total s x.0 x.1
unfolding expect_name
expect_name_is total s x h = go (name_at_front total s.rest) refl h where
  go : (o : Option Name) → name_at_front total s.rest ≡ o → or_unexpected total s o ≡ Ok x → NameTaken total s x.0 x.1
  go None e h = absurd cc
  go (Some name) e h =
      let n = name_at_front_is total s.rest name e in
      moved_ok (λ (y : Name × State). NameTaken total s y.0 y.1) (record { token = n.token; are = n.are; is = n.is; made = n.made; names = refl }) h
