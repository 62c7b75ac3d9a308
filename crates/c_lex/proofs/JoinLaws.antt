-- Strings next to each other are joined, from the first one on.
use Rattle.std.proofs.Common.{◌≡◌, ◌&&◌, Bool, true, false, cond, List, [], ◌∷◌, ◌++◌, ℕ, refl, sym, ap, ◌∙◌, append_assoc}
use Rattle.c_lex.specs.declared.token.Token.{Token as AToken}
use Rattle.c_lex.specs.Tokens.{is_text, with_text, before_joined, joined}
use Rattle.c_lex.specs.Joining.{added, added_behind}

pub joins : (x u : AToken) (us : List AToken) → (is_text x.kind && is_text u.kind) ≡ true
    → before_joined x (u ∷ us) ≡ with_text x u.text ∷ us
joins x u us e = ap (λ (b : Bool). cond b (with_text x u.text ∷ us) (x ∷ u ∷ us)) e

pub joins_not : (x u : AToken) (us : List AToken) → (is_text x.kind && is_text u.kind) ≡ false → before_joined x (u ∷ us) ≡ x ∷ u ∷ us
joins_not x u us e = ap (λ (b : Bool). cond b (with_text x u.text ∷ us) (x ∷ u ∷ us)) e

and_of : (a b c d : Bool) → a ≡ c → b ≡ d → (a && b) ≡ (c && d)
and_of a b c d p q = λ i. p i && q i

-- one token more before, and one behind, in either order
swap_two : (x y t : AToken) (a b c : Bool) → is_text x.kind ≡ a → is_text y.kind ≡ b → is_text t.kind ≡ c
    → before_joined x (before_joined y (t ∷ [])) ≡ added (before_joined x (y ∷ [])) t
swap_two x y t true true true p q r =
    let xy = and_of (is_text x.kind) (is_text y.kind) true true p q in
    let yt = and_of (is_text y.kind) (is_text t.kind) true true q r in
    let xt = and_of (is_text x.kind) (is_text t.kind) true true p r in
    ap (λ (ts : List AToken). before_joined x ts) (joins y t [] yt) ∙ joins x (with_text y t.text) [] xy
    ∙ ap (λ (bytes : List ℕ). record { kind = x.kind; line = x.line; value = x.value; text = bytes; headers = x.headers } ∷ [])
    (sym (append_assoc x.text y.text t.text))
    ∙ sym (joins (with_text x y.text) t [] xt) ∙ sym (ap (λ (ts : List AToken). added ts t) (joins x y [] xy))
swap_two x y t true true false p q r =
    let xy = and_of (is_text x.kind) (is_text y.kind) true true p q in
    let yt = and_of (is_text y.kind) (is_text t.kind) true false q r in
    let xt = and_of (is_text x.kind) (is_text t.kind) true false p r in
    ap (λ (ts : List AToken). before_joined x ts) (joins_not y t [] yt) ∙ joins x y (t ∷ []) xy
    ∙ sym (joins_not (with_text x y.text) t [] xt) ∙ sym (ap (λ (ts : List AToken). added ts t) (joins x y [] xy))
swap_two x y t true false c p q r =
    let xy = and_of (is_text x.kind) (is_text y.kind) true false p q in
    let yt = and_of (is_text y.kind) (is_text t.kind) false c q r in
    ap (λ (ts : List AToken). before_joined x ts) (joins_not y t [] yt) ∙ joins_not x y (t ∷ []) xy
    ∙ sym (ap (λ (ts : List AToken). x ∷ ts) (joins_not y t [] yt)) ∙ sym (ap (λ (ts : List AToken). added ts t) (joins_not x y [] xy))
swap_two x y t false b c p q r = by (is_text y.kind && is_text t.kind) refl
  where
    xy : (is_text x.kind && is_text y.kind) ≡ false
    xy = and_of (is_text x.kind) (is_text y.kind) false b p q

    by : (d : Bool) → (is_text y.kind && is_text t.kind) ≡ d → before_joined x (before_joined y (t ∷ [])) ≡ added (before_joined x (y ∷ [])) t
    by true e =
        ap (λ (ts : List AToken). before_joined x ts) (joins y t [] e) ∙ joins_not x (with_text y t.text) [] xy
        ∙ sym (ap (λ (ts : List AToken). x ∷ ts) (joins y t [] e)) ∙ sym (ap (λ (ts : List AToken). added ts t) (joins_not x y [] xy))
    by false e =
        ap (λ (ts : List AToken). before_joined x ts) (joins_not y t [] e) ∙ joins_not x y (t ∷ []) xy
        ∙ sym (ap (λ (ts : List AToken). x ∷ ts) (joins_not y t [] e)) ∙ sym (ap (λ (ts : List AToken). added ts t) (joins_not x y [] xy))

swap : (x : AToken) (ys : List AToken) (t : AToken) → before_joined x (added ys t) ≡ added (before_joined x ys) t
swap x [] t = refl
swap x (y ∷ []) t = swap_two x y t (is_text x.kind) (is_text y.kind) (is_text t.kind) refl refl refl
swap x (y ∷ z ∷ zs) t = by (is_text x.kind && is_text y.kind) refl
  where
    by : (d : Bool) → (is_text x.kind && is_text y.kind) ≡ d
        → before_joined x (y ∷ added_behind z zs t) ≡ added (before_joined x (y ∷ z ∷ zs)) t
    by true e =
        joins x y (added_behind z zs t) e ∙ sym (ap (λ (ts : List AToken). added ts t) (joins x y (z ∷ zs) e))
    by false e =
        joins_not x y (added_behind z zs t) e ∙ sym (ap (λ (ts : List AToken). added ts t) (joins_not x y (z ∷ zs) e))

-- to join one token more
pub joined-more : (ts : List AToken) (t : AToken) → joined (ts ++ t ∷ []) ≡ added (joined ts) t
joined-more [] t = refl
joined-more (x ∷ xs) t =
    ap (λ (ts : List AToken). before_joined x ts) (joined-more xs t) ∙ swap x (joined xs) t

-- ---- the last token

pub added-last : (ts : List AToken) (u t : AToken) → added (ts ++ u ∷ []) t ≡ ts ++ before_joined u (t ∷ [])
added-last [] u t = refl
added-last (x ∷ []) u t = refl
added-last (x ∷ y ∷ ys) u t = ap (λ (ts : List AToken). x ∷ ts) (added-last (y ∷ ys) u t)

pub put_on : (old front out : List AToken) (last t : AToken) (bytes : List ℕ) → old ≡ front ++ last ∷ []
    → (is_text last.kind && is_text t.kind) ≡ true → bytes ≡ last.text ++ t.text
    → out ≡ front ++ record { kind = last.kind; line = last.line; value = last.value; text = bytes; headers = last.headers } ∷ []
    → out ≡ added old t
put_on old front out last t bytes e both text is =
    is
    ∙ ap (λ (b : List ℕ). front ++ record { kind = last.kind; line = last.line; value = last.value; text = b; headers = last.headers } ∷ []) text
    ∙ sym (ap (λ (ts : List AToken). front ++ ts) (joins last t [] both)) ∙ sym (added-last front last t)
    ∙ sym (ap (λ (ts : List AToken). added ts t) e)

pub put_behind : (old front out : List AToken) (last t : AToken) → old ≡ front ++ last ∷ []
    → (is_text last.kind && is_text t.kind) ≡ false → out ≡ (front ++ last ∷ []) ++ t ∷ [] → out ≡ added old t
put_behind old front out last t e both is =
    is ∙ append_assoc front (last ∷ []) (t ∷ []) ∙ sym (ap (λ (ts : List AToken). front ++ ts) (joins_not last t [] both))
    ∙ sym (added-last front last t) ∙ sym (ap (λ (ts : List AToken). added ts t) e)
