-- Lists that gain or lose one element between two parts.
use Rattle.std.proofs.Common.{suc, List, [], ◌∷◌, ◌++◌, get_or, refl, arith}
use Rattle.std.specs.Prelude.{All, AllPairs, Any}
use Rattle.std.proofs.lemmas.List.Elements.{All-nil, All-cons, All-head, All-tail, All-append}
use Rattle.std.proofs.lemmas.List.Kept.{AllPairs-cons}

pub All-front : {X : Type 0} (P : X → Type 0) (xs ys : List X) → All P (xs ++ ys) → All P xs
All-front P [] ys h = All-nil P
All-front P (x ∷ xs) ys h =
    All-cons P x xs (All-head P x (xs ++ ys) h) (All-front P xs ys (All-tail P x (xs ++ ys) h))

pub All-back : {X : Type 0} (P : X → Type 0) (xs ys : List X) → All P (xs ++ ys) → All P ys
All-back P [] ys h = h
All-back P (x ∷ xs) ys h = All-back P xs ys (All-tail P x (xs ++ ys) h)

pub All-middle : {X : Type 0} (P : X → Type 0) (xs : List X) (x : X) (ys : List X) → All P (xs ++ x ∷ ys) → P x
All-middle P xs x ys h = All-head P x ys (All-back P xs (x ∷ ys) h)

-- without the one in the middle
pub All-without : {X : Type 0} (P : X → Type 0) (xs : List X) (x : X) (ys : List X) → All P (xs ++ x ∷ ys) → All P (xs ++ ys)
All-without P xs x ys h =
    All-append P xs ys (All-front P xs (x ∷ ys) h) (All-tail P x ys (All-back P xs (x ∷ ys) h))

-- with one more in the middle
pub All-with : {X : Type 0} (P : X → Type 0) (xs : List X) (x : X) (ys : List X) → P x → All P (xs ++ ys) → All P (xs ++ x ∷ ys)
All-with P xs x ys p h =
    All-append P xs (x ∷ ys) (All-front P xs ys h) (All-cons P x ys p (All-back P xs ys h))

-- what follows from two conditions at each element
pub All-both : {X : Type 0} (P Q R : X → Type 0) → ((x : X) → P x → Q x → R x) → (xs : List X) → All P xs → All Q xs → All R xs
All-both P Q R f xs p q k d lt = f (get_or xs k d) (p k d lt) (q k d lt)

pub AllPairs-head : {X : Type 0} (R : X → X → Type 0) (x : X) (xs : List X) → AllPairs R (x ∷ xs) → All (R x) xs
AllPairs-head R x xs h k d lt = h 0 (suc k) d (omega arith) (omega arith)

pub AllPairs-tail : {X : Type 0} (R : X → X → Type 0) (x : X) (xs : List X) → AllPairs R (x ∷ xs) → AllPairs R xs
AllPairs-tail R x xs h i j d lt within = h (suc i) (suc j) d (omega arith) (omega arith)

pub AllPairs-back : {X : Type 0} (R : X → X → Type 0) (xs ys : List X) → AllPairs R (xs ++ ys) → AllPairs R ys
AllPairs-back R [] ys h = h
AllPairs-back R (x ∷ xs) ys h = AllPairs-back R xs ys (AllPairs-tail R x (xs ++ ys) h)

pub AllPairs-without : {X : Type 0} (R : X → X → Type 0) (xs : List X) (x : X) (ys : List X)
    → AllPairs R (xs ++ x ∷ ys) → AllPairs R (xs ++ ys)
AllPairs-without R [] x ys h = AllPairs-tail R x ys h
AllPairs-without R (y ∷ xs) x ys h =
    AllPairs-cons R y (xs ++ ys)
    (All-without (R y) xs x ys (AllPairs-head R y (xs ++ x ∷ ys) h))
    (AllPairs-without R xs x ys (AllPairs-tail R y (xs ++ x ∷ ys) h))

pub AllPairs-with : {X : Type 0} (R : X → X → Type 0) (xs : List X) (x : X) (ys : List X)
    → All (λ y. R y x) xs → All (R x) ys → AllPairs R (xs ++ ys) → AllPairs R (xs ++ x ∷ ys)
AllPairs-with R [] x ys before behind h = AllPairs-cons R x ys behind h
AllPairs-with R (y ∷ xs) x ys before behind h =
    AllPairs-cons R y (xs ++ x ∷ ys)
    (All-with (R y) xs x ys (All-head (λ z. R z x) y xs before) (AllPairs-head R y (xs ++ ys) h))
    (AllPairs-with R xs x ys (All-tail (λ z. R z x) y xs before) behind (AllPairs-tail R y (xs ++ ys) h))

-- those before the one in the middle
pub AllPairs-before : {X : Type 0} (R : X → X → Type 0) (xs : List X) (x : X) (ys : List X)
    → AllPairs R (xs ++ x ∷ ys) → All (λ y. R y x) xs
AllPairs-before R [] x ys h = All-nil (λ y. R y x)
AllPairs-before R (y ∷ xs) x ys h =
    All-cons (λ z. R z x) y xs (All-middle (R y) xs x ys (AllPairs-head R y (xs ++ x ∷ ys) h))
    (AllPairs-before R xs x ys (AllPairs-tail R y (xs ++ x ∷ ys) h))

-- those behind it
pub AllPairs-behind : {X : Type 0} (R : X → X → Type 0) (xs : List X) (x : X) (ys : List X)
    → AllPairs R (xs ++ x ∷ ys) → All (R x) ys
AllPairs-behind R xs x ys h = AllPairs-head R x ys (AllPairs-back R xs (x ∷ ys) h)

pub Any-middle : {X : Type 0} (P : X → Type 0) (xs : List X) (x : X) (ys : List X) → P x → Any P (xs ++ x ∷ ys)
Any-middle P [] x ys p = (0, x, omega arith, refl, p)
Any-middle P (z ∷ xs) x ys p =
    let rest = Any-middle P xs x ys p in (suc rest.0, rest.1, omega arith, rest.3, rest.4)
