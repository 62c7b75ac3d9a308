-- What pieces, one after another, leave in a sink.
use Rattle.std.specs.Prelude.{◌≡◌, ℕ, zero, suc, ◌+◌, List, [], ◌∷◌, ◌++◌, length, take, Option, None, Some, refl}
use Rattle.std.specs.Io.KnownBytes.{Appends, Keeps}
use Rattle.std.proofs.Common.{sym, ◌∙◌, ap, append_assoc, append-nil}
use Rattle.std.proofs.Math.Seq.{take-append-add, take-length}
use Rattle.am_io.specs.Pieces.{AppendsPart}

pub Appends-same : (old new : Option (List ℕ)) (x y : List ℕ) → x ≡ y → Appends old new x → Appends old new y
Appends-same None new x y e h = tt
Appends-same (Some xs) None x y e h = h
Appends-same (Some xs) (Some ys) x y e h = h ∙ ap (λ l. xs ++ l) e

-- Whole x and then whole y is whole x ++ y.
pub Appends-append : (old mid new : Option (List ℕ)) (x y : List ℕ)
    → Appends old mid x → Appends mid new y → Appends old new (x ++ y)
Appends-append None mid new x y a b = tt
Appends-append (Some xs) None new x y a b = absurd a
Appends-append (Some xs) (Some ys) None x y a b = b
Appends-append (Some xs) (Some ys) (Some zs) x y a b = b ∙ ap (λ l. l ++ y) a ∙ append_assoc xs x y

-- Some front of x ++ y is the front of x.
pub take-front : (n : ℕ) (x y : List ℕ) → (m : ℕ) × (take m (x ++ y) ≡ take n x)
take-front zero x y = (0, refl)
take-front (suc n) [] y = (0, refl)
take-front (suc n) (b ∷ x) y =
    let rest = take-front n x y in (suc rest.0, ap (λ l. b ∷ l) rest.1)

-- A part of x is a part of x ++ y.
pub AppendsPart-longer : {old new : Option (List ℕ)} {x : List ℕ} (y : List ℕ)
    → AppendsPart old new x → AppendsPart old new (x ++ y)
AppendsPart-longer {old} {new} {x} y part =
    let front = take-front part.count x y in
    record {
      count = front.0;
      grown = Appends-same old new (take part.count x) (take front.0 (x ++ y)) (sym front.1) part.grown;
    }

-- Whole x and then a part of y is a part of x ++ y.
pub AppendsPart-append : (old : Option (List ℕ)) {mid new : Option (List ℕ)} (x : List ℕ) {y : List ℕ}
    → Appends old mid x → AppendsPart mid new y → AppendsPart old new (x ++ y)
AppendsPart-append old {mid} {new} x {y} whole part = record {
  count = length x + part.count;
  grown = Appends-same old new (x ++ take part.count y) (take (length x + part.count) (x ++ y))
      (sym (take-append-add x y part.count)) (Appends-append old mid new x (take part.count y) whole part.grown);
}

-- The whole is a part.
pub AppendsPart-whole : (old new : Option (List ℕ)) (x : List ℕ) → Appends old new x → AppendsPart old new x
AppendsPart-whole old new x whole = record {
  count = length x;
  grown = Appends-same old new x (take (length x) x) (sym (take-length x)) whole;
}

-- Nothing is a part.
pub AppendsPart-nothing : (old new : Option (List ℕ)) (x : List ℕ) → Keeps old new → AppendsPart old new x
AppendsPart-nothing None new x k = record { count = 0; grown = tt }
AppendsPart-nothing (Some xs) None x k = record { count = 0; grown = k }
AppendsPart-nothing (Some xs) (Some ys) x k = record { count = 0; grown = k ∙ sym (append-nil xs) }

-- What stayed and then grew has grown.
pub Appends-kept : (old mid new : Option (List ℕ)) (x : List ℕ)
    → Keeps old mid → Appends mid new x → Appends old new x
Appends-kept None mid new x k a = tt
Appends-kept (Some xs) None new x k a = absurd k
Appends-kept (Some xs) (Some ys) None x k a = a
Appends-kept (Some xs) (Some ys) (Some zs) x k a = a ∙ ap (λ l. l ++ x) k

-- What stayed and then grew by a part has grown by a part.
pub AppendsPart-kept : (old mid new : Option (List ℕ)) (x : List ℕ)
    → Keeps old mid → AppendsPart mid new x → AppendsPart old new x
AppendsPart-kept old mid new x k part = record { count = part.count; grown = Appends-kept old mid new (take part.count x) k part.grown }

-- How pieces that are put one after another join, for a caller's `using`.
pub ruleset joining = (Appends-append, AppendsPart-append, AppendsPart-longer, AppendsPart-nothing)
