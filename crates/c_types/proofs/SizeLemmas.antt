-- What small types say of the sizes that are computed on the way.
use Rattle.std.proofs.Common.{ℕ, suc, ◌≡◌, ◌*◌, ◌≤◌, ◌<◌, List, [], ◌∷◌, length, drop, get_or, subst}
use Rattle.std.proofs.Math.Seq.{drop-cons}
use Rattle.c_types.specs.declared.ctype.Part.{Part}
use Rattle.c_types.specs.declared.ctype.Part.TheVariants.{Array}
use Rattle.c_types.specs.Sizes.{AreSmall, part_size, size_limit}

pub small_now : (inner : ℕ) (ps : List Part) → AreSmall inner ps → inner ≤ size_limit
small_now inner [] h = h
small_now inner (p ∷ ps) h = h.0

-- an array that is made has no more bytes than it may have
pub small_array : (inner count i : ℕ) (ps : List Part) (d : Part) → i < length ps → get_or ps i d ≡ Array count → AreSmall inner (drop i ps)
    → count * inner ≤ size_limit
small_array inner count i ps d below is small =
    let P : List Part → Type 0 = λ qs. AreSmall inner qs in
    let Q : Part → Type 0 = λ p. AreSmall (part_size inner p) (drop (suc i) ps) in
    let opened = subst P (drop-cons ps i d below) small in
    small_now (count * inner) (drop (suc i) ps) (subst Q is opened.1)
