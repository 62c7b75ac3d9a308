-- In a list each initialiser is for an object that begins where its turn comes, and the next object begins behind that. So no number or pointer is
-- initialised twice.
use Rattle.std.specs.Prelude.{ℕ, ◌≡◌, ◌<◌, Some}
use Rattle.c_types.specs.declared.ctype.CType.{CType}
use Rattle.c_types.specs.Sizes.{Structs}
use Rattle.c_stores.specs.declared.spots.Spot.{Spot}
use Rattle.c_stores.specs.declared.spots.Want.{Want}
use Rattle.c_stores.specs.Spots.{spot_for}

abbrev pub IsAhead : ℕ → Spot → Type 0
IsAhead position p = (next : ℕ) → p.next ≡ Some next → position < next

abbrev pub ComesInOrder : Type 0
ComesInOrder = (structs : Structs) (t : CType) (position : ℕ) (w : Want) (p : Spot)
    → spot_for structs t position w ≡ Some p → (p.offset ≡ position) × IsAhead position p
