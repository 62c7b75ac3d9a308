-- Numbers of one, two, four or eight bytes in a list of bytes, the lowest byte first.
use Rattle.std.specs.Prelude.{ℕ, ◌≡◌, ◌+◌, ◌^◌, ◌<◌, ◌≤◌, ◌⊎◌, List, ◌++◌, length, take, drop}
use Rattle.byteorder.specs.Endian.{little_number, little_bytes}
use Rattle.rank_range.specs.declared.width.Width.{Width}
use Rattle.rank_range.specs.declared.width.Width.TheVariants.{One, Two, Four, Eight}

abbrev pub bytes_in : Width → ℕ
bytes_in One = 1
bytes_in Two = 2
bytes_in Four = 4
bytes_in Eight = 8

-- the number in the n bytes from `at` on
unfoldable pub number_at : List ℕ → ℕ → ℕ → ℕ
number_at bytes at n = little_number n (drop at bytes)

-- the bytes with the lowest n bytes of v from `at` on
unfoldable pub with_number : List ℕ → ℕ → ℕ → ℕ → List ℕ
with_number bytes at n v = take at bytes ++ (little_bytes n v ++ drop (at + n) bytes)

-- What is stored is what is loaded.
abbrev pub AreLoadedBack : Type 0
AreLoadedBack =
    (bytes : List ℕ) (at n v : ℕ) → at + n ≤ length bytes → v < 256 ^ n
    → number_at (with_number bytes at n v) at n ≡ v

-- Storing changes no number beside the place, and not how many bytes there are.
abbrev pub OthersStay : Type 0
OthersStay =
    (bytes : List ℕ) (at n v other m : ℕ) → at + n ≤ length bytes → (other + m ≤ at) ⊎ (at + n ≤ other)
    → number_at (with_number bytes at n v) other m ≡ number_at bytes other m

abbrev pub LengthStays : Type 0
LengthStays =
    (bytes : List ℕ) (at n v : ℕ) → at + n ≤ length bytes → length (with_number bytes at n v) ≡ length bytes
