-- The binomial tree of the members of a communicator, by their numbers. It is this profile's own.
use Rattle.std.specs.Prelude.{ℕ, zero, suc, ◌+◌, ◌-◌, ◌^◌, ◌==◌, nat_lt, min, if◌then◌else◌, List, [], ◌∷◌}
use Rattle.std.specs.Int.Count.{count_trailing_zeros}

-- the lowest set bit of a number that isn't 0
unfoldable pub lowest_bit : ℕ → ℕ
lowest_bit i = 2 ^ count_trailing_zeros 64 i

-- The subtree of a member has the members from itself on, up to this number. That of the first member has all n.
abbrev pub end_of : ℕ → ℕ → ℕ
end_of n i = if i == 0 then n else min n (i + lowest_bit i)

-- The parent of a member that isn't the first: its number without the lowest set bit.
abbrev pub parent_of : ℕ → ℕ
parent_of i = i - lowest_bit i

-- from a child on: each next one stands behind the subtree of the one before, up to the end e
abbrev pub children_from : ℕ → ℕ → ℕ → ℕ → List ℕ
children_from zero n c e = []
children_from (suc k) n c e = if nat_lt c e then c ∷ children_from k n (end_of n c) e else []

-- the children of a member, ascending
abbrev pub children : ℕ → ℕ → List ℕ
children n i = children_from n n (i + 1) (end_of n i)
