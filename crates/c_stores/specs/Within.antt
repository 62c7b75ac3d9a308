-- Where stores lie: within the bytes that an object may have, from where their object begins.
use Rattle.std.specs.Prelude.{ℕ, ◌+◌, ◌≤◌, ◌<◌, List}
use Rattle.std.specs.List.{AllByRecursion}
use Rattle.c_types.specs.declared.statement.Store.{Store}
use Rattle.c_types.specs.Sizes.{size_limit}

abbrev pub LiesIn : ℕ → Store → Type 0
LiesIn base store = (base ≤ store.offset) × (store.offset < base + size_limit)

abbrev pub AllLieIn : ℕ → List Store → Type 0
AllLieIn base stores = AllByRecursion (LiesIn base) stores
