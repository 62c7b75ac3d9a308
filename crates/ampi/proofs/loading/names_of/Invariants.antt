use Rattle.std.proofs.Common.{◌≡◌, ◌++◌, drop, map, string_bytes}
use Rattle.ampi.proofs.loading.names_of.Given as goal

-- the names so far and those that are left are all
abbrev pub invariant-loop-name : goal.invariant-loop-name
invariant-loop-name l = l.all.items ++ map string_bytes (drop l.name-index l.names) ≡ map string_bytes l.names
