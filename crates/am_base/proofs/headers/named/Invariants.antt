use Rattle.std.proofs.Common.{◌≡◌, drop}
use Rattle.am_base.specs.Headers.{item_in, rows_of}
use Rattle.am_base.proofs.headers.named.Given as goal

-- no row before was of that name
abbrev pub invariant-loop-row : goal.invariant-loop-row
invariant-loop-row l = item_in (rows_of l.table) l.name ≡ item_in (rows_of (drop l.row-index l.table)) l.name
