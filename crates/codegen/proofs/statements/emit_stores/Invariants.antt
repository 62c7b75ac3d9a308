use Rattle.std.proofs.Common.{take, map}
use Rattle.codegen.specs.Layout.{in_order}
use Rattle.codegen.specs.Making.{Adds, within, store_part}
use Rattle.codegen.proofs.statements.emit_stores.Given as goal

abbrev pub invariant-loop-store : goal.invariant-loop-store
invariant-loop-store l = Adds l.initial.draft l.draft (in_order (map (store_part (within l.unit l.segment)) (take l.store-index l.stores)))
