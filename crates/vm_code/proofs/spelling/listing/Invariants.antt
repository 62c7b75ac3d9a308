use Rattle.std.proofs.Common.{◌≡◌, ◌++◌, drop}
use Rattle.vm_code.specs.Listing.{listing_from}
use Rattle.vm_code.proofs.spelling.listing.Given as goal

-- the rest of the lines is left
abbrev pub invariant-loop-instr : goal.invariant-loop-instr
invariant-loop-instr l = (l.out ++ listing_from l.number (drop l.instr-index l.code.instrs) ≡ listing_from 0 l.code.instrs) × (l.number ≡ l.instr-index)
