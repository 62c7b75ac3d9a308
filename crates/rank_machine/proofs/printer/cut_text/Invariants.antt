use Rattle.std.proofs.Common.{take}
use Rattle.rank_machine.specs.Printing.{IsCut}
use Rattle.rank_machine.proofs.printer.cut_text.Given as goal

-- the bytes so far were cut
abbrev pub invariant-loop-byte : goal.invariant-loop-byte
invariant-loop-byte l = IsCut l.initial.cut l.cut (take l.byte-index l.text)
