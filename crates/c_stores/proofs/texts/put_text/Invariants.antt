use Rattle.std.proofs.Common.{◌≡◌, ◌+◌, drop}
use Rattle.c_stores.specs.Texts.{with_text}
use Rattle.c_stores.proofs.texts.put_text.Given as goal

abbrev pub invariant-loop-byte : goal.invariant-loop-byte
invariant-loop-byte l =
    (l.at ≡ l.offset + l.byte-index)
    × (with_text l.token l.kind l.at l.stores (drop l.byte-index l.bytes) ≡ with_text l.token l.kind l.offset l.fn.stores l.bytes)
