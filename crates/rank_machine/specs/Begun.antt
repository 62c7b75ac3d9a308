-- A rank before its first instruction.
use Rattle.std.specs.Prelude.{◌≡◌, [], slice_get}
use Rattle.rank_range.specs.Areas.{memory_of}
use Rattle.vm_code.specs.declared.code.Code.{Code}
use Rattle.vm_code.specs.Machine.{start}
use Rattle.rank_machine.specs.View.{Tally, Rank, config_at, words_for}

-- A rank at place 0 in no call and with no tick is the machine at its start, with its memory and the words that `main` is called with.
abbrev pub BeginAtStart : Type 0
BeginAtStart =
    (code : Code) (rank : Rank) (tally : Tally) → rank.place ≡ 0 → rank.depth ≡ 0 → rank.ticks ≡ 0 → tally.text ≡ [] → tally.made ≡ []
    → config_at code rank tally
    ≡ start (memory_of rank.number rank.top rank.bytes) (words_for rank.number (slice_get code.instrs 0)) tally.left tally.answers
