-- What a record of a call holds before its operands.
use Rattle.std.specs.Prelude.{ℕ, ◌≡◌, ◌+◌, List}
use Rattle.rank_range.specs.Numbers.{number_at}
use Rattle.rank_machine.specs.declared.records.Head.{Head}

pub record HasHead (bytes : List ℕ) (at : ℕ) (head : Head) : Type 0 where
  pub back : number_at bytes at 8 ≡ head.back
  pub start : number_at bytes (at + 8) 8 ≡ head.start
  pub finish : number_at bytes (at + 16) 8 ≡ head.finish
  pub count : number_at bytes (at + 24) 8 ≡ head.count
