use Rattle.std.proofs.Common.{◌≡◌, ◌+◌, ◌≤◌, length, slice_index, refl, sym, subst}
use Rattle.rank_range.specs.declared.width.Width.{Width}
use Rattle.rank_range.specs.Numbers.{bytes_in, number_at}
use Rattle.rank_range.proofs.NumberLemmas.{read_is, byte_is}
use Rattle.rank_range.proofs.numbers.read_number.Goals as goal

pub returns-in-One-clause-value : goal.returns-in-One-clause-value
returns-in-One-clause-value c =
    let P : Width → Type 0 = λ w. slice_index c.args.bytes.now c.args.at ≡ number_at c.args.bytes.now c.args.at (bytes_in w) in
    subst P (sym c.in-One.is) (byte_is c.args.bytes.now c.args.at)

pub returns-in-Two-clause-value : goal.returns-in-Two-clause-value
returns-in-Two-clause-value c =
    let P : Width → Type 0 = λ w. c.args.at + bytes_in w ≤ length c.args.bytes.now → c.read_u16.result ≡ number_at c.args.bytes.now c.args.at (bytes_in w) in
    subst P (sym c.in-Two.is) (λ room. read_is c.args.bytes.now c.args.at 2 2 c.read_u16.result refl room c.read_u16.ensures) c.requires

pub returns-in-Four-clause-value : goal.returns-in-Four-clause-value
returns-in-Four-clause-value c =
    let P : Width → Type 0 = λ w. c.args.at + bytes_in w ≤ length c.args.bytes.now → c.read_u32.result ≡ number_at c.args.bytes.now c.args.at (bytes_in w) in
    subst P (sym c.in-Four.is) (λ room. read_is c.args.bytes.now c.args.at 4 4 c.read_u32.result refl room c.read_u32.ensures) c.requires

pub returns-in-Eight-clause-value : goal.returns-in-Eight-clause-value
returns-in-Eight-clause-value c =
    let P : Width → Type 0 = λ w. c.args.at + bytes_in w ≤ length c.args.bytes.now → c.read_u64.result ≡ number_at c.args.bytes.now c.args.at (bytes_in w) in
    subst P (sym c.in-Eight.is) (λ room. read_is c.args.bytes.now c.args.at 8 8 c.read_u64.result refl room c.read_u64.ensures) c.requires
