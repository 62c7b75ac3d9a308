use Rattle.std.proofs.Common.{◌≡◌, ◌+◌, ◌-◌, ◌∙◌, refl, sym, subst, arith}
use borrow.Rule.Slice.PartMut.{put_mid}
use Rattle.rank_range.specs.declared.width.Width.{Width}
use Rattle.rank_range.specs.Numbers.{bytes_in, with_number}
use Rattle.rank_range.proofs.NumberLemmas.{written, whole_field}
use Rattle.rank_range.proofs.numbers.write_number.Goals as goal

pub returns-in-One : goal.returns-in-One
returns-in-One c =
    let bytes = c.args.bytes.now in
    let at = c.args.at in
    let P : Width → Type 0 = λ w. put_mid at (at + 1 - at) bytes c.copy_from_slice.new.self ≡ with_number bytes at (bytes_in w) c.args.value in
    subst P (sym c.in-One.is)
    (written bytes at 1 1 (at + 1 - at) c.args.value c.to_le_bytes-field.result c.copy_from_slice.new.self refl (omega arith) (omega arith)
    c.to_le_bytes-field.ensures c.copy_from_slice.ensures.after)

pub returns-in-Two : goal.returns-in-Two
returns-in-Two c =
    let bytes = c.args.bytes.now in
    let at = c.args.at in
    let P : Width → Type 0 = λ w. put_mid at (at + 2 - at) bytes c.copy_from_slice-in-Two.new.self ≡ with_number bytes at (bytes_in w) c.args.value in
    subst P (sym c.in-Two.is)
    (written bytes at 2 2 (at + 2 - at) c.args.value c.to_le_bytes-field.result c.copy_from_slice-in-Two.new.self refl (omega arith) (omega arith)
    c.to_le_bytes-field.ensures c.copy_from_slice-in-Two.ensures.after)

pub returns-in-Four : goal.returns-in-Four
returns-in-Four c =
    let bytes = c.args.bytes.now in
    let at = c.args.at in
    let P : Width → Type 0 = λ w. put_mid at (at + 4 - at) bytes c.copy_from_slice-in-Four.new.self ≡ with_number bytes at (bytes_in w) c.args.value in
    subst P (sym c.in-Four.is)
    (written bytes at 4 4 (at + 4 - at) c.args.value c.to_le_bytes-field.result c.copy_from_slice-in-Four.new.self refl (omega arith) (omega arith)
    c.to_le_bytes-field.ensures c.copy_from_slice-in-Four.ensures.after)

pub returns-in-Eight : goal.returns-in-Eight
returns-in-Eight c =
    let bytes = c.args.bytes.now in
    let at = c.args.at in
    let P : Width → Type 0 = λ w. put_mid at (at + 8 - at) bytes c.copy_from_slice-in-Eight.new.self ≡ with_number bytes at (bytes_in w) c.args.value in
    subst P (sym c.in-Eight.is)
    (written bytes at 8 8 (at + 8 - at) c.args.value c.to_le_bytes-field.result c.copy_from_slice-in-Eight.new.self refl (omega arith) (omega arith)
    c.to_le_bytes-field.ensures (c.copy_from_slice-in-Eight.ensures.after ∙ whole_field c.args.value c.to_le_bytes-field.result c.to_le_bytes-field.ensures))
