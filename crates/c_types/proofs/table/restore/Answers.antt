use Rattle.std.proofs.Common.{ℕ, List, sym, ap, ◌∙◌}
use Rattle.std.specs.Prelude.{if◌then◌else◌}
use Rattle.std.specs.Str.{bytes_eq}
use Rattle.c_types.specs.Tables.{Entries, meaning_of}
use Rattle.c_types.proofs.TableLaws.{agrees_restored, declared_there, written}
use Rattle.c_types.proofs.table.restore.Goals as goal

pub returns-in-Some : goal.returns-in-Some
returns-in-Some c before agrees hides =
    let last = c.args.last.now in
    let old : Entries = c.args.places.now.entries in
    agrees_restored last before old _ agrees hides (λ name.
    ap (λ (es : Entries). meaning_of es name) (c.get_mut.follows.holds last.hidden).0
    ∙ written old c.as_slice.result.now last.hidden c.in-Some.place.now name (sym c.in-Some.ensures.value)
    ∙ ap (λ (key : List ℕ). if bytes_eq name key then last.hidden else meaning_of old name) c.as_slice.ensures)

pub returns-in_default : goal.returns-in_default
returns-in_default c before agrees hides =
    absurd (declared_there c.as_slice.result.now c.args.last.now.name before c.args.places.now.entries c.as_slice.ensures agrees (sym c.in_default.ensures.value))
