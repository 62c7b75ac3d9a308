use Rattle.std.proofs.Common.{ℕ, List, Some, length, ap, ◌∙◌}
use Rattle.std.specs.Prelude.{if◌then◌else◌}
use Rattle.std.specs.Str.{bytes_eq}
use Rattle.c_types.specs.declared.table.DeclaredName.{DeclaredName}
use Rattle.c_types.specs.Tables.{Entries, meaning_of}
use Rattle.c_types.proofs.TableLaws.{table_more, inserted}
use Rattle.c_types.proofs.table.NameTable.declare.Goals as goal

pub invariant_of-self-in_default : goal.invariant_of-self-in_default
invariant_of-self-in_default c =
    let ks = c.self.inside.names.items in
    let place = length c.as_slice-place.result.now in
    let k : DeclaredName = record { name = c.args.name; hidden = c.place_in-hidden.result } in
    let old : Entries = c.self.inside.places.entries in
    let hides = c.place_in-hidden.ensures ∙ ap (λ (name : List ℕ). meaning_of old name) c.as_slice.ensures ∙ c.self.invariant.agrees k.name in
    table_more ks _ k place old _ c.in_ok-push.ensures.items (ap length c.as_slice-place.ensures.value) c.self.invariant hides (λ name.
    ap (λ (es : Entries). meaning_of es name) c.in_default.ensures.entries
    ∙ inserted old c.in_ok-key.key (Some place) name
    ∙ ap (λ (key : List ℕ). if bytes_eq name key then Some place else meaning_of old name) (c.in_ok-key.ensures.items ∙ c.as_slice-2.ensures))
