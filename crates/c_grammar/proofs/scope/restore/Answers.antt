use Rattle.std.proofs.Common.{ℕ, List, sym, ap, ◌∙◌}
use Rattle.std.specs.Prelude.{if◌then◌else◌}
use Rattle.std.specs.Str.{bytes_eq}
use Rattle.c_grammar.specs.Meanings.{Entries, meaning_of}
use Rattle.c_grammar.proofs.ScopeLaws.{agrees_restored, written}
use Rattle.c_grammar.proofs.scope.restore.Goals as goal

pub returns-in-Some : goal.returns-in-Some
returns-in-Some c under agrees hides =
    let last = c.args.last.now in
    let old : Entries = c.args.meanings.now.entries in
    agrees_restored last under old _ agrees hides (λ name.
    ap (λ (es : Entries). meaning_of es name) (c.get_mut.follows.holds last.hidden).0
    ∙ written old c.as_slice.result.now last.hidden c.in-Some.meaning.now name (sym c.in-Some.ensures.value)
    ∙ ap (λ (key : List ℕ). if bytes_eq name key then last.hidden else meaning_of old name) c.as_slice.ensures)
