use Rattle.std.proofs.Common.{List, ℕ, Vec, Global, position, ap, sym, ◌∙◌}
use Rattle.std.specs.List.{list_any}
use Rattle.std.specs.Str.{bytes_eq}
use Rattle.c_lex.proofs.TableLaws.{some_of_vecs, none_of_vecs}
use Rattle.c_lex.proofs.table.Table.number_of.Goals as goal

pub returns-clause-some : goal.returns-clause-some
returns-clause-some c =
    some_of_vecs c.args.self.now.names.keys c.args.lexeme.now _ (sym c.is_name.ensures ∙ c.if-not-is_name.false)
    (c.get_index_of.ensures.index
    ∙ ap (λ (w : List ℕ). position (λ (k : Vec ℕ Global). bytes_eq w k.items) c.args.self.now.names.keys) c.as_slice.ensures)

pub returns-clause-none : goal.returns-clause-none
returns-clause-none c =
    none_of_vecs c.args.self.now.names.keys c.args.lexeme.now _
    (c.get_index_of.ensures.found
    ∙ ap (λ (w : List ℕ). list_any (λ (k : Vec ℕ Global). bytes_eq w k.items) c.args.self.now.names.keys) c.as_slice.ensures)
