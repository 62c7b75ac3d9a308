use Rattle.std.proofs.Common.{length, sym, ap, ◌∙◌}
use Rattle.c_grammar.proofs.ScopeLaws.{known_length}
use Rattle.c_grammar.proofs.scope.Scope.len.Goals as goal

pub returns : goal.returns
returns c = ap length c.as_slice.ensures.value ∙ sym (known_length c.self.inside.names.items) ∙ ap length c.self.view_is
