use Rattle.std.proofs.Common.{◌<◌, Some, ap, ◌∙◌, length}
use Rattle.std.proofs.lemmas.Option.{slice_get_within}
use Rattle.rank_machine.specs.declared.lines.Line.{Line}
use Rattle.rank_machine.proofs.ListLemmas.{found_at}
use Rattle.rank_machine.proofs.StopLemmas.{enough_for}
use Rattle.rank_machine.proofs.stop.stop_at_call.Goals as goal

pub top-words-requires : goal.top-words-requires
top-words-requires c =
    let within : c.args.work.now.place < length c.args.code.now.instrs = slice_get_within _ _ _ c.requires.found in
    enough_for c.args.code.now c.args.work.now.place c.args.work.now.operands _ _ _ _ c.requires (found_at _ _ _ _ c.as_slice.ensures within) c.in-Mpi.is

pub returns-in-Ok : goal.returns-in-Ok
returns-in-Ok c =
    let within : c.args.work.now.place < length c.args.code.now.instrs = slice_get_within _ _ _ c.requires.found in
    let found = found_at _ _ _ _ c.as_slice.ensures within ∙ ap Some c.in-Mpi.is in
    record {
      count = c.in-Mpi.arguments;
      found = found;
      enough = enough_for c.args.code.now c.args.work.now.place c.args.work.now.operands _ _ _ _ c.requires (found_at _ _ _ _ c.as_slice.ensures within) c.in-Mpi.is;
      arguments = c.from_vec.ensures ∙ c.in-Ok.ensures.items ∙ c.top-words.ensures;
      unit = ap (λ (l : Line). l.unit) c.line_of-unit.ensures;
      line = ap (λ (l : Line). l.line) c.line_of-unit.ensures;
    }
