use Rattle.std.proofs.Common.{◌≡◌, ◌∙◌, ◌+◌, arith, ap, length, get_or}
use Rattle.std.specs.Prelude.{slice_index}
use Rattle.std.proofs.lemmas.List.{get_or_default}
use Rattle.mpi_types.specs.declared.state.HeldMessage.{HeldMessage}
use Rattle.packet.specs.Turns.{put_held}
use Rattle.packet.proofs.TurnLemmas.{put_length}
use Rattle.packet.proofs.turns.in_order.Goals as goal

pub sorted_out-requires : goal.sorted_out-requires
sorted_out-requires c =
    let expected = c.args.b.now.expected in
    let held = c.args.b.now.held in
    let s = c.args.sender.0 in
    let x = c.index-first.result.now in
    let h : HeldMessage = record { number = c.args.number; message = c.args.m } in
    let items_are : c.into_vec-numbers.result.items ≡ expected = c.into_vec-numbers.ensures ∙ c.replace-expected.ensures.value in
    let read : x ≡ slice_index expected s =
    c.index-first.ensures ∙ ap (λ xs. get_or xs s x) items_are ∙ get_or_default expected s x 0 c.requires.rank in
    let size : length c.in-Ok.all ≡ length held + 1 =
    ap length c.in-Ok.ensures ∙ ap (λ hs. length (put_held h hs)) c.replace-held.ensures.value ∙ put_length h held in
    omega (arith, read, size, c.requires.room)
