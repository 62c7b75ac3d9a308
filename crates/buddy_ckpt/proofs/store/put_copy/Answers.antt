use Rattle.std.proofs.Common.{◌∙◌, refl, sym, ap, arith}
use Rattle.buddy_ckpt.specs.Copies.{place_in}
use Rattle.buddy_ckpt.proofs.CopyLemmas.{put_there, put_behind}
use Rattle.buddy_ckpt.proofs.store.put_copy.Goals as goal

pub returns-then-place-len-clause-ok : goal.returns-then-place-len-clause-ok
returns-then-place-len-clause-ok c =
    put_there c.args.copy c.args.copy.rank.0 c.args.copies.now.items c.place_of-place.result refl
    (c.place_of-place.ensures ∙ ap (place_in c.args.copy.rank.0) c.as_slice.ensures.value) (omega (arith, c.if-place-len.true, c.len.ensures))

pub returns-clause-ok : goal.returns-clause-ok
returns-clause-ok c =
    c.in_ok-push.ensures.items
    ∙ (let e = put_behind c.args.copy c.args.copy.rank.0 c.args.copies.now.items refl
    (omega (arith, c.place_of-place.ensures, ap (place_in c.args.copy.rank.0) c.as_slice.ensures.value, c.if-place-len.false, c.len.ensures)) in sym e)
