use Rattle.std.proofs.Common.{◌≤◌, ◌<◌, length, sym, arith}
use Rattle.std.proofs.lemmas.Bool.{ltb-true}
use Rattle.std.proofs.lemmas.Bool.Decides.{nat_tests}
use Rattle.buddy_ckpt.specs.Copies.{place_in}
use Rattle.buddy_ckpt.proofs.CopyLemmas.{image_at, no_image}
use Rattle.buddy_ckpt.proofs.store.find.Goals as goal

pub returns-in-Some : goal.returns-in-Some
returns-in-Some c =
    sym (image_at c.args.r.0 c.args.copies.now c.place_of.result c.in-Some.copy.now c.place_of.ensures
    (ltb-true c.place_of.result (length c.args.copies.now) (sym c.in-Some.ensures.lookup.0)) c.in-Some.ensures.lookup.1)

pub returns-in-None : goal.returns-in-None
returns-in-None c =
    let none = c.in-None.ensures.lookup.0 in
    let out : length c.args.copies.now ≤ c.place_of.result = grind (arith, nat_tests, none) in
    sym (no_image c.args.r.0 c.args.copies.now (omega (arith, out, c.place_of.ensures)))
