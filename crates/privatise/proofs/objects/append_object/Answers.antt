use Rattle.std.proofs.Common.{◌≡◌, ◌-◌, ◌++◌, List, ℕ, length, drop, ◌∙◌, ap, arith, fold}
use Rattle.std.proofs.lemmas.List.{drop_all, length-drop}
use Rattle.c_types.specs.Segment.{filled, fixes_of}
use Rattle.privatise.specs.Addresses.{addressed}
use Rattle.privatise.proofs.ByteLemmas.{put_back, part_is}
use Rattle.privatise.proofs.objects.append_object.Goals as goal

pub returns : goal.returns
returns c =
    let old = c.args.bytes.now.items in
    let o = c.args.object.now in
    let offsets = c.args.offsets.now in
    let new = c.put_addresses.new.bytes in
    let lent = c.deref_mut.result.now in
    let all = c.fill.new.bytes.items in
    let start = c.len-start.result in
    let at : start ≡ length old = omega (arith, c.len-start.ensures, c.args.bytes.now.ok.0) in
    let part = part_is old (filled o) lent all start at c.in_ok-fill.ensures c.deref_mut.ensures.value in
    let long : length new ≡ length (filled o) = c.put_addresses.auto.bytes ∙ ap (λ (ys : List ℕ). length ys) part in
    let none = drop_all (length lent - start) (drop start lent) (omega (arith, length-drop start lent)) in
    put_back old (filled o) new lent all (drop (length lent - start) (drop start lent)) start c.fill.new.bytes.len at
    c.in_ok-fill.ensures c.deref_mut.ensures.value long none (c.fill.new.bytes.ok.0)
    ∙ ap (λ ys. old ++ ys) (c.put_addresses.ensures ∙ ap (λ ys. fold (addressed offsets) ys (fixes_of o)) part)
