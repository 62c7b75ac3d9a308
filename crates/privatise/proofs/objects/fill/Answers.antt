use Rattle.std.proofs.Common.{◌≡◌, ◌+◌, ◌-◌, ◌++◌, List, ℕ, length, take, replicate, vec_len, ◌∙◌, ap, arith}
use Rattle.privatise.proofs.ByteLemmas.{filled_is}
use Rattle.privatise.proofs.objects.fill.Goals as goal

pub returns : goal.returns
returns c =
    let old = c.args.bytes.now in
    let init = c.args.object.now.initial.bytes in
    let size = c.args.object.now.size in
    let more = c.extend_from_slice.new.self in
    let end = c.len.result + size in
    let items : more.items ≡ old.items ++ init = c.in_ok-extend_from_slice.ensures.items ∙ ap (λ (ys : List ℕ). old.items ++ ys) c.as_slice.ensures in
    let count : vec_len more ≡ length (old.items ++ init) = (let e = ap (λ (ys : List ℕ). length ys) items in omega (arith, e, more.ok.0)) in
    c.in_ok-resize.ensures.items
    ∙ ap (λ (ys : List ℕ). take end ys ++ replicate (end - vec_len more) 0) items
    ∙ filled_is old.items init size end (vec_len more) (omega (arith, c.len.ensures, old.ok.0)) count
