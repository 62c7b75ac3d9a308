use Rattle.std.proofs.Common.{◌≡◌, ◌∙◌, List, sym, subst, All, Contains}
use Rattle.am_base.specs.declared.numbers.ProcId.{ProcId}
use Rattle.balancers.specs.Rotation.{rotated, GoesOneOn, LoadsGoOneOn}
use Rattle.balancers.proofs.RotationLemmas.{all_rotated, rotated_is_live, goes_one_on, loads_go_one_on}
use Rattle.balancers.proofs.rotation.rotate.Goals as goal

pub returns-clause-at_live : goal.returns-clause-at_live
returns-clause-at_live c =
    let is : c.from_vec.result ≡ rotated c.args.loads.now c.args.live.now = c.from_vec.ensures ∙ all_rotated c.args.loads.now c.args.live.now _ _ c.loop-load-test.false c.loop-load.invariant in
    let P : List ProcId → Type 0 = λ plan. All (λ p. Contains c.args.live.now p) plan in
    subst P (sym is) (rotated_is_live c.args.loads.now c.args.live.now c.requires)

pub returns-clause-one_on : goal.returns-clause-one_on
returns-clause-one_on c =
    let is : c.from_vec.result ≡ rotated c.args.loads.now c.args.live.now = c.from_vec.ensures ∙ all_rotated c.args.loads.now c.args.live.now _ _ c.loop-load-test.false c.loop-load.invariant in
    let P : List ProcId → Type 0 = λ plan. GoesOneOn c.args.loads.now c.args.live.now plan in
    subst P (sym is) (goes_one_on c.args.loads.now c.args.live.now c.requires.ascending)

pub returns-clause-permuted : goal.returns-clause-permuted
returns-clause-permuted c =
    let is : c.from_vec.result ≡ rotated c.args.loads.now c.args.live.now = c.from_vec.ensures ∙ all_rotated c.args.loads.now c.args.live.now _ _ c.loop-load-test.false c.loop-load.invariant in
    let P : List ProcId → Type 0 = λ plan. LoadsGoOneOn c.args.loads.now c.args.live.now plan in
    subst P (sym is) (loads_go_one_on c.args.loads.now c.args.live.now c.requires)
