use Rattle.std.proofs.Common.{◌≤◌, ◌<◌, List, length, ap, get_or, ◌∙◌, arith}
use Rattle.c_types.specs.declared.program.StaticObject.{StaticObject}
use Rattle.privatise.proofs.SecondLemmas.{begun, more, knows_objects}
use Rattle.privatise.proofs.definitions.of_objects.Goals as goal

pub loop-object-init : goal.loop-object-init
loop-object-init c =
    begun (λ (x : StaticObject). x.object) (λ (x : StaticObject). x.at) c.args.program.now.objects c.none-definitions.result
    c.none-definitions.ensures.marks c.none-definitions.ensures.second

pub loop-object-preserved : goal.loop-object-preserved
loop-object-preserved c =
    let lt : c.loop-object.object-index < length c.args.program.now.objects =
    omega (arith, ap (λ (xs : List StaticObject). length xs) c.as_slice-object-items.ensures) in
    more (λ (x : StaticObject). x.object) (λ (x : StaticObject). x.at) c.args.program.now.objects c.loop-object.object-index c.object-item.result c.object-item.result
    c.loop-object.definitions c.define.new.self lt (c.object-item.is ∙ ap (λ (xs : List StaticObject). get_or xs c.loop-object.object-index c.object-item.result) c.as_slice-object-items.ensures) c.loop-object.invariant c.in_ok-define.ensures.marks c.in_ok-define.ensures.second

pub returns : goal.returns
returns c =
    let past : length c.args.program.now.objects ≤ c.loop-object.object-index =
    omega (arith, ap (λ (xs : List StaticObject). length xs) c.as_slice-object-items.ensures) in
    knows_objects c.args.program.now c.loop-object.object-index c.loop-object.definitions past c.loop-object.invariant
