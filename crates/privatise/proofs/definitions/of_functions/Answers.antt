use Rattle.std.proofs.Common.{◌≤◌, ◌<◌, List, length, ap, get_or, arith}
use Rattle.c_types.specs.declared.program.DefinedFunction.{DefinedFunction}
use Rattle.privatise.proofs.SecondLemmas.{begun, more, knows_functions}
use Rattle.privatise.proofs.definitions.of_functions.Goals as goal

pub loop-definition-init : goal.loop-definition-init
loop-definition-init c =
    begun (λ (x : DefinedFunction). x.function) (λ (x : DefinedFunction). x.at) c.args.program.now.defined c.none-definitions.result
    c.none-definitions.ensures.marks c.none-definitions.ensures.second

pub loop-definition-preserved : goal.loop-definition-preserved
loop-definition-preserved c =
    let lt : c.loop-definition.definition-index < length c.args.program.now.defined =
    omega (arith, ap (λ (xs : List DefinedFunction). length xs) c.as_slice-definition-items.ensures) in
    let none : DefinedFunction = record { at = record { unit = 0; token = 0 }; function = 0 } in
    let xs = c.args.program.now.defined in
    let i = c.loop-definition.definition-index in
    more (λ (x : DefinedFunction). x.function) (λ (x : DefinedFunction). x.at) c.args.program.now.defined i (get_or c.as_slice-definition-items.result.now i none) none
    c.loop-definition.definitions c.define.new.self lt (ap (λ (ys : List DefinedFunction). get_or ys i none) c.as_slice-definition-items.ensures) c.loop-definition.invariant c.in_ok-define.ensures.marks c.in_ok-define.ensures.second

pub returns : goal.returns
returns c =
    let past : length c.args.program.now.defined ≤ c.loop-definition.definition-index =
    omega (arith, ap (λ (xs : List DefinedFunction). length xs) c.as_slice-definition-items.ensures) in
    knows_functions c.args.program.now c.loop-definition.definition-index c.loop-definition.definitions past c.loop-definition.invariant
