use Rattle.std.proofs.Common.{◌≡◌, ℕ, min, take, map}
use Rattle.c_types.specs.Need.{in_call, behind_all, need_behind, need_of}
use Rattle.codegen.proofs.need.+need.Given as goal

abbrev pub invariant-call_need-loop-argument : goal.invariant-call_need-loop-argument
invariant-call_need-loop-argument l = record {
  most : l.most ≡ min (in_call (map need_of (take l.argument-index l.arguments))) 255;
  before : l.before ≡ min l.argument-index 255;
}

abbrev pub invariant-steps_need-loop-step : goal.invariant-steps_need-loop-step
invariant-steps_need-loop-step l = (n : ℕ) → l.fn.value ≡ min n 255 → l.most ≡ min (behind_all n (map need_behind (take l.step-index l.steps))) 255
