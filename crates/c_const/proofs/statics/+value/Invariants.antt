use Rattle.std.proofs.Common.{◌≡◌, map, take}
use Rattle.c_const.specs.Statics.{behind_all, static_first, static_behind}
use Rattle.c_const.proofs.statics.+value.Given as goal

abbrev pub invariant-static_value-loop-step : goal.invariant-static_value-loop-step
invariant-static_value-loop-step l = l.value ≡ behind_all (static_first l.e.first) (map static_behind (take l.step-index l.step-items))
