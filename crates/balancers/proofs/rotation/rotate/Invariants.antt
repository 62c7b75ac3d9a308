use Rattle.std.proofs.Common.{◌≡◌, take}
use Rattle.balancers.specs.Rotation.{rotated}
use Rattle.balancers.proofs.rotation.rotate.Given as goal

abbrev pub invariant-loop-load : goal.invariant-loop-load
invariant-loop-load l = l.places.items ≡ rotated (take l.load-index l.loads) l.live
