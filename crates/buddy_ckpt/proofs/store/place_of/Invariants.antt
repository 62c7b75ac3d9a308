use Rattle.std.proofs.Common.{◌≡◌, ◌+◌}
use Rattle.std.specs.Prelude.{drop}
use Rattle.buddy_ckpt.specs.Copies.{place_in}
use Rattle.buddy_ckpt.proofs.store.place_of.Given as goal

abbrev pub invariant-loop-place : goal.invariant-loop-place
invariant-loop-place l = place_in l.r.0 (drop l.place l.copies) + l.place ≡ place_in l.r.0 l.copies
