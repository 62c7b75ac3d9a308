use Rattle.std.proofs.Common.{◌≡◌, ◌<◌, ◌≤◌, ℕ, refl, subst, arith, length}
use Rattle.std.proofs.lemmas.Option.{slice_get_past}
use Rattle.rank_range.specs.Areas.{memory_of}
use Rattle.rank_machine.proofs.ListLemmas.{found_at}
use Rattle.rank_machine.proofs.RunLemmas.{going_start, going_more, came_halted, halted_at, came_past, came_resting, came_memory, took_is, moves, number_after, falls, owned}
use Rattle.rank_machine.proofs.CallLemmas.{kept_none, kept_both}
use Rattle.rank_machine.proofs.run.run.Goals as goal

pub instructions-init : goal.instructions-init
instructions-init g c = record { going = going_start _ _ _ _ _ _ _; number = c.requires.number; kept = kept_none _ _ _ }

pub returns-then-work-len-clause-came : goal.returns-then-work-len-clause-came
returns-then-work-len-clause-came g c =
    let past : length c.args.code.now.instrs ≤ c.instructions.work.place = omega (arith, c.if-work-len.true, c.len.ensures) in
    came_past _ _ _ _ _ _ _ _ _ _ (slice_get_past _ _ past) c.instructions.invariant.going

pub returns-in-Some-clause-came : goal.returns-in-Some-clause-came
returns-in-Some-clause-came g c =
    let within : c.instructions.work.place < length c.args.code.now.instrs = omega (arith, c.if-work-len.false, c.len.ensures) in
    came_resting _ _ _ c.in-Some.rest c.instructions.work _ _ _ _ _ _ _ _ c.len-in-instructions.ensures.value c.in-Some.ensures
    (found_at _ _ _ _ c.as_slice.ensures within) c.instructions.invariant.going

pub instructions-smaller : goal.instructions-smaller
instructions-smaller g c =
    let within : c.instructions.work.place < length c.args.code.now.instrs = omega (arith, c.if-work-len.false, c.len.ensures) in
    let moved = rw c.in-Ok-None.field-0-is at c.in-Ok-None.ensures.moved in
    falls c.args.code.now _ _ c.instructions.work c.step.new.work c.instructions.left _ (found_at _ _ _ _ c.as_slice.ensures within) refl within
    (took_is _ c.instructions.left c.ticks_of.result c.ticks_of.ensures c.in_default.ensures.1)
    (moves c.args.code.now _ c.instructions.work c.step.new.work _ _ _ _ _ _ _ _ refl c.in_default.ensures.0 c.instructions.invariant.number moved)

pub instructions-preserved : goal.instructions-preserved
instructions-preserved g c =
    let within : c.instructions.work.place < length c.args.code.now.instrs = omega (arith, c.if-work-len.false, c.len.ensures) in
    let moved = rw c.in-Ok-None.field-0-is at c.in-Ok-None.ensures.moved in
    record {
      going =
          going_more _ _ _ c.instructions.work c.step.new.work _ _ _ _ _ _ _ _ _ _ _ _ refl (found_at _ _ _ _ c.as_slice.ensures within)
          (took_is _ c.instructions.left c.ticks_of.result c.ticks_of.ensures c.in_default.ensures.1) c.instructions.invariant.going
          (owned _ _ _ _ _ _ _ _ _ _ _ _ _ c.instructions.invariant.kept.owner moved);
      number =
          number_after _ _ c.instructions.work c.step.new.work c.instructions.invariant.number
          (moves c.args.code.now _ c.instructions.work c.step.new.work _ _ _ _ _ _ _ _ refl c.in_default.ensures.0 c.instructions.invariant.number moved);
      kept = kept_both _ _ _ _ _ _ _ _ _ c.instructions.invariant.kept c.step.ensures.kept;
    }

pub returns-in-Ok-Some-clause-came : goal.returns-in-Ok-Some-clause-came
returns-in-Ok-Some-clause-came g c =
    let within : c.instructions.work.place < length c.args.code.now.instrs = omega (arith, c.if-work-len.false, c.len.ensures) in
    let moved = rw c.in-Ok-Some.field-0-is at c.in-Ok-Some.ensures.moved in
    halted_at _ _ c.in-Ok-Some.halt c.step.new.work _ _ _ _ _ _ _ _ refl
    (came_halted _ _ _ c.in-Ok-Some.halt c.instructions.work c.step.new.work _ _ _ _ _ _ _ _ _ _ _ _ refl (found_at _ _ _ _ c.as_slice.ensures within)
    (took_is _ c.instructions.left c.ticks_of-in-Ok-Some.result c.ticks_of-in-Ok-Some.ensures c.in_default.ensures.1) c.instructions.invariant.going
    (owned _ _ _ _ _ _ _ _ _ _ _ _ _ c.instructions.invariant.kept.owner moved))

pub returns-in-Err-clause-came : goal.returns-in-Err-clause-came
returns-in-Err-clause-came g c =
    let within : c.instructions.work.place < length c.args.code.now.instrs = omega (arith, c.if-work-len.false, c.len.ensures) in
    let memory = subst (λ (r : ℕ). memory_of r (g.M.Mem.top_of c.instructions.memory) (g.M.Mem.bytes_of c.step.new.memory)
    ≡ memory_of r (g.M.Mem.top_of c.instructions.memory) (g.M.Mem.bytes_of c.instructions.memory)) c.instructions.invariant.kept.owner c.in-Err.ensures.memory in
    came_memory _ _ _ c.instructions.work c.step.new.work _ _ _ _ _ _ _ _ _ _ (found_at _ _ _ _ c.as_slice.ensures within) c.in-Err.ensures.tick
    c.in-Err.ensures.work c.in-Err.ensures.stack memory c.in-Err.ensures.frames c.instructions.invariant.number c.in-Err.ensures.quiet c.instructions.invariant.going
