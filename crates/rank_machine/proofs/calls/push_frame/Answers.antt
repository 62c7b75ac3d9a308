use Rattle.std.proofs.Common.{◌≡◌, ◌+◌, ◌-◌, ◌∙◌, ap, subst, sym, replicate, arith}
use Rattle.rank_range.specs.Layout.{base_of, range_bytes, Accessible, IsRange}
use Rattle.rank_range.specs.Parts.{with_part}
use Rattle.rank_machine.proofs.FrameLemmas.{frames_beside}
use Rattle.rank_machine.proofs.AccessLemmas.{kept_beside}
use Rattle.rank_machine.proofs.MemoryLemmas.{frame_beside, frame_accessible}
use Rattle.rank_machine.proofs.CallLemmas.{push_is, pushed_memory, pushed_marks}
use Rattle.rank_machine.proofs.calls.push_frame.Given.{Over}
use Rattle.rank_machine.proofs.calls.push_frame.Goals as goal

range : (g : Over) (c : goal.After-fill-done g) → IsRange c.args.top (g.M.Mem.bytes_of c.args.memory.now)
range g c = subst (λ t. IsRange t (g.M.Mem.bytes_of c.args.memory.now)) (sym c.requires.here) c.top-top.ensures.range

place : (g : Over) (c : goal.After-fill-done g) → c.base.result + c.args.top ≡ base_of (g.M.Mem.rank_of c.args.memory.now) + c.args.top
place g c = ap (λ b. b + c.args.top) (c.base.ensures ∙ ap base_of (c.rank.ensures.value ∙ c.set_top.ensures.owner))

there : (g : Over) (c : goal.After-fill-done g) → Accessible (g.M.Mem.rank_of c.set_top.new.self) (g.M.Mem.top_of c.set_top.new.self) (c.base.result + c.args.top) c.args.size
there g c =
    let above = (range g c).above in
    let all = frame_accessible (g.M.Mem.rank_of c.args.memory.now) c.args.top c.args.size above in
    subst (λ r. Accessible r (g.M.Mem.top_of c.set_top.new.self) (c.base.result + c.args.top) c.args.size) (sym c.set_top.ensures.owner)
    (subst (λ t. Accessible (g.M.Mem.rank_of c.args.memory.now) t (c.base.result + c.args.top) c.args.size) (sym c.set_top.ensures.stack)
    (subst (λ a. Accessible (g.M.Mem.rank_of c.args.memory.now) (c.args.top + c.args.size) a c.args.size) (sym (place g c)) all))

put : (g : Over) (c : goal.After-fill-done g) → g.M.Mem.bytes_of c.fill-done.new.self
    ≡ with_part (g.M.Mem.bytes_of c.args.memory.now) (base_of (g.M.Mem.rank_of c.args.memory.now) + c.args.top - base_of (g.M.Mem.rank_of c.args.memory.now)) (replicate c.args.size 0)
put g c =
    push_is c.fill-done.result (g.M.Mem.rank_of c.args.memory.now) (g.M.Mem.rank_of c.set_top.new.self) c.args.top (g.M.Mem.top_of c.set_top.new.self)
    c.args.size (c.base.result + c.args.top) _ _ _ c.set_top.ensures.owner c.set_top.ensures.bytes c.set_top.ensures.stack (place g c) (range g c).above
    c.fill-done.ensures.bytes c.fill-done.ensures.refused

pub returns-clause-value : goal.returns-clause-value
returns-clause-value g c = pushed_memory _ _ _ c.args.size _ _ c.requires.here c.top-top.ensures.range c.requires.room (put g c)

pub returns-clause-frames : goal.returns-clause-frames
returns-clause-frames g c =
    let above = (range g c).above in
    let beside = frame_beside (g.M.Mem.rank_of c.args.memory.now) c.args.top c.args.size _ _ (range g c) c.requires.room (put g c) in
    frames_beside _ _ c.args.top range_bytes (omega (arith, above)) beside.0

pub returns-clause-kept : goal.returns-clause-kept
returns-clause-kept g c =
    let above = (range g c).above in
    let beside = frame_beside (g.M.Mem.rank_of c.args.memory.now) c.args.top c.args.size _ _ (range g c) c.requires.room (put g c) in
    kept_beside _ _ c.args.top range_bytes _ _ _ _ (c.fill-done.ensures.owner ∙ c.set_top.ensures.owner) beside.1
    (pushed_marks c.fill-done.result _ _ _ _ _ _ _ (there g c) c.fill-done.ensures.marks c.fill-done.ensures.refused c.set_top.ensures.bytes c.set_top.ensures.marks)
    (omega (arith, above)) beside.0
