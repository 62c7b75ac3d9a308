use Rattle.std.proofs.Common.{◌∙◌, ◌≡◌, List, ℕ, ap, sym, subst, arith}
use Rattle.am_base.specs.declared.numbers.RankId.{RankId}
use Rattle.rank_image.specs.Image.{rank_made, Rank}
use Rattle.rank_image.proofs.ImageLemmas.{is_fitting, top_within, if_ok_two}
use Rattle.rank_image.proofs.Chains.{if_ok_by}
use Rattle.rank_image.proofs.state.with_memory.Goals as goal

pub top_at-top-requires-clause-whole : goal.top_at-top-requires-clause-whole
top_at-top-requires-clause-whole g c = (is_fitting _ c.requires).whole

pub top_at-top-requires-clause-few : goal.top_at-top-requires-clause-few
top_at-top-requires-clause-few g c = (is_fitting _ c.requires).depth

pub overflow_cast-top : goal.overflow_cast-top
overflow_cast-top g c = record { fits = omega (arith, (top_within c.args.bytes.now c.args.rest.head.regs.depth (is_fitting _ c.requires).records).1, c.top_at-top.ensures) }

pub memory_of-requires-clause-whole : goal.memory_of-requires-clause-whole
memory_of-requires-clause-whole g c = (is_fitting _ c.requires).whole

pub memory_of-requires-clause-above : goal.memory_of-requires-clause-above
memory_of-requires-clause-above g c = omega (arith, (top_within c.args.bytes.now c.args.rest.head.regs.depth (is_fitting _ c.requires).records).0, c.top_at-top.ensures)

pub memory_of-requires-clause-below : goal.memory_of-requires-clause-below
memory_of-requires-clause-below g c = omega (arith, (top_within c.args.bytes.now c.args.rest.head.regs.depth (is_fitting _ c.requires).records).1, c.top_at-top.ensures)

pub with_rest-requires : goal.with_rest-requires
with_rest-requires g c = (is_fitting _ c.requires).requests

pub returns-in-Ok-clause-state : goal.returns-in-Ok-clause-state
returns-in-Ok-clause-state g c =
    let made : ℕ → List ℕ → Rank =
    λ n bs. rank_made ((record { 0 = n }, bs), (c.args.rest.head, (c.args.rest.middle, c.args.rest.tail))) in
    if_ok_two c.with_rest.result _ _ _
    (λ s same all. all (g.M.Mem.rank_of s.memory) (g.M.Mem.bytes_of s.memory)
    ∙ ap (λ n. made n (g.M.Mem.bytes_of s.memory)) (ap g.M.Mem.rank_of same ∙ c.in-Ok.ensures.owner)
    ∙ ap (λ bs. made c.args.rank.0 bs) (ap g.M.Mem.bytes_of same ∙ c.in-Ok.ensures.bytes))
    c.with_rest.ensures.memory c.with_rest.ensures.rest
