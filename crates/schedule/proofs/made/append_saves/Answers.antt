use Rattle.std.proofs.Common.{◌≡◌, ◌++◌, ◌∙◌, sym, ap, append_assoc, List, ◌∷◌, [], map, ◌+◌, arith, ℕ}
use Rattle.std.proofs.lemmas.List.FromFn.{map-range_with_len_more}
use Rattle.std.specs.List.{range_with_len}
use Rattle.schedule.specs.declared.event.Event.{Event}
use Rattle.schedule.specs.declared.event.Event.TheVariants.{Save}
use Rattle.schedule.proofs.made.append_saves.Goals as goal

more : (old so_far new : List Event) (p q : ℕ) → so_far ≡ old ++ map (λ q. Save q) (range_with_len 0 p) → q ≡ p → new ≡ so_far ++ Save q ∷ []
    → new ≡ old ++ map (λ q. Save q) (range_with_len 0 (p + 1))
more old so_far new p q e f g =
    g ∙ ap (λ (x : ℕ). so_far ++ Save x ∷ []) f ∙ ap (λ (x : List Event). x ++ Save p ∷ []) e
    ∙ append_assoc old (map (λ q. Save q) (range_with_len 0 p)) (Save p ∷ [])
    ∙ ap (λ (x : List Event). old ++ x) (sym (map-range_with_len_more (λ q. Save q) 0 p p (omega arith)))

pub loop-processor-preserved : goal.loop-processor-preserved
loop-processor-preserved c = more _ _ _ _ _ c.loop-processor.invariant c.from.ensures c.in_ok-push.ensures.items
