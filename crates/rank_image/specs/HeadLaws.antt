-- The first parts of a rank are read back.
use Rattle.std.proofs.Common.{◌≡◌, ◌≢◌, ◌⊎◌, ℤ, refl, inl, inr, arith}
use Rattle.byte_formats.specs.Lawful.{IsFormat}
use Rattle.byte_formats.specs.FormatLaws.{number8_is, number16_is, number32_is, number64_is, signed32_is, nothing_is, text_is, both_is, made_is, coded_is, restricted_is, ascending_is, listed_is}
use Rattle.byte_formats.specs.ChoiceLaws.{one_of_three_is}
use Rattle.rank_range.specs.declared.run.Trap.{Trap}
use Rattle.rank_range.specs.declared.run.Ending.{Ending}
use Rattle.rank_range.specs.declared.run.Ending.TheVariants.{Running, Ended, Trapped}
use Rattle.rank_image.specs.CodeLaws.{cause_there, cause_here, phase_there, phase_here}
use Rattle.rank_image.specs.Head.{cause, trap, ending_of, choice_of, ending, phase, line, lines, output, window, load, head}

pub cause_is : IsFormat cause
unfolding cause
cause_is = coded_is _ _ _ (λ y h. cause_there y) cause_here number8_is

pub trap_is : IsFormat trap
unfolding trap
trap_is = made_is _ _ _ (λ y. refl) (λ x. refl) (both_is _ _ cause_is (both_is _ _ number8_is number32_is))

ending_there : (e : Ending) → ending_of (choice_of e) ≡ e
ending_there Running = refl
ending_there (Ended status) = refl
ending_there (Trapped t) = refl

ending_here : (c : Unit {0} ⊎ (ℤ ⊎ Trap)) → choice_of (ending_of c) ≡ c
ending_here (inl u) = refl
ending_here (inr (inl status)) = refl
ending_here (inr (inr t)) = refl

pub ending_is : IsFormat ending
unfolding ending
ending_is =
    made_is _ _ _ ending_there ending_here
    (one_of_three_is 0 1 2 _ _ _ (omega arith) (omega arith) (omega arith) nothing_is signed32_is trap_is)

pub phase_is : IsFormat phase
unfolding phase
phase_is = coded_is _ _ _ (λ y h. phase_there y) phase_here number8_is

pub line_is : IsFormat line
unfolding line
line_is = made_is _ _ _ (λ y. refl) (λ x. refl) (both_is _ _ number32_is text_is)

pub lines_is : IsFormat lines
unfolding lines
lines_is = ascending_is _ _ (listed_is _ _ number32_is line_is)

pub output_is : IsFormat output
unfolding output
output_is =
    restricted_is _ _
    (made_is _ _ _ (λ y. refl) (λ x. refl) (both_is _ _ number32_is (both_is _ _ text_is (both_is _ _ number32_is lines_is))))

pub window_is : IsFormat window
unfolding window
window_is = listed_is _ _ (restricted_is _ _ number8_is) number64_is

pub load_is : IsFormat load
unfolding load
load_is = made_is _ _ _ (λ y. refl) (λ x. refl) (both_is _ _ number64_is window_is)

pub head_is : IsFormat head
unfolding head
head_is =
    restricted_is _ _
    (made_is _ _ _ (λ y. refl) (λ x. refl)
    (both_is _ _ (both_is _ _ number32_is (restricted_is _ _ number16_is))
    (both_is _ _ ending_is (both_is _ _ (both_is _ _ number64_is phase_is) (both_is _ _ output_is load_is)))))
