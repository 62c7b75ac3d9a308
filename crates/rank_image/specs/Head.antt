-- How a rank's registers, its ending, its ticks, its output and its load are spelled. This profile's own.
use Rattle.std.specs.Prelude.{ℕ, ℤ, ◌+◌, ◌==◌, ◌⊎◌, Bool, true, nat_le, List, [], ◌∷◌, sum}
use Rattle.std.proofs.Common.{inl, inr}
use Rattle.am_base.specs.declared.lines.Line.{Line}
use Rattle.am_base.specs.declared.traps.TrapCause.{TrapCause}
use Rattle.am_base.specs.Traps.{trap_number}
use Rattle.byte_formats.specs.Formats.{Format, number8, number16, number32, number64, signed32, nothing, text, both, made, coded, restricted, ascending, listed}
use Rattle.byte_formats.specs.Choices.{one_of_three}
use Rattle.mpi_types.specs.declared.state.Phase.{Phase}
use Rattle.rank_range.specs.declared.run.Trap.{Trap}
use Rattle.rank_range.specs.declared.run.Ending.{Ending}
use Rattle.rank_range.specs.declared.run.Ending.TheVariants.{Running, Ended, Trapped}
use Rattle.rank_range.specs.declared.run.Output.{Output}
use Rattle.rank_image.specs.declared.load.Load.{Load}
use Rattle.rank_image.specs.declared.head.Head.{Head}
use Rattle.rank_image.specs.Codes.{cause_of, phase_of, phase_number}
use Rattle.rank_image.specs.Messages.{at_most}

-- the number of a cause
unfoldable pub cause : Format TrapCause
cause = coded number8 cause_of trap_number

-- a trap: its cause, its unit and its line
unfoldable pub trap : Format Trap
trap = made (both cause (both number8 number32)) (λ p. record { cause = p.0; unit = p.1.0; line = p.1.1 }) (λ t. (t.cause, (t.unit, t.line)))

abbrev pub ending_of : Unit {0} ⊎ (ℤ ⊎ Trap) → Ending
ending_of (inl u) = Running
ending_of (inr (inl status)) = Ended status
ending_of (inr (inr t)) = Trapped t

abbrev pub choice_of : Ending → Unit {0} ⊎ (ℤ ⊎ Trap)
choice_of Running = inl tt
choice_of (Ended status) = inr (inl status)
choice_of (Trapped t) = inr (inr t)

-- how the rank stands: 0; or 1 and its status; or 2 and its trap
unfoldable pub ending : Format Ending
ending = made (one_of_three 0 nothing 1 signed32 2 trap) ending_of choice_of

-- how far the rank is with MPI
unfoldable pub phase : Format Phase
phase = coded number8 phase_of phase_number

-- a line that is held: its number and its text
unfoldable pub line : Format Line
line = made (both number32 text) (λ p. record { number = p.0; text = p.1 }) (λ l. (l.number, l.text))

abbrev pub is_next_line : Line → Line → Bool
is_next_line a b = b.number == a.number + 1

-- held lines: how many, and those, with numbers that ascend by 1
unfoldable pub lines : Format (List Line)
lines = ascending is_next_line (listed number32 line)

-- whether the last line, if there is one, stands directly below the next one's number
abbrev pub ends_below : ℕ → List Line → Bool
ends_below next [] = true
ends_below next (l ∷ []) = next == l.number + 1
ends_below next (l ∷ more ∷ ls) = ends_below next (more ∷ ls)

-- what was printed: how many bytes, the unfinished line, the next line's number, and the held lines
unfoldable pub output : Format Output
output =
    restricted
    (made (both number32 (both text (both number32 lines)))
    (λ p. record { printed = p.0; unfinished = p.1.0; next = p.1.1.0; held = p.1.1.1 })
    (λ o. (o.printed, (o.unfinished, (o.next, o.held)))))
    (λ o. ends_below o.next o.held)

-- the ticks of the closed intervals: how many, at most 8, and those
unfoldable pub window : Format (List ℕ)
window = listed (at_most 8 number8) number64

-- the ticks of the current interval, and those of the closed ones
unfoldable pub load : Format Load
load = made (both number64 window) (λ p. record { current = p.0; window = p.1 }) (λ l. (l.current, l.window))

-- The position of the next instruction and the depth of calls, at most 256; the ending; the ticks and the phase; the
-- output and the load.
abbrev pub HeadParts : Type 0
HeadParts = (ℕ × ℕ) × (Ending × ((ℕ × Phase) × (Output × Load)))

abbrev pub head_parts : Head → HeadParts
head_parts h = ((h.regs.position, h.regs.depth), (h.ending, ((h.regs.ticks, h.phase), (h.regs.output, h.load))))

abbrev pub head_made : HeadParts → Head
head_made p =
    record {
      regs = record { position = p.0.0; depth = p.0.1; ticks = p.1.1.0.0; output = p.1.1.1.0 };
      ending = p.1.0;
      phase = p.1.1.0.1;
      load = p.1.1.1.1;
    }

-- whether the intervals' ticks are no more than the ticks in all
abbrev pub within_ticks : Load → ℕ → Bool
within_ticks l ticks = nat_le (sum l.window + l.current) ticks

unfoldable pub head : Format Head
head =
    restricted
    (made (both (both number32 (at_most 256 number16)) (both ending (both (both number64 phase) (both output load)))) head_made head_parts)
    (λ h. within_ticks h.load h.regs.ticks)
