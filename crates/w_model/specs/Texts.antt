-- The report that tells of a history.
use Rattle.std.specs.Prelude.{ℕ, ◌+◌, ◌==◌, if◌then◌else◌, Bool, true, false, Option, Some, None, List, [], ◌∷◌, ◌++◌, codes, get_or}
use Rattle.std.specs.List.{flat_map, list_any, position}
use Rattle.std.specs.Fmt.{decimal, signed_decimal}
use Rattle.am_base.specs.Traps.{trap_text}
use Rattle.rank_range.specs.declared.run.Ending.{Ending}
use Rattle.rank_range.specs.declared.run.Ending.TheVariants.{Running, Ended, Trapped}
use Rattle.vm_code.specs.Stops.{Stop}
use Rattle.vm_code.specs.Stops as stop
use Rattle.mpi_types.specs.declared.entries.Entry.{Entry}
use Rattle.w_model.specs.declared.report.End.{End}
use Rattle.w_model.specs.declared.report.End.TheVariants.{Done, Deadlock, OutOfTicks, Trapped as AnyTrapped}
use Rattle.w_model.specs.World.{Setting, World, world_of, outcome_at}
use Rattle.w_model.specs.Cut.{rank_numbers}

-- how a rank stands whose run stands so
abbrev pub ending_of : Stop → Ending
ending_of stop.Paused = Running
ending_of (stop.Waits call) = Running
ending_of (stop.Ended status) = Ended status
ending_of (stop.Trapped cause unit line) = Trapped (record { cause = cause; unit = unit; line = line })

-- the name of a file by its number
abbrev pub name_of : List (List ℕ) → ℕ → List ℕ
name_of files unit = get_or files unit []

-- what a rank did: it ended with a status, was trapped in a file, is at the bound on ticks, or waits
abbrev pub state_text : List (List ℕ) → Ending → ℕ → ℕ → List ℕ
state_text files (Ended status) ticks bound = codes " ended " ++ signed_decimal status
state_text files (Trapped why) ticks bound =
    codes " trapped " ++ trap_text why.cause ++ codes " at " ++ name_of files why.unit ++ codes ":" ++ decimal why.line
state_text files Running ticks bound = if ticks == bound then codes " at bound" else codes " waiting"

-- the report's line of a rank
abbrev pub rank_line : List (List ℕ) → ℕ → Ending → ℕ → ℕ → ℕ → List ℕ
rank_line files r ending ticks bound place =
    codes "rank " ++ decimal r ++ state_text files ending ticks bound ++ codes " ticks " ++ decimal ticks ++ codes " on "
    ++ decimal place ++ codes "\n"

-- how a rank stands at a world
abbrev pub ending_at : Setting → World → ℕ → Ending
ending_at s w r = ending_of (outcome_at s w r).stop

abbrev pub rank_line_at : List (List ℕ) → Setting → World → (ℕ → ℕ) → ℕ → List ℕ
rank_line_at files s w place r = rank_line files r (ending_at s w r) (w.rank r).ticks s.bound (place r)

abbrev pub is_trapped : Ending → Bool
is_trapped (Trapped why) = true
is_trapped (Ended status) = false
is_trapped Running = false

abbrev pub is_unended : Ending → Bool
is_unended (Ended status) = false
is_unended (Trapped why) = false
is_unended Running = true

abbrev pub is_at_bound : Ending → ℕ → ℕ → Bool
is_at_bound (Ended status) ticks bound = false
is_at_bound (Trapped why) ticks bound = false
is_at_bound Running ticks bound = ticks == bound

-- the least rank that was trapped
abbrev pub first_trapped : Setting → World → Option ℕ
first_trapped s w = position (λ r. is_trapped (ending_at s w r)) (rank_numbers s)

-- how a run that is stuck ended where no rank was trapped: out of ticks where a rank that hasn't ended is at the bound,
-- else a deadlock where one hasn't ended, else done
abbrev pub end_untrapped : Setting → World → End
end_untrapped s w =
    if list_any (λ r. is_at_bound (ending_at s w r) (w.rank r).ticks s.bound) (rank_numbers s) then OutOfTicks
    else (if list_any (λ r. is_unended (ending_at s w r)) (rank_numbers s) then Deadlock else Done)

-- the least trapped rank, where there is one, and else how the run ended without
abbrev pub end_of : Option ℕ → End → End
end_of (Some r) end = AnyTrapped (record { 0 = r })
end_of None end = end

-- How a run that is stuck ended.
abbrev pub end_at : Setting → World → End
end_at s w = end_of (first_trapped s w) (end_untrapped s w)

abbrev pub end_line : End → List ℕ
end_line Done = codes "ampi: done\n"
end_line Deadlock = codes "ampi: deadlock\n"
end_line OutOfTicks = codes "ampi: out of ticks\n"
end_line (AnyTrapped rank) = codes "ampi: trapped rank " ++ decimal rank.0 ++ codes "\n"

-- the report on a history of the program in these files, with the place of each rank
abbrev pub report_text : List (List ℕ) → Setting → (ℕ → ℕ) → List Entry → List ℕ
report_text files s place h =
    flat_map (rank_line_at files s (world_of h) place) (rank_numbers s) ++ end_line (end_at s (world_of h))
