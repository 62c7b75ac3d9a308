-- A rank's bytes and registers as the machine that its code runs on: the records of its calls in the control stack, the areas of
-- its memory and the live blocks of its heap. The layout is this profile's own.
use Rattle.std.specs.Prelude.{ℕ, zero, suc, ◌+◌, ◌*◌, ◌^◌, ◌%◌, List, [], ◌∷◌, Option, Some, min, max, reverse, take, slice_get}
use Rattle.rank_range.specs.Layout.{base_of, globals_start, stack_start}
use Rattle.rank_range.specs.Numbers.{number_at}
use Rattle.rank_range.specs.Areas.{memory_of}
use Rattle.mpi_types.specs.declared.call.Call.{Call}
use Rattle.mpi_types.specs.declared.call.Answer.{Answer}
use Rattle.vm_code.specs.declared.code.Code.{Code}
use Rattle.vm_code.specs.declared.instr.Instr.{Instr}
use Rattle.vm_code.specs.declared.instr.Instr.TheVariants as instr
use Rattle.vm_code.specs.Stops.{Done}
use Rattle.vm_code.specs.Machine.{Frame, Config}
use Rattle.rank_machine.specs.declared.work.Work.{Work}

-- Where the record of a call stands: that of `main` has the number 0. A record has 36 words of eight bytes: the return
-- position, the frame's start, its end, the number of operands, and 32 operands with the topmost one last.
abbrev pub record_place : ℕ → ℕ
record_place number = 4096 + 288 * number

-- so many words, the last one first
abbrev pub words_at : List ℕ → ℕ → ℕ → List ℕ
words_at bytes at zero = []
words_at bytes at (suc k) = number_at bytes (at + 8 * k) 8 ∷ words_at bytes at k

-- a place as one in the data stack below the top
abbrev pub in_stack : ℕ → ℕ → ℕ
in_stack top place = max stack_start (min top place)

-- The call of a record. A record that no machine writes is read as one that it could have written: with at most 32 operands, and
-- with a frame that ends in the data stack, at the top or before it.
unfoldable pub frame_at : List ℕ → ℕ → ℕ → Frame
frame_at bytes top at =
    record {
      back = number_at bytes at 8;
      start = number_at bytes (at + 8) 8;
      finish = in_stack top (number_at bytes (at + 16) 8);
      operands = words_at bytes (at + 32) (min 32 (number_at bytes (at + 24) 8));
    }

-- what waits for the return of `main`
abbrev pub bottom : Frame
bottom = record { back = 0; start = stack_start; finish = stack_start; operands = [] }

-- the calls of the first records, the last of these first, and what waits for `main`
abbrev pub frames_of : List ℕ → ℕ → ℕ → List Frame
frames_of bytes top zero = bottom ∷ []
frames_of bytes top (suc k) =
    frame_at bytes top (record_place k) ∷ frames_of bytes (frame_at bytes top (record_place k)).finish k

-- What a machine has beside its range and registers: the text that was printed, the calls of MPI that were made, the ticks that
-- were taken, and the ticks and answers that are left.
pub record Tally : Type 0 where
  pub text : List ℕ
  pub made : List Call
  pub ticks : ℕ
  pub left : ℕ
  pub answers : List Answer

-- what was done
abbrev pub done_of : ℕ → ℕ → List ℕ → Tally → Done
done_of rank top bytes tally =
    record { memory = memory_of rank top bytes; text = tally.text; made = tally.made; ticks = tally.ticks }

-- the machine in the midst of a call
abbrev pub config_of : Work → ℕ → ℕ → List ℕ → Tally → Config
config_of work rank top bytes tally =
    record {
      place = work.place;
      frame = record { back = work.back; start = work.start; finish = top; operands = work.operands };
      callers = frames_of bytes top work.number;
      done = done_of rank top bytes tally;
      left = tally.left;
      answers = tally.answers;
    }

-- What `main` is called with, the first one first: 1, and the address of the segment's start, as many as its call takes.
abbrev pub words_for : ℕ → Option Instr → List ℕ
words_for rank (Some (instr.Call function count)) = take count (1 ∷ (base_of rank + globals_start) % 2 ^ 64 ∷ [])
words_for rank _ = []

-- A rank as it stands in its registers and its bytes: the place of its next instruction, how many calls haven't returned, its
-- ticks; its number, the top of its data stack, and all its bytes.
pub record Rank : Type 0 where
  pub place : ℕ
  pub depth : ℕ
  pub ticks : ℕ
  pub number : ℕ
  pub top : ℕ
  pub bytes : List ℕ

-- the call of that record, as it is worked on
abbrev pub work_at : ℕ → ℕ → List ℕ → ℕ → Work
work_at place top bytes number =
    record {
      place = place;
      back = (frame_at bytes top (record_place number)).back;
      start = (frame_at bytes top (record_place number)).start;
      operands = (frame_at bytes top (record_place number)).operands;
      number = number;
    }

-- the machine in the midst of a call, after so many ticks
abbrev pub config_since : Work → ℕ → ℕ → List ℕ → ℕ → Tally → Config
config_since work rank top bytes ticks tally = config_of work rank top bytes (record tally { ticks = ticks })

-- the machine before the call of `main`
abbrev pub config_before : Code → Rank → Tally → Config
config_before code rank tally =
    record {
      place = rank.place;
      frame = record bottom { operands = reverse (words_for rank.number (slice_get code.instrs 0)) };
      callers = [];
      done = done_of rank.number rank.top rank.bytes tally;
      left = tally.left;
      answers = tally.answers;
    }

abbrev pub config_in : Code → Rank → ℕ → Tally → Config
config_in code rank zero tally = config_before code rank (record tally { ticks = rank.ticks })
config_in code rank (suc number) tally =
    config_since (work_at rank.place rank.top rank.bytes number) rank.number rank.top rank.bytes rank.ticks tally

-- The machine of a rank, whatever it printed and whatever calls of MPI it made before, and whatever ticks and answers are left.
abbrev pub config_at : Code → Rank → Tally → Config
config_at code rank tally = config_in code rank rank.depth tally

-- what a rank has done
abbrev pub done_at : Rank → Tally → Done
done_at rank tally = done_of rank.number rank.top rank.bytes (record tally { ticks = rank.ticks })
