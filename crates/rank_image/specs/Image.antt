-- What a rank is between its ticks, and the bytes of its image. This profile's own.
use Rattle.std.specs.Prelude.{ℕ, zero, suc, ◌≡◌, ◌+◌, ◌*◌, ◌&&◌, nat_le, nat_lt, Bool, true, ◌==◌, if◌then◌else◌, false, Option, Some, None, List, length, take}
use Rattle.std.specs.Int.{w16, from_le_bytes}
use Rattle.std.specs.List.{list_all}
use Rattle.am_base.specs.declared.numbers.RankId.{RankId}
use Rattle.byte_formats.specs.Formats.{Format, block, both, made, restricted}
use Rattle.byte_formats.specs.Lawful.{Spells}
use Rattle.mpi_types.specs.declared.argument.Sweep.{Sweep}
use Rattle.mpi_types.specs.declared.group.Communicator.{Communicator}
use Rattle.mpi_types.specs.declared.lists.BookLists.{BookLists}
use Rattle.mpi_types.specs.declared.lists.MatchedPair.{MatchedPair}
use Rattle.mpi_types.specs.declared.message.Message.{Message}
use Rattle.mpi_types.specs.declared.state.HeldMessage.{HeldMessage}
use Rattle.mpi_types.specs.declared.state.OwnData.{OwnData}
use Rattle.mpi_types.specs.declared.state.Reorder.{Reorder}
use Rattle.rank_range.specs.Layout.{range_bytes, stack_start}
use Rattle.rank_range.specs.Numbers.{number_at}
use Rattle.rank_range.specs.declared.run.Ending.{Ending}
use Rattle.rank_range.specs.declared.run.Regs.{Regs}
use Rattle.rank_image.specs.declared.head.Head.{Head}
use Rattle.rank_image.specs.declared.load.Load.{Load}
use Rattle.rank_image.specs.declared.middle.Middle.{Middle}
use Rattle.rank_image.specs.declared.tail.Tail.{Tail}
use Rattle.rank_image.specs.Head.{head}
use Rattle.rank_image.specs.HeapTest.{is_sound_heap}
use Rattle.rank_image.specs.Middle.{rank, middle, tail}

-- What a rank is: its number and all bytes of its memory, its registers, how it stands, its load, its data of MPI, the
-- number of its next message to each rank, and what it holds back of others.
pub record Rank : Type 0 where
  pub rank : RankId
  pub bytes : List ℕ
  pub regs : Regs
  pub ending : Ending
  pub load : Load
  pub own : OwnData
  pub sweep : Sweep
  pub lists : BookLists
  pub sent : List ℕ
  pub reorder : Reorder

-- The records of the calls that haven't returned stand one behind another in the control stack: the return position,
-- the offsets at which the frame begins and ends, the number of operands, and room for 32 of them, each a word.
abbrev pub record_place : ℕ → ℕ
record_place k = 4096 + 288 * k

abbrev pub frame_start : List ℕ → ℕ → ℕ
frame_start bytes k = number_at bytes (record_place k + 8) 8

abbrev pub frame_end : List ℕ → ℕ → ℕ
frame_end bytes k = number_at bytes (record_place k + 16) 8

abbrev pub operand_count : List ℕ → ℕ → ℕ
operand_count bytes k = number_at bytes (record_place k + 24) 8

-- the frame lies in the data stack, and the record has room for its operands
abbrev pub fits_record : List ℕ → ℕ → Bool
fits_record bytes k =
    nat_le stack_start (frame_start bytes k) && (nat_le (frame_start bytes k) (frame_end bytes k)
    && (nat_le (frame_end bytes k) range_bytes && nat_le (operand_count bytes k) 32))

-- so it is with all records
unfoldable pub fit_records : List ℕ → ℕ → Bool
fit_records bytes zero = true
fit_records bytes (suc k) = fits_record bytes k && fit_records bytes k

-- where the data stack ends: with the frame of the last call, or where it begins
unfoldable pub top_at : List ℕ → ℕ → ℕ
top_at bytes zero = stack_start
top_at bytes (suc k) = frame_end bytes k

-- the numbers of ranks are numbers of the run's ranks
abbrev pub is_from : ℕ → Message → Bool
is_from ranks m = nat_lt m.sender.0 ranks

abbrev pub is_paired_from : ℕ → MatchedPair → Bool
is_paired_from ranks p = is_from ranks p.message

abbrev pub is_held_from : ℕ → HeldMessage → Bool
is_held_from ranks h = is_from ranks h.message

abbrev pub is_rank : ℕ → RankId → Bool
is_rank ranks r = nat_lt r.0 ranks

abbrev pub has_members : ℕ → Communicator → Bool
has_members ranks c = list_all (is_rank ranks) c.group.members

unfoldable pub are_ranks : RankId → Middle → Tail → Bool
are_ranks r m t =
    is_rank (length t.sent) r && (list_all (is_paired_from (length t.sent)) m.requests.matched
    && (list_all (has_members (length t.sent)) m.communicators && (list_all (is_held_from (length t.sent)) t.held
    && list_all (is_from (length t.sent)) t.arrived)))

-- the parts of a rank as they stand in its image
abbrev pub Parts : Type 0
Parts = (RankId × List ℕ) × (Head × (Middle × Tail))

abbrev pub rank_made : Parts → Rank
rank_made p =
    record {
      rank = p.0.0;
      bytes = p.0.1;
      regs = p.1.0.regs;
      ending = p.1.0.ending;
      load = p.1.0.load;
      own = record {
        phase = p.1.0.phase;
        next = p.1.1.0.requests.next;
        complete = p.1.1.0.requests.complete;
        communicators = p.1.1.0.communicators;
      };
      sweep = record { joined = p.1.1.0.joined; tree = p.1.1.1.tree };
      lists = record { posted = p.1.1.0.requests.posted; matched = p.1.1.0.requests.matched; arrived = p.1.1.1.arrived };
      sent = p.1.1.1.sent;
      reorder = record { expected = p.1.1.1.expected; held = p.1.1.1.held };
    }

abbrev pub head_of : Rank → Head
head_of r = record { regs = r.regs; ending = r.ending; phase = r.own.phase; load = r.load }

abbrev pub middle_with : OwnData → Sweep → BookLists → Middle
middle_with own sweep lists =
    record {
      requests = record { next = own.next; complete = own.complete; posted = lists.posted; matched = lists.matched };
      communicators = own.communicators;
      joined = sweep.joined;
    }

abbrev pub tail_with : List ℕ → Reorder → Sweep → BookLists → Tail
tail_with sent reorder sweep lists =
    record { sent = sent; expected = reorder.expected; held = reorder.held; arrived = lists.arrived; tree = sweep.tree }

abbrev pub parts_of : Rank → Parts
parts_of r = ((r.rank, r.bytes), (head_of r, (middle_with r.own r.sweep r.lists, tail_with r.sent r.reorder r.sweep r.lists)))

-- what the parts of an image ask of each other: the records' frames lie in the data stack, the heap is sound, and each
-- number of a rank is one of the run's
unfoldable pub are_sound : Parts → Bool
are_sound p = fit_records p.0.1 p.1.0.regs.depth && (is_sound_heap p.0.1 && are_ranks p.0.0 p.1.1.0 p.1.1.1)

-- An image: the rank and all bytes of its memory; the registers, the ending, ticks and phase, the output and the load; the
-- requests, the communicators and the collective; the pairs, and the messages that are held back, that have arrived and
-- that belong to trees.
unfoldable pub image : Format Rank
image = made (restricted (both (both rank (block range_bytes)) (both head (both middle tail))) are_sound) rank_made parts_of

-- the number of an image's rank, with which it begins
unfoldable pub rank_number : List ℕ → ℕ
rank_number bytes = from_le_bytes w16 (take 2 bytes)

-- what was read, where nothing stands behind it
abbrev pub ended : {X : Type 0} → Option (X × List ℕ) → Option X
ended None = None
ended (Some found) = if length found.1 == 0 then Some found.0 else None

abbrev pub is_there : {X : Type 0} → Option X → Bool
is_there None = false
is_there (Some x) = true

-- whether the bytes are an image
unfoldable pub is_image : List ℕ → Bool
is_image bytes = is_there (ended (image.read bytes))

-- The bytes are the image of a rank.
abbrev pub IsImage : List ℕ → Type 0
IsImage bytes = (r : Rank) × Spells image bytes r
