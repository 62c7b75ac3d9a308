-- What a rank's state is, and which states are sound.
use Rattle.std.specs.Prelude.{ℕ, ◌≡◌, true, List}
use Rattle.am_base.specs.declared.numbers.RankId.{RankId}
use Rattle.byte_formats.specs.Lawful.{Spells}
use Rattle.mpi_types.specs.declared.argument.Sweep.{Sweep}
use Rattle.mpi_types.specs.declared.lists.BookLists.{BookLists}
use Rattle.mpi_types.specs.declared.state.OwnData.{OwnData}
use Rattle.mpi_types.specs.declared.state.Reorder.{Reorder}
use Rattle.rank_range.specs.declared.run.Ending.{Ending}
use Rattle.rank_range.specs.declared.run.Regs.{Regs}
use Rattle.rank_image.specs.declared.load.Load.{Load}
use Rattle.rank_image.specs.Image.{Rank, image, top_at}

-- The rank of a state with a memory of this number and these bytes and a book of these lists. Page marks, the top and how
-- the book is kept are no part of it.
abbrev pub rank_of : ℕ → List ℕ → Regs → Ending → Load → OwnData → Sweep → BookLists → List ℕ → Reorder → Rank
rank_of number bytes regs ending load own sweep lists sent reorder =
    record {
      rank = record { 0 = number };
      bytes = bytes;
      regs = regs;
      ending = ending;
      load = load;
      own = own;
      sweep = sweep;
      lists = lists;
      sent = sent;
      reorder = reorder;
    }

-- The rank has an image, and its memory's top is where its last call's frame ends.
pub record IsSound (rank : Rank) (top : ℕ) : Type 0 where
  pub fits : image.fits rank ≡ true
  pub top_is : top ≡ top_at rank.bytes rank.regs.depth

-- The bytes are the image of the rank, and the state is sound.
pub record IsUnpacked (bytes : List ℕ) (rank : Rank) (top : ℕ) : Type 0 where
  pub spells : Spells image bytes rank
  pub sound : IsSound rank top
