-- The requests of a rank from call to call.
use Rattle.std.specs.Prelude.{ℕ, ◌≡◌, ◌-◌, ◌<◌, ◌≤◌, All, true, false, List}
use Rattle.am_base.specs.declared.calls.MpiCall.{MpiCall}
use Rattle.am_base.specs.declared.calls.MpiCall.TheVariants.{Recv}
use Rattle.rank_range.specs.Areas.{Areas}
use Rattle.mpi_types.specs.declared.lists.BookLists.{BookLists}
use Rattle.mpi_types.specs.declared.state.OwnData.{OwnData}
use Rattle.mpi_types.specs.Book.{IsNext}
use Rattle.mpi_rules.specs.Calls.{reply_to}
use Rattle.mpi_rules.specs.Data.{is_live}
use Rattle.mpi_call.specs.declared.done.Done.{Done}
use Rattle.mpi_call.specs.Answers.{Kept, data_in, DoesGive}
use Rattle.mpi_call.specs.Lawful.{AreApart}
use Rattle.mpi_call.specs.Served.{is_finished, is_second}

-- They stand in order, no complete one is live in the book, and each has a number below the next one.
pub record AreInOrder (own : OwnData) (lists : BookLists) : Type 0 where
  pub apart : AreApart own lists
  pub next : IsNext lists own.next
  pub below : All (λ r. r.number < own.next) own.complete

-- So they do after each call that `finish` serves.
abbrev pub StayInOrder : Type 0
StayInOrder =
    (areas : Areas) (call : MpiCall) (words : List ℕ) (done : Done) (old new : Kept) → is_finished call ≡ true → AreInOrder old.own old.lists
    → DoesGive (reply_to call (is_second call) words areas (data_in old)) done old new → AreInOrder new.own new.lists

-- Behind the first tick of a receive its request is live, directly below the next number, as its second tick asks.
abbrev pub ReceivesMayFinish : Type 0
ReceivesMayFinish =
    (areas : Areas) (words : List ℕ) (done : Done) (old new : Kept) → 1 ≤ old.own.next
    → DoesGive (reply_to Recv false words areas (data_in old)) done old new
    → (1 < new.own.next) × (is_live (data_in new) (new.own.next - 1) ≡ true)
