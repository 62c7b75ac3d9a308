use Rattle.std.proofs.Common.{subst, sym}
use Rattle.mpi_types.specs.declared.lists.BookLists.{BookLists}
use Rattle.mpi_types.specs.Calls.{IsRun}
use Rattle.mpi_types.proofs.CallLemmas.{runs_once}
use Rattle.mpi_types.proofs.calls.books_agree.Goals as goal

pub returns : goal.returns
returns g c a a' b b' calls xs ys orderly same p q =
    let P : BookLists → Type 0 = λ l. IsRun l calls ys (g.B.MatchBook.held b') in
    runs_once calls (g.A.MatchBook.held a) xs ys (g.A.MatchBook.held a') (g.B.MatchBook.held b') orderly p (subst P (sym same) q)
