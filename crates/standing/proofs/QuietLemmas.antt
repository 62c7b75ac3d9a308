-- Where nothing is under way.
use Rattle.std.proofs.Common.{ℕ, ◌≡◌, List, [], ◌∷◌, ◌++◌, sym, ap, ◌∙◌, subst}
use Rattle.std.proofs.lemmas.List.{append-nil}
use Rattle.std.specs.Prelude.{All}
use Rattle.vm_code.specs.declared.code.Code.{Code}
use Rattle.mpi_types.specs.declared.entries.Entry.TheVariants.{Tick, Match, Gather, Commit}
use Rattle.mpi_types.specs.declared.message.Message.{Message}
use Rattle.mpi_types.specs.declared.message.Posted.{Posted}
use Rattle.mpi_types.specs.Accepts.{IsAcceptedBy}
use Rattle.mpi_types.specs.First.{NoneOf}
use Rattle.mpi_types.proofs.ListLemmas.{All-middle}
use Rattle.mpi_rules.specs.Data.{MpiData}
use Rattle.rank_steps.specs.Steps.{Standing}
use Rattle.standing.specs.World.{Setting, World}
use Rattle.standing.specs.Steps.{MayMatch}
use Rattle.standing.specs.Stands.{RankStands, from}
use Rattle.standing.specs.Laws.{QuietIsStuck}
use Rattle.standing.proofs.StandLemmas.{none_from}

no_match : (code : Code) (s : Setting) (w : World) (coming : ℕ → ℕ → List Message) (r request sender : ℕ) (rank : Standing)
    → RankStands code s w coming r rank → coming sender r ≡ [] → MayMatch s w r request sender → ⊥
no_match code s w coming r request sender rank stands empty may =
    let P : List Posted → Type 0 = All (λ p. NoneOf (IsAcceptedBy p) rank.lists.arrived) in
    let posted : rank.lists.posted ≡ may.earlier ++ may.receive ∷ may.later =
    sym (ap (λ (m : MpiData). m.posted) stands.data_is) ∙ may.first_receive.parts in
    let none = All-middle (λ p. NoneOf (IsAcceptedBy p) rank.lists.arrived) may.earlier may.receive may.later (subst P posted stands.settled) in
    let queue : from sender rank.lists.arrived ≡ may.before ++ may.message ∷ may.behind =
    sym (append-nil (from sender rank.lists.arrived)) ∙ ap (λ ms. from sender rank.lists.arrived ++ ms) (sym empty) ∙ sym (stands.queues sender)
    ∙ may.first_message.parts in
    let Q : List Message → Type 0 = NoneOf (IsAcceptedBy may.receive) in
    All-middle (λ m. IsAcceptedBy may.receive m → ⊥) may.before may.message may.behind
    (subst Q queue (none_from may.receive sender rank.lists.arrived none)) may.first_message.meets

pub quiet_stuck : QuietIsStuck
quiet_stuck code s w coming held stand all empty no_tick no_gather (Tick r) step = no_tick r.0 step
quiet_stuck code s w coming held stand all empty no_tick no_gather (Match r request sender) step =
    let rank = all r.0 step.one_of_run in
    no_match code s w coming r.0 request sender.0 rank.0 (stand r.0 rank.0 rank.1) (empty sender.0 r.0) step
quiet_stuck code s w coming held stand all empty no_tick no_gather (Gather r) step = no_gather r.0 step
quiet_stuck code s w coming held stand all empty no_tick no_gather Commit step = step
