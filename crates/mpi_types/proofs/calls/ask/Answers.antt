use Rattle.std.proofs.Common.{◌≡◌, inl, ℕ, Option, None, Some, refl, sym, subst, Bor}
use Rattle.std.specs.Prelude.{MatchOption}
use Rattle.std.specs.Option.{option_copied}
use Rattle.mpi_types.specs.declared.message.Message.{Message}
use Rattle.mpi_types.specs.declared.lists.BookLists.{BookLists}
use Rattle.mpi_types.specs.declared.calls.BookCall.{BookCall}
use Rattle.mpi_types.specs.declared.calls.BookCall.TheVariants.{AskMessage}
use Rattle.mpi_types.specs.declared.calls.BookAnswer.TheVariants.{Found}
use Rattle.mpi_types.specs.Book.{IsWaiting, IsMessageOf}
use Rattle.mpi_types.specs.Calls.{MayAsk, IsAsked}
use Rattle.mpi_types.proofs.calls.ask.Goals as goal

-- what is said of a borrowed value, said of its copy
of_copy : (P : Type 0) (Q : Message → Type 0) (r : Option (Bor Message)) (copy : Option Message) → copy ≡ option_copied r
    → MatchOption r P (λ m. Q m.now) → MatchOption copy P Q
of_copy P Q None copy e h = let M : Option Message → Type 0 = λ o. MatchOption o P Q in subst M (sym e) h
of_copy P Q (Some m) copy e h = let M : Option Message → Type 0 = λ o. MatchOption o P Q in subst M (sym e) h

message_asked : (l : BookLists) (call : BookCall) (n : ℕ) (message : Option Message) → call ≡ AskMessage n → MayAsk l call
    → MatchOption message (IsWaiting l n) (IsMessageOf l n) → IsAsked l call (Found message) l
message_asked l call n message e may h =
    let P : BookCall → Type 0 = λ x. IsAsked l x (Found message) l in
    subst P (sym e) (inl (subst (MayAsk l) e may, (message, refl, h, refl)))

pub returns-in_ok-message-in-AskMessage-clause-ok : goal.returns-in_ok-message-in-AskMessage-clause-ok
returns-in_ok-message-in-AskMessage-clause-ok g c =
    message_asked _ c.args.call c.in-AskMessage.request c.in_ok-message-in-AskMessage.message c.in-AskMessage.is
    (rw (← c.in_ok-lists.ensures.copied) (c.if-not-may_ask.ensures.0 refl))
    (of_copy _ _ _ _ c.in_ok-message-in-AskMessage.ensures c.found.ensures.told)
