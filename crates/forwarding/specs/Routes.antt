-- Where a packet goes that arrives at a processor. This profile's own.
use Rattle.std.specs.Prelude.{ℕ, ◌≡◌, ◌<◌, ◌==◌, ◌&&◌, not, nat_lt, if◌then◌else◌, Bool}
use Rattle.am_base.specs.declared.numbers.ProcId.{ProcId}
use Rattle.forwarding.specs.declared.answer.Route.{Route}
use Rattle.forwarding.specs.declared.answer.Route.TheVariants.{Accept, Forward, Wait}

-- A resident rank takes it. Else it goes on to the place that is known by a greater count than the packet's floor, where
-- that is another processor, with that count as its floor; and else it waits.
abbrev pub route_by : ℕ × ProcId → ProcId → ℕ → Bool → Route
route_by known here floor resident =
    if resident then Accept
    else (if nat_lt floor known.0 && not (known.1.0 == here.0) then Forward known.0 known.1 else Wait)

-- Each forwarding raises the packet's floor.
abbrev pub ForwardingRaises : Type 0
ForwardingRaises =
    (known : ℕ × ProcId) (here : ProcId) (floor : ℕ) (resident : Bool) (raised : ℕ) (place : ProcId)
    → route_by known here floor resident ≡ Forward raised place → floor < raised
