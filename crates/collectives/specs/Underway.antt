-- The ranks of a run, each with what it keeps of collectives, and the messages of trees under way, of which any may arrive
-- next: for all contexts and positions at once.
use Rattle.std.specs.Prelude.{ℕ, ◌≡◌, ◌<◌, ◌≤◌, ◌==◌, ◌&&◌, if◌then◌else◌, Bool, true, false, Option, Some, None, is_some, List, [], ◌∷◌, ◌++◌, map, length, get_or, All}
use Rattle.mpi_types.specs.declared.argument.Arg.{Arg}
use Rattle.mpi_types.specs.declared.argument.Direction.TheVariants.{Up}
use Rattle.mpi_types.specs.declared.argument.Joined.{Joined}
use Rattle.mpi_types.specs.declared.argument.Sweep.{Sweep}
use Rattle.mpi_types.specs.declared.argument.TreeMsg.{TreeMsg}
use Rattle.mpi_types.specs.declared.context.Level.{Level}
use Rattle.mpi_types.specs.declared.group.Group.{Group}
use Rattle.mpi_types.specs.Accepts.{is_same_ctx}
use Rattle.mpi_types.specs.Order.{IsTreeOrdered}
use Rattle.collectives.specs.declared.sends.TreeSend.{TreeSend}
use Rattle.collectives.specs.Sweeps.{Went, begun, arrived, IsNotHeld}
use Rattle.collectives.specs.Slices.{Given, AreNumbered, all_of}
use Rattle.collectives.specs.Stages.{Stage, is_done}
use Rattle.collectives.specs.System.{Parcel, StagesFit, Waits, MessagesAre}

-- the groups of the communicators, by context
abbrev pub Groups : Type 0
Groups = List Level → Option Group

abbrev pub rank_in : Group → ℕ → ℕ
rank_in g i = (get_or g.members i (record { 0 = 0 })).0

pub record AreGroups (groups : Groups) : Type 0 where
  pub own_ctx : (ctx : List Level) (g : Group) → groups ctx ≡ Some g → g.ctx ≡ ctx
  pub room : (ctx : List Level) (g : Group) → groups ctx ≡ Some g → length g.members ≤ 65536
  pub distinct : (ctx : List Level) (g : Group) → groups ctx ≡ Some g → (x y : ℕ) → x < length g.members → y < length g.members → rank_in g x ≡ rank_in g y → x ≡ y

-- what each member gives to each collective, when it joins it
abbrev pub Gives : Type 0
Gives = List Level → ℕ → Given

pub record AllGive (groups : Groups) (gives : Gives) : Type 0 where
  pub numbered : (ctx : List Level) (position : ℕ) → AreNumbered (gives ctx position)
  pub each : (ctx : List Level) (g : Group) (position i : ℕ) → groups ctx ≡ Some g → i < length g.members → is_some (gives ctx position i) ≡ true

-- The ranks, what is under way, and which members have joined which collectives.
pub record System : Type 0 where
  pub sweeps : ℕ → Sweep
  pub bag : List Parcel
  pub who : List Level → ℕ → ℕ → Bool

-- what is sent, on its way to the ranks of the members
abbrev pub parcels_in : Group → List TreeSend → List Parcel
parcels_in g sends = map (λ x. record { to = rank_in g x.to; message = x.message }) sends

-- it is this collective
abbrev pub is_collective : List Level → ℕ → List Level → ℕ → Bool
is_collective ctx position c p = is_same_ctx c ctx && p == position

abbrev pub with_joined : ℕ → (ℕ → Bool) → ℕ → Bool
with_joined i who k = if k == i then true else who k

abbrev pub with_sweep : ℕ → Sweep → (ℕ → Sweep) → ℕ → Sweep
with_sweep r sweep sweeps q = if q == r then sweep else sweeps q

-- A member may join a collective: its rank has joined none that hasn't ended, and the member not yet this one.
pub record MayJoin (groups : Groups) (gives : Gives) (s : System) (g : Group) (position : ℕ) (a : Arg) : Type 0 where
  pub known : groups g.ctx ≡ Some g
  pub member : a.member < length g.members
  pub gave : gives g.ctx position a.member ≡ Some a
  pub nothing_joined : (s.sweeps (rank_in g a.member)).joined ≡ None
  pub first : s.who g.ctx position a.member ≡ false

abbrev pub went_at_joining : System → Group → ℕ → Arg → Went
went_at_joining s g position a = begun g position a (s.sweeps (rank_in g a.member))

abbrev pub after_joining : System → Group → ℕ → Arg → System
after_joining s g position a = record {
  sweeps = with_sweep (rank_in g a.member) (went_at_joining s g position a).sweep s.sweeps;
  bag = s.bag ++ parcels_in g (went_at_joining s g position a).out.sends;
  who = λ c p. if is_collective g.ctx position c p then with_joined a.member (s.who c p) else s.who c p;
}

-- One collective, in all members' stages.
pub record Collective (gives : Gives) (s : System) (g : Group) (position : ℕ) (stage : ℕ → Stage) : Type 0 where
  pub fits : StagesFit (length g.members) (s.who g.ctx position) stage
  pub waits : (i : ℕ) → i < length g.members → Waits (length g.members) (s.who g.ctx position) stage i
  pub messages : MessagesAre g.ctx position (length g.members) (rank_in g) (gives g.ctx position) stage (λ i. (s.sweeps (rank_in g i)).tree) s.bag
  pub calls : (i : ℕ) (a : Arg) → i < length g.members → s.who g.ctx position i ≡ true → is_done (stage i) ≡ false → gives g.ctx position i ≡ Some a
      → (s.sweeps (rank_in g i)).joined ≡ Some (record { ctx = g.ctx; position = position; arg = a; gathered = None })

-- what a rank has joined is a collective of one of the groups, and it has gathered just where its stage says so
pub record IsCall (groups : Groups) (gives : Gives) (s : System) (stages : List Level → ℕ → ℕ → Stage) (r : ℕ) (j : Joined) : Type 0 where
  pub group : Group
  pub known : groups j.ctx ≡ Some group
  pub member : j.arg.member < length group.members
  pub rank : rank_in group j.arg.member ≡ r
  pub gave : gives j.ctx j.position j.arg.member ≡ Some j.arg
  pub has_joined : s.who j.ctx j.position j.arg.member ≡ true
  pub done : is_done (stages j.ctx j.position j.arg.member) ≡ is_some j.gathered
  pub list : (xs : List Arg) → j.gathered ≡ Some xs → xs ≡ all_of (length group.members) (gives j.ctx j.position)

-- the message goes up; the parcel's context is that of a group
abbrev pub GoesUp : TreeMsg → Type 0
GoesUp m = m.direction ≡ Up

abbrev pub IsKnown : Groups → Parcel → Type 0
IsKnown groups p = is_some (groups p.message.ctx) ≡ true

pub record UnderwayAt (groups : Groups) (gives : Gives) (s : System) (stages : List Level → ℕ → ℕ → Stage) : Type 0 where
  pub each : (ctx : List Level) (g : Group) (position : ℕ) → groups ctx ≡ Some g → Collective gives s g position (stages g.ctx position)
  pub own : (r : ℕ) (j : Joined) → (s.sweeps r).joined ≡ Some j → IsCall groups gives s stages r j
  pub ordered : (r : ℕ) → IsTreeOrdered (s.sweeps r).tree
  pub only_up : (r : ℕ) → All GoesUp (s.sweeps r).tree
  pub known : All (IsKnown groups) s.bag

-- All collectives are under way: there are stages that say what is so.
pub record Underway (groups : Groups) (gives : Gives) (s : System) : Type 0 where
  pub stages : List Level → ℕ → ℕ → Stage
  pub at : UnderwayAt groups gives s stages

-- Any message under way may arrive next, with the group of its context where its rank has the communicator: a rank in a
-- collective has it.
pub record MayArrive (groups : Groups) (s : System) (before : List Parcel) (p : Parcel) (after : List Parcel) (g : Option Group) : Type 0 where
  pub there : s.bag ≡ before ++ p ∷ after
  pub known : (h : Group) → g ≡ Some h → groups p.message.ctx ≡ Some h
  pub has : (j : Joined) → (s.sweeps p.to).joined ≡ Some j → j.ctx ≡ p.message.ctx → is_some g ≡ true

abbrev pub went_at_arrival : System → Parcel → Option Group → Went
went_at_arrival s p g = arrived g (s.sweeps p.to) p.message

abbrev pub parcels_by : Option Group → List TreeSend → List Parcel
parcels_by None sends = []
parcels_by (Some g) sends = parcels_in g sends

abbrev pub after_arrival : System → List Parcel → Parcel → List Parcel → Option Group → System
after_arrival s before p after g = record {
  sweeps = with_sweep p.to (went_at_arrival s p g).sweep s.sweeps;
  bag = (before ++ after) ++ parcels_by g (went_at_arrival s p g).out.sends;
  who = s.who;
}

-- nothing is joined, held or under way
pub record IsStart (s : System) : Type 0 where
  pub nothing_joined : (r : ℕ) → (s.sweeps r).joined ≡ None
  pub nothing_held : (r : ℕ) → (s.sweeps r).tree ≡ []
  pub nothing_sent : s.bag ≡ []
  pub nobody : (c : List Level) (p k : ℕ) → s.who c p k ≡ false

-- the call of a rank that has gathered ends
abbrev pub after_ending : System → ℕ → System
after_ending s r = record { sweeps = with_sweep r (record { joined = None; tree = (s.sweeps r).tree }) s.sweeps; bag = s.bag; who = s.who }

-- All are under way at the start, and go on so when a member joins, when any message arrives, and when a call ends. Where a
-- message arrives, none of the same context, position, direction and member is held.
pub record CollectivesGoOn : Type 0 where
  pub start : (groups : Groups) (gives : Gives) (s : System) → AreGroups groups → IsStart s → Underway groups gives s
  pub joining : (groups : Groups) (gives : Gives) (s : System) (g : Group) (position : ℕ) (a : Arg) → AreGroups groups → AllGive groups gives → Underway groups gives s
      → MayJoin groups gives s g position a → Underway groups gives (after_joining s g position a)
  pub arrival : (groups : Groups) (gives : Gives) (s : System) (before : List Parcel) (p : Parcel) (after : List Parcel) (g : Option Group) → AreGroups groups → AllGive groups gives → Underway groups gives s
      → MayArrive groups s before p after g → Underway groups gives (after_arrival s before p after g)
  pub not_held : (groups : Groups) (gives : Gives) (s : System) (before : List Parcel) (p : Parcel) (after : List Parcel) → AreGroups groups → Underway groups gives s → s.bag ≡ before ++ p ∷ after
      → IsNotHeld p.message (s.sweeps p.to).tree
  pub ending : (groups : Groups) (gives : Gives) (s : System) (r : ℕ) (j : Joined) → AreGroups groups → Underway groups gives s → (s.sweeps r).joined ≡ Some j → is_some j.gathered ≡ true
      → Underway groups gives (after_ending s r)

-- With no message left, where all members have joined a collective, each has gathered: its stage says so, and so does its
-- rank while the call hasn't ended.
abbrev pub AllGatherAtRest : Type 0
AllGatherAtRest = (groups : Groups) (gives : Gives) (s : System) (g : Group) (position : ℕ) → AreGroups groups → (under : Underway groups gives s) → s.bag ≡ [] → groups g.ctx ≡ Some g
    → ((i : ℕ) → i < length g.members → s.who g.ctx position i ≡ true)
    → (i : ℕ) → i < length g.members → (is_done (under.stages g.ctx position i) ≡ true)
    × ((j : Joined) → (s.sweeps (rank_in g i)).joined ≡ Some j → j.ctx ≡ g.ctx → j.position ≡ position → is_some j.gathered ≡ true)

-- A rank gathers exactly the list of all members' arguments, and only once all have joined.
abbrev pub GathersAll : Type 0
GathersAll = (groups : Groups) (gives : Gives) (s : System) (r : ℕ) (j : Joined) (xs : List Arg) → AreGroups groups → Underway groups gives s → (s.sweeps r).joined ≡ Some j → j.gathered ≡ Some xs
    → (g : Group) × ((groups j.ctx ≡ Some g) × ((xs ≡ all_of (length g.members) (gives j.ctx j.position)) × ((i : ℕ) → i < length g.members → s.who j.ctx j.position i ≡ true)))
