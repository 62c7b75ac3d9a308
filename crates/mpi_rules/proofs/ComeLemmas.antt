-- A reply's answer may come: what a checked reply, and one that ends a call, ask for that.
use Rattle.std.proofs.Common.{◌≡◌, ℕ, ℤ, pos, ◌<◌, ◌==◌, Bool, true, false, cond, ◌||◌, not, List, [], ◌∷◌, ◌++◌, arith, rules, refl, Option, Some, None}
use Rattle.std.proofs.Math.Facts.{sfits_to_z}
use Rattle.std.specs.Prelude.{IfSome, FitsSigned}
use Rattle.std.specs.List.{AllByRecursion}
use Rattle.std.specs.Int.{w32, cast_unsigned}
use Rattle.byteorder.specs.Endian.{little_bytes}
use Rattle.am_base.specs.declared.traps.TrapCause.{TrapCause}
use Rattle.rank_range.specs.Areas.{Areas}
use Rattle.mpi_types.specs.declared.call.Write.{Write}
use Rattle.mpi_types.specs.declared.status.Status.{Status}
use Rattle.mpi_types.specs.Come.{MayCome}
use Rattle.mpi_rules.specs.declared.faults.Faults.{Faults}
use Rattle.mpi_rules.specs.Answers.{answer_of, value_or_half, AreBytes, FitsMemory, IsOpen}
use Rattle.mpi_rules.specs.Faults.{cause_of, late_cause_of}
use Rattle.mpi_rules.specs.Places.{are_open, int_of, int_write, int_bytes, write_of, status_writes, status_bytes}
use Rattle.mpi_rules.specs.Reply.{Given, Reply, Gives, Traps, unless, checked, ended, answered}
use Rattle.mpi_rules.specs.Messages.{request_write}
use Rattle.mpi_rules.proofs.ByteLemmas.{low_bytes, all_append}
use Rattle.mpi_rules.proofs.OpenLemmas.{IsWrite, all_of, may_be_written}

-- what the law says of a reply
abbrev pub Comes : Areas → Reply → Type 0
Comes areas reply = IfSome (answer_of reply) (MayCome (IsOpen areas))

pub fits_int : (n : ℕ) → FitsSigned w32 (int_of n)
unfolding int_of
fits_int n = sfits_to_z (search rules)

-- an answer's number fits
abbrev pub FitsAnswer : Option ℤ → Type 0
FitsAnswer answer = IfSome answer (FitsSigned w32)

given_comes : (areas : Areas) (answer : Option ℤ) (writes : List Write) → FitsMemory areas → FitsAnswer answer
    → AllByRecursion IsWrite writes → are_open areas writes ≡ true → MayCome (IsOpen areas) (value_or_half answer writes)
given_comes areas None writes memory fits are all = tt
given_comes areas (Some result) writes memory fits are all =
    record { result_fits = fits; written = all_of _ writes (may_be_written areas writes memory are all) }

-- a call that gives something, where all that it writes is accessible
pub gives_comes : (areas : Areas) (given : Given) → FitsMemory areas → FitsAnswer given.answer
    → AllByRecursion IsWrite given.writes → are_open areas given.writes ≡ true → Comes areas (Gives given)
gives_comes areas given memory fits are all = given_comes areas given.answer given.writes memory fits are all

unless_comes : (areas : Areas) (why : Option TrapCause) (reply : Reply) → Comes areas reply → Comes areas (unless why reply)
unless_comes areas None reply h = h
unless_comes areas (Some why) reply h = tt

pub checked_comes : (areas : Areas) (faults : Faults) (reply : Reply) → Comes areas reply → Comes areas (checked faults reply)
checked_comes areas faults reply h = unless_comes areas (cause_of faults) reply h

-- a call that ends: it gives something only where no address is bad
late_by : (G : Reply → Type 0) (long mismatched address : Bool) (given : Given) → (address ≡ false → G (Gives given))
    → ((why : TrapCause) → G (Traps why))
    → G (unless (late_cause_of (record { long = long; mismatched = mismatched; address = address })) (Gives given))
unfolding late_cause_of
late_by G true mismatched address given h t = t _
late_by G false true address given h t = t _
late_by G false false true given h t = t _
late_by G false false false given h t = h refl

pub ended_comes : (areas : Areas) (long mismatched address : Bool) (given : Given) → FitsMemory areas → FitsAnswer given.answer
    → AllByRecursion IsWrite given.writes → (address ≡ false → are_open areas given.writes ≡ true)
    → Comes areas (ended (record { long = long; mismatched = mismatched; address = address }) given)
ended_comes areas long mismatched address given memory fits are all =
    late_by (Comes areas) long mismatched address given (λ no. gives_comes areas given memory fits are (all no)) (λ why. tt)

pub not_false : (b : Bool) → not b ≡ false → b ≡ true
not_false true h = refl
not_false false h = cc

pub or_false : (a b : Bool) → (a || b) ≡ false → b ≡ false
or_false true b h = cc
or_false false b h = h

pub answered_comes : (areas : Areas) (given : Given) → FitsMemory areas → FitsAnswer given.answer
    → AllByRecursion IsWrite given.writes → Comes areas (answered areas given)
answered_comes areas given memory fits are =
    ended_comes areas false false (not (are_open areas given.writes)) given memory fits are (not_false (are_open areas given.writes))

-- ---- what is written

pub int_is : (a : ℕ) (n : ℤ) → IsWrite (int_write a n)
int_is a n = record { some = omega arith; bytes = low_bytes 0 4 (cast_unsigned w32 n) }

pub request_is : (a n : ℕ) → IsWrite (request_write a n)
request_is a n = record { some = omega arith; bytes = low_bytes 0 4 n }

pub body_is : (a : ℕ) (bytes : List ℕ) → AreBytes bytes → AllByRecursion IsWrite (write_of a bytes)
body_is a [] h = tt
body_is a (b ∷ bytes) h = (record { some = omega arith; bytes = h }, tt)

bytes_append : (xs ys : List ℕ) → AreBytes xs → AreBytes ys → AreBytes (xs ++ ys)
bytes_append xs ys hx hy = all_append (λ byte. byte < 256) xs ys hx hy

status_are : (s : Status) → AreBytes (status_bytes s)
status_are s =
    let count : List ℕ = little_bytes 4 s.bytes in
    bytes_append (int_bytes s.source) (int_bytes s.tag ++ (int_bytes (pos 0) ++ count)) (low_bytes 0 4 (cast_unsigned w32 s.source))
    (bytes_append (int_bytes s.tag) (int_bytes (pos 0) ++ count) (low_bytes 0 4 (cast_unsigned w32 s.tag))
    (bytes_append (int_bytes (pos 0)) count (low_bytes 0 4 (cast_unsigned w32 (pos 0))) (low_bytes 0 4 s.bytes)))

pub status_is : (a : ℕ) (s : Status) → AllByRecursion IsWrite (status_writes a s)
status_is a s =
    elim (a == 0) as (λ b. AllByRecursion IsWrite (cond b [] (record { address = a; bytes = status_bytes s } ∷ [])))
    [ true ↦ tt | false ↦ (record { some = omega arith; bytes = status_are s }, tt) ]
