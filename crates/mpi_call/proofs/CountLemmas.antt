-- What `MPI_Get_count` reads, looks at and gives.
use Rattle.std.proofs.Common.{◌≡◌, ℕ, ℤ, ◌<◌, ◌≤◌, Bool, true, false, cond, not, ◌&&◌, ◌||◌, List, [], ◌∷◌, length, take, drop, arith, refl, ap, sym, subst, ◌∙◌, Option, Some, None, Ok}
use Rattle.std.specs.Prelude.{nat_le, is_some, unwrap_or}
use Rattle.std.proofs.lemmas.Bool.{leb-true}
use Rattle.std.proofs.lemmas.List.{length-take-le}
use Rattle.byteorder.specs.Endian.{little_number}
use Rattle.am_base.specs.declared.traps.TrapCause.TheVariants.{BadAddress}
use Rattle.rank_range.specs.Areas.{Areas, bytes_at, bytes_from}
use Rattle.rank_range.specs.Numbers.{number_at}
use Rattle.mpi_types.specs.declared.kinds.Datatype.{Datatype}
use Rattle.mpi_types.specs.declared.kinds.Datatype.TheVariants.{Char, SignedChar, UnsignedChar, Byte, Short, UnsignedShort, Int, Unsigned, Long, UnsignedLong, LongLong, UnsignedLongLong}
use Rattle.mpi_types.specs.Collected.{size_of}
use Rattle.mpi_types.specs.Tables.{datatype_size}
use Rattle.mpi_rules.specs.Faults.{late_cause_of}
use Rattle.mpi_rules.specs.Places.{is_open, are_open, read_at, int_write}
use Rattle.mpi_rules.specs.Reply.{Given, Reply, Gives, Traps, ended, late_address}
use Rattle.mpi_call.specs.declared.done.CallStop.TheVariants.{Trap}
use Rattle.mpi_call.specs.declared.done.Done.{Done}
use Rattle.mpi_call.specs.Answers.{Kept, IsGiven, Does, Stops}

same_list : (xs ys : List ℕ) → Some xs ≡ Some ys → xs ≡ ys
same_list xs ys h = cc

seen_by : (b : Bool) (n : ℕ) (ys xs : List ℕ) → (b ≡ true → n ≤ length ys) → cond b (Some (take n ys)) None ≡ Some xs → length xs ≡ n
seen_by true n ys xs within is = ap length (same_list xs (take n ys) (sym is)) ∙ length-take-le n ys (within refl)
seen_by false n ys xs within is = absurd cc

pub seen_length : (areas : Areas) (a n : ℕ) (xs : List ℕ) → bytes_at areas a n ≡ Some xs → length xs ≡ n
unfolding bytes_at
seen_length areas a n xs is =
    seen_by (nat_le n (length (bytes_from areas a))) n (bytes_from areas a) xs (leb-true n (length (bytes_from areas a))) is

pub seen_number : (areas : Areas) (a r : ℕ) (xs : List ℕ) → bytes_at areas a 16 ≡ Some xs → r ≡ number_at xs 12 4
    → r ≡ little_number 4 (drop 12 (read_at areas a 16))
unfolding number_at read_at
seen_number areas a r xs seen is =
    is ∙ ap (λ (o : Option (List ℕ)). little_number 4 (drop 12 (unwrap_or o []))) (sym seen)

-- a datatype's elements have bytes
some_bytes : (t : Datatype) → 0 < datatype_size t
some_bytes Char = omega arith
some_bytes SignedChar = omega arith
some_bytes UnsignedChar = omega arith
some_bytes Byte = omega arith
some_bytes Short = omega arith
some_bytes UnsignedShort = omega arith
some_bytes Int = omega arith
some_bytes Unsigned = omega arith
some_bytes Long = omega arith
some_bytes UnsignedLong = omega arith
some_bytes LongLong = omega arith
some_bytes UnsignedLongLong = omega arith

pub size_positive : (o : Option Datatype) → not (is_some o) ≡ false → 0 < size_of o
size_positive None h = absurd cc
size_positive (Some t) h = some_bytes t

-- what is looked at behind the table
and_true : (b : Bool) → (b && true) ≡ b
and_true true = refl
and_true false = refl

pub count_closed : (areas : Areas) (status to : ℕ) (v : ℤ) (r : Bool) → r ≡ (not (is_open areas status 16) || not (is_open areas to 4))
    → (not (is_open areas status 16) || not (are_open areas (int_write to v ∷ []))) ≡ r
count_closed areas status to v r is =
    ap (λ (b : Bool). not (is_open areas status 16) || not b) (and_true (is_open areas to 4)) ∙ sym is

late_closed : (b : Bool) (given : Given) → b ≡ true → ended (late_address b) given ≡ Traps BadAddress
unfolding late_cause_of
late_closed true given h = refl
late_closed false given h = absurd cc

late_open : (b : Bool) (given : Given) → b ≡ false → ended (late_address b) given ≡ Gives given
unfolding late_cause_of
late_open true given h = absurd cc
late_open false given h = refl

pub closed_traps : (b : Bool) (given : Given) (k : Kept) → b ≡ true → Stops (ended (late_address b) given) (Trap BadAddress) k k
closed_traps b given k h = (late_closed b given h, refl)

pub open_does : (b : Bool) (given : Given) (done : Done) (old new : Kept) → b ≡ false → IsGiven given done old new
    → Does (ended (late_address b) given) old (Ok done) new
open_does b given done old new h is = subst (λ (r : Reply). Does r old (Ok done) new) (sym (late_open b given h)) is
