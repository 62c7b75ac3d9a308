-- The answer to a call of MPI is one step of the machine.
use Rattle.std.proofs.Common.{◌≡◌, ℕ, suc, ◌+◌, ◌-◌, ◌^◌, ◌<◌, ◌≤◌, ◌∙◌, Bool, true, false, List, ◌∷◌, length, take, drop, reverse, refl, sym, ap, subst, arith, Option, Some, None}
use Rattle.std.specs.Prelude.{ℤ, if◌then◌else◌, nat_le, nat_lt, slice_get}
use Rattle.std.proofs.lemmas.Bool.{le-leb, lt-ltb, true≢false}
use Rattle.am_base.specs.declared.calls.MpiCall.{MpiCall}
use Rattle.rank_range.specs.Layout.{stack_start}
use Rattle.rank_range.specs.Kinds.{word_of}
use Rattle.rank_range.specs.Areas.{Memory, memory_of}
use Rattle.rank_range.specs.Parts.{StayBeside}
use Rattle.mpi_types.specs.declared.call.Call.{Call}
use Rattle.mpi_types.specs.declared.call.Write.{Write}
use Rattle.mpi_types.specs.declared.call.Answer.{Answer}
use Rattle.mpi_types.specs.declared.call.Answer.TheVariants.{Half, Value}
use Rattle.vm_code.specs.declared.code.Code.{Code}
use Rattle.vm_code.specs.declared.instr.Instr.{Instr}
use Rattle.vm_code.specs.declared.instr.Instr.TheVariants as instr
use Rattle.vm_code.specs.Memory.{written_all}
use Rattle.vm_code.specs.Machine.{Config, Moved, Went, act, one_step, with_memory, operand_limit, behind_call}
use Rattle.rank_machine.specs.declared.work.Work.{Work}
use Rattle.rank_machine.specs.View.{Tally, Rank, record_place, in_stack, frame_at, frames_of, work_at, config_of, config_since, config_at}
use Rattle.rank_machine.specs.Answered.{TakesAnswer, HasAnswer, IsAnswered, StepsBy, place_behind, after_answer}
use Rattle.rank_machine.proofs.FrameLemmas.{frame_with}
use Rattle.rank_machine.proofs.CallLemmas.{config_with}
use Rattle.rank_machine.proofs.RestLemmas.{rank_with, at_rest}
use Rattle.rank_machine.proofs.GoLemmas.{from_is}

abbrev pub the_call : MpiCall → ℕ → Bool → List ℕ → Call
the_call call count second operands = record { name = call; args = reverse (take count operands); second = second }

pub half : (code : Code) (call : MpiCall) (count : ℕ) (second : Bool) (work : Work) (rank top left : ℕ) (bytes : List ℕ) (tally : Tally) (answers : List Answer)
    → count ≤ length work.operands
    → act code (Some (instr.Mpi call count second)) (config_of work rank top bytes (record tally { left = suc left; answers = Half ∷ answers }))
    ≡ Went (config_of (after_answer count second None work) rank top bytes
    (record tally { made = the_call call count second work.operands ∷ tally.made; ticks = tally.ticks + 1; left = left; answers = answers }))
unfolding act
half code call count second work rank top left bytes tally answers enough =
    let t : nat_le count (length work.operands) ≡ true = le-leb count (length work.operands) enough in rw t refl

pub done_value : (code : Code) (call : MpiCall) (count : ℕ) (second : Bool) (v : ℤ) (work : Work) (rank top left : ℕ) (bytes : List ℕ) (tally : Tally)
    (answers : List Answer) (before : Memory) (writes : List Write) → count ≤ length work.operands → length (drop count work.operands) < operand_limit
    → written_all before writes ≡ memory_of rank top bytes
    → act code (Some (instr.Mpi call count second))
    (with_memory before (config_of work rank top bytes (record tally { left = suc left; answers = Value v writes ∷ answers })))
    ≡ Went (config_of (after_answer count second (Some v) work) rank top bytes
    (record tally { made = the_call call count second work.operands ∷ tally.made; ticks = tally.ticks + 1; left = left; answers = answers }))
unfolding act
done_value code call count second v work rank top left bytes tally answers before writes enough room same =
    let t : nat_le count (length work.operands) ≡ true = le-leb count (length work.operands) enough in
    let u : nat_lt (length (drop count work.operands)) operand_limit ≡ true = lt-ltb (length (drop count work.operands)) operand_limit room in
    let after = after_answer count second (Some v) work in
    let now : Tally =
    record tally { made = the_call call count second work.operands ∷ tally.made; ticks = tally.ticks + 1; left = left; answers = answers } in
    let went : Memory → Moved = λ m. Went (config_with after.place (frame_with work.back work.start top after.operands) (frames_of bytes top work.number) m now) in
    (rw t (rw u refl)) ∙ ap went same

steps : (code : Code) (work : Work) (rank top ticks : ℕ) (bytes : List ℕ) (value : Option ℤ) (old new : Rank) (t : TakesAnswer code work.place work.operands value)
    → config_since work rank top bytes ticks ≡ config_at code old → memory_of old.number old.top old.bytes ≡ memory_of rank top bytes
    → ((tally : Tally) → config_at code new tally ≡ config_since (after_answer t.count t.second value work) rank top bytes (ticks + 1) tally)
    → StepsBy code old value new (the_call t.call t.count t.second work.operands)
steps code work rank top ticks bytes None old new t from memory to =
    λ tally left answers.
    let now : Tally = record tally { ticks = ticks } in
    let asks : Tally = record tally { left = suc left; answers = Half ∷ answers } in
    let made : Tally = record tally { made = the_call t.call t.count t.second work.operands ∷ tally.made; left = left; answers = answers } in
    subst (λ (f : Tally → Config). one_step code (f asks) ≡ Went (config_at code new made)) from
    (ap (λ (o : Option Instr). act code o (config_since work rank top bytes ticks asks)) t.found
    ∙ half code t.call t.count t.second work rank top left bytes now answers t.enough ∙ ap Went (sym (to made)))
steps code work rank top ticks bytes (Some v) old new t from memory to =
    λ tally left answers before writes written.
    let now : Tally = record tally { ticks = ticks } in
    let asks : Tally = record tally { left = suc left; answers = Value v writes ∷ answers } in
    let made : Tally = record tally { made = the_call t.call t.count t.second work.operands ∷ tally.made; left = left; answers = answers } in
    subst (λ (f : Tally → Config). one_step code (with_memory before (f asks)) ≡ Went (config_at code new made)) from
    (ap (λ (o : Option Instr). act code o (with_memory before (config_since work rank top bytes ticks asks))) t.found
    ∙ done_value code t.call t.count t.second v work rank top left bytes now answers before writes t.enough (t.room v refl) (written ∙ memory)
    ∙ ap Went (sym (to made)))

pub is_answered : (code : Code) (work last : Work) (place depth ticks rank top new_place new_top : ℕ) (old new : List ℕ) (value : Option ℤ)
    → work ≡ work_at place top old (depth - 1) → 0 < depth → HasAnswer code work value last → new_place ≡ last.place → stack_start ≤ top
    → frame_at new top (record_place last.number) ≡ frame_with last.back last.start (in_stack top top) (drop 0 last.operands)
    → StayBeside old new (record_place last.number) (record_place last.number + 288) → memory_of rank top new ≡ memory_of rank top old → new_top ≡ top
    → IsAnswered code (rank_with place depth ticks rank top old) value (rank_with new_place depth (ticks + 1) rank new_top new)
is_answered code work last place depth ticks rank top new_place new_top old new value is some has here above frame beside memory same =
    let t = has.takes in
    let number : last.number + 1 ≡ depth =
    ap (λ (w : Work). w.number + 1) has.after ∙ ap (λ (w : Work). w.number + 1) is ∙ (let e : depth - 1 + 1 ≡ depth = omega (arith, some) in e) in
    let to : (tally : Tally) → config_at code (rank_with new_place depth (ticks + 1) rank new_top new) tally
    ≡ config_since (after_answer t.count t.second value work) rank top old (ticks + 1) tally =
    λ tally.
    ap (λ (d : ℕ). config_at code (rank_with new_place d (ticks + 1) rank new_top new) tally) (sym number)
    ∙ ap (λ (i : ℕ). config_at code (rank_with new_place (last.number + 1) (ticks + 1) rank i new) tally) same
    ∙ at_rest code last rank top (ticks + 1) new_place old new tally here above frame beside memory
    ∙ ap (λ (w : Work). config_since w rank top old (ticks + 1) tally) has.after in
    record {
      call = the_call t.call t.count t.second work.operands;
      counted = refl;
      step = steps code work rank top ticks old value (rank_with place depth ticks rank top old)
          (rank_with new_place depth (ticks + 1) rank new_top new) t (from_is code work place depth ticks rank top old is some) refl to;
    }

-- ---- the call in the code

pub same_call : (c d : MpiCall) (n m : ℕ) (s t : Bool) → Some (instr.Mpi c n s) ≡ Some (instr.Mpi d m t) → (n ≡ m) × (s ≡ t)
same_call c d n m s t e = (cc (e), cc (e))

unfoldable pub takes_here : (code : Code) (place : ℕ) (operands : List ℕ) (value : Option ℤ) (i : Instr) (call : MpiCall) (n : ℕ) (second : Bool)
    → TakesAnswer code place operands value → slice_get code.instrs place ≡ Some i → i ≡ instr.Mpi call n second → TakesAnswer code place operands value
takes_here code place operands value i call n second t found is =
    let same = same_call t.call call t.count n t.second second (sym t.found ∙ found ∙ ap Some is) in
    record {
      call = call;
      count = n;
      second = second;
      found = found ∙ ap Some is;
      enough = subst (λ (m : ℕ). m ≤ length operands) same.0 t.enough;
      near = subst (λ (s : Bool). place_behind s value place < 2 ^ 32) same.1 t.near;
      room = subst (λ (m : ℕ). (v : ℤ) → value ≡ Some v → length (drop m operands) < operand_limit) same.0 t.room;
    }

pub kept_for_second : (code : Code) (old : Work) (value : Option ℤ) (t : TakesAnswer code old.place old.operands value) → value ≡ None → t.second ≡ false
    → HasAnswer code old value (record old { place = old.place + 1 })
kept_for_second code old value t none first =
    record { takes = t; after = ap (λ (s : Bool). after_answer t.count s None old) (sym first) ∙ ap (λ (o : Option ℤ). after_answer t.count t.second o old) (sym none) }

pub was_second : (code : Code) (old : Work) (value : Option ℤ) (t : TakesAnswer code old.place old.operands value) → value ≡ None → t.second ≡ true
    → HasAnswer code old value old
was_second code old value t none second =
    record { takes = t; after = ap (λ (s : Bool). after_answer t.count s None old) (sym second) ∙ ap (λ (o : Option ℤ). after_answer t.count t.second o old) (sym none) }

pub one_on : (s : Bool) (p n : ℕ) → s ≡ true → n ≡ 1 → p + n ≡ behind_call s p
one_on true p n is one = ap (λ (k : ℕ). p + k) one
one_on false p n is one = absurd (true≢false (sym is))

pub two_on : (s : Bool) (p n : ℕ) → s ≡ false → n ≡ 2 → p + n ≡ behind_call s p
two_on true p n is two = absurd (true≢false is)
two_on false p n is two = ap (λ (k : ℕ). p + k) two

abbrev work_with : Work → ℕ → List ℕ → Work
work_with old place operands = record old { place = place; operands = operands }

room_for : (cut : List ℕ) (word : ℕ) → length cut < operand_limit → nat_le (length (word ∷ cut)) operand_limit ≡ true
room_for cut word room = le-leb (length (word ∷ cut)) operand_limit (omega (arith, room))

pub has_value : (code : Code) (old : Work) (value : Option ℤ) (v : ℤ) (t : TakesAnswer code old.place old.operands value) → value ≡ Some v
    → (cut pushed : List ℕ) (word steps : ℕ) (fits : Bool) → cut ≡ drop t.count old.operands → word ≡ word_of v
    → fits ≡ nat_le (length (word ∷ cut)) operand_limit → pushed ≡ (if fits then word ∷ cut else cut) → old.place + steps ≡ behind_call t.second old.place
    → HasAnswer code old value (work_with old (old.place + steps) pushed)
has_value code old value v t some cut pushed word steps fits cut_is word_is fits_is pushed_is behind =
    let room = t.room v some in
    let few : length cut < operand_limit = subst (λ (xs : List ℕ). length xs < operand_limit) (sym cut_is) room in
    let fit : fits ≡ true = fits_is ∙ room_for cut word few in
    let all : pushed ≡ word ∷ cut = pushed_is ∙ ap (λ (b : Bool). if b then word ∷ cut else cut) fit in
    let operands : pushed ≡ word_of v ∷ drop t.count old.operands = all ∙ ap (λ (w : ℕ). w ∷ cut) word_is ∙ ap (λ (xs : List ℕ). word_of v ∷ xs) cut_is in
    record {
      takes = t;
      after =
          ap (λ (p : ℕ). work_with old p pushed) behind ∙ ap (work_with old (behind_call t.second old.place)) operands
          ∙ ap (λ (o : Option ℤ). after_answer t.count t.second o old) (sym some);
    }

pub value_near : (code : Code) (old : Work) (value : Option ℤ) (v : ℤ) (t : TakesAnswer code old.place old.operands value) → value ≡ Some v
    → (steps : ℕ) → old.place + steps ≡ behind_call t.second old.place → old.place + steps < 2 ^ 32
value_near code old value v t some steps behind =
    let near : behind_call t.second old.place < 2 ^ 32 = subst (λ (o : Option ℤ). place_behind t.second o old.place < 2 ^ 32) some t.near in
    omega (arith, behind, near)
