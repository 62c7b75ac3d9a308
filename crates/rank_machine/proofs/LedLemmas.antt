-- Where an instruction leads, and that a run gets nearer to its end.
use Rattle.std.proofs.Common.{◌≡◌, ℕ, zero, suc, ◌+◌, ◌-◌, ◌*◌, ◌<◌, ◌≤◌, ◌⊎◌, ◌∙◌, inl, inr, Bool, true, false, List, [], ◌∷◌, length, take, drop, reverse, refl, sym, ap, subst, arith, Option, Some, None, Result, Ok, Err}
use Rattle.std.specs.Prelude.{if◌then◌else◌, nat_le, nat_lt, nat_eq, slice_get}
use Rattle.std.proofs.lemmas.Bool.{true≢false, cases_lt}
use Rattle.std.proofs.lemmas.Bool.Decides.{leb_tells}
use Rattle.am_base.specs.declared.traps.TrapCause.{TrapCause}
use Rattle.rank_range.specs.Areas.{Memory}
use Rattle.rank_range.specs.Layout.{range_bytes, globals_start}
use Rattle.rank_range.specs.Operators.{operate, operate_one}
use Rattle.rank_range.specs.Kinds.{extended}
use Rattle.vm_code.specs.declared.code.Code.{Code}
use Rattle.vm_code.specs.declared.code.Function.{Function}
use Rattle.vm_code.specs.declared.instr.Instr.{Instr}
use Rattle.vm_code.specs.declared.instr.Instr.TheVariants as instr
use Rattle.vm_code.specs.Bounded.{target_of, is_tick, LoopsTick}
use Rattle.vm_code.specs.Memory.{loaded, stored, copied, zeroed, stack_top, address_of, with_arguments, with_frame}
use Rattle.vm_code.specs.Stops.{fits_text, printed}
use Rattle.vm_code.specs.Library.{LibraryDone, Does, Fails, Exits, library_does}
use Rattle.vm_code.specs.Machine.{Config, Frame, Moved, Went, Stopped, Stuck, act, go_on, with_top, with_two, with_many, with_result, reading, writing, ticking, entered, left_to, library_done, at_place, with_memory, operand_limit, call_limit, trapped}
use Rattle.rank_machine.specs.Steps.{On, is_call_of_mpi, shown}
use Rattle.rank_machine.specs.Weight.{distance, weight}
use Rattle.am_base.specs.declared.traps.TrapCause.TheVariants.{CallDepth, DataStack, TextLimit}
use Rattle.std.proofs.Math.Nat.{mul-le-mul_right}

pub on_went : (m : Moved) (c : Config) → On c ≡ shown m → m ≡ Went c
on_went (Went d) c e = let same : c ≡ d = cc (e) in ap Went (sym same)
on_went (Stopped stop d) c e = absurd (cc (e))
on_went Stuck c e = absurd (cc (e))

-- behind the instruction, or where it may jump
abbrev pub Leads : Instr → ℕ → ℕ → Type 0
Leads i p q = (q ≡ p + 1) ⊎ (target_of (Some i) ≡ Some q)

-- An instruction between tick points stays in its call, or leaves it.
abbrev pub Between : Instr → Config → Config → Type 0
Between i c d = ((length d.callers ≡ length c.callers) × Leads i c.place d.place) ⊎ (length c.callers ≡ suc (length d.callers))

abbrev LedTo : Instr → Config → Moved → Type 0
LedTo i c (Went d) = Between i c d
LedTo i c (Stopped stop d) = Unit {0}
LedTo i c Stuck = Unit {0}

abbrev go_if : Bool → List ℕ → Config → Moved
go_if b operands d = if b then Went (at_place (d.place + 1) operands d) else Stuck

led_if : (b : Bool) (i : Instr) (c d : Config) (operands : List ℕ) → length d.callers ≡ length c.callers → d.place ≡ c.place → LedTo i c (go_if b operands d)
led_if true i c d operands callers place = inl (callers, inl (ap (λ (p : ℕ). p + 1) place))
led_if false i c d operands callers place = tt

led_on : (i : Instr) (c d : Config) (operands : List ℕ) → length d.callers ≡ length c.callers → d.place ≡ c.place → LedTo i c (go_on operands d)
led_on i c d operands callers place = led_if (nat_le (length operands) operand_limit) i c d operands callers place

led_top : (i : Instr) (c : Config) (operands : List ℕ) (next : ℕ → List ℕ → Moved) → ((x : ℕ) (rest : List ℕ) → LedTo i c (next x rest))
    → LedTo i c (with_top operands next)
led_top i c [] next each = tt
led_top i c (x ∷ rest) next each = each x rest

led_two : (i : Instr) (c : Config) (operands : List ℕ) (next : ℕ → ℕ → List ℕ → Moved) → ((x y : ℕ) (rest : List ℕ) → LedTo i c (next x y rest))
    → LedTo i c (with_two operands next)
led_two i c [] next each = tt
led_two i c (y ∷ []) next each = tt
led_two i c (y ∷ x ∷ rest) next each = each x y rest

led_reading : (code : Code) (i : Instr) (o : Option ℕ) (rest : List ℕ) (c : Config) → LedTo i c (reading code o rest c)
led_reading code i None rest c = tt
led_reading code i (Some word) rest c = led_on i c c (word ∷ rest) refl refl

led_writing : (code : Code) (i : Instr) (o : Option Memory) (operands : List ℕ) (c : Config) → LedTo i c (writing code o operands c)
led_writing code i None operands c = tt
led_writing code i (Some m) operands c = led_on i c (with_memory m c) operands refl refl

led_result : (code : Code) (i : Instr) (r : Result ℕ TrapCause) (rest : List ℕ) (c : Config) → LedTo i c (with_result code r rest c)
led_result code i (Ok word) rest c = led_on i c c (word ∷ rest) refl refl
led_result code i (Err cause) rest c = tt

chosen : (i : Instr) (p q : ℕ) (b : Bool) → target_of (Some i) ≡ Some q → Leads i p (if b then q else p + 1)
chosen i p q true e = inr e
chosen i p q false e = inl refl

chosen_not : (i : Instr) (p q : ℕ) (b : Bool) → target_of (Some i) ≡ Some q → Leads i p (if b then p + 1 else q)
chosen_not i p q true e = inl refl
chosen_not i p q false e = inr e

left_if : (b : Bool) (i : Instr) (c new : Config) → length c.callers ≡ suc (length new.callers) → LedTo i c (if b then Went new else Stuck)
left_if true i c new fewer = inr fewer
left_if false i c new fewer = tt

led_left : (i : Instr) (word : ℕ) (callers : List Frame) (c d : Config) → c.callers ≡ callers → LedTo i c (left_to word callers d)
led_left i word [] c d is = tt
led_left i word (caller ∷ []) c d is = tt
led_left i word (caller ∷ other ∷ others) c d is = left_if (nat_lt (length caller.operands) operand_limit) i c _ (ap length is)

led : (code : Code) (i : Instr) (c : Config) → is_tick (Some i) ≡ false → LedTo i c (act code (Some i) c)
unfolding act
led code (instr.Push word) c between = led_on (instr.Push word) c c (word ∷ c.frame.operands) refl refl
led code instr.Pop c between = led_top instr.Pop c c.frame.operands _ (λ x rest. led_on instr.Pop c c rest refl refl)
led code instr.Dup c between = led_top instr.Dup c c.frame.operands _ (λ x rest. led_on instr.Dup c c (x ∷ x ∷ rest) refl refl)
led code (instr.Local offset) c between = led_on (instr.Local offset) c c (address_of c.done.memory (c.frame.start + offset) ∷ c.frame.operands) refl refl
led code (instr.Global offset) c between = led_on (instr.Global offset) c c (address_of c.done.memory (globals_start + offset) ∷ c.frame.operands) refl refl
led code (instr.Load k) c between = led_top (instr.Load k) c c.frame.operands _ (λ a rest. led_reading code (instr.Load k) (loaded c.done.memory k a) rest c)
led code (instr.Store k) c between =
    led_two (instr.Store k) c c.frame.operands _ (λ a word rest. led_writing code (instr.Store k) (stored c.done.memory k a word) (word ∷ rest) c)
led code (instr.Copy count) c between =
    led_two (instr.Copy count) c c.frame.operands _ (λ target source rest. led_writing code (instr.Copy count) (copied c.done.memory target source count) (target ∷ rest) c)
led code (instr.Zero count) c between =
    led_top (instr.Zero count) c c.frame.operands _ (λ a rest. led_writing code (instr.Zero count) (zeroed c.done.memory a count) rest c)
led code (instr.Binary op k) c between =
    led_two (instr.Binary op k) c c.frame.operands _ (λ a b rest. led_result code (instr.Binary op k) (operate op k a b) rest c)
led code (instr.Unary op k) c between = led_top (instr.Unary op k) c c.frame.operands _ (λ a rest. led_on (instr.Unary op k) c c (operate_one op k a ∷ rest) refl refl)
led code (instr.Extend k) c between = led_top (instr.Extend k) c c.frame.operands _ (λ a rest. led_on (instr.Extend k) c c (extended k a ∷ rest) refl refl)
led code (instr.Jump place) c between = inl (refl, inr refl)
led code (instr.JumpIfZero place) c between =
    led_top (instr.JumpIfZero place) c c.frame.operands _ (λ x rest. inl (refl, chosen (instr.JumpIfZero place) c.place place (nat_eq x 0) refl))
led code (instr.JumpIfNot place) c between =
    led_top (instr.JumpIfNot place) c c.frame.operands _ (λ x rest. inl (refl, chosen_not (instr.JumpIfNot place) c.place place (nat_eq x 0) refl))
led code (instr.Tick unit line) c between = absurd (true≢false between)
led code (instr.Call function count) c between = absurd (true≢false between)
led code (instr.Library call count) c between = absurd (true≢false between)
led code (instr.Mpi call count second) c between = absurd (true≢false between)
led code instr.Return c between = led_top instr.Return c c.frame.operands _ (λ word rest. led_left instr.Return word c.callers c (at_place c.place rest c) refl)

-- No more calls are under way behind a tick point than may be.
abbrev FewBehind : Moved → Type 0
FewBehind (Went d) = length d.callers ≤ call_limit
FewBehind (Stopped stop d) = Unit {0}
FewBehind Stuck = Unit {0}

few_if : (b : Bool) (operands : List ℕ) (d : Config) → length d.callers ≤ call_limit → FewBehind (go_if b operands d)
few_if true operands d few = few
few_if false operands d few = tt

few_on : (operands : List ℕ) (d : Config) → length d.callers ≤ call_limit → FewBehind (go_on operands d)
few_on operands d few = few_if (nat_le (length operands) operand_limit) operands d few

few_many_if : (b : Bool) (m : Moved) → FewBehind m → FewBehind (if b then m else Stuck)
few_many_if true m few = few
few_many_if false m few = tt

few_many : (n : ℕ) (operands : List ℕ) (next : List ℕ → List ℕ → Moved) → ((words rest : List ℕ) → FewBehind (next words rest)) → FewBehind (with_many n operands next)
few_many n operands next each = few_many_if (nat_le n (length operands)) (next (reverse (take n operands)) (drop n operands)) (each _ _)

few_ticking : (left : ℕ) (c : Config) (next : Config → Moved) → ((d : Config) → d.callers ≡ c.callers → FewBehind (next d)) → FewBehind (ticking left c next)
few_ticking zero c next each = tt
few_ticking (suc left) c next each = each _ refl

few_choice : (b : Bool) (m n : Moved) → FewBehind m → FewBehind n → FewBehind (if b then m else n)
few_choice true m n first second = first
few_choice false m n first second = second

-- what entering a function does, by whether the calls are too many
abbrev entered_if : Bool → Code → Function → List ℕ → List ℕ → Config → Moved
entered_if deep code function words rest c =
    if deep then trapped code CallDepth rest c
    else (if nat_lt range_bytes (stack_top c.done.memory + function.frame) then trapped code DataStack rest c
    else Went (record (with_memory (with_arguments function.parameters words (stack_top c.done.memory) (with_frame c.done.memory function.frame)) c) {
      place = function.place;
      frame = record { back = c.place + 1; start = stack_top c.done.memory; finish = stack_top c.done.memory + function.frame; operands = [] };
      callers = record (c.frame) { operands = rest } ∷ c.callers;
    }))

few_deep : (b : Bool) (code : Code) (function : Function) (words rest : List ℕ) (d : Config) → nat_le call_limit (length d.callers) ≡ b
    → FewBehind (entered_if b code function words rest d)
few_deep true code function words rest d deep = tt
few_deep false code function words rest d flat =
    few_choice (nat_lt range_bytes (stack_top d.done.memory + function.frame)) _ _ tt
    (elim (leb_tells call_limit (length d.callers)) [
      | inl t ↦ absurd (true≢false (sym t.0 ∙ flat))
      | inr t ↦ t.1
    ])

few_entered : (code : Code) (o : Option Function) (words rest : List ℕ) (d : Config) → FewBehind (entered code o words rest d)
few_entered code None words rest d = tt
few_entered code (Some function) words rest d = few_deep (nat_le call_limit (length d.callers)) code function words rest d refl

few_library : (code : Code) (done : LibraryDone) (operands : List ℕ) (d : Config) → length d.callers ≤ call_limit → FewBehind (library_done code done operands d)
few_library code (Does value text m) operands d few =
    few_choice (fits_text d.done text) (go_on (value ∷ operands) (with_memory m (record d { done = printed d.done text }))) (trapped code TextLimit operands d)
    (few_on (value ∷ operands) (with_memory m (record d { done = printed d.done text })) few) tt
few_library code (Fails cause) operands d few = tt
few_library code (Exits status) operands d few = tt

few : (code : Code) (i : Instr) (c : Config) → is_tick (Some i) ≡ true → is_call_of_mpi i ≡ false → length c.callers ≤ call_limit → FewBehind (act code (Some i) c)
unfolding act
few code (instr.Push word) c tick no_call low = absurd (true≢false (sym tick))
few code instr.Pop c tick no_call low = absurd (true≢false (sym tick))
few code instr.Dup c tick no_call low = absurd (true≢false (sym tick))
few code (instr.Local offset) c tick no_call low = absurd (true≢false (sym tick))
few code (instr.Global offset) c tick no_call low = absurd (true≢false (sym tick))
few code (instr.Load k) c tick no_call low = absurd (true≢false (sym tick))
few code (instr.Store k) c tick no_call low = absurd (true≢false (sym tick))
few code (instr.Copy count) c tick no_call low = absurd (true≢false (sym tick))
few code (instr.Zero count) c tick no_call low = absurd (true≢false (sym tick))
few code (instr.Binary op k) c tick no_call low = absurd (true≢false (sym tick))
few code (instr.Unary op k) c tick no_call low = absurd (true≢false (sym tick))
few code (instr.Extend k) c tick no_call low = absurd (true≢false (sym tick))
few code (instr.Jump place) c tick no_call low = absurd (true≢false (sym tick))
few code (instr.JumpIfZero place) c tick no_call low = absurd (true≢false (sym tick))
few code (instr.JumpIfNot place) c tick no_call low = absurd (true≢false (sym tick))
few code (instr.Tick unit line) c tick no_call low =
    few_ticking c.left c (go_on c.frame.operands) (λ d same. few_on c.frame.operands d (let size = ap length same in omega (arith, size, low)))
few code (instr.Call function count) c tick no_call low =
    few_many count c.frame.operands _ (λ words rest. few_ticking c.left c _ (λ d same. few_entered code (slice_get code.functions function) words rest d))
few code (instr.Library call count) c tick no_call low =
    few_many count c.frame.operands _ (λ words rest.
    few_ticking c.left c _ (λ d same. few_library code (library_does call words d.done.memory) rest d (let size = ap length same in omega (arith, size, low))))
few code (instr.Mpi call count second) c tick no_call low = absurd (true≢false no_call)
few code instr.Return c tick no_call low = absurd (true≢false (sym tick))

pub led_between : (code : Code) (i : Instr) (c d : Config) → is_tick (Some i) ≡ false → act code (Some i) c ≡ Went d → Between i c d
led_between code i c d between went = subst (λ (m : Moved). LedTo i c m) went (led code i c between)

pub few_behind : (code : Code) (i : Instr) (c d : Config) → is_tick (Some i) ≡ true → is_call_of_mpi i ≡ false → length c.callers ≤ call_limit
    → act code (Some i) c ≡ Went d → length d.callers ≤ call_limit
few_behind code i c d tick no_call low went = subst FewBehind went (few code i c tick no_call low)

-- ---- the measure of a run

at_tick : (instrs : List Instr) (calls place : ℕ) → is_tick (slice_get instrs place) ≡ true → distance instrs calls place ≡ 0
at_tick instrs calls place tick = ap (λ (b : Bool). if b then 0 else calls * (length instrs + 1) + (length instrs - place)) tick

far : (instrs : List Instr) (calls place : ℕ) → is_tick (slice_get instrs place) ≡ false
    → distance instrs calls place ≡ calls * (length instrs + 1) + (length instrs - place)
far instrs calls place between = ap (λ (b : Bool). if b then 0 else calls * (length instrs + 1) + (length instrs - place)) between

choice : (b : Bool) (d : ℕ) → (if b then 0 else d) ≤ d
choice true d = omega arith
choice false d = omega arith

-- a distance is at most that of a place between tick points
most : (instrs : List Instr) (calls place : ℕ) → distance instrs calls place ≤ calls * (length instrs + 1) + (length instrs - place)
most instrs calls place = choice (is_tick (slice_get instrs place)) _

below_all : (size calls place : ℕ) → calls < 256 → calls * (size + 1) + (size - place) < 256 * (size + 1)
below_all size calls place few =
    let step : suc calls * (size + 1) ≤ 256 * (size + 1) = mul-le-mul_right (size + 1) (let e : suc calls ≤ 256 = omega (arith, few) in e) in
    let rest : suc calls * (size + 1) ≡ calls * (size + 1) + (size + 1) = omega arith in
    omega (arith, step, rest)

pub ticked_falls : (instrs : List Instr) (left calls place new_calls new_place : ℕ) → new_calls < 256
    → weight instrs left new_calls new_place < weight instrs (suc left) calls place
ticked_falls instrs left calls place new_calls new_place few =
    let far_off = most instrs new_calls new_place in
    let low = below_all (length instrs) new_calls new_place few in
    let more : suc left * (256 * (length instrs + 1)) ≡ left * (256 * (length instrs + 1)) + 256 * (length instrs + 1) = omega arith in
    omega (arith, far_off, low, more)

pub left_falls : (instrs : List Instr) (left calls place new_place : ℕ) → is_tick (slice_get instrs place) ≡ false → place < length instrs
    → weight instrs left calls new_place < weight instrs left (suc calls) place
left_falls instrs left calls place new_place between within =
    let here = far instrs (suc calls) place between in
    let there = most instrs calls new_place in
    let more : suc calls * (length instrs + 1) ≡ calls * (length instrs + 1) + (length instrs + 1) = omega arith in
    omega (arith, here, there, more, within)

-- where an instruction between tick points leads in its call
nearer : (instrs : List Instr) (i : Instr) (calls p q : ℕ) → LoopsTick instrs → slice_get instrs p ≡ Some i → is_tick (Some i) ≡ false
    → p < length instrs → Leads i p q → distance instrs calls q < distance instrs calls p
nearer instrs i calls p q loops found between within (inl next) =
    let here = far instrs calls p (ap is_tick found ∙ between) in
    let there = most instrs calls q in
    omega (arith, here, there, next, within)
nearer instrs i calls p q loops found between within (inr jumps) =
    let here = far instrs calls p (ap is_tick found ∙ between) in
    elim (cases_lt p q) [
      | inl forward ↦ let there = most instrs calls q in omega (arith, here, there, forward, within)
      | inr back ↦
          let tick = loops p q (ap target_of found ∙ jumps) back in
          let there = at_tick instrs calls q tick in
          omega (arith, here, there, within)
    ]

pub nearer_falls : (instrs : List Instr) (i : Instr) (left calls p q : ℕ) → LoopsTick instrs → slice_get instrs p ≡ Some i → is_tick (Some i) ≡ false
    → p < length instrs → Leads i p q → weight instrs left calls q < weight instrs left calls p
nearer_falls instrs i left calls p q loops found between within leads =
    let near = nearer instrs i calls p q loops found between within leads in
    omega (arith, near)
