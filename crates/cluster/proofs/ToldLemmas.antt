-- The ranks at the start, and the texts of ranks that stand for a world.
use Rattle.std.proofs.Common.{ℕ, zero, suc, ◌≡◌, ◌+◌, ◌-◌, ◌*◌, ◌<◌, ◌==◌, List, [], ◌∷◌, ◌++◌, length, get_or, refl, sym, ap, ◌∙◌, subst, append_assoc, length-append, arith, Bool, true, false, Option, Some, None, inl, inr}
use Rattle.std.proofs.lemmas.List.{append-nil}
use Rattle.std.proofs.lemmas.Bool.Decides.{eqb_tells, nat_tests}
use Rattle.std.proofs.lemmas.List.Sums.{sum_by-cons}
use Rattle.std.proofs.lemmas.Grind.{flat_map-append}
use Rattle.std.proofs.lemmas.Iterator.Adapters.{position_from-zero}
use Rattle.std.specs.List.{sum_by, AllByRecursion}
use Rattle.mpi_types.specs.declared.entries.Entry.{Entry}
use Rattle.w_model.specs.World.{Setting, World, world_of, start_world}
use Rattle.cluster.specs.declared.rank.Rank.{Rank}
use Rattle.cluster.specs.Group.{IsPart, ticks_left, Stand}
use Rattle.std.proofs.Common.{drop, ◌||◌}
use Rattle.std.specs.Bool.{if◌then◌else◌}
use Rattle.std.specs.List.{flat_map, range_with_len, list_any, position, position_from}
use Rattle.rank_range.specs.Output.{lines_behind, part_behind, numbered, with_text, with_last_line}
use Rattle.rank_range.specs.declared.run.Output.{Output}
use Rattle.rank_range.specs.declared.run.Segment.{Segment}
use Rattle.rank_range.specs.Areas.{Memory}
use Rattle.am_base.specs.declared.lines.Line.{Line}
use Rattle.vm_code.specs.Stops.{Stop, Paused, Waits, Ended, Trapped, nothing_done}
use Rattle.vm_code.specs.Memory.{opened}
use Rattle.c_types.specs.declared.program.Program.{Program}
use Rattle.c_types.specs.declared.program.Main.{Main}
use Rattle.c_model.specs.Outcome.{Outcome}
use Rattle.c_model.specs.Statements.{run_of, main_run}
use Rattle.w_model.specs.Printed.{lines_of, last_line, as_line}
use Rattle.w_model.specs.declared.report.End.{End}
use Rattle.w_model.specs.declared.report.End.TheVariants.{Done, Deadlock, OutOfTicks}
use Rattle.w_model.specs.World.{outcome_at}
use Rattle.am_base.specs.Released.{released_line, released_lines}
use Rattle.w_model.specs.Cut.{lines_at, lines_since, rank_numbers}
use Rattle.w_model.specs.Texts.{rank_line, rank_line_at, ending_at, ending_of, is_at_bound, is_unended, is_trapped, first_trapped, end_of, end_untrapped, end_at}
use Rattle.vm_code.specs.declared.code.Code.{Code}
use Rattle.cluster.specs.Rank.{nothing_printed, output_of, run_at}
use Rattle.cluster.specs.Told.{IsNew, on_first, is_rank_at_bound, is_rank_unended, is_rank_trapped}

-- ranks that took no tick yet, from the one of this number on
abbrev pub AreNew : Code → Setting → List Rank → Type 0
AreNew code s ranks = (i : ℕ) (d : Rank) → i < length ranks → IsNew code s i (get_or ranks i d)

pub none-new : (code : Code) (s : Setting) → AreNew code s []
none-new code s i d small = absurd (omega arith)

at-push : (xs : List Rank) (x d : Rank) → get_or (xs ++ x ∷ []) (length xs) d ≡ x
at-push [] x d = refl
at-push (y ∷ xs) x d = at-push xs x d

before-push : (xs : List Rank) (x d : Rank) (i : ℕ) → i < length xs → get_or (xs ++ x ∷ []) i d ≡ get_or xs i d
before-push [] x d i below = absurd (omega arith)
before-push (y ∷ xs) x d zero below = refl
before-push (y ∷ xs) x d (suc i) below = before-push xs x d i (omega arith)

pub one-more-new : (code : Code) (s : Setting) (ranks : List Rank) (rank : Rank) (n : ℕ) → length ranks ≡ n → AreNew code s ranks
    → IsNew code s n rank → AreNew code s (ranks ++ rank ∷ [])
one-more-new code s ranks rank n size all new i d small = elim (eqb_tells i (length ranks)) [
  | inl t ↦
      let here : get_or (ranks ++ rank ∷ []) i d ≡ rank = ap (λ k. get_or (ranks ++ rank ∷ []) k d) t.1 ∙ at-push ranks rank d in
      let number : i ≡ n = t.1 ∙ size in
      let P : Rank → Type 0 = λ x. IsNew code s i x in
      let Q : ℕ → Type 0 = λ k. IsNew code s k rank in
      subst P (sym here) (subst Q (sym number) new)
  | inr t ↦
      let below : i < length ranks = omega (arith, small, length-append ranks (rank ∷ []), t.1) in
      let there : get_or (ranks ++ rank ∷ []) i d ≡ get_or ranks i d = before-push ranks rank d i below in
      let P : Rank → Type 0 = λ x. IsNew code s i x in
      subst P (sym there) (all i d below)
]

times-suc : (n b : ℕ) → suc n * b ≡ b + n * b
times-suc n b = omega arith

all-left : (bound : ℕ) (ranks : List Rank) → ((i : ℕ) (d : Rank) → i < length ranks → (get_or ranks i d).regs.ticks ≡ 0)
    → sum_by (ticks_left bound) ranks ≡ length ranks * bound
all-left bound [] all = omega arith
all-left bound (rank ∷ ranks) all =
    let rest = all-left bound ranks (λ i d small. all (suc i) d (omega arith)) in
    let here : bound - rank.regs.ticks ≡ bound = omega (arith, all 0 rank (omega arith)) in
    let more : suc (length ranks) * bound ≡ bound + length ranks * bound = times-suc (length ranks) bound in
    sum_by-cons (ticks_left bound) rank ranks ∙ ap (λ k. k + sum_by (ticks_left bound) ranks) here ∙ ap (λ k. bound + k) rest ∙ sym more

pub stand-start : (code : Code) (s : Setting) (ranks : List Rank) → length ranks ≡ s.ranks → AreNew code s ranks → Stand code s ranks []
stand-start code s ranks size all = record {
  count = size;
  each = λ i d small.
      let new = all i d (omega (arith, size, small)) in
      record { stands = new.stands; ticks = new.no_tick; unanswered = refl };
  used = ap (λ k. 0 + k) (all-left s.bound ranks (λ i d small. (all i d small).no_tick)) ∙ omega (arith, ap (λ k. k * s.bound) size);
}

-- one more number behind a range from 0
range-more : (a n : ℕ) → range_with_len a (n + 1) ≡ range_with_len a n ++ (a + n) ∷ []
range-more a zero = let e : a ≡ a + 0 = omega arith in ap (λ k. k ∷ []) e
range-more a (suc n) =
    let e : (a + 1) + n ≡ a + suc n = omega arith in
    let size : suc n + 1 ≡ suc (n + 1) = omega arith in
    ap (range_with_len a) size ∙ ap (λ xs. a ∷ xs) (range-more (a + 1) n ∙ ap (λ k. range_with_len (a + 1) n ++ k ∷ []) e)

-- a text over the ranks grows by that of the next one
pub over-ranks-more : (f : ℕ → List ℕ) (n : ℕ) → flat_map f (range_with_len 0 (n + 1)) ≡ flat_map f (range_with_len 0 n) ++ f n
over-ranks-more f n =
    let e : 0 + n ≡ n = omega arith in
    ap (flat_map f) (range-more 0 n) ∙ flat_map-append f (range_with_len 0 n) ((0 + n) ∷ [])
    ∙ ap (λ r. flat_map f (range_with_len 0 n) ++ r) (append-nil (f (0 + n)) ∙ ap f e)

-- what a rank stands for, as its part of the world has it
pub part-outcome : (code : Code) (s : Setting) (w : World) (r : ℕ) (rank : Rank) → IsPart code s r (w.rank r) rank
    → outcome_at s w r ≡ run_at s r rank.regs.ticks
part-outcome code s w r rank part =
    ap (λ a. run_of s.program s.segment r a (w.rank r).ticks) part.unanswered ∙ ap (λ k. run_at s r k) (sym part.ticks)

part-ending : (code : Code) (s : Setting) (w : World) (r : ℕ) (rank : Rank) → IsPart code s r (w.rank r) rank
    → ending_at s w r ≡ rank.ending
part-ending code s w r rank part =
    ap (λ (o : Outcome). ending_of o.stop) (part-outcome code s w r rank part) ∙ sym part.stands.ending

-- nothing is printed before the first tick
no-lines-by : (program : Program) (segment : Segment) (m : Memory) (main : Option Main)
    → lines_of (main_run program segment m main 0 [] (nothing_done m)) ≡ []
unfolding lines_behind part_behind
no-lines-by program segment m None = refl
no-lines-by program segment m (Some main) = refl

no-lines : (s : Setting) (r : ℕ) → lines_at s start_world r ≡ []
unfolding run_of
no-lines s r = no-lines-by s.program s.segment (opened s.segment r) s.program.main

released-numbered : (r n : ℕ) (ls : List (List ℕ)) (more : List Line)
    → released_lines r (numbered n ls ++ more) ≡ flat_map (released_line r) ls ++ released_lines r more
released-numbered r n [] more = refl
released-numbered r n (l ∷ ls) more =
    ap (λ x. released_line r l ++ x) (released-numbered r (n + 1) ls more)
    ∙ sym (append_assoc (released_line r l) (flat_map (released_line r) ls) (released_lines r more))

released-all : (r n : ℕ) (ls : List (List ℕ)) → released_lines r (numbered n ls) ≡ flat_map (released_line r) ls
released-all r n ls =
    ap (released_lines r) (sym (append-nil (numbered n ls))) ∙ released-numbered r n ls [] ∙ append-nil (flat_map (released_line r) ls)

held-whole : (r : ℕ) (text : List ℕ) → released_lines r (with_text nothing_printed text).held ≡ flat_map (released_line r) (lines_behind [] text ++ [])
held-whole r text = released-all r 0 (lines_behind [] text) ∙ ap (flat_map (released_line r)) (sym (append-nil (lines_behind [] text)))

some-long : (b : ℕ) (bs xs : List ℕ) → xs ≡ b ∷ bs → 0 < length xs
some-long b bs xs is = omega (arith, ap length is)

held-last : (r : ℕ) (rest : List ℕ) (lines : List (List ℕ)) (output : Output) → output.unfinished ≡ rest → output.held ≡ numbered 0 lines
    → released_lines r (with_last_line output).held ≡ flat_map (released_line r) (lines ++ as_line rest)
held-last r [] lines output none held =
    let same : (with_last_line output).held ≡ output.held = rw none refl in
    ap (released_lines r) (same ∙ held) ∙ released-all r 0 lines ∙ ap (flat_map (released_line r)) (sym (append-nil lines))
held-last r (b ∷ bs) lines output some held =
    let last : Line = record { number = output.next; text = b ∷ bs } in
    let filled : (length output.unfinished == 0) ≡ false = grind (arith, nat_tests, some-long b bs output.unfinished some) in
    let same : (with_last_line output).held ≡ output.held ++ record { number = output.next; text = output.unfinished } ∷ [] = rw filled refl in
    let told : Line → List Line = λ l. output.held ++ l ∷ [] in
    let with_line : List ℕ → Line = λ t. record { number = output.next; text = t } in
    ap (released_lines r) (same ∙ ap (λ t. told (with_line t)) some ∙ ap (λ x. x ++ last ∷ []) held) ∙ released-numbered r 0 lines (last ∷ [])
    ∙ sym (flat_map-append (released_line r) lines ((b ∷ bs) ∷ []))

held-lines : (r : ℕ) (stop : Stop) (text : List ℕ)
    → released_lines r (output_of stop text).held ≡ flat_map (released_line r) (lines_behind [] text ++ last_line stop (part_behind [] text))
held-lines r Paused text = held-whole r text
held-lines r (Waits call) text = held-whole r text
held-lines r (Ended status) text = held-last r (part_behind [] text) (lines_behind [] text) (with_text nothing_printed text) refl refl
held-lines r (Trapped cause unit line) text = held-last r (part_behind [] text) (lines_behind [] text) (with_text nothing_printed text) refl refl

-- what a rank printed from the start on
pub lines-of-part : (code : Code) (s : Setting) (w : World) (r : ℕ) (rank : Rank) → IsPart code s r (w.rank r) rank
    → lines_since s start_world w r ≡ released_lines r rank.regs.output.held
lines-of-part code s w r rank part =
    let o = run_at s r rank.regs.ticks in
    ap (λ ls. flat_map (released_line r) (drop (length ls) (lines_at s w r))) (no-lines s r)
    ∙ ap (λ o. flat_map (released_line r) (lines_of o)) (part-outcome code s w r rank part)
    ∙ sym (held-lines r o.stop o.done.text) ∙ ap (λ (x : Output). released_lines r x.held) (sym part.stands.output)

pub report-of-part : (code : Code) (files : List (List ℕ)) (s : Setting) (w : World) (r : ℕ) (rank : Rank) → IsPart code s r (w.rank r) rank
    → rank_line_at files s w on_first r ≡ rank_line files r (rank.ending) rank.regs.ticks s.bound 0
report-of-part code files s w r rank part =
    ap (λ e. rank_line files r e (w.rank r).ticks s.bound 0) (part-ending code s w r rank part)
    ∙ ap (λ k. rank_line files r (rank.ending) k s.bound 0) (sym part.ticks)

-- a test of the ranks' numbers that agrees with a test of the ranks
any-agrees : (f : ℕ → Bool) (g : Rank → Bool) (ranks : List Rank) (a n : ℕ) → length ranks ≡ n
    → ((i : ℕ) (d : Rank) → i < n → f (a + i) ≡ g (get_or ranks i d))
    → list_any f (range_with_len a n) ≡ list_any g ranks
any-agrees f g [] a zero size same = refl
any-agrees f g [] a (suc n) size same = absurd (omega arith)
any-agrees f g (rank ∷ ranks) a zero size same = absurd (omega arith)
any-agrees f g (rank ∷ ranks) a (suc n) size same =
    let here : a + 0 ≡ a = omega arith in
    let first : f a ≡ g rank = ap f (sym here) ∙ same 0 rank (omega arith) in
    let rest = any-agrees f g ranks (a + 1) n (omega arith)
    (λ i d small. let next : (a + 1) + i ≡ a + suc i = omega arith in ap f next ∙ same (suc i) d (omega arith)) in
    ap (λ b. b || list_any f (range_with_len (a + 1) n)) first ∙ ap (λ b. g rank || b) rest

-- how the run ended where no rank was trapped, by its ranks
pub end-of-ranks : (code : Code) (s : Setting) (ranks : List Rank) (h : List Entry) (end : End) → Stand code s ranks h
    → end ≡ (if list_any (is_rank_at_bound s.bound) ranks then OutOfTicks
    else (if list_any is_rank_unended ranks then Deadlock else Done))
    → end ≡ end_untrapped s (world_of h)
end-of-ranks code s ranks h end stand is =
    let w = world_of h in
    let bounds = any-agrees (λ r. is_at_bound (ending_at s w r) (w.rank r).ticks s.bound) (is_rank_at_bound s.bound)
    ranks 0 s.ranks stand.count (λ i d small.
    let part = stand.each i d small in
    let e : 0 + i ≡ i = omega arith in
    ap (λ r. is_at_bound (ending_at s w r) (w.rank r).ticks s.bound) e
    ∙ ap (λ e. is_at_bound e (w.rank i).ticks s.bound) (part-ending code s w i (get_or ranks i d) part)
    ∙ ap (λ k. is_at_bound (get_or ranks i d).ending k s.bound) (sym part.ticks)) in
    let unended = any-agrees (λ r. is_unended (ending_at s w r)) is_rank_unended
    ranks 0 s.ranks stand.count (λ i d small.
    let part = stand.each i d small in
    let e : 0 + i ≡ i = omega arith in
    ap (λ r. is_unended (ending_at s w r)) e
    ∙ ap is_unended (part-ending code s w i (get_or ranks i d) part)) in
    is ∙ sym (rw (bounds, unended) refl)

from-agrees : (f : ℕ → Bool) (g : Rank → Bool) (ranks : List Rank) (a n k : ℕ) → length ranks ≡ n
    → ((i : ℕ) (d : Rank) → i < n → f (a + i) ≡ g (get_or ranks i d))
    → position_from f k (range_with_len a n) ≡ position_from g k ranks
from-agrees f g [] a zero k size same = refl
from-agrees f g [] a (suc n) k size same = absurd (omega arith)
from-agrees f g (rank ∷ ranks) a zero k size same = absurd (omega arith)
from-agrees f g (rank ∷ ranks) a (suc n) k size same =
    let here : a + 0 ≡ a = omega arith in
    let first : f a ≡ g rank = ap f (sym here) ∙ same 0 rank (omega arith) in
    let rest = from-agrees f g ranks (a + 1) n (k + 1) (omega arith)
    (λ i d small. let next : (a + 1) + i ≡ a + suc i = omega arith in ap f next ∙ same (suc i) d (omega arith)) in
    ap (λ b. if b then Some k else position_from f (k + 1) (range_with_len (a + 1) n)) first
    ∙ ap (λ o. if g rank then Some k else o) rest

-- the first place of ranks' numbers at which a test holds that agrees with a test of the ranks
position-agrees : (f : ℕ → Bool) (g : Rank → Bool) (ranks : List Rank) (a n : ℕ) → length ranks ≡ n
    → ((i : ℕ) (d : Rank) → i < n → f (a + i) ≡ g (get_or ranks i d))
    → position f (range_with_len a n) ≡ position g ranks
position-agrees f g ranks a n size same =
    position_from-zero f (range_with_len a n) ∙ from-agrees f g ranks a n 0 size same ∙ sym (position_from-zero g ranks)

-- how the run ended, by the first trapped rank
pub end-of-all : (code : Code) (s : Setting) (ranks : List Rank) (h : List Entry) (first : Option ℕ) (end : End) → Stand code s ranks h
    → first ≡ position is_rank_trapped ranks → end ≡ end_untrapped s (world_of h) → end_of first end ≡ end_at s (world_of h)
end-of-all code s ranks h first end stand first_is end_is =
    let w = world_of h in
    let trapped = position-agrees (λ r. is_trapped (ending_at s w r)) is_rank_trapped ranks 0 s.ranks stand.count (λ i d small.
    let part = stand.each i d small in
    let e : 0 + i ≡ i = omega arith in
    ap (λ r. is_trapped (ending_at s w r)) e ∙ ap is_trapped (part-ending code s w i (get_or ranks i d) part)) in
    ap (λ o. end_of o end) (first_is ∙ sym trapped) ∙ ap (end_of (first_trapped s w)) end_is

-- the loops over the ranks
pub lines-start : (s : Setting) (w : World) (out : List ℕ) → out ≡ out ++ flat_map (lines_since s start_world w) (range_with_len 0 0)
lines-start s w out = sym (append-nil out)

pub lines-next : (code : Code) (s : Setting) (h : List Entry) (ranks : List Rank) (rank : Rank) (at : ℕ) (before out now : List ℕ) → at < length ranks
    → rank ≡ get_or ranks at rank
    → Stand code s ranks h
    → out ≡ before ++ flat_map (lines_since s start_world (world_of h)) (range_with_len 0 at)
    → (now ≡ out ++ released_lines at rank.regs.output.held)
    → now ≡ before ++ flat_map (lines_since s start_world (world_of h)) (range_with_len 0 (at + 1))
lines-next code s h ranks rank at before out now within rank_is stand out_is now_is =
    let f = lines_since s start_world (world_of h) in
    let P : Rank → Type 0 = λ x. IsPart code s at ((world_of h).rank at) x in
    let part = subst P (sym rank_is) (stand.each at rank (omega (arith, within, stand.count))) in
    now_is ∙ ap (λ x. out ++ x) (sym (lines-of-part code s (world_of h) at rank part))
    ∙ ap (λ o. o ++ f at) out_is ∙ append_assoc before (flat_map f (range_with_len 0 at)) (f at)
    ∙ ap (λ x. before ++ x) (sym (over-ranks-more f at))

pub over-all : (s : Setting) (f : ℕ → List ℕ) (at : ℕ) (before out : List ℕ) → at ≡ s.ranks
    → out ≡ before ++ flat_map f (range_with_len 0 at) → out ≡ before ++ flat_map f (rank_numbers s)
over-all s f at before out all is = is ∙ ap (λ k. before ++ flat_map f (range_with_len 0 k)) all

pub report-next : (code : Code) (files : List (List ℕ)) (s : Setting) (h : List Entry) (ranks : List Rank) (rank : Rank) (at : ℕ) (before out now : List ℕ) → at < length ranks
    → rank ≡ get_or ranks at rank
    → Stand code s ranks h
    → out ≡ before ++ flat_map (rank_line_at files s (world_of h) on_first) (range_with_len 0 at)
    → (now ≡ out ++ rank_line files at (rank.ending) rank.regs.ticks s.bound 0)
    → now ≡ before ++ flat_map (rank_line_at files s (world_of h) on_first) (range_with_len 0 (at + 1))
report-next code files s h ranks rank at before out now within rank_is stand out_is now_is =
    let f = rank_line_at files s (world_of h) on_first in
    let P : Rank → Type 0 = λ x. IsPart code s at ((world_of h).rank at) x in
    let part = subst P (sym rank_is) (stand.each at rank (omega (arith, within, stand.count))) in
    now_is ∙ ap (λ x. out ++ x) (sym (report-of-part code files s (world_of h) at rank part))
    ∙ ap (λ o. o ++ f at) out_is ∙ append_assoc before (flat_map f (range_with_len 0 at)) (f at)
    ∙ ap (λ x. before ++ x) (sym (over-ranks-more f at))
