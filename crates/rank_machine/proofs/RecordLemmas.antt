-- A record is read word by word, and written so.
use Rattle.std.proofs.Common.{◌≡◌, ℕ, zero, suc, ◌+◌, ◌*◌, ◌^◌, ◌<◌, ◌≤◌, ◌∙◌, inl, inr, Bool, true, List, [], ◌∷◌, ◌++◌, length, reverse, take, get_or, refl, sym, ap, arith, add-one}
use Rattle.std.specs.Prelude.{min, nat_le, if◌then◌else◌}
use Rattle.std.proofs.lemmas.Bool.{le-leb}
use Rattle.std.proofs.lemmas.List.{reverse-append, reverse-reverse}
use Rattle.std.proofs.lemmas.Grind.{take_at_read}
use Rattle.rank_range.specs.Numbers.{number_at, with_number}
use Rattle.rank_range.specs.Parts.{StayBeside, Keeps}
use Rattle.rank_range.proofs.NumberLemmas.{loaded_back, length_stays}
use Rattle.rank_range.proofs.ChangeLemmas.{beside_one, beside_both, beside_more, number_stays, keeps_both, keeps_none}
use Rattle.vm_code.specs.Machine.{operand_limit}
use Rattle.rank_machine.specs.View.{record_place, words_at, in_stack, frame_at}
use Rattle.rank_machine.specs.Steps.{Kept}
use Rattle.rank_machine.specs.Records.{HasHead}
use Rattle.rank_machine.specs.declared.records.Head.{Head}
use Rattle.rank_machine.proofs.FrameLemmas.{words_stand, frame_with, same_frame}
use Rattle.rank_machine.proofs.AccessLemmas.{heap_stays}

pub length_words : (bytes : List ℕ) (at k : ℕ) → length (words_at bytes at k) ≡ k
length_words bytes at zero = refl
length_words bytes at (suc k) = ap suc (length_words bytes at k)

-- one more word was read
pub read_more : (bytes : List ℕ) (at k word : ℕ) (old new : List ℕ) (fits : Bool) → k < 32 → old ≡ words_at bytes at k
    → word ≡ number_at bytes (at + 8 * k) 8 → fits ≡ nat_le (length (word ∷ old)) operand_limit
    → new ≡ (if fits then word ∷ old else old) → new ≡ words_at bytes at (k + 1)
read_more bytes at k word old new fits few before is room after =
    let size : length old ≡ k = ap length before ∙ length_words bytes at k in
    let there : fits ≡ true = room ∙ le-leb (length (word ∷ old)) operand_limit (omega (arith, size, few)) in
    after ∙ ap (λ (b : Bool). if b then word ∷ old else old) there
    ∙ ap (λ (x : ℕ). x ∷ old) is ∙ ap (λ (xs : List ℕ). number_at bytes (at + 8 * k) 8 ∷ xs) before
    ∙ ap (words_at bytes at) (sym (add-one k))

-- So many words were written.
pub record Written (old_rank new_rank old_top new_top : ℕ) (old new : List ℕ) (old_marks new_marks : ℕ → Bool) (at : ℕ) (words : List ℕ) (k : ℕ)
    : Type 0 where
  pub are : words_at new at k ≡ reverse (take k words)
  pub beside : StayBeside old new at (at + 256)
  pub kept : Keeps old_rank new_rank old_top new_top old new old_marks new_marks

pub written_none : (r i : ℕ) (bytes : List ℕ) (marks : ℕ → Bool) (at : ℕ) (words : List ℕ) → Written r r i i bytes bytes marks marks at words 0
written_none r i bytes marks at words = record {
  are = refl;
  beside = record { at = λ n apart. refl };
  kept = keeps_none r i bytes marks;
}

pub written_more : (r s t i j l : ℕ) (old mid new : List ℕ) (old_marks mid_marks new_marks : ℕ → Bool) (at : ℕ) (words : List ℕ) (k : ℕ)
    → new ≡ with_number mid (at + 8 * k) 8 (get_or words k 0) → at + 256 ≤ length old → k < length words → length words ≤ 32
    → get_or words k 0 < 2 ^ 64 → Written r s i j old mid old_marks mid_marks at words k
    → Keeps s t j l mid new mid_marks new_marks → Written r t i l old new old_marks new_marks at words (k + 1)
written_more r s t i j l old mid new old_marks mid_marks new_marks at words k put room below few fits before kept =
    let size = before.kept.whole in
    let here = at + 8 * k in
    let inside : here + 8 ≤ length mid = omega (arith, size, room, below, few) in
    let near = beside_one mid new here 8 (get_or words k 0) here (here + 8) put inside (omega arith) (omega arith) in
    let wide = beside_more mid new here (here + 8) at (at + 256) near (omega arith) (omega (arith, below, few)) in
    let word : number_at new here 8 ≡ get_or words k 0 =
    ap (λ (bytes : List ℕ). number_at bytes here 8) put ∙ loaded_back mid here 8 (get_or words k 0) inside fits in
    let others : words_at new at k ≡ words_at mid at k =
    words_stand mid new at k at here (λ n low high. near.at n (inl high)) (omega arith) (omega arith) in
    let next : take (k + 1) words ≡ take k words ++ get_or words k 0 ∷ [] = (take_at_read words k 0 below).1 in
    record {
      are =
          ap (words_at new at) (add-one k)
          ∙ ap (λ (x : ℕ). x ∷ words_at new at k) word
          ∙ ap (λ (xs : List ℕ). get_or words k 0 ∷ xs) (others ∙ before.are)
          ∙ sym (reverse-append (take k words) (get_or words k 0 ∷ []))
          ∙ ap reverse (sym next);
      beside = beside_both old mid new at (at + 256) before.beside wide;
      kept = keeps_both r s t i j l old mid new old_marks mid_marks new_marks before.kept kept;
    }

-- ---- a whole record

-- a number was put
pub record Puts (old new : List ℕ) (at v : ℕ) : Type 0 where
  pub is : new ≡ with_number old at 8 v
  pub room : at + 8 ≤ length old
  pub fits : v < 256 ^ 8

pub puts_length : (old new : List ℕ) (at v : ℕ) → Puts old new at v → length new ≡ length old
puts_length old new at v p = ap length p.is ∙ length_stays old at 8 v p.room

puts_is : (old new : List ℕ) (at v : ℕ) → Puts old new at v → number_at new at 8 ≡ v
puts_is old new at v p = ap (λ (bytes : List ℕ). number_at bytes at 8) p.is ∙ loaded_back old at 8 v p.room p.fits

puts_beside : (old new : List ℕ) (at v : ℕ) → Puts old new at v → StayBeside old new at (at + 8)
puts_beside old new at v p = beside_one old new at 8 v at (at + 8) p.is p.room (omega arith) (omega arith)

-- The four numbers of a record were put.
pub record HeadPut (b0 b1 b2 b3 b4 : List ℕ) (at : ℕ) (head : Head) : Type 0 where
  pub back : Puts b0 b1 at head.back
  pub start : Puts b1 b2 (at + 8) head.start
  pub finish : Puts b2 b3 (at + 16) head.finish
  pub count : Puts b3 b4 (at + 24) head.count

pub head_is : (b0 b1 b2 b3 b4 : List ℕ) (at : ℕ) (head : Head) → HeadPut b0 b1 b2 b3 b4 at head → HasHead b4 at head
head_is b0 b1 b2 b3 b4 at head p = record {
  back =
      number_stays b3 b4 (at + 24) (at + 24 + 8) at 8 (puts_beside b3 b4 _ _ p.count) (inl (omega arith))
      ∙ number_stays b2 b3 (at + 16) (at + 16 + 8) at 8 (puts_beside b2 b3 _ _ p.finish) (inl (omega arith))
      ∙ number_stays b1 b2 (at + 8) (at + 8 + 8) at 8 (puts_beside b1 b2 _ _ p.start) (inl (omega arith))
      ∙ puts_is b0 b1 _ _ p.back;
  start =
      number_stays b3 b4 (at + 24) (at + 24 + 8) (at + 8) 8 (puts_beside b3 b4 _ _ p.count) (inl (omega arith))
      ∙ number_stays b2 b3 (at + 16) (at + 16 + 8) (at + 8) 8 (puts_beside b2 b3 _ _ p.finish) (inl (omega arith))
      ∙ puts_is b1 b2 _ _ p.start;
  finish =
      number_stays b3 b4 (at + 24) (at + 24 + 8) (at + 16) 8 (puts_beside b3 b4 _ _ p.count) (inl (omega arith))
      ∙ puts_is b2 b3 _ _ p.finish;
  count = puts_is b3 b4 _ _ p.count;
}

pub head_beside : (b0 b1 b2 b3 b4 : List ℕ) (at : ℕ) (head : Head) → HeadPut b0 b1 b2 b3 b4 at head → StayBeside b0 b4 at (at + 32)
head_beside b0 b1 b2 b3 b4 at head p =
    let one = beside_more b0 b1 at (at + 8) at (at + 32) (puts_beside b0 b1 _ _ p.back) (omega arith) (omega arith) in
    let two = beside_more b1 b2 (at + 8) (at + 8 + 8) at (at + 32) (puts_beside b1 b2 _ _ p.start) (omega arith) (omega arith) in
    let three = beside_more b2 b3 (at + 16) (at + 16 + 8) at (at + 32) (puts_beside b2 b3 _ _ p.finish) (omega arith) (omega arith) in
    let four = beside_more b3 b4 (at + 24) (at + 24 + 8) at (at + 32) (puts_beside b3 b4 _ _ p.count) (omega arith) (omega arith) in
    beside_both b0 b3 b4 at (at + 32) (beside_both b0 b2 b3 at (at + 32) (beside_both b0 b1 b2 at (at + 32) one two) three) four

-- a record whose head and words were put
pub record_is : (b0 b1 b2 : List ℕ) (at limit : ℕ) (head : Head) (words operands : List ℕ) → HasHead b1 at head → StayBeside b1 b2 (at + 32) (at + 32 + 256)
    → words_at b2 (at + 32) (length words) ≡ reverse words → head.count ≡ length words → length words ≤ 32 → words ≡ reverse operands
    → frame_at b2 limit at ≡ frame_with head.back head.start (in_stack limit head.finish) operands
unfolding frame_at
record_is b0 b1 b2 at limit head words operands has beside put count few are =
    let number : (o : ℕ) → o ≤ 24 → number_at b2 (at + o) 8 ≡ number_at b1 (at + o) 8 =
    λ o low. number_stays b1 b2 (at + 32) (at + 32 + 256) (at + o) 8 beside (inl (omega (arith, low))) in
    let counts : number_at b2 (at + 24) 8 ≡ length words = number 24 (omega arith) ∙ has.count ∙ count in
    let size : min 32 (number_at b2 (at + 24) 8) ≡ length words = ap (min 32) counts ∙ omega (arith, few) in
    same_frame _ _ _ _ _ _ _ _
    (number_stays b1 b2 (at + 32) (at + 32 + 256) at 8 beside (inl (omega arith)) ∙ has.back)
    (number 8 (omega arith) ∙ has.start)
    (ap (in_stack limit) (number 16 (omega arith) ∙ has.finish))
    (ap (words_at b2 (at + 32)) size ∙ put ∙ ap reverse are ∙ reverse-reverse operands)

pub record_finish : (b1 b2 : List ℕ) (at : ℕ) (head : Head) → HasHead b1 at head → StayBeside b1 b2 (at + 32) (at + 32 + 256)
    → number_at b2 (at + 16) 8 ≡ head.finish
record_finish b1 b2 at head has beside =
    number_stays b1 b2 (at + 32) (at + 32 + 256) (at + 16) 8 beside (inl (omega arith)) ∙ has.finish

pub record_beside : (b0 b1 b2 : List ℕ) (at : ℕ) → StayBeside b0 b1 at (at + 32) → StayBeside b1 b2 (at + 32) (at + 32 + 256)
    → StayBeside b0 b2 at (at + 288)
record_beside b0 b1 b2 at head words =
    beside_both b0 b1 b2 at (at + 288) (beside_more b0 b1 at (at + 32) at (at + 288) head (omega arith) (omega arith))
    (beside_more b1 b2 (at + 32) (at + 32 + 256) at (at + 288) words (omega arith) (omega arith))

-- a change of one record leaves the heap
pub kept_record : (r s i j number : ℕ) (old new : List ℕ) (old_marks new_marks : ℕ → Bool) → number < 256
    → Keeps r s i j old new old_marks new_marks → StayBeside old new (record_place number) (record_place number + 288)
    → Kept r s old new old_marks new_marks
kept_record r s i j number old new old_marks new_marks below kept beside = record {
  owner = kept.owner;
  whole = kept.whole;
  marks = kept.marks;
  heap = heap_stays r s old new kept.owner (λ n apart. beside.at n (elim apart [
    | inl before ↦ inl (omega (arith, before))
    | inr both ↦ (let from = both.0 in inr (omega (arith, from, below)))
  ]));
}
