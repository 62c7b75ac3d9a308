-- What stays beside changes of a list of bytes, and what is read from equal bytes.
use Rattle.std.proofs.Common.{◌≡◌, ℕ, ◌+◌, ◌<◌, ◌≤◌, ◌⊎◌, inl, inr, Bool, List, ◌∙◌, length, drop, slice_index, refl, sym, ap, subst, arith}
use Rattle.std.proofs.lemmas.List.{get_or-drop}
use Rattle.rank_range.specs.Layout.{MarksChanges}
use Rattle.rank_range.specs.Numbers.{number_at, with_number}
use Rattle.rank_range.specs.Parts.{StayBeside, Keeps}
use Rattle.rank_range.specs.Nodes.{Node, node_at, node_place}
use Rattle.rank_range.proofs.NumberLemmas.{length_stays, byte_stays, same_bytes}

pub beside_one : (old new : List ℕ) (at n v start end : ℕ) → new ≡ with_number old at n v → at + n ≤ length old
    → start ≤ at → at + n ≤ end → StayBeside old new start end
beside_one old new at n v start end put room low high = record {
  at = λ i apart.
      let byte = byte_stays old at n v i room
      (elim apart [ inl before ↦ inl (omega (arith, before, low)) | inr behind ↦ inr (omega (arith, behind, high)) ]) in
      ap (λ (bytes : List ℕ). slice_index bytes i) put ∙ byte;
}

pub beside_both : (old mid new : List ℕ) (start end : ℕ) → StayBeside old mid start end → StayBeside mid new start end
    → StayBeside old new start end
beside_both old mid new start end first second = record { at = λ i apart. second.at i apart ∙ first.at i apart }

pub beside_more : (old new : List ℕ) (start end low high : ℕ) → StayBeside old new start end → low ≤ start → end ≤ high
    → StayBeside old new low high
beside_more old new start end low high stay below above = record {
  at = λ i apart. stay.at i
      (elim apart [ inl before ↦ inl (omega (arith, before, below)) | inr behind ↦ inr (omega (arith, behind, above)) ]);
}

pub number_same : (old new : List ℕ) (at n : ℕ) → ((j : ℕ) → j < n → slice_index new (at + j) ≡ slice_index old (at + j))
    → number_at new at n ≡ number_at old at n
unfolding number_at
number_same old new at n same =
    same_bytes 0 n (drop at new) (drop at old)
    (λ j below. get_or-drop at new j 0 ∙ same j (omega (arith, below)) ∙ sym (get_or-drop at old j 0))

pub number_stays : (old new : List ℕ) (start end at n : ℕ) → StayBeside old new start end
    → (at + n ≤ start) ⊎ (end ≤ at) → number_at new at n ≡ number_at old at n
number_stays old new start end at n stay apart =
    number_same old new at n
    (λ j below. stay.at (at + j)
    (elim apart [ inl before ↦ inl (omega arith) | inr behind ↦ inr (omega arith) ]))

abbrev of_fields : ℕ → ℕ → ℕ → ℕ → ℕ → ℕ → Node
of_fields start units previous next kind rest =
    record { start = start; units = units; previous = previous; next = next; kind = kind; rest = rest }

-- nodes with equal fields are equal
pub same_node : (a b : Node) → a.start ≡ b.start → a.units ≡ b.units → a.previous ≡ b.previous → a.next ≡ b.next
    → a.kind ≡ b.kind → a.rest ≡ b.rest → a ≡ b
same_node a b start units previous next kind rest =
    ap (λ (x : ℕ). of_fields x a.units a.previous a.next a.kind a.rest) start
    ∙ ap (λ (x : ℕ). of_fields b.start x a.previous a.next a.kind a.rest) units
    ∙ ap (λ (x : ℕ). of_fields b.start b.units x a.next a.kind a.rest) previous
    ∙ ap (λ (x : ℕ). of_fields b.start b.units b.previous x a.kind a.rest) next
    ∙ ap (λ (x : ℕ). of_fields b.start b.units b.previous b.next x a.rest) kind
    ∙ ap (λ (x : ℕ). of_fields b.start b.units b.previous b.next b.kind x) rest

pub node_same : (old new : List ℕ) (k : ℕ)
    → ((j : ℕ) → j < 16 → slice_index new (node_place k + j) ≡ slice_index old (node_place k + j)) → node_at new k ≡ node_at old k
node_same old new k same =
    let place = node_place k in
    let field : (o n : ℕ) → o + n ≤ 16 → number_at new (place + o) n ≡ number_at old (place + o) n =
    λ o n few. number_same old new (place + o) n
    (λ j below.
    let P : ℕ → Type 0 = λ i. slice_index new i ≡ slice_index old i in
    let e : place + (o + j) ≡ place + o + j = omega arith in
    subst P e (same (o + j) (omega (arith, below, few)))) in
    same_node (node_at new k) (node_at old k)
    (number_same old new place 4 (λ j below. same j (omega (arith, below))))
    (field 4 4 (omega arith)) (field 8 2 (omega arith)) (field 10 2 (omega arith)) (field 12 1 (omega arith)) (field 13 3 (omega arith))

pub node_stays : (old new : List ℕ) (start end k : ℕ) → StayBeside old new start end
    → (node_place k + 16 ≤ start) ⊎ (end ≤ node_place k) → node_at new k ≡ node_at old k
node_stays old new start end k stay apart =
    node_same old new k
    (λ j below. stay.at (node_place k + j)
    (elim apart [ inl before ↦ inl (omega (arith, before, below)) | inr behind ↦ inr (omega (arith, behind)) ]))

pub keeps_one : (old_rank new_rank old_top new_top : ℕ) (old new : List ℕ) (old_marks new_marks : ℕ → Bool) (at n v : ℕ)
    → at + n ≤ length old → new ≡ with_number old at n v → MarksChanges old new old_marks new_marks
    → new_rank ≡ old_rank → new_top ≡ old_top
    → Keeps old_rank new_rank old_top new_top old new old_marks new_marks
keeps_one old_rank new_rank old_top new_top old new old_marks new_marks at n v room put marks owner stack = record {
  owner = owner;
  stack = stack;
  whole = ap length put ∙ length_stays old at n v room;
  marks = marks;
}

-- pages that were changed twice
pub marks_both : (old mid new : List ℕ) (old_marks mid_marks new_marks : ℕ → Bool)
    → MarksChanges old mid old_marks mid_marks → MarksChanges mid new mid_marks new_marks
    → MarksChanges old new old_marks new_marks
marks_both old mid new old_marks mid_marks new_marks first second = record {
  changed = λ page below.
      elim (second.changed page below) [
        | inl same ↦ elim (first.changed page below) [
          | inl before ↦ inl (same ∙ before)
          | inr marked ↦ inr (second.kept page below marked)
        ]
        | inr marked ↦ inr marked
      ];
  kept = λ page below marked. second.kept page below (first.kept page below marked);
}

pub keeps_both : (r s t : ℕ) (i j k : ℕ) (old mid new : List ℕ) (old_marks mid_marks new_marks : ℕ → Bool)
    → Keeps r s i j old mid old_marks mid_marks → Keeps s t j k mid new mid_marks new_marks
    → Keeps r t i k old new old_marks new_marks
keeps_both r s t i j k old mid new old_marks mid_marks new_marks first second = record {
  owner = second.owner ∙ first.owner;
  stack = second.stack ∙ first.stack;
  whole = second.whole ∙ first.whole;
  marks = marks_both old mid new old_marks mid_marks new_marks first.marks second.marks;
}

pub keeps_none : (r i : ℕ) (bytes : List ℕ) (marks : ℕ → Bool) → Keeps r r i i bytes bytes marks marks
keeps_none r i bytes marks = record {
  owner = refl;
  stack = refl;
  whole = refl;
  marks = record { changed = λ page below. inl refl; kept = λ page below marked. marked };
}
