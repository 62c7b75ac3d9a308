-- A text is cut byte by byte, and printed.
use Rattle.std.proofs.Common.{ℕ, ◌≡◌, ◌≢◌, ◌+◌, List, [], ◌∷◌, ◌++◌, length, refl, sym, ap, ◌∙◌, append_assoc, length-append, arith}
use Rattle.std.specs.Prelude.{Result, Ok, Err, IsOk, is_ok, if◌then◌else◌}
use Rattle.std.proofs.lemmas.List.{append-nil}
use Rattle.std.proofs.lemmas.Bool.{true≢false}
use Rattle.am_base.specs.declared.lines.Line.{Line}
use Rattle.rank_range.specs.declared.run.Output.{Output}
use Rattle.rank_range.specs.Output.{lines_behind, part_behind, numbered, with_text}
use Rattle.rank_range.proofs.LineLemmas.{at_newline, at_full, at_more}
use Rattle.rank_machine.specs.declared.printer.Cut.{Cut}
use Rattle.rank_machine.specs.Printing.{IsCut}

same_lines : (xs ys : List Line) (m n : ℕ) (ps qs : List (List ℕ)) → xs ≡ ys → m ≡ n → ps ≡ qs → xs ++ numbered m ps ≡ ys ++ numbered n qs
same_lines xs ys m n ps qs lines next texts =
    ap (λ (ls : List Line). ls ++ numbered m ps) lines ∙ ap (λ (k : ℕ). ys ++ numbered k ps) next ∙ ap (λ (ts : List (List ℕ)). ys ++ numbered n ts) texts

same_count : (m n : ℕ) (ps qs : List (List ℕ)) → m ≡ n → ps ≡ qs → m + length ps ≡ n + length qs
same_count m n ps qs next texts = ap (λ (k : ℕ). k + length ps) next ∙ ap (λ (ts : List (List ℕ)). n + length ts) texts

-- a byte that goes into the part
pub goes_on : (old new : Cut) (b : ℕ) → b ≢ 10 → length (old.part ++ b ∷ []) ≢ 4096 → new.lines.items ≡ old.lines.items
    → new.part ≡ old.part ++ b ∷ [] → new.next ≡ old.next → IsCut old new (b ∷ [])
goes_on old new b byte short lines part next =
    let size : length (old.part ++ b ∷ []) ≡ length old.part + 1 = length-append old.part (b ∷ []) in
    let open_line : length old.part ≢ 4095 = λ full. short (omega (arith, full, size)) in
    let step = λ (more : List ℕ). at_more old.part more b byte open_line in
    let texts = λ (more : List ℕ). ap (λ (p : List ℕ). lines_behind p more) part ∙ sym (step more).0 in
    record {
      lines = λ more. same_lines _ _ _ _ _ _ lines next (texts more);
      next = λ more. same_count _ _ _ _ next (texts more);
      part = λ more. ap (λ (p : List ℕ). part_behind p more) part ∙ sym (step more).1;
      few = (let parts = ap length part ∙ size in omega (arith, next, parts));
    }

-- a byte that ends a line
pub ends_line : (old new : Cut) (b : ℕ) (line : List ℕ)
    → ((more : List ℕ) → (lines_behind old.part (b ∷ more) ≡ line ∷ lines_behind [] more) × (part_behind old.part (b ∷ more) ≡ part_behind [] more))
    → new.lines.items ≡ old.lines.items ++ record { number = old.next; text = line } ∷ []
    → new.part ≡ [] → new.next ≡ old.next + 1 → IsCut old new (b ∷ [])
ends_line old new b line step lines part next =
    let texts = λ (more : List ℕ). ap (λ (p : List ℕ). lines_behind p more) part in
    record {
      lines = λ more.
          let rest = lines_behind [] more in
          same_lines _ _ _ _ _ _ lines next (texts more)
          ∙ append_assoc old.lines.items (record { number = old.next; text = line } ∷ []) (numbered (old.next + 1) rest)
          ∙ ap (λ (ts : List (List ℕ)). old.lines.items ++ numbered old.next ts) (sym (step more).0);
      next = λ more.
          let rest = lines_behind [] more in
          let one : old.next + 1 + length rest ≡ old.next + length (line ∷ rest) = omega arith in
          same_count _ _ _ _ next (texts more) ∙ one ∙ ap (λ (ts : List (List ℕ)). old.next + length ts) (sym (step more).0);
      part = λ more. ap (λ (p : List ℕ). part_behind p more) part ∙ sym (step more).1;
      few = (let none : length new.part ≡ 0 = ap length part in omega (arith, next, none));
    }

pub ends_by_newline : (old new : Cut) (b : ℕ) → b ≡ 10 → new.lines.items ≡ old.lines.items ++ record { number = old.next; text = old.part } ∷ []
    → new.part ≡ [] → new.next ≡ old.next + 1 → IsCut old new (b ∷ [])
ends_by_newline old new b byte lines part next =
    ends_line old new b old.part (λ more. at_newline old.part more b byte) lines part next

pub ends_by_length : (old new : Cut) (b : ℕ) (line : List ℕ) → b ≢ 10 → line ≡ old.part ++ b ∷ [] → length line ≡ 4096
    → new.lines.items ≡ old.lines.items ++ record { number = old.next; text = line } ∷ []
    → new.part ≡ [] → new.next ≡ old.next + 1 → IsCut old new (b ∷ [])
ends_by_length old new b line byte is whole lines part next =
    let size : length (old.part ++ b ∷ []) ≡ length old.part + 1 = length-append old.part (b ∷ []) in
    let full : length old.part ≡ 4095 = (let same = ap length is in omega (arith, same, size, whole)) in
    ends_line old new b line
    (λ more.
    let step = at_full old.part more b byte full in
    (step.0 ∙ ap (λ (l : List ℕ). l ∷ lines_behind [] more) (sym is), step.1))
    lines part next

pub cut_none : (c : Cut) → IsCut c c []
cut_none c = record { lines = λ more. refl; next = λ more. refl; part = λ more. refl; few = omega arith }

pub cut_more : (old mid new : Cut) (xs ys : List ℕ) (b : ℕ) → ys ≡ xs ++ b ∷ [] → IsCut old mid xs → IsCut mid new (b ∷ []) → IsCut old new ys
cut_more old mid new xs ys b is first second =
    let parts = λ (more : List ℕ).
    sym (append_assoc xs (b ∷ []) more) ∙ ap (λ (zs : List ℕ). zs ++ more) (sym is) in
    record {
      lines = λ more. second.lines more ∙ first.lines (b ∷ more)
          ∙ ap (λ (zs : List ℕ). old.lines.items ++ numbered old.next (lines_behind old.part zs)) (parts more);
      next = λ more. second.next more ∙ first.next (b ∷ more)
          ∙ ap (λ (zs : List ℕ). old.next + length (lines_behind old.part zs)) (parts more);
      part = λ more. second.part more ∙ first.part (b ∷ more) ∙ ap (part_behind old.part) (parts more);
      few =
          let size : length ys ≡ length xs + 1 = ap length is ∙ length-append xs (b ∷ []) in
          let one = first.few in
          let two = second.few in
          omega (arith, one, two, size);
    }

abbrev output_with : ℕ → List ℕ → ℕ → List Line → Output
output_with printed unfinished next held = record { printed = printed; unfinished = unfinished; next = next; held = held }

-- the output that a cut text makes
pub printed_is : (output : Output) (cut new : Cut) (held : List Line) (text : List ℕ) → cut.lines.items ≡ [] → cut.part ≡ output.unfinished
    → cut.next ≡ output.next → IsCut cut new text → held ≡ output.held ++ new.lines.items
    → output_with (output.printed + length text) new.part new.next held ≡ with_text output text
unfolding lines_behind part_behind
printed_is output cut new held text none part next is lines =
    let whole : text ++ [] ≡ text = append-nil text in
    let texts : lines_behind cut.part (text ++ []) ≡ lines_behind output.unfinished text =
    ap (lines_behind cut.part) whole ∙ ap (λ (p : List ℕ). lines_behind p text) part in
    let cut_lines : new.lines.items ≡ numbered output.next (lines_behind output.unfinished text) =
    sym (append-nil new.lines.items) ∙ is.lines [] ∙ same_lines _ _ _ _ _ _ none next texts in
    let number : new.next ≡ output.next + length (lines_behind output.unfinished text) =
    (let zero : new.next ≡ new.next + 0 = omega arith in zero) ∙ is.next [] ∙ same_count _ _ _ _ next texts in
    let rest : new.part ≡ part_behind output.unfinished text =
    is.part [] ∙ ap (part_behind cut.part) whole ∙ ap (λ (p : List ℕ). part_behind p text) part in
    let all : held ≡ output.held ++ numbered output.next (lines_behind output.unfinished text) =
    lines ∙ ap (λ (ls : List Line). output.held ++ ls) cut_lines in
    ap (λ (p : List ℕ). output_with (output.printed + length text) p new.next held) rest
    ∙ ap (λ (n : ℕ). output_with (output.printed + length text) (part_behind output.unfinished text) n held) number
    ∙ ap (output_with (output.printed + length text) (part_behind output.unfinished text) (output.next + length (lines_behind output.unfinished text))) all

-- the line that was pushed
pub one_line : (j k : Cut) (items : List Line) (text : List ℕ) → j ≡ k → text ≡ j.part
    → items ≡ j.lines.items ++ record { number = j.next; text = text } ∷ [] → items ≡ k.lines.items ++ record { number = k.next; text = k.part } ∷ []
one_line j k items text same part is =
    let with_line : Cut → List ℕ → List Line = λ c t. c.lines.items ++ record { number = c.next; text = t } ∷ [] in
    is ∙ ap (with_line j) part ∙ ap (λ (c : Cut). with_line c c.part) same

-- what was appended where there was room for it
pub appended : {X E : Type 0} (r : Result X E) (new old more : List Line) → IsOk r → new ≡ (if is_ok r then old ++ more else old) → new ≡ old ++ more
appended (Ok x) new old more there is = is
appended (Err e) new old more there is = absurd (true≢false (sym there))
